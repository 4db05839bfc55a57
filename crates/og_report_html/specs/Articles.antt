-- A block for each condition that is not proved.
use Rattle.std.specs.Prelude.{ℕ, ◌-◌, ◌==◌, slice_get, List, [], ◌∷◌, Bool, if◌then◌else◌, Option, Some, None, map, unwrap_or, codes}
use Rattle.std.specs.Fmt.{decimal}
use Rattle.og_text.specs.Place.{line_at}
use Rattle.og_cond.specs.Condition.{Condition}
use Rattle.og_typed.specs.Syntax.{Program}
use Rattle.og_report_text.specs.Places.{◌&◌}
use Rattle.og_report_text.specs.Origins.{Rows}
use Rattle.og_report_prove.specs.Effects.{after_diagnosis}
use Rattle.og_report_prove.specs.Report.{diagnosis_text}
use Rattle.og_report_prove.specs.declared.diagnosis.Diagnosis.{Diagnosis}
use Rattle.og_report_prove.specs.declared.diagnosis.Diagnosis.TheVariants as diagnosis
use Rattle.og_report_runs.specs.declared.witness.Run.{Run}
use Rattle.og_report_findings.specs.Entries.{Entry}
use Rattle.og_report_findings.specs.Hints.{hints_text}
use Rattle.og_report_html.specs.Escapes.{escaped_text}
use Rattle.og_report_html.specs.Findings.{finding_of, word}
use Rattle.og_report_html.specs.Marks.{marked_place, shown_at}
use Rattle.og_report_html.specs.declared.articles.Frame.{Frame}
use Rattle.og_report_html.specs.declared.finding.Finding.{Finding}
use Rattle.og_report_html.specs.declared.target.Target.{Target}

-- ---- links to lines of the source

abbrev pub line_link : ℕ → List ℕ
line_link line = codes "<a href=#L" & decimal line & codes ">line " & decimal line & codes "</a>"

-- where the step is that a condition speaks of
abbrev pub step_place : Condition → ℕ
step_place c = unwrap_or c.action_at c.at

abbrev pub step_link : ℕ → ℕ → List ℕ
step_link line step = if line == step then [] else codes ", step at " & line_link step

-- the line of a part of the outline
abbrev pub shown_line : List ℕ → Rows → ℕ → ℕ
shown_line source rows at = line_at source (shown_at rows at)

-- the place of a condition, and that of its step
abbrev pub links_text : List ℕ → Rows → Condition → Diagnosis → Target → List ℕ
links_text source rows c t g =
    line_link (shown_line source rows (marked_place c t g))
    & step_link (shown_line source rows (marked_place c t g)) (shown_line source rows (step_place c))

-- ---- a block

-- with the number and the finding
abbrev pub article_start : ℕ → Finding → List ℕ
article_start n f =
    codes "<article id=c" & decimal n & codes " class=" & word f & codes "><h3>Condition " & decimal n & codes ": " & word f & codes "</h3>\n<pre>"

-- with what stands beneath it
abbrev pub article_end : List ℕ → List ℕ → List ℕ
article_end beneath links = codes "</pre>\n" & beneath & codes "<p>" & links & codes "</p></article>\n"

abbrev pub article : Bool → ℕ → Finding → List ℕ → List ℕ → List ℕ → List ℕ
article utf8 n f printed beneath links = article_start n f & escaped_text utf8 printed & article_end beneath links

-- what stands beneath the block of the condition at an index, if there is something
abbrev pub beneath_at : List (List ℕ) → ℕ → List ℕ
beneath_at beneath i = unwrap_or (slice_get beneath i) []

-- the bounds that would help where a condition is false, as `prove` prints them
abbrev pub bounds_text : Program → Diagnosis → Run → List ℕ
bounds_text o diagnosis.Proved r = []
bounds_text o (diagnosis.False block) r = hints_text o block r
bounds_text o diagnosis.Open r = []

-- where a condition belongs; one of which nothing is said at its own place
abbrev pub target_at : List Target → Entry → Target
target_at gs e = unwrap_or (slice_get gs (e.number - 1)) (record { goal = e.condition.at; interference = None })

module _ (o : Program) (names : List (List ℕ)) (source : List ℕ) (rows : Rows) where
  -- the text that `prove` prints of a condition, where it is known which conditions had an effect before
  abbrev pub printed : (List ℕ → Option ℕ) → Entry → List ℕ
  printed known e =
      diagnosis_text names source rows known e.number e.condition (Some 0) e.diagnosis & bounds_text o e.diagnosis e.run

  module _ (utf8 : Bool) (beneath : List (List ℕ)) where
    -- nothing of one that is proved
    abbrev pub article_of : (List ℕ → Option ℕ) → Entry → Target → Option Finding → List ℕ
    article_of known e g None = []
    article_of known e g (Some f) =
        article utf8 e.number f (printed known e) (beneath_at beneath (e.number - 1)) (links_text source rows e.condition e.diagnosis g)

    abbrev pub article_text : (List ℕ → Option ℕ) → Entry → Target → List ℕ
    article_text known e g = article_of known e g (finding_of e.diagnosis)

    -- one after another: what an action makes false is told at the first that says so
    abbrev pub articles_text : (List ℕ → Option ℕ) → List Entry → List Target → List ℕ
    articles_text known [] gs = []
    articles_text known (e ∷ es) gs =
        article_text known e (target_at gs e)
        & articles_text (λ text. after_diagnosis names source rows e.diagnosis text e.number (known text)) es gs

-- by what it is written with
abbrev pub article_by : Frame → (List ℕ → Option ℕ) → Entry → Target → Option Finding → List ℕ
article_by f = article_of f.hints.now f.page.names.now f.page.origins.now.source.now f.page.origins.now.rows f.utf8 (map (λ t. t.items) f.beneath.now)
