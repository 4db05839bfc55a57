-- What an action makes false, and which earlier condition it made so too.
use Rattle.std.specs.Prelude.{ℕ, ◌+◌, List, [], ◌∷◌, Bool, false, if◌then◌else◌, Option, Some, None, codes}
use Rattle.std.specs.Fmt.{decimal}
use Rattle.std.specs.Str.{bytes_eq}
use Rattle.og_typed.specs.Syntax.{Formula}
use Rattle.og_report_text.specs.Places.{◌&◌}
use Rattle.og_report_text.specs.Origins.{Rows, place_text_at}
use Rattle.og_typed.specs.Seen.{statement_of}
use Rattle.og_typed.specs.declared.sites.StatementSite.{StatementSite}
use Rattle.og_report_text.specs.Assertions.{assertion_text}
use Rattle.og_report_text.specs.Conjuncts.{conjuncts_text}
use Rattle.og_report_text.specs.Seen.{formulas_of}
use Rattle.og_cert_read.specs.Firsts.{or_this}
use Rattle.og_report_explain.specs.declared.explanation.Fault.{Fault}
use Rattle.og_report_explain.specs.declared.explanation.Fault.TheVariants as fault
use Rattle.og_report_prove.specs.declared.diagnosis.Diagnosis.{Diagnosis}
use Rattle.og_report_prove.specs.declared.diagnosis.Diagnosis.TheVariants as diagnosis

-- the place of an action, and the conjuncts that are false after it; nothing where there is no action or no such conjunct
abbrev pub effect_of : Option StatementSite → Fault → Option (ℕ × List Formula)
effect_of None fault = None
effect_of (Some site) (fault.False note found) = Some ((statement_of site).piece.at, formulas_of found.items)
effect_of (Some site) (fault.TooLarge x v) = None
effect_of (Some site) (fault.Blocked stands) = None

module _ (names : List (List ℕ)) where
  -- one conjunct as it is, several with `and` between two
  abbrev pub together : List Formula → List ℕ
  together [] = []
  together (a ∷ []) = assertion_text names a
  together (a ∷ b ∷ rest) = conjuncts_text names [] (a ∷ b ∷ rest)

  -- in place of the block of a condition whose effect is that of condition k
  abbrev pub alike_line : ℕ → List Formula → List ℕ
  alike_line k found = codes "  as condition " & decimal k & codes ": " & together found & codes "\n"

  module _ (source : List ℕ) (rows : Rows) where
    -- effects are the same where these texts are
    abbrev pub effect_text : ℕ × List Formula → List ℕ
    effect_text effect = place_text_at source rows effect.0 & codes " " & together effect.1

    abbrev pub has_text : List ℕ → Option (ℕ × List Formula) → Bool
    has_text text None = false
    has_text text (Some effect) = bytes_eq text (effect_text effect)

    abbrev pub has_effect : List ℕ → Diagnosis → Bool
    has_effect text diagnosis.Proved = false
    has_effect text (diagnosis.False block) = has_text text (effect_of block.details.value.explanation.action block.details.value.explanation.fault)
    has_effect text diagnosis.Open = false

    -- the number of the first of these that has the effect, numbered on from n
    abbrev pub first_with : List ℕ → ℕ → List Diagnosis → Option ℕ
    first_with text n [] = None
    first_with text n (t ∷ ts) = if has_effect text t then Some n else first_with text (n + 1) ts

    -- ---- the words of the contracts of private functions

    -- the number that a text has after condition n had an effect
    abbrev pub after_effect : Option (ℕ × List Formula) → List ℕ → ℕ → Option ℕ → Option ℕ
    after_effect None text n number = number
    after_effect (Some effect) text n number = or_this number text (effect_text effect) n

    abbrev pub after_diagnosis : Diagnosis → List ℕ → ℕ → Option ℕ → Option ℕ
    after_diagnosis diagnosis.Proved text n number = number
    after_diagnosis (diagnosis.False block) text n number = after_effect (effect_of block.details.value.explanation.action block.details.value.explanation.fault) text n number
    after_diagnosis diagnosis.Open text n number = number
