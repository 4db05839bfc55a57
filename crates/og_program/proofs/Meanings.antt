-- From what was read of a text to what a command says of it.
use Rattle.std.proofs.Common.{◌≡◌, ap, inl, inr, sym, ℕ, List, [], Bool, true, false, Result, Ok, Err, IfOk, IfErr, subst, map}
use Rattle.std.proofs.lemmas.Result.{IfOk-weaker}
use Rattle.og_report_text.specs.Subject.{Subject}
use Rattle.og_typed.specs.Source.{IsSource}
use Rattle.og_template.specs.Front.{is_template}
use Rattle.og_template_outline.specs.Meaning.{Means, MeansBy, GivesStartsBy}
use Rattle.og_template_outline.specs.declared.meaning.Takes.TheVariants.{Constants}
use Rattle.og_template_outline.specs.declared.meaning.Takes.{Takes}
use Rattle.og_program.specs.World.{World, Text, named}
use Rattle.og_program.specs.Given.{IsGiven, MeansNone, OfMeaning, MeansNoneAsJson, OfMeaningAsJson}
use Rattle.og_program.specs.declared.given.Given.{Given}
use Rattle.og_program.specs.declared.fault.Fault.{Fault}
use Rattle.og_program.specs.declared.outcome.Outcome.{Outcome}

pub on_meaning : (takes : Takes) (world : World) (name : List ℕ) (words : List (List ℕ)) (P : Text → Subject → List (List ℕ) → Outcome → Type 0) (given : Given) (s : Subject) (outcome : Outcome)
    → IsGiven takes world name words given → Means given.text.items s
    → P (named name given.text.items) s (map (λ w. w.now) given.reading.starts.items) outcome → OfMeaning takes world name words P outcome
on_meaning takes world name words P given s outcome is means h =
    (given.text.items, is.0, inl (s, map (λ w. w.now) given.reading.starts.items, means, is.1.1, h))

-- the same of a result
pub on_result : (takes : Takes) (world : World) (name : List ℕ) (words : List (List ℕ)) (P : Text → Subject → List (List ℕ) → Outcome → Type 0) (given : Given) (r : Result Outcome Fault)
    → IsGiven takes world name words given
    → IfOk r (λ outcome. (s : Subject) × Means given.text.items s × P (named name given.text.items) s (map (λ w. w.now) given.reading.starts.items) outcome)
    → IfOk r (OfMeaning takes world name words P)
on_result takes world name words P given r is =
    IfOk-weaker r (λ outcome. (s : Subject) × Means given.text.items s × P (named name given.text.items) s (map (λ w. w.now) given.reading.starts.items) outcome) (OfMeaning takes world name words P)
    (λ outcome h. on_meaning takes world name words P given h.0 outcome is h.1 h.2)

pub no_meaning : (takes : Takes) (world : World) (name : List ℕ) (words : List (List ℕ)) (P : Text → Subject → List (List ℕ) → Outcome → Type 0) (outcome : Outcome)
    → MeansNone takes world name words outcome → OfMeaning takes world name words P outcome
no_meaning takes world name words P outcome none = (none.0, none.1, inr none.2)

-- ---- with refusals as JSON

pub on_result_as_json : (takes : Takes) (world : World) (name : List ℕ) (words : List (List ℕ)) (P : Text → Subject → List (List ℕ) → Outcome → Type 0) (given : Given) (r : Result Outcome Fault)
    → IsGiven takes world name words given
    → IfOk r (λ outcome. (s : Subject) × Means given.text.items s × P (named name given.text.items) s (map (λ w. w.now) given.reading.starts.items) outcome)
    → IfOk r (OfMeaningAsJson takes world name words P)
on_result_as_json takes world name words P given r is =
    IfOk-weaker r (λ outcome. (s : Subject) × Means given.text.items s × P (named name given.text.items) s (map (λ w. w.now) given.reading.starts.items) outcome) (OfMeaningAsJson takes world name words P)
    (λ outcome h. (given.text.items, is.0, inl (h.0, map (λ w. w.now) given.reading.starts.items, h.1, is.1.1, h.2)))

pub no_meaning_as_json : (takes : Takes) (world : World) (name : List ℕ) (words : List (List ℕ)) (P : Text → Subject → List (List ℕ) → Outcome → Type 0) (outcome : Outcome)
    → MeansNoneAsJson takes world name words outcome → OfMeaningAsJson takes world name words P outcome
no_meaning_as_json takes world name words P outcome none = (none.0, none.1, inr none.2)

-- ---- an outline

-- it is that of its own text
own_source_by : (b : Bool) (text : List ℕ) (s : Subject) → MeansBy b text s → IsSource s.own s.outline
own_source_by true text s means = means.1
own_source_by false text s means = subst (λ (own : List ℕ). IsSource own s.outline) (ap (λ (t : Subject). t.own) (sym means.1)) means.0

pub own_source : (text : List ℕ) (s : Subject) → Means text s → IsSource s.own s.outline
own_source text s means = own_source_by (is_template text) text s means

-- an outline has no constant, so no word is to name one
pub names_none : (b : Bool) (words starts : List (List ℕ)) → GivesStartsBy b Constants words starts → b ≡ false → words ≡ []
names_none true words starts gives e = absurd (cc)
names_none false words starts gives e = sym gives.0

-- ---- of a result, by which of both it is

pub ok_of : {A E : Type 0} (P : A → Type 0) (r : Result A E) (a : A) → r ≡ Ok a → IfOk r P → P a
ok_of P r a is h = subst (λ q. IfOk q P) is h

pub err_of : {A E : Type 0} (P : E → Type 0) (r : Result A E) (e : E) → r ≡ Err e → IfErr r P → P e
err_of P r e is h = subst (λ q. IfErr q P) is h
