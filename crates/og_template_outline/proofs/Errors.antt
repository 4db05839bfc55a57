-- From the errors of the parts to the error of a text.
use Rattle.std.proofs.Common.{◌≡◌, ◌≤◌, ◌^◌, sym, subst, ℕ, List, Bool, true, false, length}
use Rattle.og_typed.specs.Refused.{IsNotRead}
use Rattle.og_typed.specs.declared.source_fault.SourceError.{SourceError}
use Rattle.og_typed.specs.declared.source_fault.SourceError.TheVariants as sources
use Rattle.og_template.specs.declared.tree.Constant.{Constant}
use Rattle.og_template_outline.specs.Errors.{of_template, of_source}
use Rattle.og_template_outline.specs.Meaning.{IsRefused, IsNotMeantBy}
use Rattle.og_template_outline.specs.Words.{IsOneOrOther, IsTaken}
use Rattle.og_template_outline.specs.declared.fault.ExpandError.{ExpandError}
use Rattle.og_template_outline.specs.declared.fault.ExpandError.TheVariants as expanding
use Rattle.og_template_outline.specs.declared.fault.MeaningError.{MeaningError}
use Rattle.og_template_outline.specs.declared.fault.MeaningError.TheVariants as errors
use Rattle.og_template_outline.specs.declared.meaning.Takes.{Takes}

one_of : (words : List (List ℕ)) (error : ExpandError) → IsOneOrOther words (of_template error)
one_of words expanding.Memory = tt
one_of words (expanding.Fault fault) = tt

-- no word is reported of a fault of the template
pub one_or_other : (words : List (List ℕ)) (error : ExpandError) (e : MeaningError) → e ≡ of_template error → IsOneOrOther words e
one_or_other words error e is = subst (IsOneOrOther words) (sym is) (one_of words error)

-- ---- of a template

-- one of the words that name constants is bad
pub refused_of : (takes : Takes) (constants : List Constant) (words naming starts : List (List ℕ)) (e : MeaningError) → IsTaken takes constants words naming starts → IsOneOrOther naming e → IsRefused takes words e
refused_of takes constants words naming starts errors.Memory taken one = tt
refused_of takes constants words naming starts (errors.Source fault) taken one = absurd one
refused_of takes constants words naming starts (errors.Template fault) taken one = tt
refused_of takes constants words naming starts (errors.BadValue word) taken one = (constants, naming, starts, taken, one)

pub refused_text : (takes : Takes) (text : List ℕ) (words : List (List ℕ)) (e : MeaningError) → length text ≤ 2 ^ 20 → IsRefused takes words e → IsNotMeantBy true takes text words e
refused_text takes text words errors.Memory short is = tt
refused_text takes text words (errors.Source fault) short is = absurd is
refused_text takes text words (errors.Template fault) short is = λ _. short
refused_text takes text words (errors.BadValue word) short is = is

refused_one : (takes : Takes) (words : List (List ℕ)) (error : ExpandError) → IsRefused takes words (of_template error)
refused_one takes words expanding.Memory = tt
refused_one takes words (expanding.Fault fault) = tt

pub template_refused : (takes : Takes) (text : List ℕ) (words : List (List ℕ)) (error : ExpandError) (e : MeaningError) → length text ≤ 2 ^ 20 → e ≡ of_template error → IsNotMeantBy true takes text words e
template_refused takes text words error e short is =
    refused_text takes text words e short (subst (IsRefused takes words) (sym is) (refused_one takes words error))

-- ---- of a source

not_read : (takes : Takes) (text : List ℕ) (words : List (List ℕ)) (error : SourceError) → IsNotRead text error → IsNotMeantBy false takes text words (of_source error)
not_read takes text words sources.Memory why = tt
not_read takes text words (sources.Fault fault) why = why

pub source_refused : (takes : Takes) (text : List ℕ) (words : List (List ℕ)) (error : SourceError) (e : MeaningError) → IsNotRead text error → e ≡ of_source error → IsNotMeantBy false takes text words e
source_refused takes text words error e why is =
    subst (IsNotMeantBy false takes text words) (sym is) (not_read takes text words error why)

-- ---- by the first word of the text

pub refused_by : (a b : Bool) (takes : Takes) (text : List ℕ) (words : List (List ℕ)) (e : MeaningError) → a ≡ b → IsNotMeantBy b takes text words e → IsNotMeantBy a takes text words e
refused_by a b takes text words e is h = subst (λ (d : Bool). IsNotMeantBy d takes text words e) (sym is) h
