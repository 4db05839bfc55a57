-- Documents whose texts stay, and of which what is found stays so.
use Rattle.std.proofs.Common.{◌≡◌, ℕ, zero, suc, List, [], ◌∷◌, map, get_or, ap, ap₂, ◌∙◌, refl, sym, subst}
use Rattle.std.specs.Prelude.{All, IfSome, string_bytes}
use Rattle.std.proofs.Math.ListN.{set}
use Rattle.std.proofs.lemmas.List.Elements.{All-cons, All-head, All-tail}
use Rattle.og_lsp_document.specs.Judged.{IsJudgement}
use Rattle.og_lsp_features.specs.Diagnosed.{IsJudged}
use Rattle.og_lsp_features.specs.declared.document.Document.{Document}
use Rattle.og_lsp_features.specs.Texts.{text_of}

-- one in the place of another of the same name and text
pub texts_set : (ds : List Document) (i : ℕ) (old new : Document) → old ≡ get_or ds i old → text_of new ≡ text_of old → map text_of (set ds i new) ≡ map text_of ds
texts_set [] i old new is same = refl
texts_set (d ∷ ds) zero old new is same = ap₂ ◌∷◌ (same ∙ ap text_of is) refl
texts_set (d ∷ ds) (suc i) old new is same = ap (λ z. text_of d ∷ z) (texts_set ds i old new is same)

-- one in the place of another, of which what is found is so where it was of that one
pub judged_set : (ds : List Document) (i : ℕ) (old new : Document) → old ≡ get_or ds i old → (IsJudged old → IsJudged new) → All IsJudged ds → All IsJudged (set ds i new)
judged_set [] i old new is keeps h = h
judged_set (d ∷ ds) zero old new is keeps h = All-cons IsJudged new ds (keeps (subst IsJudged (sym is) (All-head IsJudged d ds h))) (All-tail IsJudged d ds h)
judged_set (d ∷ ds) (suc i) old new is keeps h = All-cons IsJudged d (set ds i new) (All-head IsJudged d ds h) (judged_set ds i old new is keeps (All-tail IsJudged d ds h))

-- the same text, of which the same is found
pub judged_same : (old new : Document) → text_of new ≡ text_of old → new.judgement ≡ old.judgement → IsJudged old → IsJudged new
judged_same old new text judgement h =
    subst (λ j. IfSome j (IsJudgement (string_bytes new.text))) (sym judgement)
    (subst (λ t. IfSome old.judgement (IsJudgement t)) (sym (ap (λ (p : List ℕ × List ℕ). p.1) text)) h)
