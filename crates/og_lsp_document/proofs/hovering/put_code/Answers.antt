use Rattle.std.proofs.Common.{◌≡◌, ◌∙◌, ◌++◌, ◌∷◌, [], ℕ, List, ap, append_assoc}
use Rattle.std.specs.Prelude.{codes}
use Rattle.og_lsp_document.proofs.hovering.put_code.Goals as goal

three : (t h code n t1 t2 t3 : List ℕ) → t1 ≡ t ++ h → t2 ≡ t1 ++ code → t3 ≡ t2 ++ n → t3 ≡ t ++ (h ++ (code ++ n))
three t h code n t1 t2 t3 a b d =
    d ∙ ap (λ (x : List ℕ). x ++ n) (b ∙ ap (λ (x : List ℕ). x ++ code) a) ∙ append_assoc (t ++ h) code n ∙ append_assoc t h (code ++ n)

pub returns : goal.returns
returns c =
    three c.args.text.now.items (codes "\n\n```\ncondition ") c.args.code.now (10 ∷ []) _ _ _ c.in_ok-extend_from_slice.ensures.items c.in_ok-extend_from_slice-2.ensures.items c.in_ok-push.ensures.items
