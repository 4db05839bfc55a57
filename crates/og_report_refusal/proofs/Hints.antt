-- Texts that are added where there is something to say.
use Rattle.std.proofs.Common.{◌≡◌, ◌++◌, ◌∙◌, ap, sym, List, [], ℕ, Bool, true, false, Result, Ok, Err, if◌then◌else◌}
use Rattle.std.specs.Result.{OnOk}
use Rattle.std.proofs.lemmas.List.{append_assoc}

pub where_some : {E : Type 0} (r : Result (Unit {0}) E) (old front all a b : List ℕ) (none : Bool) → none ≡ false → front ≡ old ++ a → OnOk r (all ≡ front ++ b)
    → OnOk r (all ≡ old ++ (if none then [] else (a ++ b)))
where_some (Ok _) old front all a b none is e f = f ∙ ap (λ l. l ++ b) e ∙ append_assoc old a b ∙ ap (λ (c : Bool). old ++ (if c then [] else (a ++ b))) (sym is)
where_some (Err _) old front all a b none is e f = tt

-- four texts, one after another
pub four_texts : (t0 t1 t2 t3 t4 a b c d : List ℕ) → t0 ≡ [] → t1 ≡ t0 ++ a → t2 ≡ t1 ++ b → t3 ≡ t2 ++ c → t4 ≡ t3 ++ d → t4 ≡ a ++ (b ++ (c ++ d))
four_texts t0 t1 t2 t3 t4 a b c d e0 e1 e2 e3 e4 =
    e4
    ∙ ap (λ l. l ++ d) (e3 ∙ ap (λ l. l ++ c) (e2 ∙ ap (λ l. l ++ b) (e1 ∙ ap (λ l. l ++ a) e0)))
    ∙ append_assoc (a ++ b) c d
    ∙ append_assoc a b (c ++ d)
