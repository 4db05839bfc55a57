-- Variables that rise, with coefficients that are not 0, as a form has them.
use Rattle.std.proofs.Common.{◌≡◌, ◌≢◌, ℕ, ◌+◌, ℤ, pos, [], ◌∷◌, true, false, Bool, ◌&&◌, arith}
use Rattle.std.specs.Prelude.{nat_le, not}
use Rattle.std.specs.Ordering.{int_eq}
use Rattle.std.proofs.lemmas.Bool.Decides.{Decides-int_eq}
use Rattle.og_linear.specs.Linear.{Terms}
use Rattle.og_linear.specs.Tidy.{IsTidyFrom}
use Rattle.og_cert_text.specs.Lines.{rises_from}
use Rattle.og_cert_text.proofs.Forms.{le_from, and_parts}

not_zero : (z : ℤ) → not (int_eq z (pos 0)) ≡ true → z ≢ pos 0
not_zero z h same = from (int_eq z (pos 0)) ((Decides-int_eq z (pos 0)).1 same) h
  where
    from : (b : Bool) → b ≡ true → not b ≡ true → ⊥
    from true e n = cc
    from false e n = cc

pub tidy_from : (low : ℕ) (ts : Terms) → rises_from low ts ≡ true → IsTidyFrom low ts
tidy_from low [] h = tt
tidy_from low (t ∷ ts) h =
    let r = and_parts (nat_le low t.0 && not (int_eq t.1 (pos 0))) (rises_from (t.0 + 1) ts) h in
    let n = and_parts (nat_le low t.0) (not (int_eq t.1 (pos 0))) r.0 in
    let up = le_from low t.0 n.0 in
    (omega (arith, up), not_zero t.1 n.1, tidy_from (t.0 + 1) ts r.1)
