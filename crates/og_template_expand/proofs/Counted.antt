-- The numbers of a range, one after the other.
use Rattle.std.proofs.Common.{◌≡◌, ℕ, suc, ◌+◌, ◌-◌, ◌<◌, ℤ, pos, List, [], ◌∷◌, ◌++◌, sym, ap, ◌∙◌, append_assoc, arith}
use Rattle.og_template_expand.specs.Ranges.{counted_from}

pub counted_turn : (all new : List ℤ) (low count i : ℕ) (v : ℤ) (total : List ℤ) → i < count → new ≡ all ++ v ∷ [] → v ≡ pos (low + i) → all ++ counted_from (low + i) (count - i) ≡ total → new ++ counted_from (low + (i + 1)) (count - (i + 1)) ≡ total
counted_turn all new low count i v total h made is inv =
    let m = count - (i + 1) in
    let one : count - i ≡ suc m = omega arith in
    let next : low + i + 1 ≡ low + (i + 1) = omega arith in
    ap (λ xs. xs ++ counted_from (low + (i + 1)) m) made
    ∙ append_assoc all (v ∷ []) (counted_from (low + (i + 1)) m)
    ∙ ap (λ w. all ++ w ∷ counted_from (low + (i + 1)) m) is
    ∙ ap (λ k. all ++ pos (low + i) ∷ counted_from k m) (sym next)
    ∙ ap (λ n. all ++ counted_from (low + i) n) (sym one)
    ∙ inv
