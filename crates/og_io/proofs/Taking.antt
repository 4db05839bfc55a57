-- What was read of an input is its front.
use Rattle.std.proofs.Common.{◌≡◌, ◌≤◌, ℕ, ◌+◌, List, [], ◌++◌, length, take, Option, None, Some, IfSome, sym, ap, ◌∙◌, arith, append-nil, length-append, subst}
use Rattle.std.proofs.KnownBytes.{Consumes-nil, Consumes-trans}
use Rattle.std.specs.Io.KnownBytes.{Consumes, IsAtEnd}
use Rattle.std.proofs.lemmas.List.{take_all}
use Rattle.std.proofs.Math.Seq.{take-append_seam}
use Rattle.og_io.specs.Reading.{Takes}

-- one read more
pub takes_more : (a b c : Option (List ℕ)) (text new : List ℕ) (most room : ℕ) → Consumes a b text → length text + room ≤ most →
    Takes b c text new room → Consumes a c new × (length new ≤ most)
takes_more a b c text new most room before fits (bytes, taken, is_new, within) = (
  subst (Consumes a c) (sym is_new) (Consumes-trans a b c text bytes before taken),
  let longer = ap length is_new in omega (arith, length-append text bytes),
)

-- at the end of the input
pub taken_end : (a b : Option (List ℕ)) (text : List ℕ) (most : ℕ) → Consumes a b text → IsAtEnd b → length text ≤ most →
    IfSome a (λ input. text ≡ take most input)
taken_end None b text most c e h = tt
taken_end (Some xs) None text most c e h = absurd c
taken_end (Some xs) (Some ys) text most c e h =
    let whole : xs ≡ text = c ∙ ap (λ l. text ++ l) e ∙ append-nil text in
    sym (ap (take most) whole ∙ take_all most text h)

-- at the limit
pub taken_full : (a b : Option (List ℕ)) (text : List ℕ) (most : ℕ) → Consumes a b text → length text ≡ most →
    IfSome a (λ input. text ≡ take most input)
taken_full None b text most c h = tt
taken_full (Some xs) None text most c h = absurd c
taken_full (Some xs) (Some ys) text most c h =
    sym (ap (take most) c ∙ ap (λ n. take n (text ++ ys)) (sym h) ∙ take-append_seam text ys)

-- before the first read
pub consumes_none : (a : Option (List ℕ)) (text : List ℕ) → text ≡ [] → Consumes a a text
consumes_none a text e = subst (Consumes a a) (sym e) (Consumes-nil a)
