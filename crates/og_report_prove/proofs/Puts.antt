-- No float stands among members that are put one after another.
use Rattle.std.proofs.Common.{◌≡◌, ℕ, List, Bool, true, false, ◌||◌, refl, true≢false, nat_cmp, Ordering, Less, Equal, Greater}
use Rattle.std.specs.Cmp.Lexicographic.{slice_cmp}
use Rattle.std.specs.Ordering.{match_ordering}
use Rattle.serde_json.specs.Data.{Data, Members, no_members, member, put}
use Rattle.serde_json.specs.Written.{has_float, members_have_float}

pub neither : (a b : Bool) → a ≡ false → b ≡ false → (a || b) ≡ false
neither a b p q = rw p q

first_false : (a b : Bool) → (a || b) ≡ false → a ≡ false
first_false false b h = refl
first_false true b h = h

second_false : (a b : Bool) → (a || b) ≡ false → b ≡ false
second_false false b h = h
second_false true b h = absurd (true≢false h)

one_of : (o : Ordering) (a b c : Members) → members_have_float a ≡ false → members_have_float b ≡ false → members_have_float c ≡ false
    → members_have_float (match_ordering o a b c) ≡ false
one_of Less a b c p q r = p
one_of Equal a b c p q r = q
one_of Greater a b c p q r = r

pub no_float_put : (k : List ℕ) (d : Data) (ms : Members) → has_float d ≡ false → members_have_float ms ≡ false → members_have_float (put k d ms) ≡ false
no_float_put k d no_members p q = neither (has_float d) false p refl
no_float_put k d (member l e ms) p q =
    let first = first_false (has_float e) (members_have_float ms) q in
    let later = second_false (has_float e) (members_have_float ms) q in
    one_of (slice_cmp nat_cmp k l) (member k d (member l e ms)) (member l d ms) (member l e (put k d ms))
    (neither (has_float d) _ p q)
    (neither (has_float d) (members_have_float ms) p later)
    (neither (has_float e) (members_have_float (put k d ms)) first (no_float_put k d ms p later))
