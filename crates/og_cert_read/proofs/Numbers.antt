-- Numbers as they are read and as they are written.
use Rattle.std.proofs.Common.{◌≡◌, ◌≢◌, ℕ, zero, suc, ◌+◌, ◌-◌, ◌*◌, ◌/◌, ◌%◌, ◌^◌, ◌<◌, ◌≤◌, List, [], ◌∷◌, ◌++◌, refl, ap, ap₂, sym, ◌∙◌, arith, Bool, ◌&&◌, true, false, cond, Option, Some, None, option_map, append_assoc, ℤ, pos, negsuc, subst}
use Rattle.std.specs.Prelude.{nat_le, nat_lt, ◌==◌, ⊤}
use Rattle.std.specs.Fmt.{decimal, signed_decimal}
use Rattle.std.proofs.lemmas.Bool.Decides.{nat_tests}
use Rattle.std.proofs.lemmas.Fmt.{decimal_digit, decimal_step_wide, decimal_by_steps_wide}
use Rattle.og_linear.specs.Bounded.{fits_i128}
use Rattle.og_cert_text.specs.Lines.{is_number, is_variable, is_factor}
use Rattle.og_cert_text.proofs.Forms.{le_true, le_from, lt_true, both_true, and_parts}
use Rattle.og_cert_text.specs.Tree.{Ref}
use Rattle.og_cert_read.specs.Words.{and_then, before, past, is_digit, next_of, read_from, number_of, positive, index_of, variable_of, factor_of, negative, whole_of, source_of, term_of}

-- ---- answers

pub and_some : {A B : Type 0} (o : Option A) (f : A → Option B) (y : B) → and_then o f ≡ Some y → (x : A) × (o ≡ Some x) × (f x ≡ Some y)
and_some None f y h = cc
and_some (Some x) f y h = (x, refl, h)

pub map_some : {A B : Type 0} (o : Option A) (f : A → B) (y : B) → option_map f o ≡ Some y → (x : A) × (o ≡ Some x) × (f x ≡ y)
map_some None f y h = cc
map_some (Some x) f y h = (x, refl, cc)

pub some_same : {A : Type 0} (x y : A) → ◌≡◌ {A = Option A} (Some x) (Some y) → x ≡ y
some_same x y h = cc

pub cond_some : {A : Type 0} (b : Bool) (o : Option A) (y : A) → cond b o None ≡ Some y → (b ≡ true) × (o ≡ Some y)
cond_some true o y h = (refl, h)
cond_some false o y h = cc

pub cond_none : {A : Type 0} (b : Bool) (o : Option A) (y : A) → cond b None o ≡ Some y → (b ≡ false) × (o ≡ Some y)
cond_none true o y h = cc
cond_none false o y h = (refl, h)

pub apart : (a b : ℕ) → a ≢ b → (a == b) ≡ false
apart a b h = grind (arith, nat_tests)

pub differ : (a b : ℕ) → (a == b) ≡ false → a ≢ b
differ a b h = grind (arith, nat_tests)

pub equal : (a b : ℕ) → (a == b) ≡ true → a ≡ b
equal a b h = grind (arith, nat_tests)

pub none_past : (xs : List ℕ) → xs ++ [] ≡ xs
none_past [] = refl
none_past (y ∷ ys) = ap (λ zs. y ∷ zs) (none_past ys)

-- ---- digits that are read are those of the number

next_sound : (most v b w : ℕ) → next_of most v b ≡ Some w → (48 ≤ b) × (b ≤ 57) × (w ≡ v * 10 + (b - 48)) × (w ≤ most)
next_sound most v b w h =
    let p = cond_some (is_digit b && nat_le (v * 10 + (b - 48)) most) (Some (v * 10 + (b - 48))) w h in
    let q = and_parts (is_digit b) (nat_le (v * 10 + (b - 48)) most) p.0 in
    let d = and_parts (nat_le 48 b) (nat_le b 57) q.0 in
    let same : v * 10 + (b - 48) ≡ w = some_same (v * 10 + (b - 48)) w p.1 in
    (le_from 48 b d.0, le_from b 57 d.1, sym same, subst (λ x. x ≤ most) same (le_from (v * 10 + (b - 48)) most q.1))

next_complete : (most v b w : ℕ) → 48 ≤ b → b ≤ 57 → w ≡ v * 10 + (b - 48) → w ≤ most → next_of most v b ≡ Some w
next_complete most v b w lo hi e le =
    let within : nat_le (v * 10 + (b - 48)) most ≡ true = le_true (v * 10 + (b - 48)) most (subst (λ x. x ≤ most) e le) in
    let all = both_true _ _ (both_true _ _ (le_true 48 b lo) (le_true b 57 hi)) within in
    ap (λ t. cond t (Some (v * 10 + (b - 48))) None) all ∙ ap Some (sym e)

grow : (v b n : ℕ) → 0 < v → 48 ≤ b → b ≤ 57 → n ≡ v * 10 + (b - 48) → n < 10 ^ 64 → decimal n ≡ decimal v ++ b ∷ []
grow v b n some lo hi e small =
    let q : n / 10 ≡ v = omega (arith, e) in
    let r : 48 + n % 10 ≡ b = omega (arith, e) in
    let large : 10 ≤ n = omega (arith, e) in
    decimal_step_wide n large small ∙ ap₂ (λ x y. decimal x ++ y ∷ []) q r

from_sound : (most : ℕ) → most < 10 ^ 64 → (bs : List ℕ) (v n : ℕ) → 0 < v → v ≤ most → read_from most v bs ≡ Some n → (decimal n ≡ decimal v ++ bs) × (n ≤ most)
from_sound most small [] v n some le h = let e : v ≡ n = some_same v n h in (ap decimal (sym e) ∙ sym (none_past (decimal v)), subst (λ x. x ≤ most) e le)
from_sound most small (b ∷ bs) v n some le h =
    let p = and_some (next_of most v b) (λ w. read_from most w bs) n h in
    let q = next_sound most v b p.0 p.1 in
    let up : 0 < p.0 = omega (arith, q.2) in
    let later = from_sound most small bs p.0 n up q.3 p.2 in
    let fits : p.0 < 10 ^ 64 = omega (arith, q.3, small) in
    (later.0 ∙ ap (λ t. t ++ bs) (grow v b p.0 some q.0 q.1 q.2 fits) ∙ append_assoc (decimal v) (b ∷ []) bs, later.1)

one_digit : (b v : ℕ) → 48 ≤ b → b ≤ 57 → v ≡ 0 * 10 + (b - 48) → decimal v ≡ b ∷ []
one_digit b v lo hi e =
    let lt : v < 10 = omega (arith, e) in
    let back : 48 + v ≡ b = omega (arith, e) in
    decimal_digit v lt ∙ ap (λ x. x ∷ []) back

pub number_sound : (most : ℕ) → most < 10 ^ 64 → (word : List ℕ) (n : ℕ) → number_of most word ≡ Some n → (word ≡ decimal n) × (n ≤ most)
number_sound most small [] n h = cc
number_sound most small (b ∷ []) n h =
    let p = and_some (next_of most 0 b) (λ w. read_from most w []) n h in
    let q = next_sound most 0 b p.0 p.1 in
    let e : p.0 ≡ n = some_same p.0 n p.2 in
    (sym (one_digit b p.0 q.0 q.1 q.2) ∙ ap decimal e, subst (λ x. x ≤ most) e q.3)
number_sound most small (b ∷ c ∷ bs) n h =
    let k = cond_none (b == 48) (read_from most 0 (b ∷ c ∷ bs)) n h in
    let p = and_some (next_of most 0 b) (λ w. read_from most w (c ∷ bs)) n k.1 in
    let q = next_sound most 0 b p.0 p.1 in
    let no = differ b 48 k.0 in
    let some : 0 < p.0 = omega (arith, q.2) in
    let later = from_sound most small (c ∷ bs) p.0 n some q.3 p.2 in
    (sym (later.0 ∙ ap (λ t. t ++ c ∷ bs) (one_digit b p.0 q.0 q.1 q.2)), later.1)

-- ---- the digits of a number are read as it

read_more : (bs : List ℕ) (m w v n d : ℕ) → read_from m w bs ≡ Some v → next_of m v d ≡ Some n → read_from m w (bs ++ d ∷ []) ≡ Some n
read_more [] m w v n d h e =
    let same : w ≡ v = some_same w v h in
    ap (λ x. and_then (next_of m x d) (λ y. Some y)) same ∙ ap (λ o. and_then o (λ y. Some y)) e
read_more (b ∷ bs) m w v n d h e =
    let p = and_some (next_of m w b) (λ x. read_from m x bs) v h in
    ap (λ o. and_then o (λ x. read_from m x (bs ++ d ∷ []))) p.1 ∙ read_more bs m p.0 v n d p.2 e

number_more : (ds : List ℕ) (m v n d : ℕ) → 0 < v → number_of m ds ≡ Some v → next_of m v d ≡ Some n → number_of m (ds ++ d ∷ []) ≡ Some n
number_more [] m v n d some h e = cc
number_more (b ∷ []) m v n d some h e =
    let p = and_some (next_of m 0 b) (λ w. read_from m w []) v h in
    let q = next_sound m 0 b p.0 p.1 in
    let same : p.0 ≡ v = some_same p.0 v p.2 in
    let no : b ≢ 48 = λ k. omega (arith, k, q.2, same, some) in
    ap (λ t. cond t None (read_from m 0 (b ∷ d ∷ []))) (apart b 48 no) ∙ read_more (b ∷ []) m 0 v n d h e
number_more (b ∷ c ∷ bs) m v n d some h e =
    let k = cond_none (b == 48) (read_from m 0 (b ∷ c ∷ bs)) v h in
    ap (λ t. cond t None (read_from m 0 (b ∷ c ∷ (bs ++ d ∷ [])))) k.0 ∙ read_more (b ∷ c ∷ bs) m 0 v n d k.1 e

abbrev Complete : ℕ → List ℕ → Type 0
Complete n ds = (m : ℕ) → n ≤ m → number_of m ds ≡ Some n

complete_one : (n : ℕ) → n < 10 → Complete n ((48 + n) ∷ [])
complete_one n lt m le =
    let at : next_of m 0 (48 + n) ≡ Some n = next_complete m 0 (48 + n) n (omega arith) (omega arith) (omega arith) le in
    ap (λ o. and_then o (λ w. Some w)) at

complete_more : (n : ℕ) (ds : List ℕ) → 10 ≤ n → Complete (n / 10) ds → Complete n (ds ++ ((48 + n % 10) ∷ []))
complete_more n ds large h m le =
    let some : 0 < n / 10 = omega arith in
    let less : n / 10 ≤ m = omega arith in
    let at : next_of m (n / 10) (48 + n % 10) ≡ Some n = next_complete m (n / 10) (48 + n % 10) n (omega arith) (omega arith) (omega arith) le in
    number_more ds m (n / 10) n (48 + n % 10) some (h m less) at

pub number_complete : (m n : ℕ) → n ≤ m → n < 10 ^ 64 → number_of m (decimal n) ≡ Some n
number_complete m n le small = decimal_by_steps_wide Complete complete_one complete_more n small m le

-- ---- the bytes of a number

-- no byte of it is b
abbrev pub Lacks : ℕ → List ℕ → Type 0
Lacks b [] = ⊤
Lacks b (c ∷ cs) = ((c == b) ≡ false) × Lacks b cs

pub lacks_both : (b : ℕ) (xs ys : List ℕ) → Lacks b xs → Lacks b ys → Lacks b (xs ++ ys)
lacks_both b [] ys p q = q
lacks_both b (x ∷ xs) ys p q = (p.0, lacks_both b xs ys p.1 q)

pub lacks_decimal : (b n : ℕ) → b < 48 → n < 10 ^ 64 → Lacks b (decimal n)
lacks_decimal b n lt small = decimal_by_steps_wide (λ k ds. Lacks b ds)
    (λ k l. (apart (48 + k) b (λ e. omega (arith, e, lt)), tt))
    (λ k ds l h. lacks_both b ds ((48 + k % 10) ∷ []) h (apart (48 + k % 10) b (λ e. omega (arith, e, lt)), tt)) n small

abbrev pub BeginsWithDigit : List ℕ → Type 0
BeginsWithDigit ds = (b : ℕ) × (bs : List ℕ) × (ds ≡ b ∷ bs) × (48 ≤ b) × (b ≤ 57)

begins_more : (ds xs : List ℕ) → BeginsWithDigit ds → BeginsWithDigit (ds ++ xs)
begins_more ds xs h = (h.0, h.1 ++ xs, ap (λ t. t ++ xs) h.2, h.3, h.4)

pub decimal_begins : (n : ℕ) → n < 10 ^ 64 → BeginsWithDigit (decimal n)
decimal_begins n small = decimal_by_steps_wide (λ k ds. BeginsWithDigit ds)
    (λ k l. (48 + k, [], refl, omega arith, omega arith))
    (λ k ds l h. begins_more ds ((48 + k % 10) ∷ []) h) n small

-- ---- numbers of conditions and facts, variables and factors

pub index_sound : (word : List ℕ) (n : ℕ) → index_of word ≡ Some n → (word ≡ decimal n) × (is_number n ≡ true)
index_sound word n h =
    let p = and_some (number_of 999999999 word) positive n h in
    let q = number_sound 999999999 (omega arith) word p.0 p.1 in
    from p.0 p.2 q
  where
    from : (m : ℕ) → positive m ≡ Some n → (word ≡ decimal m) × (m ≤ 999999999) → (word ≡ decimal n) × (is_number n ≡ true)
    from zero e q = cc
    from (suc k) e q =
        let same : suc k ≡ n = some_same (suc k) n e in
        (q.0 ∙ ap decimal same, both_true _ _ (le_true 1 n (omega (arith, same))) (le_true n 999999999 (omega (arith, same, q.1))))

pub number_parts : (n : ℕ) → is_number n ≡ true → (1 ≤ n) × (n ≤ 999999999)
number_parts n h = let p = and_parts (nat_le 1 n) (nat_le n 999999999) h in (le_from 1 n p.0, le_from n 999999999 p.1)

pub index_complete : (n : ℕ) → is_number n ≡ true → index_of (decimal n) ≡ Some n
index_complete n h =
    let p = number_parts n h in
    ap (λ o. and_then o positive) (number_complete 999999999 n p.1 (omega (arith, p.1))) ∙ from n p.0
  where
    from : (m : ℕ) → 1 ≤ m → positive m ≡ Some m
    from zero le = absurd (omega arith)
    from (suc k) le = refl

pub variable_sound : (word : List ℕ) (n : ℕ) → variable_of word ≡ Some n → (word ≡ decimal n) × (is_variable n ≡ true)
variable_sound word n h = let q = number_sound 999999999 (omega arith) word n h in (q.0, le_true n 999999999 q.1)

pub variable_complete : (n : ℕ) → is_variable n ≡ true → variable_of (decimal n) ≡ Some n
variable_complete n h = let le = le_from n 999999999 h in number_complete 999999999 n le (omega (arith, le))

pub factor_sound : (word : List ℕ) (n : ℕ) → factor_of word ≡ Some n → (word ≡ decimal n) × (is_factor n ≡ true)
factor_sound word n h = let q = number_sound 9223372036854775807 (omega arith) word n h in (q.0, le_true n 9223372036854775807 q.1)

pub factor_complete : (n : ℕ) → is_factor n ≡ true → factor_of (decimal n) ≡ Some n
factor_complete n h = let le = le_from n 9223372036854775807 h in number_complete 9223372036854775807 n le (omega (arith, le))

pub count_sound : (word : List ℕ) (n : ℕ) → number_of 10000 word ≡ Some n → (word ≡ decimal n) × (nat_le n 10000 ≡ true)
count_sound word n h = let q = number_sound 10000 (omega arith) word n h in (q.0, le_true n 10000 q.1)

pub count_complete : (n : ℕ) → nat_le n 10000 ≡ true → number_of 10000 (decimal n) ≡ Some n
count_complete n h = let le = le_from n 10000 h in number_complete 10000 n le (omega (arith, le))

-- ---- whole numbers with their sign

pub lt_from : (a b : ℕ) → nat_lt a b ≡ true → a < b
lt_from a b h = grind (arith, nat_tests)

negative_is : (k : ℕ) → negative (suc k) ≡ Some (negsuc k)
negative_is k =
    let no : suc k ≢ 0 = λ e. omega (arith, e) in
    let same : suc k - 1 ≡ k = omega arith in
    ap (λ t. cond t None (Some (negsuc (suc k - 1)))) (apart (suc k) 0 no) ∙ ap (λ x. Some (negsuc x)) same

pub whole_sound : (word : List ℕ) (z : ℤ) → whole_of word ≡ Some z → (word ≡ signed_decimal z) × (fits_i128 z ≡ true)
whole_sound [] z h = cc
whole_sound (b ∷ bs) z h = from (b == 45) refl h
  where
    below : (n : ℕ) → negative n ≡ Some z → (bs ≡ decimal n) × (n ≤ 170141183460469231731687303715884105728) → b ≡ 45 → (b ∷ bs ≡ signed_decimal z) × (fits_i128 z ≡ true)
    below zero e q at = cc
    below (suc k) e q at =
        let same : negsuc k ≡ z = some_same (negsuc k) z (sym (negative_is k) ∙ e) in
        subst (λ y. (b ∷ bs ≡ signed_decimal y) × (fits_i128 y ≡ true)) same
        (ap₂ (λ x xs. x ∷ xs) at q.0, lt_true k (2 ^ 127) (omega (arith, q.1)))

    from : (t : Bool) → (b == 45) ≡ t → cond t (and_then (number_of 170141183460469231731687303715884105728 bs) negative) (option_map pos (number_of 170141183460469231731687303715884105727 (b ∷ bs))) ≡ Some z
        → (b ∷ bs ≡ signed_decimal z) × (fits_i128 z ≡ true)
    from true t e =
        let p = and_some (number_of 170141183460469231731687303715884105728 bs) negative z e in
        below p.0 p.2 (number_sound 170141183460469231731687303715884105728 (omega arith) bs p.0 p.1) (equal b 45 t)
    from false t e =
        let p = map_some (number_of 170141183460469231731687303715884105727 (b ∷ bs)) pos z e in
        let q = number_sound 170141183460469231731687303715884105727 (omega arith) (b ∷ bs) p.0 p.1 in
        subst (λ y. (b ∷ bs ≡ signed_decimal y) × (fits_i128 y ≡ true)) p.2 (q.0, lt_true p.0 (2 ^ 127) (omega (arith, q.1)))

pub whole_complete : (z : ℤ) → fits_i128 z ≡ true → whole_of (signed_decimal z) ≡ Some z
whole_complete (pos n) h =
    let lt = lt_from n (2 ^ 127) h in
    let at = number_complete 170141183460469231731687303715884105727 n (omega (arith, lt)) (omega (arith, lt)) in
    from (decimal n) at (decimal_begins n (omega (arith, lt)))
  where
    from : (ds : List ℕ) → number_of 170141183460469231731687303715884105727 ds ≡ Some n → BeginsWithDigit ds → whole_of ds ≡ Some (pos n)
    from [] at d = cc
    from (b ∷ bs) at d =
        let first : b ≡ d.0 = head b d.0 bs d.1 d.2 in
        let no : b ≢ 45 = λ e. omega (arith, e, first, d.3) in
        ap (λ t. cond t (and_then (number_of 170141183460469231731687303715884105728 bs) negative) (option_map pos (number_of 170141183460469231731687303715884105727 (b ∷ bs)))) (apart b 45 no)
        ∙ ap (option_map pos) at
      where
        head : (x y : ℕ) (xs ys : List ℕ) → x ∷ xs ≡ y ∷ ys → x ≡ y
        head x y xs ys e = cc
whole_complete (negsuc n) h =
    let lt = lt_from n (2 ^ 127) h in
    ap (λ o. and_then o negative) (number_complete 170141183460469231731687303715884105728 (suc n) (omega (arith, lt)) (omega (arith, lt))) ∙ negative_is n

-- ---- a multiplier of one digit

pub short_term_is : (d : ℕ) (rest : List ℕ) → 49 ≤ d → d ≤ 57 → term_of (d ∷ 42 ∷ rest) ≡ option_map (λ (r : Ref). (d - 48, r)) (source_of rest)
short_term_is d rest lo hi =
    let no : (d == 42) ≡ false = apart d 42 (λ e. omega (arith, e)) in
    let front : before 42 (d ∷ 42 ∷ rest) ≡ d ∷ [] = ap (λ t. cond t [] (d ∷ [])) no in
    let later : past 42 (d ∷ 42 ∷ rest) ≡ Some rest = ap (λ t. cond t (Some (42 ∷ rest)) (Some rest)) no in
    let digit : next_of 9223372036854775807 0 d ≡ Some (d - 48) = next_complete 9223372036854775807 0 d (d - 48) (omega arith) hi (omega arith) (omega arith) in
    let times : factor_of (d ∷ []) ≡ Some (d - 48) = ap (λ o. and_then o (λ (w : ℕ). Some w)) digit in
    ap₂ (λ b p. and_then (factor_of b) (λ (m : ℕ). and_then p (λ (r : List ℕ). option_map (λ (x : Ref). (m, x)) (source_of r)))) front later
    ∙ ap (λ o. and_then o (λ (m : ℕ). option_map (λ (x : Ref). (m, x)) (source_of rest))) times
