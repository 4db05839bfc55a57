-- What the comparisons of trees found, said of what they stand for.
use Rattle.std.proofs.Common.{◌≡◌, ℕ, zero, suc, ◌+◌, ◌<◌, ◌≤◌, ℤ, List, [], ◌∷◌, ◌++◌, map, take, drop, length, get_or, true, Vec, Global, refl, sym, ap, ap₂, ◌∙◌, subst, arith}
use Rattle.std.proofs.lemmas.Bool.{and_from, and_parts}
use Rattle.std.proofs.lemmas.List.{take-append-drop, take_more, take_all, take-map, length-map}
use Rattle.og_typed.specs.declared.assertion.Assert.{Assert}
use Rattle.og_typed.specs.declared.assertion.Assert.TheViews as its
use Rattle.og_typed.specs.declared.statement.Item.{Item}
use Rattle.og_typed.specs.declared.statement.Seq.{Seq, out-Seq}
use Rattle.og_typed.specs.Syntax.{Formula, And, Or, Noted}
use Rattle.og_typed.specs.Truth.{truth, all_true}
use Rattle.og_typed.specs.Lists.{formula_list, sequence_list}
use Rattle.og_typed.specs.Plain.{formula, noted, statement, sequence, item_of}
use Rattle.og_typed.proofs.Lists.{formula_and, formula_or, sequence_out}
use Rattle.og_completion.specs.Completes.{Implies, OneByOne, SequenceCompletes, StatementCompletes}
use Rattle.og_completion.proofs.OneByOne.{each_append, each_map}

-- ---- equal assertions

-- a list begins with another one, of which all were compared
pub begins_end : (all first : List Assert) (i : ℕ) → i ≡ length first → map formula (take i all) ≡ map formula (take i first) → take (length first) (map formula all) ≡ map formula first
begins_end all first i e found =
    take-map formula (length first) all
    ∙ ap (λ n. map formula (take n all)) (sym e)
    ∙ found
    ∙ ap (map formula) (take_all i first (omega (arith, e)))

-- it is as long
same_lists : (v w : Vec Assert Global) → length v.items ≡ length w.items → take (length w.items) (map formula v.items) ≡ map formula w.items → formula_list (map formula v.items) ≡ formula_list (map formula w.items)
same_lists v w n found =
    let long : length (map formula v.items) ≤ length w.items = omega (arith, n, length-map v.items formula) in
    ap formula_list (sym (take_all (length w.items) (map formula v.items) long) ∙ found)

pub same_and : (v w : Vec Assert Global) → length v.items ≡ length w.items → take (length w.items) (map formula v.items) ≡ map formula w.items → formula (its.And v) ≡ formula (its.And w)
same_and v w n found = formula_and v ∙ ap And (same_lists v w n found) ∙ sym (formula_and w)

pub same_or : (v w : Vec Assert Global) → length v.items ≡ length w.items → take (length w.items) (map formula v.items) ≡ map formula w.items → formula (its.Or v) ≡ formula (its.Or w)
same_or v w n found = formula_or v ∙ ap Or (same_lists v w n found) ∙ sym (formula_or w)

-- ---- stronger assertions

first_true : (n : ℕ) (all : List Formula) (s : List ℤ) → all_true (formula_list all) s ≡ true → all_true (formula_list (take n all)) s ≡ true
first_true zero all s h = refl
first_true (suc n) [] s h = refl
first_true (suc n) (a ∷ all) s h =
    let both = and_parts _ _ h in
    and_from _ _ both.0 (first_true n all s both.1)

pub stronger_and : (v w : Vec Assert Global) → take (length w.items) (map formula v.items) ≡ map formula w.items → Implies (formula (its.And v)) (formula (its.And w))
stronger_and v w e s h =
    ap (λ a. truth a s) (formula_and w)
    ∙ ap (λ l. all_true (formula_list l) s) (sym e)
    ∙ first_true (length w.items) (map formula v.items) s (ap (λ a. truth a s) (sym (formula_and v)) ∙ h)

pub stronger_one : (v : Vec Assert Global) (b : Assert) → take 1 (map formula v.items) ≡ formula b ∷ [] → Implies (formula (its.And v)) (formula b)
stronger_one v b e s h =
    (and_parts _ _ (ap (λ l. all_true (formula_list l) s) (sym e) ∙ first_true 1 (map formula v.items) s (ap (λ a. truth a s) (sym (formula_and v)) ∙ h))).0

-- ---- lists that are compared one by one

-- one more
pub each_turn : {X : Type 0} (R : X → X → Type 0) (xs ys : List X) (i : ℕ) (x y : X) → i < length xs → length xs ≡ length ys → x ≡ get_or xs i x → y ≡ get_or ys i y → R x y → OneByOne R (take i xs) (take i ys) → OneByOne R (take (i + 1) xs) (take (i + 1) ys)
each_turn R xs ys i x y h n is_x is_y r before =
    let front : OneByOne R (take i xs ++ x ∷ []) (take i ys ++ y ∷ []) = each_append R (take i xs) (take i ys) (x ∷ []) (y ∷ []) before (r, tt) in
    let all_xs : take (i + 1) xs ≡ take i xs ++ x ∷ [] = take_more xs i x h ∙ ap (λ z. take i xs ++ z ∷ []) (sym is_x) in
    let all_ys : take (i + 1) ys ≡ take i ys ++ y ∷ [] = take_more ys i y (omega (arith, h, n)) ∙ ap (λ z. take i ys ++ z ∷ []) (sym is_y) in
    subst (λ us. OneByOne R us (take (i + 1) ys)) (sym all_xs) (subst (OneByOne R (take i xs ++ x ∷ [])) (sym all_ys) front)

-- one more of a list that begins with another one
pub front_turn : {X : Type 0} (xs ys : List X) (i : ℕ) (x y : X) → i < length ys → length ys ≤ length xs → x ≡ get_or xs i x → y ≡ get_or ys i y → x ≡ y → take i xs ≡ take i ys → take (i + 1) xs ≡ take (i + 1) ys
front_turn xs ys i x y h n is_x is_y same before =
    take_more xs i x (omega (arith, h, n))
    ∙ ap₂ (λ front z. front ++ z ∷ []) before (sym is_x ∙ same ∙ is_y)
    ∙ sym (take_more ys i y h)

-- it begins with all of it
pub front_whole : {X : Type 0} (xs ys : List X) (i : ℕ) → length ys ≤ i → take i xs ≡ take i ys → (more : List X) × (xs ≡ ys ++ more)
front_whole xs ys i h found =
    (drop i xs, sym (take-append-drop i xs) ∙ ap (λ front. front ++ drop i xs) (found ∙ take_all i ys h))

-- all
pub each_whole : {X : Type 0} (R : X → X → Type 0) (xs ys : List X) (i : ℕ) → length xs ≤ i → length xs ≡ length ys → OneByOne R (take i xs) (take i ys) → OneByOne R xs ys
each_whole R xs ys i h n found =
    subst (λ us. OneByOne R us ys) (take_all i xs h)
    (subst (OneByOne R (take i xs)) (take_all i ys (omega (arith, h, n))) found)

-- ---- sequences

module _ (n : ℕ) where
  abbrev pub ItemCompletes : Item → Item → Type 0
  ItemCompletes new old =
      Implies (formula new.before.assertion) (formula old.before.assertion) × StatementCompletes n (statement new.stmt) (statement old.stmt)

  list_completes : (xs ys : List Item) (new old : Noted) → OneByOne ItemCompletes xs ys → Implies new.assertion old.assertion → SequenceCompletes n (sequence_list (map item_of xs) new) (sequence_list (map item_of ys) old)
  list_completes [] [] new old h k = k
  list_completes (x ∷ xs) (y ∷ ys) new old h k = (h.0.0, h.0.1, list_completes xs ys new old h.1 k)
  list_completes _ _ new old h k = absurd h

  pub sequence_completes : (new old : Seq) → OneByOne ItemCompletes (out-Seq new).items.items (out-Seq old).items.items → Implies (formula (out-Seq new).last.assertion) (formula (out-Seq old).last.assertion) → SequenceCompletes n (sequence new) (sequence old)
  sequence_completes new old h k =
      subst (λ q. SequenceCompletes n q (sequence old)) (sym (sequence_out new))
      (subst (SequenceCompletes n (sequence_list (map item_of (out-Seq new).items.items) (noted (out-Seq new).last))) (sym (sequence_out old))
      (list_completes (out-Seq new).items.items (out-Seq old).items.items (noted (out-Seq new).last) (noted (out-Seq old).last) h k))

  -- ---- processes

  abbrev pub ProcessCompletes : Seq → Seq → Type 0
  ProcessCompletes new old = SequenceCompletes n (sequence new) (sequence old)

  pub processes_complete : (new old : List Seq) → OneByOne ProcessCompletes new old → OneByOne (SequenceCompletes n) (map sequence new) (map sequence old)
  processes_complete = each_map ProcessCompletes (SequenceCompletes n) sequence sequence (λ new old h. h)
