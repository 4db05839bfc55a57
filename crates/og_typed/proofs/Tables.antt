-- Tables of points that grow.
use Rattle.std.proofs.Common.{◌≡◌, ℕ, zero, suc, ◌+◌, ◌<◌, ◌≤◌, List, [], ◌∷◌, ◌++◌, map, set, length, Bool, true, false, if◌then◌else◌, Some, slice_get, unwrap_or, refl, sym, ap, ap₂, ◌∙◌, subst, append-nil, append_assoc, length-append, arith, ◌⊎◌, inl, inr}
use Rattle.std.specs.List.{AllByRecursion}
use Rattle.std.proofs.Math.Seq.{set-append_seam}
use Rattle.std.proofs.lemmas.Bool.{cases_lt}
use Rattle.std.proofs.lemmas.Option.{slice_get_within, same_Some}
use Rattle.og_typed.specs.Syntax.{Formula, Statement, If, While, Sequence, Last, Then, Otherwise, Rest, items, else_items}
use Rattle.og_typed.specs.Plain.{item_pair}
use Rattle.og_typed.specs.declared.points.Point.{Point}
use Rattle.og_typed.specs.Points.{rest_at, past, passed, statement_rests, sequence_rests, else_rests, parts_rests}
use Rattle.og_typed.specs.Table.{rests_from, rests_of, IsLinked, AreLinked, IsGrown}

-- the rest at a point more
abbrev pub rest_of_point : List Rest → Point → Rest
rest_of_point rests p = item_pair p.item.now ∷ rest_at rests p.after

-- there may be more points, and those that there were are the same
abbrev pub IsAdded : List Rest → List Rest → Type 0
IsAdded old new = (more : List Rest) × (new ≡ old ++ more)

-- ---- lists

pub get_left : {X : Type 0} (xs ys : List X) (i : ℕ) → i < length xs → slice_get (xs ++ ys) i ≡ slice_get xs i
get_left [] ys i h = absurd (omega (arith, h))
get_left (x ∷ xs) ys zero h = refl
get_left (x ∷ xs) ys (suc i) h = get_left xs ys i (omega (arith, h))

pub get_last : {X : Type 0} (xs : List X) (x : X) → slice_get (xs ++ x ∷ []) (length xs) ≡ Some x
get_last [] x = refl
get_last (y ∷ xs) x = get_last xs x

pub rest_left : (rests more : List Rest) (k : ℕ) → k < length rests → rest_at (rests ++ more) k ≡ rest_at rests k
rest_left rests more k h = ap (λ r. unwrap_or r []) (get_left rests more k h)

pub rest_last : (rests : List Rest) (r : Rest) → rest_at (rests ++ r ∷ []) (length rests) ≡ r
rest_last rests r = ap (λ o. unwrap_or o []) (get_last rests r)

-- ---- rests of tables

pub from_push : (rests : List Rest) (ps : List Point) (p : Point) → rests_from rests (ps ++ p ∷ []) ≡ rests_from rests ps ++ rest_of_point (rests_from rests ps) p ∷ []
from_push rests [] p = refl
from_push rests (q ∷ ps) p = from_push (rests ++ rest_of_point rests q ∷ []) ps p

pub from_begins : (rests : List Rest) (ps : List Point) → IsAdded rests (rests_from rests ps)
from_begins rests [] = ([], sym (append-nil rests))
from_begins rests (p ∷ ps) =
    let later = from_begins (rests ++ rest_of_point rests p ∷ []) ps in
    (rest_of_point rests p ∷ later.0, later.1 ∙ append_assoc rests (rest_of_point rests p ∷ []) later.0)

pub from_more : (rests : List Rest) (ps qs : List Point) → IsAdded (rests_from rests ps) (rests_from rests (ps ++ qs))
from_more rests [] qs = from_begins rests qs
from_more rests (p ∷ ps) qs = from_more (rests ++ rest_of_point rests p ∷ []) ps qs

pub from_length : (rests : List Rest) (ps : List Point) → length (rests_from rests ps) ≡ length rests + length ps
from_length rests [] = omega arith
from_length rests (p ∷ ps) =
    let later = from_length (rests ++ rest_of_point rests p ∷ []) ps in
    let here = length-append rests (rest_of_point rests p ∷ []) in
    omega (arith, later, here)

pub of_length : (ps : List Point) → length (rests_of ps) ≡ length ps + 1
of_length ps = let all = from_length ([] ∷ []) ps in omega (arith, all)

pub of_end : (ps : List Point) → rest_at (rests_of ps) 0 ≡ []
of_end ps = let b = from_begins ([] ∷ []) ps in ap (λ rests. rest_at rests 0) b.1

-- ---- links

pub linked_more : (rests more : List Rest) (k : ℕ) (p : Point) → k < length rests → IsLinked rests k p → IsLinked (rests ++ more) k p
linked_more rests more k p h l =
    let long = length-append rests more in
    let after = l.after_known in
    let inside = l.inside_known in
    let otherwise = l.otherwise_known in record {
      after_known = omega (arith, after, long);
      inside_known = omega (arith, inside, long);
      otherwise_known = omega (arith, otherwise, long);
      here = rest_left rests more k h ∙ l.here ∙ ap (λ r. item_pair p.item.now ∷ r) (sym (rest_left rests more p.after l.after_known));
      inside = rest_left rests more p.inside l.inside_known ∙ l.inside ∙ ap (passed true) (sym (rest_left rests more k h));
      otherwise = rest_left rests more p.otherwise l.otherwise_known ∙ l.otherwise ∙ ap (passed false) (sym (rest_left rests more k h));
    }

-- ---- growth

pub grown_none : (ps : List Point) → IsGrown ps ps
grown_none ps = record {
  more = [];
  begins = sym (append-nil ps);
  linked = λ i p h e. absurd (past ps i p h e);
}
  where
    past : (ps : List Point) (i : ℕ) (p : Point) → length ps ≤ i → slice_get ps i ≡ Some p → ⊥
    past ps i p h e = let lt = slice_get_within ps i p e in omega (arith, h, lt)

pub grown_both : (a b c : List Point) → IsGrown a b → IsGrown b c → IsGrown a c
grown_both a b c g h = record {
  more = g.more ++ h.more;
  begins = h.begins ∙ ap (λ l. l ++ h.more) g.begins ∙ append_assoc a g.more h.more;
  linked = λ i p from e. go i p from e (cases_lt i (length b));
}
  where
    same : rests_of c ≡ rests_of b ++ (from_more ([] ∷ []) b h.more).0
    same = ap rests_of h.begins ∙ (from_more ([] ∷ []) b h.more).1

    go : (i : ℕ) (p : Point) → length a ≤ i → slice_get c i ≡ Some p → (i < length b) ⊎ (length b ≤ i) → IsLinked (rests_of c) (i + 1) p
    go i p from e (inl lt) =
        let there : slice_get b i ≡ Some p = sym (get_left b h.more i lt) ∙ ap (λ l. slice_get l i) (sym h.begins) ∙ e in
        let long = of_length b in
        subst (λ rests. IsLinked rests (i + 1) p) (sym same)
        (linked_more (rests_of b) (from_more ([] ∷ []) b h.more).0 (i + 1) p (omega (arith, lt, long)) (g.linked i p from there))
    go i p from e (inr le) = h.linked i p le e

-- what was left at a point of the table is left there still
pub grown_rest : (a b : List Point) (k : ℕ) → IsGrown a b → k ≤ length a → rest_at (rests_of b) k ≡ rest_at (rests_of a) k
grown_rest a b k g h =
    let more = from_more ([] ∷ []) a g.more in
    let long = of_length a in
    ap (λ ps. rest_at (rests_of ps) k) g.begins ∙ ap (λ rests. rest_at rests k) more.1
    ∙ rest_left (rests_of a) more.0 k (omega (arith, h, long))

pub grown_long : (a b : List Point) → IsGrown a b → length a ≤ length b
grown_long a b g = let e = ap length g.begins ∙ length-append a g.more in omega (arith, e)

pub linked_all : (ps : List Point) → IsGrown [] ps → AreLinked ps
linked_all ps g i p e = g.linked i p (omega arith) e

-- ---- a point more

pub push_rest : (ps : List Point) (p : Point) → rest_at (rests_of (ps ++ p ∷ [])) (length (ps ++ p ∷ [])) ≡ rest_of_point (rests_of ps) p
push_rest ps p =
    let here : length (ps ++ p ∷ []) ≡ length (rests_of ps) = let long = of_length ps in let last = length-append ps (p ∷ []) in omega (arith, long, last) in
    ap₂ rest_at (from_push ([] ∷ []) ps p) here ∙ rest_last (rests_of ps) (rest_of_point (rests_of ps) p)

-- where a point leads before it stands in the table
pub record Leads (ps : List Point) (p : Point) : Type 0 where
  pub after_known : p.after ≤ length ps
  pub inside_known : p.inside ≤ length ps
  pub otherwise_known : p.otherwise ≤ length ps
  pub inside : rest_at (rests_of ps) p.inside ≡ passed true (rest_of_point (rests_of ps) p)
  pub otherwise : rest_at (rests_of ps) p.otherwise ≡ passed false (rest_of_point (rests_of ps) p)

pub grown_push : (ps : List Point) (p : Point) → Leads ps p → IsGrown ps (ps ++ p ∷ [])
grown_push ps p l = record {
  more = p ∷ [];
  begins = refl;
  linked = λ i q from e.
      let lt = slice_get_within (ps ++ p ∷ []) i q e in
      let long = length-append ps (p ∷ []) in
      let at : i ≡ length ps = omega (arith, from, lt, long) in
      let same : p ≡ q = same_Some p q (sym (get_last ps p) ∙ ap (slice_get (ps ++ p ∷ [])) (sym at) ∙ e) in
      subst (λ q. IsLinked (rests_of (ps ++ p ∷ [])) (i + 1) q) same
      (subst (λ k. IsLinked (rests_of (ps ++ p ∷ [])) k p) (ap (λ i. i + 1) (sym at)) linked);
}
  where
    rests : List Rest
    rests = rests_of ps

    now : List Rest
    now = rests_of (ps ++ p ∷ [])

    kept : (k : ℕ) → k ≤ length ps → rest_at now k ≡ rest_at rests k
    kept k h =
        let long = of_length ps in
        ap (λ all. rest_at all k) (from_push ([] ∷ []) ps p) ∙ rest_left rests (rest_of_point rests p ∷ []) k (omega (arith, h, long))

    here : rest_at now (length ps + 1) ≡ rest_of_point rests p
    here = ap (rest_at now) (sym (length-append ps (p ∷ []))) ∙ push_rest ps p

    linked : IsLinked now (length ps + 1) p
    linked =
        let long = of_length (ps ++ p ∷ []) in
        let more = length-append ps (p ∷ []) in
        let after = l.after_known in
        let inside = l.inside_known in
        let otherwise = l.otherwise_known in record {
          after_known = omega (arith, after, long, more);
          inside_known = omega (arith, inside, long, more);
          otherwise_known = omega (arith, otherwise, long, more);
          here = here ∙ ap (λ r. item_pair p.item.now ∷ r) (sym (kept p.after l.after_known));
          inside = kept p.inside l.inside_known ∙ l.inside ∙ ap (passed true) (sym here);
          otherwise = kept p.otherwise l.otherwise_known ∙ l.otherwise ∙ ap (passed false) (sym here);
        }

-- ---- a point that leads elsewhere with a true test

abbrev pub with_inside : Point → ℕ → Point
with_inside p x = record { item = p.item; after = p.after; inside = x; otherwise = p.otherwise }

from_same : (rests : List Rest) (ps : List Point) (p : Point) (x : ℕ) (more : List Point) → rests_from rests (ps ++ with_inside p x ∷ more) ≡ rests_from rests (ps ++ p ∷ more)
from_same rests [] p x more = refl
from_same rests (q ∷ ps) p x more = from_same (rests ++ rest_of_point rests q ∷ []) ps p x more

get_seam : {X : Type 0} (xs : List X) (x : X) (ys : List X) → slice_get (xs ++ x ∷ ys) (length xs) ≡ Some x
get_seam [] x ys = refl
get_seam (z ∷ xs) x ys = get_seam xs x ys

get_beyond : {X : Type 0} (xs : List X) (x y : X) (ys : List X) (i : ℕ) → length xs < i → slice_get (xs ++ x ∷ ys) i ≡ slice_get (xs ++ y ∷ ys) i
get_beyond [] x y ys zero h = absurd (omega (arith, h))
get_beyond [] x y ys (suc i) h = refl
get_beyond (z ∷ xs) x y ys zero h = absurd (omega (arith, h))
get_beyond (z ∷ xs) x y ys (suc i) h = get_beyond xs x y ys i (omega (arith, h))

-- the table grew behind the point p, which was last, and p then leads to x
module _ (ps : List Point) (p : Point) (old : List Point) (x : ℕ) (g : IsGrown (ps ++ p ∷ []) old) where
  seam : old ≡ ps ++ p ∷ g.more
  seam = g.begins ∙ append_assoc ps (p ∷ []) g.more

  pub set_seam : set old (length ps) (with_inside p x) ≡ ps ++ with_inside p x ∷ g.more
  set_seam = ap (λ l. set l (length ps) (with_inside p x)) seam ∙ set-append_seam ps p g.more (with_inside p x)

  pub set_rests : rests_of (set old (length ps) (with_inside p x)) ≡ rests_of old
  set_rests = ap rests_of set_seam ∙ from_same ([] ∷ []) ps p x g.more ∙ ap rests_of (sym seam)

  pub set_at : slice_get old (length ps) ≡ Some p
  set_at = ap (λ l. slice_get l (length ps)) seam ∙ get_seam ps p g.more

  pub set_grown : IsLinked (rests_of old) (length ps + 1) (with_inside p x) → IsGrown ps (set old (length ps) (with_inside p x))
  set_grown l = record {
    more = with_inside p x ∷ g.more;
    begins = set_seam;
    linked = λ i q from e. go i q (ap (λ l. slice_get l i) (sym set_seam) ∙ e) (cases_lt (length ps) i) from;
  }
    where
      go : (i : ℕ) (q : Point) → slice_get (ps ++ with_inside p x ∷ g.more) i ≡ Some q → (length ps < i) ⊎ (i ≤ length ps) → length ps ≤ i → IsLinked (rests_of (set old (length ps) (with_inside p x))) (i + 1) q
      go i q e (inl lt) from =
          let long = length-append ps (p ∷ []) in
          subst (λ rests. IsLinked rests (i + 1) q) (sym set_rests)
          (g.linked i q (omega (arith, lt, long)) (ap (λ l. slice_get l i) seam ∙ sym (get_beyond ps (with_inside p x) p g.more i lt) ∙ e))
      go i q e (inr le) from =
          let at : i ≡ length ps = omega (arith, le, from) in
          let same : with_inside p x ≡ q = same_Some (with_inside p x) q (sym (get_seam ps (with_inside p x) g.more) ∙ ap (slice_get (ps ++ with_inside p x ∷ g.more)) (sym at) ∙ e) in
          subst (λ q. IsLinked (rests_of (set old (length ps) (with_inside p x))) (i + 1) q) same
          (subst (λ k. IsLinked (rests_of (set old (length ps) (with_inside p x))) k (with_inside p x)) (ap (λ i. i + 1) (sym at))
          (subst (λ rests. IsLinked rests (length ps + 1) (with_inside p x)) (sym set_rests) l))

-- ---- where a test leads

passed_if : (t : Bool) (h : Formula × Statement) (rest : Rest) (b : Formula) (branch : Sequence) (other : Otherwise) → h.1 ≡ If b branch other → passed t (h ∷ rest) ≡ (if t then items branch else else_items other) ++ rest
passed_if t h rest b branch other e = ap (λ s. past t h.0 s rest) e

passed_loop : (h : Formula × Statement) (rest : Rest) (b : Formula) (body : Sequence) → h.1 ≡ While b body → passed true (h ∷ rest) ≡ items body ++ h ∷ rest
passed_loop h rest b body e = ap (λ s. past true h.0 s rest) e ∙ ap (λ s. items body ++ (h.0, s) ∷ rest) (sym e)

passed_end : (h : Formula × Statement) (rest : Rest) (b : Formula) (body : Sequence) → h.1 ≡ While b body → passed false (h ∷ rest) ≡ rest
passed_end h rest b body e = ap (λ s. past false h.0 s rest) e

-- a branch and another one were added behind the table
pub if_leads : (old t u : List Point) (p : Point) (b : Formula) (branch : Sequence) (other : Otherwise) → (item_pair p.item.now).1 ≡ If b branch other
    → IsGrown old t → IsGrown t u → p.after ≤ length old → p.inside ≤ length t → p.otherwise ≤ length u
    → rest_at (rests_of t) p.inside ≡ items branch ++ rest_at (rests_of old) p.after
    → rest_at (rests_of u) p.otherwise ≡ else_items other ++ rest_at (rests_of old) p.after
    → Leads u p
if_leads old t u p b branch other e g h after inside otherwise first second =
    let long = grown_long old t g in
    let longer = grown_long t u h in
    let kept = grown_rest old u p.after (grown_both old t u g h) after in record {
      after_known = omega (arith, after, long, longer);
      inside_known = omega (arith, inside, longer);
      otherwise_known = otherwise;
      inside = grown_rest t u p.inside h inside ∙ first ∙ ap (λ r. items branch ++ r) (sym kept) ∙ sym (passed_if true (item_pair p.item.now) (rest_at (rests_of u) p.after) b branch other e);
      otherwise = second ∙ ap (λ r. else_items other ++ r) (sym kept) ∙ sym (passed_if false (item_pair p.item.now) (rest_at (rests_of u) p.after) b branch other e);
    }

-- a body was added behind the loop's point p, which was last
pub loop_linked : (old t : List Point) (p : Point) (x : ℕ) (b : Formula) (body : Sequence) → (item_pair p.item.now).1 ≡ While b body
    → IsGrown (old ++ p ∷ []) t → p.after ≤ length old → p.otherwise ≡ p.after → x ≤ length t
    → rest_at (rests_of t) x ≡ items body ++ rest_at (rests_of (old ++ p ∷ [])) (length (old ++ p ∷ []))
    → IsLinked (rests_of t) (length old + 1) (with_inside p x)
loop_linked old t p x b body e g after leaves inside first =
    let long = length-append old (p ∷ []) in
    let longer = grown_long (old ++ p ∷ []) t g in
    let all = of_length t in
    let known : p.after < length (rests_of t) = omega (arith, after, long, longer, all) in
    let last : length (old ++ p ∷ []) ≡ length old + 1 = long in
    let pushed : rest_at (rests_of (old ++ p ∷ [])) (length old + 1) ≡ rest_of_point (rests_of old) p = ap (rest_at (rests_of (old ++ p ∷ []))) (sym last) ∙ push_rest old p in
    let there : rest_at (rests_of t) (length old + 1) ≡ rest_of_point (rests_of old) p = grown_rest (old ++ p ∷ []) t (length old + 1) g (omega (arith, long)) ∙ pushed in
    let kept : rest_at (rests_of t) p.after ≡ rest_at (rests_of old) p.after =
    let ends = of_length old in
    grown_rest (old ++ p ∷ []) t p.after g (omega (arith, after, long))
    ∙ ap (λ all. rest_at all p.after) (from_push ([] ∷ []) old p)
    ∙ rest_left (rests_of old) (rest_of_point (rests_of old) p ∷ []) p.after (omega (arith, after, ends)) in record {
      after_known = known;
      inside_known = omega (arith, inside, all);
      otherwise_known = subst (λ k. k < length (rests_of t)) (sym leaves) known;
      here = there ∙ ap (λ r. item_pair p.item.now ∷ r) (sym kept);
      inside = first ∙ ap (λ r. items body ++ r) (push_rest old p) ∙ sym (passed_loop (item_pair p.item.now) (rest_at (rests_of old) p.after) b body e) ∙ ap (passed true) (sym there);
      otherwise = ap (rest_at (rests_of t)) leaves ∙ kept ∙ sym (passed_end (item_pair p.item.now) (rest_at (rests_of old) p.after) b body e) ∙ ap (passed false) (sym there);
    }

-- a statement without a test leads to where it is left
pub step_leads : (old : List Point) (p : Point) → p.after ≤ length old → p.inside ≡ p.after → p.otherwise ≡ p.after → ((t : Bool) → passed t (rest_of_point (rests_of old) p) ≡ rest_at (rests_of old) p.after) → Leads old p
step_leads old p after inside otherwise same = record {
  after_known = after;
  inside_known = subst (λ k. k ≤ length old) (sym inside) after;
  otherwise_known = subst (λ k. k ≤ length old) (sym otherwise) after;
  inside = ap (rest_at (rests_of old)) inside ∙ sym (same true);
  otherwise = ap (rest_at (rests_of old)) otherwise ∙ sym (same false);
}

-- ---- many places

pub grown_rests : (a b : List Point) (places : List ℕ) → IsGrown a b → AllByRecursion (λ at. at ≤ length a) places → map (rest_at (rests_of b)) places ≡ map (rest_at (rests_of a)) places
grown_rests a b [] g h = refl
grown_rests a b (at ∷ places) g h = ap₂ ◌∷◌ (grown_rest a b at g h.0) (grown_rests a b places g h.1)

pub grown_places : (a b : List Point) (places : List ℕ) → IsGrown a b → AllByRecursion (λ at. at ≤ length a) places → AllByRecursion (λ at. at ≤ length b) places
grown_places a b [] g h = tt
grown_places a b (at ∷ places) g h =
    let here : at ≤ length a = h.0 in
    let long = grown_long a b g in
    (omega (arith, here, long), grown_places a b places g h.1)

-- ---- the rests at the points of statements

-- of statements one after another, the last one first
abbrev pub list_rests : Rest → Rest → List Rest
list_rests [] after = []
list_rests (head ∷ rest) after = list_rests rest after ++ statement_rests head.0 head.1 (rest ++ after)

pub sequence_list : (q : Sequence) (after : Rest) → sequence_rests q after ≡ list_rests (items q) after
sequence_list (Last note) after = refl
sequence_list (Then before stmt at rest) after = ap (λ l. l ++ statement_rests before.assertion stmt (items rest ++ after)) (sequence_list rest after)

pub parts_more : (parts : List Sequence) (part : Sequence) → parts_rests (parts ++ part ∷ []) ≡ parts_rests parts ++ sequence_rests part []
parts_more [] part = append-nil (sequence_rests part [])
parts_more (q ∷ parts) part =
    ap (λ l. sequence_rests q [] ++ l) (parts_more parts part) ∙ sym (append_assoc (sequence_rests q []) (parts_rests parts) (sequence_rests part []))

pub push_table : (ps : List Point) (p : Point) → rests_of (ps ++ p ∷ []) ≡ rests_of ps ++ rest_of_point (rests_of ps) p ∷ []
push_table ps p = from_push ([] ∷ []) ps p

-- more after more
pub then_more : (a b c d e : List Rest) → b ≡ a ++ d → c ≡ b ++ e → c ≡ a ++ (d ++ e)
then_more a b c d e g h = h ∙ ap (λ l. l ++ e) g ∙ append_assoc a d e
