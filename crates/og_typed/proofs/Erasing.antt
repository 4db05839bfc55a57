-- A step of a statement that stays is a step of its rest.
use Rattle.std.proofs.Common.{◌≡◌, ℕ, ◌≤◌, ℤ, pos, List, [], ◌∷◌, ◌++◌, filter, take, length, Bool, true, false, not, ◌&&◌, cond, if◌then◌else◌, nat_lt, nat_le, Some, None, option_map, refl, sym, ap, ◌∙◌, get_or-take, ⊎_elim, arith}
use Rattle.std.specs.List.{AllByRecursion}
use Rattle.std.proofs.lemmas.Bool.{cases_lt, both_ways, and_parts, and_from, ltb-true, ltb-false, leb-false, lt-ltb, not-false, not_from_true}
use Rattle.og_linear.proofs.Put.{put_long, take_put, take_put_past}
use Rattle.og_linear.specs.Linear.{FormValue, put, val, is_term, fits_i64}
use Rattle.og_typed.specs.Syntax.{Formula, True, Simple, Pass, Set, Statement, Skip, Assign, If, While, Await, Otherwise, Nothing, Else, Sequence, Last, Then, Rest, items, else_items}
use Rattle.og_typed.specs.Truth.{truth}
use Rattle.og_typed.specs.Occurs.{occurs}
use Rattle.og_typed.specs.Machine.{act, all_fit, attempt, advance, stmt_overflows}
use Rattle.og_typed.specs.Stuck.{stmt_waits}
use Rattle.og_typed.specs.Rule.{IsPlain, IsPlainForm, SimpleFollows, StatementFollows}
use Rattle.og_typed.specs.Erase.{is_aux_assign, is_kept, blank, erase_seq, erase_stmt, erase_else, erase_rest}
use Rattle.og_typed.proofs.Frame.{Agree, same_truth, same_value}

-- ---- what no auxiliary occurs in has one value with and without them

agree : (n : ℕ) (test : ℕ → Bool) (s : List ℤ) → ((x : ℕ) → n ≤ x → test x ≡ false) → Agree test (take n s) s
agree n test s plain x e =
    ⊎_elim (λ lt. get_or-take n s x (pos 0) lt) (λ le. absurd (both_ways (test x) (plain x le) e)) (cases_lt x n)

pub plain_truth : (n : ℕ) (a : Formula) (s : List ℤ) → IsPlain n a → truth a (take n s) ≡ truth a s
plain_truth n a s plain = same_truth a (take n s) s (agree n (λ x. occurs x a) s plain)

plain_value : (n : ℕ) (f : FormValue) (s : List ℤ) → IsPlainForm n f → val f (take n s) ≡ val f s
plain_value n f s plain = same_value f (take n s) s (agree n (λ x. is_term x f.terms) s plain)

-- ---- actions

module _ (n : ℕ) where
  set_kept : (x : ℕ) (e : FormValue) (s : List ℤ) → SimpleFollows n (Set x e) → nat_lt x n ≡ true → put (take n s) x (val e (take n s)) ≡ take n (put s x (val e s))
  set_kept x e s follows k =
      ap (put (take n s) x) (plain_value n e s (follows k)) ∙ sym (take_put n s x (val e s) (ltb-true x n k))

  put_still : (x : ℕ) (v : ℤ) (s : List ℤ) → n ≤ length s → n ≤ length (put s x v)
  put_still x v s long = let more = put_long s x v in omega (arith, long, more)

  pub act_erased : (body : List Simple) (s : List ℤ) → n ≤ length s → AllByRecursion (SimpleFollows n) body → act (filter (is_kept n) body) (take n s) ≡ take n (act body s)
  act_erased [] s long follows = refl
  act_erased (Pass ∷ rest) s long follows = act_erased rest s long follows.1
  act_erased (Set x e ∷ rest) s long follows =
      go (nat_lt x n) refl (act_erased rest (put s x (val e s)) (put_still x (val e s) s long) follows.1)
    where
      go : (b : Bool) → nat_lt x n ≡ b → act (filter (is_kept n) rest) (take n (put s x (val e s))) ≡ take n (act rest (put s x (val e s))) → act (cond b (Set x e ∷ filter (is_kept n) rest) (filter (is_kept n) rest)) (take n s) ≡ take n (act rest (put s x (val e s)))
      go true k ih = ap (act (filter (is_kept n) rest)) (set_kept x e s follows.0 k) ∙ ih
      go false k ih = ap (act (filter (is_kept n) rest)) (sym (take_put_past n s x (val e s) (ltb-false x n k) long)) ∙ ih

  pub fit_erased : (body : List Simple) (s : List ℤ) → n ≤ length s → AllByRecursion (SimpleFollows n) body → all_fit body s ≡ true → all_fit (filter (is_kept n) body) (take n s) ≡ true
  fit_erased [] s long follows fit = refl
  fit_erased (Pass ∷ rest) s long follows fit = fit_erased rest s long follows.1 fit
  fit_erased (Set x e ∷ rest) s long follows fit =
      go (nat_lt x n) refl (fit_erased rest (put s x (val e s)) (put_still x (val e s) s long) follows.1 (and_parts _ _ fit).1)
    where
      go : (b : Bool) → nat_lt x n ≡ b → all_fit (filter (is_kept n) rest) (take n (put s x (val e s))) ≡ true → all_fit (cond b (Set x e ∷ filter (is_kept n) rest) (filter (is_kept n) rest)) (take n s) ≡ true
      go true k ih =
          and_from _ _ (ap fits_i64 (plain_value n e s (follows.0 k)) ∙ (and_parts _ _ fit).0)
          (ap (all_fit (filter (is_kept n) rest)) (set_kept x e s follows.0 k) ∙ ih)
      go false k ih = ap (all_fit (filter (is_kept n) rest)) (sym (take_put_past n s x (val e s) (ltb-false x n k) long)) ∙ ih

  -- ---- rests

  pub erase_append : (xs ys : Rest) → erase_rest n (xs ++ ys) ≡ erase_rest n xs ++ erase_rest n ys
  erase_append [] ys = refl
  erase_append (x ∷ xs) ys = go (is_aux_assign n x.1) (erase_append xs ys)
    where
      go : (b : Bool) → erase_rest n (xs ++ ys) ≡ erase_rest n xs ++ erase_rest n ys → (if b then erase_rest n (xs ++ ys) else (True, erase_stmt n x.1) ∷ erase_rest n (xs ++ ys)) ≡ (if b then erase_rest n xs else (True, erase_stmt n x.1) ∷ erase_rest n xs) ++ erase_rest n ys
      go true ih = ih
      go false ih = ap (λ r. (True, erase_stmt n x.1) ∷ r) ih

  pub erase_items : (q : Sequence) → items (erase_seq n q) ≡ erase_rest n (items q)
  erase_items (Last note) = refl
  erase_items (Then before stmt at rest) = go (is_aux_assign n stmt) (erase_items rest)
    where
      go : (b : Bool) → items (erase_seq n rest) ≡ erase_rest n (items rest) → items (if b then erase_seq n rest else Then (blank before) (erase_stmt n stmt) at (erase_seq n rest)) ≡ (if b then erase_rest n (items rest) else (True, erase_stmt n stmt) ∷ erase_rest n (items rest))
      go true ih = ih
      go false ih = ap (λ r. (True, erase_stmt n stmt) ∷ r) ih

  erase_else_items : (other : Otherwise) → else_items (erase_else n other) ≡ erase_rest n (else_items other)
  erase_else_items Nothing = refl
  erase_else_items (Else branch) = erase_items branch

  -- the rest of a state and a rest
  abbrev pub left : List ℤ × Rest → List ℤ × Rest
  left after = (take n after.0, erase_rest n after.1)

  pub attempt_fits : (body : List Simple) (s : List ℤ) (rest : Rest) → all_fit body s ≡ true → attempt body s rest ≡ Some (act body s, rest)
  attempt_fits body s rest fit = ap (λ b. if b then Some (act body s, rest) else None) fit

  attempt_erased : (body : List Simple) (s : List ℤ) (rest : Rest) → n ≤ length s → AllByRecursion (SimpleFollows n) body → all_fit body s ≡ true → attempt (filter (is_kept n) body) (take n s) (erase_rest n rest) ≡ option_map left (attempt body s rest)
  attempt_erased body s rest long follows fit =
      attempt_fits (filter (is_kept n) body) (take n s) (erase_rest n rest) (fit_erased body s long follows fit)
      ∙ ap (λ t. Some (t, erase_rest n rest)) (act_erased body s long follows)
      ∙ ap (option_map left) (sym (attempt_fits body s rest fit))

  only_kept : (x : ℕ) (e : FormValue) → nat_le n x ≡ false → filter (is_kept n) (Set x e ∷ []) ≡ Set x e ∷ []
  only_kept x e k = ap (λ b. cond b (Set x e ∷ []) []) (lt-ltb x n (leb-false n x k))

  one_follows : (x : ℕ) (e : FormValue) → StatementFollows n (Assign x e) → nat_le n x ≡ false → AllByRecursion (SimpleFollows n) (Set x e ∷ [])
  one_follows x e follows k = ((λ _. follows k), tt)

  fits_unless : (b f : Bool) → (b && not f) ≡ false → b ≡ true → f ≡ true
  fits_unless true f h e = not-false f h
  fits_unless false f h e = absurd (both_ways false refl e)

  -- a step of a statement that stays
  pub advance_erased : (s : List ℤ) (before : Formula) (stmt : Statement) (rest : Rest) → n ≤ length s → StatementFollows n stmt → is_aux_assign n stmt ≡ false → stmt_overflows s stmt ≡ false → advance (take n s) True (erase_stmt n stmt) (erase_rest n rest) ≡ option_map left (advance s before stmt rest)
  advance_erased s before Skip rest long follows k over = refl
  advance_erased s before (Assign x e) rest long follows k over =
      ap (λ body. attempt body (take n s) (erase_rest n rest)) (sym (only_kept x e k))
      ∙ attempt_erased (Set x e ∷ []) s rest long (one_follows x e follows k) (not-false _ over)
  advance_erased s before (If b branch other) rest long follows k over =
      ap (λ t. Some (take n s, (if t then items (erase_seq n branch) else else_items (erase_else n other)) ++ erase_rest n rest)) (plain_truth n b s follows)
      ∙ ap (λ r. Some (take n s, r)) (go (truth b s))
    where
      go : (t : Bool) → (if t then items (erase_seq n branch) else else_items (erase_else n other)) ++ erase_rest n rest ≡ erase_rest n ((if t then items branch else else_items other) ++ rest)
      go true = ap (λ r. r ++ erase_rest n rest) (erase_items branch) ∙ sym (erase_append (items branch) rest)
      go false = ap (λ r. r ++ erase_rest n rest) (erase_else_items other) ∙ sym (erase_append (else_items other) rest)
  advance_erased s before (While b body) rest long follows k over =
      ap (λ t. Some (take n s, if t then items (erase_seq n body) ++ (True, While b (erase_seq n body)) ∷ erase_rest n rest else erase_rest n rest)) (plain_truth n b s follows)
      ∙ ap (λ r. Some (take n s, r)) (go (truth b s))
    where
      go : (t : Bool) → (if t then items (erase_seq n body) ++ (True, While b (erase_seq n body)) ∷ erase_rest n rest else erase_rest n rest) ≡ erase_rest n (if t then items body ++ (before, While b body) ∷ rest else rest)
      go true = ap (λ r. r ++ (True, While b (erase_seq n body)) ∷ erase_rest n rest) (erase_items body) ∙ sym (erase_append (items body) ((before, While b body) ∷ rest))
      go false = refl
  advance_erased s before (Await b body) rest long follows k over =
      ap (λ t. if t then attempt (filter (is_kept n) body) (take n s) (erase_rest n rest) else None) (plain_truth n b s follows.0)
      ∙ go (truth b s) refl
    where
      go : (t : Bool) → truth b s ≡ t → (if t then attempt (filter (is_kept n) body) (take n s) (erase_rest n rest) else None) ≡ option_map left (if t then attempt body s rest else None)
      go true e = attempt_erased body s rest long follows.1 (fits_unless (truth b s) (all_fit body s) over e)
      go false e = refl

  both_from : (b f g : Bool) → (b && not f) ≡ false → (b ≡ true → f ≡ true → g ≡ true) → (b && not g) ≡ false
  both_from true f g h k = not_from_true g (k refl (not-false f h))
  both_from false f g h k = refl

  pub overflows_erased : (s : List ℤ) (stmt : Statement) → n ≤ length s → StatementFollows n stmt → is_aux_assign n stmt ≡ false → stmt_overflows s stmt ≡ false → stmt_overflows (take n s) (erase_stmt n stmt) ≡ false
  overflows_erased s Skip long follows k over = refl
  overflows_erased s (Assign x e) long follows k over =
      not_from_true _ (ap (λ body. all_fit body (take n s)) (sym (only_kept x e k)) ∙ fit_erased (Set x e ∷ []) s long (one_follows x e follows k) (not-false _ over))
  overflows_erased s (If b branch other) long follows k over = refl
  overflows_erased s (While b body) long follows k over = refl
  overflows_erased s (Await b body) long follows k over =
      ap (λ t. t && not (all_fit (filter (is_kept n) body) (take n s))) (plain_truth n b s follows.0)
      ∙ both_from (truth b s) (all_fit body s) (all_fit (filter (is_kept n) body) (take n s)) over (λ _ fit. fit_erased body s long follows.1 fit)

  pub waits_erased : (s : List ℤ) (stmt : Statement) → StatementFollows n stmt → stmt_waits (take n s) (erase_stmt n stmt) ≡ stmt_waits s stmt
  waits_erased s Skip follows = refl
  waits_erased s (Assign x e) follows = refl
  waits_erased s (If b branch other) follows = refl
  waits_erased s (While b body) follows = refl
  waits_erased s (Await b body) follows = ap not (plain_truth n b s follows.0)
