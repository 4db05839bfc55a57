-- A resolved tree meets the rule for auxiliaries and the limits.
use Rattle.std.proofs.Common.{◌≡◌, ℕ, ◌+◌, ◌^◌, ◌<◌, ◌≤◌, ℤ, List, [], ◌∷◌, ◌++◌, length, Bool, true, false, cond, Option, Some, None, IfSome, FitsSigned, refl, subst, arith, length-append}
use mir.Syntax.{w64}
use Rattle.std.specs.Prelude.{nat_lt, nat_le, Ok, Err, pos, negsuc}
use Rattle.std.specs.List.{AllByRecursion}
use Rattle.std.proofs.lemmas.Bool.{lt-ltb, ltb-true, leb-false, both_ways}
use Rattle.std.proofs.lemmas.List.Elements.{All-from_recursion}
use Rattle.og_linear.specs.Linear.{FormValue, IsProper, fits_i64, is_small}
use Rattle.og_parse.specs.declared.raw.RawName.{RawName}
use Rattle.og_parse.specs.declared.raw.RawInt.{RawInt}
use Rattle.og_parse.specs.declared.raw.RawAux.{RawAux}
use Rattle.og_parse.specs.Trees as tree
use Rattle.og_typed.specs.declared.fault.TypeFault.{TypeFault}
use Rattle.og_typed.specs.declared.fault.TypeFault.TheVariants as faults
use Rattle.og_typed.specs.Syntax.{Formula, Noted, Simple, Pass, Set, Statement, If, While, Await, Nothing, Else, Sequence, Last, Then, Program}
use Rattle.og_typed.specs.Pieces.{Piece, pieces, pieces_of_stmt}
use Rattle.og_typed.specs.Rule.{IsPlain, is_usable_form, IsUsable, SimpleFollows, StatementFollows, SequenceFollows, IsUsableSimple, IsUsableSequence, IsUsableStatement, IsOutline}
use Rattle.og_typed.specs.Resolved.{Checked, ◌>>=◌, counted, Scope, Outer, Visible, Free, number_in, declared_as, declared, declared_vars, signed, initial, declared_auxes, number, sum_form, right_side, assertion, note, simple, elements, statement_of, statement, sequence, part, place_of, processes, outline_in, resolved}
use Rattle.og_typed.proofs.Each.{each_append}
use Rattle.og_typed.proofs.Below.{bound_ok, ok_same, passed, and_both, number_below, form_below, usable_terms, usable_form_more, usable_more, usable_plain, plain_form, assertion_usable}

-- ---- lists

counted_each : {X Y : Type 0} (P : Y → Type 0) (most : ℕ) (fault : X → TypeFault) (each : X → Checked Y) → ((x : X) (y : Y) → each x ≡ Ok y → P y) → (before : ℕ) (xs : List X) (ys : List Y) → counted most fault each before xs ≡ Ok ys → AllByRecursion P ys
counted_each P most fault each f before [] ys e = subst (AllByRecursion P) (ok_same [] ys e) tt
counted_each P most fault each f before (x ∷ xs) ys e = go (λ zs h. counted_each P most fault each f (before + 1) xs zs h) (nat_lt before most) e
  where
    go : ((zs : List _) → counted most fault each (before + 1) xs ≡ Ok zs → AllByRecursion P zs) → (b : Bool) → cond b (each x >>= λ y. counted most fault each (before + 1) xs >>= λ zs. Ok (y ∷ zs)) (Err (fault x)) ≡ Ok ys → AllByRecursion P ys
    go rec true h =
        let p = bound_ok (each x) (λ y. counted most fault each (before + 1) xs >>= λ zs. Ok (y ∷ zs)) ys h in
        let q = bound_ok (counted most fault each (before + 1) xs) (λ zs. Ok (p.0 ∷ zs)) ys p.2 in
        subst (AllByRecursion P) (ok_same (p.0 ∷ q.0) ys q.2) (f x p.0 p.1, rec q.0 q.1)
    go rec false h = absurd cc

-- a list within its limit keeps its length
counted_length : {X Y : Type 0} (most : ℕ) (fault : X → TypeFault) (each : X → Checked Y) (before : ℕ) (xs : List X) (ys : List Y) → before ≤ most → counted most fault each before xs ≡ Ok ys → (length ys ≡ length xs) × (before + length ys ≤ most)
counted_length most fault each before [] ys le e = subst (λ (zs : List _). (length zs ≡ 0) × (before + length zs ≤ most)) (ok_same [] ys e) (refl, omega (arith, le))
counted_length most fault each before (x ∷ xs) ys le e = go (λ zs lt h. counted_length most fault each (before + 1) xs zs lt h) (nat_lt before most) refl e
  where
    go : ((zs : List _) → before + 1 ≤ most → counted most fault each (before + 1) xs ≡ Ok zs → (length zs ≡ length xs) × ((before + 1) + length zs ≤ most)) → (b : Bool) → nat_lt before most ≡ b
        → cond b (each x >>= λ y. counted most fault each (before + 1) xs >>= λ zs. Ok (y ∷ zs)) (Err (fault x)) ≡ Ok ys → (length ys ≡ length (x ∷ xs)) × (before + length ys ≤ most)
    go rec true t h =
        let lt = ltb-true before most t in
        let p = bound_ok (each x) (λ y. counted most fault each (before + 1) xs >>= λ zs. Ok (y ∷ zs)) ys h in
        let q = bound_ok (counted most fault each (before + 1) xs) (λ zs. Ok (p.0 ∷ zs)) ys p.2 in
        let r = rec q.0 (omega (arith, lt)) q.1 in
        subst (λ (zs : List _). (length zs ≡ length (x ∷ xs)) × (before + length zs ≤ most)) (ok_same (p.0 ∷ q.0) ys q.2) (omega (arith, r.0), omega (arith, r.1))
    go rec false t h = absurd cc

-- ---- statements, where the vars are among the names

module _ (scope : Scope) (wide : scope.vars ≤ length scope.names) where
  -- an assertion with no auxiliary, where none may stand
  visible : (a : tree.Assertion) (f : Formula) → assertion scope Visible a ≡ Ok f → IsPlain scope.vars f × IsUsable (length scope.names) f
  visible a f e =
      let usable = assertion_usable scope Visible a f e in
      ((λ x le. usable_plain scope.vars x le f usable), usable_more scope.vars (length scope.names) wide f usable)

  pub outer_note : (n : tree.Note) (m : Noted) → note scope Outer n ≡ Ok m → IsPlain scope.vars m.assertion × IsUsable (length scope.names) m.assertion
  outer_note n m e =
      let p = bound_ok (assertion scope Outer n.value) (λ a. Ok (record { assertion = a; at = n.place.start })) m e in
      let usable = assertion_usable scope Outer n.value p.0 p.1 in
      subst (λ (k : Noted). IsPlain scope.vars k.assertion × IsUsable (length scope.names) k.assertion) (ok_same (record { assertion = p.0; at = n.place.start }) m p.2)
      ((λ x le. usable_plain scope.vars x le p.0 usable), usable_more scope.vars (length scope.names) wide p.0 usable)

  free_note : (n : tree.Note) (m : Noted) → note scope Free n ≡ Ok m → IsUsable (length scope.names) m.assertion
  free_note n m e =
      let p = bound_ok (assertion scope Free n.value) (λ a. Ok (record { assertion = a; at = n.place.start })) m e in
      subst (λ (k : Noted). IsUsable (length scope.names) k.assertion) (ok_same (record { assertion = p.0; at = n.place.start }) m p.2)
      (assertion_usable scope Free n.value p.0 p.1)

  -- the right side of an assignment to x
  abbrev IsRight : ℕ → FormValue → Type 0
  IsRight x f = (nat_lt x scope.vars ≡ true → is_usable_form scope.vars f ≡ true) × (is_usable_form (length scope.names) f ≡ true)

  right : (x : ℕ) (sum : tree.Sum) (f : FormValue) → right_side scope x sum ≡ Ok f → IsRight x f
  right x sum f e = go (nat_lt x scope.vars) refl e
    where
      go : (b : Bool) → nat_lt x scope.vars ≡ b → (sum_form scope (cond b Visible Free) sum >>= λ form. cond (is_small form) (Ok form) (Err (faults.CoefficientTooLarge sum.place.start))) ≡ Ok f → IsRight x f
      go true t h =
          let p = bound_ok (sum_form scope Visible sum) (λ form. cond (is_small form) (Ok form) (Err (faults.CoefficientTooLarge sum.place.start))) f h in
          let q = passed (is_small p.0) p.0 f _ p.2 in
          let usable : is_usable_form scope.vars p.0 ≡ true = and_both _ _ q.0 (form_below scope Visible sum p.0 p.1) in
          subst (IsRight x) q.1 ((λ less. usable), usable_form_more scope.vars (length scope.names) p.0 wide usable)
      go false t h =
          let p = bound_ok (sum_form scope Free sum) (λ form. cond (is_small form) (Ok form) (Err (faults.CoefficientTooLarge sum.place.start))) f h in
          let q = passed (is_small p.0) p.0 f _ p.2 in
          subst (IsRight x) q.1 ((λ less. absurd (both_ways _ t less)), and_both _ _ q.0 (form_below scope Free sum p.0 p.1))

  simple_met : (b : tree.Basic) (s : Simple) → simple scope b ≡ Ok s → SimpleFollows scope.vars s × IsUsableSimple (length scope.names) s
  simple_met tree.Skip s e = subst (λ r. SimpleFollows scope.vars r × IsUsableSimple (length scope.names) r) (ok_same Pass s e) (tt, tt)
  simple_met (tree.Assign name sum) s e =
      let p = bound_ok (number scope Free name) (λ x. right_side scope x sum >>= λ form. Ok (Set x form)) s e in
      let q = bound_ok (right_side scope p.0 sum) (λ form. Ok (Set p.0 form)) s p.2 in
      let r = right p.0 sum q.0 q.1 in
      subst (λ t. SimpleFollows scope.vars t × IsUsableSimple (length scope.names) t) (ok_same (Set p.0 q.0) s q.2)
      ((λ less x le. plain_form scope.vars q.0.terms x (usable_terms scope.vars q.0 (r.0 less)) le), (number_below scope Free name p.0 p.1, r.1))

  -- ---- statements and sequences

  abbrev Follows : Piece → Type 0
  Follows piece = StatementFollows scope.vars piece.stmt

  abbrev IsMet : Statement → Type 0
  IsMet s = StatementFollows scope.vars s × (AllByRecursion Follows (pieces_of_stmt s) × IsUsableStatement (length scope.names) s)

  abbrev AreMet : Sequence → Type 0
  AreMet q = SequenceFollows scope.vars q × IsUsableSequence (length scope.names) q

  less_test : (x n : ℕ) → nat_le n x ≡ false → nat_lt x n ≡ true
  less_test x n h = lt-ltb x n (leb-false n x h)

  simple_stmt : (s : Simple) → SimpleFollows scope.vars s × IsUsableSimple (length scope.names) s → IsMet (statement_of s)
  simple_stmt Pass h = (tt, (tt, tt))
  simple_stmt (Set x f) h = ((λ less. h.0 (less_test x scope.vars less)), (tt, h.1))

  body_met : (body : List Simple) → AllByRecursion (λ s. SimpleFollows scope.vars s × IsUsableSimple (length scope.names) s) body → AllByRecursion (SimpleFollows scope.vars) body × AllByRecursion (IsUsableSimple (length scope.names)) body
  body_met [] h = (tt, tt)
  body_met (s ∷ body) h = let rest = body_met body h.1 in ((h.0.0, rest.0), (h.0.1, rest.1))

  mutual
    stmt_met : (t : tree.Stmt) (s : Statement) → statement scope t ≡ Ok s → IsMet s
    stmt_met (tree.Simple basic) s e =
        let p = bound_ok (simple scope basic) (λ b. Ok (statement_of b)) s e in
        subst IsMet (ok_same (statement_of p.0) s p.2) (simple_stmt p.0 (simple_met basic p.0 p.1))
    stmt_met (tree.If test branch) s e =
        let p = bound_ok (assertion scope Visible test) (λ b. sequence scope branch >>= λ q. Ok (If b q Nothing)) s e in
        let q = bound_ok (sequence scope branch) (λ q. Ok (If p.0 q Nothing)) s p.2 in
        let a = visible test p.0 p.1 in
        let b = seq_met branch q.0 q.1 in
        subst IsMet (ok_same (If p.0 q.0 Nothing) s q.2) (a.0, (each_append Follows (pieces q.0) [] b.0 tt, (a.1, b.1, tt)))
    stmt_met (tree.IfElse test branch other) s e =
        let p = bound_ok (assertion scope Visible test) (λ b. sequence scope branch >>= λ q. sequence scope other >>= λ r. Ok (If b q (Else r))) s e in
        let q = bound_ok (sequence scope branch) (λ q. sequence scope other >>= λ r. Ok (If p.0 q (Else r))) s p.2 in
        let r = bound_ok (sequence scope other) (λ r. Ok (If p.0 q.0 (Else r))) s q.2 in
        let a = visible test p.0 p.1 in
        let b = seq_met branch q.0 q.1 in
        let c = seq_met other r.0 r.1 in
        subst IsMet (ok_same (If p.0 q.0 (Else r.0)) s r.2) (a.0, (each_append Follows (pieces q.0) (pieces r.0) b.0 c.0, (a.1, b.1, c.1)))
    stmt_met (tree.While test body) s e =
        let p = bound_ok (assertion scope Visible test) (λ b. sequence scope body >>= λ q. Ok (While b q)) s e in
        let q = bound_ok (sequence scope body) (λ q. Ok (While p.0 q)) s p.2 in
        let a = visible test p.0 p.1 in
        let b = seq_met body q.0 q.1 in
        subst IsMet (ok_same (While p.0 q.0) s q.2) (a.0, (b.0, (a.1, b.1)))
    stmt_met (tree.Await guard body) s e =
        let p = bound_ok (assertion scope Visible guard) (λ b. elements scope body >>= λ all. Ok (Await b all)) s e in
        let q = bound_ok (elements scope body) (λ all. Ok (Await p.0 all)) s p.2 in
        let a = visible guard p.0 p.1 in
        let b = body_met q.0 (counted_each (λ r. SimpleFollows scope.vars r × IsUsableSimple (length scope.names) r) 64 (λ element. faults.AwaitTooLong element.place.start) (λ element. simple scope element.value) (λ x y h. simple_met x.value y h) 0 body q.0 q.1) in
        subst IsMet (ok_same (Await p.0 q.0) s q.2) ((a.0, b.0), (tt, (a.1, b.1)))

    pub seq_met : (t : tree.Seq) (q : Sequence) → sequence scope t ≡ Ok q → AreMet q
    seq_met (tree.item before place stmt rest) q e =
        let p = bound_ok (note scope Free before) (λ b. statement scope stmt >>= λ s. sequence scope rest >>= λ r. Ok (Then b s place.start r)) q e in
        let r = bound_ok (statement scope stmt) (λ s. sequence scope rest >>= λ r. Ok (Then p.0 s place.start r)) q p.2 in
        let t = bound_ok (sequence scope rest) (λ t. Ok (Then p.0 r.0 place.start t)) q r.2 in
        let a = free_note before p.0 p.1 in
        let b = stmt_met stmt r.0 r.1 in
        let c = seq_met rest t.0 t.1 in
        subst AreMet (ok_same (Then p.0 r.0 place.start t.0) q t.2)
        ((b.0, each_append Follows (pieces_of_stmt r.0) (pieces t.0) b.1.0 c.0), (a, b.1.1, c.1))
    seq_met (tree.finish last) q e =
        let p = bound_ok (note scope Free last) (λ b. Ok (Last b)) q e in
        subst AreMet (ok_same (Last p.0) q p.2) (tt, free_note last p.0 p.1)

-- ---- declarations

declared_longer : (names more : List (List ℕ)) (name : RawName) → length names ≤ 256 → declared names name ≡ Ok more → (length more ≡ length names + 1) × (length more ≤ 256)
declared_longer names more name few e = go (number_in names name.name) e
  where
    room : (b : Bool) → nat_lt (length names) 256 ≡ b → ◌≡◌ {A = Checked (List (List ℕ))} (cond b (Ok (names ++ name.name ∷ [])) (Err (faults.TooManyVariables name.span.start))) (Ok more) → (length more ≡ length names + 1) × (length more ≤ 256)
    room true t h =
        let lt = ltb-true (length names) 256 t in
        let one : length (names ++ name.name ∷ []) ≡ length names + 1 = length-append names (name.name ∷ []) in
        subst (λ (l : List (List ℕ)). (length l ≡ length names + 1) × (length l ≤ 256)) (ok_same (names ++ name.name ∷ []) more h) (one, omega (arith, one, lt))
    room false t h = absurd cc

    go : (o : Option ℕ) → declared_as o names name ≡ Ok more → (length more ≡ length names + 1) × (length more ≤ 256)
    go (Some x) h = absurd cc
    go None h = room (nat_lt (length names) 256) refl h

vars_few : (names more : List (List ℕ)) (vars : List RawName) → length names ≤ 256 → declared_vars names vars ≡ Ok more → length more ≤ 256
vars_few names more [] few e = subst (λ (l : List (List ℕ)). length l ≤ 256) (ok_same names more e) few
vars_few names more (name ∷ others) few e =
    let p = bound_ok (declared names name) (λ longer. declared_vars longer others) more e in
    let q = declared_longer names p.0 name few p.1 in
    vars_few p.0 more others q.1 p.2

signed_fits : (z : ℤ) → fits_i64 z ≡ true → FitsSigned w64 z
signed_fits (pos n) h = record { sfits = ltb-true n (2 ^ 63) h }
signed_fits (negsuc n) h = record { sfits = ltb-true n (2 ^ 63) h }

initial_fits : (int : RawInt) (v : ℤ) → initial int ≡ Ok v → FitsSigned w64 v
initial_fits int v e =
    let p = passed (fits_i64 (signed int.sign (pos int.number))) (signed int.sign (pos int.number)) v _ e in
    subst (FitsSigned w64) p.1 (signed_fits (signed int.sign (pos int.number)) p.0)

-- names and initial values grow together
pub record AreDeclared (names : List (List ℕ)) (values : List ℤ) (more : List (List ℕ)) (rest : List ℤ) : Type 0 where
  pub few : length more ≤ 256
  pub together : length more + length values ≡ length names + length rest
  pub proper : AllByRecursion (FitsSigned w64) rest

auxes_declared : (names more : List (List ℕ)) (values rest : List ℤ) (auxes : List RawAux) → length names ≤ 256 → AllByRecursion (FitsSigned w64) values → declared_auxes names values auxes ≡ Ok (more, rest) → AreDeclared names values more rest
auxes_declared names more values rest [] few fit e =
    let same = ok_same (names, values) (more, rest) e in
    subst (λ (p : List (List ℕ) × List ℤ). AreDeclared names values p.0 p.1) same (record { few = few; together = refl; proper = fit })
auxes_declared names more values rest (aux ∷ others) few fit e =
    let p = bound_ok (declared names aux.name) (λ longer. initial aux.value >>= λ value. declared_auxes longer (values ++ value ∷ []) others) (more, rest) e in
    let q = bound_ok (initial aux.value) (λ value. declared_auxes p.0 (values ++ value ∷ []) others) (more, rest) p.2 in
    let longer = declared_longer names p.0 aux.name few p.1 in
    let h = auxes_declared p.0 more (values ++ q.0 ∷ []) rest others longer.1 (each_append (FitsSigned w64) values (q.0 ∷ []) fit (initial_fits aux.value q.0 q.1, tt)) q.2 in
    let one : length (values ++ q.0 ∷ []) ≡ length values + 1 = length-append values (q.0 ∷ []) in
    record { few = h.few; together = omega (arith, h.together, longer.0, one); proper = h.proper }

-- ---- outlines

part_met : (scope : Scope) → scope.vars ≤ length scope.names → (raw : Option tree.Seq) (o : Option Sequence) → part scope raw ≡ Ok o → IfSome o (SequenceFollows scope.vars) × IfSome o (IsUsableSequence (length scope.names))
part_met scope wide None o e = subst (λ p. IfSome p (SequenceFollows scope.vars) × IfSome p (IsUsableSequence (length scope.names))) (ok_same None o e) (tt, tt)
part_met scope wide (Some seq) o e =
    let p = bound_ok (sequence scope seq) (λ q. Ok (Some q)) o e in
    subst (λ r. IfSome r (SequenceFollows scope.vars) × IfSome r (IsUsableSequence (length scope.names))) (ok_same (Some p.0) o p.2) (seq_met scope wide seq p.0 p.1)

each_left_of : {X : Type 0} (P Q : X → Type 0) (xs : List X) → AllByRecursion (λ x. P x × Q x) xs → AllByRecursion P xs
each_left_of P Q [] h = tt
each_left_of P Q (x ∷ xs) h = (h.0.0, each_left_of P Q xs h.1)

each_right_of : {X : Type 0} (P Q : X → Type 0) (xs : List X) → AllByRecursion (λ x. P x × Q x) xs → AllByRecursion Q xs
each_right_of P Q [] h = tt
each_right_of P Q (x ∷ xs) h = (h.0.1, each_right_of P Q xs h.1)

abbrev program_of : Scope → List ℤ → ℕ → Noted → Option Sequence → List Sequence → Option Sequence → Noted → Program
program_of scope values at pre prologue all epilogue post = record {
  names = scope.names;
  vars = scope.vars;
  aux_values = values;
  pre = pre;
  prologue = prologue;
  processes = all;
  epilogue = epilogue;
  post = post;
  cobegin_at = at;
}

outline_met : (scope : Scope) (values : List ℤ) (t : tree.Outline) (o : Program) → length scope.names ≡ scope.vars + length values → length scope.names ≤ 256 → IsProper values → 0 < length t.processes → outline_in scope values t ≡ Ok o → IsOutline o
outline_met scope values t o named few proper some e =
    let wide : scope.vars ≤ length scope.names = omega (arith, named) in
    let made = program_of scope values t.cobegin.start in
    let a = bound_ok (note scope Outer t.pre) (λ pre. part scope t.prologue >>= λ prologue. processes scope t.processes >>= λ all. part scope t.epilogue >>= λ epilogue. note scope Outer t.post >>= λ post. Ok (program_of scope values t.cobegin.start pre prologue all epilogue post)) o e in
    let b = bound_ok (part scope t.prologue) (λ prologue. processes scope t.processes >>= λ all. part scope t.epilogue >>= λ epilogue. note scope Outer t.post >>= λ post. Ok (program_of scope values t.cobegin.start a.0 prologue all epilogue post)) o a.2 in
    let c = bound_ok (processes scope t.processes) (λ all. part scope t.epilogue >>= λ epilogue. note scope Outer t.post >>= λ post. Ok (program_of scope values t.cobegin.start a.0 b.0 all epilogue post)) o b.2 in
    let d = bound_ok (part scope t.epilogue) (λ epilogue. note scope Outer t.post >>= λ post. Ok (program_of scope values t.cobegin.start a.0 b.0 c.0 epilogue post)) o c.2 in
    let p = bound_ok (note scope Outer t.post) (λ post. Ok (program_of scope values t.cobegin.start a.0 b.0 c.0 d.0 post)) o d.2 in
    let pre = outer_note scope wide t.pre a.0 a.1 in
    let post = outer_note scope wide t.post p.0 p.1 in
    let prologue = part_met scope wide t.prologue b.0 b.1 in
    let epilogue = part_met scope wide t.epilogue d.0 d.1 in
    let all = counted_each (λ q. SequenceFollows scope.vars q × IsUsableSequence (length scope.names) q) 256 (λ seq. faults.TooManyProcesses (place_of seq)) (sequence scope) (seq_met scope wide) 0 t.processes c.0 c.1 in
    let count = counted_length 256 (λ seq. faults.TooManyProcesses (place_of seq)) (sequence scope) 0 t.processes c.0 (omega arith) c.1 in
    subst IsOutline (ok_same (program_of scope values t.cobegin.start a.0 b.0 c.0 d.0 p.0) o p.2) (record {
      pre_plain = pre.0;
      post_plain = post.0;
      prologue_follows = prologue.0;
      follows = each_left_of (SequenceFollows scope.vars) (IsUsableSequence (length scope.names)) c.0 all;
      epilogue_follows = epilogue.0;
      aux_proper = proper;
      named = named;
      few = few;
      some_process = omega (arith, count.0, some);
      few_processes = omega (arith, count.1);
      pre_usable = pre.1;
      prologue_usable = prologue.1;
      usable = each_right_of (SequenceFollows scope.vars) (IsUsableSequence (length scope.names)) c.0 all;
      epilogue_usable = epilogue.1;
      post_usable = post.1;
    })

-- an outline that is resolved meets the rule and the limits
pub resolved_met : (t : tree.Outline) (o : Program) → 0 < length t.processes → resolved t ≡ Ok o → IsOutline o
resolved_met t o some e =
    let p = bound_ok (declared_vars [] t.vars) (λ vars. declared_auxes vars [] t.auxes >>= λ auxes. outline_in (record { names = auxes.0; vars = length vars }) auxes.1 t) o e in
    let q = bound_ok (declared_auxes p.0 [] t.auxes) (λ auxes. outline_in (record { names = auxes.0; vars = length p.0 }) auxes.1 t) o p.2 in
    let h = auxes_declared p.0 q.0.0 [] q.0.1 t.auxes (vars_few [] p.0 t.vars (omega arith) p.1) tt q.1 in
    outline_met (record { names = q.0.0; vars = length p.0 }) q.0.1 t o (omega (arith, h.together)) h.few (All-from_recursion (FitsSigned w64) q.0.1 h.proper) some q.2
