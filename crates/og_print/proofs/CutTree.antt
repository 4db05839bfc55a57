-- A printed tree is cut into the lexemes that it was printed by.
use Rattle.std.proofs.Common.{◌≡◌, ℕ, true, false, eqb, List, [], ◌∷◌, ◌++◌, Option, Some, None, refl, sym, subst, append-nil, append_assoc, arith}
use Rattle.std.specs.Prelude.{nat_le}
use Rattle.std.specs.Fmt.{decimal}
use Rattle.std.proofs.lemmas.Bool.Decides.{nat_tests}
use Rattle.og_text.specs.Lexemes.{is_white, is_letter, is_digit, Each, IsWord, IsNumber}
use Rattle.og_text.specs.declared.token.TokenKind.{TokenKind}
use Rattle.og_text.specs.declared.token.TokenKind.TheVariants as kinds
use Rattle.og_parse.specs.Language.{Placed}
use Rattle.og_parse.specs.declared.raw.RawName.{RawName}
use Rattle.og_parse.specs.declared.raw.RawAux.{RawAux}
use Rattle.og_parse.specs.declared.raw.Sign.{Sign}
use Rattle.og_parse.specs.declared.raw.Sign.TheVariants as signs
use Rattle.og_parse.specs.declared.raw.RawFactor.{RawFactor}
use Rattle.og_parse.specs.declared.raw.RawFactor.TheVariants as factors
use Rattle.og_parse.specs.declared.raw.RawTerm.{RawTerm}
use Rattle.og_parse.specs.Trees.{Assertion, Assertions, Truth, Falsity, Comparison, Negation, Conjunction, Disjunction, Implication, none, more, Note, Basic, Skip, Assign, Stmt, Simple, If, IfElse, While, Await, Seq, item, finish, Outline}
use Rattle.og_print.specs.Print.{written, spelling, sign_word, relation_word, looseness, leading_in, factor_in, later_terms_in, terms_in, fitted_in, assertion_in, joined_in, later_in, basic_in, later_elements_in, body_in, note_in, stmt_in, seq_in, later_names_in, vars_in, aux_in, later_auxes_in, auxes_in, main_in, later_processes_in, processes_in, cobegin_in, outline_in, outline_text, alone}
use Rattle.og_print.proofs.Reprint.{AreGood}
use Rattle.og_print.proofs.CutText.{first_of, decimal_is, Cuts, cuts_nothing}
use Rattle.og_print.proofs.CutParts.{Fits, Tail, Lines, fit_word, fit_tail, fit_minus, fit_cond, tail_nil, tail_blank, tail_close, tail_star, tail_append, fit_blank, fit_parens, fit_braces, line_of, lines_nil, lines_append}

-- ---- sums

fit_name : (x : RawName) → Fits x.name (kinds.Name x.name ∷ [])
fit_name x = fit_word (kinds.Name x.name)

fit_number : (n : ℕ) → Fits (decimal n) (kinds.Number n ∷ [])
fit_number n = fit_word (kinds.Number n)

fit_factor : (f : RawFactor) → Fits (factor_in written f) (factor_in alone f)
fit_factor (factors.Number n) = fit_number n
fit_factor (factors.Variable x) = fit_name x
fit_factor (factors.Product n x) = fit_tail (fit_number n) (tail_star (fit_name x))

fit_sign : (s : Sign) → Fits (spelling (sign_word s)) (sign_word s ∷ [])
fit_sign s = fit_word (sign_word s)

tail_terms : (ts : List RawTerm) → Tail (later_terms_in written ts) (later_terms_in alone ts)
tail_terms [] = tail_nil
tail_terms (t ∷ ts) = tail_blank (fit_blank (fit_sign t.sign) (fit_tail (fit_factor t.factor) (tail_terms ts)))

-- a name or a number begins with no `>`
letter_62 : (b : ℕ) → is_letter b ≡ true → eqb b 62 ≡ false
letter_62 b h = grind (arith, nat_tests)

digit_62 : (b : ℕ) → is_digit b ≡ true → eqb b 62 ≡ false
digit_62 b h = grind (arith, nat_tests)

word_62 : (bytes text : List ℕ) → IsWord bytes → eqb (first_of (bytes ++ text)) 62 ≡ false
word_62 [] text h = absurd h
word_62 (b ∷ bs) text h = letter_62 b h.0

number_62 : (bytes text : List ℕ) → IsNumber bytes → eqb (first_of (bytes ++ text)) 62 ≡ false
number_62 [] text h = absurd h
number_62 (b ∷ bs) text h = digit_62 b h.0

front_62 : (a b text : List ℕ) → ((rest : List ℕ) → eqb (first_of (a ++ rest)) 62 ≡ false) → eqb (first_of ((a ++ b) ++ text)) 62 ≡ false
front_62 a b text h = subst (λ (z : List ℕ). eqb (first_of z) 62 ≡ false) (sym (append_assoc a b text)) (h (b ++ text))

factor_62 : (f : RawFactor) (ks : List TokenKind) → AreGood (factor_in alone f ++ ks) → (text : List ℕ) → eqb (first_of (factor_in written f ++ text)) 62 ≡ false
factor_62 (factors.Number n) ks g text = number_62 (decimal n) text (decimal_is n g.0).0
factor_62 (factors.Variable x) ks g text = word_62 x.name text g.0.0
factor_62 (factors.Product n x) ks g text = front_62 (decimal n) (42 ∷ x.name) text (λ rest. number_62 (decimal n) rest (decimal_is n g.0).0)

fit_leading : {y : List ℕ} {ky : List TokenKind} (s : Sign) → (AreGood ky → (text : List ℕ) → eqb (first_of (y ++ text)) 62 ≡ false) → Fits y ky → Fits (leading_in written s ++ y) (leading_in alone s ++ ky)
fit_leading signs.Plus ends fy = fy
fit_leading signs.Minus ends fy = fit_minus ends fy

fit_terms : (ts : List RawTerm) → Fits (terms_in written ts) (terms_in alone ts)
fit_terms [] = record { run = λ g text js r. r.cuts }
fit_terms (t ∷ ts) =
    fit_leading t.sign
    (λ g text. front_62 (factor_in written t.factor) (later_terms_in written ts) text (factor_62 t.factor (later_terms_in alone ts) g))
    (fit_tail (fit_factor t.factor) (tail_terms ts))

-- ---- assertions

fit_fitted : (limit : ℕ) (a : Assertion) → Fits (assertion_in written a) (assertion_in alone a) → Fits (fitted_in written limit a (assertion_in written a)) (fitted_in alone limit a (assertion_in alone a))
fit_fitted limit a fa = fit_cond (nat_le (looseness a) limit) fa (fit_parens fa)

mutual
  fit_assertion : (a : Assertion) → Fits (assertion_in written a) (assertion_in alone a)
  fit_assertion Truth = fit_word kinds.True
  fit_assertion Falsity = fit_word kinds.False
  fit_assertion (Comparison left relation right) = fit_blank (fit_terms left.value) (fit_blank (fit_word (relation_word relation)) (fit_terms right.value))
  fit_assertion (Negation a) = fit_blank (fit_word kinds.Not) (fit_fitted 0 a (fit_assertion a))
  fit_assertion (Conjunction all) = fit_joined kinds.And 0 all
  fit_assertion (Disjunction all) = fit_joined kinds.Or 1 all
  fit_assertion (Implication left right) = fit_blank (fit_fitted 2 left (fit_assertion left)) (fit_blank (fit_word kinds.Arrow) (fit_assertion right))

  fit_joined : (between : TokenKind) (limit : ℕ) (all : Assertions) → Fits (joined_in written between limit all) (joined_in alone between limit all)
  fit_joined between limit none = record { run = λ g text js r. r.cuts }
  fit_joined between limit (more a others) = fit_tail (fit_fitted limit a (fit_assertion a)) (tail_later between limit others)

  tail_later : (between : TokenKind) (limit : ℕ) (all : Assertions) → Tail (later_in written between limit all) (later_in alone between limit all)
  tail_later between limit none = tail_nil
  tail_later between limit (more a others) = tail_blank (fit_blank (fit_word between) (fit_tail (fit_fitted limit a (fit_assertion a)) (tail_later between limit others)))

-- ---- statements

fit_basic : (b : Basic) → Fits (basic_in written b) (basic_in alone b)
fit_basic Skip = fit_word kinds.Skip
fit_basic (Assign x sum) = fit_blank (fit_name x) (fit_blank (fit_word kinds.Assign) (fit_terms sum.value))

tail_elements : (es : List (Placed Basic)) → Tail (later_elements_in written es) (later_elements_in alone es)
tail_elements [] = tail_nil
tail_elements (e ∷ es) = tail_close kinds.Semicolon (λ text. refl) (tail_blank (fit_tail (fit_basic e.value) (tail_elements es)))

fit_body : (es : List (Placed Basic)) → Fits (body_in written es) (body_in alone es)
fit_body [] = fit_blank (fit_word kinds.Begin) (fit_word kinds.End)
fit_body (e ∷ []) = fit_basic e.value
fit_body (e ∷ f ∷ fs) = fit_blank (fit_word kinds.Begin) (fit_tail (fit_basic e.value) (tail_append (tail_elements (f ∷ fs)) (tail_blank (fit_word kinds.End))))

lines_note : (indent : List ℕ) → Each is_white indent → (note : Note) → Lines (note_in written true indent note) (note_in alone true [] note)
lines_note indent white note = line_of indent white (fit_braces (fit_assertion note.value))

deeper_white : (indent : List ℕ) → Each is_white indent → Each is_white (32 ∷ 32 ∷ indent)
deeper_white indent white = (refl, (refl, white))

-- `word test opener` on a line
lines_opening : (indent : List ℕ) → Each is_white indent → (word opener : TokenKind) (test : Assertion)
    → Lines (written.line indent (spelling word ++ (32 ∷ (assertion_in written test ++ (32 ∷ (spelling opener ++ (32 ∷ spelling kinds.Begin))))))) ((word ∷ []) ++ (assertion_in alone test ++ ((opener ∷ []) ++ (kinds.Begin ∷ []))))
lines_opening indent white word opener test = line_of indent white (fit_blank (fit_word word) (fit_blank (fit_assertion test) (fit_blank (fit_word opener) (fit_word kinds.Begin))))

lines_end : (indent : List ℕ) → Each is_white indent → Lines (written.line indent (spelling kinds.End ++ [])) (kinds.End ∷ [])
lines_end indent white = line_of indent white (fit_word kinds.End)

mutual
  lines_stmt : (indent : List ℕ) → Each is_white indent → (s : Stmt) → Lines (stmt_in written true indent s []) (stmt_in alone true [] s [])
  lines_stmt indent white (Simple basic) = line_of indent white (fit_tail (fit_basic basic) tail_nil)
  lines_stmt indent white (If test first) =
      lines_append (lines_opening indent white kinds.If kinds.Then test)
      (lines_append (lines_seq (32 ∷ 32 ∷ indent) (deeper_white indent white) first) (lines_end indent white))
  lines_stmt indent white (IfElse test first other) =
      lines_append (lines_opening indent white kinds.If kinds.Then test)
      (lines_append (lines_seq (32 ∷ 32 ∷ indent) (deeper_white indent white) first)
      (lines_append (line_of indent white (fit_blank (fit_word kinds.End) (fit_blank (fit_word kinds.Else) (fit_word kinds.Begin))))
      (lines_append (lines_seq (32 ∷ 32 ∷ indent) (deeper_white indent white) other) (lines_end indent white))))
  lines_stmt indent white (While test body) =
      lines_append (lines_opening indent white kinds.While kinds.Do test)
      (lines_append (lines_seq (32 ∷ 32 ∷ indent) (deeper_white indent white) body) (lines_end indent white))
  lines_stmt indent white (Await guard body) =
      line_of indent white (fit_blank (fit_word kinds.Await) (fit_blank (fit_assertion guard) (fit_blank (fit_word kinds.Then) (fit_tail (fit_body body) tail_nil))))

  lines_seq : (indent : List ℕ) → Each is_white indent → (s : Seq) → Lines (seq_in written true indent s) (seq_in alone true [] s)
  lines_seq indent white (finish last) = lines_note indent white last
  lines_seq indent white (item before place stmt rest) = lines_append (lines_note indent white before) (lines_append (lines_stmt indent white stmt) (lines_seq indent white rest))

-- ---- outlines

tail_names : (xs : List RawName) → Tail (later_names_in written xs) (later_names_in alone xs)
tail_names [] = tail_nil
tail_names (x ∷ xs) = tail_close kinds.Comma (λ text. refl) (tail_blank (fit_tail (fit_name x) (tail_names xs)))

lines_vars : (xs : List RawName) → Lines (vars_in written xs) (vars_in alone xs)
lines_vars [] = lines_nil
lines_vars (x ∷ xs) = line_of [] tt (fit_blank (fit_word kinds.Var) (fit_tail (fit_name x) (tail_append (tail_names xs) (tail_close kinds.Semicolon (λ text. refl) tail_nil))))

fit_aux : (a : RawAux) → Fits (aux_in written a) (aux_in alone a)
fit_aux a =
    fit_blank (fit_name a.name)
    (fit_blank (fit_word kinds.Equal)
    (fit_leading a.value.sign (λ g text. number_62 (decimal a.value.number) text (decimal_is a.value.number g.0).0) (fit_number a.value.number)))

tail_auxes : (xs : List RawAux) → Tail (later_auxes_in written xs) (later_auxes_in alone xs)
tail_auxes [] = tail_nil
tail_auxes (x ∷ xs) = tail_close kinds.Comma (λ text. refl) (tail_blank (fit_tail (fit_aux x) (tail_auxes xs)))

lines_auxes : (xs : List RawAux) → Lines (auxes_in written xs) (auxes_in alone xs)
lines_auxes [] = lines_nil
lines_auxes (x ∷ xs) = line_of [] tt (fit_blank (fit_word kinds.Aux) (fit_tail (fit_aux x) (tail_append (tail_auxes xs) (tail_close kinds.Semicolon (λ text. refl) tail_nil))))

lines_word : (kind : TokenKind) → Lines (written.line [] (spelling kind)) (kind ∷ [])
lines_word kind = line_of [] tt (fit_word kind)

lines_main : (o : Option Seq) → Lines (main_in written true o) (main_in alone true o)
lines_main None = lines_nil
lines_main (Some s) = lines_append (lines_word kinds.Begin) (lines_append (lines_seq (32 ∷ 32 ∷ []) (refl, (refl, tt)) s) (lines_word kinds.End))

lines_later : (ss : List Seq) → Lines (later_processes_in written true ss) (later_processes_in alone true ss)
lines_later [] = lines_nil
lines_later (s ∷ ss) = lines_append (lines_word kinds.Parallel) (lines_append (lines_seq (32 ∷ 32 ∷ []) (refl, (refl, tt)) s) (lines_later ss))

lines_processes : (ss : List Seq) → Lines (processes_in written true ss) (processes_in alone true ss)
lines_processes [] = lines_nil
lines_processes (s ∷ ss) = lines_append (lines_seq (32 ∷ 32 ∷ []) (refl, (refl, tt)) s) (lines_later ss)

lines_cobegin : (ss : List Seq) → Lines (cobegin_in written true ss) (cobegin_in alone true ss)
lines_cobegin ss = lines_append (lines_word kinds.Cobegin) (lines_append (lines_processes ss) (lines_word kinds.Coend))

lines_outline : (o : Outline) → Lines (outline_in written true o) (outline_in alone true o)
lines_outline o =
    lines_append (lines_vars o.vars)
    (lines_append (lines_auxes o.auxes)
    (lines_append (lines_note [] tt o.pre)
    (lines_append (lines_main o.prologue) (lines_append (lines_cobegin o.processes) (lines_append (lines_main o.epilogue) (lines_note [] tt o.post))))))

-- the text of an outline is cut into the lexemes that it is printed by
pub cuts_outline : (o : Outline) → AreGood (outline_in alone true o) → Cuts (outline_text o) (outline_in alone true o)
cuts_outline o g =
    let c = (lines_outline o).run g [] [] cuts_nothing in
    subst (λ (z : List ℕ). Cuts z (outline_in alone true o)) (append-nil (outline_text o)) (subst (λ (z : List TokenKind). Cuts (outline_text o ++ []) z) (append-nil (outline_in alone true o)) c)
