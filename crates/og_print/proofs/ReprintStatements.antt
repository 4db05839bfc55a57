-- Printed statements are read as they were, with no more levels.
use Rattle.std.proofs.Common.{◌≡◌, ℕ, zero, suc, Bool, true, false, List, [], ◌∷◌, ◌++◌, map, Option, Some, None, option_map, refl, sym, ap, ◌∙◌, inl, inr, append-nil, append_assoc}
use Rattle.og_text.specs.declared.token.TokenKind.{TokenKind}
use Rattle.og_text.specs.declared.token.TokenKind.TheVariants as kinds
use Rattle.og_text.specs.declared.token.Token.{Token}
use Rattle.og_parse.specs.Language.{Language, Placed, Allowed}
use Rattle.og_parse.specs.declared.raw.RawName.{RawName}
use Rattle.og_parse.specs.Trees.{Sum, Assertion, Note, Basic, Skip, Assign, Stmt, Simple, While, Await, choice, Step, sequence, Seq, item}
use Rattle.og_parse.specs.Grammar.{IsNote, IsBasic, IsElement, IsBody, IsAwait, IsBlock, IsIf, IsWhile, IsStmtWith, IsStepWith, IsSeqWith, compounds, IsSeq}
use Rattle.og_parse.proofs.Productions.{IsBraced, IsBareElement, IsSimple, IsRestOfBlock, IsElements}
use Rattle.og_print.specs.Plain.{placed, plain_name, plain_sum, plain_assertion, plain_note, plain_basic, plain_stmt, plain_seq}
use Rattle.og_print.specs.Print.{terms_in, basic_in, later_elements_in, body_in, note_in, stmt_in, seq_in, alone}
use Rattle.og_print.proofs.Reprint.{Prints, prints_same, prints_as, prints_within, front_good, back_good, prints_then, prints_last, prints_word, prints_end, prints_inl, prints_inr, prints_placed, prints_many, prints_if_symbol, prints_separated, joined, behind_some}
use Rattle.og_print.proofs.ReprintSums.{prints_name, prints_sum}
use Rattle.og_print.proofs.ReprintAssertions.{printed, prints_assertion}

-- ---- notes

abbrev pub note_printed : Note → List TokenKind
note_printed note = note_in alone true [] note

prints_braced : (n : ℕ) (a : Assertion) (tokens : List Token) → IsBraced n a tokens → Prints (IsBraced n) plain_assertion tokens (kinds.OpenBrace ∷ (printed a ++ kinds.CloseBrace ∷ [])) a
prints_braced n a tokens d =
    let b = d.is_second.head in
    prints_same (λ (x : Assertion). kinds.OpenBrace ∷ (printed x ++ kinds.CloseBrace ∷ [])) a b d.is_second.is_second.is_second.0
    (prints_word d kinds.OpenBrace (printed b ++ kinds.CloseBrace ∷ []) tt
    (λ at. prints_then d.is_second (printed b) (kinds.CloseBrace ∷ []) (prints_assertion n b d.is_second.front d.is_second.is_first)
    (λ x e. prints_end (λ end. x) kinds.CloseBrace tt (λ end. e))))

pub prints_note : (n : ℕ) (note : Note) (tokens : List Token) → IsNote n note tokens → Prints (IsNote n) plain_note tokens (note_printed note) note
prints_note n note tokens d = prints_placed note (prints_braced n note.value tokens d.0)

-- ---- basic statements

prints_basic : (b : Basic) (tokens : List Token) → IsBasic b tokens → Prints IsBasic plain_basic tokens (basic_in alone b) b
prints_basic b tokens (inl d) = prints_same (basic_in alone) b Skip d.is_second.0 (prints_inl (prints_end (λ at. Skip) kinds.Skip tt (λ at. refl)))
prints_basic b tokens (inr d) =
    let x = d.head in
    let d2 = d.is_second.is_second in
    let s = d2.head in
    prints_same (basic_in alone) b (Assign x s) d2.is_second.0
    (prints_inr (prints_then d (kinds.Name x.name ∷ []) (kinds.Assign ∷ terms_in alone s.value) (prints_name x d.front d.is_first)
    (λ y ey. prints_word d.is_second kinds.Assign (terms_in alone s.value) tt
    (λ at. prints_last d2 (λ (z : Sum). Assign y z) (terms_in alone s.value) (prints_sum s d2.front d2.is_first)
    (λ z ez. ap (λ (v : RawName). Assign v (plain_sum z)) ey ∙ ap (λ (v : Sum). Assign (plain_name x) v) ez)))))

abbrev element_printed : Placed Basic → List TokenKind
element_printed e = basic_in alone e.value

prints_element : (e : Placed Basic) (tokens : List Token) → IsElement e tokens → Prints IsElement (placed plain_basic) tokens (element_printed e) e
prints_element e tokens d = prints_placed e (prints_basic e.value tokens d.0)

prints_bare : (x : Placed Basic) (tokens : List Token) → IsElement x tokens → Prints IsBareElement (map (placed plain_basic)) tokens (element_printed x) (x ∷ [])
prints_bare x tokens d = record {
  again = λ others k.
      let y = (prints_element x tokens d).again others k in
      record { value = y.value ∷ []; is_read = record { head = y.value; front = others; back = []; parts = sym (append-nil others); is_first = y.is_read; is_second = (refl, refl) }; same = ap (λ (z : Placed Basic). z ∷ []) y.same };
  good = (prints_element x tokens d).good;
}

abbrev elements_printed : List (Placed Basic) → List TokenKind
elements_printed es = joined element_printed (later_elements_in alone) es

body_printed : (x y : Placed Basic) (ys : List (Placed Basic)) → kinds.Begin ∷ (elements_printed (x ∷ y ∷ ys) ++ kinds.End ∷ []) ≡ body_in alone (x ∷ y ∷ ys)
body_printed x y ys = ap (λ (ks : List TokenKind). kinds.Begin ∷ ks) (append_assoc (element_printed x) (later_elements_in alone (y ∷ ys)) (kinds.End ∷ []))

prints_elements : (others : List (Placed Basic)) (es : List (Placed Basic)) (tokens : List Token) (d : IsElements es tokens) → d.is_second.is_first.is_second.head ≡ others → Prints IsBody (map (placed plain_basic)) tokens (body_in alone es) es
prints_elements [] es tokens d e =
    let s = d.is_second.is_first in
    let same : es ≡ s.head ∷ [] = d.is_second.is_second.is_second.0 ∙ s.is_second.is_second.0 ∙ ap (λ (zs : List (Placed Basic)). s.head ∷ zs) e in
    prints_same (body_in alone) es (s.head ∷ []) same (prints_within (λ g. front_good s (front_good d.is_second (back_good d g))) (prints_inr (prints_bare s.head s.front s.is_first)))
prints_elements (y ∷ ys) es tokens d e =
    let s = d.is_second.is_first in
    let all = d.is_second.head in
    let whole : all ≡ s.head ∷ y ∷ ys = s.is_second.is_second.0 ∙ ap (λ (zs : List (Placed Basic)). s.head ∷ zs) e in
    let same : es ≡ all = d.is_second.is_second.is_second.0 in
    let same_printed : kinds.Begin ∷ (elements_printed all ++ kinds.End ∷ []) ≡ body_in alone all =
    ap (λ (zs : List (Placed Basic)). kinds.Begin ∷ (elements_printed zs ++ kinds.End ∷ [])) whole ∙ body_printed s.head y ys ∙ ap (body_in alone) (sym whole) in
    prints_same (body_in alone) es all same
    (prints_as (kinds.Begin ∷ (elements_printed all ++ kinds.End ∷ [])) (body_in alone all) same_printed
    (prints_inl (prints_word d kinds.Begin (elements_printed all ++ kinds.End ∷ []) tt
    (λ at. prints_then d.is_second (elements_printed all) (kinds.End ∷ [])
    (prints_separated kinds.Semicolon tt IsElement IsElement (placed plain_basic) element_printed prints_element (later_elements_in alone) refl (λ x xs. refl) all d.is_second.front d.is_second.is_first)
    (λ fs ef. prints_end (λ end. fs) kinds.End tt (λ end. ef))))))

prints_body : (es : List (Placed Basic)) (tokens : List Token) → IsBody es tokens → Prints IsBody (map (placed plain_basic)) tokens (body_in alone es) es
prints_body es tokens (inl d) = prints_elements d.is_second.is_first.is_second.head es tokens d refl
prints_body es tokens (inr d) = prints_same (body_in alone) es (d.head ∷ []) d.is_second.0 (prints_within (front_good d) (prints_inr (prints_bare d.head d.front d.is_first)))

-- ---- statements without levels

abbrev pub stmt_printed : Stmt → List TokenKind
stmt_printed s = stmt_in alone true [] s []

prints_simple : (s : Stmt) (tokens : List Token) → IsSimple s tokens → Prints IsSimple plain_stmt tokens (stmt_printed s) s
prints_simple s tokens d =
    prints_same stmt_printed s (Simple d.head) d.is_second.0
    (prints_as (basic_in alone d.head) (stmt_printed (Simple d.head)) (sym (append-nil (basic_in alone d.head)))
    (prints_last d Simple (basic_in alone d.head) (prints_basic d.head d.front d.is_first) (λ b e. ap Simple e)))

prints_await : (n : ℕ) (s : Stmt) (tokens : List Token) → IsAwait n s tokens → Prints (IsAwait n) plain_stmt tokens (stmt_printed s) s
prints_await n s tokens d =
    let d1 = d.is_second in
    let guard = d1.head in
    let d3 = d1.is_second.is_second in
    let body = d3.head in
    let rest = kinds.Then ∷ body_in alone body in
    let same : kinds.Await ∷ (printed guard ++ rest) ≡ stmt_printed (Await guard body) = ap (λ (ks : List TokenKind). kinds.Await ∷ (printed guard ++ (kinds.Then ∷ ks))) (sym (append-nil (body_in alone body))) in
    prints_same stmt_printed s (Await guard body) d3.is_second.0
    (prints_as (kinds.Await ∷ (printed guard ++ rest)) (stmt_printed (Await guard body)) same
    (prints_word d kinds.Await (printed guard ++ rest) tt
    (λ at. prints_then d1 (printed guard) rest (prints_assertion n guard d1.front d1.is_first)
    (λ g eg. prints_word d1.is_second kinds.Then (body_in alone body) tt
    (λ then_at. prints_last d3 (λ (es : List (Placed Basic)). Await g es) (body_in alone body) (prints_body body d3.front d3.is_first)
    (λ es ee. ap (λ (z : Assertion). Await z (map (placed plain_basic) es)) eg ∙ ap (λ (z : List (Placed Basic)). Await (plain_assertion guard) z) ee))))))

prints_allowed : (allowed : Bool) (is : Language Stmt) → ((s : Stmt) (tokens : List Token) → is s tokens → Prints is plain_stmt tokens (stmt_printed s) s)
    → (s : Stmt) (tokens : List Token) → Allowed allowed is s tokens → Prints (Allowed allowed is) plain_stmt tokens (stmt_printed s) s
prints_allowed true is part s tokens d = part s tokens d
prints_allowed false is part s tokens d = absurd d

-- ---- sequences

abbrev pub seq_printed : Seq → List TokenKind
seq_printed s = seq_in alone true [] s

abbrev plain_step : Step → Step
plain_step s = record { stmt = placed plain_stmt s.stmt; after = plain_note s.after }

abbrev step_printed : Step → List TokenKind
step_printed s = stmt_printed s.stmt.value ++ note_printed s.after

abbrev steps_printed : List Step → List TokenKind
steps_printed [] = []
steps_printed (s ∷ ss) = step_printed s ++ steps_printed ss

sequence_printed : (before : Note) (ss : List Step) → note_printed before ++ steps_printed ss ≡ seq_printed (sequence before ss)
sequence_printed before [] = append-nil (note_printed before)
sequence_printed before (s ∷ ss) =
    ap (λ (ks : List TokenKind). note_printed before ++ ks)
    (append_assoc (stmt_printed s.stmt.value) (note_printed s.after) (steps_printed ss) ∙ ap (λ (ks : List TokenKind). stmt_printed s.stmt.value ++ ks) (sequence_printed s.after ss))

plain_sequence : (before : Note) (ss : List Step) → plain_seq (sequence before ss) ≡ sequence (plain_note before) (map plain_step ss)
plain_sequence before [] = refl
plain_sequence before (s ∷ ss) = ap (λ (r : Seq). item (plain_note before) Rattle.og_print.specs.Plain.nowhere (plain_stmt s.stmt.value) r) (plain_sequence s.after ss)

module _ (n : ℕ) (awaits : Bool) (compound : Language Stmt) (part : (s : Stmt) (tokens : List Token) → compound s tokens → Prints compound plain_stmt tokens (stmt_printed s) s) where
  prints_stmt : (s : Stmt) (tokens : List Token) → IsStmtWith n awaits compound s tokens → Prints (IsStmtWith n awaits compound) plain_stmt tokens (stmt_printed s) s
  prints_stmt s tokens (inl d) = prints_inl (part s tokens d)
  prints_stmt s tokens (inr (inl d)) = prints_inr (prints_inl (prints_allowed awaits (IsAwait n) (prints_await n) s tokens d))
  prints_stmt s tokens (inr (inr d)) = prints_inr (prints_inr (prints_simple s tokens d))

  prints_step : (s : Step) (tokens : List Token) → IsStepWith n awaits compound s tokens → Prints (IsStepWith n awaits compound) plain_step tokens (step_printed s) s
  prints_step s tokens d =
      let stmt = d.head in
      let after = d.is_second.head in
      let made : Step = record { stmt = stmt; after = after } in
      prints_same step_printed s made d.is_second.is_second.0
      (prints_then d (stmt_printed stmt.value) (note_printed after) (prints_placed stmt (prints_stmt stmt.value d.front d.is_first.0))
      (λ t et. prints_last d.is_second (λ (a : Note). let y : Step = record { stmt = t; after = a } in y) (note_printed after) (prints_note n after d.is_second.front d.is_second.is_first)
      (λ a ea. ap (λ (z : Placed Stmt). let y : Step = record { stmt = z; after = plain_note a } in y) et ∙ ap (λ (z : Note). let y : Step = record { stmt = placed plain_stmt stmt; after = z } in y) ea)))

  pub prints_seq_with : (s : Seq) (tokens : List Token) → IsSeqWith n awaits compound s tokens → Prints (IsSeqWith n awaits compound) plain_seq tokens (seq_printed s) s
  prints_seq_with s tokens d =
      let before = d.head in
      let d1 = d.is_second in
      let first = d1.head in
      let d2 = d1.is_second in
      let others = d2.head in
      prints_same seq_printed s (sequence before (first ∷ others)) d2.is_second.0
      (prints_as (note_printed before ++ (step_printed first ++ steps_printed others)) (seq_printed (sequence before (first ∷ others))) (sequence_printed before (first ∷ others))
      (prints_then d (note_printed before) (step_printed first ++ steps_printed others) (prints_note n before d.front d.is_first)
      (λ b eb. prints_then d1 (step_printed first) (steps_printed others) (prints_step first d1.front d1.is_first)
      (λ f ef. prints_last d2 (λ (ss : List Step). sequence b (f ∷ ss)) (steps_printed others)
      (prints_many (IsStepWith n awaits compound) (IsStepWith n awaits compound) plain_step step_printed steps_printed refl (λ x xs. refl) prints_step others d2.front d2.is_first)
      (λ ss es.
      plain_sequence b (f ∷ ss)
      ∙ ap (λ (z : Note). sequence z (plain_step f ∷ map plain_step ss)) eb
      ∙ ap (λ (z : Step). sequence (plain_note before) (z ∷ map plain_step ss)) ef
      ∙ ap (λ (zs : List Step). sequence (plain_note before) (plain_step first ∷ zs)) es
      ∙ sym (plain_sequence before (first ∷ others)))))))

-- ---- statements with levels

abbrev pub rest_printed : Seq → List TokenKind
rest_printed s = seq_printed s ++ kinds.End ∷ []

abbrev block_printed : Seq → List TokenKind
block_printed s = kinds.Begin ∷ rest_printed s

choice_printed : (test : Assertion) (first : Seq) (other : Option Seq) → kinds.If ∷ (printed test ++ (kinds.Then ∷ (block_printed first ++ behind_some kinds.Else block_printed other))) ≡ stmt_printed (choice test first other)
choice_printed test first None =
    ap (λ (ks : List TokenKind). kinds.If ∷ (printed test ++ (kinds.Then ∷ kinds.Begin ∷ ks))) (append-nil (rest_printed first))
    ∙ ap (λ (ks : List TokenKind). kinds.If ∷ ks) (sym (append_assoc (printed test) (kinds.Then ∷ kinds.Begin ∷ []) (rest_printed first)))
choice_printed test first (Some other) =
    let tail = kinds.Else ∷ block_printed other in
    ap (λ (ks : List TokenKind). kinds.If ∷ (printed test ++ (kinds.Then ∷ kinds.Begin ∷ ks))) (append_assoc (seq_printed first) (kinds.End ∷ []) tail)
    ∙ ap (λ (ks : List TokenKind). kinds.If ∷ ks) (sym (append_assoc (printed test) (kinds.Then ∷ kinds.Begin ∷ []) (seq_printed first ++ (kinds.End ∷ tail))))

plain_choice : (test : Assertion) (first : Seq) (other : Option Seq) → plain_stmt (choice test first other) ≡ choice (plain_assertion test) (plain_seq first) (option_map plain_seq other)
plain_choice test first None = refl
plain_choice test first (Some other) = refl

while_printed : (test : Assertion) (body : Seq) → kinds.While ∷ (printed test ++ (kinds.Do ∷ block_printed body)) ≡ stmt_printed (While test body)
while_printed test body = ap (λ (ks : List TokenKind). kinds.While ∷ ks) (sym (append_assoc (printed test) (kinds.Do ∷ kinds.Begin ∷ []) (rest_printed body)))

module _ (seq : Language Seq) (part : (s : Seq) (tokens : List Token) → seq s tokens → Prints seq plain_seq tokens (seq_printed s) s) where
  pub prints_rest : (s : Seq) (tokens : List Token) → IsRestOfBlock seq s tokens → Prints (IsRestOfBlock seq) plain_seq tokens (rest_printed s) s
  prints_rest s tokens d =
      prints_same rest_printed s d.head d.is_second.is_second.0
      (prints_then d (seq_printed d.head) (kinds.End ∷ []) (part d.head d.front d.is_first) (λ t et. prints_end (λ end. t) kinds.End tt (λ end. et)))

  prints_block : (s : Seq) (tokens : List Token) → IsBlock seq s tokens → Prints (IsBlock seq) plain_seq tokens (block_printed s) s
  prints_block s tokens d = prints_word d kinds.Begin (rest_printed s) tt (λ at. prints_rest s d.back d.is_second)

  prints_if : (n : ℕ) (s : Stmt) (tokens : List Token) → IsIf n seq s tokens → Prints (IsIf n seq) plain_stmt tokens (stmt_printed s) s
  prints_if n s tokens d =
      let d1 = d.is_second in
      let test = d1.head in
      let d3 = d1.is_second.is_second in
      let first = d3.head in
      let d4 = d3.is_second in
      let other = d4.head in
      let else_part = behind_some kinds.Else block_printed other in
      prints_same stmt_printed s (choice test first other) d4.is_second.0
      (prints_as (kinds.If ∷ (printed test ++ (kinds.Then ∷ (block_printed first ++ else_part)))) (stmt_printed (choice test first other)) (choice_printed test first other)
      (prints_word d kinds.If (printed test ++ (kinds.Then ∷ (block_printed first ++ else_part))) tt
      (λ at. prints_then d1 (printed test) (kinds.Then ∷ (block_printed first ++ else_part)) (prints_assertion n test d1.front d1.is_first)
      (λ a ea. prints_word d1.is_second kinds.Then (block_printed first ++ else_part) tt
      (λ then_at. prints_then d3 (block_printed first) else_part (prints_block first d3.front d3.is_first)
      (λ f ef. prints_last d4 (λ (o : Option Seq). choice a f o) else_part
      (prints_if_symbol kinds.Else tt (IsBlock seq) (IsBlock seq) plain_seq block_printed prints_block other d4.front d4.is_first)
      (λ o eo.
      plain_choice a f o
      ∙ ap (λ (z : Assertion). choice z (plain_seq f) (option_map plain_seq o)) ea
      ∙ ap (λ (z : Seq). choice (plain_assertion test) z (option_map plain_seq o)) ef
      ∙ ap (λ (z : Option Seq). choice (plain_assertion test) (plain_seq first) z) eo
      ∙ sym (plain_choice test first other))))))))

  prints_while : (n : ℕ) (s : Stmt) (tokens : List Token) → IsWhile n seq s tokens → Prints (IsWhile n seq) plain_stmt tokens (stmt_printed s) s
  prints_while n s tokens d =
      let d1 = d.is_second in
      let test = d1.head in
      let d3 = d1.is_second.is_second in
      let body = d3.head in
      prints_same stmt_printed s (While test body) d3.is_second.0
      (prints_as (kinds.While ∷ (printed test ++ (kinds.Do ∷ block_printed body))) (stmt_printed (While test body)) (while_printed test body)
      (prints_word d kinds.While (printed test ++ (kinds.Do ∷ block_printed body)) tt
      (λ at. prints_then d1 (printed test) (kinds.Do ∷ block_printed body) (prints_assertion n test d1.front d1.is_first)
      (λ a ea. prints_word d1.is_second kinds.Do (block_printed body) tt
      (λ do_at. prints_last d3 (λ (b : Seq). While a b) (block_printed body) (prints_block body d3.front d3.is_first)
      (λ b eb. ap (λ (z : Assertion). While z (plain_seq b)) ea ∙ ap (λ (z : Seq). While (plain_assertion test) z) eb))))))

prints_compound : (n : ℕ) (awaits : Bool) (k : ℕ) (s : Stmt) (tokens : List Token) → compounds n awaits k s tokens → Prints (compounds n awaits k) plain_stmt tokens (stmt_printed s) s
prints_compound n awaits zero s tokens d = absurd d
prints_compound n awaits (suc k) s tokens (inl d) = prints_inl (prints_if (IsSeqWith n awaits (compounds n awaits k)) (prints_seq_with n awaits (compounds n awaits k) (prints_compound n awaits k)) n s tokens d)
prints_compound n awaits (suc k) s tokens (inr d) = prints_inr (prints_while (IsSeqWith n awaits (compounds n awaits k)) (prints_seq_with n awaits (compounds n awaits k) (prints_compound n awaits k)) n s tokens d)

pub prints_seq : (n : ℕ) (awaits : Bool) (k : ℕ) (s : Seq) (tokens : List Token) → IsSeq n awaits k s tokens → Prints (IsSeq n awaits k) plain_seq tokens (seq_printed s) s
prints_seq n awaits k s tokens d = prints_seq_with n awaits (compounds n awaits k) (prints_compound n awaits k) s tokens d
