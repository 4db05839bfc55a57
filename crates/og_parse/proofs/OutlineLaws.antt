-- The laws of reading outlines.
use Rattle.std.proofs.Common.{◌≡◌, ℕ, ◌≤◌, ◌<◌, Bool, true, false, List, [], Ok, refl, arith}
use Rattle.std.specs.Prelude.{unwrap_or}
use Rattle.og_text.specs.declared.token.TokenKind.TheVariants as kinds
use Rattle.og_parse.specs.Language.{Language, One, Separated}
use Rattle.og_text.specs.declared.token.Token.{Token}
use Rattle.og_parse.specs.Reading.{Reader, ◌>>=◌, nothing, is_a, or, symbol_at, if_symbol_at}
use Rattle.og_parse.proofs.Languages.{Laws}
use Rattle.og_parse.proofs.More.{then_avoids}
use Rattle.og_parse.proofs.Bundle.{Reads, is_a_fails, avoids_by, symbol_avoids, then_avoids_both, if_symbol_avoids, symbol_reads, then_reads, next_reads, map_reads, separated_reads, if_symbol_reads}
use Rattle.og_parse.specs.Trees.{Outline}
use Rattle.og_parse.specs.Words.{name_of}
use Rattle.og_parse.specs.Grammar.{IsAux, IsListed, IsSeq, IsMain, IsOutline}
use Rattle.og_parse.specs.Reads.{note_at, aux_at, names_at, auxes_at, listed_by, main_at, processes_at, declarations_at, opening_at, front_at, cobegin_at, closing_at, back_at, outline_at}
use Rattle.og_parse.proofs.Same.{nested, same_reads}
use Rattle.og_parse.proofs.TermLaws.{name_reads, int_reads}
use Rattle.og_parse.proofs.AssertionLaws.{note_level, note_starts}
use Rattle.og_parse.proofs.StatementLaws.{after_seq, rest_of_block_reads, seq_level}

aux_reads : {More : Type 0} → Reads More aux_at aux_at IsAux IsAux nothing
unfolding aux_at
aux_reads = next_reads (name_reads nothing) (λ name. next_reads (symbol_reads kinds.Equal refl nothing) (λ at. map_reads (λ value. record { name = name; value = value }) int_reads))

-- what goes on with a list
abbrev after_list : ℕ → Bool
after_list = or (is_a kinds.Comma) nothing

names_reads : {More : Type 0} → Reads More names_at names_at (Separated kinds.Comma (One name_of)) (Separated kinds.Comma (One name_of)) after_list
unfolding names_at
names_reads = separated_reads kinds.Comma refl (name_reads nothing) refl

auxes_reads : {More : Type 0} → Reads More auxes_at auxes_at (Separated kinds.Comma IsAux) (Separated kinds.Comma IsAux) after_list
unfolding auxes_at
auxes_reads = separated_reads kinds.Comma refl aux_reads refl

listed_reads : {More : Type 0} {X : Type 0} {list : Reader (List X)} {each : Language X} → Reads More list list (Separated kinds.Comma each) (Separated kinds.Comma each) after_list → Reads More (listed_by list) (listed_by list) (IsListed each) (IsListed each) nothing
unfolding listed_by
listed_reads all = then_reads all (λ all. map_reads (λ at. all) (symbol_reads kinds.Semicolon refl nothing)) (λ all. symbol_avoids kinds.Semicolon after_list refl)

-- ---- an outline, one part after the other

unfoldable by_steps : ℕ → Reader Outline
by_steps n tokens = do
  vars ← if_symbol_at kinds.Var (listed_by names_at) tokens
  auxes ← if_symbol_at kinds.Aux (listed_by auxes_at) vars.1
  pre ← note_at n auxes.1
  prologue ← main_at n pre.1
  cobegin ← symbol_at kinds.Cobegin prologue.1
  processes ← processes_at n cobegin.1
  coend ← symbol_at kinds.Coend processes.1
  epilogue ← main_at n coend.1
  post ← note_at n epilogue.1
  Ok (record { vars = unwrap_or vars.0 []; auxes = unwrap_or auxes.0 []; pre = pre.0; prologue = prologue.0; cobegin = cobegin.0; processes = processes.0; epilogue = epilogue.0; post = post.0 }, post.1)

steps_same : (n : ℕ) (tokens : List Token) → by_steps n tokens ≡ outline_at n tokens
unfolding by_steps outline_at front_at declarations_at opening_at back_at cobegin_at closing_at
steps_same n tokens = simp nested

module _ {More : Type 0} (n m : ℕ) (le : n ≤ m) (more : More → n < m) where
  main_reads : Reads More (main_at n) (main_at m) (IsMain n) (IsMain m) (or (is_a kinds.Begin) nothing)
  unfolding main_at
  main_reads = if_symbol_reads kinds.Begin refl (rest_of_block_reads n m le more (seq_level false n m le more))

  processes_reads : Reads More (processes_at n) (processes_at m) (Separated kinds.Parallel (IsSeq n true n)) (Separated kinds.Parallel (IsSeq m true m)) (or (is_a kinds.Parallel) after_seq)
  unfolding processes_at
  processes_reads = separated_reads kinds.Parallel refl (seq_level true n m le more) refl

  steps_level : Reads More (by_steps n) (by_steps m) (IsOutline n) (IsOutline m) nothing
  unfolding by_steps
  steps_level =
      then_reads (if_symbol_reads kinds.Var refl (listed_reads names_reads))
      (λ vars. then_reads (if_symbol_reads kinds.Aux refl (listed_reads auxes_reads))
      (λ auxes. next_reads (note_level n m le more)
      (λ pre. then_reads main_reads
      (λ prologue. next_reads (symbol_reads kinds.Cobegin refl nothing)
      (λ cobegin. then_reads processes_reads
      (λ processes. next_reads (symbol_reads kinds.Coend refl nothing)
      (λ coend. then_reads main_reads
      (λ epilogue. map_reads (λ post. record { vars = unwrap_or vars []; auxes = unwrap_or auxes []; pre = pre; prologue = prologue; cobegin = cobegin; processes = processes; epilogue = epilogue; post = post }) (note_level n m le more))
      (λ epilogue. then_avoids (avoids_by (is_a_fails kinds.OpenBrace (or (is_a kinds.Begin) nothing) refl) (note_starts m)))))
      (λ processes. symbol_avoids kinds.Coend (or (is_a kinds.Parallel) after_seq) refl)))
      (λ prologue. symbol_avoids kinds.Cobegin (or (is_a kinds.Begin) nothing) refl)))
      (λ auxes. then_avoids (avoids_by (is_a_fails kinds.OpenBrace (or (is_a kinds.Aux) nothing) refl) (note_starts m))))
      (λ vars. then_avoids_both (if_symbol_avoids kinds.Aux (IsListed IsAux) (or (is_a kinds.Var) nothing) refl) (λ auxes. then_avoids (avoids_by (is_a_fails kinds.OpenBrace (or (is_a kinds.Var) nothing) refl) (note_starts m))))

  pub outline_level : Reads More (outline_at n) (outline_at m) (IsOutline n) (IsOutline m) nothing
  outline_level = same_reads (steps_same n) (steps_same m) steps_level

pub outline_reads : (n m : ℕ) → n < m → Reads (Unit {0}) (outline_at n) (outline_at m) (IsOutline n) (IsOutline m) nothing
outline_reads n m lt = outline_level n m (omega arith) (λ p. lt)

-- ---- the parts that loops read

pub aux_laws : Laws aux_at IsAux nothing
aux_laws = (aux_reads {More = ⊥}).laws
