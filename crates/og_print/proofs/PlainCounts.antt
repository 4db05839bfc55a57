-- A tree without its places has as many statements.
use Rattle.std.proofs.Common.{◌≡◌, List, [], ◌∷◌, map, Option, Some, None, option_map, refl, arith}
use Rattle.std.specs.Prelude.{sum_by}
use Rattle.std.proofs.lemmas.List.Sums.{sum_by-cons}
use Rattle.og_parse.specs.Trees.{Stmt, Simple, If, IfElse, While, Await, Seq, item, finish, Outline}
use Rattle.og_parse.specs.Counts.{inner_count, seq_count, main_count, outline_count}
use Rattle.og_print.specs.Plain.{plain_stmt, plain_seq, plain}

mutual
  inner_count-plain : (s : Stmt) → inner_count (plain_stmt s) ≡ inner_count s
  inner_count-plain (Simple basic) = refl
  inner_count-plain (If test first) = seq_count-plain first
  inner_count-plain (IfElse test first other) = omega (arith, seq_count-plain first, seq_count-plain other)
  inner_count-plain (While test body) = seq_count-plain body
  inner_count-plain (Await guard body) = refl

  seq_count-plain : (s : Seq) → seq_count (plain_seq s) ≡ seq_count s
  seq_count-plain (item before place stmt rest) = omega (arith, inner_count-plain stmt, seq_count-plain rest)
  seq_count-plain (finish last) = refl

main_count-plain : (o : Option Seq) → main_count (option_map plain_seq o) ≡ main_count o
main_count-plain None = refl
main_count-plain (Some s) = seq_count-plain s

sum-plain : (ss : List Seq) → sum_by seq_count (map plain_seq ss) ≡ sum_by seq_count ss
sum-plain [] = refl
sum-plain (s ∷ ss) = omega (arith, sum_by-cons seq_count (plain_seq s) (map plain_seq ss), sum_by-cons seq_count s ss, seq_count-plain s, sum-plain ss)

pub outline_count-plain : (o : Outline) → outline_count (plain o) ≡ outline_count o
outline_count-plain o = omega (arith, main_count-plain o.prologue, sum-plain o.processes, main_count-plain o.epilogue)
