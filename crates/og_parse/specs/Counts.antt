-- How many statements a tree has, outside the bodies of awaits.
use Rattle.std.specs.Prelude.{ℕ, ◌+◌, sum_by, Option, Some, None}
use Rattle.og_parse.specs.Trees.{Stmt, Simple, If, IfElse, While, Await, Seq, item, finish, Outline}

abbrev mutual
  -- inside a statement
  pub inner_count : Stmt → ℕ
  inner_count (Simple basic) = 0
  inner_count (If test branch) = seq_count branch
  inner_count (IfElse test branch other) = seq_count branch + seq_count other
  inner_count (While test body) = seq_count body
  inner_count (Await guard body) = 0

  pub seq_count : Seq → ℕ
  seq_count (item before place stmt rest) = 1 + inner_count stmt + seq_count rest
  seq_count (finish last) = 0

abbrev pub main_count : Option Seq → ℕ
main_count None = 0
main_count (Some s) = seq_count s

abbrev pub outline_count : Outline → ℕ
outline_count o = main_count o.prologue + sum_by seq_count o.processes + main_count o.epilogue
