-- Reading statements with what they are read with.
use Rattle.og_parse.specs.declared.statements.Context.{Context}
use Rattle.og_parse.specs.Reading.{Reader}
use Rattle.og_parse.specs.Trees.{Stmt, Seq}
use Rattle.og_parse.specs.Reads.{compound_at, seq_at}

abbrev pub compound_in : Context → Reader Stmt
compound_in context = compound_at context.levels context.awaits context.depth

abbrev pub seq_in : Context → Reader Seq
seq_in context = seq_at context.levels context.awaits context.depth
