-- An outline in two parts, and a statement, as a parser puts them together.
use Rattle.std.specs.Prelude.{List, Option}
use Rattle.og_text.specs.declared.place.Span.{Span}
use Rattle.og_parse.specs.declared.raw.RawName.{RawName}
use Rattle.og_parse.specs.declared.raw.RawAux.{RawAux}
use Rattle.og_parse.specs.Trees.{Note, Stmt, Seq, Step, Outline}

abbrev pub step_of : Span → Stmt → Note → Step
step_of place stmt after = record { stmt = record { place = place; value = stmt }; after = after }

-- what stands before 'cobegin'
pub record Front : Type 0 where
  pub vars : List RawName
  pub auxes : List RawAux
  pub pre : Note
  pub prologue : Option Seq

-- what stands from 'cobegin' on
pub record Back : Type 0 where
  pub cobegin : Span
  pub processes : List Seq
  pub epilogue : Option Seq
  pub post : Note

abbrev pub joined : Front → Back → Outline
joined front back = record {
  vars = front.vars;
  auxes = front.auxes;
  pre = front.pre;
  prologue = front.prologue;
  cobegin = back.cobegin;
  processes = back.processes;
  epilogue = back.epilogue;
  post = back.post;
}
