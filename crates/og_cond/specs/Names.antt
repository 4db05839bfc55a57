-- The names under which kinds of conditions are printed.
use Rattle.std.specs.Prelude.{ℕ, List, codes}
use Rattle.og_cond.specs.declared.kind.Kind.{Kind}
use Rattle.og_cond.specs.declared.kind.Kind.TheVariants as kind

abbrev pub name_of_kind : Kind → List ℕ
name_of_kind kind.Prologue = codes "prologue"
name_of_kind kind.Start = codes "start"
name_of_kind kind.Step = codes "step"
name_of_kind kind.Range = codes "range"
name_of_kind kind.Then = codes "then"
name_of_kind kind.Else = codes "else"
name_of_kind kind.Join = codes "join"
name_of_kind kind.Enter = codes "enter"
name_of_kind kind.Again = codes "again"
name_of_kind kind.Leave = codes "leave"
name_of_kind kind.Interfere = codes "interfere"
name_of_kind kind.End = codes "end"
name_of_kind kind.Epilogue = codes "epilogue"
name_of_kind kind.Blocking = codes "blocking"
