-- Each outline completes itself: the definitions can be met.
use Rattle.std.proofs.Common.{ℕ, List, [], ◌∷◌, length, Some, None, Option, IfSome, refl, sym, append-nil}
use Rattle.std.specs.List.{AllByRecursion}
use Rattle.og_typed.specs.Syntax.{Formula, Statement, Skip, Assign, If, While, Await, Otherwise, Nothing, Else, Sequence, Last, Then, Program}
use Rattle.og_typed.specs.Rule.{IsOutline, IsUsableSequence, IsUsableStatement, IsUsableOtherwise}
use Rattle.og_completion.specs.Completes.{Implies, OneByOne, InBoth, SequenceCompletes, StatementCompletes, OtherwiseCompletes, Completes}
use Rattle.og_completion.proofs.Actions.{body_itself}

implies_itself : (a : Formula) → Implies a a
implies_itself a s h = h

module _ (n : ℕ) where
  mutual
    sequence_itself : (p : Sequence) → IsUsableSequence n p → SequenceCompletes n p p
    sequence_itself (Last note) u = implies_itself note.assertion
    sequence_itself (Then before stmt at rest) u =
        (implies_itself before.assertion, statement_itself stmt u.1, sequence_itself rest u.2)

    statement_itself : (p : Statement) → IsUsableStatement n p → StatementCompletes n p p
    statement_itself Skip u = tt
    statement_itself (Assign x e) u = (refl, refl)
    statement_itself (If b branch other) u = (refl, sequence_itself branch u.1, otherwise_itself other u.2)
    statement_itself (While b body) u = (refl, sequence_itself body u.1)
    statement_itself (Await b body) u = (refl, body_itself n body)

    otherwise_itself : (p : Otherwise) → IsUsableOtherwise n p → OtherwiseCompletes n p p
    otherwise_itself Nothing u = tt
    otherwise_itself (Else branch) u = sequence_itself branch u

  part_itself : (part : Option Sequence) → IfSome part (IsUsableSequence n) → InBoth (SequenceCompletes n) part part
  part_itself None u = tt
  part_itself (Some part) u = sequence_itself part u

  each_itself : (ps : List Sequence) → AllByRecursion (IsUsableSequence n) ps → OneByOne (SequenceCompletes n) ps ps
  each_itself [] u = tt
  each_itself (p ∷ ps) u = (sequence_itself p u.0, each_itself ps u.1)

pub completes_itself : (o : Program) → IsOutline o → Completes o o
completes_itself o rule = record {
  more_names = [];
  names = sym (append-nil o.names);
  vars = refl;
  more_values = [];
  aux_values = sym (append-nil o.aux_values);
  pre = refl;
  prologue = part_itself (length o.names) o.prologue rule.prologue_usable;
  processes = each_itself (length o.names) o.processes rule.usable;
  epilogue = part_itself (length o.names) o.epilogue rule.epilogue_usable;
  post = refl;
}
