use Rattle.std.proofs.Common.{◌≡◌, ◌++◌, drop, map}
use Rattle.og_parse.specs.TreeOf.{seq_of}
use Rattle.og_print.specs.Print.{written, later_processes_in}
use Rattle.og_print.proofs.outline.put_processes.Given as goal

abbrev pub invariant-loop-process : goal.invariant-loop-process
invariant-loop-process l = l.text.items ++ later_processes_in written l.notes (map seq_of (drop l.process-index l.processes.others.items)) ≡ l.initial.text.items ++ later_processes_in written l.notes (map seq_of l.processes.others.items)
