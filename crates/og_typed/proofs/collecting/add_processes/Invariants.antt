use Rattle.std.proofs.Common.{◌≡◌, ◌++◌, None, map}
use Rattle.og_typed.specs.Plain.{sequence}
use Rattle.og_typed.specs.Seen.{note_of, statement_of}
use Rattle.og_typed.specs.Sites.{note_sites, statement_sites, of_processes}
use Rattle.og_typed.proofs.SiteItems.{processes_from}
use Rattle.og_typed.proofs.collecting.add_processes.Given as goal

abbrev pub invariant-loop-index : goal.invariant-loop-index
invariant-loop-index l =
    (map note_of l.sites.notes.items ++ processes_from (λ p. note_sites p None) l.index l.processes
    ≡ map note_of l.fn.sites.notes.items ++ of_processes (λ p. note_sites p None) 0 (map sequence l.processes))
    × (map statement_of l.sites.statements.items ++ processes_from statement_sites l.index l.processes
    ≡ map statement_of l.fn.sites.statements.items ++ of_processes statement_sites 0 (map sequence l.processes))
