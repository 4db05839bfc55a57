use Rattle.std.proofs.Common.{◌≡◌, ◌++◌, map, drop}
use Rattle.og_typed.specs.declared.statement.Seq.{out-Seq}
use Rattle.og_typed.specs.Plain.{noted, sequence}
use Rattle.og_typed.specs.Seen.{note_of, statement_of, leads_of}
use Rattle.og_typed.specs.Sites.{note_sites, statement_sites}
use Rattle.og_typed.proofs.SiteItems.{notes_from, statements_from}
use Rattle.og_typed.proofs.collecting.+collecting.Given as goal

abbrev pub decreases-add_seq : goal.decreases-add_seq
decreases-add_seq l = goal.size-add_seq l

abbrev pub decreases-add_item : goal.decreases-add_item
decreases-add_item l = goal.size-add_item l

-- the rest of both lists completes them
abbrev pub invariant-add_seq-loop-index : goal.invariant-add_seq-loop-index
invariant-add_seq-loop-index l =
    (map note_of l.sites.notes.items ++ notes_from l.part (leads_of l.leads) (drop l.index (out-Seq l.seq).items.items) (noted (out-Seq l.seq).last)
    ≡ map note_of l.fn.sites.notes.items ++ note_sites l.part (leads_of l.leads) (sequence l.seq))
    × (map statement_of l.sites.statements.items ++ statements_from l.part (drop l.index (out-Seq l.seq).items.items) (noted (out-Seq l.seq).last)
    ≡ map statement_of l.fn.sites.statements.items ++ statement_sites l.part (sequence l.seq))
