use Rattle.std.proofs.Common.{◌≡◌, drop, length, map}
use Rattle.og_typed.specs.declared.statement.Seq.{out-Seq}
use Rattle.og_typed.specs.Plain.{item_of, noted, sequence}
use Rattle.og_typed.specs.Rule.{IsUsableSequence}
use Rattle.og_typed.specs.Lists.{sequence_list}
use Rattle.og_erase.specs.Collected as collected
use Rattle.og_erase.proofs.Trees.{made_of}
use Rattle.og_erase.proofs.statements.+statements.Given as goal

abbrev pub invariant-sequence-loop-item : goal.invariant-sequence-loop-item
invariant-sequence-loop-item l = record {
  usable : IsUsableSequence (length l.names) (sequence_list (map item_of (drop l.item-index l.item-items)) (noted (out-Seq l.seq).last));
  made : made_of l.names l.items.items (drop l.item-index l.item-items) (noted (out-Seq l.seq).last) ≡ collected.sequence l.names (sequence l.seq);
}
