use Rattle.std.proofs.Common.{leb, rules}
use Rattle.std.proofs.lemmas.List.Sorted.{IsPartitionPoint-from_clause}
use Rattle.og_text.proofs.Starts.{placed_by, starts_partitioned}
use Rattle.og_text.proofs.lines.starts_up_to.Goals as goal

pub returns-clause-placed : goal.returns-clause-placed
returns-clause-placed c = λ text index le.
    let starts = c.args.starts.now in
    let parted = starts_partitioned text starts c.args.at index le in
    let point = IsPartitionPoint-from_clause (λ s. leb s c.args.at) _ _ c.partition_point.ensures.partitioned parted (λ a r q k. search rules) in
    placed_by text starts c.args.at c.partition_point.result index le c.partition_point.ensures.bound point
