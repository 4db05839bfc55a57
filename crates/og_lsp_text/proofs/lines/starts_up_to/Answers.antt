use Rattle.std.proofs.Common.{leb, rules}
use Rattle.std.proofs.lemmas.List.Sorted.{IsPartitionPoint-from_clause}
use Rattle.og_lsp_text.proofs.Starts.{line_found, partitioned}
use Rattle.og_lsp_text.proofs.lines.starts_up_to.Goals as goal

pub returns-clause-line : goal.returns-clause-line
returns-clause-line c = λ text index le.
    let starts = c.args.starts.now in
    let parted = partitioned text starts c.args.at index.starts_are le in
    let point = IsPartitionPoint-from_clause (λ s. leb s c.args.at) _ _ c.partition_point.ensures.partitioned parted (λ a r q k. search rules) in
    line_found text starts c.args.at c.partition_point.result index.starts_are le c.partition_point.ensures.bound point
