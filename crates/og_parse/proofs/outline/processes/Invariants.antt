use Rattle.std.proofs.Common.{◌≡◌, ◌∷◌, map, length, true}
use Rattle.og_text.specs.declared.token.TokenKind.TheVariants.{Parallel}
use Rattle.og_parse.specs.Reading.{is_a, many_at, after_at}
use Rattle.og_parse.proofs.Loops.{with_front}
use Rattle.og_parse.specs.TreeOf.{seq_of}
use Rattle.og_parse.specs.Reads.{seq_at, processes_at}
use Rattle.og_parse.proofs.outline.processes.Given as goal

abbrev pub invariant-more : goal.invariant-more
invariant-more l = with_front (seq_of l.first ∷ map seq_of l.others.items) (many_at (is_a Parallel) (after_at Parallel (seq_at l.levels true l.levels)) l.cursor) ≡ processes_at l.levels l.fn.cursor

abbrev pub decreases-more : goal.decreases-more
decreases-more l = length l.cursor
