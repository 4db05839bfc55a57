use Rattle.std.proofs.Common.{rules, ℕ, List, FitsSigned, w64, Bor, []}
use Rattle.std.proofs.lemmas.Int.{to_z-of_z}
use Rattle.std.specs.Prelude.{slice_index_or}
use Rattle.og_command_run.specs.Words.{Adds}
use Rattle.og_command_run.proofs.Reading.{reads_on}
use Rattle.og_command_run.proofs.words.given.Goals as goal

pub loop-word-preserved : goal.loop-word-preserved
loop-word-preserved c r h =
    let nothing : Bor (List ℕ) = record { ref_ptr = (0, 0); now = [] } in
    let fits : FitsSigned w64 c.in-Some.value = search rules in
    let adds : Adds c.args.names.now c.loop-word.given.items (slice_index_or c.args.words.now c.loop-word.word-index nothing).now c.in-Some.var c.in-Some.value = search rules in
    c.loop-word.invariant r (reads_on c.args.names.now c.loop-word.given.items c.args.words.now c.loop-word.word-index c.in-Some.var c.in-Some.value nothing r (search rules) adds (rw (to_z-of_z w64 c.in-Some.value fits) at h))
