use Rattle.std.proofs.Common.{length}
use Rattle.og_typed.specs.Plain.{formula}
use Rattle.og_step.proofs.Readable.{from_parts}
use Rattle.og_step.proofs.truth.holds.Goals as goal

pub evaluate-requires : goal.evaluate-requires
evaluate-requires c =
    from_parts (length c.args.state.now) (formula c.args.assert.now) c.requires.small c.requires.few c.requires.within
