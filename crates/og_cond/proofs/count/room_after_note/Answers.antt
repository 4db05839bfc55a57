use Rattle.std.proofs.Common.{map, arith}
use Rattle.og_typed.specs.Plain.{noted, sequence}
use Rattle.og_cond.specs.Sets.{has}
use Rattle.og_cond.proofs.Counts.{leaves_more, leaves_none, note_hits}
use Rattle.og_cond.proofs.count.room_after_note.Goals as goal

pub returns-in_err-left : goal.returns-in_err-left
returns-in_err-left c =
    let total = note_hits (has c.variables_of-set.result) (map sequence c.args.earlier.now) (map sequence c.args.later.now) (noted c.args.note.now) c.variables_of-set.ensures in
    leaves_none _ _ _ (omega (arith, total, c.in_err-left.ensures)) c.from_residual.ensures

pub returns : goal.returns
returns c =
    let total = note_hits (has c.variables_of-set.result) (map sequence c.args.earlier.now) (map sequence c.args.later.now) (noted c.args.note.now) c.variables_of-set.ensures in
    leaves_more _ _ _ _ _ _ c.in_ok-left.ensures total c.room_after_all_hits-2.ensures
