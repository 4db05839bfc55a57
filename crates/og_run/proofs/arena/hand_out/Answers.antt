use Rattle.std.proofs.Common.{arith}
use Rattle.og_run.proofs.Steps.{gives_keep}
use Rattle.og_run.proofs.arena.hand_out.Goals as goal

pub split_seat-requires : goal.split_seat-requires
split_seat-requires g c =
    let x = c.requires.inside in
    let name = c.requires.name in
    (c.requires.table.0, omega (arith, c.requires.table.1), gives_keep _ _ _ _ _ x.0 c.requires.keeps.0 c.requires.keeps.1 (rw name x.1) x.2)
