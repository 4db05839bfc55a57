use Rattle.og_io.proofs.Passing.{failed, made_front}
use Rattle.og_find_all.proofs.writing.Writing.write_entry.Goals as goal

pub returns-in_err-write_long-clause-unfinished : goal.returns-in_err-write_long-clause-unfinished
returns-in_err-write_long-clause-unfinished g c = failed _ _ (made_front _ _ _ _ c.in_ok-put.ensures c.in_err-write_long.ensures.unfinished)
