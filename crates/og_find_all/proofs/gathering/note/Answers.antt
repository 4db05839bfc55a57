use Rattle.og_find_all.proofs.Gathered.{noted}
use Rattle.og_find_all.proofs.gathering.note.Goals as goal

pub returns-then-index-len : goal.returns-then-index-len
returns-then-index-len c = λ cs verdicts its before. noted cs verdicts c.args.known.now.items c.write.new.known.items c.args.index c.args.place c.write.ensures.here c.write.ensures.others its before
