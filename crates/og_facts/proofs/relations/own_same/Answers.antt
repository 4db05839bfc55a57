use Rattle.std.proofs.Common.{sym}
use Rattle.og_facts.proofs.Multiples.{same_sum}
use Rattle.og_facts.proofs.relations.own_same.Goals as goal

pub returns : goal.returns
returns c = rw (sym (same_sum c.args.form.now c.term-tidy.ensures.tidy)) c.multiple.ensures
