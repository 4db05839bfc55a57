use Rattle.og_find_all.proofs.finder.Search.gathered.Goals as goal

pub returns-clause-gathered : goal.returns-clause-gathered
returns-clause-gathered g c = c.in_ok-gathered.ensures.gathered (c.in_ok-inherited.ensures.gathered c.in_ok-led.ensures.gathered)
