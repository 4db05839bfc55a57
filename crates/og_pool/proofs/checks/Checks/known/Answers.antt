use Rattle.og_pool.proofs.checks.Checks.known.Goals as goal

pub is_like-requires-clause-other : goal.is_like-requires-clause-other
is_like-requires-clause-other g c =
    let known = c.in-Some.ensures c.args.self.now.conditions.now c.args.self.now.certs.now c.requires.keeps in
    (known.0, known.1)
