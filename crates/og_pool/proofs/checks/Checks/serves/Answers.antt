use Rattle.std.proofs.Common.{get_or}
use Rattle.std.proofs.lemmas.Option.{slice_get-get_or, slice_get_within}
use Rattle.og_cond.specs.declared.condition.Condition.{Condition}
use Rattle.og_pool.proofs.Serving.{serves_exactly, serves_none, prepared_of_equal}
use Rattle.og_pool.proofs.checks.Checks.serves.Goals as goal

pub returns-in-Some-clause-exact : goal.returns-in-Some-clause-exact
returns-in-Some-clause-exact g c =
    let cs = c.args.self.now.conditions.now in
    let i = c.args.last.now.index in
    let its : Condition = get_or cs i c.index-self-last.result in
    serves_exactly cs i its c.in-Some.before c.args.action.now c.equals.result (slice_get-get_or cs i c.index-self-last.result (slice_get_within cs i c.requires.0 c.requires.1)) c.in-Some.is c.equals.ensures

pub returns-in-Some-clause-map : goal.returns-in-Some-clause-map
returns-in-Some-clause-map g c = λ yes.
    let cs = c.args.self.now.conditions.now in
    let i = c.args.last.now.index in
    let its : Condition = get_or cs i c.index-self-last.result in
    prepared_of_equal cs i its c.requires.0 c.in-Some.before c.args.action.now c.args.last.now.map (slice_get-get_or cs i c.index-self-last.result (slice_get_within cs i c.requires.0 c.requires.1))
    c.requires.1 c.in-Some.is c.requires.2 (c.equals.ensures.0 yes)

pub returns-in-None-clause-exact : goal.returns-in-None-clause-exact
returns-in-None-clause-exact g c =
    let cs = c.args.self.now.conditions.now in
    let i = c.args.last.now.index in
    let its : Condition = get_or cs i c.index-self-last.result in
    ((λ no. absurd (cc)), (λ h. absurd (serves_none cs i its c.args.action.now (slice_get-get_or cs i c.index-self-last.result (slice_get_within cs i c.requires.0 c.requires.1)) c.in-None.is h)))
