use Rattle.std.proofs.Common.{◌≡◌, ◌<◌, length, map, get_or, sym, subst, None, Some, arith}
use Rattle.std.proofs.lemmas.List.{length-map}
use Rattle.og_cond.specs.Condition.{Condition}
use Rattle.og_cond.specs.Seen.{seen}
use Rattle.og_command_prove.specs.Found.{IsFound}
use Rattle.og_command_prove.specs.Moments.{lists_of}
use Rattle.og_command_prove.proofs.Columns.{followed_none, followed_more, followed_all, shown_at}
use Rattle.og_command_prove.proofs.searching.follow_all.Goals as goal

pub loop-index-init : goal.loop-index-init
loop-index-init c = followed_none c.args.diagnoser.outline.now (lists_of c.args.moments.now) (map seen c.args.conditions.now) c.args.diagnoses.now c.args.runs.now c.requires.found

pub follow-requires-clause-found : goal.follow-requires-clause-found
follow-requires-clause-found c =
    let conditions = c.args.conditions.now in
    let i = c.loop-index.index in
    let condition = c.index-conditions-index.result in
    let t = c.index-diagnoses-index.result in
    let r = c.index-runs-index.result in
    let within : i < length (map seen conditions) = omega (arith, c.loop-index-test.true, length-map conditions seen) in
    subst (λ z. IsFound c.args.diagnoser.outline.now None z (get_or c.loop-index.diagnoses i t) (get_or c.loop-index.runs i r))
    (shown_at seen conditions i condition (seen condition) c.loop-index-test.true c.index-conditions-index.is)
    (c.loop-index.invariant.behind i (seen condition) t r (omega arith) within)

pub loop-index-preserved : goal.loop-index-preserved
loop-index-preserved c =
    let o = c.args.diagnoser.outline.now in
    let lists = lists_of c.args.moments.now in
    let conditions = c.args.conditions.now in
    let cs = map seen conditions in
    let i = c.loop-index.index in
    let t = c.follow.new.diagnosis in
    let r = c.follow.new.run in
    let within : i < length cs = omega (arith, c.loop-index-test.true, length-map conditions seen) in
    let new = λ (d : Condition). subst (λ z. IsFound o (Some lists) z t r) (sym (shown_at seen conditions i c.index-conditions-index.result d c.loop-index-test.true c.index-conditions-index.is)) c.in_ok-follow.ensures in
    followed_more o lists cs i c.loop-index.diagnoses c.loop-index.runs t r within c.loop-index.invariant new

pub returns : goal.returns
returns c =
    let conditions = c.args.conditions.now in
    let whole : c.loop-index.index ≡ length (map seen conditions) = omega (arith, length-map conditions seen, c.loop-index-test.false, c.loop-index.auto.index-end) in
    followed_all c.args.diagnoser.outline.now (lists_of c.args.moments.now) (map seen conditions) c.loop-index.index c.loop-index.diagnoses c.loop-index.runs whole c.loop-index.invariant
