use Rattle.std.proofs.Common.{◌≡◌, map, length, subst, arith}
use Rattle.og_cond.specs.Seen.{seen}
use Rattle.og_pool.specs.Answers.{AreAnswers}
use Rattle.og_find_all.specs.Findings.{IsSearched}
use Rattle.og_find_all.proofs.Gathered.{of_leaders}
use Rattle.og_find_all.proofs.finder.Search.led.Goals as goal

pub returns-clause-gathered : goal.returns-clause-gathered
returns-clause-gathered g c =
    let cs = map seen c.args.self.now.conditions.now in
    let leaders = c.args.leaders.items in
    let verdicts = c.in_ok-verdicts.verdicts.items in
    let searched = subst (λ xs. AreAnswers c.len-lead.result (λ k w. IsSearched cs xs k w) verdicts) c.deref.ensures.value c.in_ok-verdicts.ensures.answers in
    let count = c.len-lead.ensures in
    let whole = c.args.leaders.ok.0 in
    let len : c.len-lead.result ≡ length leaders = omega (arith, count, whole) in
    c.in_ok-gathered.ensures cs (of_leaders cs leaders verdicts c.len-lead.result searched len)
