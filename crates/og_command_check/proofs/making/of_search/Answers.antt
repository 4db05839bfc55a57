use Rattle.std.proofs.Common.{◌≡◌, ℕ, length, map, sym, subst, arith}
use Rattle.std.proofs.lemmas.Grind.{common_steps}
use Rattle.std.proofs.lemmas.List.{length-map}
use Rattle.og_cond.specs.Seen.{seen}
use Rattle.og_cert_text.specs.Shown.{shown}
use Rattle.og_command_check.specs.Making.{IsSearched}
use Rattle.og_command_check.proofs.Answering.{second_searched}
use Rattle.og_command_check.proofs.making.of_search.Goals as goal

pub returns-then-is_second-clause-found : goal.returns-then-is_second-clause-found
returns-then-is_second-clause-found g c =
    let cs = c.args.conditions.now in
    let w = c.args.wanted in
    let two : w.version ≡ 2 = grind (arith, common_steps) in
    subst (λ (v : ℕ). IsSearched v w.limit (map seen cs) c.in_ok-second.second) (sym two)
    (second_searched w.limit (map seen cs) (shown c.in_ok-file.file) (length cs) c.in_ok-second.second c.in_ok-file.ensures.certificates (sym (length-map cs seen)) c.in_ok-second.ensures)

pub text-requires-clause-few : goal.text-requires-clause-few
text-requires-clause-few g c =
    let count = c.in_ok-findings.ensures.verdicts.0 in
    let len = length-map c.args.conditions.now seen in
    omega (arith, count, len, c.requires)

pub returns-clause-found : goal.returns-clause-found
returns-clause-found g c =
    let cs = map seen c.args.conditions.now in
    let w = c.args.wanted in
    let one : w.version ≡ 1 = grind (arith, common_steps) in
    subst (λ (v : ℕ). IsSearched v w.limit cs c.in_ok-first.first) (sym one)
    (c.in_ok-first.ensures cs (c.in_ok-text.ensures.text cs c.in_ok-findings.ensures.verdicts))
