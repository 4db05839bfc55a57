use Rattle.std.proofs.Common.{◌≡◌, ◌++◌, ℕ, List, Some, None, rules, sym, subst}
use Rattle.std.specs.Prelude.{OnOk}
use Rattle.og_cert_read.specs.Firsts.{found}
use Rattle.og_report_text.specs.Seen.{formulas_of}
use Rattle.og_report_prove.specs.Effects.{effect_of}
use Rattle.og_report_prove.proofs.Effects.{body_alike, body_first}
use Rattle.og_report_prove.proofs.reporting.put_body.Goals as goal

pub returns-in-Some-2-clause-text : goal.returns-in-Some-2-clause-text
returns-in-Some-2-clause-text c =
    let names = c.args.page.names.now in
    let source = c.args.page.origins.now.source.now in
    let rows = c.args.page.origins.now.rows in
    let block = c.args.block.now in
    let is : effect_of block.details.value.explanation.action block.details.value.explanation.fault ≡ Some (c.in-Some.at, formulas_of c.in-Some.found.now) = search rules in
    let text = c.in_ok-effect.ensures in
    let seen : Some c.in-Some-2.first ≡ found c.in_ok-effect.effect.items c.args.firsts.now = search rules in
    subst (λ (body : List ℕ). OnOk c.put_alike.result (c.put_alike.new.text.items ≡ c.args.text.now.items ++ body))
    (sym (body_alike names source rows (λ t. found t c.args.firsts.now) block c.in-Some.at (formulas_of c.in-Some.found.now) c.in_ok-effect.effect.items c.in-Some-2.first is text seen))
    c.put_alike.ensures

pub returns-in-None-clause-text : goal.returns-in-None-clause-text
returns-in-None-clause-text c =
    let names = c.args.page.names.now in
    let source = c.args.page.origins.now.source.now in
    let rows = c.args.page.origins.now.rows in
    let block = c.args.block.now in
    let is : effect_of block.details.value.explanation.action block.details.value.explanation.fault ≡ Some (c.in-Some.at, formulas_of c.in-Some.found.now) = search rules in
    let text = c.in_ok-effect.ensures in
    let seen : None ≡ found c.in_ok-effect.effect.items c.args.firsts.now = search rules in
    subst (λ (body : List ℕ). OnOk c.put_block-in-None.result (c.put_block-in-None.new.text.items ≡ c.args.text.now.items ++ body))
    (sym (body_first names source rows (λ t. found t c.args.firsts.now) block c.in-Some.at (formulas_of c.in-Some.found.now) c.in_ok-effect.effect.items is text seen))
    c.put_block-in-None.ensures
