use Rattle.std.proofs.Common.{◌≡◌, ◌++◌, codes, rules, ap, ◌∙◌}
use Rattle.std.specs.Prelude.{OnOk}
use Rattle.og_report_prove.specs.Blocks.{known_lines, more_line, test_line}
use Rattle.og_report_prove.specs.declared.block.Details.{Details}
use Rattle.og_report_prove.proofs.Joins.{joined}
use Rattle.og_report_prove.proofs.block.put_true.Goals as goal

pub returns : goal.returns
returns c =
    let names = c.args.page.names.now in
    let source = c.args.page.origins.now.source.now in
    let rows = c.args.page.origins.now.rows in
    let block = c.args.block.now in
    let shown = c.state_of.result in
    let old = c.args.text.now.items in
    let first = c.put_known_lines.new.text.items in
    let second = c.put_more_line.new.text.items in
    let known = known_lines names source rows block.details.value.focus.items block.details.value.explanation.known.items in
    let initial = more_line names (codes "initially") block.values block.details.value.initial.items in
    let test = test_line source rows block.details.value.explanation.test in
    let one : first ≡ old ++ known = search rules in
    let two : second ≡ first ++ initial =
    c.in_ok-put_more_line.ensures
    ∙ ap (λ ns. first ++ more_line ns (codes "initially") shown.values.now shown.vars.now) c.state_of.ensures.names
    ∙ ap (λ s. first ++ more_line names (codes "initially") s shown.vars.now) c.state_of.ensures.values
    ∙ ap (λ vars. first ++ more_line names (codes "initially") block.values vars) (c.state_of.ensures.vars ∙ c.deref-6.ensures.value ∙ ap (λ (d : Details). d.initial.items) c.deref-5.ensures) in
    let last : OnOk c.put_test.result (c.put_test.new.text.items ≡ second ++ test) = search rules in
    joined c.put_test.result old first _ known _ one (joined c.put_test.result first second _ initial test two last)
