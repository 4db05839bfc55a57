use Rattle.std.proofs.Common.{◌≡◌, ◌++◌, ◌∙◌, ap, None, rules}
use Rattle.og_report_prove.specs.Blocks.{false_lines}
use Rattle.og_report_refusal.specs.Starting.{refused_text, start_line, help_line}
use Rattle.og_report_refusal.proofs.Hints.{four_texts}
use Rattle.og_report_refusal.proofs.starting.start_text.Goals as goal

pub returns : goal.returns
returns c =
    let source = c.args.source.now in
    let o = source.outline in
    let values = c.args.values.now in
    let start = c.args.start.now in
    let front = c.put_false.new.text.items in
    let names : c.names-names.result.now ≡ o.names = search rules in
    let vars : c.vars-2.result ≡ o.vars = search rules in
    let help : c.put_help.new.text.items ≡ front ++ help_line c.names-names.result.now values start c.vars-2.result = c.in_ok-put_help.ensures in
    four_texts c.new-text.result.items c.put_refused.new.text.items c.put_start_line.new.text.items front c.put_help.new.text.items (refused_text c.args.name.now source.bytes o.pre.at) (start_line o.names values o.vars)
    (false_lines o.names source.bytes None o.pre.at c.args.found.now) (help_line o.names values start o.vars) c.new-text.ensures.items (search rules) (search rules) (search rules)
    (help ∙ ap (λ n. front ++ help_line n values start c.vars-2.result) names ∙ ap (λ k. front ++ help_line o.names values start k) vars)
