use Rattle.std.proofs.Common.{◌≡◌, ◌∙◌, ◌++◌, ℕ, List, length, map, codes, rules, ap, sym, subst}
use Rattle.std.proofs.lemmas.List.{length-map}
use Rattle.std.specs.Prelude.{OnOk}
use Rattle.og_typed.specs.Plain.{sequence}
use Rattle.og_typed.specs.Syntax.{Program}
use Rattle.og_report_prove.specs.Blocks.{block_text}
use Rattle.og_report_prove.specs.Report.{head_text}
use Rattle.og_report_prove.proofs.Joins.{joined}
use Rattle.og_report_findings.specs.Alike.{alike_lines}
use Rattle.og_report_findings.specs.Causes.{item_of}
use Rattle.og_report_findings.specs.Hints.{hints_text}
use Rattle.og_report_findings.specs.Report.{run_part}
use Rattle.og_report_findings.specs.Suggested.{suggested, suggestion_lines}
use Rattle.og_report_findings.proofs.reporting.Sheet.put_false.Goals as goal

pub returns : goal.returns
returns c =
    let o = c.args.self.now.hints.now in
    let source = c.args.self.now.page.origins.now.source.now in
    let rows = c.args.self.now.page.origins.now.rows in
    let i = item_of c.args.item in
    let r = c.put_advice.result in
    let t0 = c.args.text.now.items in
    let t1 = c.put_head.new.text.items in
    let t2 = c.put_block.new.text.items in
    let t3 = c.put_alike.new.text.items in
    let t4 = c.put_run.new.text.items in
    let a1 = head_text source rows i.entry.number i.entry.condition (codes "false") i.more in
    let a2 = block_text o.names source rows c.args.block.now in
    let a3 = alike_lines source rows (length o.processes) (map item_of c.args.others.now) in
    let a4 = run_part o c.args.self.now.explored i.entry.run in
    let e1 : t1 ≡ t0 ++ a1 = search rules in
    let e2 : t2 ≡ t1 ++ a2 = subst (λ (names : List (List ℕ)). t2 ≡ t1 ++ block_text names source rows c.args.block.now) c.requires.names c.in_ok-put_block.ensures in
    let count : length c.processes.result.now ≡ length o.processes = sym (length-map c.processes.result.now sequence) ∙ ap length c.processes.ensures ∙ ap (λ (o : Program). length o.processes) c.outline-outline.ensures in
    let e3 : t3 ≡ t2 ++ a3 = c.in_ok-put_alike.ensures ∙ ap (λ (n : ℕ). t2 ++ alike_lines source rows n (map item_of c.args.others.now)) count in
    let e4 : t4 ≡ t3 ++ a4 = search rules in
    let t5 = c.put.new.text.items in
    let a5 = hints_text o c.args.block.now i.entry.run in
    let e5 : t5 ≡ t4 ++ a5 = search rules in
    let advice = suggested c.args.self.now.advice.now i.entry.number in
    let e6 = subst (λ (names : List (List ℕ)). OnOk r (c.put_advice.new.text.items ≡ t5 ++ suggestion_lines names source rows advice)) c.requires.names c.put_advice.ensures in
    joined r t0 t1 _ a1 _ e1 (joined r t1 t2 _ a2 _ e2 (joined r t2 t3 _ a3 _ e3 (joined r t3 t4 _ a4 _ e4 (joined r t4 t5 _ a5 _ e5 e6))))
