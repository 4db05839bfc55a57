use Rattle.std.proofs.Common.{◌≡◌, ◌++◌, ◌∙◌, ℕ, length, map, ap, sym}
use Rattle.std.specs.Prelude.{OnOk}
use Rattle.std.proofs.lemmas.List.{length-map}
use Rattle.og_typed.specs.Plain.{sequence}
use Rattle.og_cond.specs.Seen.{seen}
use Rattle.og_report_text.specs.Subject.{subject_of}
use Rattle.og_report_html.specs.Table.{table_text}
use Rattle.og_report_html.specs.Numbers.{heading_text}
use Rattle.og_report_html.specs.Page.{names_text, summary_text, marked_text, blocks_text}
use Rattle.og_report_html.specs.declared.constants.TheConstants.{AFTER_SOURCE, END}
use Rattle.og_report_html.proofs.Steps.{on_ok}
use Rattle.og_report_prove.proofs.Joins.{joined}
use Rattle.og_report_html.proofs.whole.put_page.Goals as goal

pub returns : goal.returns
returns c =
    let name = c.args.name.now in
    let s = subject_of c.args.subject.now in
    let f = c.args.findings in
    let e = f.explored in
    let cs = map seen f.conditions.now in
    let ts = f.diagnoses.now in
    let rs = f.runs.now in
    let gs = c.args.targets.now in
    let before = c.args.additions.before.now in
    let beneath = map (λ t. t.items) c.args.additions.beneath.now in
    let r = c.extend_from_slice-2.result in
    let t0 = c.args.text.now.items in
    let t1 = c.put_names.new.text.items in
    let t2 = c.put_summary.new.text.items in
    let t3 = c.put_marked.new.text.items in
    let t4 = c.extend_from_slice.new.self.items in
    let t5 = c.put_table.new.text.items in
    let t6 = c.put_heading.new.text.items in
    let t7 = c.put_blocks.new.text.items in
    let a1 = names_text name in
    let a2 = summary_text e ts in
    let a3 = marked_text s cs ts gs in
    let a5 = table_text (length s.outline.processes) ts gs in
    let a7 = blocks_text s before beneath cs ts rs gs in
    let count : length c.processes.result.now ≡ length s.outline.processes = sym (length-map c.processes.result.now sequence) ∙ ap length c.processes.ensures in
    let e1 : t1 ≡ t0 ++ a1 = c.in_ok-put_names.ensures in
    let e2 : t2 ≡ t1 ++ a2 = c.in_ok-put_summary.ensures in
    let e3 : t3 ≡ t2 ++ a3 = c.in_ok-put_marked.ensures in
    let e4 : t4 ≡ t3 ++ AFTER_SOURCE.now = c.in_ok-extend_from_slice.ensures.items in
    let e5 : t5 ≡ t4 ++ a5 = c.in_ok-put_table.ensures ∙ ap (λ (n : ℕ). t4 ++ table_text n ts gs) count in
    let e6 : t6 ≡ t5 ++ heading_text ts = c.in_ok-put_heading.ensures in
    let e7 : t7 ≡ t6 ++ a7 = c.in_ok-put_blocks.ensures in
    let e8 : OnOk r (c.extend_from_slice-2.new.self.items ≡ t7 ++ END.now) = on_ok r _ _ _ c.extend_from_slice-2.ensures.items in
    joined r t0 t1 _ a1 _ e1 (joined r t1 t2 _ a2 _ e2 (joined r t2 t3 _ a3 _ e3 (joined r t3 t4 _ AFTER_SOURCE.now _ e4
    (joined r t4 t5 _ a5 _ e5 (joined r t5 t6 _ (heading_text ts) _ e6 (joined r t6 t7 _ a7 END.now e7 e8))))))
