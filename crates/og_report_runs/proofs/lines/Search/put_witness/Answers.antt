use Rattle.std.proofs.Common.{◌≡◌, ◌++◌, ◌∙◌, ℕ, List, map, ap, ap₂, sym, length, rules}
use Rattle.std.specs.Prelude.{OnOk, nat_lt}
use Rattle.std.proofs.lemmas.List.{length-map}
use Rattle.og_typed.specs.Plain.{sequence}
use Rattle.og_report_prove.proofs.Joins.{joined}
use Rattle.og_report_runs.specs.Lines.{way_text, from_text}
use Rattle.og_report_runs.proofs.lines.Search.put_witness.Goals as goal

pub returns : goal.returns
returns c =
    let o = c.args.self.now.outline.now in
    let w = c.args.witness.now in
    let r = c.put_from.result in
    let t0 = c.args.text.now.items in
    let t1 = c.put_way.new.text.items in
    let a1 = way_text (length o.processes) w.history.items in
    let same : length (map sequence c.processes.result.now) ≡ length c.processes.result.now = simp length-map in
    let count : length c.processes.result.now ≡ length o.processes = sym same ∙ ap length c.processes.ensures in
    let e1 : t1 ≡ t0 ++ a1 = c.in_ok-put_way.ensures ∙ ap₂ (λ (n : ℕ) (ps : List ℕ). t0 ++ way_text n ps) count c.deref.ensures.value in
    let e2 : OnOk r (c.put_from.new.text.items ≡ t1 ++ from_text o (nat_lt 1 c.args.self.now.explored.starts) w.values) = search rules in
    joined r t0 t1 _ a1 _ e1 e2
