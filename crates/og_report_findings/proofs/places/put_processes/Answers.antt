use Rattle.std.proofs.Common.{◌<◌, ◌∙◌, ◌+◌, ◌++◌, ℕ, List, ap, sym, append_assoc, arith}
use Rattle.og_report_findings.specs.Alike.{part_with, places_of, process_line}
use Rattle.og_report_findings.proofs.Lines.{lines_from, next_line}
use Rattle.og_report_findings.proofs.places.put_processes.Goals as goal

pub loop-number-preserved : goal.loop-number-preserved
loop-number-preserved c =
    let source = c.args.origins.now.source.now in
    let rows = c.args.origins.now.rows in
    let main = c.args.main in
    let others = c.args.others.now in
    let p = c.loop-number.number in
    let text = c.loop-number.text.items in
    let behind = lines_from source rows main others (p + 1) in
    let less : p < main = omega arith in
    ap (λ (t : List ℕ). t ++ behind) c.in_ok-put_process.ensures ∙ append_assoc text (process_line source rows (part_with main p) (places_of p others)) behind
    ∙ ap (λ (l : List ℕ). text ++ l) (sym (next_line source rows main others p less)) ∙ c.loop-number.invariant
