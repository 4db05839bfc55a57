use Rattle.std.proofs.Common.{◌≡◌, ◌++◌, ℕ, rules}
use Rattle.std.proofs.lemmas.Option.{slice_get-get_or}
use Rattle.og_report_html.specs.Marks.{found}
use Rattle.og_report_html.specs.Source.{source_text}
use Rattle.og_report_html.proofs.Steps.{byte_goes, line_goes}
use Rattle.og_report_html.proofs.source.put_source.Goals as goal

pub loop-at-preserved : goal.loop-at-preserved
loop-at-preserved c =
    let source = c.args.source.now in
    let marks = λ (p : ℕ). found p c.args.marks.now in
    let at = c.loop-at.at in
    let spot = c.loop-at.spot in
    let m = c.copied-mark.result in
    let same : m ≡ marks at = search rules in
    record {
      whole =
          byte_goes c.args.utf8 marks source at _ spot c.next-next.result m c.is_some.result c.loop-at.rest.now c.later-rest.result.now
          c.loop-at.text.items c.put_line_start.new.text.items c.put_edge_here.new.text.items c.put_source_byte.new.text.items (c.args.text.now.items ++ source_text c.args.utf8 marks c.args.edges.now source)
          (slice_get-get_or source at _ c.loop-at-test.true) same c.is_some.ensures c.next-next.ensures c.later-rest.ensures
          c.in_ok-put_line_start.ensures c.in_ok-put_edge_here.ensures c.in_ok-put_source_byte.ensures c.loop-at.invariant.whole;
      line = line_goes spot c.next-next.result c.is_some.result _ at c.next-next.ensures c.loop-at.invariant.line;
    }
