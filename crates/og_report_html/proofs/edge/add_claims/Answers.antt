use Rattle.std.proofs.Common.{◌≡◌, ◌∙◌, ◌++◌, ℕ, List, Some, length, map, refl, ap, rules}
use Rattle.std.specs.Prelude.{slice_get, option_map}
use Rattle.std.proofs.lemmas.Option.{slice_get-map, slice_get_read}
use Rattle.og_text.specs.declared.place.Span.{Span}
use Rattle.og_report_html.specs.Conjuncts.{claim_of}
use Rattle.og_report_html.specs.Marks.{found}
use Rattle.og_report_html.specs.Edges.{false_by, edges_from}
use Rattle.og_report_html.proofs.Steps.{edges_go}
use Rattle.og_report_html.proofs.edge.add_claims.Goals as goal

pub loop-index-preserved : goal.loop-index-preserved
loop-index-preserved c =
    let source = c.args.source.now in
    let rows = c.args.marked.rows in
    let marks = λ (p : ℕ). found p c.args.marked.marks.now in
    let ts = c.args.marked.diagnoses.now in
    let all = c.args.shared.now in
    let claims = c.args.claims.now in
    let i = c.loop-index.index in
    let claim = c.index-claims-index.result in
    let m = c.copied-mark.result in
    let ks = c.deref-in-loop-index.result.now in
    let is : slice_get (map claim_of claims) i ≡ Some (claim_of claim) =
    slice_get-map claim_of claims i ∙ ap (option_map claim_of) (slice_get_read claims (length claims) i claim refl c.loop-index-test.true c.index-claims-index.is) in
    let told : m ≡ marks claim.at = search rules in
    let which : ks ≡ false_by rows claim.conjuncts.items ts m =
    c.deref-in-loop-index.ensures.value ∙ c.in_ok-numbers.ensures ∙ ap (λ (l : List Span). false_by rows l ts m) c.deref.ensures.value in
    edges_go source rows marks ts all (map claim_of claims) i (claim_of claim) m ks c.loop-index.edges.items c.add_claim.new.edges.items
    (c.args.edges.now.items ++ edges_from source rows marks ts all (map claim_of claims)) is told which c.in_ok-add_claim.ensures c.loop-index.invariant
