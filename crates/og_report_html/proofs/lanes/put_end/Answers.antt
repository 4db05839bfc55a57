use Rattle.std.proofs.Common.{◌≡◌, ◌++◌, ◌∙◌, [], ℕ, List, ap, codes, subst}
use Rattle.std.specs.Prelude.{OnOk}
use Rattle.std.specs.Fmt.{decimal}
use Rattle.og_report_html.specs.Lanes.{wide_row}
use Rattle.og_report_html.proofs.lanes.put_end.Goals as goal

pub returns : goal.returns
returns c =
    let r = c.put_wide.result in
    let t0 = c.args.text.now.items in
    let says = codes "&#10007; condition " ++ (decimal c.args.condition ++ codes " is false here") in
    let begun : c.new-line.result.items ≡ [] = c.new-line.ensures.items in
    let line : c.deref.result.now ≡ says = c.deref.ensures.value ∙ c.in_ok-put_number_between.ensures ∙ ap (λ (l : List ℕ). l ++ says) begun in
    subst (λ (l : List ℕ). OnOk r (c.put_wide.new.text.items ≡ t0 ++ wide_row (codes "here") c.args.lanes l)) line c.put_wide.ensures
