use Rattle.std.proofs.Common.{Some, sym, ap, ◌∙◌}
use Rattle.og_linear.proofs.Kept.{kept}
use Rattle.og_linear.proofs.form.Form.apply.Goals as goal

pub returns-then-is_kept : goal.returns-then-is_kept
returns-then-is_kept c =
    let f = c.args.self.now in
    kept c.args.map.now f c.numbers_fit.ensures.tidy c.numbers_fit.ensures.fits (sym c.is_kept.ensures ∙ c.if-is_kept.true) ∙ ap Some (sym c.in_ok-copy.ensures)
