use Rattle.std.proofs.Common.{refl, sym, subst, Bool}
use Rattle.og_template.specs.Front.{is_template}
use Rattle.og_template_outline.specs.Expanded.{IsExpandedBy}
use Rattle.og_template_outline.proofs.Meanings.{of_template}
use Rattle.og_template_outline.proofs.expanding.expanded.Goals as goal

pub printed-requires-clause-outline : goal.printed-requires-clause-outline
printed-requires-clause-outline c =
    (of_template (is_template c.args.text.now) c.args.text.now c.args.meaning c.in-Template.expansion c.in-Template.is c.requires).2

pub returns-in_ok-text-in-Template : goal.returns-in_ok-text-in-Template
returns-in_ok-text-in-Template c =
    let p = of_template (is_template c.args.text.now) c.args.text.now c.args.meaning c.in-Template.expansion c.in-Template.is c.requires in
    subst (λ (b : Bool). IsExpandedBy b c.args.is_map c.args.text.now (record { text = c.in_ok-text-in-Template.text; status = 0 })) (sym p.0) (c.in_ok-text-in-Template.ensures, refl)
