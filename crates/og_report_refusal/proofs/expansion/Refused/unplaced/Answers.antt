use Rattle.std.proofs.Common.{◌++◌, ◌∙◌, ℕ, List, ap, subst, sym}
use Rattle.std.specs.Prelude.{codes}
use Rattle.std.proofs.lemmas.List.{append_assoc}
use Rattle.og_report_refusal.specs.Advice.{refusal_text}
use Rattle.og_report_refusal.specs.Expansion.{IsTold}
use Rattle.og_report_refusal.specs.Names.{shown_name}
use Rattle.og_template_outline.specs.Faults.{number_of_fault, name_of_fault}
use Rattle.og_report_refusal.proofs.Joins.{then}
use Rattle.og_report_refusal.proofs.expansion.Refused.unplaced.Goals as goal

pub returns : goal.returns
returns c =
    let fault = c.args.self.now.fault.now in
    let source = c.args.self.now.source.now in
    let rest = c.deref.result.now in
    let name = shown_name c.args.self.now.name.now in
    let refusal = refusal_text (number_of_fault fault) (name_of_fault fault) in
    record {
      told = rest;
      is_told = subst (IsTold source fault) (sym c.deref.ensures.value) c.in_ok-told.ensures;
      written =
          then c.put_told.new.text.items c.extend_from_slice.new.self.items (codes "  ") rest c.in_ok-text.text.items c.in_ok-extend_from_slice.ensures.items c.in_ok-put_told.ensures
          ∙ ap (λ (l : List ℕ). l ++ (codes "  " ++ rest)) c.in_ok-text.ensures ∙ append_assoc name refusal (codes "  " ++ rest);
    }
