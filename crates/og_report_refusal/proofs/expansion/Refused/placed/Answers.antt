use Rattle.std.proofs.Common.{subst, sym, Some}
use Rattle.og_report_refusal.specs.Advice.{place_text, refusal_text}
use Rattle.og_report_refusal.specs.Expansion.{IsTold}
use Rattle.og_report_refusal.specs.Names.{shown_name}
use Rattle.og_report_refusal.specs.Quotes.{quote_text}
use Rattle.og_template_outline.specs.Faults.{number_of_fault, name_of_fault}
use Rattle.og_report_refusal.proofs.Joins.{four}
use Rattle.og_report_refusal.proofs.expansion.Refused.placed.Goals as goal

pub returns : goal.returns
returns c =
    let fault = c.args.self.now.fault.now in
    let source = c.args.self.now.source.now in
    let rest = c.deref.result.now in
    record {
      told = rest;
      is_told = subst (IsTold source fault) (sym c.deref.ensures.value) c.in_ok-told.ensures;
      written =
          four c.put_told.new.text.items c.in_ok-text.text.items c.put_quote.new.text.items (shown_name c.args.self.now.name.now) (place_text source (Some c.args.at)) (refusal_text (number_of_fault fault) (name_of_fault fault)) (quote_text source c.args.at)
          c.in_ok-text.ensures c.in_ok-put_quote.ensures rest c.in_ok-put_told.ensures;
    }
