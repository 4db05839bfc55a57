use Rattle.std.specs.Prelude.{codes}
use Rattle.og_report_refusal.specs.Advice.{refusal_text}
use Rattle.og_report_refusal.specs.Names.{shown_name}
use Rattle.og_template_outline.specs.Faults.{number_of_fault, name_of_fault}
use Rattle.og_report_refusal.proofs.Joins.{then}
use Rattle.og_report_refusal.proofs.Templates.{told_too_long}
use Rattle.og_report_refusal.proofs.expansion.Refused.too_long.Goals as goal

pub returns : goal.returns
returns c =
    let fault = c.args.self.now.fault.now in
    record {
      told = codes "a template has at most 1048576 bytes\n";
      is_told = told_too_long c.args.self.now.source.now fault c.requires;
      written =
          then c.extend_from_slice.new.self.items c.in_ok-text.text.items (refusal_text (number_of_fault fault) (name_of_fault fault)) (codes "  a template has at most 1048576 bytes\n") (shown_name c.args.self.now.name.now)
          c.in_ok-text.ensures c.in_ok-extend_from_slice.ensures.items;
    }
