use Rattle.std.proofs.Common.{◌≡◌, ◌++◌, ℕ, List, Option, Vec, Global, map, arith}
use Rattle.std.specs.Prelude.{option_map, codes}
use Rattle.std.proofs.lemmas.Grind.{common_steps}
use Rattle.og_report_refusal.specs.Advice.{hint_text}
use Rattle.og_report_refusal.specs.Quotes.{shown_byte}
use Rattle.og_report_refusal.proofs.Templates.{told_of, one_mapped}
use Rattle.og_report_refusal.proofs.expansion.Refused.told.Goals as goal

pub returns : goal.returns
returns c =
    let text = c.put_reason.new.text.items in
    let reason = c.in_ok-reason.reason.items in
    let help : Option (List ℕ) = option_map (λ (h : Vec ℕ Global). h.items) c.in_ok-help.help in
    let written : text ≡ map shown_byte reason ++ (codes "\n" ++ hint_text help) = grind (arith, common_steps) in
    told_of c.args.self.now.source.now c.args.self.now.fault.now reason help text c.requires c.in_ok-reason.ensures (one_mapped (λ (h : Vec ℕ Global). h.items) c.in_ok-help.help c.in_ok-help.ensures) written
