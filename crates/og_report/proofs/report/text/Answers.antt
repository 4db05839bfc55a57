use Rattle.std.proofs.Common.{◌≡◌, subst, false, rules}
use Rattle.og_judge.specs.Shown.{entries_of}
use Rattle.og_report.specs.Report.{report_text}
use Rattle.og_report_text.specs.Yes.{SaysUnblocked}
use Rattle.og_report.proofs.Yes.{text_says}
use Rattle.og_report.proofs.report.text.Goals as goal

pub returns-clause-unblocked : goal.returns-clause-unblocked
returns-clause-unblocked c =
    let is : c.put_totals.new.text.items ≡ report_text c.args.source.now (entries_of c.args.judgement.now) = search rules in
    λ says. text_says c.args.source.now (entries_of c.args.judgement.now) (subst (SaysUnblocked false) is says)
