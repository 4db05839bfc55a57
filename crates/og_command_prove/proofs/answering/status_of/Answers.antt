use Rattle.std.proofs.Common.{◌≡◌, Bool, true, rules, sym, subst}
use Rattle.og_theorem.specs.Proved.{IsProved}
use Rattle.og_report_prove.specs.Report.{is_safe}
use Rattle.og_command_prove.proofs.Texts.{proved_by}
use Rattle.og_command_prove.proofs.answering.status_of.Goals as goal

pub new-proved-requires : goal.new-proved-requires
new-proved-requires c =
    let diagnoses = c.args.diagnoses.now in
    let safe : is_safe diagnoses ≡ true = search rules in
    subst (λ (b : Bool). IsProved c.args.outline.now b) (sym c.is_unblocked.ensures) (proved_by c.args.outline.now diagnoses c.requires safe)
