use Rattle.std.proofs.Common.{is_some, map}
use Rattle.og_report_text.specs.Subject.{subject_of}
use Rattle.og_command_prove.proofs.Warranted.{warranted}
use Rattle.og_command_prove.proofs.prover.Prover.prove.Goals as goal

pub returns-clause-warrants : goal.returns-clause-warrants
returns-clause-warrants g c =
    let starts = map (λ w. w.now) c.args.starts.now in
    warranted c.args.form (is_some c.args.self.now.search.runs) (subject_of c.args.subject.now) starts c.found.result c.found.ensures.reply
