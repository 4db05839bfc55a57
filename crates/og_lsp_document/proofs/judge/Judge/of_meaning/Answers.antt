use Rattle.std.proofs.Common.{IfOk, subst}
use Rattle.og_template.specs.Front.{is_template}
use Rattle.og_report_text.specs.Subject.{subject_of}
use Rattle.og_lsp_document.specs.Judged.{IsWithin}
use Rattle.og_lsp_document.proofs.Given.{given_is}
use Rattle.og_lsp_document.proofs.judge.Judge.of_meaning.Goals as goal

pub returns-clause-within : goal.returns-clause-within
returns-clause-within g c =
    let text = c.args.text.now in
    subst (λ t. IfOk c.of_outline.result (IsWithin t)) (given_is (is_template text) text (subject_of c.subject-subject.result) c.subject-subject.ensures.means) c.of_outline.ensures.within
