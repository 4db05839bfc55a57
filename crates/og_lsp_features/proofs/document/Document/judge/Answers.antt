use Rattle.std.proofs.Common.{subst}
use Rattle.og_lsp_document.specs.Judged.{IsJudgement}
use Rattle.og_lsp_features.proofs.document.Document.judge.Goals as goal

pub returns-in_ok-judge-clause-judged : goal.returns-in_ok-judge-clause-judged
returns-in_ok-judge-clause-judged g c = λ h. subst (λ t. IsJudgement t c.in_ok-judge.field-0) c.as_bytes.ensures.value c.in_ok-judge.ensures.judged
