use Rattle.std.proofs.Common.{ap, ◌∙◌, eqb, codes}
use Rattle.std.specs.List.{ends_with}
use Rattle.og_command_infer.proofs.Ends.{says_text, says_json}
use Rattle.og_command_infer.proofs.inferrer.Inferred.is_unblocked.Goals as goal

pub returns-then-json : goal.returns-then-json
returns-then-json c = λ zero.
    says_json c.args.json c.args.self.now.report.text.items c.ends_with.result c.if-json.true
    (c.ends_with.ensures.value
    ∙ ap (λ t. ends_with eqb t (codes "\"verdict\":\"safe in every run, and never stuck\"}\n")) c.as_slice-text.ensures.value)

pub returns : goal.returns
returns c = λ zero.
    says_text c.args.json c.args.self.now.report.text.items c.ends_with-2.result c.if-json.false
    (c.ends_with-2.ensures.value
    ∙ ap (λ t. ends_with eqb t (codes "verdict: safe in every run, and never stuck\n")) c.as_slice-text.ensures.value)
