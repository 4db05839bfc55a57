use Rattle.std.proofs.Common.{ap, is_some, sym, subst, Bool, IfOk}
use Rattle.og_report_text.specs.Subject.{Subject}
use Rattle.og_template_outline.specs.Meaning.{Means}
use Rattle.og_command_prove.specs.declared.form.ReportForm.TheVariants as forms
use Rattle.og_words.specs.Jobs.{word_bytes}
use Rattle.og_program.specs.World.{named}
use Rattle.og_program.specs.Commands.{text_form, ProvesOutline}
use Rattle.og_program.proofs.program.Program.proved_as_text.Goals as goal

pub returns-then-prove-clause-outcome : goal.returns-then-prove-clause-outcome
returns-then-prove-clause-outcome g c =
    let given = c.args.given in
    let text = named c.args.prove.now.source.now given.text.items in
    let runs = is_some c.args.prove.now.runs in
    subst (λ (b : Bool). IfOk c.advised.result (λ outcome. (s : Subject) × Means given.text.items s × ProvesOutline (text_form b) runs text s (word_bytes given.reading.starts.items) outcome))
    (sym c.if-prove.true) c.advised.ensures.outcome

pub returns-clause-outcome : goal.returns-clause-outcome
returns-clause-outcome g c =
    let given = c.args.given in
    let text = named c.args.prove.now.source.now given.text.items in
    subst (λ (b : Bool). IfOk c.proved.result (λ outcome. (s : Subject) × Means given.text.items s × ProvesOutline (text_form b) (is_some c.args.prove.now.runs) text s (word_bytes given.reading.starts.items) outcome))
    (sym c.if-prove.false)
    (subst (λ (runs : Bool). IfOk c.proved.result (λ outcome. (s : Subject) × Means given.text.items s × ProvesOutline forms.Text runs text s (word_bytes given.reading.starts.items) outcome))
    (ap (λ r. is_some r) c.requires.runs) c.proved.ensures.outcome)
