use Rattle.std.proofs.Common.{◌≡◌, subst, sym, List, false, All, IfSome, Option}
use Rattle.std.proofs.lemmas.Result.{IfOk-weaker}
use Rattle.std.proofs.lemmas.Option.{IfSome_then}
use Rattle.og_infer_marks.specs.declared.edit.Edit.{Edit}
use Rattle.og_infer_marks.specs.Edits.{edited}
use Rattle.og_report_text.specs.Subject.{subject_of}
use Rattle.og_command_infer.specs.declared.inferrer.Inferred.{Inferred}
use Rattle.og_command_infer.specs.Edits.{IsInBraces}
use Rattle.og_command_infer.specs.Inferred.{IsCompleted, IsCompletion}
use Rattle.og_command_infer.proofs.inferrer.Inferrer.with_additions.Goals as goal

pub returns-clause-completed : goal.returns-clause-completed
returns-clause-completed g c =
    let s = subject_of c.args.subject.now in
    let form = c.args.form in
    let made = c.in_ok-edits.edits.items in
    IfOk-weaker c.with_edits.result
    (λ (some : Option Inferred). IfSome some (λ (i : Inferred). (i.text.items ≡ edited i.edits.items 0 s.own) × (i.edits.items ≡ made) × IsCompletion form s.outline i.text.items i.report))
    (λ (some : Option Inferred). IfSome some (IsCompleted form false s))
    (λ some is. IfSome_then some is (λ i h. record {
      text = h.0;
      edits = λ _. subst (λ (edits : List Edit). All (IsInBraces s.own) edits) (sym h.1) c.in_ok-edits.ensures;
      completion = h.2;
    }))
    c.with_edits.ensures.completed
