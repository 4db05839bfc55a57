-- From the reply for an outline to what it says of the runs.
use Rattle.std.proofs.Common.{ℕ, Bool, List, Result, IfOk}
use Rattle.std.proofs.lemmas.Result.{IfOk-weaker}
use Rattle.og_report_text.specs.Subject.{Subject}
use Rattle.og_report_text.specs.declared.answer.Answer.{Answer}
use Rattle.og_command_explore.specs.declared.exploring.Reply.{Reply}
use Rattle.og_command_explore.specs.declared.exploring.Reply.TheVariants as replies
use Rattle.og_command_prove.specs.Answer.{IsReported}
use Rattle.og_command_prove.specs.Reply.{IsReply, WarrantsAnswer, Warrants}
use Rattle.og_command_prove.specs.declared.form.ReportForm.{ReportForm}

pub answer_warrants : (form : ReportForm) (runs : Bool) (s : Subject) (a : Answer) → IsReported form runs s a → WarrantsAnswer form s.outline a
answer_warrants form runs s a h = (h.sound, λ zero says. h.unblocked zero (h.says says))

reply_warrants : (form : ReportForm) (runs : Bool) (s : Subject) (starts : List (List ℕ)) (r : Reply) → IsReply form runs s starts r → Warrants form s.outline r
reply_warrants form runs s starts (replies.Answer a) h = answer_warrants form runs s a h
reply_warrants form runs s starts (replies.BadValue word) h = tt

pub warranted : {E : Type 0} (form : ReportForm) (runs : Bool) (s : Subject) (starts : List (List ℕ)) (r : Result Reply E) → IfOk r (IsReply form runs s starts) → IfOk r (Warrants form s.outline)
warranted form runs s starts r is =
    IfOk-weaker r (IsReply form runs s starts) (Warrants form s.outline) (λ reply. reply_warrants form runs s starts reply) is
