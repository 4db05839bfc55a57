-- What status 0 of the program says.
use Rattle.std.proofs.Common.{◌≡◌, inl, inr, ℕ, List, [], Bool, true, false, None, Some, Option, Ok, sym, ap, subst, arith, ◌∙◌}
use Rattle.std.specs.Prelude.{⊤, IfSome, is_some, codes}
use Rattle.std.specs.Borrow.{Bor}
use Rattle.og_typed.specs.Syntax.{Program}
use Rattle.og_typed.specs.Erase.{erased}
use Rattle.og_theorem.specs.NeverStuck.{IsNeverStuck as IsNeverStuckOf}
use Rattle.og_theorem.specs.Sound.{IsSound, IsSoundErased}
use Rattle.og_report_refusal.specs.Values.{IsValueRemark}
use Rattle.og_report_refusal.specs.declared.values.Gives.TheVariants as gives
use Rattle.og_report_text.specs.InputErrors.{IsFaultOfCount}
use Rattle.og_report_text.specs.Subject.{Subject}
use Rattle.og_report_text.specs.declared.fault.InputFault.TheVariants as faults
use Rattle.og_template_outline.specs.Meaning.{MeansBy, Means}
use Rattle.og_template_outline.specs.declared.fault.MeaningError.TheVariants as errors
use Rattle.og_template_outline.specs.declared.meaning.Takes.{Takes}
use Rattle.og_template_outline.specs.declared.meaning.Takes.TheVariants as takes
use Rattle.og_command_infer.specs.Inferred as inferring
use Rattle.og_command_infer.specs.Printed.{IsPrinted}
use Rattle.og_command_infer.specs.declared.inferrer.Reply.{Reply as Inferring}
use Rattle.og_command_infer.specs.declared.inferrer.Reply.TheVariants as inferrings
use Rattle.og_command_explore.specs.declared.exploring.Reply.{Reply}
use Rattle.og_command_explore.specs.declared.exploring.Reply.TheVariants as replies
use Rattle.og_command_prove.specs.Reply.{WarrantsAnswer, Warrants}
use Rattle.og_report_text.specs.declared.answer.Answer.{Answer}
use Rattle.og_report_text.specs.declared.fault.InputFault.{InputFault}
use Rattle.og_judge.specs.Proven.{IsProvenSource}
use Rattle.og_judge.specs.NeverStuck.{IsNeverStuckSource}
use Rattle.og_judge.specs.Report.{IsRefused as IsRefusedCheck}
use Rattle.og_command_check.specs.Inputs.{source_of, Reads}
use Rattle.og_command_check.specs.Wrote.{Wrote}
use Rattle.og_template.specs.Front.{is_template}
use Rattle.og_template_outline.specs.Expanded.{HoldsBy, HoldsOf}
use Rattle.og_command_check.proofs.Promised.{written_text, wrote_unblocked}
use Rattle.og_command_run.specs.Running.{IsRanProved, IsProven as IsProvenOutline}
use Rattle.og_command_run.specs.declared.reply.Ran.{Ran}
use Rattle.og_command_run.specs.declared.reply.Reply.{Reply as Running}
use Rattle.og_command_run.specs.declared.reply.Reply.TheVariants as runnings
use Rattle.og_command_prove.specs.Printed.{SaysNeverStuckIn}
use Rattle.og_command_prove.specs.declared.form.ReportForm.{ReportForm}
use Rattle.og_command_prove.specs.declared.form.ReportForm.TheVariants as reports
use Rattle.og_words.specs.Jobs.{word_bytes}
use Rattle.og_words.specs.declared.job.Job.{Job}
use Rattle.og_words.specs.declared.job.Job.TheVariants as jobs
use Rattle.og_words.specs.declared.job.Infer.{Infer}
use Rattle.og_words.specs.declared.job.Prove.{Prove}
use Rattle.og_words.specs.declared.job.Run.{Run}
use Rattle.og_words.specs.declared.job.Show.{Show}
use Rattle.og_program.specs.World.{World, Text, Stream, Trace, named, bytes_in}
use Rattle.og_program.specs.Sound.{IsProven, IsProvenFile, IsProvenText}
use Rattle.og_program.specs.Unblocked.{PrintsUnblocked, PrintsNeverStuck, IsNeverStuck}
use Rattle.og_program.specs.Written.{Gets, SaysWhy, Writes}
use Rattle.og_program.specs.Beside.{Noted, OnReport, OnBadValue, IsRefusal, IsJsonRefusal, Refuses, RefusesAsJson}
use Rattle.og_program.specs.Given.{IsTemplateRefusal, IsJsonTemplateRefusal, HasNoMeaning, HasNoMeaningAsJson, OfMeaning, OfMeaningAsJson}
use Rattle.og_program.specs.Commands.{report_form, text_form, takes_for, IsCheckReport, IsCheckOutcome, IsRunReport, IsWordRemark, FollowsReply, FollowsRunning, IsInferNote, FollowsInferring, Infers, ProvesOutline, ProvesOutlineAsJson, ProvesBy, Proves, Shows, RunsBy, IsOutcome}
use Rattle.og_program.specs.Served.{EndsJob}
use Rattle.og_program.specs.declared.ended.Ended.{Ended}
use Rattle.og_program.specs.declared.outcome.Outcome.{Outcome}
use Rattle.og_program.specs.declared.outcome.Outcome.TheVariants as outcomes
use Rattle.og_program.specs.declared.outcome.Report.{Report}

-- ---- writing

three_not_0 : (text : List ℕ) (err : Stream) (ended : Ended) → SaysWhy text 3 err ended → ended.status ≡ 0 → ⊥
three_not_0 text err ended (inl printed) zero = let three = printed.0 in omega (arith, three, zero)
three_not_0 text err ended (inr printed) zero = let four = printed.0 in omega (arith, four, zero)

four_not_0 : (text : List ℕ) (err : Stream) (ended : Ended) → SaysWhy text 4 err ended → ended.status ≡ 0 → ⊥
four_not_0 text err ended (inl printed) zero = let four = printed.0 in omega (arith, four, zero)
four_not_0 text err ended (inr printed) zero = let four = printed.0 in omega (arith, four, zero)

-- what status 0 says of an outcome that was written: a report is whole and has it, and a word or a step is not refused
abbrev IsDone : Stream → Outcome → Type 0
IsDone out (outcomes.Report r) = (r.answer.status ≡ 0) × Gets out r.answer.text.items
IsDone out (outcomes.Certificates certs) = ⊤
IsDone out (outcomes.Listing text) = ⊤
IsDone out (outcomes.BadValue bad) = ⊥
IsDone out (outcomes.NotMade line) = ⊥

done : (o : Outcome) (t : Trace) → Writes o t → t.ended.status ≡ 0 → IsDone t.out o
done (outcomes.Report r) t (inl prints) zero = (sym prints.1 ∙ zero, prints.0)
done (outcomes.Report r) t (inr fails) zero = absurd (four_not_0 _ t.err t.ended fails.1.1.1 zero)
done (outcomes.Certificates certs) t writes zero = tt
done (outcomes.Listing text) t writes zero = tt
done (outcomes.BadValue bad) t writes zero = three_not_0 _ t.err t.ended writes.1 zero
done (outcomes.NotMade line) t writes zero = let three = writes.1.0 in omega (arith, three, zero)

-- ---- of a report

on_report : (P : Report → Type 0) (out : Stream) (o : Outcome) → OnReport P o → IsDone out o
    → (r : Report) × P r × (r.answer.status ≡ 0) × Gets out r.answer.text.items
on_report P out (outcomes.Report r) h done = (r, h, done.0, done.1)
on_report P out (outcomes.Certificates certs) h done = absurd h
on_report P out (outcomes.Listing text) h done = absurd h
on_report P out (outcomes.BadValue bad) h done = absurd h
on_report P out (outcomes.NotMade line) h done = absurd h

-- a word that gives no value is refused
no_word : (V : List ℕ → List ℕ → Type 0) (word : Bor (List ℕ)) (out : Stream) (o : Outcome) → OnBadValue V word o → IsDone out o → ⊥
no_word V word out (outcomes.Report r) h done = h
no_word V word out (outcomes.Certificates certs) h done = h
no_word V word out (outcomes.Listing text) h done = h
no_word V word out (outcomes.BadValue bad) h done = done
no_word V word out (outcomes.NotMade line) h done = h

-- a report of this answer, whatever stands beside it
abbrev IsAnswer : Stream → Answer → Type 0
IsAnswer out answer = (answer.status ≡ 0) × Gets out answer.text.items

answered : (X : Report → Type 0) (answer : Answer) (out : Stream) (o : Outcome) → OnReport (λ r. (r.answer ≡ answer) × X r) o → IsDone out o → IsAnswer out answer
answered X answer out o h done =
    let r = on_report (λ r. (r.answer ≡ answer) × X r) out o h done in
    subst (IsAnswer out) r.1.0 (r.2, r.3)

-- a refusal has status 2
refused : (F : InputFault → Type 0) (source : Text) (certs : List ℕ) (out : Stream) (o : Outcome) → Refuses F source certs o → IsDone out o → ⊥
refused F source certs out o h done =
    let r = on_report (IsRefusal source certs h.0) out o h.2 done in
    let two = r.1.line.1 in
    let zero = r.2 in
    omega (arith, two, zero)

refused_as_json : (F : InputFault → Type 0) (source : Text) (out : Stream) (o : Outcome) → RefusesAsJson F source o → IsDone out o → ⊥
refused_as_json F source out o h done =
    let r = on_report (IsJsonRefusal source h.0) out o h.2 done in
    let two = r.1.object.1 in
    let zero = r.2 in
    omega (arith, two, zero)

-- ---- of a command that proves

-- what an answer to `prove` or `show` warrants
warranted : (form : ReportForm) (p : Program) (answer : Answer) (out : Stream) → WarrantsAnswer form p answer → IsAnswer out answer
    → (IsSound p × IsSoundErased p) × (Wrote (SaysNeverStuckIn form) out.before out.after → IsNeverStuckOf p × IsNeverStuckOf (erased p))
warranted form p answer out w is =
    (w.0 is.0, λ wrote. w.1 is.0 (written_text (SaysNeverStuckIn form) out.before out.after answer.text.items is.1 wrote))

-- of the outline that a text means
proven_text : (b : Bool) (text : List ℕ) (s : Subject) → MeansBy b text s → IsSound s.outline × IsSoundErased s.outline → HoldsBy b IsProvenSource text
proven_text true text s means h = (s.own, means.0, (s.outline, means.1, h.0, h.1))
proven_text false text s means h = (s.outline, means.0, h.0, h.1)

never_stuck_text : (b : Bool) (text : List ℕ) (s : Subject) → MeansBy b text s → IsNeverStuckOf s.outline × IsNeverStuckOf (erased s.outline) → HoldsBy b IsNeverStuckSource text
never_stuck_text true text s means h = (s.own, means.0, (s.outline, means.1, h.0, h.1))
never_stuck_text false text s means h = (s.outline, means.0, h.0, h.1)

proved : (form : ReportForm) (text : List ℕ) (s : Subject) (reply : Reply) (out : Stream) (o : Outcome) → Means text s → Warrants form s.outline reply
    → FollowsReply s.outline reply o → IsDone out o
    → HoldsOf IsProvenSource text × (Wrote (SaysNeverStuckIn form) out.before out.after → HoldsOf IsNeverStuckSource text)
proved form text s (replies.Answer a) out o means w follows done =
    let v = warranted form s.outline a out w (answered (λ r. r.note ≡ Ok None) a out o follows done) in
    (proven_text (is_template text) text s means v.0, λ wrote. never_stuck_text (is_template text) text s means (v.1 wrote))
proved form text s (replies.BadValue word) out o means w follows done = absurd (no_word (IsValueRemark gives.Ranges s.outline) word out o follows done)

-- a text that means no outline is refused
meaningless : (takes : Takes) (text : Text) (words : List (List ℕ)) (out : Stream) (o : Outcome) → HasNoMeaning takes text words o → IsDone out o → ⊥
meaningless takes text words out o (errors.Memory, why, follows) done = follows
meaningless takes text words out o (errors.Source fault, why, follows) done =
    let r = on_report (IsRefusal text [] (faults.Source fault)) out o follows done in
    let two = r.1.line.1 in
    let zero = r.2 in
    omega (arith, two, zero)
meaningless takes text words out o (errors.Template fault, why, follows) done =
    let r = on_report (IsTemplateRefusal text fault) out o follows done in
    let two = r.1.line.1 in
    let zero = r.2 in
    omega (arith, two, zero)
meaningless takes text words out o (errors.BadValue word, why, follows) done = no_word (λ _ _. ⊥) word out o follows done

meaningless_as_json : (takes : Takes) (text : Text) (words : List (List ℕ)) (out : Stream) (o : Outcome) → HasNoMeaningAsJson takes text words o → IsDone out o → ⊥
meaningless_as_json takes text words out o (errors.Memory, why, follows) done = follows
meaningless_as_json takes text words out o (errors.Source fault, why, follows) done =
    let r = on_report (IsJsonRefusal text (faults.Source fault)) out o follows done in
    let two = r.1.object.1 in
    let zero = r.2 in
    omega (arith, two, zero)
meaningless_as_json takes text words out o (errors.Template fault, why, follows) done =
    let r = on_report (IsJsonTemplateRefusal text fault) out o follows done in
    let two = r.1.object.1 in
    let zero = r.2 in
    omega (arith, two, zero)
meaningless_as_json takes text words out o (errors.BadValue word, why, follows) done = no_word (λ _ _. ⊥) word out o follows done

-- a run with status 0 is one that certificates prove safe
proven_of : (limit : ℕ) (o : Program) (source certs : List ℕ) (words : List (List ℕ)) (ran : Ran) → IsRanProved limit o source certs words (runnings.Ran ran)
    → ran.answer.status ≡ 0 → IsProvenOutline o
proven_of limit o source certs words ran (inl early) zero = absurd early
proven_of limit o source certs words ran (inr (values, gives, (entries, found, inl unsafe))) zero =
    let one = unsafe.1.0.1 in absurd (omega (arith, one, zero))
proven_of limit o source certs words ran (inr (values, gives, (entries, found, inr safe))) zero = safe.1

ran_proved : (limit : ℕ) (source : Text) (certs : List ℕ) (p : Program) (words : List (List ℕ)) (reply : Running) (out : Stream) (o : Outcome)
    → IsRanProved limit p source.bytes certs words reply → FollowsRunning source p words None reply o → IsDone out o → IsProvenOutline p
ran_proved limit source certs p words (runnings.Ran ran) out o is follows done =
    let r = on_report (IsRunReport source p words ran) out o follows done in
    proven_of limit p source.bytes certs words ran is (ap (λ (a : Answer). a.status) (sym r.1.0) ∙ r.2)
ran_proved limit source certs p words (runnings.BadValue word) out o is follows done = absurd (no_word (IsWordRemark p None) word out o follows done)
ran_proved limit source certs p words (runnings.NotMade line) out o is follows done = absurd (subst (IsDone out) follows done)

-- ---- of a job

of_proves : (takes : Takes) (world : World) (name : List ℕ) (words : List (List ℕ)) (form : ReportForm) (runs : Bool) (out : Stream) (o : Outcome)
    → OfMeaning takes world name words (ProvesOutline form runs) o → IsDone out o
    → IsProvenText world name × (Wrote (SaysNeverStuckIn form) out.before out.after → Reads source_of (bytes_in world name) (HoldsOf IsNeverStuckSource))
of_proves takes world name words form runs out o (text, is, inl (s, starts, means, given, inl (reply, found, warrants, follows))) done =
    let w = proved form text s reply out o means warrants follows done in ((text, is, w.0), λ wrote. (text, is, w.1 wrote))
of_proves takes world name words form runs out o (text, is, inl (s, starts, means, given, inr refusal)) done =
    absurd (refused (IsFaultOfCount s.outline) (named name text) [] out o refusal done)
of_proves takes world name words form runs out o (text, is, inr none) done = absurd (meaningless takes (named name text) words out o none done)

of_proves_as_json : (takes : Takes) (world : World) (name : List ℕ) (words : List (List ℕ)) (runs : Bool) (out : Stream) (o : Outcome)
    → OfMeaningAsJson takes world name words (ProvesOutlineAsJson runs) o → IsDone out o
    → IsProvenText world name × (Wrote (SaysNeverStuckIn reports.Json) out.before out.after → Reads source_of (bytes_in world name) (HoldsOf IsNeverStuckSource))
of_proves_as_json takes world name words runs out o (text, is, inl (s, starts, means, given, inl (reply, found, warrants, follows))) done =
    let w = proved reports.Json text s reply out o means warrants follows done in ((text, is, w.0), λ wrote. (text, is, w.1 wrote))
of_proves_as_json takes world name words runs out o (text, is, inl (s, starts, means, given, inr refusal)) done =
    absurd (refused_as_json (IsFaultOfCount s.outline) (named name text) out o refusal done)
of_proves_as_json takes world name words runs out o (text, is, inr none) done = absurd (meaningless_as_json takes (named name text) words out o none done)

-- with advice a text ends as without it
text_prints : (suggest : Bool) (out : Stream) → PrintsNeverStuck false out → Wrote (SaysNeverStuckIn (text_form suggest)) out.before out.after
text_prints false out h = h
text_prints true out h = h

of_prove_by : (json : Bool) (world : World) (out : Stream) (prove : Prove) (o : Outcome) → ProvesBy json world prove o → IsDone out o
    → IsProvenText world prove.source.now
    × (PrintsNeverStuck json out → Reads source_of (bytes_in world prove.source.now) (HoldsOf IsNeverStuckSource))
of_prove_by true world out prove o h done =
    let runs = is_some prove.runs in of_proves_as_json (takes_for runs) world prove.source.now (word_bytes prove.words.items) runs out o h done
of_prove_by false world out prove o h done =
    let runs = is_some prove.runs in
    let w = of_proves (takes_for runs) world prove.source.now (word_bytes prove.words.items) (text_form prove.suggest) runs out o h done in
    (w.0, λ prints. w.1 (text_prints prove.suggest out prints))

of_prove : (world : World) (out : Stream) (prove : Prove) (o : Outcome) → Proves world prove o → IsDone out o
    → IsProvenText world prove.source.now
    × (PrintsNeverStuck prove.json out → Reads source_of (bytes_in world prove.source.now) (HoldsOf IsNeverStuckSource))
of_prove world out prove o h done = of_prove_by prove.json world out prove o h done

of_show : (world : World) (out : Stream) (show : Show) (o : Outcome) → Shows world show o → IsDone out o → IsProvenText world show.source.now
of_show world out show o h done =
    let runs = is_some show.runs in
    (of_proves (takes_for runs) world show.source.now (word_bytes show.words.items) (reports.Page show.source) runs out o h done).0

-- a completed outline warrants what it says of the given one
inferred : (json aux : Bool) (text : List ℕ) (s : Subject) (reply : Inferring) (words : List (List ℕ)) (out : Stream) (o : Outcome) → Means text s
    → inferring.IsReply (report_form json) aux s words reply → FollowsInferring json s reply o → IsDone out o → HoldsOf IsProvenSource text
inferred json aux text s (inferrings.Inferred i) words out o means is follows done =
    let r = on_report (λ report. IsPrinted json s.own i report.answer × Noted (IsInferNote json i) report) out o follows done in
    proven_text (is_template text) text s means (is.completion.warrants.0 (sym r.1.0.1 ∙ r.2))
inferred json aux text s (inferrings.BadValue word) words out o means is follows done = absurd (no_word (IsValueRemark gives.Ranges s.outline) word out o follows done)

of_infer : (world : World) (out : Stream) (infer : Infer) (o : Outcome) → Infers world infer o → IsDone out o → IsProvenText world infer.source.now
of_infer world out infer o (text, is, inl (s, starts, means, given, inl (reply, found, follows))) done =
    (text, is, inferred infer.json infer.aux text s reply starts out o means found follows done)
of_infer world out infer o (text, is, inl (s, starts, means, given, inr refusal)) done =
    absurd (refused (IsFaultOfCount s.outline) (named infer.source.now text) [] out o refusal done)
of_infer world out infer o (text, is, inr none) done = absurd (meaningless takes.Starts (named infer.source.now text) (word_bytes infer.words.items) out o none done)

of_run : (certs schedule : Option (Bor (List ℕ))) (world : World) (out : Stream) (run : Run) (o : Outcome) → RunsBy certs schedule world run o → IsDone out o
    → IfSome certs (λ _. IsProvenFile world run.source.now)
of_run None schedule world out run o h done = tt
of_run (Some certs) schedule world out run o (source, text, (k, certs_text, inl (p, is, (reply, ran, follows)))) done =
    let proven = ran_proved run.limit (named run.source.now source) k p (word_bytes run.values.items) reply out o ran follows done in
    (source, text, (p, is, proven.0, proven.1))
of_run (Some certs) schedule world out run o (source, text, (k, certs_text, inr refusal)) done =
    absurd (refused (IsRefusedCheck source k) (named run.source.now source) certs.now out o refusal done)

of_check : (json : Bool) (source certs : Text) (out : Stream) (o : Outcome) → IsCheckOutcome json source certs o → IsDone out o
    → IsProvenSource source.bytes × (PrintsUnblocked json out → IsNeverStuckSource source.bytes)
of_check json source certs out o (inl h) done =
    let r = on_report (IsCheckReport json source certs) out o h done in
    let warrants = r.1.4 in
    (warrants.0 r.2, λ wrote. wrote_unblocked json source.bytes r.0.answer.text.items out.before out.after r.0.answer.status warrants r.3 r.2 wrote)
of_check json source certs out o (inr refusal) done =
    absurd (refused (IsRefusedCheck source.bytes certs.bytes) source certs.name out o refusal done)

of_done : (world : World) (out : Stream) (job : Job) (o : Outcome) → IsOutcome world job o → IsDone out o → IsProven world job × IsNeverStuck world out job
of_done world out jobs.Joined o h done =
    let w = of_check false (named (codes "-") h.2.0) (named (codes "-") h.2.1) out o h.2.3 done in
    ((h.0, h.1, (h.2.0, h.2.1, h.2.2, w.0)), λ wrote. (h.0, h.1, (h.2.0, h.2.1, h.2.2, w.1 wrote)))
of_done world out (jobs.Prove prove) o h done = of_prove world out prove o h done
of_done world out (jobs.Infer infer) o h done = (of_infer world out infer o h done, tt)
of_done world out (jobs.Check check) o h done =
    let w = of_check check.json (named check.source.now h.0) (named check.certs.now h.2.0) out o h.2.2 done in
    ((h.0, h.1, w.0), λ wrote. (h.0, h.1, w.1 wrote))
of_done world out (jobs.Show show) o h done = (of_show world out show o h done, tt)
of_done world out (jobs.Run run) o h done = (of_run run.certs run.schedule world out run o h done, tt)
of_done world out _ o h done = (tt, tt)

-- ---- of the program

of_ends : (world : World) (job : Job) (t : Trace) → EndsJob world job t → t.ended.status ≡ 0 → IsProven world job × IsNeverStuck world t.out job
of_ends world job t (inl e) zero = of_done world t.out job e.0 e.1 (done e.0 t e.2 zero)
of_ends world job t (inr f) zero = absurd (four_not_0 _ t.err t.ended f.2.1 zero)

pub sound_job : (world : World) (job : Job) (t : Trace) → EndsJob world job t → t.ended.status ≡ 0 → IsProven world job
sound_job world job t ends zero = (of_ends world job t ends zero).0

pub unblocked_job : (world : World) (job : Job) (t : Trace) → EndsJob world job t → t.ended.status ≡ 0 → IsNeverStuck world t.out job
unblocked_job world job t ends zero = (of_ends world job t ends zero).1
