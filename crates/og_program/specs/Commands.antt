-- Which outcome each command has, by the texts that it reads.
use Rattle.std.specs.Prelude.{◌≡◌, ◌≢◌, ◌⊎◌, ℕ, Bool, true, false, List, [], Option, None, Some, IfSome, is_some, Result, Ok, Vec, codes}
use Rattle.std.specs.Borrow.{Bor}
use Rattle.std.specs.Global.{Global}
use Rattle.std.specs.declared.alloc.AllocError.{AllocError}
use Rattle.og_io.specs.Joined.{IsSplit}
use Rattle.og_typed.specs.Syntax.{Program}
use Rattle.og_typed.specs.Source.{IsSource}
use Rattle.og_find.specs.declared.counting.Missing.{Missing}
use Rattle.og_report_text.specs.Answers.{Says}
use Rattle.og_report_text.specs.declared.answer.Answer.{Answer}
use Rattle.og_report_refusal.specs.Missing.{missing_text, long_text}
use Rattle.og_report_refusal.specs.Starting as starting
use Rattle.og_report_refusal.specs.Values.{schedule_text, reason_line, IsValueRemark}
use Rattle.og_report_refusal.specs.declared.values.Gives.TheVariants as gives
use Rattle.og_report_conditions.specs.Chosen as listing
use Rattle.og_report_conditions.specs.declared.choosing.Reply.{Reply as Listing}
use Rattle.og_report_conditions.specs.declared.choosing.Reply.TheVariants as listings
use Rattle.og_report_conditions.specs.declared.form.Form.{Form}
use Rattle.og_report_conditions.specs.declared.form.Form.TheVariants as forms
use Rattle.og_command_check.specs.Answers.{IsReported}
use Rattle.og_command_check.specs.Commands.{IsErased}
use Rattle.og_command_check.specs.Inputs.{joined_of, Reads}
use Rattle.og_command_check.specs.Making.{IsFound, IsMigrated, IsFaultOfCerts}
use Rattle.og_command_check.specs.declared.answer.CheckReply.{CheckReply}
use Rattle.og_judge.specs.Report.{IsRefused as IsRefusedCheck}
use Rattle.og_report_text.specs.InputErrors.{IsFaultOfSource, IsFaultOfCount, IsFaultOfConditions}
use Rattle.og_command_check.specs.Warrants.{Warrants}
use Rattle.og_command_check.specs.declared.making.FindReply.{FindReply}
use Rattle.og_command_check.specs.declared.making.FindReply.TheVariants as finds
use Rattle.og_command_check.specs.declared.making.LongText.{LongText}
use Rattle.og_template.specs.Front.{is_template}
use Rattle.og_template_outline.specs.Expanded.{IsExpanded}
use Rattle.og_template_outline.specs.declared.meaning.Takes.{Takes}
use Rattle.og_template_outline.specs.declared.meaning.Takes.TheVariants as takes
use Rattle.og_report_text.specs.Subject.{Subject}
use Rattle.og_command_explore.specs.Drawings.{HasOneOf as IsReplyTo}
use Rattle.og_command_explore.specs.Explored as exploring
use Rattle.og_command_explore.specs.declared.drawing.Drawing.{Drawing}
use Rattle.og_command_explore.specs.declared.drawing.Drawing.TheVariants as drawings
use Rattle.og_command_explore.specs.declared.exploring.Reply.{Reply}
use Rattle.og_command_explore.specs.declared.exploring.Reply.TheVariants as replies
use Rattle.og_command_promela.specs.Replies.{HasOneOf}
use Rattle.og_command_promela.specs.declared.translating.Reply.{Reply as Translation}
use Rattle.og_command_promela.specs.declared.translating.Reply.TheVariants as translations
use Rattle.og_command_notes.specs.Noted.{IsNotes}
use Rattle.og_command_infer.specs.Inferred as inferring
use Rattle.og_command_infer.specs.Printed.{IsPrinted, IsRemark}
use Rattle.og_command_infer.specs.declared.inferrer.Inferred.{Inferred}
use Rattle.og_command_infer.specs.declared.inferrer.Reply.{Reply as Inferring}
use Rattle.og_command_infer.specs.declared.inferrer.Reply.TheVariants as inferrings
use Rattle.og_command_prove.specs.Reply as proving
use Rattle.og_command_prove.specs.declared.form.ReportForm.{ReportForm}
use Rattle.og_command_prove.specs.declared.form.ReportForm.TheVariants as reports
use Rattle.og_command_run.specs.Running.{IsRan, IsRanProved}
use Rattle.og_command_run.specs.Scheduled.{IsScheduled}
use Rattle.og_command_run.specs.declared.reply.Ran.{Ran}
use Rattle.og_command_run.specs.declared.reply.Reply.{Reply as Running}
use Rattle.og_command_run.specs.declared.reply.Reply.TheVariants as runnings
use Rattle.og_words.specs.Jobs.{word_bytes}
use Rattle.og_words.specs.declared.job.Check.{Check}
use Rattle.og_words.specs.declared.job.Conditions.{Conditions}
use Rattle.og_words.specs.declared.job.Erase.{Erase}
use Rattle.og_words.specs.declared.job.Expand.{Expand}
use Rattle.og_words.specs.declared.job.Explore.{Explore}
use Rattle.og_words.specs.declared.job.Find.{Find}
use Rattle.og_words.specs.declared.job.Format.{Format}
use Rattle.og_words.specs.declared.job.Infer.{Infer}
use Rattle.og_words.specs.declared.job.Migrate.{Migrate}
use Rattle.og_words.specs.declared.job.Notes.{Notes}
use Rattle.og_words.specs.declared.job.Promela.{Promela}
use Rattle.og_words.specs.declared.job.Prove.{Prove}
use Rattle.og_words.specs.declared.job.Run.{Run}
use Rattle.og_words.specs.declared.job.Show.{Show}
use Rattle.og_words.specs.declared.job.Job.{Job}
use Rattle.og_words.specs.declared.job.Job.TheVariants as jobs
use Rattle.og_program.specs.World.{World, Text, named, OfSource, OfCerts, OfBoth}
use Rattle.og_program.specs.Given.{HasNoMeaning, OfMeaning, OfMeaningAsJson}
use Rattle.og_program.specs.Layout.{IsFormatted}
use Rattle.og_program.specs.Beside.{IsNote, Noted, OnReport, OnCertificates, OnBadValue, Answers, Refuses, RefusesAsJson}
use Rattle.og_program.specs.declared.outcome.Outcome.{Outcome}
use Rattle.og_program.specs.declared.outcome.Outcome.TheVariants as outcomes
use Rattle.og_program.specs.declared.outcome.Report.{Report}

-- ---- an outline

-- P of the text of a source and of its outline, or the refusal for its first fault
abbrev pub OfOutline : World → List ℕ → (Text → Program → Outcome → Type 0) → Outcome → Type 0
OfOutline world name P outcome =
    OfSource world name (λ source. ((o : Program) × IsSource source.bytes o × P source o outcome)
    ⊎ Refuses (IsFaultOfSource source.bytes) source [] outcome)

-- ---- check

-- how many conditions have no certificate
abbrev pub IsMissingNote : List ℕ → Missing → Option (List ℕ) → Type 0
IsMissingNote name missing None = ⊥
IsMissingNote name missing (Some text) = text ≡ missing_text name missing.count missing.conditions

-- that stands beside an answer where some condition has none
abbrev pub NotesCount : List ℕ → Missing → Result (Option (Vec ℕ Global)) AllocError → Type 0
NotesCount name missing note =
    (missing.count ≡ 0 → note ≡ Ok None) × (missing.count ≢ 0 → IsNote (IsMissingNote name missing) note)

-- the same beside the report of a check, where that is not safe
abbrev pub NotesCheck : List ℕ → CheckReply → Result (Option (Vec ℕ Global)) AllocError → Type 0
NotesCheck name checked note =
    (checked.answer.status ≡ 1 → NotesCount name checked.missing note)
    × (checked.answer.status ≢ 1 → note ≡ Ok None)

-- the report of a check, and what it says of the source
abbrev pub IsCheckReport : Bool → Text → Text → Report → Type 0
IsCheckReport json source certs report =
    (checked : CheckReply) × IsReported json source.bytes certs.bytes checked
    × (report.answer ≡ checked.answer) × NotesCheck source.name checked report.note
    × Warrants json source.bytes report.answer.text.items report.answer.status

abbrev pub IsCheckOutcome : Bool → Text → Text → Outcome → Type 0
IsCheckOutcome json source certs outcome =
    OnReport (IsCheckReport json source certs) outcome
    ⊎ Refuses (IsRefusedCheck source.bytes certs.bytes) source certs.name outcome

abbrev pub Checks : World → Check → Outcome → Type 0
Checks world check outcome =
    OfBoth world check.source.now check.certs.now
    (λ source certs. IsCheckOutcome check.json source certs outcome)

-- a source and certificates in one input
abbrev pub ChecksInput : World → Outcome → Type 0
ChecksInput world outcome =
    Reads joined_of world.input (λ input. (source certs : List ℕ) × IsSplit input source certs
    × IsCheckOutcome false (named (codes "-") source) (named (codes "-") certs) outcome)

-- ---- expand

-- what is printed of the outline that a text means; an outline has no constant for a word to name
abbrev pub ExpandsText : Expand → Text → Outcome → Type 0
ExpandsText expand text outcome =
    let words = word_bytes expand.values.items in
    ((answer : Answer) × IsExpanded expand.as_map text.bytes answer
    × (is_template text.bytes ≡ false → words ≡ []) × Answers answer outcome)
    ⊎ HasNoMeaning takes.Constants text words outcome

abbrev pub Expands : World → Expand → Outcome → Type 0
Expands world expand outcome =
    OfSource world expand.template.now (λ text. ExpandsText expand text outcome)

-- ---- fmt

-- a source or a template in its layout, or whether it has it; or why it means no outline
abbrev pub Formats : World → Format → Outcome → Type 0
Formats world format outcome =
    OfSource world format.source.now
    (λ text. OnReport (IsFormatted format.check text) outcome ⊎ HasNoMeaning takes.Constants text [] outcome)

-- ---- prove and show

-- the form of a report, by whether it is to be JSON
abbrev pub report_form : Bool → ReportForm
report_form true = reports.Json
report_form false = reports.Text

-- what the words may give: starts too where runs are asked for
-- a text, with advice or without
abbrev pub text_form : Bool → ReportForm
text_form true = reports.Advised
text_form false = reports.Text

abbrev pub takes_for : Bool → Takes
takes_for true = takes.Starts
takes_for false = takes.Constants

-- of a word that gives no start a line says why by the outline
abbrev pub FollowsReply : Program → Reply → Outcome → Type 0
FollowsReply o (replies.Answer answer) = Answers answer
FollowsReply o (replies.BadValue word) = OnBadValue (IsValueRemark gives.Ranges o) word

-- what searches find of each condition of an outline, with the runs to false ones where they are asked
-- for, and what that says of its runs; or that there are too many conditions
abbrev pub ProvesOutline : ReportForm → Bool → Text → Subject → List (List ℕ) → Outcome → Type 0
ProvesOutline form runs text s starts outcome =
    ((reply : Reply) × proving.IsReply form runs s starts reply
    × proving.Warrants form s.outline reply × FollowsReply s.outline reply outcome)
    ⊎ Refuses (IsFaultOfCount s.outline) text [] outcome

-- the same as JSON, refusals too
abbrev pub ProvesOutlineAsJson : Bool → Text → Subject → List (List ℕ) → Outcome → Type 0
ProvesOutlineAsJson runs text s starts outcome =
    ((reply : Reply) × proving.IsReply reports.Json runs s starts reply
    × proving.Warrants reports.Json s.outline reply × FollowsReply s.outline reply outcome)
    ⊎ RefusesAsJson (IsFaultOfCount s.outline) text outcome

abbrev pub ProvesBy : Bool → World → Prove → Outcome → Type 0
ProvesBy true world prove outcome =
    let runs = is_some prove.runs in
    OfMeaningAsJson (takes_for runs) world prove.source.now (word_bytes prove.words.items)
    (ProvesOutlineAsJson runs) outcome
ProvesBy false world prove outcome =
    let runs = is_some prove.runs in
    OfMeaning (takes_for runs) world prove.source.now (word_bytes prove.words.items)
    (ProvesOutline (text_form prove.suggest) runs) outcome

abbrev pub Proves : World → Prove → Outcome → Type 0
Proves world prove outcome = ProvesBy prove.json world prove outcome

-- the same as a page by the name of the source
abbrev pub Shows : World → Show → Outcome → Type 0
Shows world show outcome =
    let runs = is_some show.runs in
    OfMeaning (takes_for runs) world show.source.now (word_bytes show.words.items)
    (ProvesOutline (reports.Page show.source) runs) outcome

-- ---- infer

-- how much was added, and what is left to prove
abbrev pub IsInferNote : Bool → Inferred → Option (List ℕ) → Type 0
IsInferNote json i None = ⊥
IsInferNote json i (Some text) = IsRemark json i text

abbrev pub FollowsInferring : Bool → Subject → Inferring → Outcome → Type 0
FollowsInferring json s (inferrings.Inferred i) =
    OnReport (λ report. IsPrinted json s.own i report.answer × Noted (IsInferNote json i) report)
FollowsInferring json s (inferrings.BadValue word) = OnBadValue (IsValueRemark gives.Ranges s.outline) word

-- an outline completed, and what is proved of it; or that there are too many conditions
abbrev pub InfersOutline : Bool → Bool → Text → Subject → List (List ℕ) → Outcome → Type 0
InfersOutline json aux text s starts outcome =
    ((reply : Inferring) × inferring.IsReply (report_form json) aux s starts reply
    × FollowsInferring json s reply outcome)
    ⊎ Refuses (IsFaultOfCount s.outline) text [] outcome

abbrev pub Infers : World → Infer → Outcome → Type 0
Infers world infer outcome =
    OfMeaning takes.Starts world infer.source.now (word_bytes infer.words.items)
    (InfersOutline infer.json infer.aux) outcome

-- ---- explore and notes

-- the text of a graph, with status 0; why there is none, on standard error alone; or a bad value
abbrev pub FollowsDrawing : Program → Drawing → Outcome → Type 0
FollowsDrawing o (drawings.Graph text) =
    OnReport (λ report. (report.answer.text ≡ text) × (report.answer.status ≡ 0) × (report.note ≡ Ok None))
FollowsDrawing o (drawings.Refused line) =
    OnReport (λ report. (report.answer.text.items ≡ []) × (report.answer.status ≡ 1) × (report.note ≡ Ok (Some line)))
FollowsDrawing o (drawings.BadValue word) = OnBadValue (IsValueRemark gives.Ranges o) word

abbrev pub Draws : World → Explore → Outcome → Type 0
Draws world explore outcome =
    OfMeaning takes.Starts world explore.source.now (word_bytes explore.words.items)
    (λ text s starts outcome. (reply : Drawing) × IsReplyTo starts reply
    × FollowsDrawing s.outline reply outcome) outcome

abbrev pub Looks : World → Explore → Outcome → Type 0
Looks world explore outcome =
    OfMeaning takes.Starts world explore.source.now (word_bytes explore.words.items)
    (λ text s starts outcome. (reply : Reply)
    × exploring.IsReply explore.json s explore.erased starts reply
    × FollowsReply s.outline reply outcome) outcome

-- ---- promela

-- the text of a twin, with status 0; why there is none, on standard error alone; or a bad value
abbrev pub FollowsTwin : Program → Translation → Outcome → Type 0
FollowsTwin o (translations.Twin text) =
    OnReport (λ report. (report.answer.text ≡ text) × (report.answer.status ≡ 0) × (report.note ≡ Ok None))
FollowsTwin o (translations.NoTwin line) =
    OnReport (λ report. (report.answer.text.items ≡ []) × (report.answer.status ≡ 1) × (report.note ≡ Ok (Some line)))
FollowsTwin o (translations.BadValue word) = OnBadValue (IsValueRemark gives.Ranges o) word

abbrev pub Translates : World → Promela → Outcome → Type 0
Translates world promela outcome =
    OfMeaning takes.Starts world promela.source.now (word_bytes promela.words.items)
    (λ text s starts outcome. (reply : Translation) × HasOneOf starts reply
    × FollowsTwin s.outline reply outcome) outcome

-- the moments are drawn, or what goes wrong there is looked for
abbrev pub ExploresAs : Bool → World → Explore → Outcome → Type 0
ExploresAs true = Draws
ExploresAs false = Looks

abbrev pub Explores : World → Explore → Outcome → Type 0
Explores world explore outcome = ExploresAs explore.dot world explore outcome

abbrev pub NotesOn : World → Notes → Outcome → Type 0
NotesOn world notes outcome =
    OfMeaning takes.Constants world notes.source.now (word_bytes notes.words.items)
    (λ text s starts outcome. (answer : Answer) × IsNotes s answer × Answers answer outcome)
    outcome

-- ---- erase and migrate

abbrev pub Erases : World → Erase → Outcome → Type 0
Erases world erase outcome =
    OfOutline world erase.source.now
    (λ s o outcome. (answer : Answer) × IsErased erase.readable o answer × Answers answer outcome) outcome

abbrev pub Migrates : World → Migrate → Outcome → Type 0
Migrates world migrate outcome =
    OfCerts world migrate.certs.now
    (λ c. ((answer : Answer) × IsMigrated c.bytes answer × Answers answer outcome)
    ⊎ Refuses (IsFaultOfCerts c.bytes) (named [] []) c.name outcome)

-- ---- conditions

-- how they are listed, by the flags that are given
abbrev pub form_of : Bool → Bool → Form
form_of triples true = forms.Script
form_of true false = forms.Triples
form_of false false = forms.Facts

abbrev pub FollowsListing : Listing → Outcome → Type 0
FollowsListing (listings.Listing text) outcome = outcome ≡ outcomes.Listing text
FollowsListing (listings.Bad word why) outcome =
    outcome ≡ outcomes.BadValue (record { word = word; why = Some why })

-- all of an outline, or those of a word
abbrev pub IsListing : Conditions → Program → List ℕ → Listing → Type 0
IsListing conditions o source reply =
    listing.IsReply (form_of conditions.triples conditions.smt2) conditions.only o source reply

abbrev pub ListsText : Conditions → Text → Outcome → Type 0
ListsText conditions source outcome =
    ((o : Program) × IsSource source.bytes o
    × ((reply : Listing) × IsListing conditions o source.bytes reply × FollowsListing reply outcome))
    ⊎ Refuses (IsFaultOfConditions source.bytes) source [] outcome

abbrev pub Lists : World → Conditions → Outcome → Type 0
Lists world conditions outcome =
    OfSource world conditions.source.now (λ source. ListsText conditions source outcome)

-- ---- find

-- the certificates take more bytes than they may
abbrev pub IsLongNote : List ℕ → LongText → Option (List ℕ) → Type 0
IsLongNote name long None = ⊥
IsLongNote name long (Some text) = text ≡ long_text name long.limit long.second

abbrev pub FollowsFinding : List ℕ → FindReply → Outcome → Type 0
FollowsFinding name (finds.Found found) =
    OnCertificates (λ certs. (certs.found ≡ found) × NotesCount name found.missing certs.note)
FollowsFinding name (finds.TooLong long) =
    OnReport (λ report. Says [] 1 report.answer × Noted (IsLongNote name long) report)

-- those that searches find, in a text that may be read
abbrev pub FindsText : Find → Text → Outcome → Type 0
FindsText find source outcome =
    ((o : Program) × IsSource source.bytes o
    × ((reply : FindReply) × IsFound find.version 67108864 o reply
    × FollowsFinding source.name reply outcome))
    ⊎ Refuses (IsFaultOfConditions source.bytes) source [] outcome

abbrev pub Finds : World → Find → Outcome → Type 0
Finds world find outcome = OfSource world find.source.now (λ source. FindsText find source outcome)

-- ---- run

-- why the start of a run is refused, where a line says it
abbrev pub IsStartNote : Text → Program → List (List ℕ) → Option (List ℕ) → Type 0
IsStartNote source o words note = IfSome note (starting.IsStartRemark source.name source.bytes o words)

-- the answer of a run, and beside the refusal of its start that, and else the run's line
abbrev pub IsRunReport : Text → Program → List (List ℕ) → Ran → Report → Type 0
IsRunReport source o words ran report =
    (report.answer ≡ ran.answer) × (report.answer.status ≡ 2 → Noted (IsStartNote source o words) report)
    × (report.answer.status ≢ 2 → report.note ≡ Ok ran.note)

-- why a word gives no value, or is no schedule
abbrev pub IsWordRemark : Program → Option (Bor (List ℕ)) → List ℕ → List ℕ → Type 0
IsWordRemark o None word line = IsValueRemark gives.Values o word line
IsWordRemark o (Some schedule) word line =
    IsValueRemark gives.Values o word line
    ⊎ ((word ≡ schedule.now) × (line ≡ reason_line schedule_text))

abbrev pub FollowsRunning : Text → Program → List (List ℕ) → Option (Bor (List ℕ)) → Running → Outcome → Type 0
FollowsRunning source o words schedule (runnings.Ran ran) outcome =
    OnReport (IsRunReport source o words ran) outcome
FollowsRunning source o words schedule (runnings.BadValue word) outcome =
    OnBadValue (IsWordRemark o schedule) word outcome
FollowsRunning source o words schedule (runnings.NotMade line) outcome = outcome ≡ outcomes.NotMade line

-- in threads
abbrev pub RunsOutline : Run → Text → Program → Outcome → Type 0
RunsOutline run source o outcome =
    let words = word_bytes run.values.items in
    (reply : Running) × IsRan run.erased run.limit o source.bytes words reply
    × FollowsRunning source o words None reply outcome

-- in one thread, by a schedule
abbrev pub RunsScheduled : Run → Bor (List ℕ) → Text → Program → Outcome → Type 0
RunsScheduled run schedule source o outcome =
    let words = word_bytes run.values.items in
    (reply : Running) × IsScheduled run.erased o source.bytes words schedule.now reply
    × FollowsRunning source o words (Some schedule) reply outcome

-- in threads, where certificates prove it safe
abbrev pub RunsProved : Run → Text → List ℕ → Program → Outcome → Type 0
RunsProved run source certs o outcome =
    let words = word_bytes run.values.items in
    (reply : Running) × IsRanProved run.limit o source.bytes certs words reply
    × FollowsRunning source o words None reply outcome

-- by its certificates, and else by its schedule
abbrev pub RunsBy : Option (Bor (List ℕ)) → Option (Bor (List ℕ)) → World → Run → Outcome → Type 0
RunsBy None None world run outcome = OfOutline world run.source.now (RunsOutline run) outcome
RunsBy None (Some schedule) world run outcome =
    OfOutline world run.source.now (RunsScheduled run schedule) outcome
RunsBy (Some certs) schedule world run outcome =
    OfBoth world run.source.now certs.now (λ s c.
    ((o : Program) × IsSource s.bytes o × RunsProved run s c.bytes o outcome)
    ⊎ Refuses (IsRefusedCheck s.bytes c.bytes) s c.name outcome)

abbrev pub Runs : World → Run → Outcome → Type 0
Runs world run = RunsBy run.certs run.schedule world run

-- ---- of a job

abbrev pub IsOutcome : World → Job → Outcome → Type 0
IsOutcome world jobs.Joined = ChecksInput world
IsOutcome world (jobs.Prove prove) = Proves world prove
IsOutcome world (jobs.Infer infer) = Infers world infer
IsOutcome world (jobs.Check check) = Checks world check
IsOutcome world (jobs.Notes notes) = NotesOn world notes
IsOutcome world (jobs.Show show) = Shows world show
IsOutcome world (jobs.Conditions conditions) = Lists world conditions
IsOutcome world (jobs.Find find) = Finds world find
IsOutcome world (jobs.Erase erase) = Erases world erase
IsOutcome world (jobs.Run run) = Runs world run
IsOutcome world (jobs.Explore explore) = Explores world explore
IsOutcome world (jobs.Promela promela) = Translates world promela
IsOutcome world (jobs.Expand expand) = Expands world expand
IsOutcome world (jobs.Format format) = Formats world format
IsOutcome world (jobs.Migrate migrate) = Migrates world migrate
