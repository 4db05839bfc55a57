-- From the parts of an answer to the whole.
use Rattle.std.proofs.Common.{◌≡◌, inl, inr, refl, sym, subst, ◌∙◌, ℕ, suc, ◌<◌, ◌^◌, ◌≤◌, Bool, List, [], ◌∷◌, length, Result, Ok, Err, Option, IfOk, arith, ap}
use Rattle.std.specs.Io.KnownBytes.{Appends}
use Rattle.og_typed.specs.Syntax.{Program}
use Rattle.og_cond.specs.Condition.{Condition}
use Rattle.og_cond.specs.Conditions.{conditions}
use Rattle.og_report_text.specs.Answers.{IsFaultAnswer}
use Rattle.og_report_text.specs.declared.answer.Answer.{Answer}
use Rattle.og_report_text.specs.declared.fault.InputFault.{InputFault}
use Rattle.og_judge.specs.declared.entry.Entry.{Entry}
use Rattle.og_judge.specs.Answered.{IsAnswered}
use Rattle.og_judge.specs.Entries.{entries_from}
use Rattle.og_judge.specs.NotJudged.{IsNotJudged}
use Rattle.og_judge.specs.Report.{IsReport, IsRefused}
use Rattle.og_judge.specs.declared.refusal.Refusal.{Refusal}
use Rattle.og_judge.specs.declared.refusal.Refusal.TheVariants as refusal
use Rattle.og_judge.proofs.Answering.{refusal_status}
use Rattle.og_judge.specs.Proven.{IsProvenSource}
use Rattle.og_judge.specs.NeverStuck.{IsNeverStuckSource}
use Rattle.og_report_text.specs.Yes.{SaysUnblocked}
use Rattle.og_pool.specs.declared.fault.PoolFault.{PoolFault}
use Rattle.og_command_check.specs.Answers.{Reports, IsReported, IsOutput, IsChecked}
use Rattle.og_command_check.specs.declared.answer.CheckReply.{CheckReply}
use Rattle.og_command_check.specs.Written.{Writes}
use Rattle.og_cert_read.specs.Shared.{shared_text}
use Rattle.og_cert_text.specs.Files.{Entries}
use Rattle.og_find.specs.Found.{AreOf}
use Rattle.og_find.specs.Missing.{missing_up_to}
use Rattle.og_command_check.specs.Making.{IsLength, IsSearched, IsSecond}
use Rattle.og_command_check.specs.declared.making.FindReply.{FindReply}
use Rattle.og_command_check.specs.declared.making.FindReply.TheVariants as replies
use Rattle.og_command_check.specs.Warrants.{Warrants}

-- ---- reports

length_entries : (n : ℕ) (file : Entries) (cs : List Condition) → length (entries_from n file cs) ≡ length cs
length_entries n file [] = refl
length_entries n file (c ∷ cs) = ap suc (length_entries (suc n) file cs)

-- a report has an entry for each condition, of which there are few
pub few_entries : (source certs : List ℕ) (o : Program) (entries : List Entry) → IsReport source certs o entries → length entries < 2 ^ 32
few_entries source certs o entries h =
    let few = h.found.few in
    let counted = ap length h.found.listed ∙ length_entries 1 h.found.file (conditions o) in
    omega (arith, few, counted)

pub reported : (json : Bool) (source certs : List ℕ) (o : Program) (entries : List Entry) (reply : CheckReply) → IsReport source certs o entries
    → Reports json source entries reply → IsReported json source certs reply
reported json source certs o entries reply h r = record { outline = o; entries = entries; found = h; reports = r }

-- ---- answers

pub judged : (json : Bool) (source certs : List ℕ) (reply : CheckReply) → IsReported json source certs reply → IsChecked json source certs reply.answer
judged json source certs reply h = inl (record { outline = h.outline; entries = h.entries; report = h.found; printed = h.reports.0.0; answered = h.reports.0.1 })

turned_down : (json : Bool) (source certs : List ℕ) (why : InputFault) (a : Answer) → IsRefused source certs why
    → IsFaultAnswer source why a → IsChecked json source certs a
turned_down json source certs why a h answered = inr (record { why = why; refused = h; printed = answered.0; answered = answered.1 })

-- the answer to a refusal
pub refused : (json : Bool) (source certs : List ℕ) (why : Refusal) (r : Result Answer PoolFault) → IsNotJudged source certs why → IsAnswered source why r → IfOk r (IsChecked json source certs)
refused json source certs (refusal.Input fault) (Ok a) h answered = turned_down json source certs fault a h answered
refused json source certs (refusal.Input fault) (Err e) h answered = tt
refused json source certs refusal.Spawn (Ok a) h answered = absurd answered
refused json source certs refusal.Spawn (Err e) h answered = tt
refused json source certs refusal.Memory (Ok a) h answered = absurd answered
refused json source certs refusal.Memory (Err e) h answered = tt

-- such an answer has not the status 0
pub refused_is_not_0 : (P : Answer → Type 0) (source : List ℕ) (why : Refusal) (r : Result Answer PoolFault) → IsAnswered source why r → IfOk r (λ a. a.status ≡ 0 → P a)
refused_is_not_0 P source why (Ok a) answered = λ zero. let two : a.status ≡ 2 = refusal_status source why (Ok a) answered in absurd (omega arith)
refused_is_not_0 P source why (Err e) answered = tt

-- ---- texts of certificates

-- the findings on all conditions, by those on a file of their certificates
pub second_searched : (limit : ℕ) (cs : List Condition) (es : Entries) (count : ℕ) (reply : FindReply) → AreOf cs es → count ≡ length cs → IsSecond limit count es reply → IsSearched 2 limit cs reply
second_searched limit cs es count (replies.Found found) of same h =
    ((es, of, h.0, h.2 ∙ ap (missing_up_to es) same, h.3 ∙ same), subst (λ (t : List ℕ). length t ≤ limit) (sym h.0) h.1)
second_searched limit cs es count (replies.TooLong long) of same h =
    (h.0, (es, of, h.1), (es, of, subst (IsLength limit (length (shared_text es))) (sym h.2) h.1))

-- ---- what is written

-- the part of an answer that is written
pub warranted : (json : Bool) (source text : List ℕ) (a status : ℕ) → (a ≡ 0 → IsProvenSource source) → (a ≡ 0 → SaysUnblocked json text → IsNeverStuckSource source)
    → status ≡ a → Warrants json source text status
warranted json source text a status sound unblocked same = ((λ zero. sound (sym same ∙ zero)), (λ zero says. unblocked (sym same ∙ zero) says))

pub written : (json : Bool) (source certs : List ℕ) (a : Answer) (status : ℕ) (before after : Option (List ℕ)) → IsChecked json source certs a
    → (a.status ≡ 0 → IsProvenSource source) → (a.status ≡ 0 → SaysUnblocked json a.text.items → IsNeverStuckSource source) → status ≡ a.status
    → Appends before after a.text.items → Writes json source certs before after status
written json source certs a status before after h sound unblocked same appended =
    (a.text.items, subst (λ (n : ℕ). IsOutput json source certs a.text.items n) (sym same) h, warranted json source a.text.items a.status status sound unblocked same, appended)
