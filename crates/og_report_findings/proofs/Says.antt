-- Which verdict a report ends in.
use Rattle.std.proofs.Common.{◌≡◌, ℕ, List, [], ◌∷◌, ◌++◌, Bool, true, false, Option, Some, None, Result, Ok, Err, IfOk, refl, sym, subst, codes, map, length, count_by, append_assoc}
use Rattle.std.specs.Prelude.{OnOk, Vec}
use Rattle.std.specs.Global.{Global}
use Rattle.serde_json.proofs.OnLiterals.{serde_json_on_literals}
use Rattle.serde_json.specs.Data.{Data, boolean, string, array, object, Members, member, no_members}
use Rattle.serde_json.specs.View.{items_of}
use Rattle.serde_json.specs.Written.{compact_text, members_text}
use Rattle.og_typed.specs.Syntax.{Program}
use Rattle.og_cond.specs.Condition.{Condition}
use Rattle.og_report_text.specs.Yes.{EndsWith}
use Rattle.og_report_text.specs.Origins.{Rows}
use Rattle.og_report_text.specs.Numbers.{natural}
use Rattle.og_report_text.proofs.Ends.{ends_with, ends_after, ends_then, ends_member}
use Rattle.og_report_prove.specs.Report.{is_proved, is_false, is_open, is_safe, is_unblocked, totals_text}
use Rattle.og_report_prove.specs.declared.diagnosis.Diagnosis.{Diagnosis}
use Rattle.og_report_runs.specs.Json.{explored_data}
use Rattle.og_report_runs.specs.declared.lines.Explored.{Explored}
use Rattle.og_report_runs.specs.declared.witness.Run.{Run}
use Rattle.og_report_findings.specs.Causes.{shown}
use Rattle.og_report_findings.specs.Entries.{unproved_from}
use Rattle.og_report_findings.specs.Exact.{ending, IsExactReport}
use Rattle.og_report_findings.specs.Json.{entry_data, json_text}
use Rattle.og_report_findings.specs.Order.{in_order}
use Rattle.og_report_findings.specs.Report.{groups_text, explored_part, report_text}
use Rattle.og_report_findings.specs.Says.{SaysNeverStuck}
use Rattle.og_report_findings.specs.declared.suggestion.Suggestion.{Suggestion}
use Rattle.og_report_findings.specs.Verdicts.{concluded, words_of, verdict_line}
use Rattle.og_report_findings.specs.declared.verdict.Conclusion.{Conclusion}
use Rattle.og_report_findings.specs.declared.verdict.Conclusion.TheVariants as conclusions
use Rattle.og_report_findings.proofs.Ends.{exact_text, never_stuck}

-- ---- a text

-- it ends in the line of the verdict
text_ends : (o : Program) (e : Option Explored) (advice : List (Vec Suggestion Global)) (source : List ℕ) (rows : Rows) (cs : List Condition) (ts : List Diagnosis) (rs : List Run) → EndsWith (verdict_line (concluded ts e)) (report_text o e advice source rows cs ts rs)
text_ends o e advice source rows cs ts rs =
    let last = verdict_line (concluded ts e) in
    ends_after (groups_text o e advice source rows (shown rows (in_order (unproved_from 1 cs ts rs)))) last _
    (ends_after (totals_text ts) last _ (ends_after (explored_part e rs) last _ (ends_with [] last)))

pub text_exact : (o : Program) (e : Option Explored) (advice : List (Vec Suggestion Global)) (source : List ℕ) (rows : Rows) (cs : List Condition) (ts : List Diagnosis) (rs : List Run) (t : List ℕ) → t ≡ report_text o e advice source rows cs ts rs → IsExactReport false ts e t
text_exact o e advice source rows cs ts rs t is = exact_text false ts e t (subst (EndsWith (verdict_line (concluded ts e))) (sym is) (text_ends o e advice source rows cs ts rs))

-- ---- JSON: it ends in the member of the verdict

abbrev verdict_member : Conclusion → List ℕ
verdict_member c = codes "\"verdict\":\"" ++ words_of c ++ codes "\"}"

verdict_ends : (c : Conclusion) → EndsWith (verdict_member c) (members_text true (member (codes "verdict") (string (words_of c)) no_members))
unfolding serde_json_on_literals
verdict_ends conclusions.NeverStuck = (44 ∷ [], refl)
verdict_ends conclusions.Safe = (44 ∷ [], refl)
verdict_ends conclusions.FalsePostcondition = (44 ∷ [], refl)
verdict_ends conclusions.Overflow = (44 ∷ [], refl)
verdict_ends conclusions.Stuck = (44 ∷ [], refl)
verdict_ends conclusions.FalseAssertion = (44 ∷ [], refl)
verdict_ends conclusions.TooWeak = (44 ∷ [], refl)
verdict_ends conclusions.Undecided = (44 ∷ [], refl)
verdict_ends conclusions.NotShown = (44 ∷ [], refl)

counts_end : (e : List ℕ) (all refuted unknown proved : ℕ) (ms : Members) → EndsWith e (members_text true ms)
    → EndsWith e (compact_text (object (member (codes "conditions") (natural all) (member (codes "false") (natural refuted) (member (codes "open") (natural unknown) (member (codes "proved") (natural proved) ms))))))
counts_end e all refuted unknown proved ms h =
    let fourth = member (codes "proved") (natural proved) ms in
    let third = member (codes "open") (natural unknown) fourth in
    let second = member (codes "false") (natural refuted) third in
    ends_after (123 ∷ []) e _ (ends_member e false (codes "conditions") (natural all) second
    (ends_member e true (codes "false") (natural refuted) third
    (ends_member e true (codes "open") (natural unknown) fourth
    (ends_member e true (codes "proved") (natural proved) ms h))))

answers_end : (e : List ℕ) (safe unblocked : Bool) (unproved : Data) (ms : Members) → EndsWith e (members_text true ms)
    → EndsWith e (members_text true (member (codes "safe") (boolean safe) (member (codes "unblocked") (boolean unblocked) (member (codes "unproved") unproved ms))))
answers_end e safe unblocked unproved ms h =
    let third = member (codes "unproved") unproved ms in
    let second = member (codes "unblocked") (boolean unblocked) third in
    ends_member e true (codes "safe") (boolean safe) second
    (ends_member e true (codes "unblocked") (boolean unblocked) third
    (ends_member e true (codes "unproved") unproved ms h))

report_ends : (o : Program) (source : List ℕ) (x : Option Explored) (cs : List Condition) (ts : List Diagnosis) (rs : List Run)
    → EndsWith (verdict_member (concluded ts x)) (json_text o source x cs ts rs)
report_ends o source None cs ts rs =
    let c = concluded ts None in
    let e = verdict_member c in
    let unproved = array (items_of (map (entry_data o source None) (unproved_from 1 cs ts rs))) in
    let last = member (codes "verdict") (string (words_of c)) no_members in
    counts_end e (length ts) (count_by is_false ts) (count_by is_open ts) (count_by is_proved ts)
    (member (codes "safe") (boolean (is_safe ts)) (member (codes "unblocked") (boolean (is_unblocked ts)) (member (codes "unproved") unproved last)))
    (answers_end e (is_safe ts) (is_unblocked ts) unproved last (verdict_ends c))
report_ends o source (Some x) cs ts rs =
    let c = concluded ts (Some x) in
    let e = verdict_member c in
    let unproved = array (items_of (map (entry_data o source (Some x)) (unproved_from 1 cs ts rs))) in
    let last = member (codes "verdict") (string (words_of c)) no_members in
    let answers = member (codes "safe") (boolean (is_safe ts)) (member (codes "unblocked") (boolean (is_unblocked ts)) (member (codes "unproved") unproved last)) in
    counts_end e (length ts) (count_by is_false ts) (count_by is_open ts) (count_by is_proved ts)
    (member (codes "runs") (explored_data x rs) answers)
    (ends_member e true (codes "runs") (explored_data x rs) answers
    (answers_end e (is_safe ts) (is_unblocked ts) unproved last (verdict_ends c)))

-- with its LF
json_ends : (o : Program) (source : List ℕ) (x : Option Explored) (cs : List Condition) (ts : List Diagnosis) (rs : List Run) → EndsWith (ending true (concluded ts x)) (json_text o source x cs ts rs ++ 10 ∷ [])
json_ends o source x cs ts rs =
    let words = words_of (concluded ts x) in
    subst (λ (end : List ℕ). EndsWith (codes "\"verdict\":\"" ++ end) (json_text o source x cs ts rs ++ 10 ∷ [])) (append_assoc words (codes "\"}") (10 ∷ []))
    (ends_then (verdict_member (concluded ts x)) (json_text o source x cs ts rs) (10 ∷ []) (report_ends o source x cs ts rs))

json_exact : (o : Program) (source : List ℕ) (x : Option Explored) (cs : List Condition) (ts : List Diagnosis) (rs : List Run) (t : List ℕ) → t ≡ json_text o source x cs ts rs → IsExactReport true ts x (t ++ 10 ∷ [])
json_exact o source x cs ts rs t is =
    exact_text true ts x (t ++ 10 ∷ []) (subst (λ (text : List ℕ). EndsWith (ending true (concluded ts x)) (text ++ 10 ∷ [])) (sym is) (json_ends o source x cs ts rs))

pub json_exact_of : {X E : Type 0} (items : X → List ℕ) (r : Result X E) (o : Program) (source : List ℕ) (x : Option Explored) (cs : List Condition) (ts : List Diagnosis) (rs : List Run)
    → IfOk r (λ t. items t ≡ json_text o source x cs ts rs) → IfOk r (λ t. IsExactReport true ts x (items t ++ 10 ∷ []))
json_exact_of items (Err error) o source x cs ts rs h = tt
json_exact_of items (Ok t) o source x cs ts rs h = json_exact o source x cs ts rs (items t) h

pub json_says_of : {X E : Type 0} (items : X → List ℕ) (r : Result X E) (o : Program) (source : List ℕ) (x : Option Explored) (cs : List Condition) (ts : List Diagnosis) (rs : List Run)
    → IfOk r (λ t. items t ≡ json_text o source x cs ts rs) → IfOk r (λ t. SaysNeverStuck true (items t ++ 10 ∷ []) → is_unblocked ts ≡ true)
json_says_of items (Err error) o source x cs ts rs h = tt
json_says_of items (Ok t) o source x cs ts rs h = never_stuck true ts x (items t ++ 10 ∷ []) (json_exact o source x cs ts rs (items t) h)

-- ---- what holds of the arguments

pub on_ok : {X E P : Type 0} (r : Result X E) → P → OnOk r P
on_ok (Ok x) p = p
on_ok (Err error) p = tt
