-- A report that says that the outline is unblocked is that of entries the last of which is proved.
use Rattle.std.proofs.Common.{◌≡◌, inl, ℕ, suc, List, [], ◌∷◌, ◌++◌, Bool, true, false, refl, subst, codes, cond, length, count_by, arith, Result, Ok, Err, IfOk}
use Rattle.serde_json.specs.Data.{boolean, object, Members, member}
use Rattle.serde_json.specs.View.{items_of}
use Rattle.serde_json.specs.Written.{compact_text, members_text}
use Rattle.og_report_text.specs.Numbers.{natural}
use Rattle.og_report_text.specs.Yes.{EndsWith, SaysUnblocked}
use Rattle.og_report_text.proofs.Ends.{ends_with, ends_after, ends_less, same_before, ends_member, EndsWithBrace, braced, last_members, members_answer}
use Rattle.og_judge.specs.declared.entry.Entry.{Entry}
use Rattle.og_judge.specs.Entries.{is_proved, is_safe, is_unblocked}
use Rattle.og_report.specs.Report.{unproved_lines, count_text, answer_text, report_text}
use Rattle.og_report.specs.Json.{entry_data, unproved_data, json_text}

-- ---- the text

pub text_answers : (b : Bool) (t : List ℕ) → EndsWith (answer_text (codes "unblocked: ") b) t → EndsWith (codes "unblocked: yes\n") t → b ≡ true
text_answers true t p q = refl
text_answers false t p q =
    absurd (omega (arith, same_before 111 115 (10 ∷ []) t (ends_less (codes "unblocked: n") (111 ∷ 10 ∷ []) t p) (ends_less (codes "unblocked: ye") (115 ∷ 10 ∷ []) t q)))

-- ---- JSON

unproved_step : (source : List ℕ) (n : ℕ) (e : Entry) (es : List Entry) (b : Bool) → EndsWithBrace (items_of (unproved_data source (suc n) es))
    → EndsWithBrace (items_of (cond b [] (entry_data source n e ∷ []) ++ unproved_data source (suc n) es))
unproved_step source n e es true h = h
unproved_step source n e es false h = braced _ _ h

unproved_end : (source : List ℕ) (n : ℕ) (es : List Entry) → EndsWithBrace (items_of (unproved_data source n es))
unproved_end source n [] = inl refl
unproved_end source n (e ∷ es) = unproved_step source n e es (is_proved e) (unproved_end source (suc n) es)

unblocked_ends : (e : List ℕ) (n proved : ℕ) (safe : Bool) (ms : Members) → EndsWith e (members_text true ms)
    → EndsWith e (compact_text (object (member (codes "conditions") (natural n) (member (codes "proved") (natural proved) (member (codes "safe") (boolean safe) ms)))))
unblocked_ends e n proved safe ms h =
    let third = ends_member e true (codes "safe") (boolean safe) ms h in
    let second = ends_member e true (codes "proved") (natural proved) (member (codes "safe") (boolean safe) ms) third in
    ends_after (123 ∷ []) e _ (ends_member e false (codes "conditions") (natural n) (member (codes "proved") (natural proved) (member (codes "safe") (boolean safe) ms)) second)

json_ends : (source : List ℕ) (es : List Entry) → EndsWith (members_text true (last_members (is_unblocked es) (items_of (unproved_data source 1 es)))) (json_text source es)
json_ends source es =
    let last = last_members (is_unblocked es) (items_of (unproved_data source 1 es)) in
    unblocked_ends (members_text true last) (length es) (count_by is_proved es) (is_safe es) last (ends_with [] (members_text true last))

-- ---- both

text_ends : (source : List ℕ) (es : List Entry) → EndsWith (answer_text (codes "unblocked: ") (is_unblocked es)) (report_text source es)
text_ends source es =
    let last = answer_text (codes "unblocked: ") (is_unblocked es) in
    ends_after (unproved_lines source 1 es) last _
    (ends_after (count_text (codes "conditions: ") (length es)) last _
    (ends_after (count_text (codes "proved: ") (count_by is_proved es)) last _
    (ends_after (answer_text (codes "safe: ") (is_safe es)) last _ (ends_with [] last))))

pub text_says : (source : List ℕ) (es : List Entry) → SaysUnblocked false (report_text source es) → is_unblocked es ≡ true
text_says source es h = text_answers (is_unblocked es) (report_text source es) (text_ends source es) h

pub json_says : (source : List ℕ) (es : List Entry) → SaysUnblocked true (json_text source es ++ 10 ∷ []) → is_unblocked es ≡ true
json_says source es = members_answer (is_unblocked es) (items_of (unproved_data source 1 es)) (json_text source es) (unproved_end source 1 es) (json_ends source es)

pub json_says_of : {X E : Type 0} (items : X → List ℕ) (r : Result X E) (source : List ℕ) (es : List Entry) → IfOk r (λ t. items t ≡ json_text source es)
    → IfOk r (λ t. SaysUnblocked true (items t ++ 10 ∷ []) → is_unblocked es ≡ true)
json_says_of items (Err e) source es h = tt
json_says_of items (Ok t) source es h = λ says. json_says source es (subst (λ (x : List ℕ). SaysUnblocked true (x ++ 10 ∷ [])) h says)
