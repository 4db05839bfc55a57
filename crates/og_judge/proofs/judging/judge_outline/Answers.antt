use Rattle.std.proofs.Common.{◌≡◌, length, map, ap, sym, ◌∙◌, ◌<◌, ◌+◌, ℕ, Some, vec_len, subst, ap₂, rules, List}
use Rattle.std.specs.Prelude.{slice_get}
use Rattle.std.proofs.lemmas.List.{length-map}
use Rattle.std.proofs.lemmas.Result.{err_from_is_err_and}
use Rattle.og_cond.specs.Seen.{seen}
use Rattle.og_cond.specs.Conditions.{conditions}
use Rattle.og_cond.specs.declared.condition.Condition.{Condition}
use Rattle.og_cert_text.specs.Shown.{shown}
use Rattle.og_pool.specs.Numbered.{status_of}
use Rattle.og_judge.specs.Entries.{AreEntries, HasNoneAbove}
use Rattle.og_judge.specs.Parts.{listed_from}
use Rattle.og_judge.proofs.Refusing.{conditions_refused, certs_refused, stray_refused}
use Rattle.og_judge.proofs.Listing.{listed_entries}
use Rattle.og_judge.proofs.judging.judge_outline.Goals as goal

pub returns-in_err-conditions-clause-refused : goal.returns-in_err-conditions-clause-refused
returns-in_err-conditions-clause-refused g c =
    let p = err_from_is_err_and c.from_residual.result c.from_residual.ensures.1 in
    rw p.1 (conditions_refused c.args.certs.now c.args.outline.now c.in_err-conditions.field-0.0 p.0 c.in_err-conditions.ensures p.2)

pub returns-in_err-file-clause-refused : goal.returns-in_err-file-clause-refused
returns-in_err-file-clause-refused g c =
    let p = err_from_is_err_and c.from_residual-in_err-file.result c.from_residual-in_err-file.ensures.1 in
    rw p.1 (certs_refused c.args.certs.now c.args.outline.now c.in_err-file.field-0.0 p.0 c.in_ok-conditions.ensures.1 c.in_err-file.ensures p.2)

pub returns-in-Some-clause-refused : goal.returns-in-Some-clause-refused
returns-in-Some-clause-refused g c =
    let same : c.count_of.result ≡ length (conditions c.args.outline.now) =
    c.count_of.ensures ∙ ap length c.deref.ensures.value ∙ sym (length-map c.in_ok-conditions.conditions.items seen) ∙ ap length c.in_ok-conditions.ensures.0 in
    stray_refused c.args.certs.now c.args.outline.now (shown c.in_ok-file.file) c.count_of.result c.in-Some.number c.in_ok-conditions.ensures.1 c.in_ok-file.ensures same c.in-Some.ensures

pub concluded-requires : goal.concluded-requires
concluded-requires g c =
    let conds = c.in_ok-conditions.conditions.items in
    let ss = c.in_ok-statuses.statuses.items in
    let file = c.in_ok-file.file in
    let counted : vec_len c.in_ok-statuses.statuses ≡ length c.deref-2.result.now = c.in_ok-statuses.ensures.statuses.0 in
    let long : length ss ≡ length conds = search (rules, counted, c.deref-2.ensures.value) in
    let each = subst (λ (cs : List Condition). (i : ℕ) → i < length cs → slice_get ss i ≡ Some (status_of cs file (i + 1))) c.deref-2.ensures.value c.in_ok-statuses.ensures.statuses.1 in
    let made = c.in_ok-entries.ensures ∙ ap₂ (λ a b. listed_from (map seen a) b) c.deref-3.ensures.value c.deref-4.ensures.value in
    (shown file, listed_entries conds file ss (conditions c.args.outline.now) c.in_ok-entries.entries.items c.in_ok-conditions.ensures.0 long each made)

pub returns-clause-entries : goal.returns-clause-entries
returns-clause-entries g c =
    let conds = c.in_ok-conditions.conditions.items in
    let ss = c.in_ok-statuses.statuses.items in
    let file = c.in_ok-file.file in
    let counted : vec_len c.in_ok-statuses.statuses ≡ length c.deref-2.result.now = c.in_ok-statuses.ensures.statuses.0 in
    let long : length ss ≡ length conds = search (rules, counted, c.deref-2.ensures.value) in
    let each = subst (λ (cs : List Condition). (i : ℕ) → i < length cs → slice_get ss i ≡ Some (status_of cs file (i + 1))) c.deref-2.ensures.value c.in_ok-statuses.ensures.statuses.1 in
    let made = c.in_ok-entries.ensures ∙ ap₂ (λ a b. listed_from (map seen a) b) c.deref-3.ensures.value c.deref-4.ensures.value in
    let are : AreEntries c.args.certs.now c.args.outline.now c.in_ok-entries.entries.items = record {
      few = c.in_ok-conditions.ensures.1;
      file = shown file;
      read = c.in_ok-file.ensures;
      none_stray = subst (λ (n : ℕ). HasNoneAbove n (shown file)) (c.count_of.ensures ∙ ap length c.deref.ensures.value ∙ sym (length-map c.in_ok-conditions.conditions.items seen) ∙ ap length c.in_ok-conditions.ensures.0) c.in_default.ensures;
      listed = listed_entries conds file ss (conditions c.args.outline.now) c.in_ok-entries.entries.items c.in_ok-conditions.ensures.0 long each made;
    } in
    subst (AreEntries c.args.certs.now c.args.outline.now) (sym c.concluded.ensures.entries) are
