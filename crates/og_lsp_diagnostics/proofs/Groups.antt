-- Groups of conditions, and the diagnostics of them.
use Rattle.std.proofs.Common.{◌≡◌, ◌≤◌, ◌+◌, ℕ, List, [], ◌∷◌, ◌++◌, length, drop, Vec, Bool, true, false, cond, Option, Some, None, sym, ap, subst, append-nil, append_assoc, ◌∙◌, arith}
use Rattle.std.specs.Global.{Global}
use Rattle.std.specs.List.{AllByRecursion}
use Rattle.std.proofs.lemmas.List.{drop_all}
use Rattle.og_report_text.specs.Origins.{Rows}
use Rattle.og_cond.specs.Condition.{Condition}
use Rattle.og_report_prove.specs.Report.{is_proved}
use Rattle.og_report_prove.specs.declared.diagnosis.Diagnosis.{Diagnosis}
use Rattle.og_report_runs.specs.declared.witness.Run.{Run}
use Rattle.og_report_findings.specs.Causes.{Item, cause_of, is_of_cause, joined, with_item, groups_from, groups, groups_of}
use Rattle.og_report_findings.specs.Entries.{unproved_from}
use Rattle.og_report_findings.specs.declared.shown.Item.{Item as Given}
use Rattle.og_lsp_diagnostics.specs.Said.{HasSome, IsOfGroup, AreOfGroups, AreLeft}
use Rattle.og_lsp_diagnostics.specs.declared.diagnostic.Diagnostic.{Diagnostic}

-- ---- no group is empty

some_pushed : (g : List Item) (i : Item) → HasSome (g ++ i ∷ [])
some_pushed [] i = tt
some_pushed (x ∷ g) i = tt

all_pushed : (gs : List (List Item)) (g : List Item) → HasSome g → AllByRecursion HasSome gs → AllByRecursion HasSome (gs ++ g ∷ [])
all_pushed [] g is all = (is, tt)
all_pushed (h ∷ gs) g is all = (all.0, all_pushed gs g is all.1)

module _ (names : List (List ℕ)) (source : List ℕ) (rows : Rows) where
  joined_some : (text : List ℕ) (i : Item) (gs : List (List Item)) → AllByRecursion HasSome gs → AllByRecursion HasSome (joined names source rows text i gs)
  joined_some text i [] all = (tt, tt)
  joined_some text i (g ∷ gs) all = from (is_of_cause names source rows text g) (joined_some text i gs all.1)
    where
      from : (b : Bool) → AllByRecursion HasSome (joined names source rows text i gs) → AllByRecursion HasSome (cond b ((g ++ i ∷ []) ∷ gs) (g ∷ joined names source rows text i gs))
      from true others = (some_pushed g i, all.1)
      from false others = (all.0, others)

  with_item_some : (cause : Option (List ℕ)) (i : Item) (gs : List (List Item)) → AllByRecursion HasSome gs → AllByRecursion HasSome (with_item names source rows cause i gs)
  with_item_some None i gs all = all_pushed gs (i ∷ []) tt all
  with_item_some (Some text) i gs all = joined_some text i gs all

  from_some : (gs : List (List Item)) (items : List Item) → AllByRecursion HasSome gs → AllByRecursion HasSome (groups_from names source rows gs items)
  from_some gs [] all = all
  from_some gs (i ∷ items) all = from_some (with_item names source rows (cause_of names source rows i.entry.diagnosis) i gs) items (with_item_some (cause_of names source rows i.entry.diagnosis) i gs all)

  pub groups_some : (items : List Item) → AllByRecursion HasSome (groups names source rows items)
  groups_some items = from_some [] items tt

-- ---- one group more

pub left_less : (text : List ℕ) (rows : Rows) (g : List Item) (left all : List (List Item)) (ds es : List Diagnostic) (d : Diagnostic) → es ≡ ds ++ d ∷ [] → IsOfGroup text rows g d
    → AreLeft text rows (g ∷ left) all ds → AreLeft text rows left all es
left_less text rows g left all ds es d put is so_far more are =
    subst (AreOfGroups text rows all) (sym (ap (λ (xs : List Diagnostic). xs ++ more) put ∙ append_assoc ds (d ∷ []) more)) (so_far (d ∷ more) (is, are))

-- ---- no group is left

pub none_left : (text : List ℕ) (rows : Rows) (gs : List (Vec Given Global)) (i : ℕ) (all : List (List Item)) (ds : List Diagnostic) → length gs ≤ i
    → AreLeft text rows (groups_of (drop i gs)) all ds → AreOfGroups text rows all ds
none_left text rows gs i all ds less left =
    subst (AreOfGroups text rows all) (append-nil ds) (left [] (subst (λ xs. AreOfGroups text rows (groups_of xs) []) (sym (drop_all i gs less)) tt))

-- ---- there are no more conditions than findings

pub unproved_few : (n : ℕ) (cs : List Condition) (ts : List Diagnosis) (rs : List Run) → length (unproved_from n cs ts rs) ≤ length ts
unproved_few n [] ts rs = omega arith
unproved_few n (c ∷ cs) [] rs = omega arith
unproved_few n (c ∷ cs) (t ∷ ts) [] = omega arith
unproved_few n (c ∷ cs) (t ∷ ts) (r ∷ rs) = from (is_proved t) (unproved_few (n + 1) cs ts rs)
  where
    from : (b : Bool) → length (unproved_from (n + 1) cs ts rs) ≤ length ts
        → length (cond b [] (record { number = n; condition = c; diagnosis = t; run = r } ∷ []) ++ unproved_from (n + 1) cs ts rs) ≤ length (t ∷ ts)
    from true few = omega (arith, few)
    from false few = omega (arith, few)
