-- One step, and one condition, after another.
use Rattle.std.proofs.Common.{◌≡◌, ◌≤◌, ℕ, ◌+◌, List, [], ◌∷◌, ◌++◌, drop, length, map, Some, Vec, refl, ap, sym, ◌∙◌, subst, append_assoc}
use Rattle.std.specs.Global.{Global}
use Rattle.std.specs.Prelude.{slice_get}
use Rattle.std.proofs.lemmas.List.{drop_all, map-append}
use Rattle.og_typed.specs.Syntax.{Program}
use Rattle.og_report_explore.specs.declared.finding.Row.{Row}
use Rattle.og_report_prove.specs.declared.diagnosis.Diagnosis.{Diagnosis}
use Rattle.og_report_prove.proofs.Lists.{dropped}
use Rattle.og_report_runs.specs.declared.lines.Explored.{Explored}
use Rattle.og_report_runs.specs.declared.witness.Run.{Run}
use Rattle.og_report_html.specs.Lanes.{numbered, IsRunPart, AreRunParts}

none_after : {X : Type 0} (xs : List X) → xs ++ [] ≡ xs
none_after [] = refl
none_after (x ∷ xs) = ap (λ ys. x ∷ ys) (none_after xs)

pub row_goes : (of : ℕ → Row → List ℕ) (i : ℕ) (rows : List Row) (row : Row) (t0 t1 whole : List ℕ) → slice_get rows i ≡ Some row → t1 ≡ t0 ++ of (i + 1) row
    → t0 ++ numbered of (i + 1) (drop i rows) ≡ whole → t1 ++ numbered of (i + 1 + 1) (drop (i + 1) rows) ≡ whole
row_goes of i rows row t0 t1 whole is put so_far =
    let rest = numbered of (i + 1 + 1) (drop (i + 1) rows) in
    ap (λ (l : List ℕ). l ++ rest) put
    ∙ append_assoc t0 (of (i + 1) row) rest
    ∙ ap (λ (l : List Row). t0 ++ numbered of (i + 1) l) (sym (dropped rows i row is))
    ∙ so_far

pub rows_end : (of : ℕ → Row → List ℕ) (i : ℕ) (rows : List Row) (text whole : List ℕ) → length rows ≤ i → text ++ numbered of (i + 1) (drop i rows) ≡ whole → text ≡ whole
rows_end of i rows text whole past so_far =
    sym (none_after text) ∙ ap (λ (l : List Row). text ++ numbered of (i + 1) l) (sym (drop_all i rows past)) ∙ so_far

-- ---- the texts of all conditions

-- with those of the conditions from the n-th on, they are all there
abbrev pub MakesAll : Program → List ℕ → Explored → List Diagnosis → List Run → ℕ → List Diagnosis → List Run → List (List ℕ) → Type 0
MakesAll o source e ts rs n diagnosis runs texts = (more : List (List ℕ)) → AreRunParts o source e n diagnosis runs more → AreRunParts o source e 1 ts rs (texts ++ more)

pub all_begin : (o : Program) (source : List ℕ) (e : Explored) (ts : List Diagnosis) (rs : List Run) (texts : List (List ℕ)) → texts ≡ [] → MakesAll o source e ts rs 1 ts rs texts
all_begin o source e ts rs texts none = λ more h. subst (λ (l : List (List ℕ)). AreRunParts o source e 1 ts rs (l ++ more)) (sym none) h

abbrev items_of : Vec ℕ Global → List ℕ
items_of v = v.items

pub all_go_on : (o : Program) (source : List ℕ) (e : Explored) (ts : List Diagnosis) (rs : List Run) (i : ℕ) (t : Diagnosis) (r : Run) (old new : List (Vec ℕ Global)) (text : Vec ℕ Global)
    → slice_get ts i ≡ Some t → slice_get rs i ≡ Some r → IsRunPart o source e (i + 1) t r text.items → new ≡ old ++ text ∷ []
    → MakesAll o source e ts rs (i + 1) (drop i ts) (drop i rs) (map (λ v. v.items) old)
    → MakesAll o source e ts rs (i + 1 + 1) (drop (i + 1) ts) (drop (i + 1) rs) (map (λ v. v.items) new)
all_go_on o source e ts rs i t r old new text t_is r_is is pushed h = λ more later.
    let made : map items_of new ≡ map items_of old ++ text.items ∷ [] = ap (map items_of) pushed ∙ map-append items_of old (text ∷ []) in
    let both : AreRunParts o source e (i + 1) (t ∷ drop (i + 1) ts) (r ∷ drop (i + 1) rs) (text.items ∷ more) = (is, later) in
    let first = subst (λ l. AreRunParts o source e (i + 1) l (r ∷ drop (i + 1) rs) (text.items ∷ more)) (sym (dropped ts i t t_is)) both in
    let second = subst (λ l. AreRunParts o source e (i + 1) (drop i ts) l (text.items ∷ more)) (sym (dropped rs i r r_is)) first in
    subst (λ (l : List (List ℕ)). AreRunParts o source e 1 ts rs (l ++ more)) (sym made)
    (subst (AreRunParts o source e 1 ts rs) (sym (append_assoc (map items_of old) (text.items ∷ []) more)) (h (text.items ∷ more) second))

pub all_end : (o : Program) (source : List ℕ) (e : Explored) (ts : List Diagnosis) (rs : List Run) (i : ℕ) (texts : List (List ℕ)) → length ts ≤ i → length rs ≤ i
    → MakesAll o source e ts rs (i + 1) (drop i ts) (drop i rs) texts → AreRunParts o source e 1 ts rs texts
all_end o source e ts rs i texts t_past r_past h =
    let first = subst (λ l. AreRunParts o source e (i + 1) l [] []) (sym (drop_all i ts t_past)) tt in
    let second = subst (λ l. AreRunParts o source e (i + 1) (drop i ts) l []) (sym (drop_all i rs r_past)) first in
    subst (AreRunParts o source e 1 ts rs) (none_after texts) (h [] second)
