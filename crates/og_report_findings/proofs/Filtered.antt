-- The order of entries is that of what they stand for.
use Rattle.std.proofs.Common.{◌≡◌, ◌≤◌, ◌+◌, ℕ, List, [], ◌∷◌, Bool, true, false, Some, cond, map, filter, drop, length, refl, ap, sym, ◌++◌, ◌∙◌, append_assoc}
use Rattle.std.specs.Prelude.{slice_get, if◌then◌else◌}
use Rattle.std.proofs.lemmas.List.{map-append, drop_all}
use Rattle.og_report_prove.proofs.Lists.{dropped}
use Rattle.og_report_findings.specs.Entries.{entry_of}
use Rattle.og_report_findings.specs.Order.{is_reached, is_open, is_never, in_order}
use Rattle.og_report_findings.specs.declared.entry.Entry.{Entry}
use Rattle.og_report_runs.specs.declared.witness.Run.{Run}

chosen : (is : Run → Bool) (e : Entry) (es : List Entry) (b : Bool) → map entry_of (filter (λ e. is e.run.now) es) ≡ filter (λ e. is e.run) (map entry_of es)
    → map entry_of (cond b (e ∷ filter (λ e. is e.run.now) es) (filter (λ e. is e.run.now) es)) ≡ cond b (entry_of e ∷ filter (λ e. is e.run) (map entry_of es)) (filter (λ e. is e.run) (map entry_of es))
chosen is e es true h = ap (λ xs. entry_of e ∷ xs) h
chosen is e es false h = h

pub filtered : (is : Run → Bool) (es : List Entry) → map entry_of (filter (λ e. is e.run.now) es) ≡ filter (λ e. is e.run) (map entry_of es)
filtered is [] = refl
filtered is (e ∷ es) = chosen is e es (is e.run.now) (filtered is es)

-- those of the three lists, one after another
pub in_order_of : (es xs ys zs first all : List Entry) → xs ≡ filter (λ e. is_reached e.run.now) es → ys ≡ filter (λ e. is_open e.run.now) es → zs ≡ filter (λ e. is_never e.run.now) es
    → first ≡ xs ++ ys → all ≡ first ++ zs → map entry_of all ≡ in_order (map entry_of es)
in_order_of es xs ys zs first all p q r begin whole =
    let reached = ap (map entry_of) p ∙ filtered is_reached es in
    let open_ones = ap (map entry_of) q ∙ filtered is_open es in
    let never = ap (map entry_of) r ∙ filtered is_never es in
    ap (map entry_of) (whole ∙ ap (λ (l : List Entry). l ++ zs) begin) ∙ map-append entry_of (xs ++ ys) zs ∙ ap (λ l. l ++ map entry_of zs) (map-append entry_of xs ys)
    ∙ append_assoc (map entry_of xs) (map entry_of ys) (map entry_of zs) ∙ ap (λ l. l ++ (map entry_of ys ++ map entry_of zs)) reached
    ∙ ap (λ l. filter (λ e. is_reached e.run) (map entry_of es) ++ (l ++ map entry_of zs)) open_ones
    ∙ ap (λ l. filter (λ e. is_reached e.run) (map entry_of es) ++ (filter (λ e. is_open e.run) (map entry_of es) ++ l)) never

-- ---- one entry after another

none_after : (xs : List Entry) → xs ++ [] ≡ xs
none_after [] = refl
none_after (x ∷ xs) = ap (λ ys. x ∷ ys) (none_after xs)

one_more : (e : Entry) (b : Bool) (old rest : List Entry) → (old ++ (if b then e ∷ [] else [])) ++ rest ≡ old ++ cond b (e ∷ rest) rest
one_more e true old rest = append_assoc old (e ∷ []) rest
one_more e false old rest = ap (λ (l : List Entry). l ++ rest) (none_after old)

pub chosen_goes : (is : Run → Bool) (es : List Entry) (i : ℕ) (e : Entry) (b : Bool) (old new whole : List Entry) → slice_get es i ≡ Some e → b ≡ is e.run.now → new ≡ old ++ (if b then e ∷ [] else [])
    → old ++ filter (λ x. is x.run.now) (drop i es) ≡ whole → new ++ filter (λ x. is x.run.now) (drop (i + 1) es) ≡ whole
chosen_goes is es i e b old new whole there told put so_far =
    let rest = filter (λ (x : Entry). is x.run.now) (drop (i + 1) es) in
    ap (λ (l : List Entry). l ++ rest) put
    ∙ one_more e b old rest
    ∙ ap (λ (k : Bool). old ++ cond k (e ∷ rest) rest) told
    ∙ ap (λ (l : List Entry). old ++ filter (λ x. is x.run.now) l) (sym (dropped es i e there))
    ∙ so_far

pub chosen_ends : (is : Run → Bool) (es : List Entry) (i : ℕ) (list whole : List Entry) → length es ≤ i → list ++ filter (λ x. is x.run.now) (drop i es) ≡ whole → list ≡ whole
chosen_ends is es i list whole past so_far =
    sym (none_after list) ∙ ap (λ (l : List Entry). list ++ filter (λ x. is x.run.now) l) (sym (drop_all i es past)) ∙ so_far
