-- The text of lines.
use Rattle.std.proofs.Common.{◌≡◌, ℕ, zero, suc, ◌+◌, ℤ, List, [], ◌∷◌, ◌++◌, map, length, drop, get_or, Vec, Global, Some, None, Result, Ok, Err, ◌<◌, arith, refl, ap, sym, ◌∙◌, append_assoc, add-one, drop-cons}
use Rattle.std.specs.Prelude.{slice_get}
use Rattle.std.proofs.lemmas.Option.{get_or_from_slice_get, slice_get_within}
use Rattle.og_linear.specs.Linear.{Terms}
use Rattle.std.proofs.lemmas.List.{length-map, map-append}
use Rattle.og_cert_text.specs.declared.cert.Cert.{Cert}
use Rattle.og_cert_text.specs.declared.cert.Finish.{Finish}
use Rattle.og_cert_text.specs.declared.cert.Finish.TheViews as its
use Rattle.og_cert_text.specs.Tree as tree
use Rattle.og_cert_text.specs.Plain.{plain_cert, plain_finish, step_line}
use Rattle.og_cert_text.specs.Lines.{Line, ForCondition, SplitLine, line_text, part_text, parts_text}
use Rattle.og_cert_text.specs.Shallow.{cert_lines, certs_lines}
use Rattle.std.specs.Result.{OnOk}
use Rattle.og_cert_text.specs.Files.{Entries}
use Rattle.og_cert_text.specs.Rising.{above}
use Rattle.og_cert_text.specs.Stored.{placed}
use Rattle.og_cert_text.specs.Listing.{Whole, listing_lines, lines_text}
use Rattle.og_cert_text.proofs.Plains.{steps_lines, plain_split, count_list}

pub lines_both : (ls ms : List Line) → lines_text (ls ++ ms) ≡ lines_text ls ++ lines_text ms
lines_both [] ms = refl
lines_both (l ∷ ls) ms = ap (λ t. (line_text l ++ 10 ∷ []) ++ t) (lines_both ls ms) ∙ sym (append_assoc (line_text l ++ 10 ∷ []) (lines_text ls) (lines_text ms))

pub steps_text : (c : Cert) → lines_text (cert_lines (plain_cert c)) ≡ lines_text (map step_line c.steps.items) ++ lines_text (cert_lines (plain_finish c.finish))
steps_text c = ap lines_text (steps_lines c.steps.items (plain_finish c.finish)) ∙ lines_both (map step_line c.steps.items) (cert_lines (plain_finish c.finish))

pub split_text : (f : Finish) (i : ℕ) (v : Vec Cert Global) → f ≡ its.Split i v → lines_text (cert_lines (plain_finish f)) ≡ (line_text (SplitLine i (length v.items)) ++ 10 ∷ []) ++ lines_text (certs_lines (tree.cert_list (map plain_cert v.items)))
split_text f i v e =
    ap (λ g. lines_text (cert_lines (plain_finish g))) e
    ∙ ap (λ c. lines_text (cert_lines c)) (plain_split i v)
    ∙ ap (λ n. (line_text (SplitLine i n) ++ 10 ∷ []) ++ lines_text (certs_lines (tree.cert_list (map plain_cert v.items)))) (count_list (map plain_cert v.items) ∙ same)
  where
    same : length (map plain_cert v.items) ≡ length v.items
    same = simp length-map

-- ---- the parts of a form

pub parts_next : (ts : Terms) (i v : ℕ) (a : ℤ) → slice_get ts i ≡ Some (v, a) → parts_text (drop i ts) ≡ (32 ∷ part_text (v, a)) ++ parts_text (drop (i + 1) ts)
parts_next ts i v a found =
    let lt = slice_get_within ts i (v, a) found in
    let here = get_or_from_slice_get ts i (v, a) (v, a) found in
    let whole : drop i ts ≡ (v, a) ∷ drop (i + 1) ts = rw add-one (drop-cons ts i (v, a) lt ∙ ap (λ (t : ℕ × ℤ). t ∷ drop (suc i) ts) here) in
    ap parts_text whole

pub parts_end : (ts : Terms) (i : ℕ) → slice_get ts i ≡ None → parts_text (drop i ts) ≡ []
parts_end [] zero h = refl
parts_end [] (suc i) h = refl
parts_end (t ∷ ts) zero h = cc
parts_end (t ∷ ts) (suc i) h = parts_end ts i h

pub one_more : (t0 t1 x rest rest' whole : List ℕ) → t1 ≡ t0 ++ x → rest ≡ x ++ rest' → t0 ++ rest ≡ whole → t1 ++ rest' ≡ whole
one_more t0 t1 x rest rest' whole e r h = ap (λ t. t ++ rest') e ∙ append_assoc t0 x rest' ∙ ap (λ t. t0 ++ t) (sym r) ∙ h

-- ---- certificates

pub both_put : {E : Type 0} (r : Result (Unit {0}) E) (t0 t1 t2 a b w : List ℕ) → OnOk r (t2 ≡ t1 ++ b) → t1 ≡ t0 ++ a → w ≡ a ++ b → OnOk r (t2 ≡ t0 ++ w)
both_put (Ok x) t0 t1 t2 a b w e d s = e ∙ ap (λ t. t ++ b) d ∙ append_assoc t0 a b ∙ ap (λ t. t0 ++ t) (sym s)
both_put (Err x) t0 t1 t2 a b w e d s = tt

pub finish_put : (f : Finish) (i n : ℕ) (v : Vec Cert Global) (ps : List Cert) (t0 t1 t2 : List ℕ) → ps ≡ v.items → f ≡ its.Split i v → n ≡ length v.items
    → t1 ≡ t0 ++ (line_text (SplitLine i n) ++ 10 ∷ []) → t2 ≡ t1 ++ lines_text (certs_lines (tree.cert_list (map plain_cert ps))) → t2 ≡ t0 ++ lines_text (cert_lines (plain_finish f))
finish_put f i n v ps t0 t1 t2 same is count first all =
    all
    ∙ ap (λ t. t ++ lines_text (certs_lines (tree.cert_list (map plain_cert ps)))) first
    ∙ append_assoc t0 (line_text (SplitLine i n) ++ 10 ∷ []) (lines_text (certs_lines (tree.cert_list (map plain_cert ps))))
    ∙ ap (λ k. t0 ++ ((line_text (SplitLine i k) ++ 10 ∷ []) ++ lines_text (certs_lines (tree.cert_list (map plain_cert ps))))) count
    ∙ ap (λ l. t0 ++ ((line_text (SplitLine i (length v.items)) ++ 10 ∷ []) ++ lines_text (certs_lines (tree.cert_list (map plain_cert l))))) same
    ∙ ap (λ t. t0 ++ t) (sym (split_text f i v is))

-- ---- entries

abbrev pub entries_text : Entries → List ℕ
entries_text es = lines_text (listing_lines (map (λ e. (e.0, Whole e.1)) es))

pub entry_text : (n : ℕ) (c : tree.Cert) (es : Entries) → entries_text ((n, c) ∷ es) ≡ lines_text (ForCondition n ∷ cert_lines c) ++ entries_text es
entry_text n c es = lines_both (ForCondition n ∷ cert_lines c) (listing_lines (map (λ e. (e.0, Whole e.1)) es))

pub put_next : (es : Entries) (last n : ℕ) (c : tree.Cert) (t0 t1 whole : List ℕ) → above last es ≡ (n, c) ∷ above n es → t1 ≡ t0 ++ lines_text (ForCondition n ∷ cert_lines c)
    → t0 ++ entries_text (above last es) ≡ whole → t1 ++ entries_text (above n es) ≡ whole
put_next es last n c t0 t1 whole next e h =
    one_more t0 t1 (lines_text (ForCondition n ∷ cert_lines c)) (entries_text (above last es)) (entries_text (above n es)) whole e (ap entries_text next ∙ entry_text n c (above n es)) h

pub above_less : (es : Entries) (last n : ℕ) (c : tree.Cert) → above last es ≡ (n, c) ∷ above n es → length (above n es) < length (above last es)
above_less es last n c next = let e = ap length next in omega (arith, e)

-- ---- the lines of certificates, each made once

abbrev pub text_of : Cert → List ℕ
text_of c = lines_text (cert_lines (plain_cert c))

abbrev items_of : Vec ℕ Global → List ℕ
items_of v = v.items

-- those of one more
pub one_made : (cs : List Cert) (all new : List (Vec ℕ Global)) (lines : Vec ℕ Global) (i : ℕ) (c : Cert) → i < length cs → c ≡ get_or cs i c → lines.items ≡ text_of c → new ≡ all ++ lines ∷ []
    → map (λ v. v.items) all ++ map text_of (drop i cs) ≡ map text_of cs → map (λ v. v.items) new ++ map text_of (drop (i + 1) cs) ≡ map text_of cs
one_made cs all new lines i c h is made e inv =
    let at : drop i cs ≡ c ∷ drop (i + 1) cs = drop-cons cs i c h ∙ ap (λ k. get_or cs i c ∷ drop k cs) (sym (add-one i)) ∙ ap (λ x. x ∷ drop (i + 1) cs) (sym is) in
    ap (λ vs. map items_of vs ++ map text_of (drop (i + 1) cs)) e
    ∙ ap (λ ts. ts ++ map text_of (drop (i + 1) cs)) (map-append items_of all (lines ∷ []))
    ∙ append_assoc (map items_of all) (lines.items ∷ []) (map text_of (drop (i + 1) cs))
    ∙ ap (λ t. map items_of all ++ t ∷ map text_of (drop (i + 1) cs)) made
    ∙ sym (ap (λ ds. map items_of all ++ map text_of ds) at)
    ∙ inv

-- those at a place
pub lines_at : (cs : List Cert) (all : List (Vec ℕ Global)) (i : ℕ) (d : Vec ℕ Global) → map (λ v. v.items) all ≡ map text_of cs → i < length cs → (get_or all i d).items ≡ lines_text (cert_lines (placed cs i))
lines_at [] all i d h lt = absurd (omega (arith, lt))
lines_at (c ∷ cs) [] i d h lt = absurd (cc)
lines_at (c ∷ cs) (v ∷ vs) zero d h lt = cc
lines_at (c ∷ cs) (v ∷ vs) (suc i) d h lt = lines_at cs vs i d (cc) (omega (arith, lt))

pub entry_lines : (n : ℕ) (ls : List Line) → lines_text (ForCondition n ∷ ls) ≡ line_text (ForCondition n) ++ 10 ∷ lines_text ls
entry_lines n ls = append_assoc (line_text (ForCondition n)) (10 ∷ []) (lines_text ls)
