-- Texts as lines.
use Rattle.std.proofs.Common.{◌≡◌, ℕ, ◌+◌, ◌≤◌, List, [], ◌∷◌, ◌++◌, map, length, get_or, refl, ap, ap₂, sym, ◌∙◌, arith, ◌&&◌, true, cond, Option, Some, None, Result, Ok, append_assoc, subst}
use Rattle.std.specs.Prelude.{nat_le}
use Rattle.std.specs.Fmt.{decimal, signed_decimal}
use Rattle.std.specs.List.{list_all}
use Rattle.std.proofs.lemmas.List.Folds.{list_all-append}
use Rattle.og_linear.specs.Linear.{Terms}
use Rattle.og_cert_text.specs.Tree.{Ref, Known, Low, High, Combination}
use Rattle.og_cert_text.specs.Lines.{Line, ForCondition, SameLine, SumLine, CutLine, BranchLine, SplitLine, CloseLine, ref_text, term_text, part_text, combination_text, parts_text, line_text, is_number, is_factor, is_ref, is_some_terms, is_line}
use Rattle.og_cert_text.specs.Shallow.{is_well_formed, is_shallow, cert_lines}
use Rattle.og_cert_text.specs.Files.{Entries}
use Rattle.og_cert_text.specs.Rising.{is_file, rise_from}
use Rattle.og_cert_text.specs.Text.{Version, One, Two, version_text}
use Rattle.og_cert_text.specs.Listing.{lines_text, file_text}
use Rattle.og_cert_text.proofs.Forms.{and_parts, le_from, both_true}
use Rattle.og_cert_read.specs.Text.{most_text, pieces, with_byte, Says, EachSays}
use Rattle.og_cert_read.specs.Words.{line_of}
use Rattle.og_cert_read.specs.Reading.{LineFault, read_lines, nothing_read}
use Rattle.og_cert_read.specs.Read.{Gives}
use Rattle.og_cert_read.specs.Reader.{read_piece}
use Rattle.og_cert_read.proofs.Numbers.{Lacks, lacks_both, lacks_decimal, number_parts}
use Rattle.og_cert_read.proofs.Says.{GoodTerm, factor_small, variable_small}
use Rattle.og_cert_read.proofs.LineSays.{GoodParts, part_good, form_good, lacks_whole, line_sound, line_complete}
use Rattle.og_cert_read.proofs.Again.{whole_lines, printed_is_read}

-- ---- a line has no LF

lacks_index : (n : ℕ) → is_number n ≡ true → Lacks 10 (decimal n)
lacks_index n h = let le = (number_parts n h).1 in lacks_decimal 10 n (omega arith) (omega (arith, le))

lacks_ref : (r : Ref) → is_ref r ≡ true → Lacks 10 (ref_text r)
lacks_ref (Known i) h = lacks_index i h
lacks_ref (Low v) h = (refl, lacks_decimal 10 v (omega arith) (variable_small v h))
lacks_ref (High v) h = (refl, lacks_decimal 10 v (omega arith) (variable_small v h))

lacks_terms : (ts : Combination) → list_all GoodTerm ts ≡ true → Lacks 10 (combination_text ts)
lacks_terms [] h = tt
lacks_terms (t ∷ ts) h =
    let p = and_parts (GoodTerm t) (list_all GoodTerm ts) h in
    let q = and_parts (is_factor t.0) (is_ref t.1) p.0 in
    lacks_both 10 (32 ∷ term_text t) (combination_text ts)
    (refl, lacks_both 10 (decimal t.0) (42 ∷ ref_text t.1) (lacks_decimal 10 t.0 (omega arith) (factor_small t.0 q.0)) (refl, lacks_ref t.1 q.1))
    (lacks_terms ts p.1)

lacks_parts : (low : ℕ) (ts : Terms) → GoodParts low ts → Lacks 10 (parts_text ts)
lacks_parts low [] h = tt
lacks_parts low (t ∷ ts) h =
    let p = part_good low t ts h in
    lacks_both 10 (32 ∷ part_text t) (parts_text ts)
    (refl, lacks_both 10 (signed_decimal t.1) (42 ∷ 118 ∷ decimal t.0) (lacks_whole 10 t.1 (omega arith) p.0.fits) (refl, (refl, lacks_decimal 10 t.0 (omega arith) (variable_small t.0 p.0.small))))
    (lacks_parts (t.0 + 1) ts p.2)

lacks_word : (w rest : List ℕ) → Lacks 10 w → Lacks 10 rest → Lacks 10 (w ++ rest)
lacks_word w rest a b = lacks_both 10 w rest a b

lacks_line : (line : Line) → is_line line ≡ true → Lacks 10 (line_text line)
lacks_line (ForCondition n) h = (refl, (refl, (refl, (refl, (refl, lacks_index n h)))))
lacks_line (SameLine n) h = (refl, (refl, (refl, (refl, (refl, lacks_index n h)))))
lacks_line (SumLine ts) h = (refl, (refl, (refl, lacks_terms ts (and_parts (is_some_terms ts) (list_all GoodTerm ts) h).1)))
lacks_line (CloseLine ts) h = (refl, (refl, (refl, (refl, (refl, lacks_terms ts (and_parts (is_some_terms ts) (list_all GoodTerm ts) h).1)))))
lacks_line (CutLine i d) h =
    let p = and_parts (is_number i) (is_factor d) h in
    (refl, (refl, (refl, (refl, lacks_both 10 (decimal i) (32 ∷ decimal d) (lacks_index i p.0) (refl, lacks_decimal 10 d (omega arith) (factor_small d p.1))))))
lacks_line (SplitLine i k) h =
    let p = and_parts (is_number i) (nat_le k 10000) h in
    let le = le_from k 10000 p.1 in
    (refl, (refl, (refl, (refl, (refl, (refl, lacks_both 10 (decimal i) (32 ∷ decimal k) (lacks_index i p.0) (refl, lacks_decimal 10 k (omega arith) (omega (arith, le)))))))))
lacks_line (BranchLine f) h =
    let g = form_good f h in
    (refl, (refl, (refl, (refl, (refl, (refl, (refl, lacks_both 10 (signed_decimal f.constant) (parts_text f.terms) (lacks_whole 10 f.constant (omega arith) g.0) (lacks_parts 0 f.terms g.1))))))))

-- ---- lines that are written are the pieces

piece : (w rest : List ℕ) → Lacks 10 w → pieces (w ++ 10 ∷ rest) ≡ Some w ∷ pieces rest
piece [] rest l = refl
piece (c ∷ cs) rest l = ap (λ t. cond t (Some [] ∷ pieces (cs ++ 10 ∷ rest)) (with_byte c (pieces (cs ++ 10 ∷ rest)))) l.0 ∙ ap (with_byte c) (piece cs rest l.1)

pub lines_say : (lines : List Line) → list_all is_line lines ≡ true → EachSays (pieces (lines_text lines)) (map Some lines)
lines_say [] h = tt
lines_say (line ∷ lines) h =
    let p = and_parts (is_line line) (list_all is_line lines) h in
    let e = ap pieces (append_assoc (line_text line) (10 ∷ []) (lines_text lines)) ∙ piece (line_text line) (lines_text lines) (lacks_line line p.0) in
    subst (λ ps. EachSays ps (map Some (line ∷ lines))) (sym e) ((refl, p.0), lines_say lines p.1)

entries_good : (es : Entries) → list_all (λ e. is_number e.0 && is_well_formed e.1) es ≡ true → list_all is_line (whole_lines es) ≡ true
entries_good [] h = refl
entries_good (e ∷ es) h =
    let g = and_parts (is_number e.0 && is_well_formed e.1) (list_all (λ x. is_number x.0 && is_well_formed x.1) es) h in
    let w = and_parts (is_number e.0) (is_well_formed e.1) g.0 in
    let s = and_parts (is_shallow 0 e.1) (list_all is_line (cert_lines e.1)) w.1 in
    list_all-append is_line (ForCondition e.0 ∷ cert_lines e.1) (whole_lines es) ∙ both_true _ _ (both_true _ _ w.0 s.1) (entries_good es g.1)

pub written_is_read : (es : Entries) → is_file es ≡ true → length (file_text es) ≤ most_text → Gives (file_text es) (Ok es)
written_is_read es h small =
    let p = and_parts (rise_from 0 es) (list_all (λ e. is_number e.0 && is_well_formed e.1) es) h in
    (small, One, lines_text (whole_lines es), refl, map Some (whole_lines es), lines_say (whole_lines es) (entries_good es p.1), printed_is_read One es h)

-- ---- one answer

some_not_none : (o : Option Line) (line : Line) → o ≡ Some line → o ≡ None → ⊥
some_not_none o line p q = cc

said_once : (p : Option (List ℕ)) (l : Option Line) → Says p l → l ≡ read_piece p
said_once None None h = refl
said_once None (Some line) h = absurd h
said_once (Some bytes) (Some line) h = sym (ap line_of h.0 ∙ line_complete line h.1)
said_once (Some bytes) None h = from (line_of bytes) refl
  where
    from : (o : Option Line) → line_of bytes ≡ o → None ≡ o
    from None e = refl
    from (Some line) e = let s = line_sound bytes line e in absurd (h line s.0 s.1)

pub each_once : (ps : List (Option (List ℕ))) (ls : List (Option Line)) → EachSays ps ls → ls ≡ map read_piece ps
each_once [] [] h = refl
each_once [] (l ∷ ls) h = absurd h
each_once (p ∷ ps) [] h = absurd h
each_once (p ∷ ps) (l ∷ ls) h = ap₂ (λ x xs. x ∷ xs) (said_once p l h.0) (each_once ps ls h.1)

one_version : (v w : Version) (a b : List ℕ) → version_text v ++ a ≡ version_text w ++ b → (v ≡ w) × (a ≡ b)
one_version One One a b e = (refl, cc)
one_version Two Two a b e = (refl, cc)
one_version One Two a b e = let k : 49 ≡ 50 = ap (λ t. get_or t 8 0) e in absurd (omega (arith, k))
one_version Two One a b e = let k : 50 ≡ 49 = ap (λ t. get_or t 8 0) e in absurd (omega (arith, k))

pub one_answer : (text : List ℕ) (a b : Result Entries (LineFault × ℕ)) → Gives text a → Gives text b → a ≡ b
one_answer text a b g h =
    let s = one_version g.1 h.1 g.2 h.2 (sym g.3 ∙ h.3) in
    let ls : g.4 ≡ h.4 = each_once (pieces g.2) g.4 g.5 ∙ ap (λ r. map read_piece (pieces r)) s.1 ∙ sym (each_once (pieces h.2) h.4 h.5) in
    sym g.6 ∙ ap₂ (λ v l. read_lines v 2 nothing_read l) s.0 ls ∙ h.6
