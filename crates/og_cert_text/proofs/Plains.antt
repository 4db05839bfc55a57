-- Certificates of the program's types as plain trees.
use Rattle.og_cert_text.proofs.Forms.{lt_true, le_true, le_false, both_true, and_false_left, and_false_right}
use Rattle.std.proofs.Common.{◌≡◌, ℕ, suc, ◌+◌, ◌<◌, ◌≤◌, ◌⊎◌, inl, inr, List, [], ◌∷◌, ◌++◌, map, length, Vec, Global, refl, ap, sym, ◌∙◌, ◌&&◌, true, false}
use Rattle.std.specs.Prelude.{nat_le}
use Rattle.std.specs.List.{list_all}
use Rattle.std.proofs.lemmas.List.{length-map}
use Rattle.std.proofs.lemmas.List.Folds.{list_all-append}
use Rattle.og_cert_text.specs.declared.cert.CertStep.{CertStep}
use Rattle.og_cert_text.specs.declared.cert.CertStep.TheVariants as step_type
use Rattle.og_cert_text.specs.declared.cert.Cert.{Cert}
use Rattle.og_cert_text.specs.declared.cert.Finish.{Finish, Row_of-Cert, end_of-Cert, more_of-Cert, items-the_row-Cert, items_hidden-the_row-Cert-0}
use Rattle.og_cert_text.specs.declared.cert.Finish.TheViews as its
use Rattle.og_cert_text.specs.declared.cert.Finish.TheBlock.{hidden-the_row-Cert-0}
use Rattle.og_cert_text.specs.Tree as tree
use Rattle.og_cert_text.specs.Plain.{with_steps, plain_cert, plain_certs, plain_finish, step_line, combination_of}
use Rattle.og_cert_text.specs.Lines.{Line, SumLine, CutLine, is_line, is_number, cert_count}
use Rattle.og_cert_text.specs.Shallow.{cert_lines, certs_lines, is_shallow, are_shallow}

certs_items : (n : _) (row : Row_of-Cert n) → plain_certs row ≡ tree.cert_list (map plain_cert (items-the_row-Cert n row))
certs_items _ end_of-Cert = refl
certs_items _ (more_of-Cert steps finish rest) = ap (λ cs. tree.cert (with_steps steps.items (plain_finish finish)) cs) (certs_items _ rest)

-- a split as the program has it
pub plain_split : (i : ℕ) (v : Vec Cert Global) → plain_finish (its.Split i v) ≡ tree.SplitOn i (tree.cert_list (map plain_cert v.items))
plain_split i v =
    ap (tree.SplitOn i) (certs_items _ (hidden-the_row-Cert-0 v) ∙ ap (λ l. tree.cert_list (map plain_cert l)) (items_hidden-the_row-Cert-0 v))

pub steps_lines : (steps : List CertStep) (c : tree.Cert) → cert_lines (with_steps steps c) ≡ map step_line steps ++ cert_lines c
steps_lines [] c = refl
steps_lines (step_type.Sum ts ∷ steps) c = ap (λ ls. SumLine (combination_of ts.items) ∷ ls) (steps_lines steps c)
steps_lines (step_type.Cut i d ∷ steps) c = ap (λ ls. CutLine i d ∷ ls) (steps_lines steps c)

pub steps_shallow : (d : ℕ) (steps : List CertStep) (c : tree.Cert) → is_shallow d (with_steps steps c) ≡ is_shallow d c
steps_shallow d [] c = refl
steps_shallow d (step_type.Sum ts ∷ steps) c = steps_shallow d steps c
steps_shallow d (step_type.Cut i k ∷ steps) c = steps_shallow d steps c

pub steps_good : (steps : List CertStep) (c : tree.Cert) → list_all is_line (cert_lines (with_steps steps c)) ≡ (list_all is_line (map step_line steps) && list_all is_line (cert_lines c))
steps_good steps c = ap (list_all is_line) (steps_lines steps c) ∙ list_all-append is_line (map step_line steps) (cert_lines c)

pub count_list : (cs : List tree.Cert) → cert_count (tree.cert_list cs) ≡ length cs
count_list [] = refl
count_list (c ∷ cs) = ap suc (count_list cs)

pub lines_append : (ls ms : List Line) → list_all is_line (ls ++ ms) ≡ (list_all is_line ls && list_all is_line ms)
lines_append ls ms = list_all-append is_line ls ms

pub split_shallow : (d : ℕ) (c : Cert) (i : ℕ) (v : Vec Cert Global) (ps : List Cert) → ps ≡ v.items → c.finish ≡ its.Split i v → d < 200 → is_shallow d (plain_cert c) ≡ are_shallow (d + 1) (tree.cert_list (map plain_cert ps))
split_shallow d c i v ps p e lt =
    steps_shallow d c.steps.items (plain_finish c.finish)
    ∙ ap (λ f. is_shallow d (plain_finish f)) e
    ∙ ap (is_shallow d) (plain_split i v)
    ∙ ap (λ b. b && are_shallow (d + 1) (tree.cert_list (map plain_cert v.items))) (lt_true d 200 lt)
    ∙ ap (λ l. are_shallow (d + 1) (tree.cert_list (map plain_cert l))) (sym p)

split_lines : (f : Finish) (i : ℕ) (v : Vec Cert Global) → f ≡ its.Split i v → list_all is_line (cert_lines (plain_finish f)) ≡ (is_number i && nat_le (length v.items) 10000 && list_all is_line (certs_lines (tree.cert_list (map plain_cert v.items))))
split_lines f i v e =
    ap (λ g. list_all is_line (cert_lines (plain_finish g))) e
    ∙ ap (λ c. list_all is_line (cert_lines c)) (plain_split i v)
    ∙ ap (λ n. is_number i && nat_le n 10000 && list_all is_line (certs_lines (tree.cert_list (map plain_cert v.items)))) (count_list (map plain_cert v.items) ∙ same)
  where
    same : length (map plain_cert v.items) ≡ length v.items
    same = simp length-map

pub split_good : (f : Finish) (i : ℕ) (v : Vec Cert Global) (ps : List Cert) → ps ≡ v.items → f ≡ its.Split i v → is_number i ≡ true → length v.items ≤ 10000
    → list_all is_line (cert_lines (plain_finish f)) ≡ list_all is_line (certs_lines (tree.cert_list (map plain_cert ps)))
split_good f i v ps p e good few =
    split_lines f i v e
    ∙ ap (λ b. b && list_all is_line (certs_lines (tree.cert_list (map plain_cert v.items)))) (both_true _ _ good (le_true (length v.items) 10000 few))
    ∙ ap (λ l. list_all is_line (certs_lines (tree.cert_list (map plain_cert l)))) (sym p)

pub split_bad : (f : Finish) (i : ℕ) (v : Vec Cert Global) → f ≡ its.Split i v → (is_number i ≡ false) ⊎ (10000 < length v.items) → list_all is_line (cert_lines (plain_finish f)) ≡ false
split_bad f i v e bad = split_lines f i v e ∙ and_false_left _ _ (off bad)
  where
    off : (is_number i ≡ false) ⊎ (10000 < length v.items) → (is_number i && nat_le (length v.items) 10000) ≡ false
    off (inl h) = and_false_left _ _ h
    off (inr h) = and_false_right _ _ (le_false (length v.items) 10000 h)
