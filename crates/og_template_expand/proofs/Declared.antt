-- Loops over what is declared.
use Rattle.std.proofs.Common.{◌≡◌, ℕ, ◌+◌, ◌<◌, ℤ, List, ◌∷◌, ◌++◌, Ok, Err, length, map, drop, get_or, refl, sym, ap, ◌∙◌, append_assoc}
use Rattle.og_parse.specs.declared.raw.RawName.{RawName}
use Rattle.og_parse.specs.declared.raw.RawAux.{RawAux}
use Rattle.og_template_expand.specs.Trees as template
use Rattle.og_template_expand.specs.Answer.{Checked, ◌>>=◌}
use Rattle.og_template_expand.specs.Scope.{Bound, Names, Meaning, Value, declared_with}
use Rattle.og_template_expand.specs.Values.{value_of}
use Rattle.og_template_expand.specs.Outline.{top, constant_as, constants_in, given_to, variables_of, variables_in, auxiliary, auxiliaries_in}
use Rattle.og_template_expand.proofs.Lists.{drop_next}

-- what is listed after others
abbrev pub listed_behind : {X : Type 0} → List X → Checked (Names × List X) → Checked (Names × List X)
listed_behind xs answer = answer >>= λ rest. Ok (rest.0, xs ++ rest.1)

regroup : {X : Type 0} (xs ys : List X) (answer : Checked (Names × List X)) → listed_behind xs (answer >>= λ rest. Ok (rest.0, ys ++ rest.1)) ≡ listed_behind (xs ++ ys) answer
regroup xs ys (Ok r) = ap (λ l. Ok (r.0, l)) (sym (append_assoc xs ys r.1))
regroup xs ys (Err f) = refl

-- an auxiliary or a family of them more
one_more : (names next : Names) (out new : List RawAux) (a : template.Auxiliary) (others : List template.Auxiliary) (own : List RawName × Meaning) (value : ℤ) → variables_of names a.name a.family ≡ Ok own → value_of (top names) a.value ≡ Ok value → declared_with a.name.name own.1 names ≡ next → new ≡ out ++ map (auxiliary value) own.0
    → listed_behind out (auxiliaries_in names (a ∷ others)) ≡ listed_behind new (auxiliaries_in next others)
one_more names next out new a others own value is_own is_value is_next made =
    ap (λ (o : Checked (List RawName × Meaning)). listed_behind out (o >>= λ x. value_of (top names) a.value >>= λ v. auxiliaries_in (declared_with a.name.name x.1 names) others >>= λ rest. Ok (rest.0, map (auxiliary v) x.0 ++ rest.1))) is_own
    ∙ ap (λ (o : Checked ℤ). listed_behind out (o >>= λ v. auxiliaries_in (declared_with a.name.name own.1 names) others >>= λ rest. Ok (rest.0, map (auxiliary v) own.0 ++ rest.1))) is_value
    ∙ ap (λ n. listed_behind out (auxiliaries_in n others >>= λ rest. Ok (rest.0, map (auxiliary value) own.0 ++ rest.1))) is_next
    ∙ regroup out (map (auxiliary value) own.0) (auxiliaries_in next others)
    ∙ ap (λ l. listed_behind l (auxiliaries_in next others)) (sym made)

-- a turn of the loop over auxiliaries
pub auxiliaries_turn : {R : Type 0} (tree : R → template.Auxiliary) (names next : Names) (out new : List RawAux) (all : List R) (i : ℕ) (x : R) (own : List RawName × Meaning) (value : ℤ) (total : Checked (Names × List RawAux)) → i < length all → x ≡ get_or all i x
    → variables_of names (tree x).name (tree x).family ≡ Ok own → value_of (top names) (tree x).value ≡ Ok value → declared_with (tree x).name.name own.1 names ≡ next → new ≡ out ++ map (auxiliary value) own.0
    → listed_behind out (auxiliaries_in names (map tree (drop i all))) ≡ total → listed_behind new (auxiliaries_in next (map tree (drop (i + 1) all))) ≡ total
auxiliaries_turn tree names next out new all i x own value total h is is_own is_value is_next made inv =
    sym (one_more names next out new (tree x) (map tree (drop (i + 1) all)) own value is_own is_value is_next made)
    ∙ ap (λ y. listed_behind out (auxiliaries_in names (tree y ∷ map tree (drop (i + 1) all)))) is
    ∙ ap (λ l. listed_behind out (auxiliaries_in names (map tree l))) (sym (drop_next all i x h))
    ∙ inv

-- a variable or a family more
one_variable : (names next : Names) (out new : List RawName) (v : template.Variable) (others : List template.Variable) (own : List RawName × Meaning) → variables_of names v.name v.family ≡ Ok own → declared_with v.name.name own.1 names ≡ next → new ≡ out ++ own.0
    → listed_behind out (variables_in names (v ∷ others)) ≡ listed_behind new (variables_in next others)
one_variable names next out new v others own is_own is_next made =
    ap (λ (o : Checked (List RawName × Meaning)). listed_behind out (o >>= λ x. variables_in (declared_with v.name.name x.1 names) others >>= λ rest. Ok (rest.0, x.0 ++ rest.1))) is_own
    ∙ ap (λ n. listed_behind out (variables_in n others >>= λ rest. Ok (rest.0, own.0 ++ rest.1))) is_next
    ∙ regroup out own.0 (variables_in next others)
    ∙ ap (λ l. listed_behind l (variables_in next others)) (sym made)

-- a turn of the loop over variables
pub variables_turn : {R : Type 0} (tree : R → template.Variable) (names next : Names) (out new : List RawName) (all : List R) (i : ℕ) (x : R) (own : List RawName × Meaning) (total : Checked (Names × List RawName)) → i < length all → x ≡ get_or all i x
    → variables_of names (tree x).name (tree x).family ≡ Ok own → declared_with (tree x).name.name own.1 names ≡ next → new ≡ out ++ own.0
    → listed_behind out (variables_in names (map tree (drop i all))) ≡ total → listed_behind new (variables_in next (map tree (drop (i + 1) all))) ≡ total
variables_turn tree names next out new all i x own total h is is_own is_next made inv =
    sym (one_variable names next out new (tree x) (map tree (drop (i + 1) all)) own is_own is_next made)
    ∙ ap (λ y. listed_behind out (variables_in names (tree y ∷ map tree (drop (i + 1) all)))) is
    ∙ ap (λ l. listed_behind out (variables_in names (map tree l))) (sym (drop_next all i x h))
    ∙ inv

-- a turn of the loop over constants
pub constants_turn : {R : Type 0} (tree : R → template.Constant) (values : List Bound) (names next : Names) (all : List R) (i : ℕ) (x : R) (value : ℤ) (total : Checked Names) → i < length all → x ≡ get_or all i x
    → constant_as (given_to (tree x).name.name values) names (tree x).value ≡ Ok value → declared_with (tree x).name.name (Value value) names ≡ next
    → constants_in values names (map tree (drop i all)) ≡ total → constants_in values next (map tree (drop (i + 1) all)) ≡ total
constants_turn tree values names next all i x value total h is is_value is_next inv =
    sym (ap (λ (o : Checked ℤ). o >>= λ v. constants_in values (declared_with (tree x).name.name (Value v) names) (map tree (drop (i + 1) all))) is_value
    ∙ ap (λ n. constants_in values n (map tree (drop (i + 1) all))) is_next)
    ∙ ap (λ y. constants_in values names (tree y ∷ map tree (drop (i + 1) all))) is
    ∙ ap (λ l. constants_in values names (map tree l)) (sym (drop_next all i x h))
    ∙ inv
