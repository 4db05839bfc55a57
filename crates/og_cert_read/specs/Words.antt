-- How a line is read word by word: the words of the contracts of private functions. That the words read are those that stand there is proved apart.
use Rattle.std.specs.Prelude.{ℕ, zero, suc, ◌+◌, ◌-◌, ◌*◌, ℤ, pos, negsuc, List, [], ◌∷◌, Bool, ◌&&◌, ◌==◌, if◌then◌else◌, nat_le, Option, Some, None, option_map, codes}
use Rattle.std.specs.Ordering.{int_eq}
use Rattle.og_linear.specs.Linear.{Terms, FormValue, form_value}
use Rattle.og_cert_text.specs.Tree.{Ref, Known, Low, High, Combination}
use Rattle.og_cert_text.specs.Lines.{Line, ForCondition, SameLine, SumLine, CutLine, BranchLine, SplitLine, CloseLine}

abbrev pub and_then : {A B : Type 0} → Option A → (A → Option B) → Option B
and_then None f = None
and_then (Some x) f = f x

-- ---- parts of a text

-- the bytes before the first b
abbrev pub before : ℕ → List ℕ → List ℕ
before b [] = []
before b (c ∷ cs) = if c == b then [] else c ∷ before b cs

-- the bytes after the first b
abbrev pub past : ℕ → List ℕ → Option (List ℕ)
past b [] = None
past b (c ∷ cs) = if c == b then Some cs else past b cs

-- what stands after these bytes at the front
abbrev pub after : List ℕ → List ℕ → Option (List ℕ)
after [] text = Some text
after (p ∷ ps) [] = None
after (p ∷ ps) (c ∷ cs) = if c == p then after ps cs else None

abbrev pub on_first : ℕ → List (List ℕ) → List (List ℕ)
on_first c [] = (c ∷ []) ∷ []
on_first c (w ∷ ws) = (c ∷ w) ∷ ws

-- the words, each up to the next space or the end
abbrev pub words_in : List ℕ → List (List ℕ)
words_in [] = [] ∷ []
words_in (c ∷ cs) = if c == 32 then [] ∷ words_in cs else on_first c (words_in cs)

abbrev pub words_of : Option (List ℕ) → List (List ℕ)
words_of None = []
words_of (Some text) = words_in text

-- ---- numbers

abbrev pub is_digit : ℕ → Bool
is_digit b = nat_le 48 b && nat_le b 57

-- v with one digit more, up to a limit
abbrev pub next_of : ℕ → ℕ → ℕ → Option ℕ
next_of most v b = if is_digit b && nat_le (v * 10 + (b - 48)) most then Some (v * 10 + (b - 48)) else None

-- v with these digits more
abbrev pub read_from : ℕ → ℕ → List ℕ → Option ℕ
read_from most v [] = Some v
read_from most v (b ∷ bs) = and_then (next_of most v b) (λ w. read_from most w bs)

-- the number that is the whole word, without leading zeros
abbrev pub number_of : ℕ → List ℕ → Option ℕ
number_of most [] = None
number_of most (b ∷ []) = read_from most 0 (b ∷ [])
number_of most (b ∷ c ∷ bs) = if b == 48 then None else read_from most 0 (b ∷ c ∷ bs)

abbrev pub positive : ℕ → Option ℕ
positive zero = None
positive (suc n) = Some (suc n)

abbrev pub index_of : List ℕ → Option ℕ
index_of word = and_then (number_of 999999999 word) positive

abbrev pub variable_of : List ℕ → Option ℕ
variable_of word = number_of 999999999 word

abbrev pub factor_of : List ℕ → Option ℕ
factor_of word = number_of 9223372036854775807 word

abbrev pub negative : ℕ → Option ℤ
negative n = if n == 0 then None else Some (negsuc (n - 1))

abbrev pub whole_of : List ℕ → Option ℤ
whole_of [] = None
whole_of (b ∷ bs) =
    if b == 45 then and_then (number_of 170141183460469231731687303715884105728 bs) negative
    else option_map pos (number_of 170141183460469231731687303715884105727 (b ∷ bs))

-- ---- combinations

abbrev pub source_of : List ℕ → Option Ref
source_of [] = None
source_of (b ∷ bs) =
    if b == 108 then option_map Low (variable_of bs)
    else (if b == 117 then option_map High (variable_of bs) else option_map Known (index_of (b ∷ bs)))

abbrev pub term_of : List ℕ → Option (ℕ × Ref)
term_of word =
    and_then (factor_of (before 42 word)) (λ m. and_then (past 42 word) (λ rest. option_map (λ r. (m, r)) (source_of rest)))

abbrev pub terms_of : List (List ℕ) → Option Combination
terms_of [] = Some []
terms_of (w ∷ ws) = and_then (term_of w) (λ t. option_map (λ ts. t ∷ ts) (terms_of ws))

-- ---- forms

abbrev pub named_variable : List ℕ → Option ℕ
named_variable [] = None
named_variable (b ∷ bs) = if b == 118 then variable_of bs else None

abbrev pub nonzero : ℕ → ℤ → Option (ℕ × ℤ)
nonzero v a = if int_eq a (pos 0) then None else Some (v, a)

abbrev pub part_of : List ℕ → Option (ℕ × ℤ)
part_of word =
    and_then (whole_of (before 42 word)) (λ a. and_then (and_then (past 42 word) named_variable) (λ v. nonzero v a))

-- the variables rise from low on
abbrev pub parts_of : ℕ → List (List ℕ) → Option Terms
parts_of low [] = Some []
parts_of low (w ∷ ws) =
    and_then (part_of w) (λ t. if nat_le low t.0 then option_map (λ ts. t ∷ ts) (parts_of (t.0 + 1) ws) else None)

abbrev pub form_of : List ℕ → Option FormValue
form_of text =
    and_then (whole_of (before 32 text)) (λ c. option_map (λ ts. form_value ts c) (parts_of 0 (words_of (past 32 text))))

-- ---- lines

-- the number of a fact, and what stands after it and a space
abbrev pub index_and_rest : List ℕ → Option (ℕ × List ℕ)
index_and_rest text = and_then (index_of (before 32 text)) (λ i. and_then (past 32 text) (λ rest. Some (i, rest)))

abbrev pub cut_of : List ℕ → Option Line
cut_of text = and_then (index_and_rest text) (λ p. option_map (λ d. CutLine p.0 d) (factor_of p.1))

abbrev pub split_of : List ℕ → Option Line
split_of text = and_then (index_and_rest text) (λ p. option_map (λ k. SplitLine p.0 k) (number_of 10000 p.1))

-- the line, where it begins so
abbrev pub or_else : Option (List ℕ) → (List ℕ → Option Line) → Option Line → Option Line
or_else None read other = other
or_else (Some rest) read other = read rest

abbrev pub line_of : List ℕ → Option Line
line_of text =
    or_else (after (codes "sum ") text) (λ rest. option_map SumLine (terms_of (words_in rest)))
    (or_else (after (codes "close ") text) (λ rest. option_map CloseLine (terms_of (words_in rest)))
    (or_else (after (codes "cut ") text) cut_of
    (or_else (after (codes "branch ") text) (λ rest. option_map BranchLine (form_of rest))
    (or_else (after (codes "split ") text) split_of
    (or_else (after (codes "cond ") text) (λ rest. option_map ForCondition (index_of rest))
    (or_else (after (codes "same ") text) (λ rest. option_map SameLine (index_of rest)) None))))))
