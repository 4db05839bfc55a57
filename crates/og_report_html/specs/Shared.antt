-- The conjuncts with which all assertions of a text begin.
use Rattle.std.specs.Prelude.{ℕ, suc, ◌-◌, nat_lt, List, [], ◌∷◌, drop, take, length, if◌then◌else◌}
use Rattle.std.specs.Str.{bytes_eq}
use Rattle.og_text.specs.declared.place.Span.{Span}
use Rattle.og_report_html.specs.Conjuncts.{Claim}

abbrev pub text_in : List ℕ → Span → List ℕ
text_in source s = take (s.end - s.start) (drop s.start source)

-- with how many of the same two lists begin
abbrev pub common : List ℕ → List Span → List Span → ℕ
common source [] ys = 0
common source (x ∷ xs) [] = 0
common source (x ∷ xs) (y ∷ ys) = if bytes_eq (text_in source x) (text_in source y) then suc (common source xs ys) else 0

-- and at most n
abbrev pub common_up_to : ℕ → List ℕ → List Span → List Span → ℕ
common_up_to n source xs ys = if nat_lt (common source xs ys) n then common source xs ys else n

abbrev pub common_to_all : List ℕ → ℕ → List Span → List Claim → ℕ
common_to_all source n xs [] = n
common_to_all source n xs (c ∷ cs) = common_to_all source (common_up_to n source xs c.conjuncts) xs cs

-- the conjuncts of the first of two assertions or more with which all of these begin
abbrev pub shared_by : List ℕ → List Claim → List Span
shared_by source [] = []
shared_by source (c ∷ []) = []
shared_by source (c ∷ d ∷ cs) = take (common_to_all source (length c.conjuncts) c.conjuncts (d ∷ cs)) c.conjuncts

-- all but the first one and the last one: those of the processes
abbrev pub inner : List Claim → List Claim
inner [] = []
inner (c ∷ cs) = take (length cs - 1) cs

-- with which all assertions but the first and the last one begin
abbrev pub shared_in : List ℕ → List Claim → List Span
shared_in source cs = shared_by source (inner cs)
