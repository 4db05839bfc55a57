-- The single checks of a replay, each over the facts held so far: what it gives, or the kind of its fault.
use Rattle.std.specs.Prelude.{ℕ, ◌+◌, pos, negsuc, List, [], ◌∷◌, length, Bool, false, ◌&&◌, if◌then◌else◌, nat_lt, nat_le, Result, Ok, Err, int_lt, ok_or}
use Rattle.std.specs.List.{list_all}
use Rattle.og_linear.specs.Linear.{FormValue, form_value}
use Rattle.og_linear.specs.Bounded.{add_scaled, fits_form, cut}
use Rattle.og_facts.specs.Facts.{Fact, Atom, Split, list_of_parts, plus_one, negated, most_facts}
use Rattle.og_facts.specs.Listed.{numbered}
use Rattle.og_cert_text.specs.Tree.{Ref, Known, Low, High, Combination}
use Rattle.og_cert.specs.declared.fault.FaultKind.{FaultKind}
use Rattle.og_cert.specs.declared.fault.FaultKind.TheVariants as kinds

abbrev pub ok_then : {A B : Type 0} → Result A FaultKind → (A → Result B FaultKind) → Result B FaultKind
ok_then (Ok x) f = f x
ok_then (Err e) f = Err e

-- ---- facts by their numbers

abbrev pub fact_at : List Fact → ℕ → Result Fact FaultKind
fact_at fs i = ok_or (numbered i fs) kinds.NoSuchFact

abbrev pub atom_in : Fact → Result FormValue FaultKind
atom_in (Atom f) = Ok f
atom_in (Split ps) = Err kinds.NotAtom

abbrev pub split_in : Fact → Result (List (List Fact)) FaultKind
split_in (Atom f) = Err kinds.NotSplit
split_in (Split ps) = Ok (list_of_parts ps)

-- the form of a fact that is no split
abbrev pub atom_at : List Fact → ℕ → Result FormValue FaultKind
atom_at fs i = ok_then (fact_at fs i) atom_in

-- the parts of a fact that is a split
abbrev pub parts_at : List Fact → ℕ → Result (List (List Fact)) FaultKind
parts_at fs i = ok_then (fact_at fs i) split_in

-- there is room for m more facts
abbrev pub room : List Fact → ℕ → Result (Unit {0}) FaultKind
room fs m = if nat_le (length fs + m) most_facts then Ok tt else Err kinds.TooManyFacts

-- ---- combinations

-- -v - 2^63 is at most 0
abbrev pub low_form : ℕ → FormValue
low_form v = form_value ((v, negsuc 0) ∷ []) (negsuc 9223372036854775807)

-- v - (2^63 - 1) is at most 0
abbrev pub high_form : ℕ → FormValue
high_form v = form_value ((v, pos 1) ∷ []) (negsuc 9223372036854775806)

-- a fact, or a bound of one of n variables
abbrev pub form_at : ℕ → List Fact → Ref → Result FormValue FaultKind
form_at n fs (Known i) = atom_at fs i
form_at n fs (Low v) = if nat_lt v n then Ok (low_form v) else Err kinds.NoSuchFact
form_at n fs (High v) = if nat_lt v n then Ok (high_form v) else Err kinds.NoSuchFact

-- sum + m * r, where each product and each sum fits
abbrev pub add_term : ℕ → List Fact → FormValue → ℕ × Ref → Result FormValue FaultKind
add_term n fs sum t = ok_then (form_at n fs t.1) (λ f. ok_or (add_scaled sum (pos t.0) f) kinds.TooLarge)

-- the terms are added from left to right
abbrev pub add_terms : ℕ → List Fact → FormValue → Combination → Result FormValue FaultKind
add_terms n fs sum [] = Ok sum
add_terms n fs sum (t ∷ ts) = ok_then (add_term n fs sum t) (λ next. add_terms n fs next ts)

abbrev pub combination : ℕ → List Fact → Combination → Result FormValue FaultKind
combination n fs ts = add_terms n fs (form_value [] (pos 0)) ts

-- a constant above 0
abbrev pub is_positive : FormValue → Bool
is_positive f = list_all (λ t. false) f.terms && int_lt (pos 0) f.constant

-- the combination is a constant above 0
abbrev pub closing : ℕ → List Fact → Combination → Result (Unit {0}) FaultKind
closing n fs ts = ok_then (combination n fs ts) (λ f. if is_positive f then Ok tt else Err kinds.NotClosed)

-- ---- cuts, branches and splits

abbrev pub cut_at : List Fact → ℕ → ℕ → Result FormValue FaultKind
cut_at fs i d = ok_then (atom_at fs i) (λ f. ok_or (cut f (pos d)) kinds.NotDivisible)

-- where f is not at most 0, -f + 1 is
abbrev pub otherwise : ℕ → FormValue → Result FormValue FaultKind
otherwise n f =
    if list_all (λ t. nat_lt t.0 n) f.terms
    then (if fits_form (negated f) && fits_form (plus_one (negated f)) then Ok (plus_one (negated f)) else Err kinds.TooLarge)
    else Err kinds.NoSuchFact

-- a certificate for each part
abbrev pub one_each : ℕ → ℕ → Result (Unit {0}) FaultKind
one_each parts certs =
    if nat_lt parts certs then Err kinds.LeftOver else (if nat_lt certs parts then Err kinds.NotClosed else Ok tt)
