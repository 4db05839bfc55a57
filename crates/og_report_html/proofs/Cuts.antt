-- The conjuncts of an assertion, one byte after another, and those that all share.
use Rattle.std.proofs.Common.{◌≡◌, ◌<◌, ◌≤◌, ℕ, suc, ◌+◌, ◌-◌, ◌==◌, List, [], ◌∷◌, ◌++◌, length, drop, take, map, Bool, true, false, not, ◌&&◌, ◌||◌, refl, ap, sym, ◌∙◌, append_assoc, arith, subst}
use Rattle.std.specs.Prelude.{if◌then◌else◌}
use Rattle.std.proofs.lemmas.List.{drop_all, length-drop, length-map, take-map, take_all}
use Rattle.og_text.specs.declared.place.Span.{Span}
use Rattle.og_report_html.specs.Conjuncts.{byte_at, is_or, is_arrow, is_blank, is_between, depth_after, next_cut, ended, conjuncts_from, claim_of}
use Rattle.og_report_html.specs.Shared.{common, inner}
use Rattle.og_report_html.specs.declared.conjuncts.Claim.{Claim as Given}
use Rattle.og_report_html.specs.declared.cut.Cut.{Cut}

-- ---- one byte more

pub conjuncts_go : (source : List ℕ) (cut new : Cut) (at end : ℕ) (l0 l1 whole : List Span) → at < end → new ≡ next_cut source cut at → l1 ≡ l0 ++ ended source cut at
    → l0 ++ conjuncts_from source cut at (end - at) ≡ whole
    → l1 ++ conjuncts_from source new (at + 1) (end - (at + 1)) ≡ whole
conjuncts_go source cut new at end l0 l1 whole within is put so_far =
    let left : end - at ≡ suc (end - (at + 1)) = omega (arith, within) in
    let rest = conjuncts_from source (next_cut source cut at) (at + 1) (end - (at + 1)) in
    ap (λ (c : Cut). l1 ++ conjuncts_from source c (at + 1) (end - (at + 1))) is
    ∙ ap (λ (l : List Span). l ++ rest) put
    ∙ append_assoc l0 (ended source cut at) rest
    ∙ ap (λ (k : ℕ). l0 ++ conjuncts_from source cut at k) (sym left)
    ∙ so_far

deeper : (opens closes begins : Bool) (d : ℕ) → (if opens then d + 1 else (if closes then d - 1 else (if begins then d + 1 else d))) ≤ d + 1
deeper true closes begins d = omega arith
deeper false true begins d = omega arith
deeper false false true d = omega arith
deeper false false false d = omega arith

either : (b : Bool) (x y : Cut) (n : ℕ) → x.depth ≤ n → y.depth ≤ n → (if b then x else y).depth ≤ n
either true x y n h k = h
either false x y n h k = k

pub depth_grows : (source : List ℕ) (cut new : Cut) (at : ℕ) → new ≡ next_cut source cut at → cut.depth ≤ at → new.depth ≤ at + 1
depth_grows source cut new at is shallow =
    let same : cut.depth ≤ at + 1 = omega (arith, shallow) in
    let none : 0 ≤ at + 1 = omega arith in
    let more = deeper (byte_at source at == 40) (byte_at source at == 41) (cut.depth == 0 && (is_or source at || is_arrow source at)) cut.depth in
    let solid : depth_after source cut.depth at ≤ at + 1 = omega (arith, more, shallow) in
    subst (λ (c : Cut). c.depth ≤ at + 1) (sym is) (either cut.comment _ _ (at + 1) same
    (either (byte_at source at == 35) _ _ (at + 1) same
    (either (is_between source cut at) _ _ (at + 1) none
    (either (not (cut.left == 0)) _ _ (at + 1) same
    (either (is_blank (byte_at source at)) _ _ (at + 1) same solid)))))

-- ---- what is shared

nothing_common : (source : List ℕ) (xs : List Span) → common source xs [] ≡ 0
nothing_common source [] = refl
nothing_common source (x ∷ xs) = refl

pub common_past : (source : List ℕ) (xs ys : List Span) (k whole : ℕ) → length ys ≤ k → k + common source (drop k xs) (drop k ys) ≡ whole → k ≡ whole
common_past source xs ys k whole past so_far =
    let none = ap (λ (l : List Span). common source (drop k xs) l) (drop_all k ys past) ∙ nothing_common source (drop k xs) in
    omega (arith, none, so_far)

pub inner_is : (claims rest : List Given) (k : ℕ) → 1 ≤ length claims → rest ≡ drop 1 claims → k ≡ length rest - 1 → map claim_of (take k rest) ≡ inner (map claim_of claims)
inner_is [] rest k some same count = absurd (omega (arith, some))
inner_is (c ∷ cs) rest k some same count =
    ap (λ (l : List Given). map claim_of (take k l)) same
    ∙ ap (λ (n : ℕ). map claim_of (take n cs)) (count ∙ ap (λ (l : List Given). length l - 1) same ∙ ap (λ (n : ℕ). n - 1) (sym (length-map cs claim_of)))
    ∙ sym (take-map claim_of (length (map claim_of cs) - 1) cs)

pub tail_is : (claims : List Given) → take (length claims - 1) (drop 1 claims) ≡ drop 1 claims
tail_is claims = take_all (length claims - 1) (drop 1 claims) (let size = length-drop 1 claims in omega (arith, size))
