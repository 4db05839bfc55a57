-- The faults of the lines of a certificate, one after another.
use Rattle.std.proofs.Common.{◌≡◌, ℕ, zero, suc, ◌+◌, ◌<◌, ◌≤◌, List, [], ◌∷◌, ◌++◌, map, length, drop, get_or, Option, Some, None, Result, Ok, Err, Vec, Global, refl, sym, ap, ◌∙◌, subst, arith, drop-cons, add-one, drop_of_length-le}
use Rattle.std.proofs.lemmas.List.{length-map}
use Rattle.og_facts.specs.declared.fact.Fact.{Fact as FactType}
use Rattle.og_facts.specs.Facts.{Fact, Atom}
use Rattle.og_facts.specs.Plain.{plain_fact}
use Rattle.og_cert_text.specs.Tree.{Cert, SplitOn}
use Rattle.og_cert_text.specs.Lines.{cert_count}
use Rattle.og_cert_text.specs.declared.cert.Cert.{Cert as CertType}
use Rattle.og_cert_text.specs.declared.cert.CertStep.{CertStep}
use Rattle.og_cert_text.specs.declared.cert.CertStep.TheVariants as step
use Rattle.og_cert_text.specs.Plain.{with_steps, plain_cert, combination_of}
use Rattle.og_cert.specs.declared.fault.FaultKind.{FaultKind}
use Rattle.og_cert.specs.declared.fault.ReplayFault.{ReplayFault}
use Rattle.og_cert.specs.declared.fault.ReplayError.{ReplayError}
use Rattle.og_cert.specs.declared.fault.ReplayError.TheVariants as errors
use Rattle.og_cert.specs.declared.fault.CheckError.{CheckError}
use Rattle.og_cert.specs.declared.fault.CheckError.TheVariants as check_errors
use Rattle.og_cert.specs.Checks.{ok_then, room, combination, cut_at, parts_at, one_each}
use Rattle.og_cert.specs.Faults.{lines, lines_of, fault_at, check, or_else, fault_from, fault_parts}
use Rattle.og_cert.specs.Steps.{stepped, split_for, certs_of}
use Rattle.og_cert.specs.Answer.{IsChecked, located, FailsWith, Replays, ReplaysParts}
use Rattle.og_cert.proofs.Trees.{part_of, count_certs}

-- ---- two checks of one line

pub both_stop : {A B : Type 0} (line : ℕ) (r : Result A FaultKind) (q : A → Result (Unit {0}) FaultKind) (h : A → B) (g : A → Option ReplayFault) (k : FaultKind) → ok_then r (λ x. ok_then (q x) (λ _. Ok (h x))) ≡ Err k → check line r (λ x. check line (q x) (λ _. g x)) ≡ Some (fault_at line k)
both_stop line (Err d) q h g k e = let same : d ≡ k = cc in ap (λ x. Some (fault_at line x)) same
both_stop line (Ok x) q h g k e = go (q x) e
  where
    go : (p : Result (Unit {0}) FaultKind) → ok_then p (λ _. Ok (h x)) ≡ Err k → check line p (λ _. g x) ≡ Some (fault_at line k)
    go (Ok u) d = absurd (cc)
    go (Err j) d = let same : j ≡ k = cc in ap (λ y. Some (fault_at line y)) same

pub both_pass : {A B : Type 0} (line : ℕ) (r : Result A FaultKind) (q : A → Result (Unit {0}) FaultKind) (h : A → B) (g : B → Option ReplayFault) (y : B) → ok_then r (λ x. ok_then (q x) (λ _. Ok (h x))) ≡ Ok y → check line r (λ x. check line (q x) (λ _. g (h x))) ≡ g y
both_pass line (Err d) q h g y e = absurd (cc)
both_pass line (Ok x) q h g y e = go (q x) e
  where
    go : (p : Result (Unit {0}) FaultKind) → ok_then p (λ _. Ok (h x)) ≡ Ok y → check line p (λ _. g (h x)) ≡ g y
    go (Ok u) d = let same : h x ≡ y = cc in ap g same
    go (Err j) d = absurd (cc)

-- the error of a check of this line
pub located_fails : {X Y : Type 0} (view : X → Y) (line : ℕ) (r : Result X CheckError) (answer : Result Y FaultKind) (e : ReplayError) (o : Option ReplayFault) → IsChecked view r answer → located line r ≡ Err e → ((k : FaultKind) → answer ≡ Err k → o ≡ Some (fault_at line k)) → FailsWith e o
located_fails view line (Ok x) answer e o h l f = absurd (cc)
located_fails view line (Err check_errors.Memory) answer e o h l f =
    let same : errors.Memory ≡ e = cc in
    subst (λ d. FailsWith d o) same tt
located_fails view line (Err (check_errors.Fault k)) answer e o h l f =
    let same : errors.Fault (fault_at line k) ≡ e = cc in
    subst (λ d. FailsWith d o) same (f k h)

pub located_passes : {X Y : Type 0} (view : X → Y) (line : ℕ) (r : Result X CheckError) (answer : Result Y FaultKind) (x : X) → IsChecked view r answer → located line r ≡ Ok x → answer ≡ Ok (view x)
located_passes view line (Ok y) answer x h l = let same : y ≡ x = cc in h ∙ ap (λ z. Ok (view z)) same
located_passes view line (Err check_errors.Memory) answer x h l = absurd (cc)
located_passes view line (Err (check_errors.Fault k)) answer x h l = absurd (cc)

-- ---- steps

pub step_passes : (line n : ℕ) (fs gs : List Fact) (s : CertStep) (rest : List CertStep) (c : Cert) → stepped n fs s ≡ Ok gs → fault_from line n fs (with_steps (s ∷ rest) c) ≡ fault_from (line + 1) n gs (with_steps rest c)
step_passes line n fs gs (step.Sum ts) rest c e =
    both_pass line (combination n fs (combination_of ts.items)) (λ _. room fs 1) (λ f. fs ++ Atom f ∷ []) (λ hs. fault_from (line + 1) n hs (with_steps rest c)) gs e
step_passes line n fs gs (step.Cut i d) rest c e =
    both_pass line (cut_at fs i d) (λ _. room fs 1) (λ f. fs ++ Atom f ∷ []) (λ hs. fault_from (line + 1) n hs (with_steps rest c)) gs e

pub step_stops : (line n : ℕ) (fs : List Fact) (s : CertStep) (rest : List CertStep) (c : Cert) (k : FaultKind) → stepped n fs s ≡ Err k → fault_from line n fs (with_steps (s ∷ rest) c) ≡ Some (fault_at line k)
step_stops line n fs (step.Sum ts) rest c k e =
    both_stop line (combination n fs (combination_of ts.items)) (λ _. room fs 1) (λ f. fs ++ Atom f ∷ []) (λ f. fault_from (line + 1) n (fs ++ Atom f ∷ []) (with_steps rest c)) k e
step_stops line n fs (step.Cut i d) rest c k e =
    both_stop line (cut_at fs i d) (λ _. room fs 1) (λ f. fs ++ Atom f ∷ []) (λ f. fault_from (line + 1) n (fs ++ Atom f ∷ []) (with_steps rest c)) k e

pub lines-with_steps : (steps : List CertStep) (c : Cert) → lines (with_steps steps c) ≡ length steps + lines c
lines-with_steps [] c = omega arith
lines-with_steps (step.Sum ts ∷ steps) c = let h = lines-with_steps steps c in omega (arith, h)
lines-with_steps (step.Cut i d ∷ steps) c = let h = lines-with_steps steps c in omega (arith, h)

pub drop_at : {X : Type 0} (all : List X) (i : ℕ) (x : X) → i < length all → x ≡ get_or all i x → drop i all ≡ x ∷ drop (i + 1) all
drop_at all i x h is =
    drop-cons all i x h ∙ ap (λ y. y ∷ drop (suc i) all) (sym is) ∙ ap (λ k. x ∷ drop k all) (sym (add-one i))

-- what stands after the first steps
pub steps_turn : (line n i : ℕ) (fs gs : List Fact) (s : CertStep) (all : List CertStep) (c : Cert) → i < length all → s ≡ get_or all i s → stepped n fs s ≡ Ok gs → fault_from line n fs (with_steps (drop i all) c) ≡ fault_from (line + 1) n gs (with_steps (drop (i + 1) all) c)
steps_turn line n i fs gs s all c h is e =
    ap (λ l. fault_from line n fs (with_steps l c)) (drop_at all i s h is) ∙ step_passes line n fs gs s (drop (i + 1) all) c e

pub steps_stop : (line n i : ℕ) (fs : List Fact) (s : CertStep) (all : List CertStep) (c : Cert) (k : FaultKind) → i < length all → s ≡ get_or all i s → stepped n fs s ≡ Err k → fault_from line n fs (with_steps (drop i all) c) ≡ Some (fault_at line k)
steps_stop line n i fs s all c k h is e =
    ap (λ l. fault_from line n fs (with_steps l c)) (drop_at all i s h is) ∙ step_stops line n fs s (drop (i + 1) all) c k e

-- ---- splits

abbrev split_rest : ℕ → ℕ → List Fact → List CertType → List (List Fact) → Option ReplayFault
split_rest line n fs certs ps = fault_parts (line + 1) line n fs ps (certs_of certs)

pub split_stops : (line n i : ℕ) (fs : List Fact) (certs : List CertType) (k : FaultKind) → split_for fs i (length certs) ≡ Err k → fault_from line n fs (SplitOn i (certs_of certs)) ≡ Some (fault_at line k)
split_stops line n i fs certs k e =
    both_stop line (parts_at fs i) (λ ps. one_each (length ps) (cert_count (certs_of certs))) (λ ps. ps) (split_rest line n fs certs) k
    (ap (λ m. ok_then (parts_at fs i) (λ ps. ok_then (one_each (length ps) m) (λ _. Ok ps))) (count_certs certs) ∙ e)

pub split_passes : (line n i : ℕ) (fs : List Fact) (certs : List CertType) (ps : List (List Fact)) → split_for fs i (length certs) ≡ Ok ps → fault_from line n fs (SplitOn i (certs_of certs)) ≡ fault_parts (line + 1) line n fs ps (certs_of certs)
split_passes line n i fs certs ps e =
    both_pass line (parts_at fs i) (λ qs. one_each (length qs) (cert_count (certs_of certs))) (λ qs. qs) (split_rest line n fs certs) ps
    (ap (λ m. ok_then (parts_at fs i) (λ qs. ok_then (one_each (length qs) m) (λ _. Ok qs))) (count_certs certs) ∙ e)

pub split_replays : (line n i : ℕ) (fs : List Fact) (certs : List CertType) (ps : List (List Fact)) (r : Result ℕ ReplayError) → split_for fs i (length certs) ≡ Ok ps → ReplaysParts line n fs ps (certs_of certs) r → Replays line n fs (SplitOn i (certs_of certs)) r
split_replays line n i fs certs ps (Ok next) e h = (split_passes line n i fs certs ps e ∙ h.0, omega (arith, h.1))
split_replays line n i fs certs ps (Err d) e h = subst (FailsWith d) (sym (split_passes line n i fs certs ps e)) h

-- the certificates from number i on, each with its part
abbrev pub parts_from : ℕ → ℕ → ℕ → ℕ → List Fact → List (Vec FactType Global) → List CertType → Option ReplayFault
parts_from i next line n fs parts certs = fault_parts next line n fs (map part_of (drop i parts)) (certs_of (drop i certs))

abbrev pub lines_from : ℕ → List CertType → ℕ
lines_from i certs = lines_of (certs_of (drop i certs))

one_part : (i next line n : ℕ) (fs : List Fact) (parts : List (Vec FactType Global)) (certs : List CertType) (p : Vec FactType Global) (c : CertType) → i < length parts → p ≡ get_or parts i p → i < length certs → c ≡ get_or certs i c
    → parts_from i next line n fs parts certs ≡ check line (room fs (length p.items)) (λ _. or_else (fault_from next n (fs ++ part_of p) (plain_cert c)) (parts_from (i + 1) (next + lines (plain_cert c)) line n fs parts certs))
one_part i next line n fs parts certs p c h is k js =
    ap (λ l. fault_parts next line n fs (map part_of l) (certs_of (drop i certs))) (drop_at parts i p h is)
    ∙ ap (λ l. fault_parts next line n fs (part_of p ∷ map part_of (drop (i + 1) parts)) (certs_of l)) (drop_at certs i c k js)
    ∙ ap (λ m. check line (room fs m) (λ _. or_else (fault_from next n (fs ++ part_of p) (plain_cert c)) (parts_from (i + 1) (next + lines (plain_cert c)) line n fs parts certs))) (length-map p.items plain_fact)

-- a part that is closed
pub part_turn : (i next line n : ℕ) (fs : List Fact) (parts : List (Vec FactType Global)) (certs : List CertType) (p : Vec FactType Global) (c : CertType) (u : Unit {0}) → i < length parts → p ≡ get_or parts i p → i < length certs → c ≡ get_or certs i c
    → room fs (length p.items) ≡ Ok u → fault_from next n (fs ++ part_of p) (plain_cert c) ≡ None → parts_from (i + 1) (next + lines (plain_cert c)) line n fs parts certs ≡ parts_from i next line n fs parts certs
part_turn i next line n fs parts certs p c u h is k js e f =
    let rest = parts_from (i + 1) (next + lines (plain_cert c)) line n fs parts certs in
    sym
    (one_part i next line n fs parts certs p c h is k js
    ∙ ap (λ r. check line r (λ _. or_else (fault_from next n (fs ++ part_of p) (plain_cert c)) rest)) e
    ∙ ap (λ o. or_else o rest) f)

item_at : {X : Type 0} (xs : List X) (i : ℕ) → i < length xs → (x : X) × (x ≡ get_or xs i x)
item_at [] i h = absurd (omega arith)
item_at (x ∷ xs) zero h = (x, refl)
item_at (x ∷ xs) (suc i) h =
    let inside : i < length xs = omega arith in
    item_at xs i inside

-- a part for which there is no room
pub part_full : (i next line n : ℕ) (fs : List Fact) (parts : List (Vec FactType Global)) (certs : List CertType) (p : Vec FactType Global) (j : FaultKind) → i < length parts → p ≡ get_or parts i p → i < length certs
    → room fs (length p.items) ≡ Err j → parts_from i next line n fs parts certs ≡ Some (fault_at line j)
part_full i next line n fs parts certs p j h is k e =
    let c = item_at certs i k in
    let rest = parts_from (i + 1) (next + lines (plain_cert c.0)) line n fs parts certs in
    one_part i next line n fs parts certs p c.0 h is k c.1
    ∙ ap (λ r. check line r (λ _. or_else (fault_from next n (fs ++ part_of p) (plain_cert c.0)) rest)) e

-- a part that is not closed
pub part_stops : (i next line n : ℕ) (fs : List Fact) (parts : List (Vec FactType Global)) (certs : List CertType) (p : Vec FactType Global) (c : CertType) (u : Unit {0}) (e : ReplayError) → i < length parts → p ≡ get_or parts i p → i < length certs → c ≡ get_or certs i c
    → room fs (length p.items) ≡ Ok u → FailsWith e (fault_from next n (fs ++ part_of p) (plain_cert c)) → FailsWith e (parts_from i next line n fs parts certs)
part_stops i next line n fs parts certs p c u errors.Memory h is k js e f = tt
part_stops i next line n fs parts certs p c u (errors.Fault fault) h is k js e f =
    let rest = parts_from (i + 1) (next + lines (plain_cert c)) line n fs parts certs in
    one_part i next line n fs parts certs p c h is k js
    ∙ ap (λ r. check line r (λ _. or_else (fault_from next n (fs ++ part_of p) (plain_cert c)) rest)) e
    ∙ ap (λ o. or_else o rest) f

pub lines_turn : (i : ℕ) (certs : List CertType) (c : CertType) → i < length certs → c ≡ get_or certs i c → lines_from i certs ≡ lines (plain_cert c) + lines_from (i + 1) certs
lines_turn i certs c h is = ap (λ l. lines_of (certs_of l)) (drop_at certs i c h is)

pub parts_end : (i next line n : ℕ) (fs : List Fact) (parts : List (Vec FactType Global)) (certs : List CertType) → length parts ≤ i → length certs ≤ i → parts_from i next line n fs parts certs ≡ None
parts_end i next line n fs parts certs h k =
    ap (λ l. fault_parts next line n fs (map part_of l) (certs_of (drop i certs))) (drop_of_length-le parts h)
    ∙ ap (λ l. fault_parts next line n fs [] (certs_of l)) (drop_of_length-le certs k)

pub lines_end : (i : ℕ) (certs : List CertType) → length certs ≤ i → lines_from i certs ≡ 0
lines_end i certs k = ap (λ l. lines_of (certs_of l)) (drop_of_length-le certs k)
