-- The written part of a text that is made piece by piece.
use Rattle.std.proofs.Common.{◌≡◌, refl, ℕ, List, [], ◌++◌, Option, Result, Ok, Err, IfErr, ap, sym, subst, ◌∙◌, append_assoc, append-nil}
use Rattle.std.proofs.KnownBytes.{Appends-nil, Appends-trans}
use Rattle.std.specs.Io.KnownBytes.{Appends}
use Rattle.og_io.specs.Written.{AppendsFront, Passes}

-- what holds holds at every error
pub failed : {T E : Type 0} (r : Result T E) (P : Type 0) → P → IfErr r (λ _. P)
failed (Ok x) P h = tt
failed (Err e) P h = h

-- ---- one piece

pub nothing_yet : (a : Option (List ℕ)) (text : List ℕ) → AppendsFront a a text
nothing_yet a text = ([], text, refl, Appends-nil a)

pub held_back : (a : Option (List ℕ)) (text : List ℕ) → Passes a a text text []
held_back a text = ([], append-nil text, Appends-nil a)

pub all_written : (a b : Option (List ℕ)) (text left : List ℕ) → left ≡ [] → Appends a b text → Passes a b text left []
all_written a b text left gone h = (text, ap (λ l. text ++ l) (sym gone), h)

-- of what was held back and more, which are one text now
pub made : (a b : Option (List ℕ)) (held text left more : List ℕ) → text ≡ held ++ more → Passes a b text left [] → Passes a b held left more
made a b held text left more is (front, e, h) = (front, sym is ∙ sym (append-nil text) ∙ e, h)

pub made_front : (a b : Option (List ℕ)) (text whole : List ℕ) → text ≡ whole → AppendsFront a b text → AppendsFront a b whole
made_front a b text whole is h = subst (λ (t : List ℕ). AppendsFront a b t) is h

-- ---- piece after piece

pub passes_then : (a b c : Option (List ℕ)) (held left last more again : List ℕ) → Passes a b held left more → Passes b c left last again → Passes a c held last (more ++ again)
passes_then a b c held left last more again (front, e, p) (next, k, q) = (
  front ++ next,
  sym (append_assoc held more again) ∙ ap (λ l. l ++ again) e ∙ append_assoc front left again ∙ ap (λ l. front ++ l) k ∙ sym (append_assoc front next last),
  Appends-trans a b c front next p q,
)

-- so much of the whole has passed; this comes later
abbrev pub HasPassed : Option (List ℕ) → Option (List ℕ) → List ℕ → List ℕ → List ℕ → List ℕ → Type 0
HasPassed before after held left whole later = (done : List ℕ) × (done ++ later ≡ whole) × Passes before after held left done

pub begun : (a : Option (List ℕ)) (held whole : List ℕ) → HasPassed a a held held whole whole
begun a held whole = ([], refl, held_back a held)

pub goes_on : (a b c : Option (List ℕ)) (held left last whole before piece later : List ℕ) → before ≡ piece ++ later → HasPassed a b held left whole before → Passes b c left last piece
    → HasPassed a c held last whole later
goes_on a b c held left last whole before piece later is (done, e, h) next =
    (done ++ piece, append_assoc done piece later ∙ ap (λ l. done ++ l) (sym is) ∙ e, passes_then a b c held left last done piece h next)

pub ended : (a b : Option (List ℕ)) (held left whole later : List ℕ) → later ≡ [] → HasPassed a b held left whole later → Passes a b held left whole
ended a b held left whole later none (done, e, h) =
    subst (λ (l : List ℕ). Passes a b held left l) (sym (append-nil done) ∙ ap (λ l. done ++ l) (sym none) ∙ e) h

pub stopped : (a b c : Option (List ℕ)) (held left whole before piece later : List ℕ) → before ≡ piece ++ later → HasPassed a b held left whole before → AppendsFront b c (left ++ piece)
    → AppendsFront a c (held ++ whole)
stopped a b c held left whole before piece later is (done, e, (first, k, h)) (front, back, m, q) =
    let text : held ++ whole ≡ (first ++ front) ++ (back ++ later) =
    ap (λ l. held ++ l) (sym e)
    ∙ ap (λ l. held ++ (done ++ l)) is
    ∙ sym (append_assoc held done (piece ++ later))
    ∙ ap (λ l. l ++ (piece ++ later)) k
    ∙ append_assoc first left (piece ++ later)
    ∙ ap (λ l. first ++ l) (sym (append_assoc left piece later))
    ∙ ap (λ l. first ++ (l ++ later)) m
    ∙ ap (λ l. first ++ l) (append_assoc front back later)
    ∙ sym (append_assoc first front (back ++ later)) in
    (first ++ front, back ++ later, text, Appends-trans a b c first front h q)

-- ---- the last piece

pub whole_written : (a b c : Option (List ℕ)) (held left more whole : List ℕ) → held ++ more ≡ whole → Passes a b held left more → Appends b c left → Appends a c whole
whole_written a b c held left more whole is (front, e, h) last = subst (λ (t : List ℕ). Appends a c t) (sym e ∙ is) (Appends-trans a b c front left h last)

pub last_stopped : (a b c : Option (List ℕ)) (held left more whole : List ℕ) → held ++ more ≡ whole → Passes a b held left more → AppendsFront b c left → AppendsFront a c whole
last_stopped a b c held left more whole is (first, e, h) (front, back, m, q) =
    let text : whole ≡ (first ++ front) ++ back = sym is ∙ e ∙ ap (λ l. first ++ l) m ∙ sym (append_assoc first front back) in
    (first ++ front, back, text, Appends-trans a b c first front h q)
