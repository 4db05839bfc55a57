-- Parts of a text that is cut into lexemes as it is put together.
use Rattle.std.proofs.Common.{◌≡◌, ℕ, Bool, true, false, cond, eqb, List, [], ◌∷◌, ◌++◌, refl, sym, subst, append_assoc}
use Rattle.og_text.specs.Lexemes.{is_white, Each}
use Rattle.og_text.specs.declared.token.TokenKind.{TokenKind}
use Rattle.og_text.specs.declared.token.TokenKind.TheVariants as kinds
use Rattle.og_print.specs.Print.{spelling}
use Rattle.og_print.proofs.Reprint.{AreGood}
use Rattle.og_print.proofs.CutText.{first_of, is_apart, apart_62, Ends, Cuts, cuts_white, cuts_word}

good_left : (ks js : List TokenKind) → AreGood (ks ++ js) → AreGood ks
good_left [] js h = tt
good_left (k ∷ ks) js h = (h.0, good_left ks js h.1)

good_right : (ks js : List TokenKind) → AreGood (ks ++ js) → AreGood js
good_right [] js h = h
good_right (k ∷ ks) js h = good_right ks js h.1

-- what may stand after any lexeme
pub record Ready (text : List ℕ) (ks : List TokenKind) : Type 0 where
  pub cuts : Cuts text ks
  pub apart : is_apart (first_of text) ≡ true

-- bytes that are cut into these lexemes before what may stand after any
pub record Fits (bytes : List ℕ) (ks : List TokenKind) : Type 0 where
  pub run : AreGood ks → (text : List ℕ) (js : List TokenKind) → Ready text js → Cuts (bytes ++ text) (ks ++ js)

-- such bytes that may stand after any lexeme themselves
pub record Tail (bytes : List ℕ) (ks : List TokenKind) : Type 0 where
  pub run : AreGood ks → (text : List ℕ) (js : List TokenKind) → Ready text js → Ready (bytes ++ text) (ks ++ js)

-- lines, before anything
pub record Lines (bytes : List ℕ) (ks : List TokenKind) : Type 0 where
  pub run : AreGood ks → (text : List ℕ) (js : List TokenKind) → Cuts text js → Cuts (bytes ++ text) (ks ++ js)

regroup : (x y text : List ℕ) (kx ky js : List TokenKind) → Cuts (x ++ (y ++ text)) (kx ++ (ky ++ js)) → Cuts ((x ++ y) ++ text) ((kx ++ ky) ++ js)
regroup x y text kx ky js c = subst (λ (z : List ℕ). Cuts z ((kx ++ ky) ++ js)) (sym (append_assoc x y text)) (subst (λ (z : List TokenKind). Cuts (x ++ (y ++ text)) z) (sym (append_assoc kx ky js)) c)

abbrev AnyEnds : TokenKind → Type 0
AnyEnds kind = (text : List ℕ) → is_apart (first_of text) ≡ true → Ends kind text

ends_apart : (kind : TokenKind) → AnyEnds kind
ends_apart kinds.Minus text h = apart_62 (first_of text) h
ends_apart kinds.OpenParen text h = tt
ends_apart kinds.OpenBrace text h = tt
ends_apart kinds.Star text h = tt
ends_apart kind text h = h

-- ---- fits

pub fit_word : (kind : TokenKind) → Fits (spelling kind) (kind ∷ [])
fit_word kind = record { run = λ g text js r. cuts_word kind g.0 (ends_apart kind text r.apart) r.cuts }

pub fit_tail : {x y : List ℕ} {kx ky : List TokenKind} → Fits x kx → Tail y ky → Fits (x ++ y) (kx ++ ky)
fit_tail {x} {y} {kx} {ky} fx ty = record {
  run = λ g text js r. regroup x y text kx ky js (fx.run (good_left kx ky g) (y ++ text) (ky ++ js) (ty.run (good_right kx ky g) text js r));
}

-- `{`, `(` and so on, directly before the rest
fit_open : {y : List ℕ} {ky : List TokenKind} (kind : TokenKind) → ((text : List ℕ) → Ends kind text) → Fits y ky → Fits (spelling kind ++ y) (kind ∷ ky)
fit_open {y} {ky} kind ends fy = record {
  run = λ g text js r. regroup (spelling kind) y text (kind ∷ []) ky js (cuts_word kind g.0 (ends (y ++ text)) (fy.run g.1 text js r));
}

-- a `-` directly before the rest
pub fit_minus : {y : List ℕ} {ky : List TokenKind} → (AreGood ky → (text : List ℕ) → eqb (first_of (y ++ text)) 62 ≡ false) → Fits y ky → Fits (45 ∷ y) (kinds.Minus ∷ ky)
fit_minus {y} {ky} ends fy = record { run = λ g text js r. cuts_word kinds.Minus tt (ends g.1 text) (fy.run g.1 text js r) }

pub fit_cond : {x y : List ℕ} {kx ky : List TokenKind} (b : Bool) → Fits x kx → Fits y ky → Fits (cond b x y) (cond b kx ky)
fit_cond true fx fy = fx
fit_cond false fx fy = fy

-- ---- tails

pub tail_nil : Tail [] []
tail_nil = record { run = λ g text js r. r }

pub tail_blank : {y : List ℕ} {ky : List TokenKind} → Fits y ky → Tail (32 ∷ y) ky
tail_blank {y} {ky} fy = record { run = λ g text js r. record { cuts = cuts_white 32 refl (fy.run g text js r); apart = refl } }

-- a `,` or the like directly after a lexeme
pub tail_close : {y : List ℕ} {ky : List TokenKind} (kind : TokenKind) → ((text : List ℕ) → is_apart (first_of (spelling kind ++ text)) ≡ true) → Tail y ky → Tail (spelling kind ++ y) (kind ∷ ky)
tail_close {y} {ky} kind apart ty = record {
  run = λ g text js r.
      let s = ty.run g.1 text js r in
      record {
        cuts = regroup (spelling kind) y text (kind ∷ []) ky js (cuts_word kind g.0 (ends_apart kind (y ++ text) s.apart) s.cuts);
        apart = subst (λ (z : List ℕ). is_apart (first_of z) ≡ true) (sym (append_assoc (spelling kind) y text)) (apart (y ++ text));
      };
}

-- a `*`, directly before the rest
pub tail_star : {y : List ℕ} {ky : List TokenKind} → Fits y ky → Tail (42 ∷ y) (kinds.Star ∷ ky)
tail_star {y} {ky} fy = record { run = λ g text js r. record { cuts = cuts_word kinds.Star tt tt (fy.run g.1 text js r); apart = refl } }

pub tail_append : {x y : List ℕ} {kx ky : List TokenKind} → Tail x kx → Tail y ky → Tail (x ++ y) (kx ++ ky)
tail_append {x} {y} {kx} {ky} tx ty = record {
  run = λ g text js r.
      let s = tx.run (good_left kx ky g) (y ++ text) (ky ++ js) (ty.run (good_right kx ky g) text js r) in
      record { cuts = regroup x y text kx ky js s.cuts; apart = subst (λ (z : List ℕ). is_apart (first_of z) ≡ true) (sym (append_assoc x y text)) s.apart };
}

-- ---- both

pub fit_blank : {x y : List ℕ} {kx ky : List TokenKind} → Fits x kx → Fits y ky → Fits (x ++ (32 ∷ y)) (kx ++ ky)
fit_blank fx fy = fit_tail fx (tail_blank fy)

pub fit_parens : {x : List ℕ} {kx : List TokenKind} → Fits x kx → Fits (40 ∷ (x ++ 41 ∷ [])) (kinds.OpenParen ∷ (kx ++ kinds.CloseParen ∷ []))
fit_parens fx = fit_open kinds.OpenParen (λ text. tt) (fit_tail fx (tail_close kinds.CloseParen (λ text. refl) tail_nil))

pub fit_braces : {x : List ℕ} {kx : List TokenKind} → Fits x kx → Fits (123 ∷ (x ++ 125 ∷ [])) (kinds.OpenBrace ∷ (kx ++ kinds.CloseBrace ∷ []))
fit_braces fx = fit_open kinds.OpenBrace (λ text. tt) (fit_tail fx (tail_close kinds.CloseBrace (λ text. refl) tail_nil))

-- ---- lines

white_lines : (indent : List ℕ) → Each is_white indent → (text : List ℕ) (js : List TokenKind) → Cuts text js → Cuts (indent ++ text) js
white_lines [] h text js c = c
white_lines (b ∷ bs) h text js c = cuts_white b h.0 (white_lines bs h.1 text js c)

pub line_of : {x : List ℕ} {kx : List TokenKind} (indent : List ℕ) → Each is_white indent → Fits x kx → Lines (indent ++ (x ++ 10 ∷ [])) kx
line_of {x} {kx} indent white fx = record {
  run = λ g text js c.
      let end = fx.run g (10 ∷ text) js (record { cuts = cuts_white 10 refl c; apart = refl }) in
      let joined = subst (λ (z : List ℕ). Cuts z (kx ++ js)) (sym (append_assoc x (10 ∷ []) text)) end in
      subst (λ (z : List ℕ). Cuts z (kx ++ js)) (sym (append_assoc indent (x ++ 10 ∷ []) text)) (white_lines indent white ((x ++ 10 ∷ []) ++ text) (kx ++ js) joined);
}

pub lines_nil : Lines [] []
lines_nil = record { run = λ g text js c. c }

pub lines_append : {x y : List ℕ} {kx ky : List TokenKind} → Lines x kx → Lines y ky → Lines (x ++ y) (kx ++ ky)
lines_append {x} {y} {kx} {ky} lx ly = record { run = λ g text js c. regroup x y text kx ky js (lx.run (good_left kx ky g) (y ++ text) (ky ++ js) (ly.run (good_right kx ky g) text js c)) }
