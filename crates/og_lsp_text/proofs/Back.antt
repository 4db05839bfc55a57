-- From a place to its position and back.
use Rattle.std.proofs.Common.{◌≡◌, ℕ, ◌≤◌, true, List, length, arith, sym, subst, ◌∙◌, refl, inl, inr}
use Rattle.std.proofs.lemmas.Bool.{cases_lt}
use Rattle.og_lsp_text.specs.declared.encoding.Encoding.{Encoding}
use Rattle.og_lsp_text.specs.declared.position.Position.{Position}
use Rattle.og_lsp_text.specs.Positions.{line_of, line_start, units, character_of, is_boundary, position_of, IsPlaceOf}
use Rattle.og_lsp_text.specs.Starts.{starts_of, start_at, last_at}
use Rattle.og_lsp_text.specs.Walk.{IsLastIn}
use Rattle.og_lsp_text.proofs.Starts.{place_between, between_place, line_within, starts_are, few, lines_are}
use Rattle.og_lsp_text.proofs.Units.{units_apart}

-- the last boundary of a line is the place of the position
pub is_place : (encoding : Encoding) (text starts : List ℕ) (position : Position) (at : ℕ) → starts ≡ starts_of text (length text) → position.line ≤ length starts
    → IsLastIn encoding text (start_at starts position.line) (last_at starts position.line (length text)) position.character at → IsPlaceOf encoding text position at
is_place encoding text starts position at is le found =
    let within = line_within text starts position.line is le in
    let inside : at ≤ length text = omega (arith, found.before, within.inside) in
    let line = between_place text starts at position.line is le inside found.after found.before in
    let start = (place_between text starts at position.line is inside line).start in
    record {
      within = inside;
      line = line;
      boundary = elim found.boundary [
        | inl h ↦ inl h
        | inr h ↦ inr (sym start ∙ h)
      ];
      fits = subst (λ (from : ℕ). units encoding text from at ≤ position.character) start found.fits;
      last = λ other le_text here boundary fits.
          let there = place_between text starts other position.line is le_text here in
          found.greatest other there.after there.before boundary (subst (λ (from : ℕ). units encoding text from other ≤ position.character) (sym there.start) fits);
    }

-- two places of one line have it begin at one place
same_start : (text : List ℕ) (a b : ℕ) → a ≤ length text → b ≤ length text → line_of text a ≡ line_of text b → line_start text a ≡ line_start text b
same_start text a b le le' e =
    let starts = starts_of text (length text) in
    sym (place_between text starts a (line_of text b) refl le e).start ∙ (place_between text starts b (line_of text b) refl le' refl).start

-- the place of the position of a boundary is that boundary
pub comes_back : (encoding : Encoding) (text : List ℕ) (at place : ℕ) → at ≤ length text → is_boundary text at ≡ true
    → IsPlaceOf encoding text (position_of encoding text at) place → place ≡ at
comes_back encoding text at place le boundary found =
    let above : at ≤ place = found.last at le refl boundary (omega arith) in
    let start = same_start text place at found.within le found.line in
    let fits : units encoding text (line_start text at) place ≤ units encoding text (line_start text at) at = subst (λ (from : ℕ). units encoding text from place ≤ character_of encoding text at) start found.fits in
    let ordered = (starts_are text at).ordered in
    elim (cases_lt at place) [
      | inl h ↦ absurd (omega (arith, fits, units_apart encoding text (line_start text at) at place ordered h found.within boundary))
      | inr h ↦ omega arith
    ]

-- a place is in one of the text's lines
pub lines_grow : (encoding : Encoding) (text : List ℕ) (at : ℕ) → at ≤ length text → line_of text at ≤ line_of text (length text)
lines_grow encoding text at le =
    let starts = starts_of text (length text) in
    omega (arith, few text starts at refl le, lines_are text starts refl)
