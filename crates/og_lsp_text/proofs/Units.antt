-- Units between two places.
use Rattle.std.proofs.Common.{◌≡◌, ℕ, ◌+◌, ◌*◌, ◌≤◌, ◌<◌, Bool, true, false, cond, List, length, get_or, drop, arith, ap, ◌∙◌, leb, eqb, ◌&&◌}
use Rattle.std.specs.Prelude.{sum_by, not}
use Rattle.std.specs.List.{slice_range}
use Rattle.std.proofs.lemmas.List.Elements.{All-from_get_or}
use Rattle.std.proofs.lemmas.List.Folds.{drop_split}
use Rattle.std.proofs.lemmas.List.Sums.{sum_by-append, sum_by-drop_more, sum_by-le}
use Rattle.std.proofs.lemmas.Bool.{not-true, and_parts}
use Rattle.og_lsp_text.specs.declared.encoding.Encoding.{Encoding}
use Rattle.og_lsp_text.specs.declared.encoding.Encoding.TheVariants.{Utf8, Utf16}
use Rattle.og_lsp_text.specs.Positions.{goes_on, unit, units, is_boundary, follows_cr}

-- the units from a place to the end
abbrev pub rest_of : Encoding → List ℕ → ℕ → ℕ
rest_of encoding text at = sum_by (unit encoding) (drop at text)

-- up to a place, and from there on
pub units_rest : (encoding : Encoding) (text : List ℕ) (from to : ℕ) → from ≤ to → rest_of encoding text from ≡ units encoding text from to + rest_of encoding text to
units_rest encoding text from to le = ap (sum_by (unit encoding)) (drop_split text from to le) ∙ sum_by-append (unit encoding) (slice_range text from to) (drop to text)

-- none
pub units_none : (encoding : Encoding) (text : List ℕ) (at : ℕ) → units encoding text at at ≡ 0
units_none encoding text at = omega (arith, units_rest encoding text at at (omega arith))

-- one byte more
pub units_more : (encoding : Encoding) (text : List ℕ) (from at : ℕ) → from ≤ at → at < length text → units encoding text from (at + 1) ≡ units encoding text from at + unit encoding (get_or text at 0)
units_more encoding text from at le lt =
    omega (arith, units_rest encoding text from at le, units_rest encoding text from (at + 1) (omega arith), sum_by-drop_more (unit encoding) text at 0 lt)

-- more places, no fewer units
pub units_grow : (encoding : Encoding) (text : List ℕ) (from at to : ℕ) → from ≤ at → at ≤ to → units encoding text from at ≤ units encoding text from to
units_grow encoding text from at to le more =
    omega (arith, units_rest encoding text from at le, units_rest encoding text from to (omega arith), units_rest encoding text at to more)

either_small : (b c : Bool) → cond b 0 (cond c 2 1) ≤ 2
either_small true c = omega arith
either_small false true = omega arith
either_small false false = omega arith

-- a byte adds two at most
pub unit_small : (encoding : Encoding) (byte : ℕ) → unit encoding byte ≤ 2
unit_small Utf8 byte = omega arith
unit_small Utf16 byte = either_small (goes_on byte) (leb 240 byte)

-- so many bytes add twice as many at most
pub units_small : (encoding : Encoding) (bytes : List ℕ) → sum_by (unit encoding) bytes ≤ length bytes * 2
units_small encoding bytes = sum_by-le (unit encoding) 2 bytes (All-from_get_or (λ b. unit encoding b ≤ 2) bytes 0 (λ i lt. unit_small encoding (get_or bytes i 0)))

either_some : (b c : Bool) → b ≡ false → 0 < cond b 0 (cond c 2 1)
either_some b true e = rw e (omega arith)
either_some b false e = rw e (omega arith)

-- the first byte of a character adds some
pub unit_some : (encoding : Encoding) (byte : ℕ) → goes_on byte ≡ false → 0 < unit encoding byte
unit_some Utf8 byte e = omega arith
unit_some Utf16 byte e = either_some (goes_on byte) (leb 240 byte) e

-- at a boundary no character goes on
pub boundary_begins : (text : List ℕ) (at : ℕ) → is_boundary text at ≡ true → goes_on (get_or text at 0) ≡ false
boundary_begins text at e = not-true (goes_on (get_or text at 0)) (and_parts (not (goes_on (get_or text at 0))) (not (eqb (get_or text at 0) 10 && follows_cr text at)) e).0

-- a boundary further on has more units in front of it
pub units_apart : (encoding : Encoding) (text : List ℕ) (from at to : ℕ) → from ≤ at → at < to → to ≤ length text → is_boundary text at ≡ true → units encoding text from at < units encoding text from to
units_apart encoding text from at to le lt inside here =
    omega (arith, units_more encoding text from at le (omega arith), units_grow encoding text from (at + 1) to (omega arith) (omega arith), unit_some encoding (get_or text at 0) (boundary_begins text at here))
