-- The conjuncts of the assertions in a text, as the text has them.
use Rattle.std.specs.Prelude.{ℕ, zero, suc, ◌+◌, ◌-◌, ◌==◌, List, [], ◌∷◌, ◌++◌, map, slice_get, Bool, true, false, not, ◌&&◌, ◌||◌, if◌then◌else◌, Option, Some, None, unwrap_or}
use Rattle.og_text.specs.Lexemes.{is_white, is_word_byte}
use Rattle.og_text.specs.declared.place.Span.{Span}
use Rattle.og_report_html.specs.Source.{next, begins, is_assertion}
use Rattle.og_report_html.specs.declared.conjuncts.Claim.{Claim as Given}
use Rattle.og_report_html.specs.declared.cut.Cut.{Cut}
use Rattle.og_report_html.specs.declared.mode.Mode.{Mode}
use Rattle.og_report_html.specs.declared.mode.Mode.TheVariants as mode

-- ---- words

abbrev pub byte_at : List ℕ → ℕ → ℕ
byte_at source at = unwrap_or (slice_get source at) 0

-- not within a name
abbrev pub is_alone : List ℕ → ℕ → ℕ → Bool
is_alone source start end = not (is_word_byte (byte_at source (start - 1))) && not (is_word_byte (byte_at source end))

abbrev pub is_and : List ℕ → ℕ → Bool
is_and source at =
    byte_at source at == 97 && (byte_at source (at + 1) == 110 && (byte_at source (at + 2) == 100 && is_alone source at (at + 3)))

abbrev pub is_or : List ℕ → ℕ → Bool
is_or source at = byte_at source at == 111 && (byte_at source (at + 1) == 114 && is_alone source at (at + 2))

abbrev pub is_arrow : List ℕ → ℕ → Bool
is_arrow source at = byte_at source at == 45 && byte_at source (at + 1) == 62

-- the bytes between the words, and the `{`
abbrev pub is_blank : ℕ → Bool
is_blank b = is_white b || b == 123

-- ---- an assertion, one byte after another

-- an `and` outside of comments and parentheses, and before any `or` and `->`, stands between two conjuncts
abbrev pub is_between : List ℕ → Cut → ℕ → Bool
is_between source cut at = not cut.comment && (cut.depth == 0 && is_and source at)

-- `(` opens a level, `)` closes one, and an `or` or `->` outside of all opens one that nothing closes
abbrev pub depth_after : List ℕ → ℕ → ℕ → ℕ
depth_after source depth at =
    if byte_at source at == 40 then depth + 1
    else (if byte_at source at == 41 then depth - 1
    else (if depth == 0 && (is_or source at || is_arrow source at) then depth + 1 else depth))

-- up to this byte
abbrev pub extended : ℕ → Option Span → Span
extended at None = record { start = at; end = at + 1 }
extended at (Some s) = record { start = s.start; end = at + 1 }

-- by a byte of a conjunct
abbrev pub after_solid : List ℕ → Cut → ℕ → Cut
after_solid source cut at =
    record { comment = false; depth = depth_after source cut.depth at; left = 0; conjunct = Some (extended at cut.conjunct) }

-- outside of comments; the three bytes of an `and` are no bytes of a conjunct
abbrev pub after_code : List ℕ → Cut → ℕ → Cut
after_code source cut at =
    if byte_at source at == 35 then record { comment = true; depth = cut.depth; left = cut.left; conjunct = cut.conjunct }
    else (if is_between source cut at then record { comment = false; depth = 0; left = 2; conjunct = None }
    else (if not (cut.left == 0) then record { comment = false; depth = cut.depth; left = cut.left - 1; conjunct = cut.conjunct }
    else (if is_blank (byte_at source at) then cut else after_solid source cut at)))

abbrev pub next_cut : List ℕ → Cut → ℕ → Cut
next_cut source cut at =
    if cut.comment then record { comment = not (byte_at source at == 10); depth = cut.depth; left = cut.left; conjunct = cut.conjunct }
    else after_code source cut at

abbrev pub first_cut : Cut
first_cut = record { comment = false; depth = 0; left = 0; conjunct = None }

abbrev pub list_of : Option Span → List Span
list_of None = []
list_of (Some s) = s ∷ []

-- the conjunct that ends before a byte
abbrev pub ended : List ℕ → Cut → ℕ → List Span
ended source cut at = if is_between source cut at then list_of cut.conjunct else []

-- over this many bytes from an offset on
abbrev pub conjuncts_from : List ℕ → Cut → ℕ → ℕ → List Span
conjuncts_from source cut at zero = list_of cut.conjunct
conjuncts_from source cut at (suc k) = ended source cut at ++ conjuncts_from source (next_cut source cut at) (at + 1) k

abbrev pub conjuncts_in : List ℕ → Span → List Span
conjuncts_in source note = conjuncts_from source first_cut note.start (note.end - note.start)

-- ---- the assertions of a text

-- an assertion from its `{` up to its `}`, where one ends
abbrev pub note_ended : Bool → ℕ → ℕ → List Span
note_ended false start at = []
note_ended true start at = record { start = start; end = at } ∷ []

-- from a byte offset on, where the last one began at `start`
abbrev pub notes_from : ℕ → Mode → ℕ → List ℕ → List Span
notes_from at old start [] = []
notes_from at old start (b ∷ bs) =
    note_ended (begins is_assertion (next old false b) old) start at
    ++ notes_from (at + 1) (next old false b) (if begins is_assertion old (next old false b) then at else start) bs

abbrev pub notes_in : List ℕ → List Span
notes_in source = notes_from 0 mode.Text 0 source

-- an assertion by its place, with its conjuncts
pub record Claim : Type 0 where
  pub at : ℕ
  pub conjuncts : List Span

abbrev pub claim_of : Given → Claim
claim_of c = record { at = c.at; conjuncts = c.conjuncts.items }

abbrev pub claim_in : List ℕ → Span → Claim
claim_in source note = record { at = note.start; conjuncts = conjuncts_in source note }

abbrev pub claims_in : List ℕ → List Claim
claims_in source = map (claim_in source) (notes_in source)
