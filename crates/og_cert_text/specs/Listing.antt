-- The lines listed in a text of certificates, and how they are written.
use Rattle.std.specs.Prelude.{ℕ, List, [], ◌∷◌, ◌++◌, flat_map, map}
use Rattle.og_cert_text.specs.Tree.{Cert}
use Rattle.og_cert_text.specs.Lines.{Line, ForCondition, SameLine, line_text}
use Rattle.og_cert_text.specs.Shallow.{cert_lines}
use Rattle.og_cert_text.specs.Files.{Entries}
use Rattle.og_cert_text.specs.Text.{Version, One, version_text}

pub data Listed : Type 0 where
  Whole : Cert → Listed
  SameAs : ℕ → Listed

-- conditions with the lines listed for them, in the order of the text
abbrev pub Listing : Type 0
Listing = List (ℕ × Listed)

abbrev pub listed_lines : Listed → List Line
listed_lines (Whole c) = cert_lines c
listed_lines (SameAs k) = SameLine k ∷ []

abbrev pub listing_lines : Listing → List Line
listing_lines [] = []
listing_lines (e ∷ es) = (ForCondition e.0 ∷ listed_lines e.1) ++ listing_lines es

-- each line ends with LF
abbrev pub lines_text : List Line → List ℕ
lines_text lines = flat_map (λ line. line_text line ++ 10 ∷ []) lines

abbrev pub listing_text : Version → Listing → List ℕ
listing_text v es = version_text v ++ lines_text (listing_lines es)

-- version 1's text of a file: its certificates by rising numbers
abbrev pub file_text : Entries → List ℕ
file_text es = listing_text One (map (λ e. (e.0, Whole e.1)) es)
