-- Version 2's text of a file: a certificate that stands under a smaller number is not written again where the line `same` is shorter.
use Rattle.std.specs.Prelude.{ℕ, List, [], ◌∷◌, ◌++◌, length, if◌then◌else◌, nat_lt, Option, Some, None}
use Rattle.std.specs.Str.{bytes_eq}
use Rattle.og_cert_text.specs.Tree.{Cert}
use Rattle.og_cert_text.specs.Files.{Entries}
use Rattle.og_cert_text.specs.Text.{Two}
use Rattle.og_cert_text.specs.Listing.{Listed, Whole, SameAs, Listing, listed_lines, lines_text, listing_text}

abbrev pub listed_text : Listed → List ℕ
listed_text l = lines_text (listed_lines l)

abbrev pub cert_text : Cert → List ℕ
cert_text c = listed_text (Whole c)

-- the first number whose certificate has this text; certificates with one text are equal
abbrev pub first_with : List ℕ → Entries → Option ℕ
first_with text [] = None
first_with text (e ∷ es) = if bytes_eq text (cert_text e.1) then Some e.0 else first_with text es

-- the lines listed for the certificate where its first number is this one
abbrev pub listed_as : Option ℕ → Cert → Listed
listed_as None c = Whole c
listed_as (Some k) c = if nat_lt (length (listed_text (SameAs k))) (length (cert_text c)) then SameAs k else Whole c

-- the lines listed for these entries after those
abbrev pub listing_after : Entries → Entries → Listing
listing_after done [] = []
listing_after done (e ∷ es) = (e.0, listed_as (first_with (cert_text e.1) done) e.1) ∷ listing_after (done ++ e ∷ []) es

-- version 2's text of a file
abbrev pub shared_text : Entries → List ℕ
shared_text es = listing_text Two (listing_after [] es)
