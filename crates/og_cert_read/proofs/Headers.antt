-- A text and its version.
use Rattle.std.proofs.Common.{◌≡◌, ℕ, ◌+◌, ◌<◌, ◌≤◌, List, [], ◌∷◌, ◌++◌, map, length, refl, ap, sym, ◌∙◌, subst, true, cond, Option, Some, None, option_map, Result, Ok, Err, arith, length-append}
use Rattle.std.specs.Prelude.{◌==◌, IsErrOf}
use denote.Bor.{Bor}
use Rattle.og_cert_text.specs.declared.file.CertFile.{CertFile}
use Rattle.og_cert_text.specs.declared.fault.CertTextError.{CertTextError}
use Rattle.og_cert_text.specs.declared.fault.CertTextError.TheVariants as errors
use Rattle.og_cert_text.specs.Files.{Entries}
use Rattle.og_cert_text.specs.Shown.{shown}
use Rattle.og_cert_text.specs.Text.{Version, One, Two, version_text}
use Rattle.og_cert_read.specs.Text.{most_text, pieces, Says, EachSays}
use Rattle.og_cert_read.specs.Words.{after, line_of}
use Rattle.og_cert_read.specs.Reading.{LineFault, BadLine, Twice, TooDeep, read_lines, nothing_read}
use Rattle.og_cert_read.specs.Read.{Gives, IsWrong}
use Rattle.og_cert_read.specs.Answered.{IsRead}
use Rattle.og_cert_read.specs.Reader.{read_piece, lines_of, fault_at, IsFile}
use Rattle.og_cert_read.proofs.LineSays.{says, after_sound}
use Rattle.og_cert_read.proofs.Split.{same}
use Rattle.og_cert_read.proofs.Texts.{one_answer}
use Rattle.og_cert_text.specs.declared.fault.CertTextFault.TheVariants as faults
use Rattle.og_cert_read.specs.Laws.{IsThisFile}

piece_said : (p : Option (List ℕ)) → Says p (read_piece p)
piece_said None = tt
piece_said (Some bytes) = says bytes (line_of bytes) refl

each_said : (ps : List (Option (List ℕ))) → EachSays ps (map read_piece ps)
each_said [] = tt
each_said (p ∷ ps) = (piece_said p, each_said ps)

pub too_long : (n : ℕ) → 67108864 < n → most_text < n
unfolding most_text
too_long n h = h

pub not_long : (n : ℕ) → n ≤ 67108864 → n ≤ most_text
unfolding most_text
not_long n h = h

pub few_lines : (n : ℕ) → n ≤ most_text → 2 + n ≤ 67108866
unfolding most_text
few_lines n h = omega (arith, h)

pub front_of : (ps text : List ℕ) (r : Option (Bor (List ℕ))) (s : Bor (List ℕ)) → option_map (λ x. x.now) r ≡ after ps text → r ≡ Some s → text ≡ ps ++ s.now
front_of ps text r s h e = after_sound ps text s.now (sym h ∙ ap (option_map (λ x. x.now)) e)

pub rest_few : (ps text rest : List ℕ) → text ≡ ps ++ rest → length text ≤ 67108864 → length rest ≤ most_text
rest_few ps text rest e h =
    let p : length text ≡ length (ps ++ rest) = ap length e in
    not_long (length rest) (omega (arith, p, h, length-append {A = ℕ} ps rest))

abbrev gives : (v : Version) (text rest : List ℕ) (answer : Result Entries (LineFault × ℕ)) → length text ≤ 67108864 → text ≡ version_text v ++ rest → read_lines v 2 nothing_read (lines_of rest) ≡ answer → Gives text answer
gives v text rest answer few e h = (not_long (length text) few, v, rest, e, lines_of rest, each_said (pieces rest), h)

wrong : (text : List ℕ) (e : LineFault) (at : ℕ) → Gives text (Err (e, at)) → IsWrong text (fault_at e at)
wrong text BadLine at h = h
wrong text Twice at h = h
wrong text TooDeep at h = h

pub file_read : (v : Version) (text rest : List ℕ) (r : Result CertFile CertTextError) → length text ≤ 67108864 → text ≡ version_text v ++ rest → IsFile r (read_lines v 2 nothing_read (lines_of rest)) → (IsErrOf r errors.Memory → 0 < length rest) → IsRead text r
file_read v text rest (Ok file) few e h some = gives v text rest (Ok (shown file)) few e h
file_read v text rest (Err errors.Memory) few e h some = (not_long (length text) few, v, rest, e, some refl)
file_read v text rest (Err (errors.Fault f)) few e h some =
    subst (λ x. IsWrong text x) (sym h.3) (wrong text h.0 h.1 (gives v text rest (Err (h.0, h.1)) few e h.2))

same_byte : (p : ℕ) → (p == p) ≡ true
same_byte p = same p p refl

after_front : (ps rest : List ℕ) → after ps (ps ++ rest) ≡ Some rest
after_front [] rest = refl
after_front (p ∷ ps) rest = ap (λ b. cond b (after ps (ps ++ rest)) None) (same_byte p) ∙ after_front ps rest

none_front : (ps text rest : List ℕ) (r : Option (Bor (List ℕ))) → option_map (λ x. x.now) r ≡ after ps text → r ≡ None → text ≡ ps ++ rest → ⊥
none_front ps text rest r h e is = apart (sym (ap (option_map (λ x. x.now)) e) ∙ h ∙ ap (after ps) is ∙ after_front ps rest)
  where
    apart : ◌≡◌ {A = Option (List ℕ)} None (Some rest) → ⊥
    apart k = cc

pub no_version : (text : List ℕ) (r s : Option (Bor (List ℕ))) → option_map (λ x. x.now) r ≡ after (version_text One) text → r ≡ None → option_map (λ x. x.now) s ≡ after (version_text Two) text → s ≡ None
    → (v : Version) (rest : List ℕ) → text ≡ version_text v ++ rest → ⊥
no_version text r s a b c d One rest e = none_front (version_text One) text rest r a b e
no_version text r s a b c d Two rest e = none_front (version_text Two) text rest s c d e

-- ---- a text that stands for a file is read as that file

ok_same : (a b : Entries) → ◌≡◌ {A = Result Entries (LineFault × ℕ)} (Ok a) (Ok b) → a ≡ b
ok_same a b e = cc

no_fault : (es : Entries) (e : LineFault × ℕ) → ◌≡◌ {A = Result Entries (LineFault × ℕ)} (Ok es) (Err e) → ⊥
no_fault es e h = cc

never_long : (n : ℕ) → n ≤ most_text → most_text < n → ⊥
unfolding most_text
never_long n a b = omega (arith, a, b)

pub given_is_read : (text : List ℕ) (es : Entries) (r : Result CertFile CertTextError) → Gives text (Ok es) → IsRead text r → IsThisFile es r
given_is_read text es (Ok file) g h = ok_same (shown file) es (one_answer text (Ok (shown file)) (Ok es) h g)
given_is_read text es (Err errors.Memory) g h = tt
given_is_read text es (Err (errors.Fault faults.CertsTooLong)) g h = never_long (length text) g.0 h
given_is_read text es (Err (errors.Fault faults.BadVersion)) g h = h.1 g.1 g.2 g.3
given_is_read text es (Err (errors.Fault (faults.BadLine at))) g h = no_fault es (BadLine, at) (one_answer text (Ok es) (Err (BadLine, at)) g h)
given_is_read text es (Err (errors.Fault (faults.Twice at))) g h = no_fault es (Twice, at) (one_answer text (Ok es) (Err (Twice, at)) g h)
given_is_read text es (Err (errors.Fault (faults.TooDeep at))) g h = no_fault es (TooDeep, at) (one_answer text (Ok es) (Err (TooDeep, at)) g h)
