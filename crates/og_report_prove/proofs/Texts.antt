-- Bytes that are a text, or not.
use Rattle.std.proofs.Common.{◌≡◌, ℕ, List, [], IsUtf8, refl}
use Rattle.std.proofs.lemmas.Bool.{false_from_ne_true}
use Rattle.std.proofs.lemmas.Str.{IsUtf8-from_is_utf8, is_utf8-from_IsUtf8}
use Rattle.std.specs.Str.{is_utf8}
use Rattle.og_report_prove.specs.Members.{utf8_text}

pub is_text : (bytes text : List ℕ) → text ≡ bytes → IsUtf8 bytes → text ≡ utf8_text bytes
is_text bytes text same utf8 = rw (is_utf8-from_IsUtf8 bytes utf8) same

pub no_text : (bytes : List ℕ) → ¬ (IsUtf8 bytes) → [] ≡ utf8_text bytes
no_text bytes other = rw (false_from_ne_true (is_utf8 bytes) (λ is. other (IsUtf8-from_is_utf8 bytes is))) refl
