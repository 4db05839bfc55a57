-- The tokens of a source hold bytes.
use Rattle.std.proofs.Common.{ℕ, List, take, length}
use Rattle.std.specs.Prelude.{All}
use Rattle.std.proofs.lemmas.List.Elements.{All-take, All-weaker}
use Rattle.og_text.specs.declared.token.Token.{Token}
use Rattle.og_text.specs.Cut.{AreTokensOf}
use Rattle.og_text.specs.Lexed.{LiesWithin}
use Rattle.og_text.proofs.OneCut.{places_tokens}
use Rattle.og_parse.specs.Expected.{HoldsBytes}

pub front_holds : (source : List ℕ) (tokens : List Token) (n : ℕ) → AreTokensOf source tokens → All HoldsBytes (take n tokens)
front_holds source tokens n are = All-take HoldsBytes n tokens (All-weaker (LiesWithin (length source)) HoldsBytes (λ t h. h.0) tokens (places_tokens source tokens are))
