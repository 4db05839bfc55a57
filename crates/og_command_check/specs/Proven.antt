-- The source that an input begins with is proven.
use Rattle.std.specs.Prelude.{ℕ, List}
use Rattle.og_io.specs.Joined.{IsSplit}
use Rattle.og_judge.specs.Proven.{IsProvenSource}

-- the source that an input begins with is proven
abbrev pub HasProvenSource : List ℕ → Type 0
HasProvenSource input = (source certs : List ℕ) × IsSplit input source certs × IsProvenSource source
