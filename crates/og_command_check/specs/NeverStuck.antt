-- The source that an input begins with never gets stuck.
use Rattle.std.specs.Prelude.{ℕ, List}
use Rattle.og_io.specs.Joined.{IsSplit}
use Rattle.og_judge.specs.NeverStuck.{IsNeverStuckSource}

abbrev pub HasNeverStuckSource : List ℕ → Type 0
HasNeverStuckSource input =
    (source certs : List ℕ) × IsSplit input source certs × IsNeverStuckSource source
