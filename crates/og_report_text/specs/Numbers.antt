-- Numbers of JSON.
use Rattle.std.specs.Prelude.{ℕ}
use Rattle.serde_json.specs.Data.{Data, number, unsigned}

abbrev pub natural : ℕ → Data
natural n = number (unsigned n)
