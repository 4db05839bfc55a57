-- Words that are schedules, and words that are none.
use Rattle.std.proofs.Common.{◌≡◌, ◌<◌, ◌∷◌, [], ℕ, Bool, false, List, length, ap, arith}
use Rattle.std.specs.Prelude.{◌≢◌, ◌==◌}
use Rattle.og_io.specs.Numbers.{AreNumbers}
use Rattle.og_command_run.specs.Schedules.{IsSchedule}

pub not_empty : (word : List ℕ) (b : Bool) → b ≡ (length word == 0) → b ≡ false → word ≢ []
not_empty [] b is none e = absurd (cc)
not_empty (x ∷ xs) b is none e = absurd (cc)

-- a word that is not empty and gives no numbers, or too many, is none
pub no_schedule : (word : List ℕ) → word ≢ [] → ((all : List ℕ) → AreNumbers word all → ⊥) → (steps : List ℕ) → IsSchedule word steps → ⊥
no_schedule word some none [] is = some is
no_schedule word some none (n ∷ ns) is = none (n ∷ ns) is.1

pub too_long : (word ns : List ℕ) → word ≢ [] → ((all : List ℕ) → AreNumbers word all → all ≡ ns) → 1000000 < length ns → (steps : List ℕ) → IsSchedule word steps → ⊥
too_long word ns some only long [] is = some is
too_long word ns some only long (n ∷ rest) is =
    let same = ap length (only (n ∷ rest) is.1) in let few = is.2 in omega (arith, same, few, long)
