-- What a message that was not written whole leaves.
use Rattle.std.specs.Prelude.{◌≡◌, ℕ, List, Option}
use Rattle.og_io.specs.declared.fault.OutputFault.{OutputFault}
use Rattle.og_io.specs.declared.fault.OutputFault.TheVariants.{Memory, NotWritten}
use Rattle.og_io.specs.Written.{AppendsFront}

-- without memory nothing was written, else a front of the text
abbrev pub WritesFront : Option (List ℕ) → Option (List ℕ) → List ℕ → OutputFault → Type 0
WritesFront before after text Memory = after ≡ before
WritesFront before after text (NotWritten why) = AppendsFront before after text
