-- What the program is given and what it writes, as far as that is known.
use Rattle.std.specs.Prelude.{ℕ, Bool, List, Option, if◌then◌else◌, codes}
use Rattle.std.specs.Str.{bytes_eq}
use Rattle.og_command_check.specs.Inputs.{source_of, certs_of, Reads}
use Rattle.og_program.specs.declared.ended.Ended.{Ended}
use Rattle.og_program.specs.declared.program.Program.{Program}
use Rattle.og_program.specs.declared.program.Streams.{Streams}

-- what stands in files and on standard input
pub record World : Type 0 where
  -- the bytes of the file of a name
  pub files : List ℕ → Option (List ℕ)
  -- there is known to be no file of a name
  pub missing : List ℕ → Bool
  -- the bytes of standard input
  pub input : Option (List ℕ)

-- that of a program's files and of a reader
abbrev pub world_of : {F G H I : Type 0} → (F → List ℕ → Option (List ℕ)) → (F → List ℕ → Bool)
    → (I → Option (List ℕ)) → Program F G H → I → World
world_of contents is_missing remaining program input = record {
  files = contents program.files.now;
  missing = is_missing program.files.now;
  input = remaining input;
}

-- what a stream holds before and after
pub record Stream : Type 0 where
  pub before : Option (List ℕ)
  pub after : Option (List ℕ)

-- that of a writer
abbrev pub stream : {W : Type 0} → (W → Option (List ℕ)) → W → W → Stream
stream contents before after = record { before = contents before; after = contents after }

-- standard output and standard error, and how the program ends
pub record Trace : Type 0 where
  pub out : Stream
  pub err : Stream
  pub ended : Ended

abbrev pub trace : Stream → Stream → Ended → Trace
trace out err ended = record { out = out; err = err; ended = ended }

-- that of two writers
abbrev pub trace_of : {I O E : Type 0} → (O → Option (List ℕ)) → (E → Option (List ℕ))
    → Streams I O E → Streams I O E → Ended → Trace
trace_of out err before after ended =
    trace (stream out before.out after.out) (stream err before.err after.err) ended

-- ---- the bytes of a name

-- the name of standard input
abbrev pub is_input : List ℕ → Bool
is_input name = bytes_eq name (codes "-")

abbrev pub bytes_in : World → List ℕ → Option (List ℕ)
bytes_in world name = if is_input name then world.input else world.files name

-- those of the certificates beside a source: beside one of standard input, `-` is a file
abbrev pub certs_in : World → List ℕ → List ℕ → Option (List ℕ)
certs_in world source certs = if is_input source then world.files certs else bytes_in world certs

-- ---- the texts that are read of them

-- the bytes that are read, and the name of their file
pub record Text : Type 0 where
  pub name : List ℕ
  pub bytes : List ℕ

abbrev pub named : List ℕ → List ℕ → Text
named name bytes = record { name = name; bytes = bytes }

-- P of the text of a source
abbrev pub OfSource : World → List ℕ → (Text → Type 0) → Type 0
OfSource world name P = Reads source_of (bytes_in world name) (λ bytes. P (named name bytes))

-- P of the text of certificates
abbrev pub OfCerts : World → List ℕ → (Text → Type 0) → Type 0
OfCerts world name P = Reads certs_of (bytes_in world name) (λ bytes. P (named name bytes))

-- P of the texts of a source and of certificates beside it
abbrev pub OfBoth : World → List ℕ → List ℕ → (Text → Text → Type 0) → Type 0
OfBoth world source certs P =
    OfSource world source
    (λ s. Reads certs_of (certs_in world source certs) (λ bytes. P s (named certs bytes)))
