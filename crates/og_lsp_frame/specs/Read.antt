-- What reading takes of an input.
use Rattle.std.specs.Prelude.{◌≡◌, ◌≢◌, ℕ, List, [], ◌++◌, Option}
use Rattle.std.specs.Io.KnownBytes.{Consumes, IsAtEnd}
use Rattle.og_lsp_frame.specs.declared.fault.InputError.{InputError}
use Rattle.og_lsp_frame.specs.declared.fault.InputError.TheVariants as input_errors
use Rattle.og_lsp_frame.specs.Front.{front, Partial, Message, Faulty}

-- some bytes went from the input to the end of what is held
abbrev pub ReadsOn : Option (List ℕ) → Option (List ℕ) → List ℕ → List ℕ → Type 0
ReadsOn before after old new = (bytes : List ℕ) × Consumes before after bytes × (new ≡ old ++ bytes)

-- what was held and what was read begin with a message, and what comes behind it is held
abbrev pub ReadsMessage : Option (List ℕ) → Option (List ℕ) → List ℕ → List ℕ → List ℕ → Type 0
ReadsMessage before after old new body = (bytes : List ℕ) × Consumes before after bytes × (front (old ++ bytes) ≡ Message body new)

-- the input has ended, and nothing is held
abbrev pub IsEnd : Option (List ℕ) → Option (List ℕ) → List ℕ → List ℕ → Type 0
IsEnd before after old new = (bytes : List ℕ) × Consumes before after bytes × IsAtEnd after × (old ++ bytes ≡ []) × (new ≡ [])

-- what each error tells: without memory what was read last may be lost; else all that was read is held, and it is a message's front, or its header is wrong
abbrev pub FailsWith : Option (List ℕ) → Option (List ℕ) → List ℕ → List ℕ → InputError → Type 0
FailsWith before after old new input_errors.Memory = (bytes : List ℕ) × (new ≡ old ++ bytes)
FailsWith before after old new input_errors.Failed = ReadsOn before after old new
FailsWith before after old new input_errors.Unfinished = ReadsOn before after old new × IsAtEnd after × (front new ≡ Partial) × (new ≢ [])
FailsWith before after old new (input_errors.Fault fault) = ReadsOn before after old new × (front new ≡ Faulty fault)
