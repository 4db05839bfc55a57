-- What functions return for what stands at the front of a stream, seen by a view of what they return.
use Rattle.std.specs.Prelude.{◌≡◌, ℕ, List, Option, Some, None, Result, Ok, Err}
use Rattle.og_lsp_frame.specs.declared.fault.FrameFault.{FrameFault}
use Rattle.og_lsp_frame.specs.declared.fault.FrameError.{FrameError}
use Rattle.og_lsp_frame.specs.declared.fault.FrameError.TheVariants as frame_errors
use Rattle.og_lsp_frame.specs.Front.{FirstLine, NoEnd, Long, Line, Header, Unfinished, Wrong, Whole, Front, Partial, Message, Faulty, front}
use Rattle.og_lsp_frame.specs.declared.fault.FrameFault.TheVariants.{LineTooLong}

-- the first line, and what comes behind it
abbrev pub GivesLine : {X : Type 0} → (X → List ℕ × List ℕ) → Result (Option X) FrameFault → FirstLine → Type 0
GivesLine view (Ok None) first = first ≡ NoEnd
GivesLine view (Ok (Some parts)) first = first ≡ Line (view parts).0 (view parts).1
GivesLine view (Err fault) first = (first ≡ Long) × (fault ≡ LineTooLong)

-- a header: what it tells of the length, and what comes behind it
abbrev pub GivesHeader : {X : Type 0} → (X → Option ℕ × List ℕ) → Result (Option X) FrameFault → Header → Type 0
GivesHeader view (Ok None) header = header ≡ Unfinished
GivesHeader view (Ok (Some parts)) header = header ≡ Whole (view parts).0 (view parts).1
GivesHeader view (Err fault) header = header ≡ Wrong fault

-- a message: its body, and what comes behind it
abbrev pub GivesFront : {X : Type 0} → (X → List ℕ × List ℕ) → Result (Option X) FrameFault → Front → Type 0
GivesFront view (Ok None) found = found ≡ Partial
GivesFront view (Ok (Some parts)) found = found ≡ Message (view parts).0 (view parts).1
GivesFront view (Err fault) found = found ≡ Faulty fault

-- the message at the front is taken away with its header, and else all stays; memory is asked for where there is a message
abbrev pub Takes : {X : Type 0} → (X → List ℕ) → Result (Option X) FrameError → List ℕ → List ℕ → Type 0
Takes view (Ok None) old new = (front old ≡ Partial) × (new ≡ old)
Takes view (Ok (Some body)) old new = front old ≡ Message (view body) new
Takes view (Err (frame_errors.Fault fault)) old new = (front old ≡ Faulty fault) × (new ≡ old)
Takes view (Err frame_errors.Memory) old new = ((body rest : List ℕ) × (front old ≡ Message body rest)) × (new ≡ old)
