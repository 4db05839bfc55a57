-- What several reads took of an input.
use Rattle.std.proofs.Common.{◌≡◌, ◌≢◌, ℕ, List, [], ◌++◌, Option, Some, None, Result, Ok, Err, IfOk, IfErr, sym, ap, ◌∙◌, subst, append-nil, append_assoc}
use Rattle.std.specs.Prelude.{IfSome, IfNone}
use Rattle.std.proofs.KnownBytes.{Consumes-nil, Consumes-trans}
use Rattle.std.specs.Io.KnownBytes.{Consumes, Keeps, IsAtEnd}
use Rattle.og_lsp_frame.specs.declared.fault.FrameError.{FrameError}
use Rattle.og_lsp_frame.specs.declared.fault.FrameError.TheVariants as frame_errors
use Rattle.og_lsp_frame.specs.declared.fault.InputError.{InputError}
use Rattle.og_lsp_frame.specs.declared.fault.InputError.TheVariants as input_errors
use Rattle.og_lsp_frame.specs.Errors.{input_error}
use Rattle.og_lsp_frame.specs.Front.{front, Partial, Message}
use Rattle.og_lsp_frame.specs.Headers.{Takes}
use Rattle.og_lsp_frame.specs.Read.{ReadsOn, ReadsMessage, IsEnd, FailsWith}

-- nothing
pub reads_none : (a : Option (List ℕ)) (held : List ℕ) → ReadsOn a a held held
reads_none a held = ([], Consumes-nil a, sym (append-nil held))

-- one read after others
pub reads_on : (a b c : Option (List ℕ)) (old mid new : List ℕ) → ReadsOn a b old mid → ReadsOn b c mid new → ReadsOn a c old new
reads_on a b c old mid new (first, p, e) (next, q, k) =
    (first ++ next, Consumes-trans a b c first next p q, k ∙ ap (λ (z : List ℕ). z ++ next) e ∙ append_assoc old first next)

-- a message behind what was read
pub reads_message : (a b : Option (List ℕ)) (old mid new body : List ℕ) → ReadsOn a b old mid → front mid ≡ Message body new → ReadsMessage a b old new body
reads_message a b old mid new body (bytes, p, e) is = (bytes, p, subst (λ (z : List ℕ). front z ≡ Message body new) e is)

-- known bytes that stay are as after a read of nothing
keeps_none : (a b : Option (List ℕ)) → Keeps a b → Consumes a b []
keeps_none None b k = tt
keeps_none (Some xs) None k = k
keeps_none (Some xs) (Some ys) k = sym k

pub reads_kept : (a b : Option (List ℕ)) (held : List ℕ) → Keeps a b → ReadsOn a b held held
reads_kept a b held k = ([], keeps_none a b k, sym (append-nil held))

-- an error behind what was read
pub fails_later : (a b c : Option (List ℕ)) (old mid new : List ℕ) (e : InputError) → ReadsOn a b old mid → FailsWith b c mid new e → FailsWith a c old new e
fails_later a b c old mid new input_errors.Memory (first, p, e) (next, k) = (first ++ next, k ∙ ap (λ (z : List ℕ). z ++ next) e ∙ append_assoc old first next)
fails_later a b c old mid new input_errors.Failed read failed = reads_on a b c old mid new read failed
fails_later a b c old mid new input_errors.Unfinished read failed = (reads_on a b c old mid new read failed.0, failed.1, failed.2, failed.3)
fails_later a b c old mid new (input_errors.Fault fault) read failed = (reads_on a b c old mid new read failed.0, failed.1)

-- no message was taken
pub take_fails : {X : Type 0} (view : X → List ℕ) (a : Option (List ℕ)) (old new : List ℕ) (e : FrameError) → Takes view (Err e) old new → FailsWith a a old new (input_error e)
take_fails view a old new frame_errors.Memory taken = ([], taken.1 ∙ sym (append-nil old))
take_fails view a old new (frame_errors.Fault fault) taken =
    (subst (λ (z : List ℕ). ReadsOn a a old z) (sym taken.1) (reads_none a old), ap front taken.1 ∙ taken.0)

-- ---- the end

if_none : {X : Type 0} (o : Option X) (P : Type 0) → P → IfNone o P
if_none None P p = p
if_none (Some x) P p = tt

if_some : {X : Type 0} (o : Option X) (P : X → Type 0) → o ≡ None → IfSome o P
if_some None P e = tt
if_some (Some x) P e = cc

pub no_message : {X : Type 0} (r : Result (Option X) InputError) (new : List ℕ) (P : X → Type 0) → IfOk r (λ body. (body ≡ None) × (new ≡ [])) → IfOk r (λ body. IfSome body P)
no_message (Ok body) new P end = if_some body P end.0
no_message (Err e) new P end = tt

pub reads_end : {X : Type 0} (r : Result (Option X) InputError) (a b : Option (List ℕ)) (old new : List ℕ) → ReadsOn a b old new → IsAtEnd b → IfOk r (λ body. (body ≡ None) × (new ≡ [])) → IfOk r (λ body. IfNone body (IsEnd a b old new))
reads_end (Ok body) a b old new (bytes, p, e) at_end end = if_none body (IsEnd a b old new) (bytes, p, at_end, sym e ∙ end.1, end.1)
reads_end (Err e) a b old new read at_end end = tt

unfinished : (a b : Option (List ℕ)) (old new : List ℕ) (e : InputError) → ReadsOn a b old new → IsAtEnd b → front new ≡ Partial → (e ≡ input_errors.Unfinished) × (new ≢ []) → FailsWith a b old new e
unfinished a b old new e read at_end partial (is, some) = subst (FailsWith a b old new) (sym is) (read, at_end, partial, some)

pub ends_within : {X : Type 0} (r : Result (Option X) InputError) (a b : Option (List ℕ)) (old new : List ℕ) → ReadsOn a b old new → IsAtEnd b → front new ≡ Partial
    → IfErr r (λ e. (e ≡ input_errors.Unfinished) × (new ≢ [])) → IfErr r (FailsWith a b old new)
ends_within (Ok body) a b old new read at_end partial end = tt
ends_within (Err e) a b old new read at_end partial end = unfinished a b old new e read at_end partial end
