-- A text and its first line.
use Rattle.std.proofs.Common.{◌≡◌, ℕ, ◌+◌, ◌<◌, List, [], ◌∷◌, map, length, refl, ap, sym, ◌∙◌, subst, true, false, cond, Bool, Option, Some, None, Result, Ok, Err, arith}
use Rattle.std.specs.Prelude.{◌==◌}
use Rattle.std.specs.Result.{IsErr, IsErrAnd, MatchResult}
use denote.Bor.{Bor}
use Rattle.og_cert_text.specs.declared.fault.CertTextError.{CertTextError}
use Rattle.og_cert_text.specs.declared.fault.CertTextError.TheVariants as errors
use Rattle.og_cert_text.specs.Lines.{Line}
use Rattle.og_cert_text.specs.Files.{Entries}
use Rattle.og_cert_text.specs.Text.{Version}
use Rattle.og_cert_read.specs.Text.{pieces, with_byte}
use Rattle.og_cert_read.specs.Words.{before, past, line_of}
use Rattle.og_cert_read.specs.Reading.{Reading, LineFault, BadLine, line_at, goes, read_lines}
use Rattle.og_cert_read.specs.Reader.{read_piece, lines_of, refused, IsRefusal, IsStopped}
use Rattle.og_cert_read.proofs.Numbers.{some_same}

no_lf : (text : List ℕ) → past 10 text ≡ None → 0 < length text → pieces text ≡ None ∷ []
no_lf [] h lt = absurd (omega arith)
no_lf (c ∷ []) h lt = from (c == 10) h
  where
    from : (t : Bool) → ◌≡◌ {A = Option (List ℕ)} (cond t (Some []) None) None → ◌≡◌ {A = List (Option (List ℕ))} (cond t (Some [] ∷ []) (None ∷ [])) (None ∷ [])
    from true h = cc
    from false h = refl
no_lf (c ∷ d ∷ ds) h lt = from (c == 10) h (λ k. no_lf (d ∷ ds) k (omega arith))
  where
    from : (t : Bool) → cond t (Some (d ∷ ds)) (past 10 (d ∷ ds)) ≡ None → (past 10 (d ∷ ds) ≡ None → pieces (d ∷ ds) ≡ None ∷ []) → cond t (Some [] ∷ pieces (d ∷ ds)) (with_byte c (pieces (d ∷ ds))) ≡ None ∷ []
    from true h later = cc
    from false h later = ap (with_byte c) (later h)

with_lf : (text rest : List ℕ) → past 10 text ≡ Some rest → pieces text ≡ Some (before 10 text) ∷ pieces rest
with_lf [] rest h = cc
with_lf (c ∷ cs) rest h = from (c == 10) h (with_lf cs rest)
  where
    from : (t : Bool) → cond t (Some cs) (past 10 cs) ≡ Some rest → (past 10 cs ≡ Some rest → pieces cs ≡ Some (before 10 cs) ∷ pieces rest)
        → cond t (Some [] ∷ pieces cs) (with_byte c (pieces cs)) ≡ Some (cond t [] (c ∷ before 10 cs)) ∷ pieces rest
    from true h later = ap (λ x. Some [] ∷ pieces x) (some_same cs rest h)
    from false h later = ap (with_byte c) (later h)

pub past_less : (text rest : List ℕ) → past 10 text ≡ Some rest → length rest < length text
past_less [] rest h = cc
past_less (c ∷ cs) rest h = from (c == 10) h (past_less cs rest)
  where
    from : (t : Bool) → cond t (Some cs) (past 10 cs) ≡ Some rest → (past 10 cs ≡ Some rest → length rest < length cs) → length rest < length (c ∷ cs)
    from true h later = let p : length cs ≡ length rest = ap length (some_same cs rest h) in omega (arith, p)
    from false h later = let p = later h in omega (arith, p)

first_line : (text rest : List ℕ) (o : Option Line) → past 10 text ≡ Some rest → o ≡ line_of (before 10 text) → lines_of text ≡ o ∷ lines_of rest
first_line text rest o h e = ap (map read_piece) (with_lf text rest h) ∙ ap (λ x. x ∷ lines_of rest) (sym e)

stopped : (e : CertTextError) (at : ℕ) (answer : Result Entries (LineFault × ℕ)) → e ≡ refused BadLine at → answer ≡ Err (BadLine, at) → IsStopped e answer
stopped e at answer p q = subst (λ x. IsStopped x answer) (sym p) (BadLine, at, q, refl)

pub no_line_end : (v : Version) (at : ℕ) (r : Reading) (text : List ℕ) (e : CertTextError) → past 10 text ≡ None → 0 < length text → e ≡ refused BadLine at → IsStopped e (read_lines v at r (lines_of text))
no_line_end v at r text e h some p = stopped e at _ p (ap (λ ps. read_lines v at r (map read_piece ps)) (no_lf text h some))

pub no_line : (v : Version) (at : ℕ) (r : Reading) (text rest : List ℕ) (e : CertTextError) → past 10 text ≡ Some rest → None ≡ line_of (before 10 text) → e ≡ refused BadLine at → IsStopped e (read_lines v at r (lines_of text))
no_line v at r text rest e h none p = stopped e at _ p (ap (read_lines v at r) (first_line text rest None h none))

pub line_refused : (v : Version) (at : ℕ) (r : Reading) (text rest : List ℕ) (line : Line) (e : CertTextError) → past 10 text ≡ Some rest → Some line ≡ line_of (before 10 text) → IsRefusal e at (line_at v r.done r.place line) → IsStopped e (read_lines v at r (lines_of text))
line_refused v at r text rest line errors.Memory h is fault = tt
line_refused v at r text rest line (errors.Fault f) h is fault = (
  fault.0,
  at,
  ap (read_lines v at r) (first_line text rest (Some line) h is) ∙ ap (λ a. goes at a (λ next. read_lines v (at + 1) next (lines_of rest))) fault.1,
  fault.2,
)

pub line_taken : (v : Version) (at : ℕ) (r new : Reading) (text rest : List ℕ) (line : Line) → past 10 text ≡ Some rest → Some line ≡ line_of (before 10 text) → line_at v r.done r.place line ≡ Ok new
    → read_lines v at r (lines_of text) ≡ read_lines v (at + 1) new (lines_of rest)
line_taken v at r new text rest line h is ok =
    ap (read_lines v at r) (first_line text rest (Some line) h is) ∙ ap (λ a. goes at a (λ next. read_lines v (at + 1) next (lines_of rest))) ok

-- the same refusal, passed on
pub passed : (r : Result (Bor (List ℕ)) CertTextError) (P : Bor (List ℕ) → Type 0) (e : CertTextError) (answer : Result Entries (LineFault × ℕ)) → IsStopped e answer → IsErr r × IsErrAnd r (λ d. d ≡ e) → MatchResult r P (λ d. IsStopped d answer)
passed (Ok x) P e answer h k = absurd k.1
passed (Err d) P e answer h k = subst (λ x. IsStopped x answer) (sym k.1) h
