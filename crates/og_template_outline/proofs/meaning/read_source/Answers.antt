use Rattle.std.proofs.Common.{◌∙◌, sym, subst, ℕ, List, [], map}
use Rattle.std.specs.Borrow.{Bor}
use Rattle.og_typed.specs.Source.{IsSource}
use Rattle.og_template_outline.specs.Words.{IsTaken}
use Rattle.og_template_outline.proofs.Taken.{first_word, no_word}
use Rattle.og_template_outline.proofs.meaning.read_source.Goals as goal

pub returns-in-len1-up-clause-refused : goal.returns-in-len1-up-clause-refused
returns-in-len1-up-clause-refused c =
    let words = map (λ (w : Bor (List ℕ)). w.now) c.args.words.now in
    let starts = map (λ (w : Bor (List ℕ)). w.now) c.in_ok-split.split.starts.items in (
      [],
      map (λ (w : Bor (List ℕ)). w.now) c.as_slice.result.now,
      starts,
      subst (λ (l : List (Bor (List ℕ))). IsTaken c.args.takes [] words (map (λ (w : Bor (List ℕ)). w.now) l) starts) (sym c.as_slice.ensures.value) c.in_ok-split.ensures,
      first_word c.as_slice.result.now (record { ref_ptr = (0, 0); now = [] }) c.in-len1-up.len_at_least,
    )

pub returns-clause-reading : goal.returns-clause-reading
returns-clause-reading c =
    let words = map (λ (w : Bor (List ℕ)). w.now) c.args.words.now in
    let starts = map (λ (w : Bor (List ℕ)). w.now) c.in_ok-split.split.starts.items in (
      subst (λ (b : List ℕ). IsSource b c.into_outline-outline.result) c.in_ok-read.ensures.same c.into_outline-outline.ensures.source,
      subst (λ (l : List (Bor (List ℕ))). IsTaken c.args.takes [] words (map (λ (w : Bor (List ℕ)). w.now) l) starts) (sym c.as_slice.ensures.value ∙ no_word c.as_slice.result.now c.in-empty.len_below) c.in_ok-split.ensures,
    )
