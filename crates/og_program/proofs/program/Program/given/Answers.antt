use Rattle.std.proofs.Common.{◌∙◌, sym, subst, ℕ, List}
use Rattle.og_template_outline.specs.Meaning.{IsReading, IsNotMeant}
use Rattle.og_words.specs.Jobs.{word_bytes}
use Rattle.og_program.specs.World.{named}
use Rattle.og_program.specs.Given.{FollowsError}
use Rattle.og_program.proofs.program.Program.given.Goals as goal

pub returns-in-Ok-clause-given : goal.returns-in-Ok-clause-given
returns-in-Ok-clause-given g c =
    (c.in_ok-text.ensures.text, subst (λ (t : List ℕ). IsReading c.args.takes t (word_bytes c.args.words.now) c.in-Ok.reading) c.deref.ensures.value c.in-Ok.ensures.reading)

pub refuse_meaning-requires : goal.refuse_meaning-requires
refuse_meaning-requires g c =
    (c.args.takes, word_bytes c.args.words.now, subst (λ (t : List ℕ). IsNotMeant c.args.takes t (word_bytes c.args.words.now) c.in-Err.error) (c.deref.ensures.value ∙ sym c.deref-in-Err.ensures.value) c.in-Err.ensures.refused)

pub returns-clause-none : goal.returns-clause-none
returns-clause-none g c = (
  c.in_ok-text.text.items,
  c.in_ok-text.ensures.text,
  (
    c.in-Err.error,
    subst (λ (t : List ℕ). IsNotMeant c.args.takes t (word_bytes c.args.words.now) c.in-Err.error) c.deref.ensures.value c.in-Err.ensures.refused,
    subst (λ (t : List ℕ). FollowsError (named c.args.name.now t) c.in-Err.error c.in_ok-refuse_meaning-in-Err.field-0) c.deref-in-Err.ensures.value c.in_ok-refuse_meaning-in-Err.ensures.outcome,
  ),
)
