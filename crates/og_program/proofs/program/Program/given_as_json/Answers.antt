use Rattle.std.proofs.Common.{◌∙◌, sym, subst, ℕ, List}
use Rattle.og_template_outline.specs.Meaning.{IsReading, IsNotMeant}
use Rattle.og_words.specs.Jobs.{word_bytes}
use Rattle.og_program.specs.World.{named}
use Rattle.og_program.specs.Given.{FollowsErrorAsJson}
use Rattle.og_program.proofs.program.Program.given_as_json.Goals as goal

pub returns-in-Ok-clause-given : goal.returns-in-Ok-clause-given
returns-in-Ok-clause-given g c =
    (c.in_ok-bytes.ensures.text, subst (λ (t : List ℕ). IsReading c.args.takes t (word_bytes c.args.words.now) c.in-Ok.reading) c.deref.ensures.value c.in-Ok.ensures.reading)

pub refuse_meaning_as_json-requires : goal.refuse_meaning_as_json-requires
refuse_meaning_as_json-requires g c =
    (c.args.takes, word_bytes c.args.words.now, subst (λ (t : List ℕ). IsNotMeant c.args.takes t (word_bytes c.args.words.now) c.in-Err.error) (c.deref.ensures.value ∙ sym c.deref-in-Err.ensures.value) c.in-Err.ensures.refused)

pub returns-clause-none : goal.returns-clause-none
returns-clause-none g c = (
  c.in_ok-bytes.bytes.items,
  c.in_ok-bytes.ensures.text,
  (
    c.in-Err.error,
    subst (λ (t : List ℕ). IsNotMeant c.args.takes t (word_bytes c.args.words.now) c.in-Err.error) c.deref.ensures.value c.in-Err.ensures.refused,
    subst (λ (t : List ℕ). FollowsErrorAsJson (named c.args.name.now t) c.in-Err.error c.in_ok-refuse_meaning_as_json-in-Err.field-0) c.deref-in-Err.ensures.value c.in_ok-refuse_meaning_as_json-in-Err.ensures.outcome,
  ),
)
