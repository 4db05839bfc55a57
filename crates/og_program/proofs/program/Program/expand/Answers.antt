use Rattle.std.proofs.Common.{sym, subst, inl, inr, ℕ, List}
use Rattle.std.specs.Borrow.{Bor}
use Rattle.og_template_outline.specs.Expanded.{IsExpanded}
use Rattle.og_template_outline.specs.Meaning.{IsMeaning}
use Rattle.og_template_outline.specs.declared.meaning.Takes.TheVariants.{Constants}
use Rattle.og_template.specs.Front.{is_template}
use Rattle.og_words.specs.Jobs.{word_bytes}
use Rattle.og_program.specs.World.{world_of}
use Rattle.og_program.specs.Given.{IsGiven, MeansNone}
use Rattle.og_program.proofs.Along.{answers}
use Rattle.og_program.proofs.Meanings.{names_none, ok_of, err_of}
use Rattle.og_program.proofs.program.Program.expand.Goals as goal

pub expanded-requires : goal.expanded-requires
expanded-requires g c = subst (λ (t : List ℕ). IsMeaning t c.in-Ok.given.reading.meaning) (sym c.deref-in-Ok.ensures.value) (ok_of (IsGiven Constants (world_of g.F.Files.contents g.F.Files.is_missing g.I.Read.remaining c.args.self.now c.args.input.now) c.args.expand.now.template.now (word_bytes c.deref.result.now)) c.in_ok-given.field-0 c.in-Ok.given c.in-Ok.is c.in_ok-given.ensures.given).1.0

pub returns-in_ok-answer-in-Ok-clause-outcome : goal.returns-in_ok-answer-in-Ok-clause-outcome
returns-in_ok-answer-in-Ok-clause-outcome g c =
    let world = world_of g.F.Files.contents g.F.Files.is_missing g.I.Read.remaining c.args.self.now c.args.input.now in
    let expand = c.args.expand.now in
    let name = expand.template.now in
    let given = subst (λ (v : List (Bor (List ℕ))). IsGiven Constants world name (word_bytes v) c.in-Ok.given) c.deref.ensures.value (ok_of (IsGiven Constants world name (word_bytes c.deref.result.now)) c.in_ok-given.field-0 c.in-Ok.given c.in-Ok.is c.in_ok-given.ensures.given) in
    let answer = c.in_ok-answer-in-Ok.answer in (
      c.in-Ok.given.text.items,
      given.0,
      inl (
        answer,
        subst (λ (t : List ℕ). IsExpanded expand.as_map t answer) c.deref-in-Ok.ensures.value c.in_ok-answer-in-Ok.ensures,
        names_none (is_template c.in-Ok.given.text.items) (word_bytes expand.values.items) _ given.1.1,
        answers answer c.alone.result c.alone.ensures,
      ),
    )

pub returns-in-Err-clause-outcome : goal.returns-in-Err-clause-outcome
returns-in-Err-clause-outcome g c =
    let world = world_of g.F.Files.contents g.F.Files.is_missing g.I.Read.remaining c.args.self.now c.args.input.now in
    let expand = c.args.expand.now in
    let name = expand.template.now in
    let none = subst (λ (v : List (Bor (List ℕ))). MeansNone Constants world name (word_bytes v) c.in-Err.outcome) c.deref.ensures.value (err_of (MeansNone Constants world name (word_bytes c.deref.result.now)) c.in_ok-given.field-0 c.in-Err.outcome c.in-Err.is c.in_ok-given.ensures.none) in
    (none.0, none.1, inr none.2)
