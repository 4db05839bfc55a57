-- Statements, with the instances of each `for`.
use Rattle.std.specs.Prelude.{List, [], ◌∷◌, ◌++◌, Option, Some, None, Ok}
use Rattle.og_text.specs.declared.place.Span.{Span}
use Rattle.og_parse.specs.Language.{Placed}
use Rattle.og_parse.specs.declared.raw.RawName.{RawName}
use Rattle.og_parse.specs.Trees as outline
use Rattle.og_template.specs.declared.fault.FaultKind.TheVariants.{NothingLeft}
use Rattle.og_template_expand.specs.Trees.{Expression, Assertion, Binder, Note, Basic, Skip, Assign, Simple, Statement, Once, If, IfElse, While, Await, Step, Stated, Repeated, Steps, no_step, step, Sequence, sequence}
use Rattle.og_template_expand.specs.Answer.{Checked, ◌>>=◌, refused, gathered}
use Rattle.og_template_expand.specs.Scope.{Scope}
use Rattle.og_template_expand.specs.Ranges.{instances}
use Rattle.og_template_expand.specs.Sums.{element_of, sum_of}
use Rattle.og_template_expand.specs.Assertions.{assertion_of}

abbrev pub note_of : Scope → Note → Checked outline.Note
note_of scope n = assertion_of scope n.value >>= λ a. Ok (record { place = n.place; value = a })

-- ---- basic statements

abbrev pub target_of : Scope → RawName → Option Expression → Checked RawName
target_of scope name None = Ok name
target_of scope name (Some index) = element_of scope name index

abbrev pub basic_of : Scope → Basic → Checked outline.Basic
basic_of scope Skip = Ok outline.Skip
basic_of scope (Assign name index sum) = do
  x ← target_of scope name index
  s ← sum_of scope sum
  Ok (outline.Assign x s)

abbrev pub simple_in : Scope → Basic → Span → Checked (List (Placed outline.Basic))
simple_in scope basic place = do
  b ← basic_of scope basic
  Ok (record { place = place; value = b } ∷ [])

abbrev pub simple_by : Scope → Option Binder → Basic → Span → Checked (List (Placed outline.Basic))
simple_by scope None basic place = simple_in scope basic place
simple_by scope (Some binder) basic place =
    instances scope binder (λ inner. simple_in inner basic place)

abbrev pub simple_of : Scope → Simple → Checked (List (Placed outline.Basic))
simple_of scope s = simple_by scope s.binder s.basic s.place

-- an await without an element is 79, at its place
abbrev pub await_with : outline.Assertion → List (Placed outline.Basic) → Span
    → Checked outline.Stmt
await_with guard [] place = refused NothingLeft place
await_with guard (b ∷ body) place = Ok (outline.Await guard (b ∷ body))

abbrev pub await_of : Scope → Assertion → List Simple → Span → Checked outline.Stmt
await_of scope guard body place = do
  g ← assertion_of scope guard
  all ← gathered (simple_of scope) body
  await_with g all place

-- ---- sequences

abbrev pub stepped : outline.Stmt → Span → outline.Note → outline.Step
stepped stmt place after = record { stmt = record { place = place; value = stmt }; after = after }

-- a sequence without a step is 79, at its first note
abbrev pub sequence_with : Span → outline.Note → List outline.Step → Checked outline.Seq
sequence_with place before [] = refused NothingLeft place
sequence_with place before (s ∷ steps) = Ok (outline.sequence before (s ∷ steps))

abbrev mutual
  pub statement_of : Scope → Span → Statement → Checked outline.Stmt
  statement_of scope place (Once basic) = basic_of scope basic >>= λ b. Ok (outline.Simple b)
  statement_of scope place (If test branch) = do
    a ← assertion_of scope test
    q ← sequence_of scope branch
    Ok (outline.If a q)
  statement_of scope place (IfElse test branch other) = do
    a ← assertion_of scope test
    q ← sequence_of scope branch
    r ← sequence_of scope other
    Ok (outline.IfElse a q r)
  statement_of scope place (While test body) = do
    a ← assertion_of scope test
    q ← sequence_of scope body
    Ok (outline.While a q)
  statement_of scope place (Await guard body) = await_of scope guard body place

  -- the steps of a `for` are those of its instances, one after the other
  pub one_of : Scope → Step → Checked (List outline.Step)
  one_of scope (Stated statement place after) = do
    s ← statement_of scope place statement
    n ← note_of scope after
    Ok (stepped s place n ∷ [])
  one_of scope (Repeated binder steps) = instances scope binder (λ inner. steps_of inner steps)

  pub steps_of : Scope → Steps → Checked (List outline.Step)
  steps_of scope no_step = Ok []
  steps_of scope (step one others) = do
    these ← one_of scope one
    all ← steps_of scope others
    Ok (these ++ all)

  pub sequence_of : Scope → Sequence → Checked outline.Seq
  sequence_of scope (sequence before steps) = do
    b ← note_of scope before
    all ← steps_of scope steps
    sequence_with before.place b all
