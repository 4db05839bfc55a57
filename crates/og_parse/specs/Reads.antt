-- Reading the parts of the grammar, each by its first token.
use Rattle.std.specs.Prelude.{ℕ, zero, suc, Bool, true, false, ◌&&◌, List, [], ◌∷◌, Option, unwrap_or, Ok, if◌then◌else◌}
use Rattle.og_text.specs.declared.token.TokenKind.{TokenKind}
use Rattle.og_text.specs.declared.token.TokenKind.TheVariants as kinds
use Rattle.og_text.specs.declared.place.Span.{Span}
use Rattle.og_parse.specs.Language.{Placed}
use Rattle.og_parse.specs.Reading.{Reader, ◌>>=◌, is_a, or, starts, symbol_at, token_at, shut_at, many_at, after_at, separated_at, if_symbol_at, with_place_at}
use Rattle.og_parse.specs.declared.raw.RawName.{RawName}
use Rattle.og_parse.specs.declared.raw.RawAux.{RawAux}
use Rattle.og_parse.specs.declared.raw.RawInt.{RawInt}
use Rattle.og_parse.specs.declared.raw.Sign.{Sign}
use Rattle.og_parse.specs.declared.raw.Sign.TheVariants.{Plus, Minus}
use Rattle.og_parse.specs.declared.raw.RawFactor.{RawFactor}
use Rattle.og_parse.specs.declared.raw.RawFactor.TheVariants.{Variable}
use Rattle.og_parse.specs.declared.raw.RawTerm.{RawTerm}
use Rattle.og_parse.specs.Trees.{Sum, Assertion, Truth, Falsity, Comparison, Negation, Implication, conjunction, disjunction, Note, Basic, Skip, Assign, Stmt, Simple, While, Await, choice, Step, sequence, Seq, Outline}
use Rattle.og_parse.specs.Parts.{Front, Back, joined}
use Rattle.og_parse.specs.Words.{name_of, value_of, sign_of, relation_of}
use Rattle.og_parse.specs.Grammar.{product, term}

-- ---- kinds of tokens

abbrev pub a_name : ℕ → Bool
a_name = is_a (kinds.Name [])

-- between two terms
abbrev pub a_sign : ℕ → Bool
a_sign = or (is_a kinds.Plus) (is_a kinds.Minus)

-- what opens a level in front of an assertion
abbrev pub a_prefix : ℕ → Bool
a_prefix = or (is_a kinds.Not) (is_a kinds.OpenParen)

-- what opens a level of statements
abbrev pub a_compound : ℕ → Bool
a_compound = or (is_a kinds.If) (is_a kinds.While)

-- the first token of a statement
abbrev pub a_stmt : ℕ → Bool
a_stmt = or a_compound (or (is_a kinds.Await) (or (is_a kinds.Skip) a_name))

-- ---- expr, term, int

unfoldable pub leading_at : Reader Sign
leading_at tokens =
    if starts (is_a kinds.Minus) tokens then (symbol_at kinds.Minus tokens >>= λ at. Ok (Minus, at.1))
    else Ok (Plus, tokens)

unfoldable pub product_at : Reader RawFactor
product_at tokens = do
  n ← token_at value_of tokens
  name ← if_symbol_at kinds.Star (token_at name_of) n.1
  Ok (product n.0 name.0, name.1)

unfoldable pub factor_at : Reader RawFactor
factor_at tokens =
    if starts a_name tokens then (token_at name_of tokens >>= λ name. Ok (Variable name.0, name.1))
    else product_at tokens

unfoldable pub term_after_at : Reader RawTerm
term_after_at tokens = do
  sign ← token_at sign_of tokens
  factor ← factor_at sign.1
  Ok (term sign.0 factor.0, factor.1)

unfoldable pub terms_at : Reader (List RawTerm)
terms_at tokens = do
  sign ← leading_at tokens
  factor ← factor_at sign.1
  others ← many_at a_sign term_after_at factor.1
  Ok (term sign.0 factor.0 ∷ others.0, others.1)

unfoldable pub sum_at : Reader Sum
sum_at = with_place_at terms_at

unfoldable pub signed_at : Reader (Sign × ℕ)
signed_at tokens = do
  sign ← leading_at tokens
  n ← token_at value_of sign.1
  Ok ((sign.0, n.0), n.1)

unfoldable pub int_at : Reader RawInt
int_at tokens = do
  signed ← with_place_at signed_at tokens
  Ok (record { sign = signed.0.value.0; number = signed.0.value.1; span = signed.0.place }, signed.1)

-- ---- assert

unfoldable pub truth_at : Reader Assertion
truth_at tokens = do
  word ← symbol_at kinds.True tokens
  Ok (Truth, word.1)

unfoldable pub falsity_at : Reader Assertion
falsity_at tokens = do
  word ← symbol_at kinds.False tokens
  Ok (Falsity, word.1)

unfoldable pub comparison_at : Reader Assertion
comparison_at tokens = do
  left ← sum_at tokens
  relation ← token_at relation_of left.1
  right ← sum_at relation.1
  Ok (Comparison left.0 relation.0 right.0, right.1)

unfoldable pub negation_by : Reader Assertion → Reader Assertion
negation_by unit tokens = do
  word ← symbol_at kinds.Not tokens
  a ← unit word.1
  Ok (Negation a.0, a.1)

unfoldable pub in_parens_by : Reader Assertion → Reader Assertion
in_parens_by assertion tokens = do
  open_at ← symbol_at kinds.OpenParen tokens
  a ← assertion open_at.1
  close_at ← symbol_at kinds.CloseParen a.1
  Ok (a.0, close_at.1)

unfoldable pub implied_by : Reader Assertion → Assertion → Reader Assertion
implied_by assertion left tokens = do
  right ← after_at kinds.Arrow assertion tokens
  Ok (Implication left right.0, right.1)

-- what opens a level
pub record Opens : Type 0 where
  pub prefix : Reader Assertion
  pub implied : Assertion → Reader Assertion

module _ (opens : Opens) where
  unfoldable pub unit_by : Reader Assertion
  unit_by tokens =
      if starts a_prefix tokens then opens.prefix tokens
      else (if starts (is_a kinds.True) tokens then truth_at tokens
      else (if starts (is_a kinds.False) tokens then falsity_at tokens
      else comparison_at tokens))

  unfoldable pub units_by : Reader (List Assertion)
  units_by = separated_at kinds.And unit_by

  unfoldable pub conjunction_by : Reader Assertion
  conjunction_by tokens = do
    all ← units_by tokens
    Ok (conjunction all.0, all.1)

  unfoldable pub conjunctions_by : Reader (List Assertion)
  conjunctions_by = separated_at kinds.Or conjunction_by

  unfoldable pub disjunction_by : Reader Assertion
  disjunction_by tokens = do
    all ← conjunctions_by tokens
    Ok (disjunction all.0, all.1)

  unfoldable pub assertion_by : Reader Assertion
  assertion_by tokens = do
    left ← disjunction_by tokens
    if starts (is_a kinds.Arrow) left.1 then opens.implied left.0 left.1 else Ok (left.0, left.1)

unfoldable pub prefix_by : Opens → Reader Assertion
prefix_by inner tokens = if starts (is_a kinds.Not) tokens then negation_by (unit_by inner) tokens else in_parens_by (assertion_by inner) tokens

-- where at most this many levels may be open
abbrev pub opens : ℕ → Opens
opens zero = record { prefix = shut_at; implied = λ left. shut_at }
opens (suc n) = record { prefix = prefix_by (opens n); implied = implied_by (assertion_by (opens n)) }

abbrev pub assertion_at : ℕ → Reader Assertion
assertion_at n = assertion_by (opens n)

-- an assertion, and the symbol after it
unfoldable pub test_at : TokenKind → ℕ → Reader Assertion
test_at kind n tokens = do
  a ← assertion_at n tokens
  at ← symbol_at kind a.1
  Ok (a.0, at.1)

unfoldable pub braced_at : ℕ → Reader Assertion
braced_at n = after_at kinds.OpenBrace (test_at kinds.CloseBrace n)

unfoldable pub note_at : ℕ → Reader Note
note_at n = with_place_at (braced_at n)

-- ---- basic, body

unfoldable pub skip_at : Reader Basic
skip_at tokens = do
  word ← symbol_at kinds.Skip tokens
  Ok (Skip, word.1)

unfoldable pub assignment_at : Reader Basic
assignment_at tokens = do
  name ← token_at name_of tokens
  becomes ← symbol_at kinds.Assign name.1
  sum ← sum_at becomes.1
  Ok (Assign name.0 sum.0, sum.1)

unfoldable pub basic_at : Reader Basic
basic_at tokens = if starts (is_a kinds.Skip) tokens then skip_at tokens else assignment_at tokens

unfoldable pub element_at : Reader (Placed Basic)
element_at = with_place_at basic_at

unfoldable pub separated_elements_at : Reader (List (Placed Basic))
separated_elements_at = separated_at kinds.Semicolon element_at

unfoldable pub elements_at : Reader (List (Placed Basic))
elements_at tokens = do
  begin_at ← symbol_at kinds.Begin tokens
  all ← separated_elements_at begin_at.1
  end_at ← symbol_at kinds.End all.1
  Ok (all.0, end_at.1)

unfoldable pub body_at : Reader (List (Placed Basic))
body_at tokens =
    if starts (is_a kinds.Begin) tokens then elements_at tokens
    else (element_at tokens >>= λ element. Ok (element.0 ∷ [], element.1))

-- ---- stmt, block, seq

unfoldable pub await_at : ℕ → Reader Stmt
await_at n tokens = do
  word ← symbol_at kinds.Await tokens
  guard ← test_at kinds.Then n word.1
  body ← body_at guard.1
  Ok (Await guard.0 body.0, body.1)

unfoldable pub rest_of_block_by : Reader Seq → Reader Seq
rest_of_block_by seq tokens = do
  s ← seq tokens
  end_at ← symbol_at kinds.End s.1
  Ok (s.0, end_at.1)

unfoldable pub block_by : Reader Seq → Reader Seq
block_by seq tokens = do
  begin_at ← symbol_at kinds.Begin tokens
  rest_of_block_by seq begin_at.1

-- a test, the word after it, and a block
unfoldable pub tested_by : TokenKind → ℕ → Reader Seq → Reader (Assertion × Seq)
tested_by kind n seq tokens = do
  test ← test_at kind n tokens
  block ← block_by seq test.1
  Ok ((test.0, block.0), block.1)

unfoldable pub if_by : ℕ → Reader Seq → Reader Stmt
if_by n seq tokens = do
  word ← symbol_at kinds.If tokens
  tested ← tested_by kinds.Then n seq word.1
  other ← if_symbol_at kinds.Else (block_by seq) tested.1
  Ok (choice tested.0.0 tested.0.1 other.0, other.1)

unfoldable pub while_by : ℕ → Reader Seq → Reader Stmt
while_by n seq tokens = do
  word ← symbol_at kinds.While tokens
  tested ← tested_by kinds.Do n seq word.1
  Ok (While tested.0.0 tested.0.1, tested.1)

unfoldable pub compound_by : ℕ → Reader Seq → Reader Stmt
compound_by n seq tokens = if starts (is_a kinds.If) tokens then if_by n seq tokens else while_by n seq tokens

module _ (n : ℕ) (awaits : Bool) where
  module _ (compound : Reader Stmt) where
    unfoldable pub stmt_by : Reader Stmt
    stmt_by tokens =
        if starts a_compound tokens then compound tokens
        else (if awaits && starts (is_a kinds.Await) tokens then await_at n tokens
        else (basic_at tokens >>= λ basic. Ok (Simple basic.0, basic.1)))

    unfoldable pub step_by : Reader Step
    step_by tokens = do
      stmt ← with_place_at stmt_by tokens
      after ← note_at n stmt.1
      Ok (record { stmt = stmt.0; after = after.0 }, after.1)

    unfoldable pub seq_by : Reader Seq
    seq_by tokens = do
      before ← note_at n tokens
      first ← step_by before.1
      others ← many_at a_stmt step_by first.1
      Ok (sequence before.0 (first.0 ∷ others.0), others.1)

  abbrev pub compound_at : ℕ → Reader Stmt
  compound_at zero = shut_at
  compound_at (suc k) = compound_by n (seq_by (compound_at k))

  abbrev pub seq_at : ℕ → Reader Seq
  seq_at k = seq_by (compound_at k)

-- ---- outline

unfoldable pub aux_at : Reader RawAux
aux_at tokens = do
  name ← token_at name_of tokens
  equals ← symbol_at kinds.Equal name.1
  value ← int_at equals.1
  Ok (record { name = name.0; value = value.0 }, value.1)

unfoldable pub names_at : Reader (List RawName)
names_at = separated_at kinds.Comma (token_at name_of)

unfoldable pub auxes_at : Reader (List RawAux)
auxes_at = separated_at kinds.Comma aux_at

unfoldable pub listed_by : {X : Type 0} → Reader (List X) → Reader (List X)
listed_by list tokens = do
  all ← list tokens
  end_at ← symbol_at kinds.Semicolon all.1
  Ok (all.0, end_at.1)

unfoldable pub main_at : ℕ → Reader (Option Seq)
main_at n = if_symbol_at kinds.Begin (rest_of_block_by (seq_at n false n))

unfoldable pub processes_at : ℕ → Reader (List Seq)
processes_at n = separated_at kinds.Parallel (seq_at n true n)

-- a declaration
unfoldable pub declarations_at : Reader (List RawName × List RawAux)
declarations_at tokens = do
  vars ← if_symbol_at kinds.Var (listed_by names_at) tokens
  auxes ← if_symbol_at kinds.Aux (listed_by auxes_at) vars.1
  Ok ((unwrap_or vars.0 [], unwrap_or auxes.0 []), auxes.1)

unfoldable pub opening_at : ℕ → Reader (Note × Option Seq)
opening_at n tokens = do
  pre ← note_at n tokens
  prologue ← main_at n pre.1
  Ok ((pre.0, prologue.0), prologue.1)

unfoldable pub front_at : ℕ → Reader Front
front_at n tokens = do
  declared ← declarations_at tokens
  opening ← opening_at n declared.1
  Ok (record { vars = declared.0.0; auxes = declared.0.1; pre = opening.0.0; prologue = opening.0.1 }, opening.1)

unfoldable pub cobegin_at : ℕ → Reader (Span × List Seq)
cobegin_at n tokens = do
  cobegin ← symbol_at kinds.Cobegin tokens
  processes ← processes_at n cobegin.1
  coend ← symbol_at kinds.Coend processes.1
  Ok ((cobegin.0, processes.0), coend.1)

unfoldable pub closing_at : ℕ → Reader (Option Seq × Note)
closing_at n tokens = do
  epilogue ← main_at n tokens
  post ← note_at n epilogue.1
  Ok ((epilogue.0, post.0), post.1)

unfoldable pub back_at : ℕ → Reader Back
back_at n tokens = do
  middle ← cobegin_at n tokens
  closing ← closing_at n middle.1
  Ok (record { cobegin = middle.0.0; processes = middle.0.1; epilogue = closing.0.0; post = closing.0.1 }, closing.1)

unfoldable pub outline_at : ℕ → Reader Outline
outline_at n tokens = do
  front ← front_at n tokens
  back ← back_at n front.1
  Ok (joined front.0 back.0, back.1)
