-- Trees without their places.
use Rattle.std.specs.Prelude.{map, option_map}
use Rattle.og_text.specs.declared.place.Span.{Span}
use Rattle.og_parse.specs.Language.{Placed}
use Rattle.og_parse.specs.declared.raw.RawName.{RawName}
use Rattle.og_parse.specs.declared.raw.RawInt.{RawInt}
use Rattle.og_parse.specs.declared.raw.RawAux.{RawAux}
use Rattle.og_parse.specs.declared.raw.RawFactor.{RawFactor}
use Rattle.og_parse.specs.declared.raw.RawFactor.TheVariants as factors
use Rattle.og_parse.specs.declared.raw.RawTerm.{RawTerm}
use Rattle.og_parse.specs.Trees.{Sum, Assertion, Assertions, Truth, Falsity, Comparison, Negation, Conjunction, Disjunction, Implication, none, more, Note, Basic, Skip, Assign, Stmt, Simple, If, IfElse, While, Await, Seq, item, finish, Outline}

-- the place 0..0
abbrev pub nowhere : Span
nowhere = record { start = 0; end = 0 }

-- without its place, and with its value made plain
abbrev pub placed : {X : Type 0} → (X → X) → Placed X → Placed X
placed f x = record { place = nowhere; value = f x.value }

abbrev pub plain_name : RawName → RawName
plain_name x = record { name = x.name; span = nowhere }

abbrev pub plain_factor : RawFactor → RawFactor
plain_factor (factors.Number n) = factors.Number n
plain_factor (factors.Variable x) = factors.Variable (plain_name x)
plain_factor (factors.Product n x) = factors.Product n (plain_name x)

abbrev pub plain_term : RawTerm → RawTerm
plain_term t = record { sign = t.sign; factor = plain_factor t.factor }

abbrev pub plain_sum : Sum → Sum
plain_sum = placed (map plain_term)

abbrev mutual
  pub plain_assertion : Assertion → Assertion
  plain_assertion Truth = Truth
  plain_assertion Falsity = Falsity
  plain_assertion (Comparison left relation right) = Comparison (plain_sum left) relation (plain_sum right)
  plain_assertion (Negation a) = Negation (plain_assertion a)
  plain_assertion (Conjunction all) = Conjunction (plain_assertions all)
  plain_assertion (Disjunction all) = Disjunction (plain_assertions all)
  plain_assertion (Implication left right) = Implication (plain_assertion left) (plain_assertion right)

  pub plain_assertions : Assertions → Assertions
  plain_assertions none = none
  plain_assertions (more a others) = more (plain_assertion a) (plain_assertions others)

abbrev pub plain_note : Note → Note
plain_note = placed plain_assertion

abbrev pub plain_basic : Basic → Basic
plain_basic Skip = Skip
plain_basic (Assign x sum) = Assign (plain_name x) (plain_sum sum)

abbrev mutual
  pub plain_stmt : Stmt → Stmt
  plain_stmt (Simple basic) = Simple (plain_basic basic)
  plain_stmt (If test first) = If (plain_assertion test) (plain_seq first)
  plain_stmt (IfElse test first other) = IfElse (plain_assertion test) (plain_seq first) (plain_seq other)
  plain_stmt (While test body) = While (plain_assertion test) (plain_seq body)
  plain_stmt (Await guard body) = Await (plain_assertion guard) (map (placed plain_basic) body)

  pub plain_seq : Seq → Seq
  plain_seq (item before place stmt rest) = item (plain_note before) nowhere (plain_stmt stmt) (plain_seq rest)
  plain_seq (finish last) = finish (plain_note last)

abbrev pub plain_int : RawInt → RawInt
plain_int i = record { sign = i.sign; number = i.number; span = nowhere }

abbrev pub plain_aux : RawAux → RawAux
plain_aux a = record { name = plain_name a.name; value = plain_int a.value }

-- the outline with every place 0..0
abbrev pub plain : Outline → Outline
plain o = record {
  vars = map plain_name o.vars;
  auxes = map plain_aux o.auxes;
  pre = plain_note o.pre;
  prologue = option_map plain_seq o.prologue;
  cobegin = nowhere;
  processes = map plain_seq o.processes;
  epilogue = option_map plain_seq o.epilogue;
  post = plain_note o.post;
}
