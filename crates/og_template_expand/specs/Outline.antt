-- The outline that a template means, under values of its constants.
use Rattle.std.specs.Prelude.{ℕ, ℤ, List, [], ◌∷◌, ◌++◌, map, unsigned_abs, Option, Some, None, Ok, if◌then◌else◌}
use Rattle.std.specs.Str.{bytes_eq}
use Rattle.og_text.specs.declared.place.Span.{Span}
use Rattle.og_parse.specs.declared.raw.RawName.{RawName}
use Rattle.og_parse.specs.declared.raw.RawAux.{RawAux}
use Rattle.og_parse.specs.Trees as outline
use Rattle.og_template.specs.declared.fault.FaultKind.TheVariants.{NothingLeft}
use Rattle.og_template_expand.specs.Trees as template
use Rattle.og_template_expand.specs.Answer.{Checked, ◌>>=◌, refused, gathered}
use Rattle.og_template_expand.specs.Scope.{Bound, Names, Scope, Range, Meaning, Value, Variable, Family, Defined, declared_with}
use Rattle.og_template_expand.specs.Values.{value_of}
use Rattle.og_template_expand.specs.Ranges.{range_of, numbers_of, instances}
use Rattle.og_template_expand.specs.Sums.{sign_of, element_name}
use Rattle.og_template_expand.specs.Statements.{note_of, sequence_of}

-- what is declared, and no bound name
abbrev pub top : Names → Scope
top names = record { declared = names; bound = [] }

-- ---- constants

-- the value that is given to a name, if one is
abbrev pub given_to : List ℕ → List Bound → Option ℤ
given_to name [] = None
given_to name (b ∷ others) = if bytes_eq b.0 name then Some b.1 else given_to name others

abbrev pub constant_as : Option ℤ → Names → template.Expression → Checked ℤ
constant_as (Some v) names value = Ok v
constant_as None names value = value_of (top names) value

-- each constant has the value that is given, and else its own
abbrev pub constants_in : List Bound → Names → List template.Constant → Checked Names
constants_in values names [] = Ok names
constants_in values names (c ∷ others) =
    constant_as (given_to c.name.name values) names c.value
    >>= λ v. constants_in values (declared_with c.name.name (Value v) names) others

-- ---- variables

abbrev pub one_element : RawName → ℤ → Checked (List RawName)
one_element name index = element_name name index >>= λ n. Ok (n ∷ [])

-- the elements of a family, in order
abbrev pub elements_of : RawName → Range → Checked (List RawName)
elements_of name range = gathered (one_element name) (numbers_of range)

-- the variables that a name declares, and what it stands for
abbrev pub variables_of : Names → RawName → Option template.Bounds
    → Checked (List RawName × Meaning)
variables_of names name None = Ok (name ∷ [], Variable)
variables_of names name (Some bounds) = do
  range ← range_of (top names) bounds
  all ← elements_of name range
  Ok (all, Family range)

abbrev pub variables_in : Names → List template.Variable → Checked (Names × List RawName)
variables_in names [] = Ok (names, [])
variables_in names (v ∷ others) = do
  own ← variables_of names v.name v.family
  rest ← variables_in (declared_with v.name.name own.1 names) others
  Ok (rest.0, own.0 ++ rest.1)

abbrev pub auxiliary : ℤ → RawName → RawAux
auxiliary value name = record {
  name = name;
  value = record { sign = sign_of value; number = unsigned_abs value; span = name.span };
}

-- the initial value is evaluated once, behind the elements
abbrev pub auxiliaries_in : Names → List template.Auxiliary → Checked (Names × List RawAux)
auxiliaries_in names [] = Ok (names, [])
auxiliaries_in names (a ∷ others) = do
  own ← variables_of names a.name a.family
  value ← value_of (top names) a.value
  rest ← auxiliaries_in (declared_with a.name.name own.1 names) others
  Ok (rest.0, map (auxiliary value) own.0 ++ rest.1)

abbrev pub named_in : Names → List template.Definition → Names
named_in names [] = names
named_in names (d ∷ others) = named_in (declared_with d.name.name (Defined d) names) others

-- ---- outlines

abbrev pub main_of : Scope → Option template.Sequence → Checked (Option outline.Seq)
main_of scope None = Ok None
main_of scope (Some body) = sequence_of scope body >>= λ q. Ok (Some q)

abbrev pub one_process : template.Sequence → Scope → Checked (List outline.Seq)
one_process body scope = sequence_of scope body >>= λ q. Ok (q ∷ [])

abbrev pub process_by : Scope → Option template.Binder → template.Sequence
    → Checked (List outline.Seq)
process_by scope None body = one_process body scope
process_by scope (Some binder) body = instances scope binder (one_process body)

abbrev pub process_of : Scope → template.Process → Checked (List outline.Seq)
process_of scope p = process_by scope p.binder p.body

-- no process at all is 79, at `cobegin`
abbrev pub some_of : Span → List outline.Seq → Checked (List outline.Seq)
some_of cobegin [] = refused NothingLeft cobegin
some_of cobegin (q ∷ others) = Ok (q ∷ others)

abbrev pub processes_of : Scope → Span → List template.Process → Checked (List outline.Seq)
processes_of scope cobegin processes = gathered (process_of scope) processes >>= some_of cobegin

abbrev pub outline_in : Scope → template.Template → List RawName → List RawAux
    → Checked outline.Outline
outline_in scope t vars auxes = do
  pre ← note_of scope t.pre
  prologue ← main_of scope t.prologue
  processes ← processes_of scope t.cobegin t.processes
  epilogue ← main_of scope t.epilogue
  post ← note_of scope t.post
  Ok (record {
    vars = vars;
    auxes = auxes;
    pre = pre;
    prologue = prologue;
    cobegin = t.cobegin;
    processes = processes;
    epilogue = epilogue;
    post = post;
  })

-- the outline of a template where constants have the values that are given, or its first fault
abbrev pub outline_by : template.Template → List Bound → Checked outline.Outline
outline_by t values = do
  constants ← constants_in values [] t.constants
  vars ← variables_in constants t.variables
  auxes ← auxiliaries_in vars.0 t.auxiliaries
  outline_in (top (named_in auxes.0 t.named)) t vars.1 auxes.1
