-- What names stand for.
use Rattle.std.specs.Prelude.{ℕ, ℤ, List, [], ◌∷◌, ◌++◌, Option, Some, None, Ok, if◌then◌else◌}
use Rattle.std.specs.Str.{bytes_eq}
use Rattle.std.specs.Map.{lookup}
use Rattle.og_parse.specs.declared.raw.RawName.{RawName}
use Rattle.og_template.specs.declared.fault.FaultKind.TheVariants.{Undeclared, WrongKind}
use Rattle.og_template_expand.specs.Trees.{Definition}
use Rattle.og_template_expand.specs.Answer.{Checked, ◌>>=◌, refused}

-- `count` numbers from the lowest on
pub record Range : Type 0 where
  pub low : ℕ
  pub count : ℕ

pub data Meaning : Type 0 where
  Value : ℤ → Meaning
  Variable : Meaning
  Family : Range → Meaning
  Defined : Definition → Meaning

abbrev pub Names : Type 0
Names = List (List ℕ × Meaning)

-- a name, and the number that it is bound to
abbrev pub Bound : Type 0
Bound = List ℕ × ℤ

-- the declared names, and the parameters and bound names, from the outside
pub record Scope : Type 0 where
  pub declared : Names
  pub bound : List Bound

-- what the last binding of a name gives, or else this
abbrev pub last_value : Option ℤ → List Bound → List ℕ → Option ℤ
last_value found [] name = found
last_value found (b ∷ others) name =
    last_value (if bytes_eq b.0 name then Some b.1 else found) others name

abbrev pub meaning_as : Option ℤ → Option Meaning → RawName → Checked Meaning
meaning_as (Some v) declared name = Ok (Value v)
meaning_as None (Some m) name = Ok m
meaning_as None None name = refused Undeclared name.span

abbrev pub meaning_of : Scope → RawName → Checked Meaning
meaning_of scope name = meaning_as (last_value None scope.bound name.name)
    (lookup (bytes_eq name.name) scope.declared) name

-- the number, the family or the assertion, or 71
abbrev pub number_as : RawName → Meaning → Checked ℤ
number_as name (Value v) = Ok v
number_as name _ = refused WrongKind name.span

abbrev pub family_as : RawName → Meaning → Checked Range
family_as name (Family range) = Ok range
family_as name _ = refused WrongKind name.span

abbrev pub defined_as : RawName → Meaning → Checked Definition
defined_as name (Defined d) = Ok d
defined_as name _ = refused WrongKind name.span

abbrev pub number_of : Scope → RawName → Checked ℤ
number_of scope name = meaning_of scope name >>= number_as name

abbrev pub family_of : Scope → RawName → Checked Range
family_of scope name = meaning_of scope name >>= family_as name

abbrev pub defined_of : Scope → RawName → Checked Definition
defined_of scope name = meaning_of scope name >>= defined_as name

-- the names with one more; one that is declared anew keeps its place
abbrev pub declared_with : List ℕ → Meaning → Names → Names
declared_with name m [] = (name, m) ∷ []
declared_with name m (n ∷ others) =
    if bytes_eq name n.0 then (n.0, m) ∷ others else n ∷ declared_with name m others

-- the scope with one more name, which is bound to a number
abbrev pub bound_to : Scope → List ℕ → ℤ → Scope
bound_to scope name value =
    record { declared = scope.declared; bound = scope.bound ++ (name, value) ∷ [] }
