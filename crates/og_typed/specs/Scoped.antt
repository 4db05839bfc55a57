-- What the program's scopes stand for.
use Rattle.og_typed.specs.declared.scope.Scope.{Scope}
use Rattle.og_typed.specs.declared.scope.Use.{Use}
use Rattle.og_typed.specs.declared.scope.Use.TheVariants as usage
use Rattle.og_typed.specs.Resolved as meaning

abbrev pub scope_of : Scope → meaning.Scope
scope_of s = record { names = s.names; vars = s.vars }

abbrev pub use_of : Use → meaning.Use
use_of usage.Outer = meaning.Outer
use_of usage.Visible = meaning.Visible
use_of usage.Free = meaning.Free
