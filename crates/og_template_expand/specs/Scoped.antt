-- What the program's results and scopes stand for.
use Rattle.std.specs.Prelude.{◌≡◌, ⊤, map, Result, Ok, Err}
use Rattle.og_template_expand.specs.declared.fault.Stop.{Stop}
use Rattle.og_template_expand.specs.declared.fault.Stop.TheVariants as stops
use Rattle.og_template_expand.specs.declared.origin.Binding.{Binding}
use Rattle.og_template_expand.specs.declared.range.Range.{Range}
use Rattle.og_template_expand.specs.declared.scope.Meaning.{Meaning}
use Rattle.og_template_expand.specs.declared.scope.Meaning.TheVariants as meanings
use Rattle.og_template_expand.specs.declared.scope.Names.{Names}
use Rattle.og_template_expand.specs.declared.scope.Scope.{Scope}
use Rattle.og_template_expand.specs.TreeOf.{definition_of}
use Rattle.og_template_expand.specs.Answer.{Checked}
use Rattle.og_template_expand.specs.Scope as scope
use Rattle.og_template_expand.specs.declared.sums.Operand.{Operand}
use Rattle.og_template_expand.specs.declared.sums.Operand.TheVariants as operands
use Rattle.og_template_expand.specs.Sums as sums

-- the steps or the statements are spent
abbrev pub IsSpent : Stop → Type 0
IsSpent stops.Memory = ⊥
IsSpent (stops.Spent fault) = ⊤
IsSpent (stops.Fault fault) = ⊥

-- the stop is the answer's fault; or memory, the steps or the statements ran out
abbrev pub FailsAs : {Y : Type 0} → Stop → Checked Y → Type 0
FailsAs stops.Memory answer = ⊤
FailsAs (stops.Spent fault) answer = ⊤
FailsAs (stops.Fault fault) answer = answer ≡ Err fault

-- the result, seen by view, is the answer; or memory, the steps or the statements ran out
abbrev pub IsExpanded : {X Y : Type 0} → (X → Y) → Result X Stop → Checked Y → Type 0
IsExpanded view (Ok x) answer = answer ≡ Ok (view x)
IsExpanded view (Err e) answer = FailsAs e answer

abbrev pub binding_of : Binding → scope.Bound
binding_of b = (b.name.now, b.value)

abbrev pub range_of : Range → scope.Range
range_of r = record { low = r.low; count = r.count }

abbrev pub meaning_of : Meaning → scope.Meaning
meaning_of (meanings.Value v) = scope.Value v
meaning_of meanings.Variable = scope.Variable
meaning_of (meanings.Family r) = scope.Family (range_of r)
meaning_of (meanings.Named n) = scope.Defined (definition_of n.now)

abbrev pub names_of : Names → scope.Names
names_of names = map (λ e. (e.0.now, meaning_of e.1)) names.map.entries

abbrev pub scope_of : Scope → scope.Scope
scope_of s = record { declared = names_of s.names.now; bound = map binding_of s.bound.items }

abbrev pub operand_view : Operand → sums.Operand
operand_view (operands.Number sign n) = sums.Whole sign n
operand_view (operands.Variable name) = sums.Of name
