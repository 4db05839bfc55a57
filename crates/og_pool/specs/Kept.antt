-- What a worker keeps.
use Rattle.std.specs.Prelude.{◌≡◌, ◌<◌, ◌≤◌, ℕ, List, length, Option, Some, None, ⊤, slice_get}
use Rattle.std.specs.List.{All}
use Rattle.og_cond.specs.declared.condition.Condition.{Condition}
use Rattle.og_subst.specs.Actions.{action_tree}
use Rattle.og_subst.specs.declared.action.Action.{Action}
use Rattle.og_facts.specs.Answer.{IsPrepared}
use Rattle.og_cert_text.specs.declared.file.CertFile.{CertFile}
use Rattle.og_pool.specs.declared.checks.Kept.{Kept}
use Rattle.og_pool.specs.declared.checks.Last.{Last}
use Rattle.og_pool.specs.declared.replays.Replayed.{Replayed}
use Rattle.og_pool.specs.Numbered.{status_of}

-- ---- a map

-- the map is prepared from the action of the condition at its index
abbrev pub IsLast : List Condition → Last → Type 0
IsLast cs last = (c : Condition) × (slice_get cs last.index ≡ Some c) × IsPrepared c.action last.map

-- the condition at this index has an action, which is equal to this one
abbrev pub IsOfEqual : List Condition → ℕ → Action → Type 0
IsOfEqual cs index action = (c : Condition) × (before : Action) × (slice_get cs index ≡ Some c) × (c.action ≡ Some before) × (action_tree before ≡ action_tree action)

-- the value kept, if there is one, is such a map
abbrev pub KeepsMap : List Condition → Option Last → Type 0
KeepsMap cs None = ⊤
KeepsMap cs (Some last) = IsLast cs last

-- ---- replays

-- there is a condition of this number, and it has this status
abbrev pub IsKnown : List Condition → CertFile → Replayed → Type 0
IsKnown cs file r = (0 < r.number) × (r.number ≤ length cs) × (r.status ≡ status_of cs file r.number)

-- ---- both

abbrev pub Keeps : List Condition → CertFile → Kept → Type 0
Keeps cs file kept = KeepsMap cs kept.last × All (IsKnown cs file) kept.replays.items
