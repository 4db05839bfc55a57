-- The conditions of a block of statements within a statement.
use Rattle.std.specs.Prelude.{ℕ, List, [], ◌∷◌, ◌++◌}
use Rattle.og_typed.specs.Syntax.{Formula, Sequence, last_of}
use Rattle.og_typed.specs.Pieces.{first_of}
use Rattle.og_typed.specs.Plain.{formula}
use Rattle.og_cond.specs.Condition.{Condition, Yes, Is}
use Rattle.og_cond.specs.Conditions.{gives, seq_conditions}
use Rattle.og_cond.specs.Seen.{part_of}
use Rattle.og_cond.specs.declared.local.Block.{Block}

-- it is entered from this assertion; then come its own; and its last assertion leads to the goal
abbrev pub block_conditions : ℕ → Sequence → ℕ → Formula → Block → List Condition
block_conditions n seq at before block =
    gives n block.enters at (Is (Yes before) ∷ Is (part_of block.test) ∷ []) (first_of seq).assertion
    ∷ (seq_conditions n seq
    ++ gives n block.leads (last_of seq).at (Is (Yes (last_of seq).assertion) ∷ []) (formula block.goal.now)
    ∷ [])
