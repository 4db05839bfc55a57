-- The rest of a process as a chain: each statement leads from its assertion to the next one.
use Rattle.std.proofs.Common.{◌≡◌, ℕ, ℤ, List, [], ◌∷◌, ◌++◌, true, IfSome, refl, subst}
use Rattle.og_typed.specs.Syntax.{Formula, Statement, Sequence, Last, Then, Rest, items, last_of}
use Rattle.og_typed.specs.Pieces.{first_of, Piece, pieces, pieces_of_stmt}
use Rattle.og_linear.specs.Linear.{IsProper}
use Rattle.og_typed.specs.Truth.{truth}
use Rattle.og_typed.specs.Machine.{head_or}
use Rattle.og_cond.specs.Valid.{IsValid, AreValid}
use Rattle.og_cond.specs.Conditions.{Action, stmt_action, stmt_conditions, seq_conditions}
use Rattle.og_typed.proofs.Each.{Each, each_left, each_right}

-- in a proper state, where a is true so is b
abbrev pub Gives : Formula → Formula → Type 0
Gives a b = (s : List ℤ) → IsProper s → truth a s ≡ true → truth b s ≡ true

pub gives_itself : (a b : Formula) → a ≡ b → Gives a b
gives_itself a b e s proper h = subst (λ c. truth c s ≡ true) e h

pub gives_on : (a b c : Formula) → Gives a b → Gives b c → Gives a c
gives_on a b c f g s proper h = g s proper (f s proper h)

-- IsHead holds of each statement and the assertion before it, IsAction of each action
module _ (IsHead : Formula → Statement → Type 0) (IsAction : Action → Type 0) where
  abbrev pub IsKnown : Piece → Type 0
  IsKnown piece = IsHead piece.before.assertion piece.stmt × IfSome (stmt_action piece.before.assertion piece.at piece.stmt) IsAction

  -- the statement leads from one assertion to the other, and what it holds is known
  pub record Leads (before : Formula) (stmt : Statement) (after : Formula) : Type 0 where
    pub at : ℕ
    -- how many variables the outline has
    pub variables : ℕ
    pub valid : AreValid (stmt_conditions variables before at stmt after)
    pub head : IsHead before stmt
    pub action : IfSome (stmt_action before at stmt) IsAction
    pub below : Each IsKnown (pieces_of_stmt stmt)

  abbrev pub Chain : Rest → Formula → Type 0
  Chain [] last = Unit {0}
  Chain (head ∷ rest) last = (after : Formula) × Leads head.0 head.1 after × Gives after (head_or rest last) × Chain rest last

  pub head_append : (a b last : Formula) (xs rest : Rest) → Gives a (head_or xs b) → Gives b (head_or rest last) → Gives a (head_or (xs ++ rest) last)
  head_append a b last [] rest f g = gives_on a b (head_or rest last) f g
  head_append a b last (x ∷ xs) rest f g = f

  -- the last assertion of a sequence gives the next one that is reached
  pub chain_append : (xs rest : Rest) (b last : Formula) → Chain xs b → Gives b (head_or rest last) → Chain rest last → Chain (xs ++ rest) last
  chain_append [] rest b last c g d = d
  chain_append (x ∷ xs) rest b last c g d = (c.0, c.1, head_append c.0 b last xs rest c.2 g, chain_append xs rest b last c.3 g d)

  pub seq_first : (body : Sequence) → (first_of body).assertion ≡ head_or (items body) (last_of body).assertion
  seq_first (Last note) = refl
  seq_first (Then before stmt at rest) = refl

  pub seq_chain : (n : ℕ) (body : Sequence) → AreValid (seq_conditions n body) → Each IsKnown (pieces body) → Chain (items body) (last_of body).assertion
  seq_chain n (Last note) valid known = tt
  seq_chain n (Then before stmt at rest) valid known =
      let after = (first_of rest).assertion in
      let cs = stmt_conditions n before.assertion at stmt after in (
        after,
        record {
          at = at;
          variables = n;
          valid = each_left IsValid cs (seq_conditions n rest) valid;
          head = known.0.0;
          action = known.0.1;
          below = each_left IsKnown (pieces_of_stmt stmt) (pieces rest) known.1;
        },
        gives_itself after (head_or (items rest) (last_of rest).assertion) (seq_first rest),
        seq_chain n rest (each_right IsValid cs (seq_conditions n rest) valid) (each_right IsKnown (pieces_of_stmt stmt) (pieces rest) known.1),
      )
