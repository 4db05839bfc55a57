-- A program without its auxiliary variables: those from number n on.
use Rattle.std.specs.Prelude.{ℕ, [], ◌∷◌, map, filter, take, Bool, true, false, if◌then◌else◌, nat_lt, nat_le, option_map}
use Rattle.og_typed.specs.Syntax.{True, Noted, Simple, Pass, Set, Statement, Skip, Assign, If, While, Await, Otherwise, Nothing, Else, Sequence, Last, Then, Program, Rest}
use Rattle.og_typed.specs.Machine.{Moment}

abbrev pub is_aux_assign : ℕ → Statement → Bool
is_aux_assign n (Assign x e) = nat_le n x
is_aux_assign n _ = false

abbrev pub is_kept : ℕ → Simple → Bool
is_kept n Pass = true
is_kept n (Set x e) = nat_lt x n

-- ---- the erased program

abbrev pub blank : Noted → Noted
blank note = record { assertion = True; at = note.at }

abbrev mutual
  pub erase_seq : ℕ → Sequence → Sequence
  erase_seq n (Last note) = Last (blank note)
  erase_seq n (Then before stmt at rest) =
      if is_aux_assign n stmt then erase_seq n rest else Then (blank before) (erase_stmt n stmt) at (erase_seq n rest)

  pub erase_stmt : ℕ → Statement → Statement
  erase_stmt n Skip = Skip
  erase_stmt n (Assign x e) = Assign x e
  erase_stmt n (If b branch other) = If b (erase_seq n branch) (erase_else n other)
  erase_stmt n (While b body) = While b (erase_seq n body)
  erase_stmt n (Await b body) = Await b (filter (is_kept n) body)

  pub erase_else : ℕ → Otherwise → Otherwise
  erase_else n Nothing = Nothing
  erase_else n (Else branch) = Else (erase_seq n branch)

abbrev pub erased : Program → Program
erased o = record {
  names = take o.vars o.names;
  vars = o.vars;
  aux_values = [];
  pre = o.pre;
  prologue = option_map (erase_seq o.vars) o.prologue;
  processes = map (erase_seq o.vars) o.processes;
  epilogue = option_map (erase_seq o.vars) o.epilogue;
  post = o.post;
  cobegin_at = o.cobegin_at;
}

abbrev pub erase_rest : ℕ → Rest → Rest
erase_rest n [] = []
erase_rest n (head ∷ rest) = if is_aux_assign n head.1 then erase_rest n rest else (True, erase_stmt n head.1) ∷ erase_rest n rest

-- the moment of the erased program: the vars alone, and the rests without the erased statements
abbrev pub project : ℕ → Moment → Moment
project n m =
    record { state = take n m.state; prologue = erase_rest n m.prologue; rests = map (erase_rest n) m.rests; epilogue = erase_rest n m.epilogue }
