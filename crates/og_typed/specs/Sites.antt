-- All assertions and all statements of an outline, with where they stand.
use Rattle.std.specs.Prelude.{ℕ, ◌+◌, List, [], ◌∷◌, ◌++◌, Option, Some, None}
use Rattle.og_typed.specs.Syntax.{Noted, Statement, Skip, Assign, If, While, Await, Otherwise, Nothing, Else, Sequence, Last, Then, Program}
use Rattle.og_typed.specs.Pieces.{Piece, first_of}
use Rattle.og_typed.specs.declared.sites.Part.{Part}
use Rattle.og_typed.specs.declared.sites.Part.TheVariants as parts

pub record NoteSite : Type 0 where
  pub note : Noted
  pub part : Part
  -- where the process goes on, for the last assertion of a branch or a body
  pub leads : Option Noted

pub record StatementSite : Type 0 where
  -- the statement, its place, and the assertion before it
  pub piece : Piece
  pub part : Part
  -- the assertion after it
  pub after : Noted

-- ---- of a part, in text order

module _ (part : Part) where
  abbrev mutual
    -- the last assertion leads on to another one, if there is one
    pub note_sites : Option Noted → Sequence → List NoteSite
    note_sites leads (Last note) = record { note = note; part = part; leads = leads } ∷ []
    note_sites leads (Then before stmt at rest) = item_notes before stmt (first_of rest) ++ note_sites leads rest

    -- the assertion before a statement, and those in it: a branch leads to the one after it, a body to the one before it
    pub item_notes : Noted → Statement → Noted → List NoteSite
    item_notes before Skip after = record { note = before; part = part; leads = None } ∷ []
    item_notes before (Assign x e) after = record { note = before; part = part; leads = None } ∷ []
    item_notes before (If b branch other) after =
        record { note = before; part = part; leads = None } ∷ (note_sites (Some after) branch ++ else_notes other after)
    item_notes before (While b body) after = record { note = before; part = part; leads = None } ∷ note_sites (Some before) body
    item_notes before (Await b body) after = record { note = before; part = part; leads = None } ∷ []

    pub else_notes : Otherwise → Noted → List NoteSite
    else_notes Nothing after = []
    else_notes (Else branch) after = note_sites (Some after) branch

  -- a statement between two assertions
  abbrev pub site : Noted → Statement → ℕ → Noted → StatementSite
  site before stmt at after = record { piece = record { before = before; stmt = stmt; at = at }; part = part; after = after }

  abbrev mutual
    pub statement_sites : Sequence → List StatementSite
    statement_sites (Last note) = []
    statement_sites (Then before stmt at rest) = item_statements before stmt at (first_of rest) ++ statement_sites rest

    -- a statement, and those in it
    pub item_statements : Noted → Statement → ℕ → Noted → List StatementSite
    item_statements before Skip at after = site before Skip at after ∷ []
    item_statements before (Assign x e) at after = site before (Assign x e) at after ∷ []
    item_statements before (If b branch other) at after =
        site before (If b branch other) at after ∷ (statement_sites branch ++ else_statements other)
    item_statements before (While b body) at after = site before (While b body) at after ∷ statement_sites body
    item_statements before (Await b body) at after = site before (Await b body) at after ∷ []

    pub else_statements : Otherwise → List StatementSite
    else_statements Nothing = []
    else_statements (Else branch) = statement_sites branch

-- ---- of an outline

module _ {S : Type 0} (sites : Part → Sequence → List S) where
  -- of a part that may be absent
  abbrev pub of_main : Part → Option Sequence → List S
  of_main part None = []
  of_main part (Some q) = sites part q

  -- of processes, numbered on
  abbrev pub of_processes : ℕ → List Sequence → List S
  of_processes n [] = []
  of_processes n (q ∷ qs) = sites (parts.Process n) q ++ of_processes (n + 1) qs

  -- prologue, processes, epilogue
  abbrev pub of_program : Program → List S
  of_program o = of_main parts.Prologue o.prologue ++ (of_processes 0 o.processes ++ of_main parts.Epilogue o.epilogue)

-- every assertion but the precondition and the postcondition
abbrev pub all_notes : Program → List NoteSite
all_notes = of_program (λ part. note_sites part None)

-- every statement outside awaits
abbrev pub all_statements : Program → List StatementSite
all_statements = of_program statement_sites
