-- What values of the program stand for.
use Rattle.std.specs.Prelude.{◌≡◌, ℕ, List, ◌++◌, Option, None, Some, map, slice_get, option_map}
use Rattle.og_typed.specs.Syntax.{Noted, Sequence, Program}
use Rattle.og_typed.specs.Plain.{noted, statement}
use Rattle.og_typed.specs.declared.statement.Note.{Note}
use Rattle.og_typed.specs.declared.statement.Item.{Item}
use Rattle.og_typed.specs.declared.sites.Part.{Part}
use Rattle.og_typed.specs.declared.sites.NoteSite.{NoteSite}
use Rattle.og_typed.specs.declared.sites.StatementSite.{StatementSite}
use Rattle.og_typed.specs.declared.collecting.Sites.{Sites}
use Rattle.og_typed.specs.Sites as plain
use denote.Ref.{Bor}

abbrev pub leads_of : Option (Bor Note) → Option Noted
leads_of = option_map (λ note. noted note.now)

abbrev pub note_of : NoteSite → plain.NoteSite
note_of site = record { note = noted site.note.now; part = site.part; leads = leads_of site.leads }

abbrev pub statement_of : StatementSite → plain.StatementSite
statement_of site = record {
  piece = record { before = noted site.item.now.before; stmt = statement site.item.now.stmt; at = site.item.now.at };
  part = site.part;
  after = noted site.after.now;
}

-- it is one of the list
abbrev pub IsOneOf : {S : Type 0} → List S → S → Type 0
IsOneOf sites site = (i : ℕ) × (slice_get sites i ≡ Some site)

-- ---- the addition at the end of both lists

abbrev pub Gains : Sites → Sites → List plain.NoteSite → List plain.StatementSite → Type 0
Gains old new notes statements =
    (map note_of new.notes.items ≡ map note_of old.notes.items ++ notes)
    × (map statement_of new.statements.items ≡ map statement_of old.statements.items ++ statements)

abbrev pub Adds : Sites → Sites → Part → Option Noted → Sequence → Type 0
Adds old new part leads q = Gains old new (plain.note_sites part leads q) (plain.statement_sites part q)

-- a statement before this assertion
abbrev pub AddsItem : Sites → Sites → Part → Item → Noted → Type 0
AddsItem old new part item after =
    Gains old new
    (plain.item_notes part (noted item.before) (statement item.stmt) after)
    (plain.item_statements part (noted item.before) (statement item.stmt) item.at after)

abbrev pub AddsMain : Sites → Sites → Part → Option Sequence → Type 0
AddsMain old new part q = Gains old new (plain.of_main (λ p. plain.note_sites p None) part q) (plain.of_main plain.statement_sites part q)

abbrev pub AddsProcesses : Sites → Sites → ℕ → List Sequence → Type 0
AddsProcesses old new n qs = Gains old new (plain.of_processes (λ p. plain.note_sites p None) n qs) (plain.of_processes plain.statement_sites n qs)

-- all of an outline
abbrev pub HasAll : Program → Sites → Type 0
HasAll o sites = (map note_of sites.notes.items ≡ plain.all_notes o) × (map statement_of sites.statements.items ≡ plain.all_statements o)
