-- The sites of a sequence, item by item.
use Rattle.std.proofs.Common.{◌≡◌, ℕ, ◌+◌, ◌<◌, List, [], ◌∷◌, ◌++◌, Option, map, drop, length, get_or, drop_of_length-le, le_of_eq, sym, ap, ◌∙◌}
use Rattle.std.proofs.lemmas.List.{drop_more}
use Rattle.og_typed.specs.declared.statement.Item.{Item}
use Rattle.og_typed.specs.declared.statement.Seq.{Seq, out-Seq}
use Rattle.og_typed.specs.Syntax.{Noted, Sequence}
use Rattle.og_typed.specs.Lists.{sequence_list}
use Rattle.og_typed.specs.Plain.{noted, statement, sequence, item_of, first_or}
use Rattle.og_typed.proofs.Lists.{sequence_out, first_list}
use Rattle.og_typed.specs.declared.sites.Part.{Part}
use Rattle.og_typed.specs.declared.sites.Part.TheVariants as parts
use Rattle.og_typed.specs.Sites.{NoteSite, StatementSite, note_sites, item_notes, statement_sites, item_statements, of_processes}

-- the sites of these items, up to the last assertion
abbrev pub notes_from : Part → Option Noted → List Item → Noted → List NoteSite
notes_from part leads items last = note_sites part leads (sequence_list (map item_of items) last)

abbrev pub statements_from : Part → List Item → Noted → List StatementSite
statements_from part items last = statement_sites part (sequence_list (map item_of items) last)

pub whole_notes : (part : Part) (leads : Option Noted) (q : Seq) → notes_from part leads (out-Seq q).items.items (noted (out-Seq q).last) ≡ note_sites part leads (sequence q)
whole_notes part leads q = ap (note_sites part leads) (sym (sequence_out q))

pub last_note : (part : Part) (leads : Option Noted) (items : List Item) (last : Noted) (i : ℕ) → length items ≡ i → notes_from part leads (drop i items) last ≡ record { note = last; part = part; leads = leads } ∷ []
last_note part leads items last i e = ap (λ l. notes_from part leads l last) (drop_of_length-le items (le_of_eq e))

pub more_notes : (part : Part) (leads : Option Noted) (items : List Item) (last after : Noted) (i : ℕ) (d : Item) → i < length items → after ≡ first_or (drop (i + 1) items) last → notes_from part leads (drop i items) last ≡ item_notes part (noted (get_or items i d).before) (statement (get_or items i d).stmt) after ++ notes_from part leads (drop (i + 1) items) last
more_notes part leads items last after i d lt e =
    let x = get_or items i d in
    let rest = drop (i + 1) items in
    ap (λ l. notes_from part leads l last) (drop_more items i d lt)
    ∙ ap (λ m. item_notes part (noted x.before) (statement x.stmt) m ++ notes_from part leads rest last) (first_list rest last ∙ sym e)

pub whole_statements : (part : Part) (q : Seq) → statements_from part (out-Seq q).items.items (noted (out-Seq q).last) ≡ statement_sites part (sequence q)
whole_statements part q = ap (statement_sites part) (sym (sequence_out q))

pub no_statements : (part : Part) (items : List Item) (last : Noted) (i : ℕ) → length items ≡ i → statements_from part (drop i items) last ≡ []
no_statements part items last i e = ap (λ l. statements_from part l last) (drop_of_length-le items (le_of_eq e))

pub more_statements : (part : Part) (items : List Item) (last after : Noted) (i : ℕ) (d : Item) → i < length items → after ≡ first_or (drop (i + 1) items) last → statements_from part (drop i items) last ≡ item_statements part (noted (get_or items i d).before) (statement (get_or items i d).stmt) (get_or items i d).at after ++ statements_from part (drop (i + 1) items) last
more_statements part items last after i d lt e =
    let x = get_or items i d in
    let rest = drop (i + 1) items in
    ap (λ l. statements_from part l last) (drop_more items i d lt)
    ∙ ap (λ m. item_statements part (noted x.before) (statement x.stmt) x.at m ++ statements_from part rest last) (first_list rest last ∙ sym e)

-- ---- processes, one by one

abbrev pub processes_from : {S : Type 0} → (Part → Sequence → List S) → ℕ → List Seq → List S
processes_from sites i processes = of_processes sites i (map sequence (drop i processes))

pub no_processes : {S : Type 0} (sites : Part → Sequence → List S) (processes : List Seq) (i : ℕ) → length processes ≡ i → processes_from sites i processes ≡ []
no_processes sites processes i e = ap (λ l. of_processes sites i (map sequence l)) (drop_of_length-le processes (le_of_eq e))

pub more_processes : {S : Type 0} (sites : Part → Sequence → List S) (processes : List Seq) (i : ℕ) (d : Seq) → i < length processes → processes_from sites i processes ≡ sites (parts.Process i) (sequence (get_or processes i d)) ++ processes_from sites (i + 1) processes
more_processes sites processes i d lt = ap (λ l. of_processes sites i (map sequence l)) (drop_more processes i d lt)
