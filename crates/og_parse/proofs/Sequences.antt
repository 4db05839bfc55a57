-- Putting a sequence together from the left, as a loop does.
use Rattle.std.proofs.Common.{◌≡◌, ℕ, Bool, true, List, [], ◌∷◌, ◌++◌, Ok, Err, map, refl, sym, ap, ◌∙◌}
use Rattle.std.proofs.lemmas.List.{map_push}
use Rattle.og_text.specs.declared.token.Token.{Token}
use Rattle.og_parse.specs.Reading.{Outcome, Reader, ◌>>=◌, starts, many_at}
use Rattle.og_parse.proofs.Loops.{Shortens, many_step}
use Rattle.og_text.specs.declared.place.Span.{Span}
use Rattle.og_parse.specs.declared.raw.RawNote.{RawNote}
use Rattle.og_parse.specs.declared.raw.RawStmt.{RawStmt}
use Rattle.og_parse.specs.declared.raw.RawItem.{RawItem}
use Rattle.og_parse.specs.declared.raw.RawStmt.TheViews.{roll-RawItem}
use Rattle.og_parse.specs.declared.raw.RawStmt.TheFolds.{fold-roll-RawItem}
use Rattle.og_parse.specs.Trees.{Note, Step, Stmt, Seq, item, sequence}
use Rattle.og_parse.specs.Parts.{step_of}
use Rattle.og_parse.specs.TreeOf.{Item, items_then, item_of, item_of_step, note_of, stmt_of, stmt_step, item_step, seq_step}

-- the items so far, the assertion after them, and the part still to be read
abbrev pub with_items : List Item → Note → Outcome (List Step) → Outcome Seq
with_items items before read = read >>= λ steps. Ok (items_then items (sequence before steps.0), steps.1)

items_then-push : (items : List Item) (i : Item) (rest : Seq) → items_then items (item i.before i.place i.stmt rest) ≡ items_then (items ++ i ∷ []) rest
items_then-push [] i rest = refl
items_then-push (j ∷ items) i rest = ap (item j.before j.place j.stmt) (items_then-push items i rest)

one_more : (items : List Item) (before : Note) (step : Step) (r : Outcome (List Step)) → with_items items before (r >>= λ steps. Ok (step ∷ steps.0, steps.1)) ≡ with_items (items ++ item_of_step before step ∷ []) step.after r
one_more items before step (Ok steps) = ap (λ (s : Seq). Ok (s, steps.1)) (items_then-push items (item_of_step before step) (sequence step.after steps.0))
one_more items before step (Err d) = refl

sequence_goes_on : (test : ℕ → Bool) {each : Reader Step} → Shortens each → (items : List Item) (before : Note) (tokens : List Token) (step : Step) (mid : List Token) (total : Outcome Seq) → starts test tokens ≡ true → each tokens ≡ Ok (step, mid)
    → with_items items before (many_at test each tokens) ≡ total → with_items (items ++ item_of_step before step ∷ []) step.after (many_at test each mid) ≡ total
sequence_goes_on test {each} on items before tokens step mid total goes at_each so_far =
    sym (one_more items before step (many_at test each mid)) ∙ ap (with_items items before) (sym (many_step test on tokens step mid goes at_each)) ∙ so_far

-- the same, where the items lie in memory
pub pushed_goes_on : (test : ℕ → Bool) {each : Reader Step} → Shortens each → (items pushed : List RawItem) (before last : Note) (tokens : List Token) (step : Step) (mid : List Token) (total : Outcome Seq)
    → map item_of pushed ≡ map item_of items ++ item_of_step before step ∷ [] → last ≡ step.after → starts test tokens ≡ true → each tokens ≡ Ok (step, mid)
    → with_items (map item_of items) before (many_at test each tokens) ≡ total → with_items (map item_of pushed) last (many_at test each mid) ≡ total
pushed_goes_on test {each} on items pushed before last tokens step mid total all at_last goes at_each so_far =
    ap (λ (note : Note). with_items (map item_of pushed) note (many_at test each mid)) at_last ∙ ap (λ (all : List Item). with_items all step.after (many_at test each mid)) all ∙ sequence_goes_on test on (map item_of items) before tokens step mid total goes at_each so_far

-- the tree of an item
item_rolled : (before : RawNote) (stmt : RawStmt) (span : Span) (after : Note) → item_of (roll-RawItem (record { before = before; stmt = stmt; span = span })) ≡ item_of_step (note_of before) (step_of span (stmt_of stmt) after)
item_rolled before stmt span after = fold-roll-RawItem Stmt Item Seq stmt_step item_step seq_step (record { before = before; stmt = stmt; span = span })

pub item_pushed : (items pushed : List RawItem) (before : RawNote) (stmt given : RawStmt) (span : Span) (after : Note) → pushed ≡ items ++ roll-RawItem (record { before = before; stmt = stmt; span = span }) ∷ [] → stmt ≡ given
    → map item_of pushed ≡ map item_of items ++ item_of_step (note_of before) (step_of span (stmt_of given) after) ∷ []
item_pushed items pushed before stmt given span after push same =
    let new : RawItem = roll-RawItem (record { before = before; stmt = stmt; span = span }) in
    ap (map item_of) push ∙ map_push item_of items new ∙ ap (λ (i : Item). map item_of items ++ i ∷ []) (item_rolled before stmt span after ∙ ap (λ (s : RawStmt). item_of_step (note_of before) (step_of span (stmt_of s) after)) same)
