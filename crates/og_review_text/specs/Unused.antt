-- Variables that nothing assigns, and those that nothing reads.
use Rattle.std.specs.Prelude.{ℕ, List, [], ◌∷◌, ◌++◌, flat_map, Bool, not, ◌&&◌, nat_le, if◌then◌else◌, slice_get, length, codes}
use Rattle.std.specs.List.{list_any, range_with_len}
use Rattle.og_typed.specs.Syntax.{Program}
use Rattle.og_typed.specs.Occurs.{occurs}
use Rattle.og_report_text.specs.Places.{◌&◌}
use Rattle.og_report_text.specs.Listing.{name_text}
use Rattle.og_review_text.specs.Points.{Point, points}
use Rattle.og_review_text.specs.Steps.{Step, all_steps, assigns, reads}
use Rattle.og_review_text.specs.declared.unused.Disuse.{Disuse}
use Rattle.og_review_text.specs.declared.unused.Disuse.TheVariants as disuse
use Rattle.og_review_text.specs.declared.unused.Unused.{Unused}

-- some step assigns the variable x; some step reads it; some assertion between the precondition and the postcondition speaks of it
abbrev pub is_assigned : List Step → ℕ → Bool
is_assigned steps x = list_any (λ step. assigns x step.stmt) steps

abbrev pub is_read : List Step → ℕ → Bool
is_read steps x = list_any (λ step. reads x step.stmt) steps

abbrev pub is_claimed : List Point → ℕ → Bool
is_claimed points x = list_any (λ p. occurs x p.note.assertion) points

-- one that the program reads and the precondition speaks of
abbrev pub is_input : Program → ℕ → Bool
is_input o x = is_read (all_steps o) x && occurs x o.pre.assertion

-- one of the postcondition that is no input, and that nothing assigns
abbrev pub is_unreached : Program → ℕ → Bool
is_unreached o x = occurs x o.post.assertion && (not (is_assigned (all_steps o) x) && not (is_input o x))

abbrev pub is_unset_auxiliary : Program → ℕ → Bool
is_unset_auxiliary o x = nat_le o.vars x && not (is_assigned (all_steps o) x)

-- neither the program reads it, nor does an assertion but the precondition speak of it
abbrev pub is_unread : Program → ℕ → Bool
is_unread o x = not (is_read (all_steps o) x) && (not (is_claimed (points o) x) && not (occurs x o.post.assertion))

-- ---- what is told

abbrev pub unused_where : Bool → ℕ → Disuse → List Unused
unused_where is_so x how = if is_so then record { var = x; how = how } ∷ [] else []

abbrev pub unused_of : Program → ℕ → List Unused
unused_of o x =
    unused_where (is_unreached o x) x disuse.Unreached
    ++ (unused_where (is_unset_auxiliary o x) x disuse.Unassigned ++ unused_where (is_unread o x) x disuse.Unread)

-- of all variables, by number
abbrev pub unused_variables : Program → List Unused
unused_variables o = flat_map (unused_of o) (range_with_len 0 (length o.names))

-- ---- the lines

-- the words before the name
abbrev pub text_before : Disuse → List ℕ
text_before disuse.Unreached = []
text_before disuse.Unassigned = codes "auxiliary "
text_before disuse.Unread = []

-- the words behind it
abbrev pub text_behind : Disuse → List ℕ
text_behind disuse.Unreached = codes " of the postcondition is never assigned"
text_behind disuse.Unassigned = codes " is never assigned"
text_behind disuse.Unread = codes " is never read"

abbrev pub message : List (List ℕ) → Unused → List ℕ
message names u = text_before u.how & name_text (slice_get names u.var) & text_behind u.how

abbrev pub unused_line : List (List ℕ) → Unused → List ℕ
unused_line names u = message names u & codes "\n"

abbrev pub unused_lines : Program → List ℕ
unused_lines o = flat_map (unused_line o.names) (unused_variables o)
