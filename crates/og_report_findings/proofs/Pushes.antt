-- An item more in a group.
use Rattle.std.proofs.Common.{◌≡◌, ◌∙◌, ℕ, zero, suc, List, [], ◌∷◌, ◌++◌, Some, Vec, map, ap, refl, sym}
use Rattle.std.specs.Prelude.{slice_get, slice_set}
use Rattle.std.specs.Global.{Global}
use Rattle.std.proofs.lemmas.List.{map-append}
use Rattle.og_report_findings.specs.Causes.{item_of, groups_of, pushed_at}
use Rattle.og_report_findings.specs.declared.shown.Item.{Item}

abbrev Group : Type 0
Group = Vec Item Global

-- the group at a place has one item more
pub pushed_group : (gs : List Group) (k : ℕ) (i : Item) (old new : Group) → slice_get gs k ≡ Some old → new.items ≡ old.items ++ i ∷ [] → groups_of (slice_set gs k new) ≡ pushed_at k (item_of i) (groups_of gs)
pushed_group [] k i old new at is = refl
pushed_group (g ∷ gs) zero i old new at is =
    let same : g ≡ old = cc in
    ap (λ xs. xs ∷ groups_of gs) (ap (map item_of) is ∙ map-append item_of old.items (i ∷ []) ∙ ap (λ (h : Group). map item_of h.items ++ item_of i ∷ []) (sym same))
pushed_group (g ∷ gs) (suc k) i old new at is = ap (λ xs. map item_of g.items ∷ xs) (pushed_group gs k i old new at is)
