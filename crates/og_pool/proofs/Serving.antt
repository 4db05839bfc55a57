-- Whether a map that is kept serves for an action.
use Rattle.std.proofs.Common.{◌≡◌, ◌↔◌, ℕ, List, Bool, IsTrue, slice_get, Option, Some, None, sym, ap, ◌∙◌, subst}
use Rattle.og_subst.specs.Trees.{ActionTree, tree_body}
use Rattle.og_subst.specs.Actions.{action_tree}
use Rattle.og_subst.specs.Subst.{forward, values}
use Rattle.og_subst.specs.Prepared.{Prepared}
use Rattle.og_subst.specs.declared.action.Action.{Action}
use Rattle.og_cond.specs.declared.condition.Condition.{Condition}
use Rattle.og_facts.specs.Answer.{IsPrepared}
use Rattle.og_pool.specs.Kept.{IsOfEqual}

abbrev action_of : Option Condition → Option Action
action_of None = None
action_of (Some c) = c.action

-- the condition at one index has one action
one_action : (cs : List Condition) (i : ℕ) (c d : Condition) (a b : Option Action) → slice_get cs i ≡ Some c → slice_get cs i ≡ Some d → c.action ≡ a → d.action ≡ b → a ≡ b
one_action cs i c d a b at there is its = sym is ∙ ap action_of (sym at ∙ there) ∙ its

equal_trees : (a b : Action) → Some a ≡ Some b → action_tree a ≡ action_tree b
equal_trees a b same = let it : a ≡ b = cc in ap action_tree it

pub serves_exactly : (cs : List Condition) (i : ℕ) (c : Condition) (before action : Action) (r : Bool) → slice_get cs i ≡ Some c → c.action ≡ Some before
    → (IsTrue r ↔ (action_tree before ≡ action_tree action)) → IsTrue r ↔ IsOfEqual cs i action
serves_exactly cs i c before action r at is same =
    ((λ yes. (c, before, at, is, same.0 yes)), (λ h. same.1 (equal_trees before h.1 (one_action cs i c h.0 (Some before) (Some h.1) at h.2 is h.3) ∙ h.4)))

pub serves_none : (cs : List Condition) (i : ℕ) (c : Condition) (action : Action) → slice_get cs i ≡ Some c → c.action ≡ None → IsOfEqual cs i action → ⊥
serves_none cs i c action at is h = let e : None ≡ Some h.1 = one_action cs i c h.0 None (Some h.1) at h.2 is h.3 in absurd (cc)

pub prepared_of_equal : (cs : List Condition) (i : ℕ) (c kept : Condition) (before action : Action) (map : Prepared) → slice_get cs i ≡ Some c → slice_get cs i ≡ Some kept
    → c.action ≡ Some before → IsPrepared kept.action map → action_tree before ≡ action_tree action → IsPrepared (Some action) map
prepared_of_equal cs i c kept before action map at there is prepared same =
    let e : kept.action ≡ Some before = ap action_of (sym there ∙ at) ∙ is in
    let p = subst (λ (a : Option Action). IsPrepared a map) e prepared in
    subst (λ (t : ActionTree). (forward (tree_body t) ≡ Some map.map) × (values (tree_body t) ≡ Some map.values)) same p
