-- Arguments and commands that are added to a command.
use Rattle.std.proofs.Common.{◌≡◌, ◌<◌, ◌∙◌, ◌||◌, ◌&&◌, ◌++◌, ◌∷◌, [], ℕ, List, length, length-append, arith, refl, sym, ap, ap₂, subst, Bool, true, false}
use Rattle.std.specs.Prelude.{◌==◌}
use Rattle.std.proofs.lemmas.Bool.Decides.{nat_tests}
use Rattle.std.specs.Borrow.{Bor}
use Rattle.clap.specs.Words.{AddsArg, AddsSubcommand, App, Rule, Shape, app_of, rule_of, with_rule, with_subcommand}
use Rattle.clap.specs.Walk.{is_empty, is_free_arg}
use Rattle.clap.specs.declared.builder.arg.ArgPredicate.{ArgPredicate}
use Rattle.clap.specs.declared.builder.arg.Arg.{Arg}
use Rattle.clap.specs.declared.builder.command.Command.{Command}
use Rattle.og_words.specs.Made.{IsArg, IsCommand}

pub with_arg : (old made : Command) (arg : Arg) (rule : Rule) (s : Shape) → IsCommand s old → IsArg rule arg → AddsArg old arg made
    → IsCommand (record s { rules = s.rules ++ rule ∷ [] }) made
with_arg old made arg rule s is of adds = (adds.shape of.1 ∙ ap₂ with_rule is.0 of.0, adds.globals ∙ ap₂ ◌||◌ is.1 of.1)

pub with_word : (old made word : Command) (a : App) (s : Shape) → app_of old ≡ a → IsCommand s word → AddsSubcommand old word made → app_of made ≡ with_subcommand a s
with_word old made word a s same is adds =
    adds.shape is.1 ∙ (ap (λ (w : App). with_subcommand (app_of old) w.top) is.0 ∙ ap (λ (p : App). with_subcommand p s) same)

-- ---- an argument that goes with another one alone, or without another one

above_0 : (n : ℕ) → 0 < n → (n == 0) ≡ false
above_0 n h = grind (arith, nat_tests)

not_empty : {X : Type 0} (xs : List X) (x : X) → is_empty (xs ++ x ∷ []) ≡ false
not_empty xs x = let more = length-append xs (x ∷ []) in above_0 (length (xs ++ x ∷ [])) (omega (arith, more))

second_false : (p n r : Bool) → n ≡ false → (p && (n && r)) ≡ false
second_false false n r e = refl
second_false true n r e = ap (λ (b : Bool). b && r) e

third_false : (p q n r : Bool) → n ≡ false → (p && (q && (n && r))) ≡ false
third_false false q n r e = refl
third_false true q n r e = second_false q n r e

bound : (old new : Arg) (rule : Rule) → rule_of new ≡ record (rule_of old) { is_free = is_free_arg new } → is_free_arg new ≡ false
    → new.global ≡ old.global → IsArg rule old → IsArg (record rule { is_free = false }) new
bound old new rule kept tied same is =
    (kept ∙ ap (λ (b : Bool). record (rule_of old) { is_free = b }) tied ∙ ap (λ (r : Rule). record r { is_free = false }) is.0, same ∙ is.1)

pub needing : (old new : Arg) (rule : Rule) (x : ArgPredicate × Bor (List ℕ)) → new ≡ record old { needs = new.needs } → new.needs.items ≡ old.needs.items ++ x ∷ [] → IsArg rule old → IsArg (record rule { is_free = false }) new
needing old new rule x same more is =
    let some : is_empty new.needs.items ≡ false = ap is_empty more ∙ not_empty old.needs.items x in
    let kept : rule_of new ≡ record (rule_of old) { is_free = is_free_arg new } = subst (λ (a : Arg). rule_of a ≡ record (rule_of old) { is_free = is_free_arg a }) (sym same) refl in
    bound old new rule kept (third_false _ _ (is_empty new.needs.items) _ some) (ap (λ (a : Arg). a.global) same) is

pub excluding : (old new : Arg) (rule : Rule) (x : Bor (List ℕ)) → new ≡ record old { conflicts = new.conflicts } → new.conflicts.items ≡ old.conflicts.items ++ x ∷ [] → IsArg rule old → IsArg (record rule { is_free = false }) new
excluding old new rule x same more is =
    let some : is_empty new.conflicts.items ≡ false = ap is_empty more ∙ not_empty old.conflicts.items x in
    let kept : rule_of new ≡ record (rule_of old) { is_free = is_free_arg new } = subst (λ (a : Arg). rule_of a ≡ record (rule_of old) { is_free = is_free_arg a }) (sym same) refl in
    bound old new rule kept (second_false _ (is_empty new.conflicts.items) _ some) (ap (λ (a : Arg). a.global) same) is
