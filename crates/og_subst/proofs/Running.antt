-- The map and the values, made together.
use Rattle.std.proofs.Common.{◌≡◌, List, [], ◌∷◌, ◌++◌, Option, Some, None, refl, sym, ap, ◌∙◌, append_assoc}
use Rattle.std.specs.Prelude.{option_and_then, option_map, Result, Ok, Err, IfOk}
use Rattle.std.proofs.lemmas.List.{append-nil}
use Rattle.og_linear.specs.Linear.{FormValue}
use Rattle.og_linear.specs.Bounded.{map_set, apply}
use Rattle.og_linear.specs.Answer.{IsAnswer}
use Rattle.og_linear.specs.declared.fault.FormFault.{FormFault}
use Rattle.og_linear.specs.declared.fault.FormError.{FormError}
use Rattle.og_linear.specs.declared.fault.FormError.TheVariants as errors
use Rattle.og_typed.specs.Syntax.{Simple, Pass, Set}
use Rattle.og_subst.specs.Prepared.{Prepared, prepared}
use Rattle.og_subst.specs.Subst.{forward_on, forward, values_on, values}
use Rattle.og_subst.specs.Running.{nothing, run}

-- ---- the map

map_run : (body : List Simple) (p : Prepared) → option_map (λ q. q.map) (run body p) ≡ forward_on body p.map
map_run [] p = refl
map_run (Pass ∷ rest) p = map_run rest p
map_run (Set x e ∷ rest) p = go (λ v. map_run rest (prepared (map_set p.map x v) (p.values ++ v ∷ []))) (apply p.map e)
  where
    go : ((v : FormValue) → option_map (λ q. q.map) (run rest (prepared (map_set p.map x v) (p.values ++ v ∷ []))) ≡ forward_on rest (map_set p.map x v)) → (o : Option FormValue) → option_map (λ q. q.map) (option_and_then (run rest) (option_map (λ v. prepared (map_set p.map x v) (p.values ++ v ∷ [])) o)) ≡ option_and_then (λ v. forward_on rest (map_set p.map x v)) o
    go h None = refl
    go h (Some v) = h v

pub map_of_run : (body : List Simple) → option_map (λ q. q.map) (run body nothing) ≡ forward body
map_of_run body = map_run body nothing

-- ---- the values

behind_more : (vs : List FormValue) (v : FormValue) (o : Option (List FormValue)) → option_map (λ us. (vs ++ v ∷ []) ++ us) o ≡ option_map (λ us. vs ++ us) (option_map (λ others. v ∷ others) o)
behind_more vs v None = refl
behind_more vs v (Some us) = ap Some (append_assoc vs (v ∷ []) us)

values_run : (body : List Simple) (p : Prepared) → option_map (λ q. q.values) (run body p) ≡ option_map (λ us. p.values ++ us) (values_on body p.map)
values_run [] p = ap Some (sym (append-nil p.values))
values_run (Pass ∷ rest) p = values_run rest p
values_run (Set x e ∷ rest) p = go (λ v. values_run rest (prepared (map_set p.map x v) (p.values ++ v ∷ []))) (apply p.map e)
  where
    go : ((v : FormValue) → option_map (λ q. q.values) (run rest (prepared (map_set p.map x v) (p.values ++ v ∷ []))) ≡ option_map (λ us. (p.values ++ v ∷ []) ++ us) (values_on rest (map_set p.map x v))) → (o : Option FormValue) → option_map (λ q. q.values) (option_and_then (run rest) (option_map (λ v. prepared (map_set p.map x v) (p.values ++ v ∷ [])) o)) ≡ option_map (λ us. p.values ++ us) (option_and_then (λ v. option_map (λ others. v ∷ others) (values_on rest (map_set p.map x v))) o)
    go h None = refl
    go h (Some v) = h v ∙ behind_more p.values v (values_on rest (map_set p.map x v))

same_values : (o : Option (List FormValue)) → option_map (λ us. nothing.values ++ us) o ≡ o
same_values None = refl
same_values (Some us) = refl

pub values_of_run : (body : List Simple) → option_map (λ q. q.values) (run body nothing) ≡ values body
values_of_run body = values_run body nothing ∙ same_values (values body)

-- ---- a part of an answer is the answer for that part

pub part_of_answer : {X Y : Type 0} (part : X → Y) (fault : FormFault) (r : Result X FormError) (o : Option X) (p : Option Y) → IsAnswer (λ x. x) fault r o → option_map part o ≡ p → IsAnswer part fault r p
part_of_answer part fault (Ok x) o p h e = sym e ∙ ap (option_map part) h
part_of_answer part fault (Err errors.Memory) o p h e = tt
part_of_answer part fault (Err (errors.Fault f)) o p h e = (h.0, sym e ∙ ap (option_map part) h.1)

-- what follows from each answer holds of the result
pub on_answer : {X Y : Type 0} (view : X → Y) (fault : FormFault) (r : Result X FormError) (o : Option Y) (P : Y → Type 0) → IsAnswer view fault r o → ((y : Y) → o ≡ Some y → P y) → IfOk r (λ x. P (view x))
on_answer view fault (Ok x) o P h f = f (view x) h
on_answer view fault (Err e) o P h f = tt
