-- Names that are declared, where they lie in memory.
use Rattle.std.proofs.Common.{◌≡◌, ℕ, List, [], ◌∷◌, map, Bool, true, false, cond, Some, Bor, refl, ap, ◌∙◌}
use Rattle.std.specs.Prelude.{option_map}
use Rattle.std.specs.Str.{bytes_eq}
use Rattle.std.specs.Map.{lookup}
use Rattle.indexmap.specs.IndexMap.{insert_entry}
use Rattle.og_template_expand.specs.declared.scope.Meaning.{Meaning}
use Rattle.og_template_expand.specs.Scope as scope
use Rattle.og_template_expand.specs.Scoped.{meaning_of}

abbrev pub entry_of : Bor (List ℕ) × Meaning → List ℕ × scope.Meaning
entry_of e = (e.0.now, meaning_of e.1)

pub names_declared : (es : List (Bor (List ℕ) × Meaning)) (k : Bor (List ℕ)) (m : Meaning) → map entry_of (insert_entry (λ a b. bytes_eq a.now b.now) es k m) ≡ scope.declared_with k.now (meaning_of m) (map entry_of es)
names_declared [] k m = refl
names_declared (e ∷ es) k m =
    chosen (bytes_eq k.now e.0.now) ∙ ap (λ names. cond (bytes_eq k.now e.0.now) ((e.0.now, meaning_of m) ∷ map entry_of es) (entry_of e ∷ names)) (names_declared es k m)
  where
    chosen : (b : Bool) → map entry_of (cond b ((e.0, m) ∷ es) (e ∷ insert_entry (λ a c. bytes_eq a.now c.now) es k m)) ≡ cond b ((e.0.now, meaning_of m) ∷ map entry_of es) (entry_of e ∷ map entry_of (insert_entry (λ a c. bytes_eq a.now c.now) es k m))
    chosen true = refl
    chosen false = refl

pub meaning_found : (es : List (Bor (List ℕ) × Meaning)) (name : List ℕ) → option_map meaning_of (lookup (λ k. bytes_eq name k.now) es) ≡ lookup (bytes_eq name) (map entry_of es)
meaning_found [] name = refl
meaning_found (e ∷ es) name =
    chosen (bytes_eq name e.0.now) ∙ ap (cond (bytes_eq name e.0.now) (Some (meaning_of e.1))) (meaning_found es name)
  where
    chosen : (b : Bool) → option_map meaning_of (cond b (Some e.1) (lookup (λ k. bytes_eq name k.now) es)) ≡ cond b (Some (meaning_of e.1)) (option_map meaning_of (lookup (λ k. bytes_eq name k.now) es))
    chosen true = refl
    chosen false = refl
