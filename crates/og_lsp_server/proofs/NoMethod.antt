-- Names of methods.
use Rattle.std.proofs.Common.{◌≡◌, ℕ, List, [], ◌∷◌, Bool, true, false, cond, Some, None, Decides, sym, ap, ◌∙◌, refl}
use Rattle.std.specs.List.{find, AllByRecursion}
use Rattle.std.specs.Str.{bytes_eq}
use Rattle.std.proofs.lemmas.Slice.Eq.{bytes_eq-Decides}
use Rattle.og_lsp_server.specs.declared.method.Method.{Method}
use Rattle.og_lsp_server.specs.Methods.{method_name}

not_same : (b : Bool) (xs ys : List ℕ) → Decides b (xs ≡ ys) → (ys ≡ xs → ⊥) → b ≡ false
not_same true xs ys d others = absurd (others (sym (d.0 refl)))
not_same false xs ys d others = refl

-- none of some methods has the name
pub none_named : (name : List ℕ) (ms : List Method) → AllByRecursion (λ m. name ≡ method_name m → ⊥) ms → find (λ m. bytes_eq (method_name m) name) ms ≡ None
none_named name [] others = refl
none_named name (m ∷ ms) others =
    ap (λ (b : Bool). cond b (Some m) (find (λ m. bytes_eq (method_name m) name) ms)) (not_same (bytes_eq (method_name m) name) (method_name m) name (bytes_eq-Decides (method_name m) name) others.0)
    ∙ none_named name ms others.1
