-- What is one of a list, seen as one of what is made of the list.
use Rattle.std.proofs.Common.{◌≡◌, List, Option, Some, None, IfSome, map, slice_get, option_map, sym, ap, ◌∙◌}
use Rattle.std.proofs.lemmas.Option.{slice_get-map}
use Rattle.og_typed.specs.Seen.{IsOneOf}

pub one_mapped : {S T : Type 0} (f : S → T) (xs : List S) (ys : List T) (found : Option S) → map f xs ≡ ys → IfSome found (IsOneOf xs) → IfSome found (λ x. IsOneOf ys (f x))
one_mapped f xs ys None same is = tt
one_mapped f xs ys (Some x) same is = (is.0, ap (λ l. slice_get l is.0) (sym same) ∙ slice_get-map f xs is.0 ∙ ap (option_map f) is.1)
