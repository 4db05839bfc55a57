use Rattle.std.proofs.Common.{◌≡◌, ◌∙◌, [], ◌∷◌, false, is_some, slice_get, refl, sym, ap}
use Rattle.std.proofs.lemmas.Bool.{and_parts}
use Rattle.og_linear.specs.Linear.{Terms, form_value}
use Rattle.og_completion.proofs.bodies.is_number.Goals as goal

no_terms : (ts : Terms) → is_some (slice_get ts 0) ≡ false → ts ≡ []
no_terms [] h = refl
no_terms (t ∷ ts) h = absurd cc

pub returns-then-is_none : goal.returns-then-is_none
returns-then-is_none c = λ yes.
    let f = c.args.form.now in
    let none = no_terms f.terms (ap is_some (sym c.term.ensures.found) ∙ c.if-is_none.ensures) in
    (f.constant, ap (λ ts. form_value ts f.constant) none, (and_parts _ _ (sym c.is_small.ensures ∙ yes)).1)
