use Rattle.std.proofs.Common.{◌≡◌, ◌∙◌, ◌+◌, ◌++◌, [], ◌∷◌, ℕ, List, Option, Some, drop, ap, sym, append_assoc}
use Rattle.std.specs.Prelude.{slice_get}
use Rattle.std.proofs.lemmas.Option.{slice_get-get_or}
use Rattle.og_report_prove.proofs.Lists.{dropped}
use Rattle.og_report_text.specs.declared.row.Row.{Row}
use Rattle.og_report_html.specs.Edges.{place_of, places_of}
use Rattle.og_report_html.proofs.edge.places_of.Goals as goal

goes : (row : Row) (ks : List ℕ) (i k : ℕ) (p : Option ℕ) (l0 l1 whole : List (Option ℕ)) → slice_get ks i ≡ Some k → p ≡ place_of row k → l1 ≡ l0 ++ p ∷ []
    → l0 ++ places_of row (drop i ks) ≡ whole → l1 ++ places_of row (drop (i + 1) ks) ≡ whole
goes row ks i k p l0 l1 whole is one put so_far =
    let rest = places_of row (drop (i + 1) ks) in
    ap (λ (l : List (Option ℕ)). l ++ rest) put
    ∙ append_assoc l0 (p ∷ []) rest
    ∙ ap (λ (q : Option ℕ). l0 ++ q ∷ rest) one
    ∙ ap (λ (l : List ℕ). l0 ++ places_of row l) (sym (dropped ks i k is))
    ∙ so_far

pub loop-number-preserved : goal.loop-number-preserved
loop-number-preserved c =
    let row = c.args.row.now in
    let ks = c.args.numbers.now in
    let i = c.loop-number.number-index in
    goes row ks i _ c.place_of.result c.loop-number.places.items c.push.new.self.items (places_of row ks)
    (slice_get-get_or ks i _ c.loop-number-test.true) c.place_of.ensures c.in_ok-push.ensures.items c.loop-number.invariant
