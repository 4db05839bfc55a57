use Rattle.std.proofs.Common.{◌≡◌, ◌++◌, ◌∷◌, [], length, rules, subst, sym, ap, ◌∙◌}
use Rattle.og_search_rows.specs.declared.rows.Row.{Row}
use Rattle.og_search_rows.specs.Inequality.{Holds}
use Rattle.og_search_rows.specs.Rows.{AllFollow, Extends, IsRowOf}
use Rattle.og_search_rows.proofs.Following.{extends_push, row_push, follow_push}
use Rattle.og_search_rows.proofs.rows.Rows.push.Goals as goal

pub returns-in_err-spend-clause-follow : goal.returns-in_err-spend-clause-follow
returns-in_err-spend-clause-follow c =
    let old = subst (λ v. AllFollow v.rows) c.self.view_is c.self.invariant.0 in
    subst (λ v. AllFollow v.rows) (sym c.in_err-spend.ensures.kept) old

pub invariant_of-self-2 : goal.invariant_of-self-2
invariant_of-self-2 c =
    let rows = c.args.self.now.rows in
    let r : Row = record { form = c.args.form; origin = c.args.origin; used = c.used_by-used.result; direction = c.direction-direction.result } in
    let old : AllFollow rows = subst (λ v. AllFollow v.rows) c.self.view_is c.self.invariant.0 in
    let same : c.self-2.inside.rows.items ≡ rows = ap (λ v. v.rows) (c.self-2.view_is ∙ c.in_ok-spend.ensures.spent) in
    let pushed : c.push.new.self.items ≡ rows ++ r ∷ [] = c.in_ok-push.ensures.items ∙ ap (λ q. q ++ r ∷ []) same in
    (subst AllFollow (sym pushed) (follow_push rows r old c.requires), c.self-2.invariant.1, c.self-2.invariant.2)

pub returns-clause-extends : goal.returns-clause-extends
returns-clause-extends c =
    let rows = c.args.self.now.rows in
    let r : Row = record { form = c.args.form; origin = c.args.origin; used = c.used_by-used.result; direction = c.direction-direction.result } in
    let same : c.self-2.inside.rows.items ≡ rows = ap (λ v. v.rows) (c.self-2.view_is ∙ c.in_ok-spend.ensures.spent) in
    let pushed : c.push.new.self.items ≡ rows ++ r ∷ [] = c.in_ok-push.ensures.items ∙ ap (λ q. q ++ r ∷ []) same in
    subst (Extends rows) (sym pushed) (extends_push rows r)

pub returns-clause-row : goal.returns-clause-row
returns-clause-row c =
    let rows = c.args.self.now.rows in
    let r : Row = record { form = c.args.form; origin = c.args.origin; used = c.used_by-used.result; direction = c.direction-direction.result } in
    let same : c.self-2.inside.rows.items ≡ rows = ap (λ v. v.rows) (c.self-2.view_is ∙ c.in_ok-spend.ensures.spent) in
    let pushed : c.push.new.self.items ≡ rows ++ r ∷ [] = c.in_ok-push.ensures.items ∙ ap (λ q. q ++ r ∷ []) same in
    let begun : c.self.inside.rows.items ≡ rows = ap (λ v. v.rows) c.self.view_is in
    let number : c.len-number.result ≡ length rows = search rules in
    subst (λ q. IsRowOf q c.len-number.result (Holds c.args.form)) (sym pushed) (subst (λ i. IsRowOf (rows ++ r ∷ []) i (Holds c.args.form)) (sym number) (row_push rows r))

pub returns-clause-follow : goal.returns-clause-follow
returns-clause-follow c =
    let rows = c.args.self.now.rows in
    let r : Row = record { form = c.args.form; origin = c.args.origin; used = c.used_by-used.result; direction = c.direction-direction.result } in
    let old : AllFollow rows = subst (λ v. AllFollow v.rows) c.self.view_is c.self.invariant.0 in
    let same : c.self-2.inside.rows.items ≡ rows = ap (λ v. v.rows) (c.self-2.view_is ∙ c.in_ok-spend.ensures.spent) in
    let pushed : c.push.new.self.items ≡ rows ++ r ∷ [] = c.in_ok-push.ensures.items ∙ ap (λ q. q ++ r ∷ []) same in
    subst AllFollow (sym pushed) (follow_push rows r old c.requires)
