use Rattle.std.proofs.Common.{ℕ, List, Bor, get_or, is_some, nat_lt, unwrap_or, refl, ◌≡◌, ◌+◌, ◌-◌, ◌<◌, ◌≤◌, [], length, Option, Some, None, IfSome, IfNone, slice_get, sym, ap, ◌∙◌, subst, arith}
use Rattle.std.proofs.lemmas.Bool.{ltb-true, ltb-false}
use Rattle.std.proofs.lemmas.Option.{slice_get_read, slice_get_past}
use Rattle.og_typed.specs.Syntax.{Rest}
use Rattle.og_typed.specs.Points.{rest_at}
use Rattle.og_typed.specs.Table.{rests_of, IsLinked}
use Rattle.og_typed.proofs.Tables.{of_end, of_length}
use Rattle.og_typed.specs.declared.points.Point.{Point}
use Rattle.og_typed.specs.Table.{AreLinked}
use Rattle.og_typed.proofs.points.Points.point.Goals as goal

abbrev IsRead : Option (Bor Point) → List Point → ℕ → Type 0
IsRead result read i = (is_some result ≡ nat_lt i (length read)) × IfSome result (λ x. x.now ≡ get_or read i x.now)

found : (result : Option (Bor Point)) (ps read : List Point) (at : ℕ) (now : List Rest) → (at ≡ 0 → ⊥) → rests_of ps ≡ now → AreLinked ps → read ≡ ps → IsRead result read (at - 1) → IfSome result (λ p. IsLinked now at p.now)
found None ps read at now some view linked same h = tt
found (Some p) ps read at now some view linked same h =
    let lt : at - 1 < length read = ltb-true (at - 1) (length read) (sym h.0) in
    let there : slice_get ps (at - 1) ≡ Some p.now = ap (λ l. slice_get l (at - 1)) (sym same) ∙ slice_get_read read (length read) (at - 1) p.now refl lt h.1 in
    let pred : at - 1 + 1 ≡ at = omega (arith, some) in
    subst (λ rests. IsLinked rests at p.now) view (subst (λ k. IsLinked (rests_of ps) k p.now) pred (linked (at - 1) p.now there))

lost : (result : Option (Bor Point)) (ps read : List Point) (at : ℕ) (now : List Rest) → (at ≡ 0 → ⊥) → rests_of ps ≡ now → read ≡ ps → IsRead result read (at - 1) → IfNone result (rest_at now at ≡ [])
lost None ps read at now some view same h =
    let ge : length read ≤ at - 1 = ltb-false (at - 1) (length read) (sym h.0) in
    let long = of_length ps in
    let pred : at - 1 + 1 ≡ at = omega (arith, some) in
    let size = ap length same in
    let all = ap length view in
    ap (λ r. unwrap_or r []) (slice_get_past now at (omega (arith, ge, long, size, all, pred)))
lost (Some p) ps read at now some view same h = tt

pub returns-then-at-eq-END-clause-none : goal.returns-then-at-eq-END-clause-none
returns-then-at-eq-END-clause-none c =
    ap (rest_at c.args.self.now) c.if-at-eq-END.true ∙ subst (λ rests. rest_at rests 0 ≡ []) c.self.view_is (of_end c.self.inside.points.items)

pub returns-clause-some : goal.returns-clause-some
returns-clause-some c =
    found c.get.result c.self.inside.points.items c.deref.result.now c.args.at c.args.self.now c.if-at-eq-END.false c.self.view_is c.self.invariant c.deref.ensures.value (c.get.ensures.lookup.0, c.get.ensures.lookup.1)

pub returns-clause-none : goal.returns-clause-none
returns-clause-none c =
    lost c.get.result c.self.inside.points.items c.deref.result.now c.args.at c.args.self.now c.if-at-eq-END.false c.self.view_is c.deref.ensures.value (c.get.ensures.lookup.0, c.get.ensures.lookup.1)
