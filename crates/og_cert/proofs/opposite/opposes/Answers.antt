use Rattle.std.proofs.Common.{◌≡◌, ℤ, pos, sym, ap, ◌∙◌, subst, to_z, of_z, FitsSigned, rules}
use Rattle.std.specs.Prelude.{IfSome}
use mir.Syntax.{w128}
use Rattle.std.proofs.lemmas.Int.{to_z-of_z}
use Rattle.og_cert.specs.Opposite.{IsMixed}
use Rattle.og_cert.proofs.Opposites.{opposing}
use Rattle.og_cert.proofs.opposite.opposes.Goals as goal

pub returns-then-coefficient-eq0 : goal.returns-then-coefficient-eq0
returns-then-coefficient-eq0 c = λ yes.
    let x = c.args.x in
    let y = c.args.y in
    let a = c.in-Some-Some.coefficient in
    let b = c.in-Some-Some.constant in
    let same : x.var ≡ y.var = search rules in
    let range_a : FitsSigned w128 a = search rules in
    let range_b : FitsSigned w128 b = search rules in
    let range_c : FitsSigned w128 x.coefficient = search rules in
    let range_d : FitsSigned w128 y.coefficient = search rules in
    let range_p : FitsSigned w128 x.constant = search rules in
    let range_q : FitsSigned w128 y.constant = search rules in
    let none_left : a ≡ pos 0 = sym (to_z-of_z w128 a range_a) ∙ ap (to_z w128) c.if-coefficient-eq0.true in
    let P : ℤ → Type 0 = IsMixed c.args.k (to_z w128 (of_z w128 x.coefficient)) c.args.m (to_z w128 (of_z w128 y.coefficient)) in
    let Q : ℤ → Type 0 = IsMixed c.args.k (to_z w128 (of_z w128 x.constant)) c.args.m (to_z w128 (of_z w128 y.constant)) in
    let terms : P a = subst (λ r. IfSome r P) c.in-Some-Some.is-0 c.mixed-coefficient.ensures in
    let constants : Q b = subst (λ r. IfSome r Q) c.in-Some-Some.is-1 c.mixed-constant.ensures in
    opposing c.args.k c.args.m x y _ _ a _ _ b _ same (to_z-of_z w128 x.coefficient range_c) (to_z-of_z w128 y.coefficient range_d) terms none_left
    (to_z-of_z w128 x.constant range_p) (to_z-of_z w128 y.constant range_q) constants (sym (to_z-of_z w128 b range_b)) yes
