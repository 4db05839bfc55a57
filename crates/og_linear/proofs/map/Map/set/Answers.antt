use Rattle.std.proofs.Common.{rules, arith, ◌≢◌, sym, below_more, ◌<◌, ap, ◌∙◌, subst, length, get_or, set, ℕ}
use Rattle.std.proofs.lemmas.List.{get_or_read}
use Rattle.std.proofs.lemmas.Grind.{common_steps}
use Rattle.og_linear.specs.Linear.{FormValue}
use Rattle.og_linear.specs.Bounded.{MapValue}
use Rattle.og_linear.proofs.Maps.{set_found}
use Rattle.og_linear.proofs.map.Map.set.Goals as goal

pub returns-then-var-index-clause-ok : goal.returns-then-var-index-clause-ok
returns-then-var-index-clause-ok c =
    let same = c.loop-i.invariant.0 in
    let below : c.loop-i.i < length c.loop-i.self-inside.entries.items = first_of (search rules, omega (arith, c.loop-i.self-inside.entries.ok.0, ap (length {A = ℕ × FormValue}) same, ap (length {A = ℕ × FormValue}) c.self.view_is, c.self.inside.entries.ok.0)) in
    let within : c.loop-i.i < length c.args.self.now = subst (λ (m : MapValue). c.loop-i.i < length m) same below in
    let d = c.index_mut.result.now in
    ap (λ (m : MapValue). set m c.loop-i.i (d.0, c.args.form)) same
    ∙ ap (λ (k : ℕ). set c.args.self.now c.loop-i.i (k, c.args.form)) (ap (λ (p : ℕ × FormValue). p.0) (c.index_mut.ensures.value ∙ ap (λ (m : MapValue). get_or m c.loop-i.i d) same))
    ∙ set_found c.args.self.now c.loop-i.i c.args.var c.args.form d within
    (c.if-var-index.true ∙ ap (λ (p : ℕ × FormValue). p.0) (get_or_read c.loop-i.self-inside.entries.items _ _ below c.index.ensures d ∙ ap (λ (m : MapValue). get_or m c.loop-i.i d) same))
    c.loop-i.invariant.1

pub loop-i-preserved : goal.loop-i-preserved
loop-i-preserved c =
    let same = c.loop-i.invariant.0 in
    let below : c.loop-i.i < length c.loop-i.self-inside.entries.items = first_of (search rules, omega (arith, c.loop-i.self-inside.entries.ok.0, ap (length {A = ℕ × FormValue}) same, ap (length {A = ℕ × FormValue}) c.self.view_is, c.self.inside.entries.ok.0)) in
    let other : (d : ℕ × FormValue) → (get_or c.args.self.now c.loop-i.i d).0 ≢ c.args.var = λ d e.
    c.if-var-index.false (sym (ap (λ (p : ℕ × FormValue). p.0) (get_or_read c.loop-i.self-inside.entries.items _ _ below c.index.ensures d ∙ ap (λ (m : MapValue). get_or m c.loop-i.i d) same) ∙ e)) in
    (same, first_of (search rules, grind (arith, common_steps)), below_more (λ (k : ℕ). (d : ℕ × FormValue) → (get_or c.args.self.now k d).0 ≢ c.args.var) c.loop-i.i c.loop-i.invariant.2 other)
