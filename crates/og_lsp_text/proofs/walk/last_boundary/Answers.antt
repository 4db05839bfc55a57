use Rattle.std.proofs.Common.{◌≡◌, ℕ, ◌≤◌, ◌⊎◌, true, get_or, arith, sym, ◌∙◌, subst, inl, inr}
use Rattle.std.proofs.lemmas.Bool.{cases_lt, false≢true}
use Rattle.og_lsp_text.specs.Positions.{units, is_boundary}
use Rattle.og_lsp_text.proofs.Units.{units_more, units_grow, unit_small}
use Rattle.og_lsp_text.proofs.walk.last_boundary.Goals as goal
use Rattle.og_lsp_text.proofs.walk.last_boundary.Goals.{then-is_boundary, else-is_boundary, else-units-most-2-via-then-units-most-2+else-is_boundary-2, else-units-most-2-via-else-units-most-2}

pub returns-then-units-most : goal.returns-then-units-most
returns-then-units-most c =
    let first = c.args.first in
    let at = c.loop-at.at in
    let inv = c.loop-at.invariant in
    let low : first ≤ at = omega arith in
    record {
      after = inv.after;
      before = omega (arith, inv.before, c.loop-at-test.true);
      boundary = inv.boundary;
      fits = inv.fits;
      greatest = λ other after before boundary fits. elim (cases_lt other at) [
        | inl h ↦ inv.greatest other after h boundary fits
        | inr h ↦ absurd (omega (arith, inv.counted, c.if-units-most.true, units_grow c.args.encoding c.args.text.now first at other low h, fits))
      ];
    }

pub overflow_add-units : goal.overflow_add-units
overflow_add-units c =
    omega (arith, c.loop-at.invariant.small, c.loop-at-test.true, c.requires.within, c.requires.small, c.unit-units.ensures, unit_small c.args.encoding (get_or c.args.text.now c.loop-at.at 0))

pub loop-at-preserved : goal.loop-at-preserved
loop-at-preserved c =
    let encoding = c.args.encoding in
    let text = c.args.text.now in
    let first = c.args.first in
    let at = c.loop-at.at in
    let found = c.if-is_boundary.found in
    let inv = c.loop-at.invariant in
    let low : first ≤ at = omega arith in
    let added = c.unit-units.ensures in
    let fits_at : units encoding text first at ≤ c.args.most = omega (arith, inv.counted, c.if-units-most.false) in
    record {
      counted = omega (arith, inv.counted, added, units_more encoding text first at low (omega (arith, c.loop-at-test.true, c.requires.within)));
      small = omega (arith, inv.small, added, unit_small encoding (get_or text at 0));
      after = elim c.if-is_boundary.branch [
        | then-is_boundary w ↦ omega (arith, w.found-is, low)
        | else-is_boundary w ↦ omega (arith, w.found-is, inv.after)
      ];
      before = elim c.if-is_boundary.branch [
        | then-is_boundary w ↦ omega (arith, w.found-is)
        | else-is_boundary w ↦ omega (arith, w.found-is, inv.before)
      ];
      boundary = elim c.if-is_boundary.branch [
        | then-is_boundary w ↦ subst (λ (k : ℕ). (is_boundary text k ≡ true) ⊎ (first ≡ k)) (sym w.found-is) (inl (sym c.is_boundary.ensures ∙ w.if-is_boundary.true))
        | else-is_boundary w ↦ subst (λ (k : ℕ). (is_boundary text k ≡ true) ⊎ (first ≡ k)) (sym w.found-is) inv.boundary
      ];
      fits = elim c.if-is_boundary.branch [
        | then-is_boundary w ↦ subst (λ (k : ℕ). units encoding text first k ≤ c.args.most) (sym w.found-is) fits_at
        | else-is_boundary w ↦ subst (λ (k : ℕ). units encoding text first k ≤ c.args.most) (sym w.found-is) inv.fits
      ];
      greatest = λ other after before boundary fits. elim c.if-is_boundary.branch [
        | then-is_boundary w ↦ omega (arith, w.found-is, before)
        | else-is_boundary w ↦ elim (cases_lt other at) [
          | inl h ↦ omega (arith, w.found-is, inv.greatest other after h boundary fits)
          | inr h ↦
              let e : other ≡ at = omega arith in
              let here : is_boundary text at ≡ true = subst (λ (k : ℕ). is_boundary text k ≡ true) e boundary in
              absurd (false≢true (sym w.if-is_boundary.false ∙ c.is_boundary.ensures ∙ here))
        ]
      ];
    }

pub returns-else-units-most-2 : goal.returns-else-units-most-2
returns-else-units-most-2 c =
    let encoding = c.args.encoding in
    let text = c.args.text.now in
    let first = c.args.first in
    let last = c.args.last in
    let at = c.loop-at.at in
    let inv = c.loop-at.invariant in
    let ordered = c.requires.ordered in
    let whole : at ≡ last = omega arith in
    record {
      after = inv.after;
      before = omega (arith, inv.before, whole);
      boundary = inv.boundary;
      fits = inv.fits;
      greatest = λ other after before boundary fits. elim (cases_lt other at) [
        | inl h ↦ inv.greatest other after h boundary fits
        | inr h ↦
            let e : other ≡ last = omega arith in
            let here : is_boundary text last ≡ true = subst (λ (k : ℕ). is_boundary text k ≡ true) e boundary in
            let same : other ≡ at = omega arith in
            let fits_at : units encoding text first at ≤ c.args.most = subst (λ (k : ℕ). units encoding text first k ≤ c.args.most) same fits in
            elim c.else-units-most-2.branch [
              | else-units-most-2-via-then-units-most-2+else-is_boundary-2 w ↦ absurd (false≢true (sym w.if-is_boundary-2.false ∙ w.is_boundary-then-units-most-2.ensures ∙ here))
              | else-units-most-2-via-else-units-most-2 w ↦ absurd (omega (arith, inv.counted, fits_at, w.if-units-most-2.false))
            ]
      ];
    }
