use Rattle.std.proofs.Common.{ℕ, ◌<◌, ◌≤◌, List, length, arith, ap, sym, ◌∙◌, subst}
use Rattle.og_lsp_text.specs.Positions.{line_of, IsPlaceOf}
use Rattle.og_lsp_text.specs.Starts.{last_at}
use Rattle.og_lsp_text.specs.Walk.{IsLastIn}
use Rattle.og_lsp_text.proofs.Starts.{line_within, lines_are}
use Rattle.og_lsp_text.proofs.Back.{is_place}
use Rattle.og_lsp_text.proofs.lines.Lines.place.Goals as goal

pub returns-then-line-starts-clause-found : goal.returns-then-line-starts-clause-found
returns-then-line-starts-clause-found c = λ le.
    let text = c.self.inside.text.now in
    let line = c.args.position.line in
    let here : line ≤ line_of text (length text) = subst (λ (z : List ℕ). line ≤ line_of z (length z)) (sym c.self.view_is) le in
    let count = lines_are text c.as_slice-starts.result.now (c.as_slice-starts.ensures.value ∙ c.self.invariant.starts_are) in
    absurd (omega (arith, c.if-line-starts.true, count, here))

pub last_boundary-requires-clause-ordered : goal.last_boundary-requires-clause-ordered
last_boundary-requires-clause-ordered c =
    let starts = c.as_slice-starts.result.now in
    let within = line_within c.self.inside.text.now starts c.args.position.line (c.as_slice-starts.ensures.value ∙ c.self.invariant.starts_are) (omega (arith, c.if-line-starts.false)) in
    omega (arith, c.start_of-first.ensures, c.last_of-last.ensures, within.ordered)

pub last_boundary-requires-clause-within : goal.last_boundary-requires-clause-within
last_boundary-requires-clause-within c =
    let starts = c.as_slice-starts.result.now in
    let within = line_within c.self.inside.text.now starts c.args.position.line (c.as_slice-starts.ensures.value ∙ c.self.invariant.starts_are) (omega (arith, c.if-line-starts.false)) in
    omega (arith, c.last_of-last.ensures, within.inside)

pub returns-clause-within : goal.returns-clause-within
returns-clause-within c =
    let starts = c.as_slice-starts.result.now in
    let within = line_within c.self.inside.text.now starts c.args.position.line (c.as_slice-starts.ensures.value ∙ c.self.invariant.starts_are) (omega (arith, c.if-line-starts.false)) in
    omega (arith, c.last_boundary.ensures.before, c.last_of-last.ensures, within.inside, ap length c.self.view_is)

pub returns-clause-found : goal.returns-clause-found
returns-clause-found c = λ le.
    let encoding = c.args.encoding in
    let text = c.self.inside.text.now in
    let starts = c.as_slice-starts.result.now in
    let position = c.args.position in
    let at = c.last_boundary.result in
    let found : IsLastIn encoding text c.start_of-first.result (last_at starts position.line (length text)) position.character at =
    subst (λ (last : ℕ). IsLastIn encoding text c.start_of-first.result last position.character at) c.last_of-last.ensures c.last_boundary.ensures in
    let here = subst (λ (first : ℕ). IsLastIn encoding text first (last_at starts position.line (length text)) position.character at) c.start_of-first.ensures found in
    subst (λ (z : List ℕ). IsPlaceOf encoding z position at) c.self.view_is
    (is_place encoding text starts position at (c.as_slice-starts.ensures.value ∙ c.self.invariant.starts_are) (omega (arith, c.if-line-starts.false)) here)

pub returns-clause-behind : goal.returns-clause-behind
returns-clause-behind c = λ lt.
    let text = c.self.inside.text.now in
    let line = c.args.position.line in
    let here : line_of text (length text) < line = subst (λ (z : List ℕ). line_of z (length z) < line) (sym c.self.view_is) lt in
    let count = lines_are text c.as_slice-starts.result.now (c.as_slice-starts.ensures.value ∙ c.self.invariant.starts_are) in
    absurd (omega (arith, c.if-line-starts.false, count, here))
