use Rattle.std.proofs.Common.{◌≡◌, ◌≤◌, ◌<◌, ◌*◌, ◌⊎◌, ℕ, true}
use Rattle.og_lsp_text.specs.Positions.{units, is_boundary}
use Rattle.og_lsp_text.proofs.walk.last_boundary.Given as goal

abbrev pub invariant-loop-at : goal.invariant-loop-at
invariant-loop-at l = record {
  counted : l.units ≡ units l.encoding l.text l.first l.at;
  small : l.units ≤ l.at * 2;
  after : l.first ≤ l.found;
  before : l.found ≤ l.at;
  boundary : (is_boundary l.text l.found ≡ true) ⊎ (l.first ≡ l.found);
  fits : units l.encoding l.text l.first l.found ≤ l.most;
  greatest : (other : ℕ) → l.first ≤ other → other < l.at → is_boundary l.text other ≡ true → units l.encoding l.text l.first other ≤ l.most → other ≤ l.found;
}
