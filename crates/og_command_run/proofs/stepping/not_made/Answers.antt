use Rattle.std.proofs.Common.{◌≡◌, List, ℕ, subst}
use Rattle.og_command_run.specs.Lines.{not_made_line}
use Rattle.og_command_run.proofs.stepping.not_made.Goals as goal

pub returns : goal.returns
returns c = record {
  place = c.in_ok-place.place;
  there = c.in_ok-place.ensures;
  answered = subst (λ (b : List ℕ). c.in_ok-line.line.items ≡ not_made_line b c.args.made c.args.process c.args.why c.in_ok-place.place) c.bytes.ensures.same c.in_ok-line.ensures;
}
