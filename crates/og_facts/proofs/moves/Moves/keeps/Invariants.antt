use Rattle.std.proofs.Common.{◌≡◌, ◌-◌, ◌≤◌, length, drop}
use Rattle.og_facts.proofs.Moving.{none_named}
use Rattle.og_facts.proofs.moves.Moves.keeps.Given as goal

abbrev pub invariant-loop-var : goal.invariant-loop-var
invariant-loop-var l = record {
  inside : l.index ≤ length l.form.terms;
  same : none_named l.self (drop l.index l.form.terms) ≡ none_named l.self l.form.terms;
}

abbrev pub decreases-loop-var : goal.decreases-loop-var
decreases-loop-var l = length l.form.terms - l.index
