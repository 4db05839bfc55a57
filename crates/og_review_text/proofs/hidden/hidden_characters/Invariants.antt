use Rattle.std.proofs.Common.{◌≡◌, ◌++◌, drop}
use Rattle.og_review_text.specs.Hidden.{told_from, hidden_characters}
use Rattle.og_review_text.proofs.hidden.hidden_characters.Given as goal

abbrev pub invariant-loop-at : goal.invariant-loop-at
invariant-loop-at l = l.all.items ++ told_from l.inside l.at (drop l.at l.source) ≡ hidden_characters l.source
