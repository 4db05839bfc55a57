use Rattle.std.proofs.Common.{◌≡◌, ◌++◌, drop, filter, map}
use Rattle.std.specs.Prelude.{not}
use Rattle.og_template_outline.specs.Words.{names_one}
use Rattle.og_template_outline.proofs.words.split_by.Given as goal

abbrev pub invariant-loop-word : goal.invariant-loop-word
invariant-loop-word l =
    let words = map (λ w. w.now) l.words in
    let rest = map (λ w. w.now) (drop l.word-index l.words) in
    record {
      naming : map (λ w. w.now) l.naming.items ++ filter (names_one l.constants) rest ≡ filter (names_one l.constants) words;
      others : map (λ w. w.now) l.starts.items ++ filter (λ w. not (names_one l.constants w)) rest ≡ filter (λ w. not (names_one l.constants w)) words;
    }
