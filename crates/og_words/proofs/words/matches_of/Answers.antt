use Rattle.std.proofs.Common.{◌∙◌, ap}
use Rattle.std.specs.Prelude.{map, string_bytes}
use Rattle.clap.specs.Words.{App, is_simple, subcommand_of}
use Rattle.og_words.proofs.Read.{og_is_simple}
use Rattle.og_words.proofs.words.matches_of.Goals as goal

pub returns-in-Ok : goal.returns-in-Ok
returns-in-Ok c =
    (c.in-Ok.ensures.matches (ap is_simple c.in_ok-program.ensures ∙ og_is_simple)).1 ∙ ap (λ (a : App). subcommand_of a (map (λ w. string_bytes w) c.args.words.now)) c.in_ok-program.ensures
