use Rattle.og_run.proofs.Steps.{begins}
use Rattle.og_run.proofs.arena.Unstarted.new.Goals as goal

pub of_words-requires : goal.of_words-requires
of_words-requires g c = begins _
