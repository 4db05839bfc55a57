use denote.Param.Send.{sendable}
use Rattle.std.proofs.Crossing
use Rattle.og_infer_rounds.proofs.Shared.{scene_sync, universe_sync, lists_sync}
use Rattle.og_infer.proofs.inferring.Search.add_verdicts.Goals as goal

pub answers_ahead-requires-sync-N : goal.answers_ahead-requires-sync-N
answers_ahead-requires-sync-N g c κs within = search (scene_sync, universe_sync, lists_sync, Crossing.crosses, sendable) depth 60 fits 20000
