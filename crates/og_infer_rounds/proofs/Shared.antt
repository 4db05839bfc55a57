-- What threads may share.
use denote.Ref.{NamedLft}
use denote.Param.Send.{IsSync, sendable}
use Rattle.std.proofs.Crossing
use Rattle.og_typed.proofs.assertion.Assert.TheLaws.TheKnot
use Rattle.og_infer_candidates.specs.contracts.candidates.Candidates as Candidates
use Rattle.og_infer_candidates.specs.contracts.universe.Universe as Universe
use Rattle.og_infer_rounds.specs.contracts.listing.Lists as Lists
use Rattle.og_infer_rounds.specs.contracts.scene.Scene as Scene
use Rattle.og_infer_rounds.specs.contracts.weakening.Useful as Useful

pub scene_sync : (a : NamedLft) → IsSync (Scene.the_row a)
scene_sync a = search (Crossing.crosses, TheKnot.crosses, sendable) depth 60 fits 20000

pub universe_sync : IsSync Universe.the_row
universe_sync = search (Crossing.crosses, sendable) depth 60 fits 20000

pub candidates_sync : IsSync Candidates.the_row
candidates_sync = search (Crossing.crosses, sendable) depth 60 fits 20000

pub lists_sync : IsSync Lists.the_row
lists_sync = search (Crossing.crosses, TheKnot.crosses, sendable) depth 60 fits 20000

pub useful_sync : IsSync Useful.the_row
useful_sync = search (Crossing.crosses, sendable) depth 60 fits 20000
