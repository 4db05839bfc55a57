use Rattle.std.proofs.Common.{map}
use Rattle.serde_json.specs.View.{view}
use Rattle.og_lsp_server.specs.Output.{Writes}
use Rattle.og_lsp_server.proofs.serving.write_all.Given as goal

abbrev pub invariant-loop-value : goal.invariant-loop-value
invariant-loop-value g l = Writes (map view l.yielded) (g.W.Write.contents l.initial.out) (g.W.Write.contents l.out)
