use Rattle.std.proofs.Common.{length}
use Rattle.og_lsp_server.proofs.publishing.+publish_each.Given as goal

abbrev pub decreases-publish_each : goal.decreases-publish_each
decreases-publish_each g l = length l.documents.now
