use Rattle.std.proofs.Common.{ap, subst}
use Rattle.serde_json.specs.View.{view}
use Rattle.og_lsp_message.specs.Ids.{known_id}
use Rattle.og_lsp_server.specs.Methods.{method_named}
use Rattle.og_lsp_server.specs.Replies.{refused_with, text_or_none, id_in, AddsReply}
use Rattle.og_lsp_server.specs.Said.{said}
use Rattle.og_lsp_server.proofs.server.Server.take_call.Goals as goal

pub returns-clause-says : goal.returns-clause-says
returns-clause-says g c =
    let phase = c.args.self.now.phase in
    let d = view c.args.message.now.value in
    let old = said c.args.out.now in
    let new = said c.take_request.new.out in
    let method = ap text_or_none c.in-Some-Some.ensures in
    let id = ap known_id c.in-Some-Some.ensures' in
    subst (λ m. AddsReply (refused_with phase (method_named m)) (id_in d) old new) method
    (subst (λ i. AddsReply (refused_with phase (method_named c.in-Some-Some.method.now)) i old new) id c.in_ok-take_request-in-Some-Some.ensures.answered)
