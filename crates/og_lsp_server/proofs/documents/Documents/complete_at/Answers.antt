use Rattle.og_lsp_server.proofs.Kept.{texts_set, judged_set, judged_same}
use Rattle.og_lsp_server.proofs.documents.Documents.complete_at.Goals as goal

pub returns-clause-texts : goal.returns-clause-texts
returns-clause-texts g c = texts_set c.args.self.now.all.items c.args.place c.index_mut.result.now c.complete.new.self c.index_mut.ensures.value c.complete.ensures.text

pub returns-clause-judged : goal.returns-clause-judged
returns-clause-judged g c =
    judged_set c.args.self.now.all.items c.args.place c.index_mut.result.now c.complete.new.self c.index_mut.ensures.value (judged_same c.index_mut.result.now c.complete.new.self c.complete.ensures.text c.complete.ensures.judgement)
