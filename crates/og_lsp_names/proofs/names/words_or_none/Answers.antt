use Rattle.std.proofs.Common.{inr, subst}
use Rattle.og_layout.specs.Faults.{IsErrorOfWords}
use Rattle.og_lsp_names.proofs.Naming.{no_words}
use Rattle.og_lsp_names.proofs.names.words_or_none.Goals as goal

pub returns-in-Err-Fault : goal.returns-in-Err-Fault
returns-in-Err-Fault c =
    let error = subst (IsErrorOfWords c.args.text.now) c.in-Err-Fault.field-0-is c.in-Err-Fault.ensures.error in
    inr (c.new.ensures.items, no_words c.args.text.now c.in-Err-Fault.field-0-0 error)
