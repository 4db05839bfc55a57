use Rattle.std.proofs.Common.{◌≡◌, rules}
use Rattle.og_lsp_document.specs.Parts.{found, with_one}
use Rattle.og_lsp_document.proofs.Counting.{one_added}
use Rattle.og_lsp_document.proofs.parts.add_one.Goals as goal

pub returns : goal.returns
returns c =
    let is : c.with_one.result ≡ with_one c.args.is_proved (found c.args.at c.args.asked.now) = search rules in
    one_added c.args.asked.now c.insert.new.self c.args.at c.args.is_proved c.with_one.result is c.in_ok-insert.ensures.updates
