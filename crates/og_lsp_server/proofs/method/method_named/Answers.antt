use Rattle.std.proofs.Common.{sym}
use Rattle.og_lsp_server.specs.Methods.{all_methods}
use Rattle.og_lsp_server.proofs.NoMethod.{none_named}
use Rattle.og_lsp_server.proofs.method.method_named.Goals as goal

pub returns-in_default : goal.returns-in_default
returns-in_default c =
    let n = c.in_default in
    sym
    (none_named c.args.name.now all_methods
    (n.not-initialize, (n.not-shutdown, (n.not-text, (n.not-text-2, (n.not-text-3, (n.not-text-4, (n.not-text-5, (n.not-text-6, (n.not-text-7, (n.not-text-8, (n.not-text-9, (n.not-text-10, (n.not-text-11, tt))))))))))))))
