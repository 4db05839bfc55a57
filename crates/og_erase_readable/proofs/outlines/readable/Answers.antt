use Rattle.std.proofs.Common.{◌≡◌, rules, ap, ◌∙◌}
use Rattle.og_parse.specs.TreeOf.{tree_of}
use Rattle.og_typed.specs.Resolved.{resolved}
use Rattle.og_erase_readable.specs.Readable as wanted
use Rattle.og_erase_readable.proofs.Resolve.{same_outline}
use Rattle.og_erase_readable.proofs.outlines.readable.Goals as goal

pub returns-clause-same : goal.returns-clause-same
returns-clause-same c = λ o e.
    let made : tree_of (record {
      vars = c.args.raw.vars;
      auxes = c.args.raw.auxes;
      pre = c.in_ok-pre.pre;
      prologue = c.in_ok-prologue.prologue;
      cobegin = c.args.raw.cobegin;
      processes = c.in_ok-processes.processes;
      epilogue = c.in_ok-epilogue.epilogue;
      post = c.in_ok-post.post;
    }) ≡ wanted.readable (tree_of c.args.raw) = search rules in
    ap resolved made ∙ same_outline (tree_of c.args.raw) o e
