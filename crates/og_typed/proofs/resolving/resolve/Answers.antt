use Rattle.std.proofs.Common.{◌≡◌, arith, rules}
use Rattle.std.specs.Prelude.{Ok}
use Rattle.og_parse.specs.TreeOf.{tree_of}
use Rattle.og_typed.specs.Outlined.{program}
use Rattle.og_typed.specs.Resolved.{resolved}
use Rattle.og_typed.specs.Syntax.{Program}
use Rattle.og_typed.proofs.Meets.{resolved_met}
use Rattle.og_typed.proofs.resolving.resolve.Goals as goal

pub invariant_of-result : goal.invariant_of-result
invariant_of-result c =
    let outline : Program = program (record {
      names = c.in_ok-names.names;
      vars = c.len-vars.result;
      aux_values = c.in_ok-aux_values.aux_values;
      pre = c.in_ok-pre.pre;
      prologue = c.in_ok-prologue.prologue;
      processes = c.in_ok-processes.processes;
      epilogue = c.in_ok-epilogue.epilogue;
      post = c.in_ok-post.post;
      cobegin_at = c.args.raw.cobegin.start;
    }) in
    let same : resolved (tree_of c.args.raw) ≡ Ok outline = search rules in
    resolved_met (tree_of c.args.raw) outline (omega arith) same
