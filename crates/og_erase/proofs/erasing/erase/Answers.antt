use Rattle.std.proofs.Common.{◌≡◌, rules, map, option_map, sym, subst}
use Rattle.og_typed.specs.Erase.{erased}
use Rattle.og_typed.specs.Plain.{noted, sequence}
use Rattle.og_typed.specs.Rule.{IsOutline}
use Rattle.og_typed.specs.Syntax.{Program}
use Rattle.og_erase.proofs.Kept.{outline_left}
use Rattle.og_erase.proofs.erasing.erase.Goals as goal

pub new-outline-requires : goal.new-outline-requires
new-outline-requires c =
    let outline = c.args.outline.now in
    let made : Program = record {
      names = c.in_ok-names.names.items;
      vars = c.vars-vars.result;
      aux_values = c.new.result.items;
      pre = noted c.in_ok-pre.pre;
      prologue = option_map sequence c.in_ok-main.main.prologue;
      processes = map sequence c.in_ok-main.main.processes.items;
      epilogue = option_map sequence c.in_ok-main.main.epilogue;
      post = noted c.in_ok-post.post;
      cobegin_at = c.cobegin_at.result;
    } in
    let same : made ≡ erased outline = search rules in
    subst IsOutline (sym same) (outline_left outline c.follows_rule.ensures)
