use Rattle.std.proofs.Common.{◌∙◌, ◌++◌, sym, ap}
use Rattle.std.specs.Cmp.Rules.{signed_items}
use Rattle.og_completion.proofs.checking.begins_with_values.Goals as goal

pub returns : goal.returns
returns c = λ yes.
    let same = (signed_items c.split_at.result.0.now c.args.old.now).0 (sym c.eq.ensures ∙ yes) in
    (c.split_at.result.1.now, c.split_at.ensures.by_index.0 ∙ ap (λ front. front ++ c.split_at.result.1.now) same)
