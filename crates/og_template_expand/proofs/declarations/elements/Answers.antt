use mir.Syntax.{w64}
use mir.Val.{SFits, to_z, of_z}
use Rattle.std.proofs.Common.{◌≡◌, pos, get_or, [], ◌∷◌, ◌∙◌, ap, sym, rules}
use Rattle.std.proofs.lemmas.Int.{to_z-of_z}
use Rattle.std.specs.Prelude.{Ok}
use Rattle.og_parse.specs.declared.raw.RawName.{RawName}
use Rattle.og_template_expand.specs.Outline.{one_element}
use Rattle.og_template_expand.specs.Answer.{Checked, ◌>>=◌, behind}
use Rattle.og_template_expand.proofs.Lists.{gathered_turn}
use Rattle.og_template_expand.proofs.declarations.elements.Goals as goal

pub loop-index-preserved : goal.loop-index-preserved
loop-index-preserved c =
    let values = c.deref-index-items.result.now in
    let i = c.loop-index.index-index in
    let fit : SFits w64 (get_or values i (pos 0)) = search rules in
    let out = c.loop-index.all.items in
    let x = to_z w64 (of_z w64 (get_or values i (pos 0))) in
    let made : behind out (one_element c.args.family.now x) ≡ Ok c.push.new.self.items =
    ap (λ (o : Checked RawName). behind out (o >>= λ n. Ok (n ∷ []))) c.in_ok-element_name.ensures ∙ ap Ok (sym c.in_ok-push.ensures.items) in
    gathered_turn (one_element c.args.family.now) out c.push.new.self.items values i (pos 0) x _ c.loop-index-test.true (to_z-of_z w64 _ fit) made c.loop-index.invariant
