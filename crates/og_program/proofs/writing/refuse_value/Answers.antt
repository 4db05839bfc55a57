use Rattle.std.proofs.Common.{◌≡◌, ◌∙◌, ℕ, List, inl, subst}
use Rattle.og_program.specs.World.{stream}
use Rattle.og_program.specs.Written.{bad_value_text, Complains}
use Rattle.og_program.proofs.writing.refuse_value.Goals as goal

pub returns-in-Ok : goal.returns-in-Ok
returns-in-Ok g c =
    let same : c.deref.result.now ≡ bad_value_text c.args.bad.now = c.deref.ensures.value ∙ c.in-Ok.ensures in
    inl (subst (λ (text : List ℕ). Complains text 3 (stream g.E.Write.contents c.args.err.now c.complain.new.err) c.complain.result) same c.complain.ensures)
