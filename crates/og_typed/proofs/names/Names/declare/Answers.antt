use Rattle.std.proofs.Common.{◌≡◌, ◌<◌, ℕ, List, Bor, length, map, sym, ap, ap₂, ◌∙◌, subst, arith}
use Rattle.std.specs.Prelude.{Ok}
use Rattle.og_typed.specs.Resolved.{number_in, declared}
use Rattle.og_typed.proofs.Naming.{declare_step}
use Rattle.og_typed.proofs.names.Names.declare.Goals as goal

pub returns-clause-answer : goal.returns-clause-answer
returns-clause-answer c =
    let keys = c.self.inside.set.keys in
    let new = c.insert.new.self.keys in
    let room : length (map (λ (n : Bor (List ℕ)). n.now) keys) < 256 = omega (arith, c.len.ensures.len, ap (length {A = List ℕ}) c.self.view_is) in
    subst (λ names. declared names c.args.name.now ≡ Ok (map (λ (n : Bor (List ℕ)). n.now) new)) c.self.view_is
    (declare_step keys new c.as_slice-2.result c.args.name.now c.number.result
    (c.number.ensures.found ∙ ap₂ number_in (sym c.self.view_is) c.as_slice.ensures)
    (sym c.is_some.ensures ∙ c.if-is_some.false)
    room
    c.as_slice-2.ensures
    c.in_ok-insert.ensures.keys)
