use Rattle.std.proofs.Common.{sym, ap, ◌∙◌, Bor, List, ℕ}
use Rattle.std.specs.Str.{bytes_eq}
use Rattle.og_typed.specs.Resolved.{number_in}
use Rattle.og_typed.proofs.Naming.{position-map}
use Rattle.og_typed.proofs.names.Names.number.Goals as goal

pub returns-in-Some-clause-found : goal.returns-in-Some-clause-found
returns-in-Some-clause-found c =
    c.in-Some.ensures.index
    ∙ sym (position-map (bytes_eq c.args.name.now) (λ (k : Bor (List ℕ)). k.now) c.self.inside.set.keys)
    ∙ ap (λ names. number_in names c.args.name.now) c.self.view_is

pub returns-in-None-clause-found : goal.returns-in-None-clause-found
returns-in-None-clause-found c =
    c.in-None.ensures.index
    ∙ sym (position-map (bytes_eq c.args.name.now) (λ (k : Bor (List ℕ)). k.now) c.self.inside.set.keys)
    ∙ ap (λ names. number_in names c.args.name.now) c.self.view_is
