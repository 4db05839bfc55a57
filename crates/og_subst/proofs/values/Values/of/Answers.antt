use Rattle.std.proofs.Common.{◌≡◌, ◌+◌, ◌<◌, ◌++◌, ◌∷◌, [], length, drop, get_or, rules, ap, sym, ◌∙◌, append_assoc}
use Rattle.std.proofs.lemmas.List.{drop_more}
use Rattle.og_subst.proofs.values.Values.of.Goals as goal

pub loop-value-preserved : goal.loop-value-preserved
loop-value-preserved c =
    let values = c.as_slice-values.result.now in
    let i = c.loop-value.value-index in
    let v = c.wide.result in
    let before = c.loop-value.numbers.items in
    let within : i < length values = search rules in
    let same : v ≡ get_or values i v = search rules in
    let pushed : c.push.new.self.items ≡ before ++ v ∷ [] = search rules in
    ap (λ l. l ++ drop (i + 1) values) pushed
    ∙ append_assoc before (v ∷ []) (drop (i + 1) values)
    ∙ ap (λ w. before ++ w ∷ drop (i + 1) values) same
    ∙ ap (λ l. before ++ l) (sym (drop_more values i v within))
    ∙ c.loop-value.invariant
