use Rattle.std.proofs.Common.{rules, ◌≡◌, ◌++◌, ◌∷◌, [], ap, sym, ◌∙◌, option_map, ◌+◌}
use Rattle.og_cert_read.specs.Words.{parts_of, words_of}
use Rattle.og_cert_read.proofs.LineSteps.{with_front, part_stops, part_low, part_goes, shrinks}
use Rattle.og_cert_read.proofs.line.parts.Goals as goal

pub returns-in_default-part : goal.returns-in_default-part
returns-in_default-part c =
    part_stops c.loop-rest.parts.items c.loop-rest.low (option_map (λ s. s.now) c.loop-rest.rest) c.in-Some-rest.words.now c.split_at_byte.result.0.now _
    (ap (option_map (λ s. s.now)) c.in-Some-rest.is) c.split_at_byte.ensures.before (sym c.in_default-part.is ∙ c.part.ensures) c.loop-rest.invariant

pub returns-then-v-low : goal.returns-then-v-low
returns-then-v-low c =
    part_low c.loop-rest.parts.items c.loop-rest.low (option_map (λ s. s.now) c.loop-rest.rest) c.in-Some-rest.words.now c.split_at_byte.result.0.now (c.in-Some-part.v, c.in-Some-part.a) _
    (ap (option_map (λ s. s.now)) c.in-Some-rest.is) c.split_at_byte.ensures.before (sym c.in-Some-part.is ∙ c.part.ensures) c.if-v-low.true c.loop-rest.invariant

pub loop-rest-smaller : goal.loop-rest-smaller
loop-rest-smaller c =
    shrinks (option_map (λ s. s.now) c.loop-rest.rest) (option_map (λ s. s.now) c.split_at_byte.result.1) c.in-Some-rest.words.now (ap (option_map (λ s. s.now)) c.in-Some-rest.is) c.split_at_byte.ensures.past

pub loop-rest-preserved : goal.loop-rest-preserved
loop-rest-preserved c =
    let pushed : c.push.new.self.items ≡ c.loop-rest.parts.items ++ (c.in-Some-part.v, c.in-Some-part.a) ∷ [] = search rules in
    ap (λ ts. with_front ts (parts_of (c.in-Some-part.v + 1) (words_of (option_map (λ s. s.now) c.split_at_byte.result.1)))) pushed
    ∙ part_goes c.loop-rest.parts.items c.loop-rest.low (option_map (λ s. s.now) c.loop-rest.rest) (option_map (λ s. s.now) c.split_at_byte.result.1) c.in-Some-rest.words.now c.split_at_byte.result.0.now (c.in-Some-part.v, c.in-Some-part.a) _
    (ap (option_map (λ s. s.now)) c.in-Some-rest.is) c.split_at_byte.ensures.before c.split_at_byte.ensures.past (sym c.in-Some-part.is ∙ c.part.ensures) c.if-v-low.false c.loop-rest.invariant
