use Rattle.std.proofs.Common.{◌∷◌, [], ap, sym, ◌∙◌, option_map}
use Rattle.std.proofs.lemmas.List.{map-append}
use Rattle.og_cert_text.specs.Plain.{combination_of, ref_of}
use Rattle.og_cert_read.specs.Words.{terms_of, words_of}
use Rattle.og_cert_read.proofs.LineSteps.{with_front, term_stops, term_goes, shrinks}
use Rattle.og_cert_read.proofs.line.combination.Goals as goal

pub returns-in_default-term : goal.returns-in_default-term
returns-in_default-term c =
    term_stops (combination_of c.loop-rest.terms.items) (option_map (λ s. s.now) c.loop-rest.rest) c.in-Some.words.now c.split_at_byte.result.0.now _
    (ap (option_map (λ s. s.now)) c.in-Some.is) c.split_at_byte.ensures.before (ap (option_map (λ t. (t.times, ref_of t.source))) (sym c.in_default-term.is) ∙ c.term.ensures) c.loop-rest.invariant

pub loop-rest-smaller : goal.loop-rest-smaller
loop-rest-smaller c =
    shrinks (option_map (λ s. s.now) c.loop-rest.rest) (option_map (λ s. s.now) c.split_at_byte.result.1) c.in-Some.words.now (ap (option_map (λ s. s.now)) c.in-Some.is) c.split_at_byte.ensures.past

pub loop-rest-preserved : goal.loop-rest-preserved
loop-rest-preserved c =
    ap (λ ts. with_front ts (terms_of (words_of (option_map (λ s. s.now) c.split_at_byte.result.1)))) (ap combination_of c.in_ok-push.ensures.items ∙ map-append (λ t. (t.times, ref_of t.source)) c.loop-rest.terms.items (c.in-Some-term.t ∷ []))
    ∙ term_goes (combination_of c.loop-rest.terms.items) (option_map (λ s. s.now) c.loop-rest.rest) (option_map (λ s. s.now) c.split_at_byte.result.1) c.in-Some.words.now c.split_at_byte.result.0.now (c.in-Some-term.t.times, ref_of c.in-Some-term.t.source) _
    (ap (option_map (λ s. s.now)) c.in-Some.is) c.split_at_byte.ensures.before c.split_at_byte.ensures.past (ap (option_map (λ t. (t.times, ref_of t.source))) (sym c.in-Some-term.is) ∙ c.term.ensures) c.loop-rest.invariant
