use Rattle.std.proofs.Common.{◌∙◌, ◌+◌, ◌++◌, ◌∷◌, ◌<◌, drop, ap, sym, arith, rules, FitsSigned}
use Rattle.std.proofs.lemmas.Int.{to_z-of_z}
use mir.Syntax.{w128}
use Rattle.std.proofs.lemmas.List.{append-nil}
use Rattle.og_cert_text.specs.Lines.{part_text, parts_text}
use Rattle.og_cert_text.proofs.Forms.{place_small}
use Rattle.og_cert_text.proofs.Writing.{parts_next, parts_end, one_more}
use Rattle.og_cert_text.proofs.write.put_parts.Goals as goal

pub overflow_add-i : goal.overflow_add-i
overflow_add-i c =
    let p = place_small c.args.form.now c.loop-v.i c.in-Some.v c.in-Some.a (sym c.in-Some.ensures.found) c.term.ensures.tidy in
    let small : c.in-Some.v < 4294967296 = search rules in
    omega (arith, p.0, p.1, small)

pub loop-v-smaller : goal.loop-v-smaller
loop-v-smaller c =
    let p = place_small c.args.form.now c.loop-v.i c.in-Some.v c.in-Some.a (sym c.in-Some.ensures.found) c.term.ensures.tidy in
    omega (arith, p.0, p.1)

pub loop-v-preserved : goal.loop-v-preserved
loop-v-preserved c =
    let ts = c.args.form.now.terms in
    let p = place_small c.args.form.now c.loop-v.i c.in-Some.v c.in-Some.a (sym c.in-Some.ensures.found) c.term.ensures.tidy in
    let range : FitsSigned w128 c.in-Some.a = search rules in
    let put = rw (to_z-of_z w128 c.in-Some.a range) at c.in_ok-put_part.ensures in
    record {
      so_far = one_more c.loop-v.text.items c.put_part.new.text.items (32 ∷ part_text (c.in-Some.v, c.in-Some.a)) (parts_text (drop c.loop-v.i ts)) (parts_text (drop (c.loop-v.i + 1) ts)) _
          put (parts_next ts c.loop-v.i c.in-Some.v c.in-Some.a (sym c.in-Some.ensures.found)) c.loop-v.invariant.so_far;
      within = omega (arith, p.0);
    }

pub returns : goal.returns
returns c =
    let ts = c.args.form.now.terms in
    sym (append-nil c.loop-v.text.items)
    ∙ ap (λ r. c.loop-v.text.items ++ r) (sym (parts_end ts c.loop-v.i (sym c.term.ensures.found ∙ c.in_default.is)))
    ∙ c.loop-v.invariant.so_far
