use Rattle.std.proofs.Common.{◌≡◌, ◌<◌, ◌-◌, get_or, take, ap, true, false, rules, arith, sym, ◌∙◌}
use Rattle.og_report_text.specs.Quotes.{is_blank, trimmed}
use Rattle.og_report_text.proofs.Cuts.{trim_more, trim_end}
use Rattle.og_report_text.proofs.quotes.trimmed.Goals.{then-loop-length-test+else-is_blank, else-loop-length-test}
use Rattle.og_report_text.proofs.quotes.trimmed.Goals as goal

pub loop-length-preserved : goal.loop-length-preserved
loop-length-preserved c =
    let bytes = c.args.bytes.now in
    let n = c.loop-length.length in
    let some : 0 < n = search rules in
    let blank : is_blank (get_or bytes (n - 1) 0) ≡ true = sym c.is_blank.ensures ∙ c.if-is_blank.true in
    record {
      inside = omega (arith, c.loop-length.invariant.inside);
      same = trim_more bytes n 0 some c.loop-length.invariant.inside blank ∙ c.loop-length.invariant.same;
    }

pub returns : goal.returns
returns c =
    let bytes = c.args.bytes.now in
    let n = c.loop-length.length in
    elim c.loop-length-test.branch [
      | then-loop-length-test+else-is_blank w ↦
          let some : 0 < n = search rules in
          let other : is_blank (get_or bytes (n - 1) 0) ≡ false = sym w.is_blank.ensures ∙ w.if-is_blank.false in
          sym (trim_end bytes n 0 some c.loop-length.invariant.inside other) ∙ c.loop-length.invariant.same
      | else-loop-length-test w ↦
          let none : n ≡ 0 = omega (arith, w.loop-length-test.false) in
          ap (λ k. take k bytes) none ∙ sym (ap (λ k. trimmed (take k bytes)) none) ∙ c.loop-length.invariant.same
    ]
