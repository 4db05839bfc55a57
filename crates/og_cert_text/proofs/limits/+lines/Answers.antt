use Rattle.std.proofs.Common.{sym, arith, inl, inr, ◌∙◌}
use Rattle.og_cert_text.proofs.Plains.{split_good, split_bad}
use Rattle.og_cert_text.proofs.limits.+lines.Goals as goal
use Rattle.og_cert_text.proofs.limits.+lines.Goals.{is_finish-then-not-is_number-via-then-not-is_number, is_finish-then-not-is_number-via-else-not-is_number+then-len}

pub is_finish-returns-then-not-is_number : goal.is_finish-returns-then-not-is_number
is_finish-returns-then-not-is_number t c =
    elim c.then-not-is_number.branch [
      | is_finish-then-not-is_number-via-then-not-is_number w ↦
          sym (split_bad c.args.finish.now c.in-Split.fact c.in-Split.parts c.in-Split.is (inl (sym c.is_number.ensures ∙ w.if-not-is_number.true)))
      | is_finish-then-not-is_number-via-else-not-is_number+then-len w ↦
          sym (split_bad c.args.finish.now c.in-Split.fact c.in-Split.parts c.in-Split.is (inr (omega (arith, w.if-len.true, w.len.ensures))))
    ]

pub is_finish-loop-part-init : goal.is_finish-loop-part-init
is_finish-loop-part-init t c =
    sym (split_good c.args.finish.now c.in-Split.fact c.in-Split.parts c.deref-part-items.result.now c.deref-part-items.ensures.value c.in-Split.is
    (sym c.is_number.ensures ∙ c.if-not-is_number.false) (omega (arith, c.if-len.false, c.len.ensures)))
