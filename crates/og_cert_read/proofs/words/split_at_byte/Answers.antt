use Rattle.std.proofs.Common.{◌∙◌, ap, arith, Some}
use Rattle.og_cert_read.proofs.Split.{before_at, before_none, tail_all}
use Rattle.og_cert_read.proofs.words.split_at_byte.Goals as goal

pub returns-then-b-byte-clause-before : goal.returns-then-b-byte-clause-before
returns-then-b-byte-clause-before c = (before_at c.args.text.now c.args.byte c.loop-i.i c.loop-i-test.true c.if-b-byte.true c.loop-i.invariant).0

pub returns-then-b-byte-clause-past : goal.returns-then-b-byte-clause-past
returns-then-b-byte-clause-past c = ap Some (tail_all c.args.text.now c.loop-i.i) ∙ (before_at c.args.text.now c.args.byte c.loop-i.i c.loop-i-test.true c.if-b-byte.true c.loop-i.invariant).1

pub returns-clause-before : goal.returns-clause-before
returns-clause-before c = (before_none c.args.text.now c.args.byte (λ k lt. c.loop-i.invariant k (omega arith))).0

pub returns-clause-past : goal.returns-clause-past
returns-clause-past c = (before_none c.args.text.now c.args.byte (λ k lt. c.loop-i.invariant k (omega arith))).1
