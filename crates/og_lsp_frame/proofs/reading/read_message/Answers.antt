use Rattle.std.proofs.Common.{◌≡◌, ℕ, Vec, Global, arith, ap, ◌∙◌, subst}
use Rattle.std.proofs.lemmas.Result.{err_from_is_err_and}
use Rattle.og_lsp_frame.specs.Front.{front, Partial}
use Rattle.og_lsp_frame.specs.Read.{ReadsOn, FailsWith}
use Rattle.og_lsp_frame.proofs.Inputs.{reads_none, reads_on, no_message, reads_end, ends_within, fails_later, take_fails}
use Rattle.og_lsp_frame.proofs.reading.read_message.Goals as goal

pub loop-init : goal.loop-init
loop-init g c = record { read = reads_none _ c.args.frames.now; room = omega (arith, c.in_ok-chunk.ensures.len) }

pub loop-preserved : goal.loop-preserved
loop-preserved g c =
    let left = g.R.Read.remaining in
    let none = rw c.in_default.is at c.in_ok-body.ensures in
    let on = subst (λ z. ReadsOn (left c.loop.reader) (left c.read_more.new.reader) z c.read_more.new.frames) none.1 c.in_ok-read_more.ensures.on in
    record {
      read = reads_on (left c.args.reader.now) (left c.loop.reader) (left c.read_more.new.reader) c.args.frames.now c.loop.frames c.read_more.new.frames c.loop.invariant.read on;
      room = c.loop.invariant.room;
    }

pub returns-then-not-branch-clause-message : goal.returns-then-not-branch-clause-message
returns-then-not-branch-clause-message g c = no_message c.ended.result _ _ c.ended.ensures.end

pub returns-then-not-branch-clause-end : goal.returns-then-not-branch-clause-end
returns-then-not-branch-clause-end g c =
    let left = g.R.Read.remaining in
    let none = rw c.in_default.is at c.in_ok-body.ensures in
    let on = subst (λ z. ReadsOn (left c.loop.reader) (left c.read_more.new.reader) z c.read_more.new.frames) none.1 c.in_ok-read_more.ensures.on in
    let read = reads_on (left c.args.reader.now) (left c.loop.reader) (left c.read_more.new.reader) c.args.frames.now c.loop.frames c.read_more.new.frames c.loop.invariant.read on in
    let end = c.in_ok-read_more.ensures.end c.if-not-branch.true in
    reads_end c.ended.result (left c.args.reader.now) (left c.read_more.new.reader) c.args.frames.now c.read_more.new.frames read end.0 c.ended.ensures.end

pub returns-then-not-branch-clause-error : goal.returns-then-not-branch-clause-error
returns-then-not-branch-clause-error g c =
    let left = g.R.Read.remaining in
    let none = rw c.in_default.is at c.in_ok-body.ensures in
    let on = subst (λ z. ReadsOn (left c.loop.reader) (left c.read_more.new.reader) z c.read_more.new.frames) none.1 c.in_ok-read_more.ensures.on in
    let read = reads_on (left c.args.reader.now) (left c.loop.reader) (left c.read_more.new.reader) c.args.frames.now c.loop.frames c.read_more.new.frames c.loop.invariant.read on in
    let end = c.in_ok-read_more.ensures.end c.if-not-branch.true in
    let partial : front c.read_more.new.frames ≡ Partial = ap front (end.1 ∙ none.1) ∙ none.0 in
    ends_within c.ended.result (left c.args.reader.now) (left c.read_more.new.reader) c.args.frames.now c.read_more.new.frames read end.0 partial c.ended.ensures.error

pub returns-in_err-body-clause-error : goal.returns-in_err-body-clause-error
returns-in_err-body-clause-error g c =
    let left = g.R.Read.remaining in
    let p = err_from_is_err_and c.from_residual-in_err-body.result c.from_residual-in_err-body.ensures.1 in
    rw (p.1, p.2)
    (fails_later (left c.args.reader.now) (left c.loop.reader) (left c.loop.reader) c.args.frames.now c.loop.frames c.take.new.self _ c.loop.invariant.read
    (take_fails {X = Vec ℕ Global} (λ v. v.items) (left c.loop.reader) c.loop.frames c.take.new.self c.in_err-body.field-0.0 c.in_err-body.ensures))

pub returns-in_err-read_more-clause-error : goal.returns-in_err-read_more-clause-error
returns-in_err-read_more-clause-error g c =
    let left = g.R.Read.remaining in
    let none = rw c.in_default.is at c.in_ok-body.ensures in
    let p = err_from_is_err_and c.from_residual-in_err-read_more.result c.from_residual-in_err-read_more.ensures.1 in
    let fails = subst (λ z. FailsWith (left c.loop.reader) (left c.read_more.new.reader) z c.read_more.new.frames c.in_err-read_more.field-0.0) none.1 c.in_err-read_more.ensures.error in
    rw (p.1, p.2)
    (fails_later (left c.args.reader.now) (left c.loop.reader) (left c.read_more.new.reader) c.args.frames.now c.loop.frames c.read_more.new.frames c.in_err-read_more.field-0.0 c.loop.invariant.read fails)
