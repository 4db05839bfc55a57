use Rattle.std.proofs.Common.{◌≡◌, ◌∙◌, ◌<◌, true, false, sym, arith}
use Rattle.std.proofs.lemmas.Result.{err_from_is_err_and}
use Rattle.og_lsp_frame.specs.Front.{first_line, Line, is_blank}
use Rattle.og_lsp_frame.proofs.Steps.{header_more, header_whole, header_long}
use Rattle.og_lsp_frame.proofs.header.read_header.Goals as goal

pub returns-in_err-line : goal.returns-in_err-line
returns-in_err-line c =
    let lt : c.loop.counter < c.args.lines = omega arith in
    let long = header_long c.args.lines c.loop.counter c.loop.length c.loop.rest.now lt c.in_err-line.ensures.0 in
    let fault = c.in_err-line.ensures.1 in
    let p = err_from_is_err_and c.from_residual.result c.from_residual.ensures.1 in
    rw p.1 (sym c.loop.invariant ∙ long ∙ cc)

pub returns-then-is_blank : goal.returns-then-is_blank
returns-then-is_blank c =
    let lt : c.loop.counter < c.args.lines = omega arith in
    let first : first_line c.loop.rest.now ≡ Line c.in-Some.line.now c.in-Some.behind.now = rw c.in-Some.is at c.in_ok-line.ensures in
    let blank : is_blank c.in-Some.line.now ≡ true = sym c.is_blank.ensures ∙ c.if-is_blank.true in
    sym c.loop.invariant ∙ header_whole c.args.lines c.loop.counter c.loop.length c.loop.rest.now c.in-Some.line.now c.in-Some.behind.now lt first blank

pub loop-preserved : goal.loop-preserved
loop-preserved c =
    let lt : c.loop.counter < c.args.lines = omega arith in
    let first : first_line c.loop.rest.now ≡ Line c.in-Some.line.now c.in-Some.behind.now = rw c.in-Some.is at c.in_ok-line.ensures in
    let some : is_blank c.in-Some.line.now ≡ false = sym c.is_blank.ensures ∙ c.if-is_blank.false in
    let more = header_more c.args.lines c.loop.counter c.loop.length c.loop.rest.now c.in-Some.line.now c.in-Some.behind.now lt first some in
    rw (c.or-length.ensures, c.length_told.ensures) (sym more ∙ c.loop.invariant)
