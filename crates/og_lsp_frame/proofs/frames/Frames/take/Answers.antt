use Rattle.std.proofs.Common.{refl}
use Rattle.std.proofs.lemmas.Result.{err_from_is_err_and}
use Rattle.og_lsp_frame.proofs.frames.Frames.take.Goals as goal

pub returns-in_err-body : goal.returns-in_err-body
returns-in_err-body c =
    let p = err_from_is_err_and c.from_residual.result c.from_residual.ensures.1 in
    let found = rw c.in-Ok-Some.field-0-is at c.in-Ok-Some.ensures in
    rw (p.1, p.2) ((c.in-Ok-Some.parts.0.now, c.in-Ok-Some.parts.1.now, cc (c.as_slice.ensures.value)), refl)

pub returns-in_err-rest : goal.returns-in_err-rest
returns-in_err-rest c =
    let p = err_from_is_err_and c.from_residual-in_err-rest.result c.from_residual-in_err-rest.ensures.1 in
    let found = rw c.in-Ok-Some.field-0-is at c.in-Ok-Some.ensures in
    rw (p.1, p.2) ((c.in-Ok-Some.parts.0.now, c.in-Ok-Some.parts.1.now, cc (c.as_slice.ensures.value)), refl)
