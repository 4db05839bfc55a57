use Rattle.std.proofs.Common.{length, inr, subst}
use Rattle.std.proofs.lemmas.List.Elements.{All-weaker}
use Rattle.og_text.specs.Lexed.{LiesWithin, IsErrorOf}
use Rattle.og_text.proofs.OneCut.{no_fault, places_tokens}
use Rattle.og_parse.specs.Expected.{HoldsBytes}
use Rattle.og_lsp_names.proofs.choosing.outline_choices.Goals as goal

pub choices_behind-requires : goal.choices_behind-requires
choices_behind-requires c =
    let front = c.args.front.now in
    let tokens = c.in-Ok.tokens.items in
    All-weaker (LiesWithin (length front)) HoldsBytes (λ t h. h.0) tokens (places_tokens front tokens c.in-Ok.ensures.tokens)

pub returns-in-Err-Fault : goal.returns-in-Err-Fault
returns-in-Err-Fault c =
    let front = c.args.front.now in
    let fault = c.in-Err-Fault.field-0-0 in
    inr (c.new.ensures.items, λ tokens are. no_fault front tokens fault are (subst (IsErrorOf front) c.in-Err-Fault.field-0-is c.in-Err-Fault.ensures.error))
