use Rattle.std.proofs.Common.{◌∙◌, ap, sym, codes, Some}
use Rattle.std.specs.Str.Parse.{ParsesUnsigned, ExplainsUnsignedError, HasUnsignedDigitsIfOk}
use Rattle.std.proofs.lemmas.Option.{IfSome_then}
use Rattle.clap.specs.Words.{found_of}
use Rattle.og_words.proofs.Read.{number_read}
use Rattle.og_words.proofs.words.questions_of.Goals as goal

pub returns : goal.returns
returns c =
    let read = number_read 64 (λ t r. ParsesUnsigned 64 10 t r × ExplainsUnsignedError 10 t r × HasUnsignedDigitsIfOk t r) (found_of c.args.m.now) (codes "limit")
    (Some c.in_ok-get_one.field-0) (λ t r given. given.0) c.in_ok-get_one.ensures.none c.in_ok-get_one.ensures.value in
    IfSome_then c.new.result c.new.ensures.same (λ n is. read ∙ ap Some (sym is))
