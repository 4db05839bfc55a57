use Rattle.std.proofs.Common.{take, sym, arith}
use Rattle.og_text.proofs.Found.{word_front, word_large, name_front, keyword_spells}
use Rattle.og_text.proofs.front.word.Goals as goal

pub returns-then-len-gt-NAME_LIMIT : goal.returns-then-len-gt-NAME_LIMIT
returns-then-len-gt-NAME_LIMIT c = word_large c.args.text.now c.word_len-len.result c.requires.some c.requires.first c.word_len-len.ensures c.if-len-gt-NAME_LIMIT.true

pub returns-in-Some : goal.returns-in-Some
returns-in-Some c =
    let text = c.args.text.now in
    let len = c.word_len-len.result in
    let k = keyword_spells (take len text) c.in-Some.kind (sym c.in-Some.ensures) in
    word_front text c.in-Some.kind len c.requires.some c.requires.first c.word_len-len.ensures k.0 k.2

pub returns : goal.returns
returns c =
    let text = c.args.text.now in
    let len = c.word_len-len.result in
    name_front text c.in_ok-name.name len c.requires.some c.requires.first c.word_len-len.ensures (sym c.in_default.ensures) c.in_ok-name.ensures.copied (omega arith)
