use Rattle.og_text.proofs.Found.{number_front, number_large}
use Rattle.og_text.proofs.front.digits.Goals as goal

pub returns-in-Some : goal.returns-in-Some
returns-in-Some c =
    let text = c.args.text.now in
    let len = c.digits_len-len.result in
    number_front text c.in-Some.value len c.requires.some c.requires.first c.digits_len-len.ensures c.in-Some.ensures.0 c.in-Some.ensures.1

pub returns-in-None : goal.returns-in-None
returns-in-None c =
    let text = c.args.text.now in
    let len = c.digits_len-len.result in
    number_large text len c.requires.some c.requires.first c.digits_len-len.ensures c.in-None.ensures
