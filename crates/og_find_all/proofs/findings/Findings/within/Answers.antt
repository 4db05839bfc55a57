use Rattle.std.proofs.Common.{refl, arith}
use Rattle.og_find_all.proofs.Texts.{is_text, is_too_long, longer_of, within_of}
use Rattle.og_find_all.proofs.findings.Findings.within.Goals as goal

pub returns-then-not-is_within : goal.returns-then-not-is_within
returns-then-not-is_within c = λ cs h.
    let longer = longer_of c.args.self c.args.limit c.in_ok-is_within.is_within c.in_ok-is_within.ensures c.if-not-is_within.true in
    is_too_long cs c.args.self c.in_ok-certificates.field-0 c.args.limit h c.in_ok-certificates.ensures longer

pub returns : goal.returns
returns c = λ cs h.
    let within = within_of c.args.self c.args.limit c.in_ok-is_within.is_within c.in_ok-is_within.ensures c.if-not-is_within.false in
    let few = c.requires.few in
    let same = h.0 in
    is_text cs c.args.self _ c.args.limit h (omega (arith, few, same)) refl within c.requires.count c.requires.conditions
