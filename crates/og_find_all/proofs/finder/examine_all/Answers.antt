use Rattle.std.proofs.Common.{map, length, sym}
use Rattle.std.proofs.lemmas.List.{length-map}
use Rattle.og_cond.specs.Seen.{seen}
use Rattle.og_find_all.specs.declared.findings.Findings.{Findings}
use Rattle.og_find_all.proofs.Served.{are_verdicts}
use Rattle.og_find_all.proofs.finder.examine_all.Goals as goal

pub returns-clause-verdicts : goal.returns-clause-verdicts
returns-clause-verdicts g c =
    let cs = map seen c.args.conditions.now in
    let gathered = c.in_ok-gathered.gathered in
    let findings : Findings = record { places = c.in_ok-places.places; firsts = gathered.firsts; verdicts = gathered.verdicts; own = c.in_ok-own.own } in
    are_verdicts cs findings gathered.known.items c.deref-7.result.now c.deref-5.result.now c.deref-8.result.now (length c.args.conditions.now)
    c.deref-7.ensures.value c.deref-5.ensures.value c.deref-8.ensures.value
    c.in_ok-gathered.ensures.gathered c.in_ok-own.ensures.answers (sym (length-map c.args.conditions.now seen))
