use Rattle.std.proofs.Common.{length, map, ap, ◌∙◌, arith}
use Rattle.std.proofs.lemmas.List.{length-map}
use Rattle.og_report_prove.specs.Together.{key_seen}
use Rattle.og_report_prove.proofs.Keys.{repeats_length}
use Rattle.og_report_findings.proofs.Keys.{keys_length}
use Rattle.og_report_findings.proofs.shown.shown.Goals as goal

pub repeats-requires : goal.repeats-requires
repeats-requires c =
    let items = ap length c.deref.ensures.value in
    let mapped = length-map c.in_ok-keys.keys.items key_seen in
    let same = ap length c.in_ok-keys.ensures in
    let all = keys_length c.args.rows c.args.entries.now in
    let few = c.requires in
    omega (arith, items, mapped, same, all, few)

pub with_more-requires : goal.with_more-requires
with_more-requires c =
    ap length c.deref-2.ensures.value ∙ ap length c.in_ok-repeats.ensures.more
    ∙ repeats_length (map key_seen c.deref.result.now)
    ∙ ap length (ap (map key_seen) c.deref.ensures.value ∙ c.in_ok-keys.ensures) ∙ keys_length c.args.rows c.args.entries.now
