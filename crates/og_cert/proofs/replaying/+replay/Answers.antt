use Rattle.std.proofs.Common.{◌≡◌, ◌+◌, ◌<◌, List, map, length, Ok, Err, Vec, Global, Bor, sym, ap, ap₂, ◌∙◌, subst, arith}
use Rattle.std.proofs.lemmas.Result.{err_from_is_err_and}
use Rattle.og_facts.specs.declared.fact.Fact.{Fact}
use Rattle.og_facts.specs.Facts as plain
use Rattle.og_cert_text.specs.Tree.{SplitOn}
use Rattle.og_cert_text.specs.Plain.{with_steps, plain_finish}
use Rattle.og_cert.specs.Checks.{room}
use Rattle.og_cert.specs.Faults.{fault_from}
use Rattle.og_cert.specs.Steps.{split_for, certs_of}
use Rattle.og_cert.specs.Held.{facts_held}
use Rattle.og_cert.specs.Answer.{located, FailsWith, Replays}
use Rattle.og_cert.proofs.Trees.{part_of, split_of}
use Rattle.og_cert.proofs.Lines.{lines-with_steps, located_fails, located_passes, split_stops, split_replays, parts_from, part_full}
use Rattle.og_cert.proofs.replaying.+replay.Goals as goal

abbrev seen : Bor (List (Vec Fact Global)) → List (List plain.Fact)
seen parts = map part_of parts.now

pub replay_cert-returns-clause-replays : goal.replay_cert-returns-clause-replays
replay_cert-returns-clause-replays t c =
    let cert = c.args.cert.now in
    let steps = cert.steps.items in
    let finish = plain_finish cert.finish in
    let same = c.deref.ensures.value in
    let count = lines-with_steps steps finish in
    let long = ap length same in
    let taken = c.in_ok-last.ensures.taken in
    let replays = c.in_ok-next.ensures.replays in (
      ap (λ l. fault_from c.args.line c.args.variables (facts_held c.args.held.now.items) (with_steps l finish)) (sym same) ∙ taken.1 finish ∙ replays.0,
      omega (arith, count, long, taken.0, replays.1),
    )

pub replay_finish-returns-in_err-parts-in-Split-clause-replays :
    goal.replay_finish-returns-in_err-parts-in-Split-clause-replays
replay_finish-returns-in_err-parts-in-Split-clause-replays t c =
    let line = c.args.line in
    let n = c.args.variables in
    let fs = facts_held c.args.held.now.items in
    let i = c.in-Split.number in
    let certs = c.in-Split.certs.items in
    let p = err_from_is_err_and c.from_residual-in_err-parts-in-Split.result c.from_residual-in_err-parts-in-Split.ensures.1 in
    let fails : located line c.open_split.result ≡ Err p.0 = sym c.at_line-in-Split.ensures ∙ c.in_err-parts-in-Split.was ∙ ap Err (sym p.2) in
    let whole : plain_finish c.args.finish.now ≡ SplitOn i (certs_of certs) = ap plain_finish c.in-Split.is ∙ split_of i c.in-Split.certs in
    let counted : length certs ≡ c.len.result = omega (arith, c.in-Split.certs.ok.0) in
    let held : fs ≡ facts_held c.deref-in-Split.result.now = ap facts_held (sym c.deref-in-Split.ensures.value) in
    let same : split_for fs i (length certs) ≡ split_for (facts_held c.deref-in-Split.result.now) i c.len.result = ap₂ (λ gs m. split_for gs i m) held counted in
    rw p.1
    (subst (λ d. FailsWith p.0 (fault_from line n fs d)) (sym whole)
    (located_fails seen line c.open_split.result (split_for (facts_held c.deref-in-Split.result.now) i c.len.result) p.0 (fault_from line n fs (SplitOn i (certs_of certs))) c.open_split.ensures.opened fails
    (λ k e. split_stops line n i fs certs k (same ∙ e))))

pub replay_finish-returns-in_ok-parts-in-Split-clause-replays :
    goal.replay_finish-returns-in_ok-parts-in-Split-clause-replays
replay_finish-returns-in_ok-parts-in-Split-clause-replays t c =
    let line = c.args.line in
    let n = c.args.variables in
    let fs = facts_held c.args.held.now.items in
    let i = c.in-Split.number in
    let certs = c.in-Split.certs.items in
    let parts = c.in_ok-parts-in-Split.parts in
    let passes : located line c.open_split.result ≡ Ok parts = sym c.at_line-in-Split.ensures ∙ c.in_ok-parts-in-Split.was in
    let whole : plain_finish c.args.finish.now ≡ SplitOn i (certs_of certs) = ap plain_finish c.in-Split.is ∙ split_of i c.in-Split.certs in
    let counted : length certs ≡ c.len.result = omega (arith, c.in-Split.certs.ok.0) in
    let held : fs ≡ facts_held c.deref-in-Split.result.now = ap facts_held (sym c.deref-in-Split.ensures.value) in
    let same : split_for fs i (length certs) ≡ split_for (facts_held c.deref-in-Split.result.now) i c.len.result = ap₂ (λ gs m. split_for gs i m) held counted in
    let opened : split_for fs i (length certs) ≡ Ok (seen parts) =
    same ∙ located_passes seen line c.open_split.result (split_for (facts_held c.deref-in-Split.result.now) i c.len.result) parts c.open_split.ensures.opened passes
    in
    subst (λ d. Replays line n fs d c.replay_parts.result) (sym whole)
    (split_replays line n i fs certs (seen parts) c.replay_parts.result opened (rw c.deref-in-Split-2.ensures.value at c.replay_parts.ensures.replays))

pub replay_parts-returns-in_err-at_line-clause-replays :
    goal.replay_parts-returns-in_err-at_line-clause-replays
replay_parts-returns-in_err-at_line-clause-replays t c =
    let line = c.args.line in
    let n = c.args.variables in
    let fs = facts_held c.args.held.now.items in
    let parts = c.args.parts.now in
    let certs = c.args.certs.now in
    let i = c.loop-index.index in
    let part = c.index-parts-index.result in
    let p = err_from_is_err_and c.from_residual-in_err-at_line.result c.from_residual-in_err-at_line.ensures.1 in
    let fails : located line c.room_for.result ≡ Err p.0 = sym c.at_line.ensures ∙ c.in_err-at_line.was ∙ ap Err (sym p.2) in
    let in_certs : i < length certs = omega arith in
    let in_parts : i < length parts = omega arith in
    let same : fs ≡ facts_held c.deref.result.now = ap facts_held (sym (c.deref.ensures.value ∙ c.loop-index.invariant.kept)) in
    let size : length part.items ≡ length c.as_slice-part.result.now = ap length (sym c.as_slice-part.ensures.value) in
    rw p.1
    (located_fails (λ done. done) line c.room_for.result (room (facts_held c.deref.result.now) (length c.as_slice-part.result.now)) p.0 (parts_from 0 (line + 1) line n fs parts certs) c.room_for.ensures.room fails
    (λ k e.
    sym c.loop-index.invariant.faults
    ∙ part_full i c.loop-index.next line n fs parts certs part k in_parts c.index-parts-index.is in_certs
    (ap (λ gs. room gs (length part.items)) same ∙ ap (room (facts_held c.deref.result.now)) size ∙ e)))
