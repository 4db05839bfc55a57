use Rattle.std.proofs.Common.{rules, ◌≡◌, ℕ, List, length, subst}
use Rattle.og_command_run.specs.Texts.{note_line}
use Rattle.og_command_run.proofs.asking.first_false.Goals as goal

pub returns : goal.returns
returns c =
    let line = c.in_ok-line.line.items in
    let found = c.in-Some.found in
    let place = c.in_ok-place.place in
    let main = length c.args.outline.now.processes in
    let steps : c.len-steps.result ≡ length found.history.items = search rules in
    let answered = subst (λ (k : ℕ). line ≡ note_line c.bytes.result.now c.main_number-main.result found.wrong place k) steps c.in_ok-line.ensures in (
      found,
      rw c.in-Some.is at c.in_ok-found.ensures.some,
      place,
      c.in_ok-place.ensures,
      subst (λ (b : List ℕ). line ≡ note_line b main found.wrong place (length found.history.items)) c.bytes.ensures.same
          (subst (λ (m : ℕ). line ≡ note_line c.bytes.result.now m found.wrong place (length found.history.items)) c.main_number-main.ensures answered),
    )
