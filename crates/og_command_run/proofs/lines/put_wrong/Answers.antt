use Rattle.std.proofs.Common.{◌≡◌, ◌++◌, ℕ, OnOk, subst, sym, codes}
use Rattle.og_violation.specs.declared.violation.Wrong.{Wrong}
use Rattle.og_command_run.specs.Texts.{process_text, wrong_text}
use Rattle.og_command_run.proofs.lines.put_wrong.Goals as goal

pub returns-in-Assertion : goal.returns-in-Assertion
returns-in-Assertion c =
    let text = c.args.text.now.items in
    let after = c.put_assertion.new.text.items in
    subst (λ (w : Wrong). OnOk c.put_assertion.result (after ≡ text ++ wrong_text c.args.main w)) (sym c.in-Assertion.is)
    (subst (λ (n : ℕ). OnOk c.put_assertion.result (after ≡ text ++ (codes "assertion of " ++ process_text n))) c.printed_number.ensures c.put_assertion.ensures)
