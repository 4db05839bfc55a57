use Rattle.std.proofs.Common.{sym, ◌∙◌, inl, inr}
use Rattle.og_cert_text.specs.Plain.{plain_cert}
use Rattle.og_cert_text.specs.Shown.{shown}
use Rattle.og_cert_text.proofs.Adding.{entry_twice, entry_deep, entry_bad, entry_fine}
use Rattle.og_cert_text.proofs.file.CertFile.fault_of_entry.Goals as goal
use Rattle.og_cert_text.proofs.file.CertFile.fault_of_entry.Goals.{then-not-is_number-via-then-not-is_number, then-not-is_number-via-else-not-is_number+then-not-are_lines}

pub returns-then-has : goal.returns-then-has
returns-then-has c = sym (entry_twice c.args.n (plain_cert c.args.cert.now) (shown c.args.self.now) (sym c.has.ensures ∙ c.if-has.true))

pub returns-then-not-is_shallow : goal.returns-then-not-is_shallow
returns-then-not-is_shallow c = sym (entry_deep c.args.n (plain_cert c.args.cert.now) (shown c.args.self.now) (sym c.has.ensures ∙ c.if-has.false) (sym c.is_shallow.ensures ∙ c.if-not-is_shallow.true))

pub returns-then-not-is_number : goal.returns-then-not-is_number
returns-then-not-is_number c =
    elim c.then-not-is_number.branch [
      | then-not-is_number-via-then-not-is_number w ↦
          sym (entry_bad c.args.n (plain_cert c.args.cert.now) (shown c.args.self.now) (sym c.has.ensures ∙ c.if-has.false) (sym c.is_shallow.ensures ∙ c.if-not-is_shallow.false) (inl (sym c.is_number.ensures ∙ w.if-not-is_number.true)))
      | then-not-is_number-via-else-not-is_number+then-not-are_lines w ↦
          sym (entry_bad c.args.n (plain_cert c.args.cert.now) (shown c.args.self.now) (sym c.has.ensures ∙ c.if-has.false) (sym c.is_shallow.ensures ∙ c.if-not-is_shallow.false) (inr (sym w.are_lines.ensures ∙ w.if-not-are_lines.true)))
    ]

pub returns : goal.returns
returns c =
    sym (entry_fine c.args.n (plain_cert c.args.cert.now) (shown c.args.self.now) (sym c.has.ensures ∙ c.if-has.false) (sym c.is_shallow.ensures ∙ c.if-not-is_shallow.false)
    (sym c.is_number.ensures ∙ c.if-not-is_number.false) (sym c.are_lines.ensures ∙ c.if-not-are_lines.false))
