use Rattle.std.proofs.Common.{rules, ◌≡◌, ◌∙◌, ◌++◌, ap₂}
use Rattle.std.specs.Prelude.{codes}
use Rattle.std.specs.Fmt.{decimal}
use Rattle.og_report_conditions.proofs.Loops.{five}
use Rattle.og_report_conditions.proofs.choosing.no_condition.Goals as goal

pub returns : goal.returns
returns c =
    let first = codes "  there is no condition " in
    let second = codes ": they are numbered from 1 to " in
    let third = codes "\n" in
    let number : c.from.result ≡ c.args.number = search rules in
    let count : c.from-2.result ≡ c.args.count = search rules in
    five c.in_ok-line.line.items c.put_number.new.text.items c.extend_from_slice.new.self.items c.put_number-2.new.text.items c.extend_from_slice-2.new.self.items
    first (decimal c.from.result) second (decimal c.from-2.result) third
    c.in_ok-line.ensures.items c.in_ok-put_number.ensures.ok c.in_ok-extend_from_slice.ensures.items c.in_ok-put_number-2.ensures.ok c.in_ok-extend_from_slice-2.ensures.items
    ∙ ap₂ (λ n m. first ++ (decimal n ++ (second ++ (decimal m ++ third)))) number count
