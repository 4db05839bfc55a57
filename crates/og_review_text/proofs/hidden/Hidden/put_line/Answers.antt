use Rattle.std.proofs.Common.{rules, ◌≡◌, ◌++◌}
use Rattle.std.specs.Prelude.{codes}
use Rattle.og_report_text.specs.Places.{position_of, position_text}
use Rattle.og_review_text.specs.Hidden.{word_of, finding_text}
use Rattle.og_report_text.proofs.Joins.{joined}
use Rattle.og_review_text.proofs.Joins.{when_ok}
use Rattle.og_review_text.proofs.hidden.Hidden.put_line.Goals as goal

pub returns : goal.returns
returns c =
    let h = c.args.self in
    let word = word_of h.in_comment in
    let place = position_text (position_of c.args.places.now h.at) in
    let finding = finding_text h.number in
    let end = codes "\n" in
    let before = c.args.text.now.items in
    let one = c.extend_from_slice.new.self.items in
    let two = c.extend_from_slice-2.new.self.items in
    let three = c.put_position.new.text.items in
    let four = c.put_finding.new.text.items in
    let after = c.extend_from_slice-3.new.self.items in
    let r = c.extend_from_slice-3.result in
    let e : one ≡ before ++ word = search rules in
    let g : three ≡ two ++ place = search rules in
    let last = when_ok r four after end c.extend_from_slice-3.ensures.items in
    let held = joined r three four after finding end c.in_ok-put_finding.ensures last in
    let placed = joined r two three after place (finding ++ end) g held in
    joined r before one after word (codes " at " ++ (place ++ (finding ++ end))) e
    (joined r one two after (codes " at ") (place ++ (finding ++ end)) c.in_ok-extend_from_slice-2.ensures.items placed)
