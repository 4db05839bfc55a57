use Rattle.std.proofs.Common.{◌++◌, ap, ◌∙◌, codes, nat_eq, rules}
use Rattle.og_report_refusal.specs.Starting.{hint_text}
use Rattle.og_report_refusal.proofs.Hints.{where_some}
use Rattle.og_report_refusal.proofs.starting.put_help.Goals as goal

pub returns : goal.returns
returns c =
    where_some c.put_hint.result c.args.text.now.items c.extend_from_slice.new.self.items c.put_hint.new.text.items (codes "help: words NAME=INT give variables their values at the start, which are else 0")
    (hint_text c.args.names.now c.args.values.now c.args.start.now c.args.count) (nat_eq c.args.count 0) (search rules) (c.in_ok-extend_from_slice.ensures.items ∙ ap (λ l. c.args.text.now.items ++ l) c.as_bytes.ensures.value) c.put_hint.ensures
