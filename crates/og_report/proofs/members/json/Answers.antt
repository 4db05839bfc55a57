use Rattle.std.proofs.Common.{rules}
use Rattle.og_judge.specs.Shown.{entries_of}
use Rattle.og_report.proofs.Floats.{no_float_value}
use Rattle.og_report.proofs.Yes.{json_says_of}
use Rattle.og_report.proofs.members.json.Goals as goal

pub bytes_of-requires : goal.bytes_of-requires
bytes_of-requires c = no_float_value _ _ _ c.in_ok-value.ensures

pub returns-clause-unblocked : goal.returns-clause-unblocked
returns-clause-unblocked c = json_says_of (λ t. t.items) c.bytes_of.result c.args.source.now (entries_of c.args.judgement.now) (search rules)
