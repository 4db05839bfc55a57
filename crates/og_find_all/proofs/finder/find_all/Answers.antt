use Rattle.std.proofs.Common.{map}
use Rattle.og_cond.specs.Seen.{seen}
use Rattle.og_cert_text.specs.Shown.{shown}
use Rattle.og_find_all.proofs.Filed.{all_of}
use Rattle.og_find_all.proofs.finder.find_all.Goals as goal

pub returns-clause-certificates : goal.returns-clause-certificates
returns-clause-certificates g c = all_of (map seen c.args.conditions.now) c.in_ok-findings.findings (shown c.in_ok-file.file) c.in_ok-findings.ensures.verdicts c.in_ok-file.ensures
