use Rattle.std.proofs.Common.{length}
use Rattle.serde_json.specs.View.{view}
use Rattle.og_report_explore.proofs.Floats.{no_float_value_of}
use Rattle.og_report_explore.proofs.reporting.json.Goals as goal

pub bytes_of-requires : goal.bytes_of-requires
bytes_of-requires c =
    no_float_value_of c.names.result.now c.own-origins.result.source.now (length c.processes.result.now) c.cobegin_at.result (view c.in_ok-value.value) c.args.totals.now c.args.findings.now
    c.in_ok-value.ensures
