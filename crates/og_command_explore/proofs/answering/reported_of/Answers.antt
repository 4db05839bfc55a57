use Rattle.std.proofs.Common.{refl, map}
use Rattle.og_cond.specs.Seen.{seen}
use Rattle.og_command_explore.proofs.Adding.{each_one, complete_before, safe_none, unblocked_none}
use Rattle.og_command_explore.proofs.answering.reported_of.Goals as goal

pub returns-clause-each : goal.returns-clause-each
returns-clause-each c =
    each_one c.args.outline.now (map seen c.args.conditions.now) c.args.ranges.now c.args.found.now c.requires.found
    (record { findings = c.new.result; complete = c.args.found.now.complete }) c.add.new.reported c.add-2.new.reported c.add-3.new.reported c.add-4.new.reported
    c.new.ensures.items refl c.in_ok-add.ensures c.in_ok-add-2.ensures c.in_ok-add-3.ensures c.in_ok-add-4.ensures

pub returns-clause-complete : goal.returns-clause-complete
returns-clause-complete c =
    complete_before c.args.outline.now (map seen c.args.conditions.now) c.args.ranges.now c.args.found.now c.requires.found
    (record { findings = c.new.result; complete = c.args.found.now.complete }) c.add.new.reported c.add-2.new.reported c.add-3.new.reported c.add-4.new.reported
    c.new.ensures.items refl c.in_ok-add.ensures c.in_ok-add-2.ensures c.in_ok-add-3.ensures c.in_ok-add-4.ensures

pub returns-clause-safe : goal.returns-clause-safe
returns-clause-safe c =
    safe_none c.args.outline.now (map seen c.args.conditions.now) c.args.ranges.now c.args.found.now c.requires.found
    (record { findings = c.new.result; complete = c.args.found.now.complete }) c.add.new.reported c.add-2.new.reported c.add-3.new.reported c.add-4.new.reported
    c.new.ensures.items refl c.in_ok-add.ensures c.in_ok-add-2.ensures c.in_ok-add-3.ensures c.in_ok-add-4.ensures

pub returns-clause-unblocked : goal.returns-clause-unblocked
returns-clause-unblocked c =
    unblocked_none c.args.outline.now (map seen c.args.conditions.now) c.args.ranges.now c.args.found.now c.requires.found
    (record { findings = c.new.result; complete = c.args.found.now.complete }) c.add.new.reported c.add-2.new.reported c.add-3.new.reported c.add-4.new.reported
    c.new.ensures.items refl c.in_ok-add.ensures c.in_ok-add-2.ensures c.in_ok-add-3.ensures c.in_ok-add-4.ensures
