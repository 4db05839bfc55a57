use Rattle.std.proofs.Common.{◌++◌, Option, Bor, option_map, append-nil, sym, ap, ◌∙◌}
use Rattle.og_typed.specs.declared.statement.Seq.{Seq}
use Rattle.og_typed.specs.Plain.{sequence}
use Rattle.og_typed.specs.Syntax.{items, part_items}
use Rattle.og_typed.specs.Points.{sequence_rests, part_rests}
use Rattle.og_typed.specs.Table.{rests_of}
use Rattle.og_typed.proofs.Tables.{of_end, grown_none}
use Rattle.og_typed.proofs.points.add_part.Goals as goal

pub returns-in_ok-at-in-Some-clause-rest : goal.returns-in_ok-at-in-Some-clause-rest
returns-in_ok-at-in-Some-clause-rest c =
    c.in_ok-at-in-Some.ensures.rest
    ∙ ap (λ r. items (sequence c.in-Some.seq.now) ++ r) (of_end c.args.points.now.items)
    ∙ append-nil (items (sequence c.in-Some.seq.now))
    ∙ ap (λ (p : Option (Bor Seq)). part_items (option_map (λ q. sequence q.now) p)) (sym c.in-Some.is)

pub returns-in-None-clause-grown : goal.returns-in-None-clause-grown
returns-in-None-clause-grown c = grown_none c.args.points.now.items

pub returns-in-None-clause-rest : goal.returns-in-None-clause-rest
returns-in-None-clause-rest c =
    of_end c.args.points.now.items
    ∙ ap (λ (p : Option (Bor Seq)). part_items (option_map (λ q. sequence q.now) p)) (sym c.in-None.is)

pub returns-in_ok-at-in-Some-clause-table : goal.returns-in_ok-at-in-Some-clause-table
returns-in_ok-at-in-Some-clause-table c =
    let old = rests_of c.args.points.now.items in
    c.in_ok-at-in-Some.ensures.table
    ∙ ap (λ r. old ++ sequence_rests (sequence c.in-Some.seq.now) r) (of_end c.args.points.now.items)
    ∙ ap (λ (p : Option (Bor Seq)). old ++ part_rests (option_map (λ q. sequence q.now) p)) (sym c.in-Some.is)

pub returns-in-None-clause-table : goal.returns-in-None-clause-table
returns-in-None-clause-table c =
    let old = rests_of c.args.points.now.items in
    sym (append-nil old) ∙ ap (λ (p : Option (Bor Seq)). old ++ part_rests (option_map (λ q. sequence q.now) p)) (sym c.in-None.is)
