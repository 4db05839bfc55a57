use Rattle.std.proofs.Common.{◌≡◌, ◌++◌, ◌∷◌, [], rules, sym, subst}
use Rattle.std.specs.List.{All}
use Rattle.std.proofs.lemmas.List.Elements.{All-push}
use Rattle.og_typed.specs.declared.statement.Note.{Note}
use Rattle.og_typed.specs.Plain.{noted}
use Rattle.og_report_explain.specs.Explained.{IsTrueNote}
use Rattle.og_report_explain.proofs.explaining.known.Goals as goal
use denote.Ref.{Bor}

pub loop-at-preserved : goal.loop-at-preserved
loop-at-preserved c =
    let pushed : c.push.new.self.items ≡ c.loop-at.notes.items ++ c.in-Some.note ∷ [] = search rules in
    let known : Bor Note → Type 0 = λ n. IsTrueNote c.args.outline.now c.args.values.now (noted n.now) in
    subst (All known) (sym pushed) (All-push known c.loop-at.notes.items c.in-Some.note c.loop-at.invariant c.in-Some.ensures)
