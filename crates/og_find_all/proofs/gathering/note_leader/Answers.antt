use Rattle.std.proofs.Common.{◌≡◌, Some, refl}
use Rattle.std.specs.Prelude.{slice_get}
use Rattle.std.proofs.lemmas.Option.{slice_get_read}
use Rattle.og_find_all.proofs.Gathered.{leader_known}
use Rattle.og_find_all.proofs.gathering.note_leader.Goals as goal

pub returns : goal.returns
returns c = λ cs verdicts firsts before.
    let leaders = c.args.leaders.now in
    let at : slice_get leaders c.args.place ≡ Some c.in-Some.index.now = slice_get_read leaders _ _ _ refl c.in-Some.ensures.lookup.3.0 c.in-Some.ensures.lookup.1 in
    c.note.ensures cs verdicts (leader_known cs leaders verdicts c.args.place c.in-Some.index.now firsts at) before
