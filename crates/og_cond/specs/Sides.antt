-- What the values stand for that interference is listed from.
use Rattle.std.specs.Prelude.{map}
use Rattle.og_typed.specs.Syntax.{Noted}
use Rattle.og_typed.specs.Plain.{noted}
use Rattle.og_subst.specs.Actions.{action_tree}
use Rattle.og_cond.specs.Conditions as plain
use Rattle.og_cond.specs.Crossing as crossing
use Rattle.og_cond.specs.Seen.{guarded}
use Rattle.og_cond.specs.declared.watched.Move.{Move}
use Rattle.og_cond.specs.declared.watched.Watched.{Watched}
use Rattle.og_cond.specs.declared.watched.Side.{Side}

abbrev pub action_of : Move → plain.Action
action_of m = record { at = m.at; hypotheses = guarded m.before m.guard; does = action_tree m.action }

abbrev pub note_of : Watched → Noted
note_of w = noted w.note.now

abbrev pub side_seen : Side → crossing.Side
side_seen s = record { actions = map action_of s.moves.items; notes = map note_of s.notes.items }
