-- The facts that a replay holds.
use Rattle.std.specs.Prelude.{List, map}
use Rattle.og_facts.specs.Facts.{Fact, Atom}
use Rattle.og_facts.specs.Plain.{plain_fact}
use Rattle.og_cert.specs.declared.held.Held.{Held}
use Rattle.og_cert.specs.declared.held.Held.TheVariants as held

abbrev pub held_fact : Held → Fact
held_fact (held.Given f) = plain_fact f.now
held_fact (held.Made g) = Atom g

abbrev pub facts_held : List Held → List Fact
facts_held = map held_fact
