use Rattle.og_text.proofs.OneCut.{places_tokens, places_fault}
use Rattle.og_text.proofs.laws.places_within.Goals as goal

pub returns-clause-tokens : goal.returns-clause-tokens
returns-clause-tokens c = places_tokens

pub returns-clause-fault : goal.returns-clause-fault
returns-clause-fault c = places_fault
