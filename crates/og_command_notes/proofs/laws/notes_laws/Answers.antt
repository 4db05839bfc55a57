use Rattle.og_command_notes.proofs.Listing.{steps_are_listed, claims_are_listed}
use Rattle.og_command_notes.proofs.laws.notes_laws.Goals as goal

pub returns-clause-steps : goal.returns-clause-steps
returns-clause-steps c = steps_are_listed

pub returns-clause-claims : goal.returns-clause-claims
returns-clause-claims c = claims_are_listed
