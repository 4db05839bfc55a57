-- The form of which something is said.
use Rattle.og_linear.specs.Linear.{FormValue}
use Rattle.og_facts.specs.declared.relations.Subject.{Subject}
use Rattle.og_facts.specs.declared.relations.Subject.TheVariants as subject

abbrev pub form_in : Subject → FormValue
form_in (subject.Lent form) = form.now
form_in (subject.Made form) = form.now
