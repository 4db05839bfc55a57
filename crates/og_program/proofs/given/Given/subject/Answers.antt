use Rattle.std.proofs.Common.{sym, subst, ℕ, List}
use Rattle.og_report_text.specs.Subject.{subject_of}
use Rattle.og_template_outline.specs.Meaning.{Means, IsMeaning}
use Rattle.og_program.proofs.given.Given.subject.Goals as goal

pub subject-requires : goal.subject-requires
subject-requires c = subst (λ (t : List ℕ). IsMeaning t c.args.self.now.reading.meaning) (sym c.deref.ensures.value) c.requires

pub returns-clause-means : goal.returns-clause-means
returns-clause-means c = subst (λ (t : List ℕ). Means t (subject_of c.subject.result)) c.deref.ensures.value c.subject.ensures.means
