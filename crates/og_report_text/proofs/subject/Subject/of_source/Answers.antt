use Rattle.og_report_text.proofs.subject.Subject.of_source.Goals as goal

pub returns-clause-short : goal.returns-clause-short
returns-clause-short c = (c.bytes-own.ensures.short, c.bytes-own.ensures.short)
