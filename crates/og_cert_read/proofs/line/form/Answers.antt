use Rattle.std.proofs.Common.{ap, option_map}
use Rattle.og_cert_read.specs.Words.{words_of}
use Rattle.og_cert_read.proofs.LineSays.{parts_good}
use Rattle.og_cert_read.proofs.Tidy.{tidy_from}
use Rattle.og_cert_read.proofs.line.form.Goals as goal

pub of_terms-requires-clause-tidy : goal.of_terms-requires-clause-tidy
of_terms-requires-clause-tidy c =
    tidy_from 0 c.in-Some-2.parts.items (parts_good (words_of (option_map (λ s. s.now) c.split_at_byte.result.1)) _ c.in-Some-2.parts.items c.in_ok-parts.ensures (ap (option_map (λ v. v.items)) c.in-Some-2.is)).0

pub of_terms-requires-clause-fits : goal.of_terms-requires-clause-fits
of_terms-requires-clause-fits c =
    (parts_good (words_of (option_map (λ s. s.now) c.split_at_byte.result.1)) _ c.in-Some-2.parts.items c.in_ok-parts.ensures (ap (option_map (λ v. v.items)) c.in-Some-2.is)).1
