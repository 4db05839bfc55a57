use Rattle.std.proofs.Common.{ap, sym, ◌∙◌, option_map}
use Rattle.og_cert_read.specs.Said.{said_line}
use Rattle.og_cert_read.specs.Words.{line_of}
use Rattle.og_cert_read.specs.Reader.{version_of, reading_of}
use Rattle.og_cert_read.proofs.LineSays.{line_sound}
use Rattle.og_cert_read.proofs.Pieces.{no_line_end, no_line, line_refused, line_taken, past_less, passed}
use Rattle.og_cert_read.proofs.reader.Reader.next.Goals as goal

pub returns-in_default-clause-next : goal.returns-in_default-clause-next
returns-in_default-clause-next c =
    no_line_end (version_of c.args.version) c.args.at (reading_of c.args.self.now) c.args.text.now c.bad_line.result
    (sym c.split_at_byte.ensures.past ∙ ap (option_map (λ s. s.now)) c.in_default.is) c.requires.some c.bad_line.ensures

pub returns-in_default-2-clause-next : goal.returns-in_default-2-clause-next
returns-in_default-2-clause-next c =
    no_line (version_of c.args.version) c.args.at (reading_of c.args.self.now) c.args.text.now c.in-Some.rest.now c.bad_line-in_default-2.result
    (sym c.split_at_byte.ensures.past ∙ ap (option_map (λ s. s.now)) c.in-Some.is)
    (sym (ap (option_map said_line) c.in_default-2.is) ∙ c.in_ok-line.ensures ∙ ap line_of c.split_at_byte.ensures.before) c.bad_line-in_default-2.ensures

pub take-requires-clause-good : goal.take-requires-clause-good
take-requires-clause-good c =
    (line_sound c.split_at_byte.result.0.now (said_line c.in-Some-2.line) (sym c.in_ok-line.ensures ∙ ap (option_map said_line) c.in-Some-2.is)).1

pub returns-in_err-take-clause-next : goal.returns-in_err-take-clause-next
returns-in_err-take-clause-next c =
    passed c.from_residual-in_err-take.result _ c.in_err-take.field-0.0 _
    (line_refused (version_of c.args.version) c.args.at (reading_of c.args.self.now) c.args.text.now c.in-Some.rest.now (said_line c.in-Some-2.line) c.in_err-take.field-0.0
    (sym c.split_at_byte.ensures.past ∙ ap (option_map (λ s. s.now)) c.in-Some.is)
    (sym (ap (option_map said_line) c.in-Some-2.is) ∙ c.in_ok-line.ensures ∙ ap line_of c.split_at_byte.ensures.before) c.in_err-take.ensures)
    c.from_residual-in_err-take.ensures

pub returns-clause-next : goal.returns-clause-next
returns-clause-next c =
    record {
      less = past_less c.args.text.now c.in-Some.rest.now (sym c.split_at_byte.ensures.past ∙ ap (option_map (λ s. s.now)) c.in-Some.is);
      same =
          line_taken (version_of c.args.version) c.args.at (reading_of c.args.self.now) (reading_of c.take.new.self) c.args.text.now c.in-Some.rest.now (said_line c.in-Some-2.line)
          (sym c.split_at_byte.ensures.past ∙ ap (option_map (λ s. s.now)) c.in-Some.is)
          (sym (ap (option_map said_line) c.in-Some-2.is) ∙ c.in_ok-line.ensures ∙ ap line_of c.split_at_byte.ensures.before) c.in_ok-take.ensures.0;
      sound = c.in_ok-take.ensures.1;
    }
