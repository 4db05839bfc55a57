use Rattle.std.proofs.Common.{◌<◌, ap, length, le_refl, arith, rules}
use Rattle.og_cert_read.specs.Reading.{read_lines}
use Rattle.og_cert_read.specs.Reader.{version_of, lines_of}
use Rattle.og_cert_read.proofs.Headers.{few_lines}
use Rattle.og_cert_read.proofs.read.read_rest.Goals as goal

pub loop-rest-init : goal.loop-rest-init
loop-rest-init c =
    record {
      same = ap (λ r. read_lines (version_of c.args.version) 2 r (lines_of c.args.text.now)) c.new-reader.ensures.reading;
      sound = c.new-reader.ensures.sound;
      few = few_lines (length c.args.text.now) c.requires;
      left = le_refl (length c.args.text.now);
    }

pub returns-in_err-rest-clause-memory : goal.returns-in_err-rest-clause-memory
returns-in_err-rest-clause-memory c = λ _. let some : 0 < length c.loop-rest.rest.now = search rules in omega arith
