use Rattle.std.specs.Prelude.{nat_le}
use Rattle.og_cert_text.specs.Lines.{is_number}
use Rattle.og_cert_text.specs.Shown.{shown}
use Rattle.og_cert_text.proofs.Forms.{and_parts}
use Rattle.og_cert_read.specs.Reading.{depth}
use Rattle.og_cert_read.specs.Reader.{frames_of, reading_of}
use Rattle.og_cert_read.proofs.Taking.{empty_split_good, split_done}
use Rattle.og_cert_read.proofs.reader.Reader.split.Goals as goal

pub finish-requires-clause-good : goal.finish-requires-clause-good
finish-requires-clause-good c =
    empty_split_good (depth (frames_of c.args.self.now)) c.args.fact c.new.result c.new.ensures.items c.requires.deep (and_parts (is_number c.args.fact) (nat_le c.args.count 10000) c.requires.good).0

pub returns-in_ok-finish-clause-reading : goal.returns-in_ok-finish-clause-reading
returns-in_ok-finish-clause-reading c =
    split_done (frames_of c.args.self.now) (shown c.args.self.now.file) c.args.n c.args.fact c.args.count c.new.result (reading_of c.finish.new.self) c.if-count-eq0.true c.new.ensures.items c.in_ok-finish.ensures.reading
