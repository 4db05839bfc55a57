use Rattle.std.proofs.Common.{◌≡◌, ◌+◌, ◌≤◌, length}
use Rattle.og_cert_read.specs.Reading.{read_lines, nothing_read}
use Rattle.og_cert_read.specs.Reader.{version_of, lines_of, reading_of, IsSound}
use Rattle.og_cert_read.proofs.read.read_rest.Given as goal

-- the rest stands for the same as the whole
abbrev pub invariant-loop-rest : goal.invariant-loop-rest
invariant-loop-rest l = record {
  same : read_lines (version_of l.version) l.at (reading_of l.reader) (lines_of l.rest) ≡ read_lines (version_of l.version) 2 nothing_read (lines_of l.text);
  sound : IsSound l.reader;
  few : l.at + length l.rest ≤ 67108866;
  left : length l.rest ≤ length l.text;
}

abbrev pub decreases-loop-rest : goal.decreases-loop-rest
decreases-loop-rest l = length l.rest
