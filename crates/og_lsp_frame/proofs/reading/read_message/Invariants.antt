use Rattle.std.proofs.Common.{◌<◌, vec_len}
use Rattle.og_lsp_frame.specs.Read.{ReadsOn}
use Rattle.og_lsp_frame.proofs.reading.read_message.Given as goal

abbrev pub invariant-loop : goal.invariant-loop
invariant-loop g l = record {
  read : ReadsOn (g.R.Read.remaining l.initial.reader) (g.R.Read.remaining l.reader) l.initial.frames l.frames;
  room : 0 < vec_len l.chunk;
}
