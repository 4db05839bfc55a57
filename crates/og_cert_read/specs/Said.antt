-- What a line of the program says.
use Rattle.og_cert_read.specs.declared.line.Line.{Line}
use Rattle.og_cert_read.specs.declared.line.Line.TheVariants as its
use Rattle.og_cert_text.specs.Plain.{combination_of}
use Rattle.og_cert_text.specs.Lines as lines

abbrev pub said_line : Line → lines.Line
said_line (its.Condition n) = lines.ForCondition n
said_line (its.Same k) = lines.SameLine k
said_line (its.Sum ts) = lines.SumLine (combination_of ts.items)
said_line (its.Cut i d) = lines.CutLine i d
said_line (its.Branch f) = lines.BranchLine f
said_line (its.Split i k) = lines.SplitLine i k
said_line (its.Close ts) = lines.CloseLine (combination_of ts.items)
