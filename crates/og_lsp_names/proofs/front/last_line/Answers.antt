use Rattle.std.proofs.Common.{◌≤◌, ℕ, length, sym, subst}
use Rattle.std.proofs.lemmas.List.Sums.{suffix_len-le-length}
use Rattle.og_text.specs.Lexemes.{in_line}
use Rattle.og_lsp_names.proofs.front.last_line.Goals as goal

pub overflow_sub-result : goal.overflow_sub-result
overflow_sub-result c = subst (λ (n : ℕ). n ≤ length c.args.bytes.now) (sym c.last_line_len-count.ensures) (suffix_len-le-length in_line c.args.bytes.now)
