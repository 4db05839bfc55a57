use Rattle.std.proofs.Common.{◌≤◌, ℕ, length, sym, subst}
use Rattle.std.proofs.lemmas.List.Sums.{suffix_len-le-length}
use Rattle.og_text.specs.Lexemes.{is_word_byte}
use Rattle.og_lsp_names.proofs.front.front.Goals as goal

pub slice_bounds-result-count : goal.slice_bounds-result-count
slice_bounds-result-count c = subst (λ (n : ℕ). n ≤ length c.up_to-before.result.now) (sym c.letters_at_end-word.ensures) (suffix_len-le-length is_word_byte c.up_to-before.result.now)
