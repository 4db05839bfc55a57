use Rattle.std.proofs.Common.{◌≡◌, drop, filter_map, None}
use Rattle.std.specs.Prelude.{option_map}
use Rattle.og_lsp_names.specs.Names.{last_or, name_there}
use Rattle.og_lsp_names.proofs.names.name_at.Given as goal

abbrev pub invariant-loop-word : goal.invariant-loop-word
invariant-loop-word l =
    last_or (option_map (λ n. (n.0.now, n.1)) l.found) (filter_map (name_there l.at) (drop l.word-index l.all)) ≡ last_or None (filter_map (name_there l.at) l.all)
