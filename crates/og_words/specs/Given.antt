-- What words give for a command's arguments.
use Rattle.std.specs.Prelude.{ℕ, Bool, false, List, [], Option, option_map, unwrap_or, codes}
use Rattle.std.specs.Option.{option_map_or}
use Rattle.std.specs.Str.{bytes_eq}
use Rattle.std.specs.Str.Parse.{digits_value, without_leading_plus}
use Rattle.clap.specs.Words.{Row, Text, all_of, first_of, one_of, subcommand_of}
use Rattle.og_words.specs.CommandLine.{og}

-- the value given for each argument of the command that is named, if one is
abbrev pub rows_below : Option (Text × List Row) → List Row
rows_below named = unwrap_or (option_map (λ p. p.1) named) []

abbrev pub given : List Text → List Row
given words = rows_below (subcommand_of og words)

-- the word for an argument
abbrev pub text_of : Text → List Row → Option Text
text_of = first_of

-- the number for an argument
abbrev pub number_of : Text → List Row → Option ℕ
number_of name rows = option_map (λ t. digits_value 10 (without_leading_plus t)) (one_of name rows)

-- whether a flag is given
abbrev pub is_given : Text → List Row → Bool
is_given name rows = option_map_or (λ t. bytes_eq t (codes "true")) (one_of name rows) false

-- the words for an argument, in their order
abbrev pub texts_of : Text → List Row → List Text
texts_of name rows = unwrap_or (all_of name rows) []
