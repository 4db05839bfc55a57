use Rattle.og_parse.proofs.Counts.{place_left}
use Rattle.og_parse.proofs.whole.place.Goals as goal

pub returns-in-len1-up-tokens : goal.returns-in-len1-up-tokens
returns-in-len1-up-tokens c = place_left c.args.tokens.now c.args.rest.now c.last-item.result c.in-empty.len_below c.in-len1-up-tokens.len_at_least c.last-item.is
