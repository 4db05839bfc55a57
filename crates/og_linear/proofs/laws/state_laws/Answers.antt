use Rattle.og_linear.proofs.Put.{put_at, put_set, proper_put}
use Rattle.og_linear.proofs.laws.state_laws.Goals as goal

pub returns-clause-put : goal.returns-clause-put
returns-clause-put c = put_at

pub returns-clause-in_range : goal.returns-clause-in_range
returns-clause-in_range c = put_set

pub returns-clause-proper : goal.returns-clause-proper
returns-clause-proper c = proper_put
