-- The plain tree of a fact.
use Rattle.og_facts.specs.declared.fact.Fact.{Fact, Row_of-Fact, end_of-Fact, more_of-Fact, Row_of-Fact-Split-0-1, end_of-Fact-Split-0-1, more_of-Fact-Split-0-1}
use Rattle.og_facts.specs.declared.fact.Fact as its
use Rattle.og_facts.specs.Facts as plain

abbrev mutual
  pub plain_fact : Fact → plain.Fact
  plain_fact (its.Atom f) = plain.Atom f
  plain_fact (its.Split' _ parts) = plain.Split (plain_parts parts)

  pub plain_parts : {n : _} → Row_of-Fact-Split-0-1 n → plain.Parts
  plain_parts end_of-Fact-Split-0-1 = plain.no_part
  plain_parts (more_of-Fact-Split-0-1 _ row rest) = plain.part (plain_facts row) (plain_parts rest)

  pub plain_facts : {n : _} → Row_of-Fact n → plain.Facts
  plain_facts end_of-Fact = plain.no_fact
  plain_facts (more_of-Fact f rest) = plain.fact (plain_fact f) (plain_facts rest)
