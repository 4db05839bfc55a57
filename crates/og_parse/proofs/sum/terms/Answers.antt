use Rattle.std.proofs.Common.{sym}
use Rattle.og_parse.proofs.Loops.{goes_on}
use Rattle.og_parse.specs.Reads.{a_sign, terms_at}
use Rattle.og_parse.proofs.TermLaws.{term_after_shortens}
use Rattle.og_parse.proofs.sum.terms.Goals as goal

pub more-preserved : goal.more-preserved
more-preserved c =
    rw c.in_ok-push-2.ensures.items (goes_on a_sign term_after_shortens c.more.all.items c.more.cursor c.in_ok-term_after.field-0 c.term_after.new.cursor (terms_at c.args.cursor.now) (sym c.more-test.ensures) c.in_ok-term_after.ensures c.more.invariant)

pub more-smaller : goal.more-smaller
more-smaller c = term_after_shortens.shortens c.more.cursor c.in_ok-term_after.field-0 c.term_after.new.cursor c.in_ok-term_after.ensures
