use Rattle.std.proofs.Common.{◌≡◌, ◌++◌, ◌+◌, ℕ, suc, subst, arith}
use Rattle.og_report_refusal.specs.Starting.{start_word, start_words}
use Rattle.og_report_refusal.proofs.Joins.{then}
use Rattle.og_report_refusal.proofs.starting.put_words.Goals as goal

pub loop-var-preserved : goal.loop-var-preserved
loop-var-preserved c =
    let n = c.loop-var.var in
    let names = c.args.names.now in
    let values = c.args.values.now in
    let start = c.args.start.now in
    let all = c.put_word.new.text.items in
    let old = c.args.text.now.items in
    let next : suc n ≡ n + 1 = omega arith in
    subst (λ (m : ℕ). all ≡ old ++ start_words names values start m) next
    (then all c.loop-var.text.items (start_words names values start n) (start_word names values start n) old c.loop-var.invariant c.in_ok-put_word.ensures)
