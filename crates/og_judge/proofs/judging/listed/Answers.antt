use Rattle.std.proofs.Common.{◌≡◌, ◌<◌, ◌++◌, ◌∷◌, [], map, length, Some, get_or, rules, arith, refl, ap, ◌∙◌}
use Rattle.std.specs.Prelude.{slice_get, option_map}
use Rattle.std.proofs.lemmas.Option.{slice_get-map, slice_get_read, slice_get-get_or}
use Rattle.og_cond.specs.Seen.{seen}
use Rattle.og_pool.specs.declared.status.Status.{Status}
use Rattle.og_pool.specs.declared.status.Status.TheVariants as status
use Rattle.og_judge.specs.Entries.{entry_of}
use Rattle.og_judge.specs.Parts.{listed_from}
use Rattle.og_judge.proofs.Listing.{listed_turn}
use Rattle.og_judge.proofs.judging.listed.Goals as goal

pub loop-index-preserved : goal.loop-index-preserved
loop-index-preserved c =
    let i = c.loop-index.index in
    let conds = c.args.conditions.now in
    let ss = c.args.statuses.now in
    let cond = c.index-conditions-index.result in
    let in_conds : i < length conds = omega arith in
    let in_ss : i < length ss = omega (arith, c.requires) in
    let s : Status = get_or ss i status.Missing in
    let found : slice_get (map seen conds) i ≡ Some (seen cond) = slice_get-map seen conds i ∙ ap (option_map seen) (slice_get_read conds (length conds) i cond refl in_conds c.index-conditions-index.is) in
    let made : c.entry_of.result ≡ entry_of (seen cond) s = search rules in
    listed_turn (map seen conds) ss i (seen cond) s c.loop-index.entries.items c.push.new.self.items (listed_from (map seen conds) ss) found (slice_get-get_or ss i status.Missing in_ss)
    (c.in_ok-push.ensures.items ∙ ap (λ e. c.loop-index.entries.items ++ e ∷ []) made) c.loop-index.invariant
