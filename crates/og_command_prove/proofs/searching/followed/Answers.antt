use Rattle.std.proofs.Common.{◌≡◌, ◌++◌, true, Some, length, take, drop, map, sym, subst, rules, arith}
use Rattle.std.proofs.lemmas.List.{take_at}
use Rattle.og_cond.specs.Seen.{seen}
use Rattle.og_command_prove.specs.Found.{AreFoundOf}
use Rattle.og_command_prove.specs.Moments.{lists_of}
use Rattle.og_command_prove.proofs.Columns.{has_false_condition}
use Rattle.og_command_prove.proofs.searching.followed.Goals as goal

pub returns-clause-found : goal.returns-clause-found
returns-clause-found c =
    let o = c.args.diagnoser.outline.now in
    let f = c.args.findings in
    let cs = map seen f.conditions.items in
    let lists = Some (lists_of c.in_ok-moments.moments) in
    let yes : c.has_false.result ≡ true = search rules in
    let ts = c.follow_all.new.diagnoses in
    let rs = c.follow_all.new.runs in
    let old = c.requires.found in
    let new : AreFoundOf o lists cs ts rs = subst (λ z. AreFoundOf o lists (map seen z) ts rs) c.deref-2.ensures.value c.in_ok-follow_all.ensures in
    let all-diagnoses : length ts ≡ f.diagnoses.len = omega (arith, new.diagnoses, old.diagnoses, f.diagnoses.ok) in
    let all-runs : length rs ≡ f.runs.len = omega (arith, new.runs, old.runs, f.runs.ok) in
    record {
      lists = lists;
      found =
          subst (λ z. AreFoundOf o lists cs z (take f.runs.len (rs ++ drop (length rs) f.runs.items))) (sym (take_at ts (drop (length ts) f.diagnoses.items) f.diagnoses.len all-diagnoses))
          (subst (AreFoundOf o lists cs ts) (sym (take_at rs (drop (length rs) f.runs.items) f.runs.len all-runs)) new);
      explored = (has_false_condition o cs f.diagnoses.items f.runs.items old (search rules), c.explored_of-explored.ensures);
    }
