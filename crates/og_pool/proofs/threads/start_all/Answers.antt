use Rattle.std.proofs.Common.{rules, ap, ◌∙◌}
use Rattle.std.proofs.lemmas.Slice.Zip.{all_zipped_more}
use Rattle.og_pool.proofs.threads.start_all.Goals as goal

pub loop-part-preserved : goal.loop-part-preserved
loop-part-preserved g c =
    let i = c.loop-part.invariant in
    let owed = c.in-Ok.ensures.ok in
    record {
      started = rw c.in-Ok-push.ensures.items (all_zipped_more _ c.loop-part.yielded c.loop-part.handles.items c.in-Some.part c.in-Ok.handle i.started
          (ap (λ q. q.job.value) owed ∙ c.of.ensures, ap (λ q. q.part.value) owed ∙ c.of-in-loop-part.ensures));
      room = search rules;
    }
