use Rattle.std.proofs.lemmas.Result.{on_ok_weaker}
use Rattle.og_command_infer.proofs.placing.Noted.complete.Goals as goal

pub returns-then-is_loose : goal.returns-then-is_loose
returns-then-is_loose c =
    on_ok_weaker c.push-then-is_loose-2.result (λ more all. more (c.in_ok-push.ensures all)) c.push-then-is_loose-2.ensures
