use Rattle.std.proofs.Common.{◌≡◌, map, sym, subst, ◌∙◌}
use Rattle.std.specs.Prelude.{List, Ok}
use Rattle.std.proofs.lemmas.Result.{err_from_is_err_and}
use Rattle.og_parse.specs.TreeOf.{seq_of, seqs_of}
use Rattle.og_parse.specs.Trees as outline
use Rattle.og_template_expand.specs.Answer.{Checked, ◌>>=◌}
use Rattle.og_template_expand.specs.Outline as meaning
use Rattle.og_template_expand.specs.Scoped.{IsExpanded, FailsAs, scope_of}
use Rattle.og_template_expand.specs.WholeOf.{process_of}
use Rattle.og_template_expand.proofs.Lists.{failed, fails_then}
use Rattle.og_template_expand.proofs.Gathered.{processes_gathered}
use Rattle.og_template_expand.proofs.template.middle.Goals as goal

pub returns-in_err-all : goal.returns-in_err-all
returns-in_err-all c =
    let scope = scope_of c.args.scope.now in
    let e = c.in_err-all.field-0.0 in
    let p = err_from_is_err_and c.from_residual-in_err-all.result c.from_residual-in_err-all.ensures.1 in
    rw p.1 (failed seqs_of e p.0 (meaning.processes_of scope c.args.cobegin (map process_of c.args.processes.now)) p.2
    (fails_then e _ (meaning.some_of c.args.cobegin) (subst (FailsAs e) (processes_gathered scope c.args.processes.now) c.in_err-all.ensures)))

pub returns : goal.returns
returns c =
    let scope = scope_of c.args.scope.now in
    subst (λ (a : Checked (List outline.Seq)). IsExpanded seqs_of c.some_of.result (a >>= meaning.some_of c.args.cobegin)) (sym (sym (processes_gathered scope c.args.processes.now) ∙ c.in_ok-all.ensures)) c.some_of.ensures
