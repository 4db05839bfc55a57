use Rattle.std.proofs.Common.{List, subst, ◌∙◌}
use Rattle.og_text.specs.declared.token.Token.{Token}
use Rattle.og_parse.proofs.Those.{those_with, those_without}
use Rattle.og_parse.specs.Expected.{GoesOn}
use Rattle.og_parse.proofs.asking.expected.Goals as goal

pub kinds-preserved-in-Continue-branch-4 : goal.kinds-preserved-in-Continue-branch-4
kinds-preserved-in-Continue-branch-4 c =
    let found = rw c.in-Some-2.is at c.in_ok-kind.ensures.kind in
    let goes : GoesOn c.args.before.items c.in-Some.kind = subst (λ (before : List Token). GoesOn before c.in-Some.kind) c.kinds.invariant.0 found.1 in (
      c.in_ok-kind.ensures.kept ∙ c.kinds.invariant.0,
      rw (c.in_ok-push.ensures.items, found.0) (those_with (GoesOn c.args.before.items) c.kinds.yielded c.kinds.all.items c.in-Some.kind c.kinds.invariant.1 goes),
    )

pub kinds-preserved : goal.kinds-preserved
kinds-preserved c =
    let none = rw c.in_default.is at c.in_ok-kind.ensures.kind in (
      c.in_ok-kind.ensures.kept ∙ c.kinds.invariant.0,
      those_without (GoesOn c.args.before.items) c.kinds.yielded c.kinds.all.items c.in-Some.kind c.kinds.invariant.1 (subst (λ (before : List Token). GoesOn before c.in-Some.kind → ⊥) c.kinds.invariant.0 none),
    )
