use Rattle.std.proofs.Common.{◌≡◌, ◌+◌, ◌*◌, map, drop}
use Rattle.og_parse.specs.TreeOf.{assertion_of as tree_of}
use Rattle.og_template_expand.specs.Answer.{behind, gathered}
use Rattle.og_template_expand.specs.Ranges.{instance_of}
use Rattle.og_template_expand.specs.Assertions as meaning
use Rattle.og_template_expand.specs.Scoped.{scope_of}
use Rattle.og_template_expand.specs.TreeOf.{binder_of, unit_of, conjunction_of, conjoined, disjoined}
use Rattle.og_template_expand.proofs.assertions.Level.+assertions.Given as goal

abbrev pub decreases-deeper : goal.decreases-deeper
decreases-deeper l = 13 * l.self.now.levels + 0

abbrev pub decreases-implied : goal.decreases-implied
decreases-implied l = 13 * l.self.now.levels + 0

abbrev pub decreases-unit : goal.decreases-unit
decreases-unit l = 13 * l.self.now.levels + 1

abbrev pub decreases-conjuncts : goal.decreases-conjuncts
decreases-conjuncts l = 13 * l.self.now.levels + 2

abbrev pub decreases-conjunction : goal.decreases-conjunction
decreases-conjunction l = 13 * l.self.now.levels + 3

abbrev pub decreases-disjuncts : goal.decreases-disjuncts
decreases-disjuncts l = 13 * l.self.now.levels + 4

abbrev pub decreases-disjunction : goal.decreases-disjunction
decreases-disjunction l = 13 * l.self.now.levels + 5

abbrev pub decreases-implies : goal.decreases-implies
decreases-implies l = 13 * l.self.now.levels + 6

abbrev pub decreases-assertion : goal.decreases-assertion
decreases-assertion l = 13 * l.self.now.levels + 7

abbrev pub decreases-used : goal.decreases-used
decreases-used l = 13 * l.self.now.levels + 8

abbrev pub decreases-negation : goal.decreases-negation
decreases-negation l = 13 * l.self.now.levels + 8

abbrev pub decreases-put_instance : goal.decreases-put_instance
decreases-put_instance l = 13 * l.self.now.levels + 8

abbrev pub decreases-instances_of : goal.decreases-instances_of
decreases-instances_of l = 13 * l.self.now.levels + 9

abbrev pub decreases-quantified : goal.decreases-quantified
decreases-quantified l = 13 * l.self.now.levels + 10

abbrev pub decreases-opened : goal.decreases-opened
decreases-opened l = 13 * l.self.now.levels + 11

abbrev pub invariant-instances_of-loop-value : goal.invariant-instances_of-loop-value
invariant-instances_of-loop-value l =
    let each = instance_of (scope_of l.self.scope.now) (binder_of l.binder) (meaning.operands_by (meaning.opens l.self.levels) l.connective (unit_of l.inner)) in
    behind (map tree_of l.all.items) (gathered each (drop l.value-index l.value-items)) ≡ gathered each l.value-items

abbrev pub invariant-conjuncts-loop-inner : goal.invariant-conjuncts-loop-inner
invariant-conjuncts-loop-inner l =
    behind (map tree_of l.all.items) (meaning.conjuncts_by (meaning.opens l.self.levels) (scope_of l.self.scope.now) (conjoined (map unit_of (drop l.inner-index l.units))))
    ≡ meaning.conjuncts_by (meaning.opens l.self.levels) (scope_of l.self.scope.now) (conjoined (map unit_of l.units))

abbrev pub invariant-disjuncts-loop-inner : goal.invariant-disjuncts-loop-inner
invariant-disjuncts-loop-inner l =
    behind (map tree_of l.all.items) (meaning.disjuncts_by (meaning.opens l.self.levels) (scope_of l.self.scope.now) (disjoined (map conjunction_of (drop l.inner-index l.conjunctions))))
    ≡ meaning.disjuncts_by (meaning.opens l.self.levels) (scope_of l.self.scope.now) (disjoined (map conjunction_of l.conjunctions))
