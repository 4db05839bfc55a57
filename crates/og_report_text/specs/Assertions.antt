-- How an assertion is printed.
use Rattle.std.specs.Prelude.{ℕ, nat_lt, Bool, true, false, List, [], codes}
use Rattle.og_typed.specs.Syntax.{Formula, True, False, Le, Eq, Ne, Not, And, Or, Imp, Formulas, none, more}
use Rattle.og_report_text.specs.Places.{◌&◌}
use Rattle.og_report_text.specs.Relations.{relation_text}
use Rattle.og_report_text.specs.declared.relations.Relation.TheVariants as relations

-- how tightly it binds
abbrev pub rank : Formula → ℕ
rank True = 3
rank False = 3
rank (Le f) = 3
rank (Eq f) = 3
rank (Ne f) = 3
rank (Not a) = 3
rank (And all) = 2
rank (Or all) = 1
rank (Imp a b) = 0

-- in parentheses, or not
abbrev pub enclosed : Bool → List ℕ → List ℕ
enclosed true text = codes "(" & text & codes ")"
enclosed false text = text

module _ (names : List (List ℕ)) where
  abbrev mutual
    pub assertion_text : Formula → List ℕ
    assertion_text True = codes "true"
    assertion_text False = codes "false"
    assertion_text (Le f) = relation_text names relations.AtMost f.terms f.constant
    assertion_text (Eq f) = relation_text names relations.Equal f.terms f.constant
    assertion_text (Ne f) = relation_text names relations.Unequal f.terms f.constant
    assertion_text (Not a) = codes "not " & enclosed (nat_lt (rank a) 3) (assertion_text a)
    assertion_text (And all) = joined_text [] (codes " and ") 3 all
    assertion_text (Or all) = joined_text [] (codes " or ") 2 all
    assertion_text (Imp a b) = enclosed (nat_lt (rank a) 1) (assertion_text a) & codes " -> " & assertion_text b

    -- a word between two, each in parentheses where it binds less tightly than this; this stands before the first
    pub joined_text : List ℕ → List ℕ → ℕ → Formulas → List ℕ
    joined_text opening word least none = []
    joined_text opening word least (more a rest) =
        (opening & enclosed (nat_lt (rank a) least) (assertion_text a)) & joined_text word word least rest

  -- in parentheses where it binds less tightly than this
  abbrev pub operand_text : ℕ → Formula → List ℕ
  operand_text least a = enclosed (nat_lt (rank a) least) (assertion_text a)
