-- Where conditions belong, one after another.
use Rattle.std.proofs.Common.{◌≡◌, List, [], ◌∷◌, ◌++◌, refl, sym, ap, subst, append_assoc}
use Rattle.og_typed.specs.Syntax.{Program}
use Rattle.og_cond.specs.Condition.{Condition}
use Rattle.og_report_html.specs.Targets.{IsTarget, AreTargets}
use Rattle.og_report_html.specs.declared.target.Target.{Target}

-- with the targets of these besides, they are those of all
abbrev pub MakesAll : Program → List Condition → List Condition → List Target → Type 0
MakesAll o cs rest gs = (more : List Target) → AreTargets o rest more → AreTargets o cs (gs ++ more)

pub all_begin : (o : Program) (cs : List Condition) (gs : List Target) → gs ≡ [] → MakesAll o cs cs gs
all_begin o cs gs none = λ more h. subst (λ l. AreTargets o cs (l ++ more)) (sym none) h

pub all_go_on : (o : Program) (cs rest : List Condition) (c : Condition) (gs : List Target) (g : Target) → IsTarget o c g → MakesAll o cs (c ∷ rest) gs → MakesAll o cs rest (gs ++ g ∷ [])
all_go_on o cs rest c gs g is h = λ more later. subst (AreTargets o cs) (sym (append_assoc gs (g ∷ []) more)) (h (g ∷ more) (is, later))

append_none : (gs : List Target) → gs ++ [] ≡ gs
append_none [] = refl
append_none (g ∷ gs) = ap (λ xs. g ∷ xs) (append_none gs)

pub all_end : (o : Program) (cs rest : List Condition) (gs : List Target) → rest ≡ [] → MakesAll o cs rest gs → AreTargets o cs gs
all_end o cs rest gs none h = subst (AreTargets o cs) (append_none gs) (h [] (subst (λ r. AreTargets o r []) (sym none) tt))
