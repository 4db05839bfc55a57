-- What is made once, or in each instance of a binder.
use Rattle.std.specs.Prelude.{List, Option, Some, None}
use Rattle.og_template_expand.specs.Trees.{Binder}
use Rattle.og_template_expand.specs.Answer.{Checked}
use Rattle.og_template_expand.specs.Scope.{Scope}
use Rattle.og_template_expand.specs.Ranges.{instances}

abbrev pub repeated_by : {Y : Type 0} → Scope → Option Binder → (Scope → Checked (List Y))
    → Checked (List Y)
repeated_by scope None body = body scope
repeated_by scope (Some binder) body = instances scope binder body
