-- What is printed of a tree, and read again.
use Rattle.std.specs.Prelude.{IfOk}
use Rattle.og_typed.specs.Source.{IsSource}
use Rattle.og_template_outline.specs.Expanded.{IsOutlineText}
use Rattle.og_template_outline.specs.declared.printing.Printed.{Printed}

-- where the text could be read again, it is that of an outline, and what it was read as is that outline
abbrev pub IsReadAgain : Printed → Type 0
IsReadAgain p =
    IfOk p.again (λ again. IsOutlineText p.text.items × IsSource p.text.items again.outline)
