-- What is known of the outline that a text means.
use Rattle.std.proofs.Common.{◌≡◌, ◌≤◌, ◌^◌, refl, subst, ℕ, List, Bool, true, false, length}
use Rattle.og_typed.specs.Source.{IsSource}
use Rattle.og_template_outline.specs.Expanded.{IsOutlineText}
use Rattle.og_template_outline.specs.Meaning.{IsMeaningBy}
use Rattle.og_template_outline.specs.declared.meaning.Meaning.{Meaning}
use Rattle.og_template_outline.specs.declared.meaning.Meaning.TheVariants as meanings
use Rattle.og_template_outline.specs.declared.printing.Expansion.{Expansion}

-- only a template has an outline in another text
pub of_template : (b : Bool) (text : List ℕ) (meaning : Meaning) (e : Expansion) → meaning ≡ meanings.Template e → IsMeaningBy b text meaning
    → (b ≡ true) × (length text ≤ 2 ^ 20) × IsOutlineText e.text.items × IsSource e.text.items e.outline
of_template true text meaning e is h = let m = subst (IsMeaningBy true text) is h in (refl, m.0, m.1, m.2)
of_template false text meaning e is h = absurd (subst (IsMeaningBy false text) is h)
