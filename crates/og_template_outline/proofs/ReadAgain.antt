-- A text that is read again.
use Rattle.std.proofs.Common.{◌≡◌, ◌≤◌, ◌^◌, ℕ, List, length}
use Rattle.std.specs.Prelude.{Ok}
use Rattle.og_text.specs.declared.token.Token.{Token}
use Rattle.og_text.specs.Cut.{AreTokensOf}
use Rattle.og_parse.specs.Trees.{Outline}
use Rattle.og_print.specs.Print.{outline_text}
use Rattle.og_typed.specs.Syntax.{Program}
use Rattle.og_typed.specs.Resolved.{resolved}
use Rattle.og_typed.specs.Source.{IsSource}
use Rattle.og_template_outline.specs.Expanded.{HasOutline, IsAgain, IsOutlineText}

pub outline_text_again : (text : List ℕ) (tree again : Outline) (tokens : List Token) (o : Program) → text ≡ outline_text tree → AreTokensOf text tokens → IsAgain tree tokens again → resolved again ≡ Ok o → IsOutlineText text
outline_text_again text tree again tokens o printed cut is outline =
    record { tree = tree; printed = printed; outline = o; source = record { tokens = tokens; tree = again; cut = cut; parsed = is.parsed; few = is.few; outline = outline }; same = is.same }

pub source_again : (text : List ℕ) (tree again : Outline) (tokens : List Token) (o : Program) → AreTokensOf text tokens → IsAgain tree tokens again → resolved again ≡ Ok o → IsSource text o
source_again text tree again tokens o cut is outline =
    record { tokens = tokens; tree = again; cut = cut; parsed = is.parsed; few = is.few; outline = outline }

-- such a text is within the limit
pub outline_text_short : (text : List ℕ) → IsOutlineText text → length text ≤ 2 ^ 20
outline_text_short text is = is.source.cut.short

pub has_outline : (text : List ℕ) (o : Program) → IsSource text o → HasOutline text
has_outline text o is = record { outline = o; source = is }
