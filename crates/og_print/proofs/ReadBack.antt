-- The text printed of a tree that was read is read as that tree.
use Rattle.std.proofs.Common.{◌≡◌, ℕ, ◌≤◌, ◌^◌, List, length, Result, Ok, Err, sym, ap, subst, ◌∙◌, arith}
use Rattle.og_text.specs.declared.token.Token.{Token}
use Rattle.og_text.proofs.OneCut.{one_tokens}
use Rattle.og_parse.specs.declared.raw.Raw.{Raw}
use Rattle.og_parse.specs.declared.fault.ParseError.{ParseError}
use Rattle.og_parse.specs.declared.fault.ParseError.TheVariants as errors
use Rattle.og_parse.specs.Trees.{Outline}
use Rattle.og_parse.specs.Counts.{outline_count}
use Rattle.og_parse.specs.TreeOf.{tree_of}
use Rattle.og_parse.specs.Grammar.{IsOutline}
use Rattle.og_parse.specs.Parsed.{IsParsed}
use Rattle.og_parse.specs.Limits.{statement_count}
use Rattle.og_print.specs.Plain.{plain}
use Rattle.og_print.specs.Print.{outline_text, outline_words}
use Rattle.og_print.specs.Again.{IsRead, IsAgain, ReadsBack}
use Rattle.og_parse.proofs.Parsing.{one_outline}
use Rattle.og_parse.proofs.Only.{no_fault}
use Rattle.og_parse.proofs.CountedTree.{outline_counted}
use Rattle.og_print.proofs.Reprint.{Again}
use Rattle.og_print.proofs.ReprintOutline.{prints_outline}
use Rattle.og_print.proofs.CutText.{source_good, tokens_cut}
use Rattle.og_print.proofs.CutTree.{cuts_outline}
use Rattle.og_print.proofs.PlainCounts.{outline_count-plain}

-- the tree parsed from tokens that stand for the tree again
again_by : (levels statements : ℕ) (tree : Outline) (others : List Token) → Again (IsOutline levels) plain tree others → statement_count others ≤ statements
    → (answer : Result Raw ParseError) → IsParsed levels statements others answer → IsAgain tree answer
again_by levels statements tree others a few (Ok raw) parsed = ap plain (one_outline (tree_of raw) a.value others (levels, parsed.0) (levels, a.is_read)) ∙ a.same
again_by levels statements tree others a few (Err errors.Memory) parsed = tt
again_by levels statements tree others a few (Err (errors.Fault fault)) parsed = no_fault levels statements others a.value fault a.is_read few parsed

reads_back_text : (levels statements : ℕ) (tree : Outline) → IsRead levels statements tree → length (outline_text tree) ≤ 2 ^ 20 → ReadsBack levels statements tree (outline_text tree)
reads_back_text levels statements tree r short =
    let p = prints_outline levels tree r.tokens r.is_read in
    let c = cuts_outline tree (p.good (source_good r.source r.tokens r.are)) in
    let t = tokens_cut (outline_text tree) (outline_words tree) c short in
    let a = p.again t.tokens t.is_kinds in
    let as_many : outline_count a.value ≡ outline_count tree = sym (outline_count-plain a.value) ∙ ap outline_count a.same ∙ outline_count-plain tree in
    let few : statement_count t.tokens ≤ statements = omega (arith, outline_counted a.value t.tokens (levels, a.is_read), outline_counted tree r.tokens (levels, r.is_read), r.few) in
    record {
      tokens = t.tokens;
      are = t.are;
      words = t.is_kinds;
      copy = a.value;
      same = a.same;
      is_read = a.is_read;
      few = few;
      again = λ others answer are parsed.
          let P : List Token → Type 0 = λ (z : List Token). IsParsed levels statements z answer in
          again_by levels statements tree t.tokens a few answer (subst P (one_tokens (outline_text tree) others t.tokens are t.are) parsed);
    }

pub reads_back : (levels statements : ℕ) (tree : Outline) (text : List ℕ) → text ≡ outline_text tree → IsRead levels statements tree → length text ≤ 2 ^ 20 → ReadsBack levels statements tree text
reads_back levels statements tree text e r short =
    subst (λ (z : List ℕ). ReadsBack levels statements tree z) (sym e) (reads_back_text levels statements tree r (subst (λ (z : List ℕ). length z ≤ 2 ^ 20) e short))
