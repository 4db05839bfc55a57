use Rattle.std.proofs.Common.{◌≡◌, ◌∙◌, ℕ, List, take, drop, subst, sym, ap}
use Rattle.std.specs.Prelude.{All}
use Rattle.std.specs.Bool.{MatchBool}
use Rattle.og_text.specs.declared.token.Token.{Token}
use Rattle.og_text.specs.declared.token.TokenKind.{TokenKind}
use Rattle.og_parse.specs.Expected.{HoldsBytes, IsWhole, GoesOn, AreThose, all_kinds}
use Rattle.og_report_refusal.specs.Reasons.{count_before, found_text, expected_text}
use Rattle.og_report_refusal.proofs.Places.{front_holds}
use Rattle.og_report_refusal.proofs.expected.expected_reason.Goals as goal

pub expected-requires : goal.expected-requires
expected-requires c =
    subst (All HoldsBytes) (sym c.truncate.ensures.items) (front_holds c.args.source.now c.in_ok-tokens.tokens.items c.count_before-count.result c.in_ok-tokens.ensures)

pub returns : goal.returns
returns c =
    let all = c.in_ok-tokens.tokens.items in
    let counted : c.count_before-count.result ≡ count_before all c.args.at = c.count_before-count.ensures.count ∙ ap (λ (ts : List Token). count_before ts c.args.at) c.deref.ensures.value in
    let same : c.truncate.new.self.items ≡ take (count_before all c.args.at) all = c.truncate.ensures.items ∙ ap (λ (n : ℕ). take n all) counted in
    let source = c.args.source.now in
    let found : c.deref-4.result.now ≡ found_text source (drop (count_before all c.args.at) all) =
    c.deref-4.ensures.value ∙ c.in_ok-found.ensures ∙ ap (λ (ts : List Token). found_text source ts) c.tokens_from.ensures ∙ ap (λ (n : ℕ). found_text source (drop n c.deref-2.result.now)) counted
    ∙ ap (λ (ts : List Token). found_text source (drop (count_before all c.args.at) ts)) c.deref-2.ensures.value in
    record {
      tokens = all;
      are = c.in_ok-tokens.ensures;
      symbols = c.in_ok-symbols.symbols.items;
      may_end = c.in_ok-may_end.may_end;
      exact = subst (λ (ts : List Token). AreThose (GoesOn ts) all_kinds c.in_ok-symbols.symbols.items) same c.in_ok-symbols.ensures;
      ends = subst (λ (ts : List Token). MatchBool c.in_ok-may_end.may_end (IsWhole ts) (IsWhole ts → ⊥)) (c.deref-3.ensures.value ∙ same) c.in_ok-may_end.ensures;
      written = c.in_ok-text.ensures ∙ ap (λ (f : List ℕ). expected_text f c.deref-5.result.now c.in_ok-may_end.may_end) found
          ∙ ap (λ (ks : List TokenKind). expected_text (found_text source (drop (count_before all c.args.at) all)) ks c.in_ok-may_end.may_end) c.deref-5.ensures.value;
    }
