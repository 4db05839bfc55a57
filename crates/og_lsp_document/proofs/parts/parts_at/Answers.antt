use Rattle.std.proofs.Common.{◌≡◌, ◌∙◌, ◌∷◌, [], ◌++◌, List, map, ap, sym, subst, append_assoc}
use Rattle.std.specs.Map.Iter.{deref_pair}
use Rattle.std.proofs.lemmas.List.Elements.{All-push}
use Rattle.std.proofs.lemmas.Map.Iter.{rest_more}
use Rattle.og_text.specs.declared.place.Span.{Span}
use Rattle.og_lsp_diagnostics.specs.Extents.{LiesIn}
use Rattle.og_lsp_document.specs.Parts.{part_of, AreIn}
use Rattle.og_lsp_diagnostics.specs.Said.{text_of}
use Rattle.og_lsp_document.specs.declared.judged.PartCount.{PartCount}
use Rattle.og_lsp_document.proofs.parts.parts_at.Goals as goal

pub loop-at-preserved : goal.loop-at-preserved
loop-at-preserved c =
    let text = text_of c.args.teller.now.page in
    let f = part_of text in
    let parts = c.loop-at.parts.items in
    let rest = c.next.new.self in
    let counts = c.in-Some.counts.now in
    let next : c.loop-at.at-iterator ≡ (c.in-Some.at.now, counts) ∷ rest = rest_more deref_pair c.loop-at.at-iterator rest c.next.result (c.in-Some.at, c.in-Some.counts) c.in-Some.is c.next.ensures.steps in
    let one = λ (s : Span). let p : PartCount = record { span = s; conditions = counts.conditions; unproved = counts.unproved } in p in
    record {
      whole =
          ap (λ (l : List PartCount). l ++ map f rest) c.in_ok-push.ensures.items ∙ append_assoc parts (one c.part_at.result ∷ []) (map f rest)
          ∙ ap (λ (s : Span). parts ++ (one s ∷ map f rest)) c.part_at.ensures.part ∙ ap (λ l. parts ++ map f l) (sym next) ∙ c.loop-at.invariant.whole;
      lies = subst (AreIn text) (sym c.in_ok-push.ensures.items) (All-push (λ p. LiesIn text p.span) parts (one c.part_at.result) c.loop-at.invariant.lies c.part_at.ensures.lies);
    }
