use Rattle.std.proofs.Common.{◌≡◌, ◌∙◌, ap, rules}
use Rattle.og_report_refusal.specs.Starting.{start_text}
use Rattle.og_report_refusal.proofs.starting.start_text_of.Goals as goal

pub returns-in-Ok : goal.returns-in-Ok
returns-in-Ok c =
    let name = c.args.name.now in
    let source = c.args.source.now in
    let start = c.args.start.now in
    let found = c.deref.result.now in
    let values = c.in_ok-values.values in
    let text : c.in_ok-text-in-Ok.text.items ≡ start_text name source.bytes source.outline values found start = c.in_ok-text-in-Ok.ensures in
    record {
      found = c.in-Ok.found;
      is_false = search rules;
      start = start;
      is_start = c.requires;
      written = text ∙ ap (λ s. start_text name source.bytes source.outline s found start) c.in_ok-values.ensures ∙ ap (λ f. start_text name source.bytes source.outline c.args.state.now f start) c.deref.ensures.value;
    }
