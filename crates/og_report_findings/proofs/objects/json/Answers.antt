use Rattle.std.proofs.Common.{◌≡◌, ◌∙◌, List, ℕ, IfOk, map, sym, ap, subst}
use Rattle.std.proofs.lemmas.List.{length-map}
use Rattle.serde_json.specs.Data.{Data}
use Rattle.serde_json.specs.Written.{compact_text}
use Rattle.og_cond.specs.Seen.{seen}
use Rattle.og_report_findings.specs.Json.{report_data}
use Rattle.og_report_findings.proofs.Counts.{are_counted}
use Rattle.og_report_findings.proofs.Floats.{no_float_value_of}
use Rattle.og_report_findings.proofs.Says.{json_exact_of, json_says_of, on_ok}
use Rattle.og_report_findings.proofs.objects.json.Goals as goal

pub bytes_of-requires : goal.bytes_of-requires
bytes_of-requires c =
    let f = c.args.findings in
    no_float_value_of _ c.args.outline.now c.own-origins.result.source.now f.explored (map seen f.conditions.now) f.diagnoses.now f.runs.now c.in_ok-value.ensures

pub returns-clause-counted : goal.returns-clause-counted
returns-clause-counted c =
    let f = c.args.findings in
    on_ok c.bytes_of.result
    (are_counted (map seen f.conditions.now) f.diagnoses.now f.runs.now (c.requires.each ∙ sym (length-map f.conditions.now seen)) (c.requires.run ∙ sym (length-map f.conditions.now seen)))

pub returns-clause-exact : goal.returns-clause-exact
returns-clause-exact c =
    let o = c.args.outline.now in
    let f = c.args.findings in
    let cs = map seen f.conditions.now in
    let is = c.in_ok-value.ensures ∙ ap (λ (s : List ℕ). report_data o s f.explored cs f.diagnoses.now f.runs.now) (ap (λ r. r.now) c.own-origins.ensures.source) in
    json_exact_of (λ t. t.items) c.bytes_of.result o c.args.source.now f.explored cs f.diagnoses.now f.runs.now (subst (λ (d : Data). IfOk c.bytes_of.result (λ t. t.items ≡ compact_text d)) is c.bytes_of.ensures)

pub returns-clause-never_stuck : goal.returns-clause-never_stuck
returns-clause-never_stuck c =
    let o = c.args.outline.now in
    let f = c.args.findings in
    let cs = map seen f.conditions.now in
    let is = c.in_ok-value.ensures ∙ ap (λ (s : List ℕ). report_data o s f.explored cs f.diagnoses.now f.runs.now) (ap (λ r. r.now) c.own-origins.ensures.source) in
    json_says_of (λ t. t.items) c.bytes_of.result o c.args.source.now f.explored cs f.diagnoses.now f.runs.now (subst (λ (d : Data). IfOk c.bytes_of.result (λ t. t.items ≡ compact_text d)) is c.bytes_of.ensures)
