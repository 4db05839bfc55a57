use Rattle.std.proofs.Common.{◌<◌, subst, ap, is_some, IfOk, ℕ, List, Bool}
use Rattle.std.specs.Borrow.{Bor}
use Rattle.og_report_text.specs.Subject.{Subject}
use Rattle.og_template_outline.specs.Meaning.{Means}
use Rattle.og_template_outline.specs.declared.meaning.Takes.{Takes}
use Rattle.og_words.specs.Jobs.{word_bytes}
use Rattle.og_program.specs.World.{world_of, named}
use Rattle.og_program.specs.Opened.{One}
use Rattle.og_program.specs.Commands.{takes_for, ProvesOutlineAsJson}
use Rattle.og_program.specs.Given.{IsGiven, MeansNoneAsJson}
use Rattle.og_program.proofs.Faults.{wants}
use Rattle.og_program.proofs.Meanings.{on_result_as_json, no_meaning_as_json, ok_of, err_of}
use Rattle.og_program.proofs.program.Program.prove_as_json.Goals as goal

pub proved_as_json-requires-clause-meaning : goal.proved_as_json-requires-clause-meaning
proved_as_json-requires-clause-meaning g c κs within = (ok_of (IsGiven c.takes.result (world_of g.F.Files.contents g.F.Files.is_missing g.I.Read.remaining c.args.self.now c.args.input.now) c.args.prove.now.source.now (word_bytes c.deref.result.now)) c.in_ok-given.field-0 c.in-Ok.given c.in-Ok.is c.in_ok-given.ensures.given).1.0

pub returns-in-Ok-clause-outcome : goal.returns-in-Ok-clause-outcome
returns-in-Ok-clause-outcome g c =
    let world = world_of g.F.Files.contents g.F.Files.is_missing g.I.Read.remaining c.args.self.now c.args.input.now in
    let prove = c.args.prove.now in
    let name = prove.source.now in
    let runs = is_some prove.runs in
    let given = c.in-Ok.given in
    on_result_as_json (takes_for runs) world name (word_bytes prove.words.items) (ProvesOutlineAsJson runs) given c.proved_as_json.result
    (subst (λ (t : Takes). IsGiven t world name (word_bytes prove.words.items) given) c.takes.ensures
    (subst (λ (v : List (Bor (List ℕ))). IsGiven c.takes.result world name (word_bytes v) given) c.deref.ensures.value (ok_of (IsGiven c.takes.result world name (word_bytes c.deref.result.now)) c.in_ok-given.field-0 given c.in-Ok.is c.in_ok-given.ensures.given)))
    (subst (λ (b : Bool). IfOk c.proved_as_json.result (λ outcome. (s : Subject) × Means given.text.items s × ProvesOutlineAsJson b (named name given.text.items) s (word_bytes given.reading.starts.items) outcome)) (ap is_some c.requires) c.proved_as_json.ensures.outcome)

pub returns-in-Ok-clause-fault : goal.returns-in-Ok-clause-fault
returns-in-Ok-clause-fault g c =
    wants (One c.args.prove.now.source.now) (1 < c.args.search.workers) (1 < c.args.search.workers) c.proved_as_json.result (λ w. w) c.proved_as_json.ensures.want

pub returns-in-Err-clause-outcome : goal.returns-in-Err-clause-outcome
returns-in-Err-clause-outcome g c =
    let world = world_of g.F.Files.contents g.F.Files.is_missing g.I.Read.remaining c.args.self.now c.args.input.now in
    let prove = c.args.prove.now in
    let name = prove.source.now in
    let runs = is_some prove.runs in
    no_meaning_as_json (takes_for runs) world name (word_bytes prove.words.items) (ProvesOutlineAsJson runs) c.in-Err.outcome
    (subst (λ (t : Takes). MeansNoneAsJson t world name (word_bytes prove.words.items) c.in-Err.outcome) c.takes.ensures
    (subst (λ (v : List (Bor (List ℕ))). MeansNoneAsJson c.takes.result world name (word_bytes v) c.in-Err.outcome) c.deref.ensures.value (err_of (MeansNoneAsJson c.takes.result world name (word_bytes c.deref.result.now)) c.in_ok-given.field-0 c.in-Err.outcome c.in-Err.is c.in_ok-given.ensures.none)))
