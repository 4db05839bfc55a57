use Rattle.std.proofs.Common.{rules, ◌≡◌, ◌∙◌, ◌++◌, ℕ, Bool, List, length, sym, ap, subst}
use Rattle.std.specs.Prelude.{OnOk}
use Rattle.std.proofs.lemmas.List.{length-map}
use Rattle.og_typed.specs.Plain.{sequence}
use Rattle.og_report_text.specs.Origins.{Rows}
use Rattle.og_review_text.specs.Accesses.{step_lines}
use Rattle.og_command_notes.specs.Notes.{claims_text, together_text}
use Rattle.og_review_text.specs.Points.{Point, points}
use Rattle.og_review_text.specs.Seen.{points_of, steps_of}
use Rattle.og_command_notes.specs.Seen.{claims_of}
use Rattle.og_command_notes.specs.Together.{are_many}
use Rattle.og_review_text.specs.Steps.{Step, all_steps}
use Rattle.og_review_text.specs.Unused.{unused_lines}
use Rattle.og_command_notes.specs.declared.together.Block.{Block}
use Rattle.og_report_text.proofs.Joins.{joined}
use Rattle.og_command_notes.proofs.notes.put_findings.Goals as goal

-- the same places, as many processes, and as many pairs
same_table : {ps qs : List Point} {m n : ℕ} {a b : Bool} (source : List ℕ) (rows : Rows) → ps ≡ qs → m ≡ n → a ≡ b → (blocks : List Block) → together_text source rows ps m blocks a ≡ together_text source rows qs n blocks b
same_table {qs = qs} {m = m} {n = n} {a = a} source rows e f g blocks =
    ap (λ (l : List Point). together_text source rows l m blocks a) e
    ∙ (ap (λ (k : ℕ). together_text source rows qs k blocks a) f ∙ ap (λ (t : Bool). together_text source rows qs n blocks t) g)

pub returns : goal.returns
returns c =
    let o = c.args.outline.now in
    let source = c.args.origins.now.source.now in
    let rows = c.args.origins.now.rows in
    let found = c.args.found.now in
    let before = c.args.text.now.items in
    let one = c.put_claimed.new.text.items in
    let two = c.put_unused.new.text.items in
    let three = c.put_together.new.text.items in
    let after = c.put_steps.new.text.items in
    let r = c.put_steps.result in
    let first = claims_text o source rows (claims_of found.claims.items) in
    let second = unused_lines o in
    let third = together_text source rows (points o) (length o.processes) found.together.blocks.items (are_many (points o)) in
    let last = step_lines source rows o.names o.vars (all_steps o) in
    let e : one ≡ before ++ first = search rules in
    let f : two ≡ one ++ second = search rules in
    let places : points_of c.deref-2.result.now ≡ points o = ap points_of c.deref-2.ensures.value ∙ c.requires.found.0.0 in
    let count : length c.processes-processes.result.now ≡ length o.processes = sym (length-map c.processes-processes.result.now sequence) ∙ ap length c.processes-processes.ensures in
    let steps : steps_of c.deref-3.result.now ≡ all_steps o = ap steps_of c.deref-3.ensures.value ∙ c.requires.found.0.1 in
    let g : three ≡ two ++ third = c.in_ok-put_together.ensures ∙ ap (λ (l : List ℕ). two ++ l) (same_table source rows places count c.requires.found.3 found.together.blocks.items) in
    let h : OnOk r (after ≡ three ++ last) = subst (λ (all : List Step). OnOk r (after ≡ three ++ step_lines source rows o.names o.vars all)) steps c.put_steps.ensures in
    joined r before one after first (second ++ (third ++ last)) e
    (joined r one two after second (third ++ last) f (joined r two three after third last g h))
