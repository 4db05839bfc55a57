-- What status 0 and a report that says that the outline is unblocked say: that it never gets stuck.
use Rattle.std.specs.Prelude.{Bool, false, ⊤}
use Rattle.og_command_check.specs.Inputs.{source_of, joined_of, Reads}
use Rattle.og_command_check.specs.NeverStuck.{HasNeverStuckSource}
use Rattle.og_command_check.specs.Wrote.{Wrote}
use Rattle.og_judge.specs.NeverStuck.{IsNeverStuckSource}
use Rattle.og_report_findings.specs.Says.{SaysNeverStuck}
use Rattle.og_report_text.specs.Yes.{SaysUnblocked}
use Rattle.og_template_outline.specs.Expanded.{HoldsOf}
use Rattle.og_words.specs.declared.job.Job.{Job}
use Rattle.og_words.specs.declared.job.Job.TheVariants as jobs
use Rattle.og_program.specs.World.{World, Stream, bytes_in}

-- what came to standard output is such a report of a check, as JSON or as a text
abbrev pub PrintsUnblocked : Bool → Stream → Type 0
PrintsUnblocked json out = Wrote (SaysUnblocked json) out.before out.after

-- or such a verdict of a search
abbrev pub PrintsNeverStuck : Bool → Stream → Type 0
PrintsNeverStuck json out = Wrote (SaysNeverStuck json) out.before out.after

-- by command: the others say nothing
abbrev pub IsNeverStuck : World → Stream → Job → Type 0
IsNeverStuck world out jobs.Joined =
    PrintsUnblocked false out → Reads joined_of world.input HasNeverStuckSource
IsNeverStuck world out (jobs.Prove prove) =
    PrintsNeverStuck prove.json out
    → Reads source_of (bytes_in world prove.source.now) (HoldsOf IsNeverStuckSource)
IsNeverStuck world out (jobs.Check check) =
    PrintsUnblocked check.json out
    → Reads source_of (bytes_in world check.source.now) IsNeverStuckSource
IsNeverStuck world out _ = ⊤
