-- What is made of the command line, step by step.
use Rattle.std.specs.Prelude.{◌≡◌, false, []}
use Rattle.clap.specs.Words.{Rule, Shape, app_of, rule_of}
use Rattle.clap.specs.declared.builder.arg.Arg.{Arg}
use Rattle.clap.specs.declared.builder.command.Command.{Command}
use Rattle.clap.specs.declared.builder.command.Command.TheViews.{out-Command}

-- the argument is this one, and of one command alone
abbrev pub IsArg : Rule → Arg → Type 0
IsArg rule arg = (rule_of arg ≡ rule) × (arg.global ≡ false)

-- the second argument is the first one, but goes with others alone or not with others
abbrev pub IsBound : Arg → Arg → Type 0
IsBound old new = (rule : Rule) → IsArg rule old → IsArg (record rule { is_free = false }) new

-- the command is this one, without commands below it
abbrev pub IsCommand : Shape → Command → Type 0
IsCommand shape command =
    (app_of command ≡ record { top = shape; subs = [] })
    × ((out-Command command).has_globals ≡ false)
