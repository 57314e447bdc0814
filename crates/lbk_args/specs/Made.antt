-- What the steps that build the command line keep.
use Rattle.std.specs.Prelude.{◌≡◌, false, Result, IfOk}
use Rattle.clap.specs.Words.{App, Rule, app_of, rule_of}
use Rattle.clap.specs.declared.builder.arg.Arg.{Arg}
use Rattle.clap.specs.declared.builder.command.Command.{Command}
use Rattle.clap.specs.declared.builder.command.Command.TheViews.{out-Command}

-- the argument follows this rule, and is not also one of the subcommands of its command
pub record IsOption (rule : Rule) (arg : Arg) : Type 0 where
  pub is_rule : rule_of arg ≡ rule
  pub local : arg.global ≡ false

-- no argument of the command is also one of its subcommands
abbrev pub IsLocal : Command → Type 0
IsLocal command = (out-Command command).has_globals ≡ false

-- if the command was made, it has these options and subcommands
pub record IsMade {E : Type 0} (app : App) (made : Result Command E) : Type 0 where
  pub is_app : IfOk made (λ c. app_of c ≡ app)
  pub local : IfOk made IsLocal
