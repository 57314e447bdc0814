-- Which arguments are a command line of the program, and what is wrong with others.
use Rattle.std.specs.Prelude.{◌≡◌, ℕ, ◌&&◌, ◌/◌, Bool, true, not, List, [], ◌∷◌, Option, None, Some, if◌then◌else◌}
use Rattle.std.specs.Prelude.{nat_le, nat_lt}
use Rattle.clap.specs.Kinds.{or_else}
use Rattle.clap.specs.Words.{Kinds, Text, fault_of}
use Rattle.clap.specs.declared.error.kind.ErrorKind.TheVariants.{MissingRequiredArgument, ValueValidation}
use Rattle.lbk_feed.specs.Text.{greatest_limit}
use Rattle.lbk_args.specs.Command.{lbk_app}
use Rattle.lbk_args.specs.Sign.{is_sign}
use Rattle.lbk_args.specs.Task.{Task, task_by}
use Rattle.lbk_args.specs.declared.order.Engine.{Engine}
use Rattle.lbk_args.specs.declared.order.Engine.TheVariants.{Mark, Chunk}
use Rattle.lbk_args.specs.declared.order.Part.{Part}
use Rattle.lbk_args.specs.declared.order.Sizes.{Sizes}

-- a range of bytes does not end before it begins
abbrev pub is_range : Option Part → Bool
is_range None = true
is_range (Some part) = not (nat_lt part.to part.from)

-- the most bytes of a paragraph or of a chunk
abbrev pub is_limit : ℕ → Bool
is_limit limit = nat_le 1 limit && nat_le limit greatest_limit

-- a chunk has room for its least new bytes, and half of it for what it repeats
abbrev pub are_sizes : Sizes → Bool
are_sizes sizes = is_limit sizes.most && (nat_le sizes.least sizes.most && nat_le sizes.overlap (sizes.most / 2))

-- `clap` tests the limit of `show` and `segment`, which has no unit
abbrev pub are_bytes : Engine → Bool
are_bytes (Mark limit) = is_limit limit
are_bytes (Chunk limit sizes texts) = is_limit limit && are_sizes sizes
are_bytes _ = true

-- arguments that `clap` accepts ask for no task if they name no property values, or in two ways; a task is refused if its range ends
-- before it begins, its sign is invalid, or its numbers of bytes are out of range or contradict each other
abbrev pub task_fault : Option Task → Kinds
task_fault None = MissingRequiredArgument ∷ []
task_fault (Some task) = if is_range task.part && (is_sign task.sign && are_bytes task.engine) then []
    else ValueValidation ∷ []

-- what is wrong with the arguments, or what they ask for instead of work, by the kinds of `clap`; else what is wrong
-- with their task
abbrev pub faults_of : List Text → Kinds
faults_of words = or_else (fault_of lbk_app words) (task_fault (task_by words))

-- the arguments are a command line of the program
abbrev pub AreAccepted : List Text → Type 0
AreAccepted words = faults_of words ≡ []
