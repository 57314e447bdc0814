-- What accepted arguments ask for, by the values that `clap` finds in them.
use Rattle.std.specs.Prelude.{ℕ, ◌==◌, ◌&&◌, ◌||◌, ◌/◌, Bool, false, List, [], ◌∷◌, Option, Some, None, if◌then◌else◌}
use Rattle.std.specs.Prelude.{codes, map, option_and_then, option_map, unwrap_or}
use Rattle.std.specs.Str.{bytes_eq}
use Rattle.clap.specs.Words.{Row, Text, all_of, first_of, one_of, subcommand_of}
use Rattle.lbk_values.specs.declared.profile.Profile.{Profile}
use Rattle.lbk_values.specs.declared.profile.Profile.TheVariants.{First, Second}
use Rattle.lbk_args.specs.Command.{lbk_app, default_limit, greatest_byte}
use Rattle.lbk_args.specs.Numbers.{bytes_or, number_or}
use Rattle.lbk_args.specs.Sign.{default_sign}
use Rattle.lbk_args.specs.declared.order.Engine.{Engine}
use Rattle.lbk_args.specs.declared.order.Engine.TheVariants.{Mark, Show, Segment, Chunk, Replay}
use Rattle.lbk_args.specs.declared.order.FileName.{FileName}
use Rattle.lbk_args.specs.declared.order.FileName.TheVariants.{Given, InFolder}
use Rattle.lbk_args.specs.declared.order.FileNames.{FileNames}
use Rattle.lbk_args.specs.declared.order.Order.{Order}
use Rattle.lbk_args.specs.declared.order.Part.{Part}
use Rattle.lbk_args.specs.declared.order.Sizes.{Sizes}
use Rattle.lbk_args.specs.declared.order.PropertyValues.{PropertyValues}
use Rattle.lbk_args.specs.declared.order.PropertyValues.TheVariants.{BuiltIn, Files}

-- how a property file is named: by its own option, or by its folder
pub data Named : Type 0 where
  given : Text → Named
  in_folder : Text → Named

-- the four files
pub record NamedFiles : Type 0 where
  pub line_break : Named
  pub east_asian : Named
  pub category : Named
  pub emoji : Named

-- where the property values come from: built in, or from four files
pub data NamedValues : Type 0 where
  built_in : NamedValues
  in_files : NamedFiles → NamedValues

-- an engine with its options, the property values, the profile, the range of passages in each text, the sign of
-- `mark`, whether to write names, and the names of the texts
pub record Task : Type 0 where
  pub engine : Engine
  pub values : NamedValues
  pub profile : Profile
  pub part : Option Part
  pub sign : Text
  pub names : Bool
  pub texts : List Text

abbrev pub named_of : FileName → Named
named_of (Given name) = given name.now
named_of (InFolder folder) = in_folder folder.now

abbrev pub files_of_names : FileNames → NamedFiles
files_of_names names = record {
  line_break = named_of names.line_break;
  east_asian = named_of names.east_asian;
  category = named_of names.category;
  emoji = named_of names.emoji;
}

abbrev pub values_of : PropertyValues → NamedValues
values_of BuiltIn = built_in
values_of (Files names) = in_files (files_of_names names)

-- the task of an order
abbrev pub task_of : Order → Task
task_of o = record {
  engine = o.engine;
  values = values_of o.values;
  profile = o.profile;
  part = o.part;
  sign = o.sign.now;
  names = o.names;
  texts = map (λ name. name.now) o.texts.items;
}

-- all four files in a folder
abbrev pub folder_files : Text → NamedFiles
folder_files folder = record {
  line_break = in_folder folder;
  east_asian = in_folder folder;
  category = in_folder folder;
  emoji = in_folder folder;
}

-- each file by its own name
abbrev pub given_files : Text → Text → Text → Text → NamedFiles
given_files line_break east_asian category emoji = record {
  line_break = given line_break;
  east_asian = given east_asian;
  category = given category;
  emoji = given emoji;
}

-- the files that have their own options: none, some, or all
pub data OwnFiles : Type 0 where
  no_file : OwnFiles
  some_files : OwnFiles
  all_files : NamedFiles → OwnFiles

abbrev pub own_files : Option Text → Option Text → Option Text → Option Text → OwnFiles
own_files None None None None = no_file
own_files (Some line_break) (Some east_asian) (Some category) (Some emoji) =
    all_files (given_files line_break east_asian category emoji)
own_files _ _ _ _ = some_files

abbrev pub own_files_in : List Row → OwnFiles
own_files_in rows = own_files (first_of (codes "line-break") rows) (first_of (codes "east-asian") rows)
    (first_of (codes "category") rows) (first_of (codes "emoji") rows)

-- the version of the built-in values
abbrev pub is_built_in : Text → Bool
is_built_in version = bytes_eq version (codes "15.0") || bytes_eq version (codes "15.0.0")

-- the files of a folder, if its name is not empty
abbrev pub values_in_folder : Text → Option NamedValues
values_in_folder [] = None
values_in_folder (first ∷ rest) = Some (in_files (folder_files (first ∷ rest)))

-- the values by one of three ways: a version, a folder, four files; or the built-in ones where a subcommand needs none
abbrev pub values_by : Bool → Option Text → Option Text → OwnFiles → Option NamedValues
values_by needs_none None None no_file = if needs_none then Some built_in else None
values_by needs_none (Some version) None no_file = if is_built_in version then Some built_in else None
values_by needs_none None (Some folder) no_file = values_in_folder folder
values_by needs_none None None (all_files files) = Some (in_files files)
values_by needs_none _ _ _ = None

-- `mark` and `chunk` take the built-in values where no way is given
abbrev pub needs_no_values : Text → Bool
needs_no_values name = bytes_eq name (codes "mark") || bytes_eq name (codes "chunk")

abbrev pub values_in : Text → List Row → Option NamedValues
values_in name rows =
    values_by (needs_no_values name) (first_of (codes "unicode") rows) (first_of (codes "ucd") rows) (own_files_in rows)

-- the limit of `show` and `segment`, and that of `mark` and `chunk`, which may have a unit
abbrev pub limit_in : List Row → ℕ
limit_in rows = number_or default_limit (one_of (codes "limit") rows)

abbrev pub byte_limit_in : List Row → ℕ
byte_limit_in rows = bytes_or default_limit (first_of (codes "limit") rows)

abbrev pub profile_in : List Row → Profile
profile_in rows = if number_or 1 (one_of (codes "profile") rows) == 2 then Second else First

-- the passages that begin at byte `from` or later, and before byte `to`; None if these are all that a text may have
abbrev pub part_by : ℕ → ℕ → Option Part
part_by from to = if (from == 0) && (to == greatest_byte) then None else Some (record { from = from; to = to })

abbrev pub part_in : List Row → Option Part
part_in rows = part_by (number_or 0 (one_of (codes "from") rows)) (number_or greatest_byte (one_of (codes "to") rows))

-- the sign of `mark`; no other subcommand has an option for it
abbrev pub sign_in : List Row → Text
sign_in rows = unwrap_or (first_of (codes "sign") rows) default_sign

-- the names of the texts, in the order of the arguments
abbrev pub texts_in : List Row → List Text
texts_in rows = unwrap_or (all_of (codes "text") rows) []

-- the text is `true`
abbrev pub is_true : Option Text → Bool
is_true None = false
is_true (Some text) = bytes_eq text (codes "true")

-- whether the arguments have the flag with a name
abbrev pub flag_in : Text → List Row → Bool
flag_in id rows = is_true (one_of id rows)

abbrev pub kinds_in : List Row → Bool
kinds_in rows = flag_in (codes "kinds") rows

abbrev pub names_in : List Row → Bool
names_in rows = flag_in (codes "names") rows

-- the sizes of chunks; the default of the least is half of the greatest; 0 words mean any number
abbrev pub sizes_by : ℕ → List Row → Sizes
sizes_by most rows = record {
  most = most;
  words = number_or 0 (one_of (codes "words") rows);
  least = bytes_or (most / 2) (first_of (codes "least") rows);
  overlap = bytes_or 0 (first_of (codes "overlap") rows);
}

abbrev pub sizes_in : List Row → Sizes
sizes_in rows = sizes_by (bytes_or 1 (first_of (codes "most") rows)) rows

abbrev pub with_texts_in : List Row → Bool
with_texts_in rows = flag_in (codes "texts") rows

abbrev pub engine_in : Text → List Row → Engine
engine_in name rows =
    if bytes_eq name (codes "mark") then Mark (byte_limit_in rows)
    else if bytes_eq name (codes "show") then Show (limit_in rows)
    else if bytes_eq name (codes "segment") then Segment (limit_in rows)
    else if bytes_eq name (codes "chunk") then Chunk (byte_limit_in rows) (sizes_in rows) (with_texts_in rows)
    else Replay (kinds_in rows)

-- the task of a subcommand, from its options, if its property values are named
abbrev pub task_in : Text × List Row → Option Task
task_in found = option_map (λ values. record {
  engine = engine_in found.0 found.1;
  values = values;
  profile = profile_in found.1;
  part = part_in found.1;
  sign = sign_in found.1;
  names = names_in found.1;
  texts = texts_in found.1;
}) (values_in found.0 found.1)

-- the task that the arguments ask for
abbrev pub task_by : List Text → Option Task
task_by words = option_and_then task_in (subcommand_of lbk_app words)
