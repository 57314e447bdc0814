-- The command line: the subcommands and their options.
use Rattle.std.specs.Prelude.{ℕ, true, [], ◌∷◌, Some, codes}
use Rattle.lbk_feed.specs.Text.{greatest_limit}
use Rattle.clap.specs.Words.{App, Rule, Text, new_app, new_rule, with_rule, with_subcommand}
use Rattle.clap.specs.declared.builder.action.ArgAction.TheVariants.{Append, Set, SetTrue}
use Rattle.clap.specs.declared.builder.value_parser.ValueParser.TheVariants.{Unsigned}

-- the default limit of a paragraph, in bytes, and as text
abbrev pub default_limit : ℕ
default_limit = 65536

abbrev pub default_limit_text : Text
default_limit_text = codes "65536"

-- an option with a long name
abbrev pub long_rule : Text → Rule
long_rule name = record (new_rule name) { long = Some name }

-- an option with a value
abbrev pub value_rule : Text → Rule
value_rule name = record (long_rule name) { action = Some Set; value_names = 1 }

-- an option with a number in a range
abbrev pub number_rule : Text → ℕ → Text → Rule
number_rule name most default = record (value_rule name) {
  parser = Some (Unsigned 1 most);
  defaults = default ∷ [];
}

-- the greatest byte offset that an option accepts: more than any text has
abbrev pub greatest_byte : ℕ
greatest_byte = 4294967295

-- an option with a byte offset in a text
abbrev pub byte_rule : Text → Rule
byte_rule name = record (value_rule name) { parser = Some (Unsigned 0 greatest_byte) }

-- an option with a number of words, at most as many as bytes in a paragraph
abbrev pub words_rule : Rule
words_rule = record (value_rule (codes "words")) { parser = Some (Unsigned 1 greatest_limit) }

-- the limit of a paragraph, and the same as a text, which may have a unit
abbrev pub limit_rule : Rule
limit_rule = number_rule (codes "limit") greatest_limit default_limit_text

abbrev pub byte_limit_rule : Rule
byte_limit_rule = record (value_rule (codes "limit")) { defaults = default_limit_text ∷ [] }

-- a flag
abbrev pub flag_rule : Text → Rule
flag_rule name = record (long_rule name) { action = Some SetTrue }

-- the flag `--text`; the operands have the same name
abbrev pub texts_flag_rule : Rule
texts_flag_rule = record (new_rule (codes "texts")) { long = Some (codes "text"); action = Some SetTrue }

-- the operands, which name the texts
abbrev pub texts_rule : Rule
texts_rule = record (new_rule (codes "text")) { action = Some Append; value_names = 1 }

-- a subcommand with the version of the built-in property values
abbrev pub version_app : Text → App
version_app name = with_rule (new_app name) (value_rule (codes "unicode"))

-- the options of the files, which each subcommand has
abbrev pub folder_app : Text → App
folder_app name = with_rule (version_app name) (value_rule (codes "ucd"))

abbrev pub widths_app : Text → App
widths_app name = with_rule (with_rule (folder_app name)
    (value_rule (codes "line-break"))) (value_rule (codes "east-asian"))

abbrev pub files_app : Text → App
files_app name = with_rule (with_rule (widths_app name)
    (value_rule (codes "category"))) (value_rule (codes "emoji"))

abbrev pub profile_rule : Rule
profile_rule = number_rule (codes "profile") 2 (codes "1")

-- a subcommand with `--profile`, `--names` and the texts after its other options
abbrev pub shared_app : App → App
shared_app app = with_rule (with_rule (with_rule app profile_rule) (flag_rule (codes "names"))) texts_rule

-- a subcommand over texts, with `--limit`, `--from` and `--to` after its other options
abbrev pub ranged_app : Rule → App → App
ranged_app limit app = shared_app (with_rule (with_rule (with_rule app limit) (byte_rule (codes "from")))
    (byte_rule (codes "to")))

-- `show` and `segment`
abbrev pub limited_app : Text → App
limited_app name = ranged_app limit_rule (files_app name)

-- `mark`
abbrev pub mark_app : App
mark_app = with_rule (ranged_app byte_limit_rule (files_app (codes "mark"))) (value_rule (codes "sign"))

-- `chunk`, with its sizes and its flag before the limit; the greatest size is required
abbrev pub most_app : App
most_app = with_rule (files_app (codes "chunk")) (record (value_rule (codes "most")) { required = true })

abbrev pub sized_app : App
sized_app = with_rule (with_rule (with_rule (with_rule most_app
    words_rule) (value_rule (codes "least"))) (value_rule (codes "overlap"))) texts_flag_rule

abbrev pub chunk_app : App
chunk_app = ranged_app byte_limit_rule sized_app

-- `replay`
abbrev pub replay_app : App
replay_app = shared_app (with_rule (files_app (codes "replay")) (flag_rule (codes "kinds")))

-- a program that requires a subcommand, and has a version
abbrev pub bare_app : App
bare_app = record {
  top = record (new_app (codes "lbk")).top { no_binary_name = true; has_version = true; subcommand_required = true };
  subs = [];
}

-- the program with its subcommands, in the order in which they are added
abbrev pub app_to_mark : App
app_to_mark = with_subcommand bare_app mark_app.top

abbrev pub app_to_show : App
app_to_show = with_subcommand app_to_mark (limited_app (codes "show")).top

abbrev pub app_to_segment : App
app_to_segment = with_subcommand app_to_show (limited_app (codes "segment")).top

abbrev pub app_to_chunk : App
app_to_chunk = with_subcommand app_to_segment chunk_app.top

abbrev pub lbk_app : App
lbk_app = with_subcommand app_to_chunk replay_app.top
