-- Unambiguous arguments: they are always accepted, and have exactly this meaning.
use Rattle.std.specs.Prelude.{◌≡◌, ◌≢◌, ℕ, ◌/◌, ◌≤◌, ◌⊎◌, Bool, true, false, List, [], ◌∷◌, ◌++◌, None, codes}
use Rattle.std.specs.Fmt.{decimal}
use Rattle.clap.specs.Words.{Text}
use Rattle.lbk_values.specs.declared.profile.Profile.{Profile}
use Rattle.lbk_values.specs.declared.profile.Profile.TheVariants.{First, Second}
use Rattle.lbk_feed.specs.Text.{greatest_limit}
use Rattle.lbk_args.specs.Command.{default_limit}
use Rattle.lbk_args.specs.Sign.{default_sign}
use Rattle.lbk_args.specs.Task.{NamedValues, Task, built_in, folder_files, given_files, in_files}
use Rattle.lbk_args.specs.declared.order.Engine.{Engine}
use Rattle.lbk_args.specs.declared.order.Engine.TheVariants.{Mark, Show, Segment, Chunk, Replay}
use Rattle.lbk_args.specs.declared.order.Sizes.{Sizes}

-- a file's name that is not empty and does not begin with `-` (45)
abbrev pub IsPlainName : Text → Type 0
IsPlainName [] = ⊥
IsPlainName (first ∷ rest) = first ≢ 45

-- nothing, or `--limit` and a number in its range without leading zeros
abbrev pub AreLimitWords : ℕ → List Text → Type 0
AreLimitWords limit words = ((words ≡ []) × (limit ≡ default_limit))
    ⊎ ((words ≡ codes "--limit" ∷ decimal limit ∷ []) × (1 ≤ limit) × (limit ≤ greatest_limit))

-- the sizes of chunks if only the greatest is given
abbrev pub sizes_of : ℕ → Sizes
sizes_of most = record { most = most; words = 0; least = most / 2; overlap = 0 }

-- nothing, or a flag
abbrev pub AreFlagWords : Text → Bool → List Text → Type 0
AreFlagWords flag is_given words = ((words ≡ []) × (is_given ≡ false)) ⊎ ((words ≡ flag ∷ []) × (is_given ≡ true))

-- `--most` and a number in its range without leading zeros, and `--text` for the texts
pub record AreChunkWords (limit : ℕ) (sizes : Sizes) (texts : Bool) (words : List Text) : Type 0 where
  pub most : ℕ
  pub some : 1 ≤ most
  pub few : most ≤ greatest_limit
  pub text_words : List Text
  pub are : words ≡ codes "--most" ∷ decimal most ∷ text_words
  pub texts_are : AreFlagWords (codes "--text") texts text_words
  pub limit_is : limit ≡ default_limit
  pub sizes_are : sizes ≡ sizes_of most

-- nothing, or `--kinds`
abbrev pub AreKindsWords : Bool → List Text → Type 0
AreKindsWords kinds words = AreFlagWords (codes "--kinds") kinds words

-- the arguments of an engine's own option
abbrev pub AreEngineWords : Engine → List Text → Type 0
AreEngineWords (Mark limit) words = AreLimitWords limit words
AreEngineWords (Show limit) words = AreLimitWords limit words
AreEngineWords (Segment limit) words = AreLimitWords limit words
AreEngineWords (Chunk limit sizes texts) words = AreChunkWords limit sizes texts words
AreEngineWords (Replay kinds) words = AreKindsWords kinds words

abbrev pub profile_word : Profile → Text
profile_word First = codes "1"
profile_word Second = codes "2"

-- nothing, or `--profile` and `1` or `2`
abbrev pub AreProfileWords : Profile → List Text → Type 0
AreProfileWords profile words = ((words ≡ []) × (profile ≡ First))
    ⊎ (words ≡ codes "--profile" ∷ profile_word profile ∷ [])

abbrev pub name_of_engine : Engine → Text
name_of_engine (Mark limit) = codes "mark"
name_of_engine (Show limit) = codes "show"
name_of_engine (Segment limit) = codes "segment"
name_of_engine (Chunk limit sizes texts) = codes "chunk"
name_of_engine (Replay kinds) = codes "replay"

abbrev pub four_words : Text → Text → Text → Text → List Text
four_words line_break east_asian category emoji = codes "--line-break" ∷ line_break ∷ codes "--east-asian" ∷ east_asian
    ∷ codes "--category" ∷ category ∷ codes "--emoji" ∷ emoji ∷ []

-- `--unicode` and the version
abbrev pub AreVersionWords : NamedValues → List Text → Type 0
AreVersionWords values words = (words ≡ codes "--unicode" ∷ codes "15.0" ∷ []) × (values ≡ built_in)

-- `--ucd` and the folder of all four files
pub record AreFolderWords (values : NamedValues) (words : List Text) : Type 0 where
  pub folder : Text
  pub plain : IsPlainName folder
  pub are : words ≡ codes "--ucd" ∷ folder ∷ []
  pub values_are : values ≡ in_files (folder_files folder)

-- the four files in order, each after its option
pub record AreFourWords (values : NamedValues) (words : List Text) : Type 0 where
  pub line_break : Text
  pub east_asian : Text
  pub category : Text
  pub emoji : Text
  pub plain_line_break : IsPlainName line_break
  pub plain_east_asian : IsPlainName east_asian
  pub plain_category : IsPlainName category
  pub plain_emoji : IsPlainName emoji
  pub are : words ≡ four_words line_break east_asian category emoji
  pub values_are : values ≡ in_files (given_files line_break east_asian category emoji)

-- no words, for an engine that takes the built-in values then
abbrev pub AreNoWords : Engine → NamedValues → List Text → Type 0
AreNoWords (Mark limit) values words = (words ≡ []) × (values ≡ built_in)
AreNoWords (Chunk limit sizes texts) values words = (words ≡ []) × (values ≡ built_in)
AreNoWords _ values words = ⊥

-- the words of the property values
abbrev pub AreValueWords : Engine → NamedValues → List Text → Type 0
AreValueWords engine values words =
    (AreVersionWords values words ⊎ AreFolderWords values words)
    ⊎ (AreFourWords values words ⊎ AreNoWords engine values words)

-- the subcommand, the property values, the engine's own option and the profile, and no range, no sign, no flag of names and no
-- operand
pub record IsPlainFor (task : Task) (words : List Text) : Type 0 where
  pub value_words : List Text
  pub engine_words : List Text
  pub profile_words : List Text
  pub are : words ≡ name_of_engine task.engine ∷ (value_words ++ (engine_words ++ profile_words))
  pub values : AreValueWords task.engine task.values value_words
  pub engine : AreEngineWords task.engine engine_words
  pub profile : AreProfileWords task.profile profile_words
  pub part : task.part ≡ None
  pub sign : task.sign ≡ default_sign
  pub names : task.names ≡ false
  pub texts : task.texts ≡ []
