-- Plain words are accepted, and ask for what they say.
use Rattle.std.proofs.Common.{◌≡◌, ◌≤◌, ◌∙◌, ℕ, Bool, true, false, List, [], ◌∷◌, ◌++◌, Option, Some, None, inl, inr}
use Rattle.std.proofs.Common.{refl, sym, ap, ap₂, subst, codes, arith}
use Rattle.std.proofs.lemmas.Bool.{le-leb}
use Rattle.std.specs.Prelude.{◌==◌, ◌/◌, if◌then◌else◌, is_some, option_and_then, option_map, ⊤}
use Rattle.std.specs.Fmt.{decimal}
use Rattle.std.specs.Str.{chars}
use Rattle.clap.specs.Faults.{check_fault, defaults_fault, entered_fault, fault_of, level_fault, settle_fault, turn_fault}
use Rattle.clap.specs.Kinds.{Kinds, or_else, value_kinds}
use Rattle.clap.specs.Simple.{Shape, built, built_leaf, entered, filled, inherited, marked_built, with_index, with_leaf_noted}
use Rattle.clap.specs.Walk.{Held, Row, Rule, Text, Waiting, Walk, arg_by_id, finished, idle, nothing_held, option}
use Rattle.clap.specs.Walk.{option_word, reading_by, rows_after, settled, walked}
use Rattle.clap.specs.declared.builder.value_parser.ValueParser.TheVariants.{Unsigned}
use Rattle.clap.specs.declared.error.kind.ErrorKind.TheVariants.{ValueValidation}
use Rattle.clap.specs.declared.parser.matches.ValueSource.TheVariants.{CommandLine}
use Rattle.clap.proofs.OnLiterals.{clap_on_literals}
use Rattle.lbk_values.specs.declared.profile.Profile.{Profile}
use Rattle.lbk_values.specs.declared.profile.Profile.TheVariants.{First, Second}
use Rattle.lbk_args.specs.declared.order.Engine.{Engine}
use Rattle.lbk_args.specs.declared.order.Engine.TheVariants.{Mark, Show, Segment, Chunk, Replay}
use Rattle.lbk_args.specs.declared.order.Part.{Part}
use Rattle.lbk_args.specs.declared.order.Sizes.{Sizes}
use Rattle.lbk_args.specs.Accepted.{are_bytes, faults_of, is_limit, task_fault}
use Rattle.lbk_feed.specs.Text.{greatest_limit}
use Rattle.lbk_args.specs.Command.{byte_limit_rule, chunk_app, default_limit, flag_rule, lbk_app, limit_rule, limited_app}
use Rattle.lbk_args.specs.Command.{mark_app, profile_rule, replay_app, texts_flag_rule}
use Rattle.lbk_args.specs.Command.{value_rule}
use Rattle.lbk_args.specs.PlainWords.{AreEngineWords, AreFlagWords, AreNoWords, AreValueWords, AreProfileWords}
use Rattle.lbk_args.specs.PlainWords.{IsPlainFor, IsPlainName, name_of_engine, profile_word, sizes_of}
use Rattle.lbk_args.specs.Task.{NamedValues, Task, built_in, byte_limit_in, folder_files, given_files, in_files, kinds_in, limit_in}
use Rattle.lbk_args.specs.Numbers.{bytes_or, number_or}
use Rattle.lbk_args.specs.Task.{names_in, part_in, profile_in, sign_in, values_in}
use Rattle.lbk_args.specs.Task.{sizes_in, task_by, task_in, texts_in, with_texts_in}
use Rattle.lbk_args.specs.Sign.{default_sign}
use Rattle.lbk_args.proofs.Numerals.{bytes_read, limit_plain, limit_read, limit_taken}
use Rattle.lbk_args.proofs.Steps.{Enters, Takes, Walks, between, done, entered_clean, entered_rows, pair, step, taken}

-- ---- a subcommand as it is built

abbrev sub : Shape → Shape
sub s = built_leaf (inherited (with_leaf_noted (marked_built lbk_app.top)) s)

abbrev built_rule : Rule → Rule
built_rule a = with_index 1 (filled a)

abbrev version_rule : Rule
version_rule = built_rule (value_rule (codes "unicode"))

abbrev folder_rule : Rule
folder_rule = built_rule (value_rule (codes "ucd"))

abbrev line_break_rule : Rule
line_break_rule = built_rule (value_rule (codes "line-break"))

abbrev east_asian_rule : Rule
east_asian_rule = built_rule (value_rule (codes "east-asian"))

abbrev category_rule : Rule
category_rule = built_rule (value_rule (codes "category"))

abbrev emoji_rule : Rule
emoji_rule = built_rule (value_rule (codes "emoji"))

-- a subcommand whose first options are the version, the folder and the four files
abbrev with_files : Shape → List Rule → Shape
with_files base more =
    record base { rules = version_rule ∷ folder_rule ∷ line_break_rule ∷ east_asian_rule ∷ category_rule ∷ emoji_rule ∷ more }

-- what is found for an option in the words
abbrev found : Rule → Text → Row
found a v = record { id = a.id; values = v ∷ []; count = None; source = Some CommandLine; reading = reading_by a }

abbrev pending : List Row → Text → List Text → Held
pending rows id values = record { rows = rows; pending = Some (id, values); skip = 0 }

-- ---- the words of the property values

-- a version, a folder, four names, or no words
data Files : Type 0 where
  version : Files
  folder : Text → Files
  four : Text → Text → Text → Text → Files
  absent : Files

abbrev ArePlain : Files → Type 0
ArePlain version = ⊤
ArePlain (folder u) = IsPlainName u
ArePlain (four l e c m) = IsPlainName l × IsPlainName e × IsPlainName c × IsPlainName m
ArePlain absent = ⊤

abbrev words_before : Files → List Text → List Text
words_before version rest = codes "--unicode" ∷ codes "15.0" ∷ rest
words_before (folder u) rest = codes "--ucd" ∷ u ∷ rest
words_before (four l e c m) rest =
    codes "--line-break" ∷ l ∷ codes "--east-asian" ∷ e ∷ codes "--category" ∷ c ∷ codes "--emoji" ∷ m ∷ rest
words_before absent rest = rest

abbrev values_of : Files → NamedValues
values_of version = built_in
values_of (folder u) = in_files (folder_files u)
values_of (four l e c m) = in_files (given_files l e c m)
values_of absent = built_in

-- what is found in them
abbrev file_rows : Files → List Row
file_rows version = found version_rule (codes "15.0") ∷ []
file_rows (folder u) = found folder_rule u ∷ []
file_rows (four l e c m) = found line_break_rule l ∷ found east_asian_rule e ∷ found category_rule c
    ∷ found emoji_rule m ∷ []
file_rows absent = []

-- what is held behind them
abbrev behind : Files → Held
behind version = pending [] (codes "unicode") (codes "15.0" ∷ [])
behind (folder u) = pending [] (codes "ucd") (u ∷ [])
behind (four l e c m) =
    pending (found line_break_rule l ∷ found east_asian_rule e ∷ found category_rule c ∷ []) (codes "emoji") (m ∷ [])
behind absent = nothing_held

plain_version : IsPlainName (codes "15.0")
plain_version = λ e. absurd (omega (arith, e))

walked_files : (base : Shape) (more : List Rule) (fs : Files) (rest : List Text) (end : Walk) → ArePlain fs
    → Walks (with_files base more) (between (behind fs) idle) rest end
    → Walks (with_files base more) (between nothing_held idle) (words_before fs rest) end
unfolding clap_on_literals
walked_files base more version rest end plain further =
    pair (with_files base more) nothing_held (pending [] (codes "unicode") []) (behind version)
    (codes "unicode") (codes "--unicode") (codes "15.0") _ end
    refl refl plain_version refl further
walked_files base more absent rest end plain further = further
walked_files base more (folder u) rest end plain further =
    pair (with_files base more) nothing_held (pending [] (codes "ucd") []) (pending [] (codes "ucd") (u ∷ []))
    (codes "ucd") (codes "--ucd") u _ end
    refl refl plain refl further
walked_files base more (four l e c m) rest end (pl, pe, pc, pm) further =
    let s = with_files base more in
    pair s nothing_held (pending [] (codes "line-break") []) (pending [] (codes "line-break") (l ∷ []))
    (codes "line-break") (codes "--line-break") l _ end
    refl refl pl refl
    (pair s (pending [] (codes "line-break") (l ∷ [])) (pending (found line_break_rule l ∷ []) (codes "east-asian") [])
    (pending (found line_break_rule l ∷ []) (codes "east-asian") (e ∷ [])) (codes "east-asian") (codes "--east-asian") e
    _ end refl refl pe refl
    (pair s (pending (found line_break_rule l ∷ []) (codes "east-asian") (e ∷ []))
    (pending (found line_break_rule l ∷ found east_asian_rule e ∷ []) (codes "category") [])
    (pending (found line_break_rule l ∷ found east_asian_rule e ∷ []) (codes "category") (c ∷ [])) (codes "category")
    (codes "--category") c _ end refl refl pc refl
    (pair s (pending (found line_break_rule l ∷ found east_asian_rule e ∷ []) (codes "category") (c ∷ []))
    (pending (found line_break_rule l ∷ found east_asian_rule e ∷ found category_rule c ∷ []) (codes "emoji") [])
    (behind (four l e c m)) (codes "emoji")
    (codes "--emoji") m rest end refl refl pm refl further)))

-- ---- what an order of words has to show

pub record Performs (words : List Text) (task : Task) : Type 0 where
  pub accepted : faults_of words ≡ []
  pub asks : task_by words ≡ Some task

-- words that `clap` takes, and that ask for a task in which nothing is wrong
pub performs : (words : List Text) (task : Task) → fault_of lbk_app words ≡ [] → task_by words ≡ Some task
    → task_fault (Some task) ≡ []
    → Performs words task
performs words task clean asks fits = record {
  accepted = ap₂ (λ (ks : Kinds) (t : Option Task). or_else ks (task_fault t)) clean asks ∙ fits;
  asks = asks;
}

-- ---- the subcommands

-- those over texts are one but for `mark`, which has a sign
data Sub : Type 0 where
  marks : Sub
  limits : Text → Sub
  chunks : Sub
  replays : Sub

abbrev name_of : Sub → Text
name_of marks = codes "mark"
name_of (limits name) = name
name_of chunks = codes "chunk"
name_of replays = codes "replay"

-- plain words of the property values, which `mark` and `chunk` may lack
abbrev MayLack : Sub → Files → Type 0
MayLack (limits name) absent = ⊥
MayLack replays absent = ⊥
MayLack _ _ = ⊤

abbrev ArePlainFor : Sub → Files → Type 0
ArePlainFor which fs = ArePlain fs × MayLack which fs

abbrev shape_of : Sub → Shape
shape_of marks = sub mark_app.top
shape_of (limits name) = sub (limited_app name).top
shape_of chunks = sub chunk_app.top
shape_of replays = sub replay_app.top

-- the program leaves the words behind a name to the subcommand
record Leaves (name : Text) (s : Shape) : Type 0 where
  enters : Enters (built lbk_app) name
  clean : (words : List Text) → entered_fault (built lbk_app) (Some (name, words))
      ≡ level_fault s [] nothing_held words false []
  checks : (words : List Text) → check_fault (built lbk_app).top (finished (built lbk_app).top.rules nothing_held)
      (is_some (entered (built lbk_app) (Some (name, words)))) ≡ []
  rows : (words : List Text) → entered (built lbk_app) (Some (name, words)) ≡ Some (name, rows_after s.rules [] words)

leaves_mark : Leaves (codes "mark") (shape_of marks)
unfolding clap_on_literals
leaves_mark = record { enters = record { walks = refl; clean = refl; defaults = refl }; clean = λ w. refl; checks = λ w. refl; rows = λ w. refl }

leaves_show : Leaves (codes "show") (shape_of (limits (codes "show")))
unfolding clap_on_literals
leaves_show = record { enters = record { walks = refl; clean = refl; defaults = refl }; clean = λ w. refl; checks = λ w. refl; rows = λ w. refl }

leaves_segment : Leaves (codes "segment") (shape_of (limits (codes "segment")))
unfolding clap_on_literals
leaves_segment = record { enters = record { walks = refl; clean = refl; defaults = refl }; clean = λ w. refl; checks = λ w. refl; rows = λ w. refl }

leaves_chunk : Leaves (codes "chunk") (shape_of chunks)
unfolding clap_on_literals
leaves_chunk = record { enters = record { walks = refl; clean = refl; defaults = refl }; clean = λ w. refl; checks = λ w. refl; rows = λ w. refl }

leaves_replay : Leaves (codes "replay") (shape_of replays)
unfolding clap_on_literals
leaves_replay = record { enters = record { walks = refl; clean = refl; defaults = refl }; clean = λ w. refl; checks = λ w. refl; rows = λ w. refl }

sub_performs : (name : Text) (s : Shape) (words : List Text) (rows : List Row) (task : Task) → Leaves name s → Takes s words rows
    → task_in (name, rows) ≡ Some task → task_fault (Some task) ≡ [] → Performs (name ∷ words) task
sub_performs name s words rows task leaves takes same fits =
    performs (name ∷ words) task
    (entered_clean (built lbk_app) name words leaves.enters (leaves.clean words ∙ takes.clean) (leaves.checks words))
    (ap (option_and_then task_in) (entered_rows (built lbk_app) name words leaves.enters ∙ leaves.rows words
    ∙ ap (λ (r : List Row). Some (name, r)) takes.rows_are) ∙ same) fits

-- ---- the words behind the files

abbrev built_limit_rule : Rule
built_limit_rule = built_rule limit_rule

abbrev built_byte_limit_rule : Rule
built_byte_limit_rule = built_rule byte_limit_rule

abbrev most_rule : Rule
most_rule = built_rule (record (value_rule (codes "most")) { required = true })

abbrev built_texts_rule : Rule
built_texts_rule = built_rule texts_flag_rule

abbrev built_profile_rule : Rule
built_profile_rule = built_rule profile_rule

abbrev kinds_rule : Rule
kinds_rule = built_rule (flag_rule (codes "kinds"))

-- a text that the option of the limit takes, or that of the profile
abbrev IsLimitText : Text → Type 0
IsLimitText d = value_kinds false (Unsigned 1 greatest_limit) d ≡ []

abbrev IsProfileText : Text → Type 0
IsProfileText d = value_kinds false (Unsigned 1 2) d ≡ []

profile_plain : (profile : Profile) → IsPlainName (profile_word profile)
profile_plain First = λ e. absurd (omega (arith, e))
profile_plain Second = λ e. absurd (omega (arith, e))

profile_taken : (profile : Profile) → IsProfileText (profile_word profile)
unfolding clap_on_literals
profile_taken First = refl
profile_taken Second = refl

profile_read : (profile : Profile) → (if number_or 1 (Some (profile_word profile)) == 2 then Second else First)
    ≡ profile
unfolding clap_on_literals
profile_read First = refl
profile_read Second = refl

-- the rows, and nothing waits
abbrev settled_held : List Row → Held
settled_held rows = record { rows = rows; pending = None; skip = 0 }

-- the rows behind `--limit`, `--most`, `--text` and `--kinds`, and what is held at `--profile` and behind it
abbrev most_rows : Files → Text → List Row
most_rows fs d = file_rows fs ++ found most_rule d ∷ []

abbrev text_rows : Files → Text → List Row
text_rows fs d = file_rows fs ++ found most_rule d ∷ found built_texts_rule (codes "true") ∷ []

abbrev behind_profile_word : List Row → Held
behind_profile_word rows = pending rows (codes "profile") []

abbrev behind_profile : List Row → Text → Held
behind_profile rows p = pending rows (codes "profile") (p ∷ [])

abbrev limit_rows : Files → Text → List Row
limit_rows fs d = file_rows fs ++ found built_limit_rule d ∷ []

abbrev byte_limit_rows : Files → Text → List Row
byte_limit_rows fs d = file_rows fs ++ found built_byte_limit_rule d ∷ []

abbrev kinds_rows : Files → List Row
kinds_rows fs = file_rows fs ++ found kinds_rule (codes "true") ∷ []

-- the words of a subcommand's own options: of a limit, or none; of the greatest size, or of it and `--text`; `--kinds`, or
-- none
data Own : Type 0 where
  fewer : Text → Own
  fuller : Text → Own

abbrev own_words : Sub → Own → List Text → List Text
own_words marks (fuller d) rest = codes "--limit" ∷ d ∷ rest
own_words (limits name) (fuller d) rest = codes "--limit" ∷ d ∷ rest
own_words chunks (fewer d) rest = codes "--most" ∷ d ∷ rest
own_words chunks (fuller d) rest = codes "--most" ∷ d ∷ codes "--text" ∷ rest
own_words replays (fuller d) rest = codes "--kinds" ∷ rest
own_words _ _ rest = rest

-- a number that the option takes
abbrev IsOwn : Sub → Own → Type 0
IsOwn marks (fuller d) = IsPlainName d
IsOwn (limits name) (fuller d) = IsPlainName d × IsLimitText d
IsOwn chunks (fewer d) = IsPlainName d
IsOwn chunks (fuller d) = IsPlainName d
IsOwn _ _ = ⊤

-- what is held behind them, and the rows once it is settled
abbrev own_held : Sub → Own → Files → Held
own_held marks (fuller d) fs = pending (file_rows fs) (codes "limit") (d ∷ [])
own_held (limits name) (fuller d) fs = pending (file_rows fs) (codes "limit") (d ∷ [])
own_held chunks (fewer d) fs = pending (file_rows fs) (codes "most") (d ∷ [])
own_held chunks (fuller d) fs = settled_held (text_rows fs d)
own_held replays (fuller d) fs = settled_held (kinds_rows fs)
own_held _ _ fs = behind fs

abbrev own_rows : Sub → Own → Files → List Row
own_rows marks (fuller d) fs = byte_limit_rows fs d
own_rows (limits name) (fuller d) fs = limit_rows fs d
own_rows chunks (fewer d) fs = most_rows fs d
own_rows chunks (fuller d) fs = text_rows fs d
own_rows replays (fuller d) fs = kinds_rows fs
own_rows _ _ fs = file_rows fs

-- `--profile` settles what is held, and takes the next word
record Opens (s : Shape) (h : Held) (rows : List Row) : Type 0 where
  walks : walked s.rules [] (between h idle) (codes "--profile") ≡ between (behind_profile_word rows) (option (codes "profile"))
  clean : turn_fault s [] (between h idle) (codes "--profile") ≡ []
  takes : (p : Text) → ◌≡◌ {A = Held × Waiting} (option_word (arg_by_id s.rules (codes "profile")) (codes "profile") p (behind_profile_word rows))
      (behind_profile rows p, idle)

-- the words may end where this is held
record Ends (s : Shape) (h : Held) : Type 0 where
  settles : settle_fault s.rules s.args_override_self h ≡ []
  defaults : defaults_fault (settled s.rules h).rows s.rules ≡ []
  checks : check_fault s (finished s.rules h) false ≡ []

own_walk : (which : Sub) (own : Own) (fs : Files) (rest : List Text) (end : Walk) → IsOwn which own
    → Walks (shape_of which) (between (own_held which own fs) idle) rest end
    → Walks (shape_of which) (between (behind fs) idle) (own_words which own rest) end
unfolding clap_on_literals
own_walk marks (fewer d) version rest end fits further = further
own_walk marks (fewer d) absent rest end fits further = further
own_walk marks (fewer d) (folder u) rest end fits further = further
own_walk marks (fewer d) (four l e c m) rest end fits further = further
own_walk marks (fuller d) version rest end fits further =
    pair (shape_of marks) (behind version) (pending (file_rows version) (codes "limit") []) (pending (file_rows version) (codes "limit") (d ∷ []))
    (codes "limit") (codes "--limit") d rest end refl refl fits refl further
own_walk marks (fuller d) absent rest end fits further =
    pair (shape_of marks) (behind absent) (pending (file_rows absent) (codes "limit") []) (pending (file_rows absent) (codes "limit") (d ∷ []))
    (codes "limit") (codes "--limit") d rest end refl refl fits refl further
own_walk marks (fuller d) (folder u) rest end fits further =
    pair (shape_of marks) (behind (folder u)) (pending (file_rows (folder u)) (codes "limit") []) (pending (file_rows (folder u)) (codes "limit") (d ∷ []))
    (codes "limit") (codes "--limit") d rest end refl refl fits refl further
own_walk marks (fuller d) (four l e c m) rest end fits further =
    pair (shape_of marks) (behind (four l e c m)) (pending (file_rows (four l e c m)) (codes "limit") []) (pending (file_rows (four l e c m)) (codes "limit") (d ∷ []))
    (codes "limit") (codes "--limit") d rest end refl refl fits refl further
own_walk (limits name) (fewer d) version rest end fits further = further
own_walk (limits name) (fewer d) absent rest end fits further = further
own_walk (limits name) (fewer d) (folder u) rest end fits further = further
own_walk (limits name) (fewer d) (four l e c m) rest end fits further = further
own_walk (limits name) (fuller d) version rest end fits further =
    pair (shape_of (limits name)) (behind version) (pending (file_rows version) (codes "limit") []) (pending (file_rows version) (codes "limit") (d ∷ []))
    (codes "limit") (codes "--limit") d rest end refl refl fits.0 refl further
own_walk (limits name) (fuller d) absent rest end fits further =
    pair (shape_of (limits name)) (behind absent) (pending (file_rows absent) (codes "limit") []) (pending (file_rows absent) (codes "limit") (d ∷ []))
    (codes "limit") (codes "--limit") d rest end refl refl fits.0 refl further
own_walk (limits name) (fuller d) (folder u) rest end fits further =
    pair (shape_of (limits name)) (behind (folder u)) (pending (file_rows (folder u)) (codes "limit") []) (pending (file_rows (folder u)) (codes "limit") (d ∷ []))
    (codes "limit") (codes "--limit") d rest end refl refl fits.0 refl further
own_walk (limits name) (fuller d) (four l e c m) rest end fits further =
    pair (shape_of (limits name)) (behind (four l e c m)) (pending (file_rows (four l e c m)) (codes "limit") []) (pending (file_rows (four l e c m)) (codes "limit") (d ∷ []))
    (codes "limit") (codes "--limit") d rest end refl refl fits.0 refl further
own_walk chunks (fewer d) version rest end fits further =
    pair (shape_of chunks) (behind version) (pending (file_rows version) (codes "most") []) (pending (file_rows version) (codes "most") (d ∷ []))
    (codes "most") (codes "--most") d rest end refl refl fits refl further
own_walk chunks (fewer d) absent rest end fits further =
    pair (shape_of chunks) (behind absent) (pending (file_rows absent) (codes "most") []) (pending (file_rows absent) (codes "most") (d ∷ []))
    (codes "most") (codes "--most") d rest end refl refl fits refl further
own_walk chunks (fewer d) (folder u) rest end fits further =
    pair (shape_of chunks) (behind (folder u)) (pending (file_rows (folder u)) (codes "most") []) (pending (file_rows (folder u)) (codes "most") (d ∷ []))
    (codes "most") (codes "--most") d rest end refl refl fits refl further
own_walk chunks (fewer d) (four l e c m) rest end fits further =
    pair (shape_of chunks) (behind (four l e c m)) (pending (file_rows (four l e c m)) (codes "most") []) (pending (file_rows (four l e c m)) (codes "most") (d ∷ []))
    (codes "most") (codes "--most") d rest end refl refl fits refl further
own_walk chunks (fuller d) version rest end fits further =
    pair (shape_of chunks) (behind version) (pending (file_rows version) (codes "most") []) (pending (file_rows version) (codes "most") (d ∷ []))
    (codes "most") (codes "--most") d (codes "--text" ∷ rest) end refl refl fits refl
    (step (shape_of chunks) (between (pending (file_rows version) (codes "most") (d ∷ [])) idle) (between (settled_held (text_rows version d)) idle) end
    (codes "--text") rest refl refl further)
own_walk chunks (fuller d) absent rest end fits further =
    pair (shape_of chunks) (behind absent) (pending (file_rows absent) (codes "most") []) (pending (file_rows absent) (codes "most") (d ∷ []))
    (codes "most") (codes "--most") d (codes "--text" ∷ rest) end refl refl fits refl
    (step (shape_of chunks) (between (pending (file_rows absent) (codes "most") (d ∷ [])) idle) (between (settled_held (text_rows absent d)) idle) end
    (codes "--text") rest refl refl further)
own_walk chunks (fuller d) (folder u) rest end fits further =
    pair (shape_of chunks) (behind (folder u)) (pending (file_rows (folder u)) (codes "most") []) (pending (file_rows (folder u)) (codes "most") (d ∷ []))
    (codes "most") (codes "--most") d (codes "--text" ∷ rest) end refl refl fits refl
    (step (shape_of chunks) (between (pending (file_rows (folder u)) (codes "most") (d ∷ [])) idle) (between (settled_held (text_rows (folder u) d)) idle) end
    (codes "--text") rest refl refl further)
own_walk chunks (fuller d) (four l e c m) rest end fits further =
    pair (shape_of chunks) (behind (four l e c m)) (pending (file_rows (four l e c m)) (codes "most") []) (pending (file_rows (four l e c m)) (codes "most") (d ∷ []))
    (codes "most") (codes "--most") d (codes "--text" ∷ rest) end refl refl fits refl
    (step (shape_of chunks) (between (pending (file_rows (four l e c m)) (codes "most") (d ∷ [])) idle) (between (settled_held (text_rows (four l e c m) d)) idle) end
    (codes "--text") rest refl refl further)
own_walk replays (fewer d) version rest end fits further = further
own_walk replays (fewer d) absent rest end fits further = further
own_walk replays (fewer d) (folder u) rest end fits further = further
own_walk replays (fewer d) (four l e c m) rest end fits further = further
own_walk replays (fuller d) version rest end fits further =
    step (shape_of replays) (between (behind version) idle) (between (settled_held (kinds_rows version)) idle) end (codes "--kinds") rest refl refl further
own_walk replays (fuller d) absent rest end fits further =
    step (shape_of replays) (between (behind absent) idle) (between (settled_held (kinds_rows absent)) idle) end (codes "--kinds") rest refl refl further
own_walk replays (fuller d) (folder u) rest end fits further =
    step (shape_of replays) (between (behind (folder u)) idle) (between (settled_held (kinds_rows (folder u))) idle) end (codes "--kinds") rest refl refl further
own_walk replays (fuller d) (four l e c m) rest end fits further =
    step (shape_of replays) (between (behind (four l e c m)) idle) (between (settled_held (kinds_rows (four l e c m))) idle) end (codes "--kinds") rest refl refl further

own_opens : (which : Sub) (own : Own) (fs : Files) → IsOwn which own → Opens (shape_of which) (own_held which own fs) (own_rows which own fs)
unfolding clap_on_literals
own_opens marks (fewer d) version fits = record { walks = refl; clean = refl; takes = λ p. refl }
own_opens marks (fewer d) absent fits = record { walks = refl; clean = refl; takes = λ p. refl }
own_opens marks (fewer d) (folder u) fits = record { walks = refl; clean = refl; takes = λ p. refl }
own_opens marks (fewer d) (four l e c m) fits = record { walks = refl; clean = refl; takes = λ p. refl }
own_opens marks (fuller d) version fits = record { walks = refl; clean = refl; takes = λ p. refl }
own_opens marks (fuller d) absent fits = record { walks = refl; clean = refl; takes = λ p. refl }
own_opens marks (fuller d) (folder u) fits = record { walks = refl; clean = refl; takes = λ p. refl }
own_opens marks (fuller d) (four l e c m) fits = record { walks = refl; clean = refl; takes = λ p. refl }
own_opens (limits name) (fewer d) version fits = record { walks = refl; clean = refl; takes = λ p. refl }
own_opens (limits name) (fewer d) absent fits = record { walks = refl; clean = refl; takes = λ p. refl }
own_opens (limits name) (fewer d) (folder u) fits = record { walks = refl; clean = refl; takes = λ p. refl }
own_opens (limits name) (fewer d) (four l e c m) fits = record { walks = refl; clean = refl; takes = λ p. refl }
own_opens (limits name) (fuller d) version fits = record { walks = refl; clean = ap (λ (ks : Kinds). or_else (or_else ks []) []) fits.1; takes = λ p. refl }
own_opens (limits name) (fuller d) absent fits = record { walks = refl; clean = ap (λ (ks : Kinds). or_else (or_else ks []) []) fits.1; takes = λ p. refl }
own_opens (limits name) (fuller d) (folder u) fits = record { walks = refl; clean = ap (λ (ks : Kinds). or_else (or_else ks []) []) fits.1; takes = λ p. refl }
own_opens (limits name) (fuller d) (four l e c m) fits = record { walks = refl; clean = ap (λ (ks : Kinds). or_else (or_else ks []) []) fits.1; takes = λ p. refl }
own_opens chunks (fewer d) version fits = record { walks = refl; clean = refl; takes = λ p. refl }
own_opens chunks (fewer d) absent fits = record { walks = refl; clean = refl; takes = λ p. refl }
own_opens chunks (fewer d) (folder u) fits = record { walks = refl; clean = refl; takes = λ p. refl }
own_opens chunks (fewer d) (four l e c m) fits = record { walks = refl; clean = refl; takes = λ p. refl }
own_opens chunks (fuller d) version fits = record { walks = refl; clean = refl; takes = λ p. refl }
own_opens chunks (fuller d) absent fits = record { walks = refl; clean = refl; takes = λ p. refl }
own_opens chunks (fuller d) (folder u) fits = record { walks = refl; clean = refl; takes = λ p. refl }
own_opens chunks (fuller d) (four l e c m) fits = record { walks = refl; clean = refl; takes = λ p. refl }
own_opens replays (fewer d) version fits = record { walks = refl; clean = refl; takes = λ p. refl }
own_opens replays (fewer d) absent fits = record { walks = refl; clean = refl; takes = λ p. refl }
own_opens replays (fewer d) (folder u) fits = record { walks = refl; clean = refl; takes = λ p. refl }
own_opens replays (fewer d) (four l e c m) fits = record { walks = refl; clean = refl; takes = λ p. refl }
own_opens replays (fuller d) version fits = record { walks = refl; clean = refl; takes = λ p. refl }
own_opens replays (fuller d) absent fits = record { walks = refl; clean = refl; takes = λ p. refl }
own_opens replays (fuller d) (folder u) fits = record { walks = refl; clean = refl; takes = λ p. refl }
own_opens replays (fuller d) (four l e c m) fits = record { walks = refl; clean = refl; takes = λ p. refl }

own_ends : (which : Sub) (own : Own) (fs : Files) → IsOwn which own → Ends (shape_of which) (own_held which own fs)
unfolding clap_on_literals
own_ends marks (fewer d) version fits = record { settles = refl; defaults = refl; checks = refl }
own_ends marks (fewer d) absent fits = record { settles = refl; defaults = refl; checks = refl }
own_ends marks (fewer d) (folder u) fits = record { settles = refl; defaults = refl; checks = refl }
own_ends marks (fewer d) (four l e c m) fits = record { settles = refl; defaults = refl; checks = refl }
own_ends marks (fuller d) version fits = record { settles = refl; defaults = refl; checks = refl }
own_ends marks (fuller d) absent fits = record { settles = refl; defaults = refl; checks = refl }
own_ends marks (fuller d) (folder u) fits = record { settles = refl; defaults = refl; checks = refl }
own_ends marks (fuller d) (four l e c m) fits = record { settles = refl; defaults = refl; checks = refl }
own_ends (limits name) (fewer d) version fits = record { settles = refl; defaults = refl; checks = refl }
own_ends (limits name) (fewer d) absent fits = record { settles = refl; defaults = refl; checks = refl }
own_ends (limits name) (fewer d) (folder u) fits = record { settles = refl; defaults = refl; checks = refl }
own_ends (limits name) (fewer d) (four l e c m) fits = record { settles = refl; defaults = refl; checks = refl }
own_ends (limits name) (fuller d) version fits = record { settles = ap (λ (ks : Kinds). or_else ks []) fits.1; defaults = refl; checks = refl }
own_ends (limits name) (fuller d) absent fits = record { settles = ap (λ (ks : Kinds). or_else ks []) fits.1; defaults = refl; checks = refl }
own_ends (limits name) (fuller d) (folder u) fits = record { settles = ap (λ (ks : Kinds). or_else ks []) fits.1; defaults = refl; checks = refl }
own_ends (limits name) (fuller d) (four l e c m) fits = record { settles = ap (λ (ks : Kinds). or_else ks []) fits.1; defaults = refl; checks = refl }
own_ends chunks (fewer d) version fits = record { settles = refl; defaults = refl; checks = refl }
own_ends chunks (fewer d) absent fits = record { settles = refl; defaults = refl; checks = refl }
own_ends chunks (fewer d) (folder u) fits = record { settles = refl; defaults = refl; checks = refl }
own_ends chunks (fewer d) (four l e c m) fits = record { settles = refl; defaults = refl; checks = refl }
own_ends chunks (fuller d) version fits = record { settles = refl; defaults = refl; checks = refl }
own_ends chunks (fuller d) absent fits = record { settles = refl; defaults = refl; checks = refl }
own_ends chunks (fuller d) (folder u) fits = record { settles = refl; defaults = refl; checks = refl }
own_ends chunks (fuller d) (four l e c m) fits = record { settles = refl; defaults = refl; checks = refl }
own_ends replays (fewer d) version fits = record { settles = refl; defaults = refl; checks = refl }
own_ends replays (fewer d) absent fits = record { settles = refl; defaults = refl; checks = refl }
own_ends replays (fewer d) (folder u) fits = record { settles = refl; defaults = refl; checks = refl }
own_ends replays (fewer d) (four l e c m) fits = record { settles = refl; defaults = refl; checks = refl }
own_ends replays (fuller d) version fits = record { settles = refl; defaults = refl; checks = refl }
own_ends replays (fuller d) absent fits = record { settles = refl; defaults = refl; checks = refl }
own_ends replays (fuller d) (folder u) fits = record { settles = refl; defaults = refl; checks = refl }
own_ends replays (fuller d) (four l e c m) fits = record { settles = refl; defaults = refl; checks = refl }

profile_ends : (which : Sub) (own : Own) (fs : Files) (p : Text) → IsProfileText p → Ends (shape_of which) (behind_profile (own_rows which own fs) p)
unfolding clap_on_literals
profile_ends marks (fewer d) version p good = record { settles = ap (λ (ks : Kinds). or_else ks []) good; defaults = refl; checks = refl }
profile_ends marks (fewer d) absent p good = record { settles = ap (λ (ks : Kinds). or_else ks []) good; defaults = refl; checks = refl }
profile_ends marks (fewer d) (folder u) p good = record { settles = ap (λ (ks : Kinds). or_else ks []) good; defaults = refl; checks = refl }
profile_ends marks (fewer d) (four l e c m) p good = record { settles = ap (λ (ks : Kinds). or_else ks []) good; defaults = refl; checks = refl }
profile_ends marks (fuller d) version p good = record { settles = ap (λ (ks : Kinds). or_else ks []) good; defaults = refl; checks = refl }
profile_ends marks (fuller d) absent p good = record { settles = ap (λ (ks : Kinds). or_else ks []) good; defaults = refl; checks = refl }
profile_ends marks (fuller d) (folder u) p good = record { settles = ap (λ (ks : Kinds). or_else ks []) good; defaults = refl; checks = refl }
profile_ends marks (fuller d) (four l e c m) p good = record { settles = ap (λ (ks : Kinds). or_else ks []) good; defaults = refl; checks = refl }
profile_ends (limits name) (fewer d) version p good = record { settles = ap (λ (ks : Kinds). or_else ks []) good; defaults = refl; checks = refl }
profile_ends (limits name) (fewer d) absent p good = record { settles = ap (λ (ks : Kinds). or_else ks []) good; defaults = refl; checks = refl }
profile_ends (limits name) (fewer d) (folder u) p good = record { settles = ap (λ (ks : Kinds). or_else ks []) good; defaults = refl; checks = refl }
profile_ends (limits name) (fewer d) (four l e c m) p good = record { settles = ap (λ (ks : Kinds). or_else ks []) good; defaults = refl; checks = refl }
profile_ends (limits name) (fuller d) version p good = record { settles = ap (λ (ks : Kinds). or_else ks []) good; defaults = refl; checks = refl }
profile_ends (limits name) (fuller d) absent p good = record { settles = ap (λ (ks : Kinds). or_else ks []) good; defaults = refl; checks = refl }
profile_ends (limits name) (fuller d) (folder u) p good = record { settles = ap (λ (ks : Kinds). or_else ks []) good; defaults = refl; checks = refl }
profile_ends (limits name) (fuller d) (four l e c m) p good = record { settles = ap (λ (ks : Kinds). or_else ks []) good; defaults = refl; checks = refl }
profile_ends chunks (fewer d) version p good = record { settles = ap (λ (ks : Kinds). or_else ks []) good; defaults = refl; checks = refl }
profile_ends chunks (fewer d) absent p good = record { settles = ap (λ (ks : Kinds). or_else ks []) good; defaults = refl; checks = refl }
profile_ends chunks (fewer d) (folder u) p good = record { settles = ap (λ (ks : Kinds). or_else ks []) good; defaults = refl; checks = refl }
profile_ends chunks (fewer d) (four l e c m) p good = record { settles = ap (λ (ks : Kinds). or_else ks []) good; defaults = refl; checks = refl }
profile_ends chunks (fuller d) version p good = record { settles = ap (λ (ks : Kinds). or_else ks []) good; defaults = refl; checks = refl }
profile_ends chunks (fuller d) absent p good = record { settles = ap (λ (ks : Kinds). or_else ks []) good; defaults = refl; checks = refl }
profile_ends chunks (fuller d) (folder u) p good = record { settles = ap (λ (ks : Kinds). or_else ks []) good; defaults = refl; checks = refl }
profile_ends chunks (fuller d) (four l e c m) p good = record { settles = ap (λ (ks : Kinds). or_else ks []) good; defaults = refl; checks = refl }
profile_ends replays (fewer d) version p good = record { settles = ap (λ (ks : Kinds). or_else ks []) good; defaults = refl; checks = refl }
profile_ends replays (fewer d) absent p good = record { settles = ap (λ (ks : Kinds). or_else ks []) good; defaults = refl; checks = refl }
profile_ends replays (fewer d) (folder u) p good = record { settles = ap (λ (ks : Kinds). or_else ks []) good; defaults = refl; checks = refl }
profile_ends replays (fewer d) (four l e c m) p good = record { settles = ap (λ (ks : Kinds). or_else ks []) good; defaults = refl; checks = refl }
profile_ends replays (fuller d) version p good = record { settles = ap (λ (ks : Kinds). or_else ks []) good; defaults = refl; checks = refl }
profile_ends replays (fuller d) absent p good = record { settles = ap (λ (ks : Kinds). or_else ks []) good; defaults = refl; checks = refl }
profile_ends replays (fuller d) (folder u) p good = record { settles = ap (λ (ks : Kinds). or_else ks []) good; defaults = refl; checks = refl }
profile_ends replays (fuller d) (four l e c m) p good = record { settles = ap (λ (ks : Kinds). or_else ks []) good; defaults = refl; checks = refl }

files_walk : (which : Sub) (fs : Files) (rest : List Text) (end : Walk) → ArePlain fs
    → Walks (shape_of which) (between (behind fs) idle) rest end
    → Walks (shape_of which) (between nothing_held idle) (words_before fs rest) end
files_walk marks fs = walked_files (shape_of marks) _ fs
files_walk (limits name) fs = walked_files (shape_of (limits name)) _ fs
files_walk chunks fs = walked_files (shape_of chunks) _ fs
files_walk replays fs = walked_files (shape_of replays) _ fs

own_taken : (which : Sub) (own : Own) (fs : Files) → ArePlain fs → IsOwn which own
    → Takes (shape_of which) (words_before fs (own_words which own [])) (finished (shape_of which).rules (own_held which own fs))
own_taken which own fs plain fits =
    let s = shape_of which in
    let ends = own_ends which own fs fits in
    taken s (words_before fs (own_words which own [])) (between (own_held which own fs) idle)
    (files_walk which fs _ _ plain (own_walk which own fs [] _ fits (done s _))) ends.settles ends.defaults ends.checks

profile_given : (which : Sub) (own : Own) (fs : Files) (p : Text) → ArePlain fs → IsOwn which own → IsPlainName p → IsProfileText p
    → Takes (shape_of which) (words_before fs (own_words which own (codes "--profile" ∷ p ∷ [])))
    (finished (shape_of which).rules (behind_profile (own_rows which own fs) p))
profile_given which own fs p plain fits named good =
    let s = shape_of which in
    let opens = own_opens which own fs fits in
    let ends = profile_ends which own fs p good in
    taken s (words_before fs (own_words which own (codes "--profile" ∷ p ∷ []))) (between (behind_profile (own_rows which own fs) p) idle)
    (files_walk which fs _ _ plain (own_walk which own fs _ _ fits
    (pair s (own_held which own fs) (behind_profile_word (own_rows which own fs)) (behind_profile (own_rows which own fs) p)
    (codes "profile") (codes "--profile") p [] _ opens.walks opens.clean named (opens.takes p) (done s _)))) ends.settles ends.defaults
    ends.checks

-- ---- all plain words

abbrev task_with : Engine → Files → Profile → Task
task_with engine fs profile =
    record {
      engine = engine;
      values = values_of fs;
      profile = profile;
      part = None;
      sign = default_sign;
      names = false;
      texts = [];
    }

-- nothing is wrong in it
nothing_wrong : (engine : Engine) (fs : Files) (profile : Profile) → are_bytes engine ≡ true
    → task_fault (Some (task_with engine fs profile)) ≡ []
unfolding chars
nothing_wrong engine fs profile fits = ap (λ (b : Bool). if b then [] else ValueValidation ∷ []) fits

-- what a subcommand finds behind its name
abbrev read_engine : Sub → (ℕ → Engine) → List Row → Engine
read_engine marks engine rows = engine (byte_limit_in rows)
read_engine (limits name) engine rows = engine (limit_in rows)
read_engine chunks engine rows = Chunk (byte_limit_in rows) (sizes_in rows) (with_texts_in rows)
read_engine replays engine rows = Replay (kinds_in rows)

abbrev task_found : Text → (List Row → Engine) → List Row → Option Task
task_found name engine rows = option_map (λ values. record {
  engine = engine rows;
  values = values;
  profile = profile_in rows;
  part = part_in rows;
  sign = sign_in rows;
  names = names_in rows;
  texts = texts_in rows;
}) (values_in name rows)

-- what its own words mean
abbrev own_engine : Sub → (ℕ → Engine) → Own → Engine
own_engine marks engine (fewer d) = engine default_limit
own_engine marks engine (fuller d) = engine (bytes_or default_limit (Some d))
own_engine (limits name) engine (fewer d) = engine default_limit
own_engine (limits name) engine (fuller d) = engine (number_or default_limit (Some d))
own_engine chunks engine (fewer d) = Chunk default_limit (sizes_of (bytes_or 1 (Some d))) false
own_engine chunks engine (fuller d) = Chunk default_limit (sizes_of (bytes_or 1 (Some d))) true
own_engine replays engine (fewer d) = Replay false
own_engine replays engine (fuller d) = Replay true

own_asks : (which : Sub) (own : Own) (fs : Files) → ArePlainFor which fs → (engine : ℕ → Engine)
    → task_found (name_of which) (read_engine which engine) (finished (shape_of which).rules (own_held which own fs)) ≡ Some (task_with (own_engine which engine own) fs First)
unfolding clap_on_literals
own_asks marks (fewer d) version plain engine = refl
own_asks marks (fewer d) absent plain engine = refl
own_asks marks (fewer d) (folder []) plain engine = absurd plain.0
own_asks marks (fewer d) (folder (u ∷ us)) plain engine = refl
own_asks marks (fewer d) (four l e c m) plain engine = refl
own_asks marks (fuller d) version plain engine = refl
own_asks marks (fuller d) absent plain engine = refl
own_asks marks (fuller d) (folder []) plain engine = absurd plain.0
own_asks marks (fuller d) (folder (u ∷ us)) plain engine = refl
own_asks marks (fuller d) (four l e c m) plain engine = refl
own_asks (limits name) (fewer d) version plain engine = refl
own_asks (limits name) (fewer d) absent plain engine = absurd plain.1
own_asks (limits name) (fewer d) (folder []) plain engine = absurd plain.0
own_asks (limits name) (fewer d) (folder (u ∷ us)) plain engine = refl
own_asks (limits name) (fewer d) (four l e c m) plain engine = refl
own_asks (limits name) (fuller d) version plain engine = refl
own_asks (limits name) (fuller d) absent plain engine = absurd plain.1
own_asks (limits name) (fuller d) (folder []) plain engine = absurd plain.0
own_asks (limits name) (fuller d) (folder (u ∷ us)) plain engine = refl
own_asks (limits name) (fuller d) (four l e c m) plain engine = refl
own_asks chunks (fewer d) version plain engine = refl
own_asks chunks (fewer d) absent plain engine = refl
own_asks chunks (fewer d) (folder []) plain engine = absurd plain.0
own_asks chunks (fewer d) (folder (u ∷ us)) plain engine = refl
own_asks chunks (fewer d) (four l e c m) plain engine = refl
own_asks chunks (fuller d) version plain engine = refl
own_asks chunks (fuller d) absent plain engine = refl
own_asks chunks (fuller d) (folder []) plain engine = absurd plain.0
own_asks chunks (fuller d) (folder (u ∷ us)) plain engine = refl
own_asks chunks (fuller d) (four l e c m) plain engine = refl
own_asks replays (fewer d) version plain engine = refl
own_asks replays (fewer d) absent plain engine = absurd plain.1
own_asks replays (fewer d) (folder []) plain engine = absurd plain.0
own_asks replays (fewer d) (folder (u ∷ us)) plain engine = refl
own_asks replays (fewer d) (four l e c m) plain engine = refl
own_asks replays (fuller d) version plain engine = refl
own_asks replays (fuller d) absent plain engine = absurd plain.1
own_asks replays (fuller d) (folder []) plain engine = absurd plain.0
own_asks replays (fuller d) (folder (u ∷ us)) plain engine = refl
own_asks replays (fuller d) (four l e c m) plain engine = refl

profile_asks : (which : Sub) (own : Own) (fs : Files) (p : Text) → ArePlainFor which fs → (engine : ℕ → Engine)
    → task_found (name_of which) (read_engine which engine) (finished (shape_of which).rules (behind_profile (own_rows which own fs) p))
    ≡ Some (task_with (own_engine which engine own) fs (if number_or 1 (Some p) == 2 then Second else First))
unfolding clap_on_literals
profile_asks marks (fewer d) version p plain engine = refl
profile_asks marks (fewer d) absent p plain engine = refl
profile_asks marks (fewer d) (folder []) p plain engine = absurd plain.0
profile_asks marks (fewer d) (folder (u ∷ us)) p plain engine = refl
profile_asks marks (fewer d) (four l e c m) p plain engine = refl
profile_asks marks (fuller d) version p plain engine = refl
profile_asks marks (fuller d) absent p plain engine = refl
profile_asks marks (fuller d) (folder []) p plain engine = absurd plain.0
profile_asks marks (fuller d) (folder (u ∷ us)) p plain engine = refl
profile_asks marks (fuller d) (four l e c m) p plain engine = refl
profile_asks (limits name) (fewer d) version p plain engine = refl
profile_asks (limits name) (fewer d) absent p plain engine = absurd plain.1
profile_asks (limits name) (fewer d) (folder []) p plain engine = absurd plain.0
profile_asks (limits name) (fewer d) (folder (u ∷ us)) p plain engine = refl
profile_asks (limits name) (fewer d) (four l e c m) p plain engine = refl
profile_asks (limits name) (fuller d) version p plain engine = refl
profile_asks (limits name) (fuller d) absent p plain engine = absurd plain.1
profile_asks (limits name) (fuller d) (folder []) p plain engine = absurd plain.0
profile_asks (limits name) (fuller d) (folder (u ∷ us)) p plain engine = refl
profile_asks (limits name) (fuller d) (four l e c m) p plain engine = refl
profile_asks chunks (fewer d) version p plain engine = refl
profile_asks chunks (fewer d) absent p plain engine = refl
profile_asks chunks (fewer d) (folder []) p plain engine = absurd plain.0
profile_asks chunks (fewer d) (folder (u ∷ us)) p plain engine = refl
profile_asks chunks (fewer d) (four l e c m) p plain engine = refl
profile_asks chunks (fuller d) version p plain engine = refl
profile_asks chunks (fuller d) absent p plain engine = refl
profile_asks chunks (fuller d) (folder []) p plain engine = absurd plain.0
profile_asks chunks (fuller d) (folder (u ∷ us)) p plain engine = refl
profile_asks chunks (fuller d) (four l e c m) p plain engine = refl
profile_asks replays (fewer d) version p plain engine = refl
profile_asks replays (fewer d) absent p plain engine = absurd plain.1
profile_asks replays (fewer d) (folder []) p plain engine = absurd plain.0
profile_asks replays (fewer d) (folder (u ∷ us)) p plain engine = refl
profile_asks replays (fewer d) (four l e c m) p plain engine = refl
profile_asks replays (fuller d) version p plain engine = refl
profile_asks replays (fuller d) absent p plain engine = absurd plain.1
profile_asks replays (fuller d) (folder []) p plain engine = absurd plain.0
profile_asks replays (fuller d) (folder (u ∷ us)) p plain engine = refl
profile_asks replays (fuller d) (four l e c m) p plain engine = refl

sub_plain : (which : Sub) (make : ℕ → Engine) (own : Own) (engine : Engine) (fs : Files) (profile : Profile) (last : List Text)
    → Leaves (name_of which) (shape_of which)
    → ((rows : List Row) → task_in (name_of which, rows) ≡ task_found (name_of which) (read_engine which make) rows)
    → ArePlainFor which fs → IsOwn which own → own_engine which make own ≡ engine → are_bytes engine ≡ true → AreProfileWords profile last
    → Performs (name_of which ∷ words_before fs (own_words which own last)) (task_with engine fs profile)
sub_plain which make own engine fs profile last leaves reads plain fits means sized (inl first) =
    rw (first.0, first.1) (sub_performs (name_of which) (shape_of which) _ _ (task_with engine fs First) leaves (own_taken which own fs plain.0 fits)
    (reads (finished (shape_of which).rules (own_held which own fs)) ∙ own_asks which own fs plain make ∙ ap (λ (e : Engine). Some (task_with e fs First)) means)
    (nothing_wrong engine fs First sized))
sub_plain which make own engine fs profile last leaves reads plain fits means sized (inr given) =
    rw given (sub_performs (name_of which) (shape_of which) _ _ (task_with engine fs profile) leaves
    (profile_given which own fs (profile_word profile) plain.0 fits (profile_plain profile) (profile_taken profile))
    (reads (finished (shape_of which).rules (behind_profile (own_rows which own fs) (profile_word profile)))
    ∙ profile_asks which own fs (profile_word profile) plain make
    ∙ ap₂ (λ (e : Engine) (p : Profile). Some (task_with e fs p)) means (profile_read profile))
    (nothing_wrong engine fs profile sized))

-- limits in their range, and chunks with room for half of their bytes
limit_fits : (limit : ℕ) → 1 ≤ limit → limit ≤ greatest_limit → is_limit limit ≡ true
limit_fits limit some few = rw (le-leb 1 limit some, le-leb limit greatest_limit few) refl

sizes_fit : (most : ℕ) (texts : Bool) → 1 ≤ most → most ≤ greatest_limit → are_bytes (Chunk default_limit (sizes_of most) texts) ≡ true
sizes_fit most texts some few =
    rw (limit_fits most some few, le-leb (most / 2) most (omega arith), le-leb 0 (most / 2) (omega arith)) refl

chunk_plain : (fs : Files) (limit : ℕ) (sizes : Sizes) (texts : Bool) (profile : Profile) (most : ℕ)
    (own text_words last : List Text) → ArePlainFor chunks fs
    → 1 ≤ most → most ≤ greatest_limit → own ≡ codes "--most" ∷ decimal most ∷ text_words → limit ≡ default_limit
    → sizes ≡ sizes_of most
    → AreFlagWords (codes "--text") texts text_words → AreProfileWords profile last
    → Performs (codes "chunk" ∷ words_before fs (own ++ last)) (task_with (Chunk limit sizes texts) fs profile)
unfolding clap_on_literals
chunk_plain fs limit sizes texts profile most own text_words last plain some few words limit_is sizes_are (inl none) more_words =
    rw (words, none.0, limit_is, sizes_are, none.1) (sub_plain chunks Mark (fewer (decimal most))
    (Chunk default_limit (sizes_of most) false) fs profile last leaves_chunk (λ rows. refl) plain
    (limit_plain most few)
    (ap (λ (n : ℕ). Chunk default_limit (sizes_of n) false) (sym (bytes_read 1 most few))) (sizes_fit most false some few) more_words)
chunk_plain fs limit sizes texts profile most own text_words last plain some few words limit_is sizes_are (inr flag) more_words =
    rw (words, flag.0, limit_is, sizes_are, flag.1) (sub_plain chunks Mark (fuller (decimal most))
    (Chunk default_limit (sizes_of most) true) fs profile last leaves_chunk (λ rows. refl) plain
    (limit_plain most few)
    (ap (λ (n : ℕ). Chunk default_limit (sizes_of n) true) (sym (bytes_read 1 most few))) (sizes_fit most true some few) more_words)

abbrev sub_of : Engine → Sub
sub_of (Mark limit) = marks
sub_of (Show limit) = limits (codes "show")
sub_of (Segment limit) = limits (codes "segment")
sub_of (Chunk limit sizes texts) = chunks
sub_of (Replay kinds) = replays

engine_plain : (fs : Files) (engine : Engine) (profile : Profile) (own last : List Text)
    → ArePlainFor (sub_of engine) fs
    → AreEngineWords engine own
    → AreProfileWords profile last → Performs (name_of_engine engine ∷ words_before fs (own ++ last))
    (task_with engine fs profile)
unfolding clap_on_literals
engine_plain fs (Mark limit) profile own last plain (inl none) more =
    rw (none.0, none.1) (sub_plain marks Mark (fewer []) (Mark default_limit) fs profile last leaves_mark (λ rows. refl) plain tt refl refl more)
engine_plain fs (Mark limit) profile own last plain (inr number) more_words =
    rw number.0 (sub_plain marks Mark (fuller (decimal limit)) (Mark limit) fs profile last leaves_mark (λ rows. refl) plain
    (limit_plain limit number.2) (ap Mark (sym (bytes_read default_limit limit number.2))) (limit_fits limit number.1 number.2) more_words)
engine_plain fs (Show limit) profile own last plain (inl none) more =
    rw (none.0, none.1) (sub_plain (limits (codes "show")) Show (fewer []) (Show default_limit) fs profile last leaves_show (λ rows. refl) plain tt refl refl more)
engine_plain fs (Show limit) profile own last plain (inr number) more_words =
    rw number.0 (sub_plain (limits (codes "show")) Show (fuller (decimal limit)) (Show limit) fs profile last leaves_show (λ rows. refl) plain
    (limit_plain limit number.2, limit_taken limit number.1 number.2) (ap Show (sym (limit_read default_limit limit number.2))) refl more_words)
engine_plain fs (Segment limit) profile own last plain (inl none) more =
    rw (none.0, none.1) (sub_plain (limits (codes "segment")) Segment (fewer []) (Segment default_limit) fs profile last leaves_segment (λ rows. refl) plain tt refl refl more)
engine_plain fs (Segment limit) profile own last plain (inr number) more_words =
    rw number.0 (sub_plain (limits (codes "segment")) Segment (fuller (decimal limit)) (Segment limit) fs profile last leaves_segment (λ rows. refl) plain
    (limit_plain limit number.2, limit_taken limit number.1 number.2) (ap Segment (sym (limit_read default_limit limit number.2))) refl more_words)
engine_plain fs (Chunk limit sizes texts) profile own last plain given more_words =
    chunk_plain fs limit sizes texts profile given.most own given.text_words last plain given.some given.few given.are
    given.limit_is given.sizes_are given.texts_are more_words
engine_plain fs (Replay kinds) profile own last plain (inl none) more =
    rw (none.0, none.1) (sub_plain replays Mark (fewer []) (Replay false) fs profile last leaves_replay (λ rows. refl) plain tt refl refl more)
engine_plain fs (Replay kinds) profile own last plain (inr flag) more_words =
    rw (flag.0, flag.1) (sub_plain replays Mark (fuller []) (Replay true) fs profile last leaves_replay (λ rows. refl) plain tt refl refl more_words)

-- words that an engine may do without
lacking : (engine : Engine) (words : List Text) (values : NamedValues) → AreNoWords engine values words
    → MayLack (sub_of engine) absent × (words ≡ []) × (values ≡ built_in)
lacking (Mark limit) words values are = (tt, are.0, are.1)
lacking (Show limit) words values are = absurd are
lacking (Segment limit) words values are = absurd are
lacking (Chunk limit sizes texts) words values are = (tt, are.0, are.1)
lacking (Replay kinds) words values are = absurd are

-- the other words serve each engine
named : (which : Sub) → MayLack which version
named marks = tt
named (limits name) = tt
named chunks = tt
named replays = tt

in_folder_too : (which : Sub) (u : Text) → MayLack which (folder u)
in_folder_too marks u = tt
in_folder_too (limits name) u = tt
in_folder_too chunks u = tt
in_folder_too replays u = tt

four_too : (which : Sub) (l e c m : Text) → MayLack which (four l e c m)
four_too marks l e c m = tt
four_too (limits name) l e c m = tt
four_too chunks l e c m = tt
four_too replays l e c m = tt

-- the words of the property values are those of one of four ways
record Reads (engine : Engine) (values : NamedValues) (words : List Text) : Type 0 where
  fs : Files
  plain : ArePlainFor (sub_of engine) fs
  before : (rest : List Text) → words ++ rest ≡ words_before fs rest
  values_are : values ≡ values_of fs

read : (engine : Engine) (values : NamedValues) (words : List Text) → AreValueWords engine values words
    → Reads engine values words
read engine values words (inl (inl are)) = record {
  fs = version;
  plain = (tt, named (sub_of engine));
  before = λ rest. ap (λ (ws : List Text). ws ++ rest) are.0;
  values_are = are.1;
}
read engine values words (inl (inr are)) = record {
  fs = folder are.folder;
  plain = (are.plain, in_folder_too (sub_of engine) are.folder);
  before = λ rest. ap (λ (ws : List Text). ws ++ rest) are.are;
  values_are = are.values_are;
}
read engine values words (inr (inl are)) = record {
  fs = four are.line_break are.east_asian are.category are.emoji;
  plain = (
    (are.plain_line_break, are.plain_east_asian, are.plain_category, are.plain_emoji),
    four_too (sub_of engine) are.line_break are.east_asian are.category are.emoji,
  );
  before = λ rest. ap (λ (ws : List Text). ws ++ rest) are.are;
  values_are = are.values_are;
}
read engine values words (inr (inr are)) =
    let lacks = lacking engine words values are in
    record {
      fs = absent;
      plain = (tt, lacks.0);
      before = λ rest. ap (λ (ws : List Text). ws ++ rest) lacks.1;
      values_are = lacks.2;
    }

-- a task with the engine and the profile of another
abbrev like : Task → NamedValues → Option Part → Text → Bool → List Text → Task
like task values part sign names texts =
    record {
      engine = task.engine;
      values = values;
      profile = task.profile;
      part = part;
      sign = sign;
      names = names;
      texts = texts;
    }

task_is : (task : Task) (fs : Files) → task.values ≡ values_of fs → task.part ≡ None → task.sign ≡ default_sign
    → task.names ≡ false → task.texts ≡ [] → task ≡ task_with task.engine fs task.profile
task_is task fs values part sign names texts =
    ap₂ (λ f p. like task f p task.sign task.names task.texts) values part
    ∙ ap₂ (λ s n. like task (values_of fs) None s n task.texts) sign names
    ∙ ap (λ t. like task (values_of fs) None default_sign false t) texts

pub plain_performs : (task : Task) (words : List Text) → IsPlainFor task words → Performs words task
plain_performs task words plain =
    let r = read task.engine task.values plain.value_words plain.values in
    let given = plain.engine_words ++ plain.profile_words in
    subst (λ (ws : List Text). Performs ws task)
    (sym (plain.are ∙ ap (λ (ws : List Text). name_of_engine task.engine ∷ ws) (r.before given)))
    (subst (λ (t : Task). Performs (name_of_engine task.engine ∷ words_before r.fs given) t)
    (sym (task_is task r.fs r.values_are plain.part plain.sign plain.names plain.texts))
    (engine_plain r.fs task.engine task.profile plain.engine_words plain.profile_words r.plain plain.engine plain.profile))
