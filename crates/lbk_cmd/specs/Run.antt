-- What an engine reads and writes.
use Rattle.std.specs.Prelude.{◌≡◌, ◌⊎◌, ℕ, ◌+◌, ◌<◌, ◌≤◌, Bool, true, false, List, [], ◌∷◌, ◌++◌, length, Result, Ok}
use Rattle.std.specs.Prelude.{Err, IsUtf8, encode_utf8_all}
use Rattle.std.specs.List.{AllByRecursion, flat_map}
use Rattle.std.specs.Str.{chars}
use Rattle.lbk_feed.specs.Devices.{Reads, count_up}
use Rattle.lbk_feed.specs.Runs.{IsStopped}
use Rattle.lbk_feed.specs.Text.{longest_text, well_formed_prefix, counted, IsNotUtf8At, IsTooLong}
use Rattle.lbk_feed.specs.View.{CanGoOn, IsStill}
use Rattle.lbk_rules.specs.declared.Cell.{Cell}
use Rattle.lbk_values.specs.declared.profile.Profile.{Profile}
use Rattle.lbk_passage.specs.Marks.{Marked, scalars_of, text_of}
use Rattle.lbk_passage.specs.Passages.{passages}
use Rattle.lbk_passage.specs.Next.{BeginsWithAll, ComesFirst}
use Rattle.lbk_passage.specs.State.{State, new_state}
use Rattle.lbk_passage.specs.declared.faults.PassageFault.{PassageFault}
use Rattle.lbk_passage.specs.declared.faults.PassageFault.TheVariants as fault
use Rattle.lbk_cmd.specs.Texts.{lines_from}
use Rattle.lbk_cmd.specs.declared.faults.CmdFault.{CmdFault}
use Rattle.lbk_cmd.specs.declared.faults.CmdFault.TheVariants.{Passage, Write, Memory}

-- the lines of a passage that begins at a byte of the text, how passages are cut, and the limit of a paragraph
pub record Engine : Type 0 where
  pub lines : ℕ → List Marked → List ℕ
  pub cell : ℕ → Cell
  pub profile : Profile
  pub limit : ℕ

-- the output for a text by its passages: for those that its first bytes settle, and for all of them
pub record Writing : Type 1 where
  pub Settled : List (List Marked) → List ℕ → Type 0
  pub Whole : List (List Marked) → List ℕ → Type 0
  pub cell : ℕ → Cell
  pub profile : Profile
  pub limit : ℕ

abbrev pub passages_by : Writing → List ℕ → List (List Marked)
passages_by e scalars = passages e.profile e.cell scalars

-- the output for some passages
abbrev pub written_by : Engine → List (List Marked) → List ℕ
written_by e given = lines_from e.lines 0 given

-- the lines of each passage, once it is settled
abbrev pub by_passage : Engine → Writing
by_passage e = record {
  Settled = λ given out. out ≡ written_by e given;
  Whole = λ given out. out ≡ written_by e given;
  cell = e.cell;
  profile = e.profile;
  limit = e.limit;
}

abbrev pub AreWithin : Writing → List (List Marked) → Type 0
AreWithin e given = AllByRecursion (λ ms. length (text_of ms) ≤ e.limit) given

-- `out` is the output for a text of exactly these bytes
pub record IsWhole (e : Writing) (bytes out : List ℕ) : Type 0 where
  pub utf8 : IsUtf8 bytes
  pub few : length bytes ≤ longest_text
  pub within : AreWithin e (passages_by e (chars bytes))
  pub is : e.Whole (passages_by e (chars bytes)) out

-- in a text that begins with these scalars, these are the passages that are followed by one of the scalars, whatever
-- comes after: the scalars after them are in one passage
pub record AreGiven (e : Writing) (scalars : List ℕ) (given : List (List Marked)) : Type 0 where
  pub behind : List ℕ
  pub joined : scalars ≡ flat_map scalars_of given ++ behind
  pub followed : 0 < length given → 0 < length behind
  pub first : (more : List ℕ) → passages_by e (scalars ++ more) ≡ given ++ passages_by e (behind ++ more)
  pub in_one : 0 < length behind → (more : List ℕ) → BeginsWithAll behind (passages_by e (behind ++ more))
  pub within : AreWithin e given

-- `out` is the output for the passages that some first scalars of the bytes settle, within the size limit of a text
pub record IsSettled (e : Writing) (bytes out : List ℕ) : Type 0 where
  pub scalars : List ℕ
  pub rest : List ℕ
  pub begins : bytes ≡ encode_utf8_all scalars ++ rest
  pub utf8 : IsUtf8 (encode_utf8_all scalars)
  pub few : length (encode_utf8_all scalars) ≤ longest_text
  pub given : List (List Marked)
  pub are : AreGiven e scalars given
  pub is : e.Settled given out

-- the scalars are all well-formed bytes read, within the size limit of a text, and the last of them are within the
-- limit
abbrev pub AreAll : Writing → List ℕ → List ℕ → List ℕ → Type 0
AreAll e bytes scalars behind =
    (encode_utf8_all scalars ≡ well_formed_prefix (counted bytes)) × (length (encode_utf8_all behind) ≤ e.limit)

-- why a run stops after these scalars, the last of which are those of the paragraph in progress; `rest` are the bytes
-- read after them. A failed read is the result only if these may still become a scalar
abbrev pub Lies : Writing → PassageFault → Bool → List ℕ → List ℕ → List ℕ → List ℕ → Type 0
Lies e fault.Limit ended bytes scalars behind rest = ⊥
Lies e fault.Memory ended bytes scalars behind rest = ⊥
Lies e fault.Read ended bytes scalars behind rest =
    AreAll e bytes scalars behind × CanGoOn (length (encode_utf8_all scalars)) rest
Lies e (fault.NotUtf8 at) ended bytes scalars behind rest = AreAll e bytes scalars behind × IsNotUtf8At bytes ended at
Lies e fault.TextTooLong ended bytes scalars behind rest = AreAll e bytes scalars behind × IsTooLong bytes
Lies e (fault.ParagraphTooLong start) ended bytes scalars behind rest =
    (start + length (encode_utf8_all behind) ≡ length (encode_utf8_all scalars))
    × (e.limit < length (encode_utf8_all behind))
    × ((front : List ℕ) × (last : ℕ) × (behind ≡ front ++ last ∷ []) × (length (encode_utf8_all front) ≤ e.limit))
Lies e fault.Spent ended bytes scalars behind rest = ⊥

-- a fault of the reader or of the text stopped the run: `out` is the output for the passages before it
pub record IsRefused (e : Writing) (why : PassageFault) (ended : Bool) (bytes out : List ℕ) : Type 0 where
  pub settled : IsSettled e bytes out
  pub lies : Lies e why ended bytes settled.scalars settled.are.behind settled.rest

-- a segmenter that decides like the engine
abbrev pub segmenter_of : Writing → Bool → State
segmenter_of e ended = record (new_state e.cell e.profile e.limit) { is_ended = ended }

-- memory could not grow for a passage that was read completely, or for its lines: `out` is the output for all passages
-- before it
pub record IsHeldUp (e : Writing) (ended : Bool) (bytes out : List ℕ) : Type 0 where
  pub settled : IsSettled e bytes out
  pub passage : List Marked
  pub some : 0 < length passage
  pub behind : List ℕ
  pub next : bytes ≡ encode_utf8_all (flat_map scalars_of settled.given) ++ (text_of passage ++ behind)
  pub comes : ComesFirst (segmenter_of e ended) passage behind

-- what was read and what was written, by the result; `ended`: a read has returned no byte
abbrev pub ComesTo : {X : Type 0} → Writing → Bool → Result X CmdFault → List ℕ → List ℕ → Type 0
ComesTo e ended (Ok x) bytes out = IsWhole e bytes out
ComesTo e ended (Err Write) bytes out = IsStopped (IsSettled e) (IsWhole e) (ended ≡ true) bytes out
ComesTo e ended (Err Memory) bytes out = IsHeldUp e ended bytes out
ComesTo e ended (Err (Passage fault.Limit)) bytes out = (bytes ≡ []) × (out ≡ [])
ComesTo e ended (Err (Passage fault.Memory)) bytes out = ((bytes ≡ []) × (out ≡ [])) ⊎ IsHeldUp e ended bytes out
ComesTo e ended (Err (Passage why)) bytes out = IsRefused e why ended bytes out

-- nothing is held back: the lines of all passages that the bytes of all reads except the last, at least one each,
-- settle were written. After the scalars that settle them came nothing, or the first bytes of a scalar. `from` and `to`
-- are the reads before the run and after it
pub record KeepsUp (e : Writing) (from to : Reads) (bytes out : List ℕ) : Type 0 where
  pub before : List ℕ
  pub last : List ℕ
  pub read : bytes ≡ before ++ last
  pub is_last : IsStill [] bytes from to ⊎ (length last ≡ to.gave)
  pub each_gave : to.count ≤ from.count + (length before + 1)
  pub written : List ℕ
  pub later : List ℕ
  pub is : out ≡ written ++ later
  pub settled : IsSettled e before written
  pub goes_on : CanGoOn (length (encode_utf8_all settled.scalars)) settled.rest

-- what a run reads and writes, whatever the result
pub record IsRun {X : Type 0} (e : Writing) (from to : Reads) (ended : Bool) (answer : Result X CmdFault)
    (bytes out : List ℕ) : Type 0 where
  pub comes : ComesTo e ended answer bytes out
  pub keeps_up : KeepsUp e from to bytes out

-- whether a run ended with a failed read
abbrev pub is_failed_read : {X : Type 0} → Result X CmdFault → Bool
is_failed_read (Err (Passage fault.Read)) = true
is_failed_read _ = false

-- the counts of a reader's and of a writer's failures after a run: one more exactly if the run returned that
abbrev pub failed_reads_with : {X : Type 0} → ℕ → Result X CmdFault → ℕ
failed_reads_with n (Err (Passage fault.Read)) = count_up n
failed_reads_with n _ = n

abbrev pub failed_writes_with : {X : Type 0} → ℕ → Result X CmdFault → ℕ
failed_writes_with n (Err Write) = count_up n
failed_writes_with n _ = n
