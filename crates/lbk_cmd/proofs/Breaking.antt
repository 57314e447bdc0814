-- A text broken in one call: what is known of the lines that were written of it.
use Rattle.std.proofs.Common.{◌≡◌, ℕ, ◌≤◌, true, List, [], ◌∷◌, length, Option, Result, Ok, Err, ◌⊎◌, IsUtf8, chars, sym, subst, ◌∙◌, inl, inr, arith}
use Rattle.std.specs.Char.{IsScalar}
use Rattle.std.specs.List.{AllByRecursion, flat_map}
use Rattle.std.proofs.Math.Utf8.{scalar, scalars}
use Rattle.std.proofs.lemmas.Bool.{and_parts, cases_lt}
use Rattle.std.proofs.lemmas.Str.{scalars-chars}
use Rattle.lbk_ucd.specs.declared.tables.Files.{Files}
use Rattle.lbk_rules.specs.declared.Cell.{Cell}
use Rattle.lbk_values.specs.declared.profile.Profile.{Profile}
use Rattle.lbk_passage.specs.Marks.{Marked, scalars_of, text_of}
use Rattle.lbk_passage.specs.Passages.{passages}
use Rattle.lbk_passage.proofs.Together.{passages-scalars}
use Rattle.lbk_feed.specs.Text.{greatest_limit}
use Rattle.lbk_notation.specs.TestLine.{Line}
use Rattle.lbk_files.specs.Cells.{AreCellsOf}
use Rattle.lbk_cmd.specs.Acts.{Shows}
use Rattle.lbk_cmd.specs.Broken.{IsBroken, IsLinesFault, ReadsBy, ShowStops}
use Rattle.lbk_cmd.specs.Devices.{Devices}
use Rattle.lbk_cmd.specs.Engines.{showing}
use Rattle.lbk_cmd.specs.ReadBack.{AreReadable, AreShown, IsReadable, IsShown, Say}
use Rattle.lbk_cmd.specs.declared.broken.BreakFault.{BreakFault}
use Rattle.lbk_cmd.specs.declared.broken.BreakFault.TheVariants.{Text as text_fault}
use Rattle.lbk_cmd.specs.declared.faults.CmdFault.{CmdFault}
use Rattle.lbk_cmd.specs.declared.faults.CmdFault.TheVariants as cmd
use Rattle.lbk_cmd.proofs.Headlines.{both, headline}
use Rattle.lbk_cmd.proofs.ReadingBack.{lines-joined}

abbrev AllScalars : List ℕ → Type 0
AllScalars text = AllByRecursion (λ scalar. IsScalar scalar) text

all_scalars : (cs : List ℕ) → scalars cs ≡ true → AllScalars cs
all_scalars [] all = tt
all_scalars (c ∷ cs) all = let parts = and_parts (scalar c) (scalars cs) all in (parts.0, all_scalars cs parts.1)

pub chars_scalars : (bytes : List ℕ) → IsUtf8 bytes → AllScalars (chars bytes)
chars_scalars bytes utf8 = all_scalars (chars bytes) (scalars-chars bytes utf8)

-- a limit that is not refused
few_bytes : (cell : ℕ → Cell) (limit : ℕ) (profile : Profile) (before after : Devices)
    → Shows cell limit profile before after (Ok tt) → limit ≤ greatest_limit
few_bytes cell limit profile before after shows =
    elim (cases_lt greatest_limit limit) [
      | inl high ↦ absurd (let refused = shows.limit.1 (λ is. omega (arith, is.1, high)) in let no : ⊥ = cc in no)
      | inr low ↦ low
    ]

all_readable : (limit : ℕ) (given : List (List Marked)) → limit ≤ greatest_limit → AllScalars (flat_map scalars_of given)
    → AllByRecursion (λ ms. length (text_of ms) ≤ limit) given → AllByRecursion IsReadable given
all_readable limit [] low all within = tt
all_readable limit (ms ∷ given) low all within =
    let parts = both (λ scalar. IsScalar scalar) (scalars_of ms) (flat_map scalars_of given) all in (
      record { scalars = parts.0; few = let here = within.0 in omega (arith, here, low) },
      all_readable limit given low parts.1 within.1,
    )

-- the text is refused: `show` stopped, or memory could not grow for what is read back
pub text_refused : {X : Type 0} {files : Files} {cell : ℕ → Cell} {limit : ℕ} {profile : Profile} {before after : Devices} {answer : Result X BreakFault}
    (fault : CmdFault) → answer ≡ Err (text_fault fault) → AreCellsOf files cell
    → ShowStops cell limit profile before after fault ⊎ ((fault ≡ cmd.Memory) × Shows cell limit profile before after (Ok tt))
    → ReadsBy IsLinesFault files limit profile before after answer
text_refused {X} {files} {cell} fault is cells why = rw is (record { whole = tt; refused = (cell, cells, why) })

module _ (cell : ℕ → Cell) (limit : ℕ) (profile : Profile) (before after : Devices) (shows : Shows cell limit profile before after (Ok tt))
    (unread : Option (List ℕ)) (text : List ℕ) (shown : IsShown (showing cell profile limit) unread text) where
  abbrev given : List (List Marked)
  given = passages profile cell (chars shown.bytes)

  are_shown : AreShown text given
  are_shown = record {
    lines = shown.whole.is ∙ lines-joined 0 given;
    readable = all_readable limit given (few_bytes cell limit profile before after shows)
        (subst AllScalars (sym (passages-scalars profile cell (chars shown.bytes))) (chars_scalars shown.bytes shown.whole.utf8)) shown.whole.within;
  }

  pub readable : AreReadable text
  readable = (given, are_shown)

  pub broken : (files : Files) (lines : List Line) → AreCellsOf files cell → Say text lines → IsBroken files profile unread lines
  broken files lines cells say = record {
    bytes = shown.bytes;
    read = shown.read;
    utf8 = shown.whole.utf8;
    say = record {
      passages = given;
      are = headline files profile cell (chars shown.bytes) cells (chars_scalars shown.bytes shown.whole.utf8);
      say = say given are_shown;
    };
  }
