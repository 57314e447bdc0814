-- Where the parts of a text end, as bits of 64 bytes tell it.
use Rattle.std.specs.Prelude.{◌≡◌, ◌⊎◌, ℕ, ◌+◌, ◌-◌, ◌<◌, ◌≤◌, Bool, true, false, not, ◌&&◌, ◌||◌, ◌==◌, nat_lt, List}
use Rattle.std.specs.Prelude.{[], ◌∷◌}
use Rattle.std.specs.Prelude.{◌++◌, drop, get_or, length, take}
use Rattle.std.specs.List.{list_any}
use Rattle.bstr.specs.Utf8.{Decoded, pieces}
use Rattle.lbk_masks.specs.Sets.{is_set}
use Rattle.lbk_words.specs.Blocks.{ArePlain, begins_at, runs_at}
use Rattle.lbk_words.specs.Filling.{IsInRow, IsNextStep}
use Rattle.lbk_words.specs.Near.{AreMet}
use Rattle.lbk_words.specs.Places.{IsFirstPiece}
use Rattle.lbk_words.specs.Words.{bytes_of, scalars_of}
use Rattle.lbk_words.specs.declared.ends.Reading.{Reading}
use Rattle.lbk_words.specs.declared.ends.Noted.{Noted}
use Rattle.lbk_words.specs.declared.near.NearScalars.{NearScalars}
use Rattle.lbk_words.specs.declared.word.Filled.{Filled}

-- CR LF, and two spaces (rules WB3 and WB3d)
abbrev pub is_pair : ℕ → ℕ → Bool
is_pair before byte = (before == 13 && byte == 10) || (before == 32 && byte == 32)

-- byte i is of the part of the byte before it
abbrev pub goes_on_at : List ℕ → ℕ → Bool
goes_on_at bytes i = (runs_at bytes (i - 1) && runs_at bytes i) || is_pair (get_or bytes (i - 1) 0) (get_or bytes i 0)

-- where parts end behind the byte `first`, at which one begins, up to a byte that is left to steps
pub record AreEnds (bytes : List ℕ) (first stop ends : ℕ) : Type 0 where
  pub few : stop < 64
  pub fit : (i : ℕ) → get_or bytes i 0 < 256
  pub told : (i : ℕ) → i < 64 → is_set ends i ≡ (nat_lt i stop && (nat_lt first i && not (goes_on_at bytes i)))
  pub plain : (i : ℕ) → first ≤ i → i < stop → ArePlain bytes i
  pub begins : (i : ℕ) → first ≤ i → i < stop → runs_at bytes i ≡ true → (i ≡ first) ⊎ (runs_at bytes (i - 1) ≡ false)
      → begins_at bytes i ≡ true

-- bits tell the ends of the next parts of a text from the byte `base` on
pub record AreTold (text : List ℕ) (base bits : ℕ) : Type 0 where
  pub stop : ℕ
  pub within : base + stop ≤ length text
  pub ends : AreEnds (drop base text) 0 stop bits

-- a text is read from the byte `from` up to the byte `to`, and `noted` is whether one of these scalars is a letter
pub record IsNoted (letter : ℕ → Bool) (text : List ℕ) (from to : ℕ) (noted : Bool) : Type 0 where
  pub read : List Decoded
  pub reads : pieces (drop from text) ≡ read ++ pieces (drop to text)
  pub place : to ≡ from + bytes_of read
  pub told : noted ≡ list_any letter (scalars_of read)

-- where a part ends, and whether it holds a letter
pub record PartEnd : Type 0 where
  pub at : ℕ
  pub has_letter : Bool

-- the first part from the boundary `from` on ends there, and that is whether it holds a letter
pub record IsEnd (letter : ℕ → Bool) (text : List ℕ) (from : ℕ) (end : PartEnd) : Type 0 where
  pub is_word : Bool
  pub first : IsFirstPiece text from end.at is_word
  pub noted : IsNoted letter text from end.at end.has_letter

-- the parts of a text from the boundary `from` up to the boundary `to` have these ends, in order
abbrev pub AreParts : (ℕ → Bool) → List ℕ → ℕ → ℕ → List PartEnd → Type 0
AreParts letter text from to [] = from ≡ to
AreParts letter text from to (end ∷ ends) = IsEnd letter text from end × AreParts letter text end.at to ends

-- what is made of the parts that have these ends, of which the first begins at byte `start`
abbrev pub parts_by : {X : Type 0} → (ℕ → ℕ → Bool → X) → ℕ → List PartEnd → List X
parts_by made start [] = []
parts_by made start (end ∷ ends) = made start end.at end.has_letter ∷ parts_by made end.at ends

-- from one boundary up to another, the parts of a text were put behind those in the front of a block
pub record FillsParts {X : Type 0} (made : ℕ → ℕ → Bool → X) (letter : ℕ → Bool) (text : List ℕ) (from : Filled) (old : List X) (to : Filled) (new : List X) : Type 0 where
  pub ends : List PartEnd
  pub parts : AreParts letter text from.at to.at ends
  pub put : take to.count new ≡ take from.count old ++ parts_by made from.at ends

-- what the scalar at a byte makes of a part of this row, and whether it is a letter
pub record IsNotedStep (letter : ℕ → Bool) (text : List ℕ) (row at : ℕ) (noted : Noted) : Type 0 where
  pub next : IsNextStep text row at noted.next
  pub told : noted.is_letter ≡ letter noted.next.code

-- the parts that ended were put into a block, and the scalars behind them are of one part so far
pub record IsReading {X : Type 0} (made : ℕ → ℕ → Bool → X) (letter : ℕ → Bool) (text : List ℕ) (from : Filled) (old : List X) (here : Reading) (out : List X) : Type 0 where
  pub fills : FillsParts made letter text from old (record { count = here.count; at = here.start }) out
  pub part : IsInRow text here.start here.at here.row
  pub noted : IsNoted letter text here.start here.at here.has_letter

-- more scalars of a text are read, by what is kept of those that were met, and the parts that end there put behind the others
pub record ReadsOn {X : Type 0} (made : ℕ → ℕ → Bool → X) (near : NearScalars) (text : List ℕ) (from : Reading) (old : List X) (to : Reading) (new : List X) : Type 0 where
  pub reads : (letter : ℕ → Bool) → AreMet letter near → (start : Filled) (first : List X)
      → IsReading made letter text start first from old → IsReading made letter text start first to new
  pub onward : (from.at ≤ to.at) × (from.count ≤ to.count)
  pub starts : from.start + to.count ≤ to.start + from.count
  pub within : (to.start < to.at) × (to.at ≤ length text) × (to.count ≤ length old)
  pub row : to.row < 43
