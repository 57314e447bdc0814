-- Words among ASCII, letters of two bytes and some of three, as bytes and their neighbours tell them.
use Rattle.std.specs.Prelude.{◌≡◌, ◌⊎◌, ℕ, zero, suc, ◌+◌, ◌-◌, ◌*◌, ◌<◌, ◌≤◌, Bool, true, false, not, ◌&&◌, ◌||◌, ◌==◌}
use Rattle.std.specs.Prelude.{nat_le, nat_lt, List, get_or, if◌then◌else◌}
use Rattle.bstr.specs.Utf8.{continues}
use Rattle.lbk_masks.specs.Sets.{is_set, meets, sets_in}
use Rattle.lbk_words.specs.declared.letter_table.TheConstants.{FIRSTS, SECONDS}
use Rattle.lbk_words.specs.declared.blocks.Marks.{Marks}
use Rattle.lbk_words.specs.declared.blocks.Edges.{Edges}
use Rattle.lbk_words.specs.declared.blocks.Wides.{Wides}

-- what a byte is to the rules WB5 to WB13b, where the bytes beside it are below 128 or of such letters
pub record Class : Type 0 where
  pub letter : Bool
  pub digit : Bool
  pub low_line : Bool
  -- it may stand between two letters, or between two digits
  pub mid_letter : Bool
  pub mid_digit : Bool

abbrev pub class_of : ℕ → Class
class_of byte = record {
  letter = (nat_le 65 byte && nat_lt byte 91) || (nat_le 97 byte && nat_lt byte 123);
  digit = nat_le 48 byte && nat_lt byte 58;
  low_line = byte == 95;
  mid_letter = byte == 39 || (byte == 46 || byte == 58);
  mid_digit = byte == 39 || (byte == 46 || (byte == 44 || byte == 59));
}

-- a letter or a digit
abbrev pub begins : Class → Bool
begins c = c.letter || c.digit

-- and what goes on with them
abbrev pub goes_on : Class → Bool
goes_on c = begins c || c.low_line

-- the byte in the middle is of a run of letters, digits and low lines, or of a mark within one
abbrev pub is_joined : Class → Class → Class → Bool
is_joined before c after = goes_on c || ((c.mid_letter && (before.letter && after.letter))
    || (c.mid_digit && (before.digit && after.digit)))

-- byte i of 64 and the next one spell a letter
abbrev pub is_first : List ℕ → ℕ → Bool
is_first bytes i = nat_lt i 63 && meets (sets_in FIRSTS (get_or bytes i 0)) (sets_in SECONDS (get_or bytes (i + 1) 0))

-- the code of three bytes without what the last of them counts, by 64
abbrev pub front_code : ℕ → ℕ → ℕ
front_code b c = (b - 0xE0) * 64 + (c - 0x80)

-- two bytes begin a letter of U+1E00 to U+1EFF, or a Hangul syllable of U+AC00 to U+D77F
abbrev pub begins_long : ℕ → ℕ → Bool
begins_long b c = continues c && ((nat_le 0x78 (front_code b c) && nat_lt (front_code b c) 0x7C)
    || (nat_le 0x2B0 (front_code b c) && nat_lt (front_code b c) 0x35E))

-- these bytes spell one
abbrev pub spells_long : ℕ → ℕ → ℕ → Bool
spells_long b c d = begins_long b c && continues d

-- byte i of 64 and the next two do
abbrev pub is_long : List ℕ → ℕ → Bool
is_long bytes i = nat_lt i 62 && spells_long (get_or bytes i 0) (get_or bytes (i + 1) 0) (get_or bytes (i + 2) 0)

-- byte i is the one between them
abbrev pub is_middle : List ℕ → ℕ → Bool
is_middle bytes zero = false
is_middle bytes (suc i) = is_long bytes i

-- byte i is of a letter that goes on with the next one
abbrev pub is_open : List ℕ → ℕ → Bool
is_open bytes i = (is_first bytes i || is_long bytes i) || is_middle bytes i

-- byte i goes on with a letter that began before it
abbrev pub is_inner : List ℕ → ℕ → Bool
is_inner bytes zero = false
is_inner bytes (suc i) = is_open bytes i

-- byte i is of a letter, as these are
abbrev pub is_either : List ℕ → ℕ → Bool
is_either bytes i = is_open bytes i || is_inner bytes i

-- how many bytes a scalar has that begins at byte i
abbrev pub size_at : List ℕ → ℕ → ℕ
size_at bytes i = if is_first bytes i then 2 else if is_long bytes i then 3 else 1

abbrev pub letter_class : Class
letter_class = record { letter = true; digit = false; low_line = false; mid_letter = false; mid_digit = false }

abbrev pub class_at : List ℕ → ℕ → Class
class_at bytes i = if is_either bytes i then letter_class else class_of (get_or bytes i 0)

-- a letter or a digit begins at a byte
abbrev pub begins_at : List ℕ → ℕ → Bool
begins_at bytes i = begins (class_at bytes i) && not (is_inner bytes i)

-- a byte is of a run
abbrev pub runs_at : List ℕ → ℕ → Bool
runs_at bytes i = is_joined (class_at bytes (i - 1)) (class_at bytes i) (class_at bytes (i + 1))

-- a byte is below 128, or of a letter
abbrev pub IsPlain : List ℕ → ℕ → Type 0
IsPlain bytes i = (get_or bytes i 0 < 128) ⊎ (is_either bytes i ≡ true)

-- so are a byte, and what is behind its scalar
pub record ArePlain (bytes : List ℕ) (i : ℕ) : Type 0 where
  pub here : IsPlain bytes i
  pub inside : i + size_at bytes i < 64
  pub behind : IsPlain bytes (i + size_at bytes i)

-- this is what is known of the first 64 bytes from 128 on
pub record AreWides (bytes : List ℕ) (wides : Wides) : Type 0 where
  pub letters : (i : ℕ) → i < 64 → is_set wides.letters i ≡ is_either bytes i
  pub inner : (i : ℕ) → i < 64 → is_set wides.inner i ≡ is_inner bytes i
  pub plain : (i : ℕ) → i < 63 → is_set wides.stops i ≡ false → ArePlain bytes i
  pub ends : is_set wides.stops 63 ≡ true

-- these are the marks of the first 64 bytes
pub record AreMarks (bytes : List ℕ) (marks : Marks) : Type 0 where
  pub runs : (i : ℕ) → i < 63 → is_set marks.runs i ≡ runs_at bytes i
  pub begins : (i : ℕ) → i < 63 → is_set marks.begins i ≡ begins_at bytes i
  pub plain : (i : ℕ) → i < 63 → is_set marks.stops i ≡ false → ArePlain bytes i
  pub ends : is_set marks.stops 63 ≡ true
  pub fit : (i : ℕ) → get_or bytes i 0 < 256

-- one of two is so, and not both
abbrev pub differ : Bool → Bool → Bool
differ a b = if a then not b else b

-- the byte before one is of a run, if it is not before the first
abbrev pub runs_before : List ℕ → ℕ → ℕ → Bool
runs_before bytes first i = nat_lt first i && runs_at bytes (i - 1)

-- where runs begin and end from the byte `first` on, up to a byte that is left to steps
pub record AreEdges (bytes : List ℕ) (first : ℕ) (found : Edges) : Type 0 where
  pub few : found.stop < 64
  pub fit : (i : ℕ) → get_or bytes i 0 < 256
  pub edges : (i : ℕ) → i < 64 → is_set found.edges i
      ≡ (nat_lt i found.stop && (nat_le first i && differ (runs_at bytes i) (runs_before bytes first i)))
  pub plain : (i : ℕ) → first ≤ i → i < found.stop → ArePlain bytes i
  pub begins : (i : ℕ) → first ≤ i → i < found.stop → runs_at bytes i ≡ true → runs_before bytes first i ≡ false
      → begins_at bytes i ≡ true
