-- The grammar of a line of a property file (UAX #44, section 4.2), as a relation between the bytes of a line without
-- its LF and their meaning. `meaning_of` is the only meaning that it relates.
use Rattle.std.specs.Prelude.{ℕ, ◌≡◌, ◌≢◌, ◌<◌, ◌≤◌, Bool, true, false, List, [], ◌∷◌, ◌++◌, length, codes, ◌⊎◌}
use Rattle.std.specs.List.{list_all}
use Rattle.std.specs.Str.Parse.{digits_value}
use Rattle.lbk_ucd.specs.PropertyLine.{Entry, Meaning, nothing, row, default, is_space, is_hex, is_name_byte}

-- ws*: spaces and tabs
abbrev pub IsBlank : List ℕ → Type 0
IsBlank bytes = list_all is_space bytes ≡ true

-- a code point: four to six hex digits of either case
pub record IsCode (digits : List ℕ) (code : ℕ) : Type 0 where
  pub hex : list_all is_hex digits ≡ true
  pub four : 4 ≤ length digits
  pub six : length digits ≤ 6
  pub is : code ≡ digits_value 16 digits

-- code..code, or one code point, if that is allowed
pub data IsRange : Bool → List ℕ → ℕ → ℕ → Type 0 where
  one : (digits : List ℕ) (code : ℕ) → IsCode digits code → IsRange true digits code code
  two : (single : Bool) (digits digits' : List ℕ) (first last : ℕ) → IsCode digits first → IsCode digits' last
      → IsRange single (digits ++ (46 ∷ 46 ∷ digits')) first last

-- a name: one or more ASCII letters, digits and underscores
pub record IsName (name : List ℕ) : Type 0 where
  pub some : 0 < length name
  pub bytes : list_all is_name_byte name ≡ true

-- ws* range ws* ; ws* name ws*
pub record IsEntry (single : Bool) (bytes : List ℕ) (entry : Entry) : Type 0 where
  pub before : List ℕ
  pub range : List ℕ
  pub behind : List ℕ
  pub between : List ℕ
  pub after : List ℕ
  pub is : bytes ≡ (before ++ (range ++ behind)) ++ (59 ∷ (between ++ (entry.name ++ after)))
  pub before_blank : IsBlank before
  pub spells : IsRange single range entry.first entry.last
  pub behind_blank : IsBlank behind
  pub between_blank : IsBlank between
  pub name : IsName entry.name
  pub after_blank : IsBlank after

-- nothing, or # and any bytes
abbrev pub IsComment : List ℕ → Type 0
IsComment bytes = (bytes ≡ []) ⊎ ((any : List ℕ) × (bytes ≡ 35 ∷ any))

-- the text after the first # of a default line: ws* @missing: and an entry of code..code, then nothing or a comment
pub record IsDefault (bytes : List ℕ) (entry : Entry) : Type 0 where
  pub before : List ℕ
  pub spelled : List ℕ
  pub rest : List ℕ
  pub is : bytes ≡ before ++ (codes "@missing:" ++ (spelled ++ rest))
  pub before_blank : IsBlank before
  pub spells : IsEntry false spelled entry
  pub ends : IsComment rest

-- a blank line, a comment (no default line, if the file has defaults), a row, or a default line
pub data Says (defaults : Bool) (text : List ℕ) : Meaning → Type 0 where
  blank : IsBlank text → Says defaults text nothing
  comment : (before any : List ℕ) → text ≡ before ++ (35 ∷ any) → IsBlank before
      → (defaults ≡ true → (entry : Entry) → IsDefault any entry → ⊥) → Says defaults text nothing
  row_line : (spelled rest : List ℕ) (entry : Entry) → text ≡ spelled ++ rest → IsEntry true spelled entry
      → IsComment rest → Says defaults text (row entry)
  default_line : (before any : List ℕ) (entry : Entry) → defaults ≡ true → text ≡ before ++ (35 ∷ any) → IsBlank before
      → IsDefault any entry → Says defaults text (default entry)

-- a carriage return that is the last byte of the line is white space
pub record IsSaid (defaults : Bool) (line : List ℕ) (meaning : Meaning) : Type 0 where
  pub text : List ℕ
  pub ends : (line ≡ text ++ (13 ∷ [])) ⊎ ((line ≡ text) × ((front : List ℕ) → line ≢ front ++ (13 ∷ [])))
  pub says : Says defaults text meaning
