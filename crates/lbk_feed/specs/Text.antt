-- How far bytes are well-formed UTF-8 (Unicode Standard, Table 3-7), and what is wrong after that.
use Rattle.std.specs.Prelude.{◌≡◌, ◌⊎◌, ℕ, ◌<◌, ◌≤◌, Bool, true, List, ◌++◌, length, take, drop, IsUtf8, encode_utf8}
use Rattle.std.specs.Char.{IsScalar}
use Rattle.std.specs.Str.Lossy.{utf8_valid_len}

-- the longest prefix that is a text
abbrev pub well_formed_prefix : List ℕ → List ℕ
well_formed_prefix bs = take (utf8_valid_len bs) bs

-- what follows it
abbrev pub after_prefix : List ℕ → List ℕ
after_prefix bs = drop (utf8_valid_len bs) bs

-- front is a prefix of bs and a text, and no longer prefix of bs is one
pub record IsLongestText (bs front : List ℕ) : Type 0 where
  pub rest : List ℕ
  pub begins : bs ≡ front ++ rest
  pub text : IsUtf8 front
  pub longest : (other more : List ℕ) → bs ≡ other ++ more → IsUtf8 other → length other ≤ length front

-- some bytes of one scalar, from its first, but not all of them
pub record IsCutScalar (bs : List ℕ) : Type 0 where
  pub scalar : ℕ
  pub more : List ℕ
  pub is_scalar : IsScalar scalar
  pub spells : bs ++ more ≡ encode_utf8 scalar
  pub begins : 0 < length bs
  pub lacks : 0 < length more

-- the bytes end inside a scalar that could continue
abbrev pub IsOpen : List ℕ → Type 0
IsOpen bs = IsCutScalar (after_prefix bs)

-- the most bytes of a text: 2 to the power of 30
abbrev pub longest_text : ℕ
longest_text = 1073741824

-- the greatest limit of a paragraph in bytes: 2 to the power of 24
abbrev pub greatest_limit : ℕ
greatest_limit = 16777216

-- the bytes within the size limit of a text: the first 1,073,741,824
abbrev pub counted : List ℕ → List ℕ
counted bs = take longest_text bs

-- of the bytes bs that were read, to their end or not, those from `at` on are ill-formed, or end inside a scalar
pub record IsNotUtf8At (bs : List ℕ) (ended : Bool) (at : ℕ) : Type 0 where
  pub place : at ≡ length (well_formed_prefix (counted bs))
  pub follows : at < length (counted bs)
  pub why : (¬ (IsOpen (counted bs))) ⊎ (IsOpen (counted bs) × (counted bs ≡ bs) × (ended ≡ true))

-- more bytes were read than a text may have, and those within the limit are well-formed, or end inside a scalar
pub record IsTooLong (bs : List ℕ) : Type 0 where
  pub over : longest_text < length bs
  pub text : (well_formed_prefix (counted bs) ≡ counted bs) ⊎ IsOpen (counted bs)
