-- What is kept of the scalars that were met.
use Rattle.std.specs.Prelude.{◌≡◌, ◌≢◌, ℕ, ◌+◌, ◌<◌, Bool, length, slice_index_or, if◌then◌else◌}
use Rattle.lbk_words.specs.declared.near.NearScalars.{NearScalars}
use Rattle.lbk_words.specs.declared.near.Told.{Told}
use Rattle.lbk_words.specs.Kinds.{kind_at}

-- a scalar is of this kind
pub record IsOfKind (code kind : ℕ) : Type 0 where
  pub few : code < 0x11_0000
  pub is : kind ≡ kind_at code

-- that is what is asked of a scalar
pub record IsTold (letter : ℕ → Bool) (code : ℕ) (told : Told) : Type 0 where
  pub kind : told.kind ≡ kind_at code
  pub is_letter : told.is_letter ≡ letter code

-- the number that is kept of a scalar
abbrev pub near_number : ℕ → Bool → ℕ
near_number kind is_letter = if is_letter then kind + 96 else kind + 32

-- what is kept of a scalar below U+20000, if anything is, is its number
pub record AreMet (letter : ℕ → Bool) (near : NearScalars) : Type 0 where
  pub all : length near.numbers ≡ 0x2_0000
  pub right : (c : ℕ) → c < 0x2_0000
      → slice_index_or near.numbers c 0 ≢ 0 → slice_index_or near.numbers c 0 ≡ near_number (kind_at c) (letter c)
