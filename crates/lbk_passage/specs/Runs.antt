-- What the passages of a whole run are, one after another.
use Rattle.std.specs.Prelude.{◌≡◌, ℕ, List, [], ◌∷◌, ◌++◌, IsUtf8, encode_utf8}
use Rattle.std.specs.List.{flat_map}
use Rattle.lbk_rules.specs.declared.Cell.{Cell}
use Rattle.lbk_values.specs.declared.profile.Profile.{Profile}
use Rattle.lbk_rules.specs.Marks.{Marked, scalars_of}
use Rattle.lbk_passage.specs.Passages.{passages}

-- the passages given, `before` being their scalars, are the first ones of every text that goes on with the scalar at
-- the front of the bytes that are left; and all passages of the text, where no byte is left
pub record HasGiven (profile : Profile) (cell : ℕ → Cell) (given : List (List Marked)) (left : List ℕ) : Type 0 where
  pub before : List ℕ
  pub scalars : flat_map scalars_of given ≡ before
  pub first : (c : ℕ) (rest more : List ℕ) → left ≡ encode_utf8 c ++ rest → IsUtf8 (encode_utf8 c)
      → passages profile cell (before ++ c ∷ more) ≡ given ++ passages profile cell (c ∷ more)
  pub whole : left ≡ [] → passages profile cell before ≡ given
