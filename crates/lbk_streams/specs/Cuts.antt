-- Where a text of any bytes, or of any units, may be cut, so that its parts are decided apart.
use Rattle.std.specs.Prelude.{◌≡◌, ◌⊎◌, ℕ, ◌+◌, ◌<◌, ◌≤◌, false, true, List, [], ◌∷◌, ◌++◌, length, map, min}
use Rattle.std.specs.Prelude.{take, drop}
use Rattle.std.specs.List.{flat_map}
use Rattle.bstr.specs.Utf8.{Decoded, pieces}
use Rattle.lbk_rules.specs.declared.Break.{Break}
use Rattle.lbk_rules.specs.declared.Cell.{Cell}
use Rattle.lbk_values.specs.declared.profile.Profile.{Profile}
use Rattle.lbk_rules.specs.declared.neighbours.Neighbours.{Neighbours}
use Rattle.lbk_rules.specs.FlatTable.{IsFlatBy}
use Rattle.lbk_rules.specs.Joins.{moved, must_end_between}
use Rattle.lbk_bytes.specs.Bytes.{breaks_of_part}
use Rattle.lbk_bytes.specs.Reached.{scalars_of}
use Rattle.lbk_units.specs.Positions.{positions_of_part_of, positions_of_pieces}
use Rattle.lbk_units.specs.Units.{breaks_of_part_of, breaks_of_pieces}

-- by what an encoding reads of some units
module _ (pieces_of : List ℕ → List Decoded) where
  -- at this unit a piece begins, or the text ends: where it is cut there, the pieces of its parts are its own
  abbrev pub BeginsIn : List ℕ → ℕ → Type 0
  BeginsIn text place = pieces_of text ≡ pieces_of (take place text) ++ pieces_of (drop place text)

  -- a line must end before this unit, whatever the rules are asked: no part of it stands on both sides
  abbrev pub EndsIn : (ℕ → Cell) → List ℕ → ℕ → Type 0
  EndsIn cell text place =
      BeginsIn text place
      × (must_end_between cell (scalars_of (pieces_of (take place text))) (scalars_of (pieces_of (drop place text)))
      ≡ true)

  -- a part of the text may begin at this unit: at the start, at the end, and where a line must end before it
  abbrev pub IsSafeIn : (ℕ → Cell) → List ℕ → ℕ → Type 0
  IsSafeIn cell text place = (place ≡ 0) ⊎ (place ≡ length text) ⊎ EndsIn cell text place

  -- the first place at or after `at` at which a part may begin · the last one at or before it. A place past the text
  -- counts as its end
  pub record IsCutAfterIn (cell : ℕ → Cell) (text : List ℕ) (at result : ℕ) : Type 0 where
    pub within : result ≤ length text
    pub behind : min at (length text) ≤ result
    pub safe : IsSafeIn cell text result
    pub least : (place : ℕ) → at ≤ place → place < result → ¬ (IsSafeIn cell text place)

  pub record IsCutBeforeIn (cell : ℕ → Cell) (text : List ℕ) (at result : ℕ) : Type 0 where
    pub before : result ≤ min at (length text)
    pub safe : IsSafeIn cell text result
    pub greatest : (place : ℕ) → result < place → place ≤ at → place ≤ length text → ¬ (IsSafeIn cell text place)

  -- cut there, the breaks and the positions of the text are those of its parts, if the places of the second are moved
  -- by the units of the first. The position at the cut comes once, as the last of the first part
  pub record JoinsIn (profile : Profile) (cell : ℕ → Cell) (text : List ℕ) (place : ℕ) : Type 0 where
    pub breaks :
        breaks_of_pieces profile cell (pieces_of text)
        ≡ breaks_of_part_of true profile cell (pieces_of (take place text))
        ++ map (moved place) (breaks_of_pieces profile cell (pieces_of (drop place text)))
    pub positions :
        positions_of_pieces profile cell (pieces_of text)
        ≡ positions_of_part_of true profile cell (pieces_of (take place text))
        ++ map (moved place) (drop 1 (positions_of_pieces profile cell (pieces_of (drop place text))))

  -- what a call promises that cuts a text at or after a unit. Whatever the table, it cuts no scalar, and no units that
  -- are read as one U+FFFD
  pub record CutsAfter (kinds : List ℕ) (pairs : Neighbours) (text : List ℕ) (at result : ℕ) : Type 0 where
    pub within : result ≤ length text
    pub past : length text ≤ at → result ≡ length text
    pub behind : at ≤ length text → at ≤ result
    pub start : at ≡ 0 → result ≡ 0
    pub begins : BeginsIn text result
    pub first : (cell : ℕ → Cell) → IsFlatBy kinds pairs cell → IsCutAfterIn cell text at result
    pub joined : (cell : ℕ → Cell) (profile : Profile) → IsFlatBy kinds pairs cell → 0 < result → result < length text
        → JoinsIn profile cell text result

  -- and at or before one
  pub record CutsBefore (kinds : List ℕ) (pairs : Neighbours) (text : List ℕ) (at result : ℕ) : Type 0 where
    pub within : result ≤ length text
    pub past : length text ≤ at → result ≡ length text
    pub before : result ≤ at
    pub begins : BeginsIn text result
    pub last : (cell : ℕ → Cell) → IsFlatBy kinds pairs cell → IsCutBeforeIn cell text at result
    pub joined : (cell : ℕ → Cell) (profile : Profile) → IsFlatBy kinds pairs cell → 0 < result → result < length text
        → JoinsIn profile cell text result

-- the same of bytes, read as UTF-8
abbrev pub IsPieceStart : List ℕ → ℕ → Type 0
IsPieceStart = BeginsIn pieces

abbrev pub EndsBefore : (ℕ → Cell) → List ℕ → ℕ → Type 0
EndsBefore = EndsIn pieces

abbrev pub IsSafeCut : (ℕ → Cell) → List ℕ → ℕ → Type 0
IsSafeCut = IsSafeIn pieces

abbrev pub IsCutAfter : (ℕ → Cell) → List ℕ → ℕ → ℕ → Type 0
IsCutAfter = IsCutAfterIn pieces

abbrev pub IsCutBefore : (ℕ → Cell) → List ℕ → ℕ → ℕ → Type 0
IsCutBefore = IsCutBeforeIn pieces

abbrev pub JoinsAt : Profile → (ℕ → Cell) → List ℕ → ℕ → Type 0
JoinsAt = JoinsIn pieces

-- `near`, some bytes of a text, has what is near its places from `first` to `last`: four bytes on each side, or all
-- that are there
pub record HasNear (before near after : List ℕ) (first last : ℕ) : Type 0 where
  pub start : (before ≡ []) ⊎ (4 ≤ first)
  pub end : (after ≡ []) ⊎ (last + 4 ≤ length near)

-- parts of a text one after another: each ends before a byte of the text from it on before which a line must end
abbrev pub AreByteParts : (ℕ → Cell) → List (List ℕ) → Type 0
AreByteParts cell [] = Unit {0}
AreByteParts cell (part ∷ []) = Unit {0}
AreByteParts cell (part ∷ next ∷ parts) =
    EndsBefore cell (part ++ flat_map (λ p. p) (next ∷ parts)) (length part) × AreByteParts cell (next ∷ parts)

-- the breaks of parts, joined, the first of which begins at byte `at`
abbrev pub breaks_of_parts : Profile → (ℕ → Cell) → ℕ → List (List ℕ) → List Break
breaks_of_parts profile cell at [] = []
breaks_of_parts profile cell at (part ∷ []) = map (moved at) (breaks_of_part false profile cell part)
breaks_of_parts profile cell at (part ∷ next ∷ parts) =
    map (moved at) (breaks_of_part true profile cell part)
    ++ breaks_of_parts profile cell (at + length part) (next ∷ parts)
