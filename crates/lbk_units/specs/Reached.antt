-- How far a call has come with a text of units.
use Rattle.std.specs.Prelude.{◌≡◌, ℕ, ◌+◌, ◌<◌, List, ◌∷◌, ◌++◌, length, drop}
use Rattle.bstr.specs.Utf8.{Decoded, or_replacement}
use Rattle.lbk_rules.specs.declared.Break.{Break}
use Rattle.lbk_rules.specs.declared.Cell.{Cell}
use Rattle.lbk_values.specs.declared.profile.Profile.{Profile}
use Rattle.lbk_rules.specs.FlatTable.{KnowsTaken}
use Rattle.lbk_bytes.specs.declared.fill_state.FillState.{FillState}
use Rattle.lbk_bytes.specs.Reached.{Ahead, Onward, onward_to}
use Rattle.lbk_bytes.specs.declared.unit.UnitScalar.{UnitScalar}
use Rattle.lbk_bytes.specs.Front.{IsFront}
pub use Rattle.lbk_bytes.specs.Decided.{IsUnitDecided, on_from}

-- what is read from this unit on begins with this scalar
pub record BeginsAt (on : ℕ → List Decoded) (at : ℕ) (found : UnitScalar) : Type 0 where
  pub piece : Decoded
  pub begins : on at ≡ piece ∷ on (at + found.size)
  pub reads : or_replacement piece.char ≡ found.scalar
  pub sized : piece.size ≡ found.size

-- at each unit of a part of a text, the text has the scalar that the part has there
abbrev pub Follows : {A : Type 0} → (List A → List Decoded) → List A → (ℕ → List Decoded) → Type 0
Follows pieces_of part on =
    (at : ℕ) (found : UnitScalar) → at < length part
    → IsFront pieces_of (drop at part) found
    → BeginsAt on at found

-- of all these some were given, and the others come from here on
pub record UnitsReachedBy (from : Onward) (profile : Profile) (cell : ℕ → Cell) (on : ℕ → List Decoded)
    (all : List Break) (here : FillState) (given : List Break) : Type 0 where
  pub taken : List ℕ
  pub knows : KnowsTaken cell here.row taken
  pub some : 0 < here.row → 0 < length taken
  pub joined : all ≡ given ++ from profile cell taken here.at (on here.at)

-- the same of breaks
abbrev pub UnitsReached : Profile → (ℕ → Cell) → (ℕ → List Decoded) → Ahead → FillState → List Break → Type 0
UnitsReached profile cell on all here given = UnitsReachedBy (onward_to all.end) profile cell on all.breaks here given
