-- How far a call has come with a text.
use Rattle.std.specs.Prelude.{◌≡◌, ℕ, Bool, true, false, ◌+◌, ◌<◌, ◌≤◌, List, [], ◌∷◌, ◌++◌, length, map, drop}
use Rattle.bstr.specs.Utf8.{Decoded, or_replacement, pieces}
use Rattle.lbk_rules.specs.declared.Break.{Break}
use Rattle.lbk_rules.specs.declared.Cell.{Cell}
use Rattle.lbk_values.specs.declared.profile.Profile.{Profile}
use Rattle.lbk_rules.specs.Breaks.{break_by}
use Rattle.lbk_rules.specs.FlatTable.{KnowsTaken}
use Rattle.lbk_rules.specs.Verdict.{verdict_between_in}
use Rattle.lbk_bytes.specs.declared.fill_state.FillState.{FillState}
use Rattle.lbk_bytes.specs.declared.raw_break.RawBreak.{RawBreak}
use Rattle.lbk_bytes.specs.Bytes.{AtEnd, closed_end, open_end, with_break}
use Rattle.lbk_bytes.specs.Order.{AreInOrderBy, IsBreak}

-- the scalars that some pieces are read as
abbrev pub scalars_of : List Decoded → List ℕ
scalars_of ps = map (λ p. or_replacement p.char) ps

-- what comes from a byte of a text on, after some scalars and before some pieces
abbrev pub Onward : Type 0
Onward = Profile → (ℕ → Cell) → List ℕ → ℕ → List Decoded → List Break

-- the breaks from the byte `at` on, which stands between the scalars before it and these pieces, and what comes at
-- the end
abbrev pub onward_to : AtEnd → Onward
onward_to end profile cell before at [] = end profile cell before at
onward_to end profile cell before at (p ∷ ps) =
    with_break at (verdict_between_in profile (map cell before) (map cell (scalars_of (p ∷ ps))))
    (onward_to end profile cell (before ++ or_replacement p.char ∷ []) (at + p.size) ps)

-- the same of a text that ends behind the pieces
abbrev pub onward : Onward
onward = onward_to closed_end

-- the breaks of a text, and what comes at its end
pub record Ahead : Type 0 where
  pub breaks : List Break
  pub end : AtEnd

-- the same of all positions, of which the first is the one before these pieces
abbrev pub onward_all : AtEnd → Onward
onward_all end profile cell before at [] = end profile cell before at
onward_all end profile cell before at (p ∷ ps) =
    break_by at (verdict_between_in profile (map cell before) (map cell (scalars_of (p ∷ ps))))
    ∷ onward_all end profile cell (before ++ or_replacement p.char ∷ []) (at + p.size) ps

-- the last position of a text
abbrev pub last_position : AtEnd
last_position profile cell scalars at = break_by at (verdict_between_in profile (map cell scalars) []) ∷ []

-- what comes of the positions at an end
abbrev pub position_end_in : Bool → AtEnd
position_end_in true = open_end
position_end_in false = last_position

-- of all these were given, and the others come from here on
pub record ReachedBy (from : Onward) (profile : Profile) (cell : ℕ → Cell) (text : List ℕ) (all : List Break)
    (here : FillState) (given : List Break) : Type 0 where
  pub taken : List ℕ
  pub knows : KnowsTaken cell here.row taken
  pub some : 0 < here.row → 0 < length taken
  pub joined : all ≡ given ++ from profile cell taken here.at (pieces (drop here.at text))

-- what was given so far is in order, from a byte of the text on and up to where the call has come
abbrev pub IsInOrderBy : (RawBreak → Type 0) → List RawBreak → ℕ → ℕ → ℕ → Type 0
IsInOrderBy Is block count from at = (from ≤ at) × AreInOrderBy Is block count from at

abbrev pub IsInOrder : List RawBreak → ℕ → ℕ → ℕ → Type 0
IsInOrder = IsInOrderBy IsBreak

-- the same of breaks
abbrev pub Reached : Profile → (ℕ → Cell) → List ℕ → Ahead → FillState → List Break → Type 0
Reached profile cell text all here given = ReachedBy (onward_to all.end) profile cell text all.breaks here given
