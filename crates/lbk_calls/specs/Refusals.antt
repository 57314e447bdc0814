-- Why bytes are not unpacked.
use Rattle.std.specs.Prelude.{◌≡◌, ◌≢◌, ℕ, List, ◌∷◌, ◌++◌, codes, length, ⊤}
use Rattle.lbk_calls.specs.declared.unpacking.Refusal.{Refusal}
use Rattle.lbk_calls.specs.declared.unpacking.Refusal.TheVariants.{Foreign, Version, Damaged}
use Rattle.lbk_calls.specs.Packing.{packed}

-- the bytes begin as the packed form of this version does
abbrev pub BeginsIn : ℕ → List ℕ → Type 0
BeginsIn version bytes = (rest : List ℕ) × (bytes ≡ codes "lbk" ++ (version ∷ rest))

-- what is wrong with bytes: in no version they begin so, in another, or in this one and they are the packed form of no
-- kinds
abbrev pub IsRefusal : ℕ → List ℕ → Refusal → Type 0
IsRefusal version bytes Foreign = ¬ ((any : ℕ) × BeginsIn any bytes)
IsRefusal version bytes Version = (other : ℕ) × (other ≢ version) × BeginsIn other bytes
IsRefusal version bytes Damaged = BeginsIn version bytes
    × (¬ ((all : List ℕ) × (length all ≡ 0x11_0000) × (bytes ≡ packed version all)))

-- after it the kinds are as they were
abbrev pub LeavesAlone : Refusal → Type 0
LeavesAlone Damaged = ⊥
LeavesAlone other = ⊤
