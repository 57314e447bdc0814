-- Why bytes are not unpacked, as numbers: causes of lbk.h.
use Rattle.std.specs.Prelude.{◌≡◌, ◌⊎◌, ℕ, List}
use Rattle.lbk_calls.specs.Packing.{packed}
use Rattle.lbk_calls.specs.Refusals.{IsRefusal}
use Rattle.lbk_calls.specs.declared.unpacking.Refusal.{Refusal}
use Rattle.lbk_calls.specs.declared.unpacking.Refusal.TheVariants.{Foreign, Version, Damaged}
use Rattle.lbk_rules.specs.declared.flat_table.TheConstants.{LAYOUT}
use Rattle.lbk_rules.specs.FlatTable.{AreKinds}

abbrev pub refusal_number : Refusal → ℕ
refusal_number Foreign = 11
refusal_number Version = 12
refusal_number Damaged = 13

-- they pack numbers of which one is that of no kind
abbrev pub PackOthers : List ℕ → Type 0
PackOthers bytes = (kinds : List ℕ) × (bytes ≡ packed LAYOUT kinds) × (¬ AreKinds kinds)

-- the cause of a refusal: they are no packed form, or pack no kinds
abbrev pub IsCause : List ℕ → ℕ → Type 0
IsCause bytes number =
    ((refusal : Refusal) × IsRefusal LAYOUT bytes refusal × (number ≡ refusal_number refusal))
    ⊎ ((number ≡ 13) × PackOthers bytes)
