-- How the bytes of a scalar of three bytes or four count in its code.
use Rattle.std.specs.Prelude.{◌≡◌, ℕ, ◌<◌, ◌≤◌, ◌⊎◌}
use Rattle.lbk_scalars.specs.declared.wide.Width.{Width}

-- by its first byte, which is from E0 on
abbrev pub IsWidth : ℕ → Width → Type 0
IsWidth first width =
    ((first < 0xF0) × (width.third ≡ 1) × (width.fourth ≡ 0) × (width.marks ≡ 0xE2080) × (width.size ≡ 3))
    ⊎ ((0xF0 ≤ first) × (width.third ≡ 64) × (width.fourth ≡ 1) × (width.marks ≡ 0x3C82000) × (width.size ≡ 4))

-- after this byte, of three or four, any continuation byte may stand second, or after F0 all from 90 on
abbrev pub IsPlainLead : ℕ → Type 0
IsPlainLead first = (0xE1 ≤ first) × (first < 0xF4) × ¬ (first ≡ 0xED)
