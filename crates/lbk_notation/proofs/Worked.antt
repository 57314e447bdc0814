-- Lines worked by hand, against the definitions.
use Rattle.std.proofs.Common.{◌≡◌, [], ◌∷◌, Some, refl}
use Rattle.lbk_notation.specs.declared.marks.Form.TheVariants.{Plain, Kinds}
use Rattle.lbk_notation.specs.declared.marks.Mark.TheVariants.{No, May, Must}
use Rattle.lbk_notation.specs.Grammar.{IsLine}
use Rattle.lbk_notation.specs.Place.{IsOutside, IsPlace}
use Rattle.lbk_notation.specs.Run.{sort_of}
use Rattle.lbk_notation.specs.Written.{written_line}
use Rattle.lbk_notation.proofs.Places.{outside, placed}
use Rattle.lbk_notation.proofs.Sound.{sound}

-- × 1F466 ! in Kinds, and with ÷ in Plain
kinds : written_line Kinds (record { scalars = 0x1F466 ∷ []; marks = No ∷ Must ∷ [] })
    ≡ 0xC3 ∷ 0x97 ∷ 32 ∷ 49 ∷ 70 ∷ 52 ∷ 54 ∷ 54 ∷ 32 ∷ 33 ∷ []
kinds = refl

plain : written_line Plain (record { scalars = 0x1F466 ∷ []; marks = No ∷ Must ∷ [] })
    ≡ 0xC3 ∷ 0x97 ∷ 32 ∷ 49 ∷ 70 ∷ 52 ∷ 54 ∷ 54 ∷ 32 ∷ 0xC3 ∷ 0xB7 ∷ []
plain = refl

-- × 0061 ÷ is a line
line : IsLine Plain (0xC3 ∷ 0x97 ∷ 32 ∷ 48 ∷ 48 ∷ 54 ∷ 49 ∷ 32 ∷ 0xC3 ∷ 0xB7 ∷ []) (Some (record { scalars = 97 ∷ []; marks = No ∷ May ∷ [] }))
unfolding sort_of
line = sound Plain _ _ refl

-- × D800 ÷ goes wrong at 7: D8000 could still come
surrogate : IsPlace Plain (0xC3 ∷ 0x97 ∷ 32 ∷ 68 ∷ 56 ∷ 48 ∷ 48 ∷ 32 ∷ 0xC3 ∷ 0xB7 ∷ []) 7
unfolding sort_of
surrogate = placed Plain _ 7 refl

-- × 0023 goes wrong at its end, and is no line
cut_short : IsPlace Plain (0xC3 ∷ 0x97 ∷ 32 ∷ 48 ∷ 48 ∷ 50 ∷ 51 ∷ []) 7
unfolding sort_of
cut_short = placed Plain _ 7 refl

cut_short_outside : IsOutside Plain (0xC3 ∷ 0x97 ∷ 32 ∷ 48 ∷ 48 ∷ 50 ∷ 51 ∷ [])
unfolding sort_of
cut_short_outside = outside Plain _ 7 refl
