-- Worked rows, by computing.
use Rattle.std.proofs.Common.{◌≡◌, [], ◌∷◌, ◌++◌, codes, refl}
use Rattle.lbk_rules.specs.declared.Kind.TheVariants.{No, Must}
use Rattle.lbk_rules.specs.declared.Rule.TheVariants.{Lb5, Lb6}
use Rattle.lbk_cmd.specs.Show.{shown_passage}

-- `a`, a carriage return and a line feed, before more text: × 0061 × 000D × 000A !, a tab, # 2 6 5 5
row_shown : shown_passage (record { scalar = 0x61; after = record { kind = No; rule = Lb6 } }
    ∷ record { scalar = 0xD; after = record { kind = No; rule = Lb5 } } ∷ record { scalar = 0xA; after = record { kind = Must; rule = Lb5 } } ∷ [])
    ≡ 0xC3 ∷ 0x97 ∷ (codes " 0061 " ++ (0xC3 ∷ 0x97 ∷ (codes " 000D " ++ (0xC3 ∷ 0x97 ∷ codes " 000A !\t# 2 6 5 5\n"))))
row_shown = refl
