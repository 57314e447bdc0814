-- The number of a rule as it is written, without LB (UAX #14, section 6).
use Rattle.std.specs.Prelude.{ℕ, List, codes}
use Rattle.lbk_uax14.specs.declared.verdicts.Rule.{Rule}
use Rattle.lbk_uax14.specs.declared.verdicts.Rule.TheVariants.{Lb2, Lb3, Lb4, Lb5, Lb6, Lb7, Lb8, Lb8a, Lb9, Lb11}
use Rattle.lbk_uax14.specs.declared.verdicts.Rule.TheVariants.{Lb12, Lb12a, Lb13, Lb14, Lb15, Lb15a, Lb15b, Lb16}
use Rattle.lbk_uax14.specs.declared.verdicts.Rule.TheVariants.{Lb17, Lb18, Lb19, Lb20, Lb21, Lb21a, Lb21b, Lb22, Lb23}
use Rattle.lbk_uax14.specs.declared.verdicts.Rule.TheVariants.{Lb23a, Lb24, Lb25, Lb26, Lb27, Lb28, Lb29, Lb30, Lb30a}
use Rattle.lbk_uax14.specs.declared.verdicts.Rule.TheVariants.{Lb30b, Lb31}

abbrev pub label_of : Rule → List ℕ
label_of Lb2 = codes "2"
label_of Lb3 = codes "3"
label_of Lb4 = codes "4"
label_of Lb5 = codes "5"
label_of Lb6 = codes "6"
label_of Lb7 = codes "7"
label_of Lb8 = codes "8"
label_of Lb8a = codes "8a"
label_of Lb9 = codes "9"
label_of Lb11 = codes "11"
label_of Lb12 = codes "12"
label_of Lb12a = codes "12a"
label_of Lb13 = codes "13"
label_of Lb14 = codes "14"
label_of Lb15 = codes "15"
label_of Lb15a = codes "15a"
label_of Lb15b = codes "15b"
label_of Lb16 = codes "16"
label_of Lb17 = codes "17"
label_of Lb18 = codes "18"
label_of Lb19 = codes "19"
label_of Lb20 = codes "20"
label_of Lb21 = codes "21"
label_of Lb21a = codes "21a"
label_of Lb21b = codes "21b"
label_of Lb22 = codes "22"
label_of Lb23 = codes "23"
label_of Lb23a = codes "23a"
label_of Lb24 = codes "24"
label_of Lb25 = codes "25"
label_of Lb26 = codes "26"
label_of Lb27 = codes "27"
label_of Lb28 = codes "28"
label_of Lb29 = codes "29"
label_of Lb30 = codes "30"
label_of Lb30a = codes "30a"
label_of Lb30b = codes "30b"
label_of Lb31 = codes "31"
