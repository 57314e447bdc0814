-- Worked lines, computed from the definitions.
use Rattle.std.proofs.Common.{◌≡◌, true, codes, ◌++◌, ◌∷◌, [], Some, None, refl}
use Rattle.lbk_ucd.specs.PropertyLine.{row, default, nothing, code_of, pair_of, range_of, name_of, entry_of, default_of, meaning_of}

a_row : meaning_of true (codes "00041..005A ; AL # x") ≡ Some (row (record { first = 0x41; last = 0x5A; name = codes "AL" }))
unfolding meaning_of entry_of range_of pair_of code_of name_of
a_row = refl

a_default : meaning_of true (codes "# @missing: 0000..10FFFF; ID" ++ (13 ∷ [])) ≡ Some (default (record { first = 0; last = 0x10FFFF; name = codes "ID" }))
unfolding meaning_of default_of entry_of range_of pair_of code_of name_of
a_default = refl

a_comment : meaning_of true (codes "# @missing: 0000; AK") ≡ Some nothing
unfolding meaning_of default_of entry_of range_of pair_of code_of name_of
a_comment = refl

no_line : meaning_of true (codes "0041 ..0042;AL") ≡ None
unfolding meaning_of entry_of range_of pair_of code_of name_of
no_line = refl
