use Rattle.std.proofs.Common.{◌≡◌, take}
use Rattle.std.specs.Str.Parse.{digits_value, AllDigits}
use Rattle.lbk_ucd.proofs.property_line.code_of.Given as goal

abbrev pub invariant-loop-digit : goal.invariant-loop-digit
invariant-loop-digit l =
    (l.code ≡ digits_value 16 (take l.digit-index l.digits)) × AllDigits 16 (take l.digit-index l.digits)
