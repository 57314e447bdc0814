use Rattle.std.proofs.Common.{◌≡◌, chars}
use Rattle.std.specs.Str.{IsUtf8}
use Rattle.std.specs.Str.Iter.{chars_rest}
use Rattle.lbk_args.specs.Sign.{has_line_end}
use Rattle.lbk_args.proofs.sign.has_line_end.Given as goal

-- a line end is among the characters that are left, if there is one
abbrev pub invariant-loop-scalar : goal.invariant-loop-scalar
invariant-loop-scalar l =
    IsUtf8 (chars_rest l.scalar-iterator) × (has_line_end (chars (chars_rest l.scalar-iterator))
    ≡ has_line_end (chars l.text))
