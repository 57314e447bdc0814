use Rattle.std.proofs.Common.{◌≡◌, ℕ, List, ◌++◌, flat_map, chars}
use Rattle.std.specs.Fmt.{HasWritten, IsPlainFormatter}
use Rattle.std.specs.Str.{IsUtf8}
use Rattle.std.specs.Str.Iter.{chars_rest}
use Rattle.lbk_args.specs.OneLine.{one_line, one_scalar}
use Rattle.lbk_args.proofs.one_line.write_name.Given as goal

-- what was written, and the characters that are left
abbrev pub invariant-loop-scalar : goal.invariant-loop-scalar
invariant-loop-scalar g l =
    IsUtf8 (chars_rest l.scalar-iterator)
    × (IsPlainFormatter l.initial.f → (done : List ℕ) × HasWritten g.W.Write.write_str_gives l.initial.f done l.f
    × (done ++ flat_map one_scalar (chars (chars_rest l.scalar-iterator)) ≡ one_line l.name))
