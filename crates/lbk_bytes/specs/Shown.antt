-- What the numbers of a break stand for.
use Rattle.std.specs.Prelude.{ℕ, List, map, take}
use Rattle.lbk_rules.specs.declared.Break.{Break}
use Rattle.lbk_rules.specs.Codes.{kind_number, kind_numbered, rule_number, rule_numbered}
use Rattle.lbk_bytes.specs.declared.raw_break.RawBreak.{RawBreak}

-- a break as numbers
abbrev pub raw_of : Break → RawBreak
raw_of found = record { at = found.at; kind = kind_number found.kind; rule = rule_number found.rule }

-- the break that is given
abbrev pub shown : RawBreak → Break
shown found = record { at = found.at; kind = kind_numbered found.kind; rule = rule_numbered found.rule }

-- the breaks in the front of a block
abbrev pub given_in : List RawBreak → ℕ → List Break
given_in block count = map shown (take count block)
