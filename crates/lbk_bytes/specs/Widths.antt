-- What four bytes hold.
use Rattle.std.specs.Prelude.{ℕ, cond, nat_lt}
use Rattle.bstr.specs.Utf8.{Decoded, bad, code_of_3, code_of_4, continues, good}

-- what four bytes hold that begin as a scalar of three bytes or four (Unicode Standard, table 3-7)
abbrev pub longer_by : ℕ → ℕ → ℕ → ℕ → Decoded
longer_by b c d e =
    cond (continues d)
    (cond (nat_lt b 0xF0) (good (code_of_3 b c d) 3) (cond (continues e) (good (code_of_4 b c d e) 4) (bad 3)))
    (bad 2)
