-- Bytes at the end of a piece that more bytes could go on (Unicode Standard, section 3.9, table 3-7).
use Rattle.std.specs.Prelude.{◌≡◌, ℕ, ◌+◌, ◌<◌, ◌&&◌, ◌||◌, Bool, nat_lt, List, ◌++◌, length, slice_index}
use Rattle.bstr.specs.Utf8.{continues, decoded, good, lead_len, second}

-- more bytes could make a scalar of these, which do not end it: Table 3-7
abbrev pub could_go_on_by : ℕ → ℕ → ℕ → ℕ → Bool
could_go_on_by n b c d = nat_lt n (lead_len b) && (nat_lt n 2 || (second b c && (nat_lt n 3 || continues d)))

abbrev pub could_go_on : List ℕ → Bool
could_go_on bs = could_go_on_by (length bs) (slice_index bs 0) (slice_index bs 1) (slice_index bs 2)

-- some bytes behind these make one scalar of all
abbrev pub IsCut : List ℕ → Type 0
IsCut bs = (more : List ℕ) × (c : ℕ) × (0 < length more) × (decoded (bs ++ more) ≡ good c (length bs + length more))
