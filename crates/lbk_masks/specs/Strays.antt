-- Bytes of no scalar of two bytes.
use Rattle.std.specs.Prelude.{ℕ, zero, suc, ◌+◌, ◌&&◌, ◌||◌, Bool, false, not, List, get_or, nat_le, nat_lt}

-- whether a byte goes on with a scalar (Unicode Standard, table 3-7)
abbrev pub continues : ℕ → Bool
continues byte = nat_le 128 byte && nat_lt byte 192

-- whether byte i of the first 64 begins a scalar of more bytes, and the next of them goes on with it
abbrev pub is_pair : List ℕ → ℕ → Bool
is_pair text i = nat_le 192 (get_or text i 0) && (nat_lt i 63 && continues (get_or text (i + 1) 0))

-- whether it is the second of two such bytes
abbrev pub is_second : List ℕ → ℕ → Bool
is_second text zero = false
is_second text (suc i) = is_pair text i

-- whether it is from 128 on, and neither
abbrev pub is_stray : List ℕ → ℕ → Bool
is_stray text i = nat_le 128 (get_or text i 0) && not (is_pair text i || is_second text i)
