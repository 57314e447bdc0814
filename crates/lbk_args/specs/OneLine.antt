-- An argument printed in one line.
use Rattle.std.specs.Prelude.{ℕ, ◌==◌, ◌||◌, ◌&&◌, Bool, false, not, List, [], ◌∷◌, ◌++◌, encode_utf8, if◌then◌else◌}
use Rattle.std.specs.Prelude.{nat_lt}
use Rattle.std.specs.Char.{is_control}
use Rattle.std.specs.Fmt.{digits}
use Rattle.std.specs.List.{flat_map}
use Rattle.std.specs.Str.{chars}

abbrev pub is_within : ℕ → ℕ → ℕ → Bool
is_within first last code = not (nat_lt code first) && not (nat_lt last code)

-- the characters that change the text direction on a terminal (PropList.txt, Bidi_Control: 61C, 200E to 200F, 202A to
-- 202E, 2066 to 2069), and the two that end a line and are no controls (2028 and 2029)
abbrev pub is_turning : ℕ → Bool
is_turning code = (code == 1564) || (is_within 8206 8207 code || (is_within 8232 8238 code || is_within 8294 8297 code))

abbrev pub is_escaped : ℕ → Bool
is_escaped c = is_control c || is_turning c

-- such a character is \u and its code in braces, any other character itself
abbrev pub one_scalar : ℕ → List ℕ
one_scalar c = if is_escaped c then 92 ∷ 117 ∷ 123 ∷ (digits 16 false c ++ 125 ∷ []) else encode_utf8 c

-- a name in one line
abbrev pub one_line : List ℕ → List ℕ
one_line name = flat_map one_scalar (chars name)
