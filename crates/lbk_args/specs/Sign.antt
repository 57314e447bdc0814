-- The text that `mark` writes where a line may end.
use Rattle.std.specs.Prelude.{ℕ, ◌==◌, ◌||◌, ◌&&◌, Bool, false, not, List, [], ◌∷◌, length, nat_lt}
use Rattle.std.specs.Str.{chars}
use Rattle.clap.specs.Words.{Text}
use Rattle.lbk_args.specs.OneLine.{is_within}

-- ÷, if the arguments give none
abbrev pub default_sign : Text
default_sign = 0xC3 ∷ 0xB7 ∷ []

-- a line ends at this scalar: LF, VT, FF, CR, NEL (85), and the separators of lines and paragraphs (2028 and 2029)
abbrev pub ends_line : ℕ → Bool
ends_line c = is_within 10 13 c || ((c == 133) || is_within 8232 8233 c)

abbrev pub has_line_end : List ℕ → Bool
has_line_end [] = false
has_line_end (c ∷ cs) = ends_line c || has_line_end cs

-- one to eight bytes without a line end
abbrev pub is_sign : Text → Bool
is_sign text = not (nat_lt (length text) 1) && (not (nat_lt 8 (length text)) && not (has_line_end (chars text)))
