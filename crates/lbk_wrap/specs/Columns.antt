-- The columns of grapheme clusters in a terminal, and the blanks, which may hang over the end of a line.
use Rattle.std.specs.Prelude.{ℕ, ◌+◌, ◌*◌, ◌/◌, Bool, false, ◌==◌, ◌||◌, List, [], ◌∷◌, length, bytes_eq, if◌then◌else◌}
use Rattle.std.specs.Int.{is_in_range}
use Rattle.std.specs.List.{concat, list_all}
use Rattle.std.specs.Str.{chars}
use Rattle.unicode_width.specs.Width.{str_width}

-- a grapheme cluster, as its bytes
abbrev pub Cluster : Type 0
Cluster = List ℕ

-- the scalars that end a line by the rules 4 and 5 of UAX #14: LF, VT, FF, CR, NEL, U+2028 and U+2029
unfoldable pub ends_line : ℕ → Bool
ends_line c = is_in_range 0x0A 0x0D c || c == 0x85 || is_in_range 0x2028 0x2029 c

-- those, the tab, and the spaces at which a line may end: no no-break space, and not U+200B, which has no columns
unfoldable pub is_blank_scalar : ℕ → Bool
is_blank_scalar c =
    ends_line c || c == 0x09 || c == 0x20 || c == 0x1680 || is_in_range 0x2000 0x2006 c || is_in_range 0x2008 0x200A c
    || c == 0x205F || c == 0x3000

-- a cluster of blanks alone
unfoldable pub is_blank : Cluster → Bool
is_blank cluster = list_all is_blank_scalar (chars cluster)

-- U+00AD
unfoldable pub is_soft_hyphen : Cluster → Bool
is_soft_hyphen cluster = bytes_eq cluster (0xC2 ∷ 0xAD ∷ [])

unfoldable pub is_tab : Cluster → Bool
is_tab cluster = bytes_eq cluster (0x09 ∷ [])

unfoldable pub is_line_end : Cluster → Bool
is_line_end cluster = list_all ends_line (chars cluster)

-- the column after a cluster that begins in this one: a tab goes to the next stop, and a line end stays where it is
unfoldable pub after : ℕ → ℕ → Cluster → ℕ
after tab column cluster =
    if is_tab cluster then (column / tab + 1) * tab
    else if is_line_end cluster then column
    else column + str_width false (chars cluster)

-- the column after some clusters, of which the first begins in this one
abbrev pub after_all : ℕ → ℕ → List Cluster → ℕ
after_all tab column [] = column
after_all tab column (c ∷ cs) = after_all tab (after tab column c) cs

-- how many bytes some clusters are
abbrev pub size : List Cluster → ℕ
size cs = length (concat cs)

-- a cluster in front of those that show
abbrev pub with_shown : Cluster → List Cluster → List Cluster
with_shown c [] = if is_blank c then [] else c ∷ []
with_shown c (d ∷ ds) = c ∷ d ∷ ds

-- what shows of some clusters: all but the blanks at their end
abbrev pub shown : List Cluster → List Cluster
shown [] = []
shown (c ∷ cs) = with_shown c (shown cs)

-- the last of some clusters is a soft hyphen
abbrev pub ends_soft : List Cluster → Bool
ends_soft [] = false
ends_soft (c ∷ []) = is_soft_hyphen c
ends_soft (c ∷ d ∷ ds) = ends_soft (d ∷ ds)
