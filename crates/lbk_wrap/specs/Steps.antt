-- The same over the offsets and columns of the line so far.
use Rattle.std.specs.Prelude.{◌≡◌, ℕ, ◌+◌, ◌*◌, ◌≤◌, Bool, false, not, ◌&&◌, ◌||◌, nat_le, List, [], ◌∷◌, ◌++◌, length, if◌then◌else◌}
use Rattle.lbk_wrap.specs.declared.layout.Layout.{Layout}
use Rattle.lbk_wrap.specs.declared.open.Line.{Line}
use Rattle.lbk_wrap.specs.declared.open.LineKind.{LineKind}
use Rattle.lbk_wrap.specs.declared.open.LineKind.TheVariants.{May, Must, Cut}
use Rattle.lbk_wrap.specs.declared.open.Open.{Open}
use Rattle.lbk_wrap.specs.Layouts.{tab_of}
use Rattle.lbk_wrap.specs.Columns.{Cluster, after, is_blank, is_soft_hyphen}
use Rattle.lbk_wrap.specs.Lines.{Part}

-- a line that begins at this byte, and has nothing yet
abbrev pub open_at : ℕ → Open
open_at at = record { start = at; end = at; next = at; columns = 0; column = 0; soft = false }

-- its numbers are in order, and small where the line ends in a small text
pub record IsSmall (line : Open) : Type 0 where
  pub start : line.start ≤ line.end
  pub end : line.end ≤ line.next
  pub columns : line.columns ≤ 256 * line.next
  pub column : line.column ≤ 256 * line.next

-- a line and one more cluster
unfoldable pub grown : ℕ → Open → Cluster → Open
grown tab line c =
    let next = line.next + length c in
    let column = after tab line.column c in
    if is_blank c then record line { next = next; column = column }
    else record { start = line.start; end = next; next = next; columns = column; column = column; soft = is_soft_hyphen c }

abbrev pub grown_all : ℕ → Open → List Cluster → Open
grown_all tab line [] = line
grown_all tab line (c ∷ cs) = grown_all tab (grown tab line c) cs

abbrev pub line_of : Open → LineKind → Line
line_of line kind =
    record { start = line.start; end = line.end; next = line.next; columns = line.columns; kind = kind }

-- lines that have ended, and the one that has not
pub record Taken : Type 0 where
  pub lines : List Line
  pub line : Open

abbrev pub after_lines : List Line → Taken → Taken
after_lines lines taken = record { lines = lines ++ taken.lines; line = taken.line }

-- the line `line` grew by a segment that it has room for
unfoldable pub fits_as : Layout → Open → Open → Bool → Bool
fits_as layout line grown must =
    nat_le grown.end line.next || nat_le (grown.columns + (if grown.soft && not must then 1 else 0)) layout.columns

unfoldable pub has_room_as : Layout → Open → Open → Cluster → Bool
has_room_as layout line grown c =
    is_blank c || nat_le line.next line.start || nat_le grown.column layout.columns

abbrev pub cut_on : Layout → Open → List Cluster → Taken
cut_on layout line [] = record { lines = []; line = line }
cut_on layout line (c ∷ cs) =
    let tab = tab_of layout in
    if has_room_as layout line (grown tab line c) c then cut_on layout (grown tab line c) cs
    else after_lines (line_of line Cut ∷ []) (cut_on layout (grown tab (open_at line.next) c) cs)

abbrev pub ended_before : Open → List Line
ended_before line = if nat_le line.next line.start then [] else line_of line May ∷ []

abbrev pub take_alone : Layout → ℕ → List Cluster → Taken
take_alone layout at clusters =
    if layout.whole then record { lines = []; line = grown_all (tab_of layout) (open_at at) clusters }
    else cut_on layout (open_at at) clusters

abbrev pub take : Layout → Open → Part → Taken
take layout line part =
    let all = grown_all (tab_of layout) line part.clusters in
    if fits_as layout line all part.must then record { lines = []; line = all }
    else after_lines (ended_before line) (take_alone layout line.next part.clusters)

abbrev pub end_if : Bool → Taken → Taken
end_if must taken =
    if must then record { lines = taken.lines ++ line_of taken.line Must ∷ []; line = open_at taken.line.next }
    else taken

abbrev pub lines_from : Layout → Open → List Part → List Line
lines_from layout line [] = []
lines_from layout line (p ∷ ps) =
    let taken = end_if p.must (take layout line p) in taken.lines ++ lines_from layout taken.line ps

-- a call that had these lines and has those now gave what was taken
abbrev pub Gives : List Line → List Line → Open → Taken → Type 0
Gives old new line taken = (new ≡ old ++ taken.lines) × (line ≡ taken.line)
