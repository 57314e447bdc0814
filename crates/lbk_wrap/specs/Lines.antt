-- The lines of a text. A text comes as its segments, the parts between the breaks of UAX #14, each as its grapheme
-- clusters.
use Rattle.std.specs.Prelude.{ℕ, ◌+◌, Bool, true, not, ◌&&◌, ◌||◌, ◌==◌, nat_le, nat_lt, List, [], ◌∷◌, ◌++◌, length, slice_index, slice_range, if◌then◌else◌}
use Rattle.lbk_passage.specs.Passages.{is_must}
use Rattle.lbk_passage.specs.declared.passage.Segment.{Segment}
use Rattle.unicode_segmentation.specs.Grapheme.{graphemes}
use Rattle.lbk_wrap.specs.declared.layout.Layout.{Layout}
use Rattle.lbk_wrap.specs.declared.open.Line.{Line}
use Rattle.lbk_wrap.specs.declared.open.LineKind.{LineKind}
use Rattle.lbk_wrap.specs.declared.open.LineKind.TheVariants.{May, Must, Cut}
use Rattle.lbk_wrap.specs.Layouts.{tab_of}
use Rattle.lbk_wrap.specs.Columns.{Cluster, after_all, ends_soft, is_blank, shown, size}

-- a segment: its clusters, and whether a line must end behind it
pub record Part : Type 0 where
  pub clusters : List Cluster
  pub must : Bool

-- the clusters of a line, and why it ends
pub record Whole : Type 0 where
  pub clusters : List Cluster
  pub kind : LineKind

-- lines that have ended, and the clusters of the line that has not
pub record Laid : Type 0 where
  pub lines : List Whole
  pub line : List Cluster

-- the columns of a line
abbrev pub columns : Layout → List Cluster → ℕ
columns layout line = after_all (tab_of layout) 0 line

-- a soft hyphen at the end of a line that may end there needs a column (UAX #14, section 5.4)
abbrev pub hyphen : List Cluster → Bool → ℕ
hyphen line must = if ends_soft line && not must then 1 else 0

-- a line has room for a segment: nothing of it shows, or all that shows is within the columns
unfoldable pub fits : Layout → List Cluster → Part → Bool
fits layout line part =
    let shows = line ++ shown part.clusters in
    size (shown part.clusters) == 0 || nat_le (columns layout shows + hyphen shows part.must) layout.columns

-- a line has room for a cluster of a segment that is cut: it is a blank, it is the first, or it is within the columns
unfoldable pub has_room : Layout → List Cluster → Cluster → Bool
has_room layout line c = is_blank c || size line == 0 || nat_le (columns layout (line ++ c ∷ [])) layout.columns

-- a line in front of others
abbrev pub behind : List Whole → Laid → Laid
behind lines laid = record { lines = lines ++ laid.lines; line = laid.line }

-- a line that takes clusters one by one, and ends before each that it has no room for
abbrev pub cut : Layout → List Cluster → List Cluster → Laid
cut layout line [] = record { lines = []; line = line }
cut layout line (c ∷ cs) =
    if has_room layout line c then cut layout (line ++ c ∷ []) cs
    else behind (record { clusters = line; kind = Cut } ∷ []) (cut layout (c ∷ []) cs)

-- a line that ends before a segment that it has no room for, unless it has nothing yet
abbrev pub before_next : List Cluster → List Whole
before_next line = if size line == 0 then [] else record { clusters = line; kind = May } ∷ []

-- a segment on a line of its own: cut where no line has room for it, unless it is to stay whole
abbrev pub alone : Layout → List Cluster → Laid
alone layout clusters = if layout.whole then record { lines = []; line = clusters } else cut layout [] clusters

-- a line that takes a segment, or leaves it to the next one
abbrev pub lay : Layout → List Cluster → Part → Laid
lay layout line part =
    if fits layout line part then record { lines = []; line = line ++ part.clusters }
    else behind (before_next line) (alone layout part.clusters)

-- the line that has not ended ends here
abbrev pub ended : Laid → Laid
ended laid = record { lines = laid.lines ++ record { clusters = laid.line; kind = Must } ∷ []; line = [] }

abbrev pub ended_if : Bool → Laid → Laid
ended_if must laid = if must then ended laid else laid

-- the lines that end in some segments, where the first line has these clusters before them
abbrev pub lines_on : Layout → List Cluster → List Part → List Whole
lines_on layout line [] = []
lines_on layout line (p ∷ ps) =
    let laid = ended_if p.must (lay layout line p) in laid.lines ++ lines_on layout laid.line ps

-- a line that begins at this byte
abbrev pub line_at : Layout → ℕ → Whole → Line
line_at layout start l =
    record {
      start = start;
      end = start + size (shown l.clusters);
      next = start + size l.clusters;
      columns = columns layout (shown l.clusters);
      kind = l.kind;
    }

-- lines one after another, the first from this byte on
abbrev pub placed : Layout → ℕ → List Whole → List Line
placed layout start [] = []
placed layout start (l ∷ ls) = line_at layout start l ∷ placed layout (start + size l.clusters) ls

-- a character of a text begins at this byte, or the text ends there
abbrev pub is_boundary : List ℕ → ℕ → Bool
is_boundary text at =
    nat_le at (length text)
    && (nat_le (length text) at || nat_lt (slice_index text at) 128 || nat_le 192 (slice_index text at))

-- a text from one byte to another, and nothing of it where these are no two places of it in their order
unfoldable pub text_to : List ℕ → ℕ → ℕ → List ℕ
text_to text at end = if nat_le at end && is_boundary text end then slice_range text at end else []

-- the segments of a text, each up to its end, the first from this byte on
abbrev pub parts_from : ℕ → List ℕ → List Segment → List Part
parts_from at text [] = []
parts_from at text (s ∷ ss) =
    let part = text_to text at s.end in
    record { clusters = graphemes true part; must = is_must s.kind } ∷ parts_from (at + length part) text ss

-- the lines of a text with these segments
unfoldable pub lines : Layout → List ℕ → List Segment → List Line
lines layout text segments = placed layout 0 (lines_on layout [] (parts_from 0 text segments))
