-- No line is empty.
use Rattle.std.proofs.Common.{◌≡◌, ℕ, ◌+◌, ◌<◌, Bool, true, false, ◌==◌, ◌||◌, if◌then◌else◌, List, [], ◌∷◌, ◌++◌, length, refl, sym, arith, subst}
use Rattle.std.proofs.lemmas.Bool.Decides.{nat_tests}
use Rattle.std.proofs.lemmas.Str.{IsCharBoundary-start}
use Rattle.std.specs.List.{AllByRecursion}
use Rattle.std.specs.Str.{IsCharBoundary, IsUtf8}
use Rattle.lbk_passage.specs.declared.passage.Segment.{Segment}
use Rattle.unicode_segmentation.specs.Grapheme.{graphemes, is_grapheme_break}
use Rattle.unicode_segmentation.proofs.SegmentsLemmas.{AllPieces, segments_nonempty}
use Rattle.lbk_wrap.specs.declared.layout.Layout.{Layout}
use Rattle.lbk_wrap.specs.declared.open.Line.{Line}
use Rattle.lbk_wrap.specs.declared.open.LineKind.TheVariants.{Must}
use Rattle.lbk_wrap.specs.Columns.{Cluster, is_blank, size}
use Rattle.lbk_wrap.specs.Cuttings.{AreCutting, AreCuttingFrom}
use Rattle.lbk_wrap.specs.Lines.{Laid, Part, Whole, before_next, cut, ended_if, fits, has_room, lay, lines, lines_on, parts_from, placed, text_to}
use Rattle.lbk_wrap.proofs.Clusters.{size-graphemes}
use Rattle.lbk_wrap.proofs.Parts.{is_part, part-whole}
use Rattle.lbk_wrap.proofs.Standing.{size-append, size-one}

-- what holds of the lines that have ended, and of the line that has not
pub record Holds (P : Whole → Type 0) (laid : Laid) : Type 0 where
  pub lines : AllByRecursion P laid.lines
  pub line : P (record { clusters = laid.line; kind = Must })

pub all-append : (P : Whole → Type 0) (xs ys : List Whole) → AllByRecursion P xs → AllByRecursion P ys → AllByRecursion P (xs ++ ys)
all-append P [] ys h k = k
all-append P (x ∷ xs) ys h k = (h.0, all-append P xs ys h.1 k)

-- each cluster has a byte
abbrev pub AreSome : List Cluster → Type 0
AreSome cs = AllByRecursion (λ c. 0 < length c) cs

from_pieces : (ps : List (List ℕ)) → AllPieces (λ p. 0 < length p) ps → AreSome ps
from_pieces [] h = tt
from_pieces (p ∷ ps) h = (h.0, from_pieces ps h.1)

pub some-graphemes : (text : List ℕ) → AreSome (graphemes true text)
some-graphemes text = from_pieces _ (segments_nonempty (is_grapheme_break true) text)

pub some-append : (xs ys : List Cluster) → AreSome xs → AreSome ys → AreSome (xs ++ ys)
some-append [] ys h k = k
some-append (x ∷ xs) ys h k = (h.0, some-append xs ys h.1 k)

-- what is said of a line, whatever its kind
abbrev pub IsSome_line : Whole → Type 0
IsSome_line line = 0 < size line.clusters

is_some : (n : ℕ) → (n == 0) ≡ false → 0 < n
is_some n h = grind (arith, nat_tests)

is_none : (n : ℕ) → (n == 0) ≡ true → n ≡ 0
is_none n h = grind (arith, nat_tests)

-- a line that has no room for a cluster has something
no_room-some : (layout : Layout) (line : List Cluster) (c : Cluster) (b : Bool) → (size line == 0) ≡ b
    → has_room layout line c ≡ false → 0 < size line
unfolding has_room
no_room-some layout line c false e h = is_some (size line) e
no_room-some layout line c true e h = no_or (is_blank c) _ (rw e at h)
  where
    no_or : (a b : Bool) → ((a || true) || b) ≡ false → 0 < size line
    no_or true b h = cc
    no_or false b h = cc

cut-some-by : (layout : Layout) (line : List Cluster) (c : Cluster) (cs : List Cluster) (b : Bool) → has_room layout line c ≡ b
    → 0 < length c → ((l : List Cluster) → 0 < size l → Holds IsSome_line (cut layout l cs))
    → Holds IsSome_line (cut layout line (c ∷ cs))
cut-some-by layout line c cs true h some more =
    rw h (more (line ++ c ∷ []) (omega (arith, size-append line (c ∷ []), size-one c)))
cut-some-by layout line c cs false h some more =
    let rest = more (c ∷ []) (omega (arith, size-one c)) in
    rw h (record { lines = (no_room-some layout line c (size line == 0) refl h, rest.lines); line = rest.line })

cut-some : (layout : Layout) (line cs : List Cluster) → AreSome cs → 0 < size line → Holds IsSome_line (cut layout line cs)
cut-some layout line [] all some = record { lines = tt; line = some }
cut-some layout line (c ∷ cs) all some =
    cut-some-by layout line c cs (has_room layout line c) refl all.0 (λ l k. cut-some layout l cs all.1 k)

cut-some-alone : (layout : Layout) (cs : List Cluster) → AreSome cs → 0 < size cs → Holds IsSome_line (cut layout [] cs)
cut-some-alone layout [] all some = absurd (omega arith)
cut-some-alone layout (c ∷ cs) all some =
    cut-some-by layout [] c cs (has_room layout [] c) refl all.0 (λ l k. cut-some layout l cs all.1 k)

alone-some-if : (layout : Layout) (cs : List Cluster) (b : Bool) → AreSome cs → 0 < size cs
    → Holds IsSome_line (if b then record { lines = []; line = cs } else cut layout [] cs)
alone-some-if layout cs true all some = record { lines = tt; line = some }
alone-some-if layout cs false all some = cut-some-alone layout cs all some

before-some-by : (line : List Cluster) (b : Bool) → (size line == 0) ≡ b → AllByRecursion IsSome_line (before_next line)
before-some-by line true h = rw h tt
before-some-by line false h = rw h (is_some (size line) h, tt)

lay-some-by : (layout : Layout) (line : List Cluster) (part : Part) (b : Bool) → fits layout line part ≡ b
    → AreSome part.clusters → 0 < size part.clusters → Holds IsSome_line (lay layout line part)
lay-some-by layout line part true h all some =
    rw h (record { lines = tt; line = omega (arith, size-append line part.clusters, some) })
lay-some-by layout line part false h all some =
    let rest = alone-some-if layout part.clusters layout.whole all some in
    rw h (record { lines = all-append IsSome_line (before_next line) _ (before-some-by line (size line == 0) refl) rest.lines; line = rest.line })

ended-some : (laid : Laid) (b : Bool) → Holds IsSome_line laid → AllByRecursion IsSome_line (ended_if b laid).lines
ended-some laid true h = all-append IsSome_line laid.lines _ h.lines (h.line, tt)
ended-some laid false h = h.lines

-- segments that are not empty
abbrev pub IsSomePart : Part → Type 0
IsSomePart part = AreSome part.clusters × (0 < size part.clusters)

lines_on-some : (layout : Layout) (line : List Cluster) (parts : List Part) → AllByRecursion IsSomePart parts
    → AllByRecursion IsSome_line (lines_on layout line parts)
lines_on-some layout line [] h = tt
lines_on-some layout line (p ∷ ps) h =
    let laid = lay layout line p in
    all-append IsSome_line (ended_if p.must laid).lines _
    (ended-some laid p.must (lay-some-by layout line p (fits layout line p) refl h.0.0 h.0.1))
    (lines_on-some layout (ended_if p.must laid).line ps h.1)

placed-some : (layout : Layout) (start : ℕ) (ls : List Whole) → AllByRecursion IsSome_line ls
    → AllByRecursion (λ (line : Line). line.start < line.next) (placed layout start ls)
placed-some layout start [] h = tt
placed-some layout start (l ∷ ls) h = (omega (arith, h.0), placed-some layout (start + size l.clusters) ls h.1)

parts-some : (at : ℕ) (text : List ℕ) (segments : List Segment) → IsUtf8 text → IsCharBoundary text at
    → AreCuttingFrom at text segments → AllByRecursion (λ s. s.start < s.end) segments
    → AllByRecursion IsSomePart (parts_from at text segments)
parts-some at text [] utf8 here h some = tt
parts-some at text (s ∷ ss) utf8 here h some =
    let part = text_to text at s.end in
    let is = is_part text at s.end utf8 here in
    let e : s.end ≡ at + length part = sym (part-whole text at s.end h.1 h.2) in (
      (some-graphemes part, omega (arith, size-graphemes part is.utf8, some.0)),
      parts-some (at + length part) text ss utf8 is.next (subst (λ n. AreCuttingFrom n text ss) e h.3) some.1,
    )

pub lines_some : (layout : Layout) (text : List ℕ) (segments : List Segment) → IsUtf8 text → AreCutting text segments
    → AllByRecursion (λ s. s.start < s.end) segments
    → AllByRecursion (λ (line : Line). line.start < line.next) (lines layout text segments)
unfolding lines
lines_some layout text segments utf8 h some =
    placed-some layout 0 _ (lines_on-some layout [] (parts_from 0 text segments)
    (parts-some 0 text segments utf8 (IsCharBoundary-start text utf8) h some))
