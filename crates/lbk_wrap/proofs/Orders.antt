-- The lines of a text follow one another within it.
use Rattle.std.proofs.Common.{◌≡◌, ℕ, ◌+◌, ◌≤◌, Bool, true, false, ◌==◌, if◌then◌else◌, List, [], ◌∷◌, ◌++◌, length, refl, sym, ◌∙◌, arith, subst}
use Rattle.std.proofs.lemmas.Bool.Decides.{nat_tests}
use Rattle.std.proofs.lemmas.Str.{IsCharBoundary-start}
use Rattle.std.specs.Str.{IsCharBoundary, IsUtf8}
use Rattle.lbk_passage.specs.declared.passage.Segment.{Segment}
use Rattle.lbk_wrap.specs.declared.layout.Layout.{Layout}
use Rattle.lbk_wrap.specs.declared.open.LineKind.TheVariants.{Must, Cut}
use Rattle.lbk_wrap.specs.Columns.{Cluster, size}
use Rattle.lbk_wrap.specs.Cuttings.{AreCuttingFrom}
use Rattle.lbk_wrap.specs.Lines.{Laid, Part, Whole, alone, before_next, behind, cut, ended_if, fits, has_room, lay, lines, lines_on, parts_from, placed, text_to}
use Rattle.lbk_wrap.specs.Orders.{AreInARow}
use Rattle.lbk_wrap.proofs.Clusters.{size-graphemes}
use Rattle.lbk_wrap.proofs.Laying.{sizes, sizes-append}
use Rattle.lbk_wrap.proofs.Parts.{is_part, part-whole}
use Rattle.lbk_wrap.proofs.Standing.{size-append, size-shown}

-- how many bytes were laid
abbrev pub size_laid : Laid → ℕ
size_laid laid = sizes laid.lines + size laid.line

size-behind : (ls : List Whole) (laid : Laid) → size_laid (behind ls laid) ≡ sizes ls + size_laid laid
size-behind ls laid = omega (arith, sizes-append ls laid.lines)

size-cut-by : (layout : Layout) (line : List Cluster) (c : Cluster) (cs : List Cluster) (b : Bool) → has_room layout line c ≡ b
    → ((l : List Cluster) → size_laid (cut layout l cs) ≡ size l + size cs)
    → size_laid (cut layout line (c ∷ cs)) ≡ size line + size (c ∷ cs)
size-cut-by layout line c cs true h more =
    rw h (more (line ++ c ∷ []) ∙ omega (arith, size-append line (c ∷ []), size-append (c ∷ []) cs))
size-cut-by layout line c cs false h more =
    rw h (size-behind (record { clusters = line; kind = Cut } ∷ []) (cut layout (c ∷ []) cs)
    ∙ omega (arith, more (c ∷ []), size-append (c ∷ []) cs))

pub size-cut : (layout : Layout) (line cs : List Cluster) → size_laid (cut layout line cs) ≡ size line + size cs
size-cut layout line [] = omega arith
size-cut layout line (c ∷ cs) = size-cut-by layout line c cs (has_room layout line c) refl (λ l. size-cut layout l cs)

size-alone-if : (layout : Layout) (cs : List Cluster) (b : Bool)
    → size_laid (if b then record { lines = []; line = cs } else cut layout [] cs) ≡ size cs
size-alone-if layout cs true = omega arith
size-alone-if layout cs false = size-cut layout [] cs ∙ omega arith

sizes-before-by : (line : List Cluster) (b : Bool) → (size line == 0) ≡ b → sizes (before_next line) ≡ size line
sizes-before-by line true h = let none : size line ≡ 0 = grind (arith, nat_tests) in rw h (sym none)
sizes-before-by line false h = rw h (omega arith)

size-lay-by : (layout : Layout) (line : List Cluster) (part : Part) (b : Bool) → fits layout line part ≡ b
    → size_laid (lay layout line part) ≡ size line + size part.clusters
size-lay-by layout line part true h = rw h (omega (arith, size-append line part.clusters))
size-lay-by layout line part false h =
    rw h (size-behind (before_next line) (alone layout part.clusters)
    ∙ omega (arith, sizes-before-by line (size line == 0) refl, size-alone-if layout part.clusters layout.whole))

size-ended_if : (b : Bool) (laid : Laid) → size_laid (ended_if b laid) ≡ size_laid laid
size-ended_if false laid = refl
size-ended_if true laid = omega (arith, sizes-append laid.lines (record { clusters = laid.line; kind = Must } ∷ []))

-- the clusters of the line that has not ended behind some segments
abbrev pub left : Layout → List Cluster → List Part → List Cluster
left layout line [] = line
left layout line (p ∷ ps) = left layout (ended_if p.must (lay layout line p)).line ps

-- how many bytes some segments are
abbrev pub sizes_of : List Part → ℕ
sizes_of [] = 0
sizes_of (p ∷ ps) = size p.clusters + sizes_of ps

pub sizes-lines_on : (layout : Layout) (line : List Cluster) (parts : List Part)
    → sizes (lines_on layout line parts) + size (left layout line parts) ≡ size line + sizes_of parts
sizes-lines_on layout line [] = omega arith
sizes-lines_on layout line (p ∷ ps) =
    let laid = ended_if p.must (lay layout line p) in
    omega (
      arith,
      sizes-append laid.lines (lines_on layout laid.line ps),
      sizes-lines_on layout laid.line ps,
      size-ended_if p.must (lay layout line p),
      size-lay-by layout line p (fits layout line p) refl,
    )

pub placed-in_a_row : (layout : Layout) (start : ℕ) (ls : List Whole) → AreInARow start (start + sizes ls) (placed layout start ls)
placed-in_a_row layout start [] = omega arith
placed-in_a_row layout start (l ∷ ls) =
    let e : (start + size l.clusters) + sizes ls ≡ start + (size l.clusters + sizes ls) = omega arith in (
      refl,
      omega arith,
      omega (arith, size-shown l.clusters),
      subst (λ n. AreInARow (start + size l.clusters) n (placed layout (start + size l.clusters) ls)) e
          (placed-in_a_row layout (start + size l.clusters) ls),
    )

-- the segments of a text are within it
sizes-parts : (at : ℕ) (text : List ℕ) (segments : List Segment) → IsUtf8 text → IsCharBoundary text at
    → at + sizes_of (parts_from at text segments) ≤ length text
sizes-parts at text [] utf8 here = omega (arith, here.0)
sizes-parts at text (s ∷ ss) utf8 here =
    let part = text_to text at s.end in
    let is = is_part text at s.end utf8 here in
    omega (arith, size-graphemes part is.utf8, sizes-parts (at + length part) text ss utf8 is.next)

-- and as long as it is, if it is cut into them
pub sizes-cutting : (at : ℕ) (text : List ℕ) (segments : List Segment) → IsUtf8 text → IsCharBoundary text at
    → AreCuttingFrom at text segments → at + sizes_of (parts_from at text segments) ≡ length text
sizes-cutting at text [] utf8 here h = omega arith
sizes-cutting at text (s ∷ ss) utf8 here h =
    let part = text_to text at s.end in
    let is = is_part text at s.end utf8 here in
    let e : s.end ≡ at + length part = sym (part-whole text at s.end h.1 h.2) in
    omega (
      arith,
      size-graphemes part is.utf8,
      sizes-cutting (at + length part) text ss utf8 is.next (subst (λ n. AreCuttingFrom n text ss) e h.3),
    )

pub lines-in_a_row : (layout : Layout) (text : List ℕ) (segments : List Segment) → IsUtf8 text
    → (end : ℕ) × (end ≤ length text) × AreInARow 0 end (lines layout text segments)
unfolding lines
lines-in_a_row layout text segments utf8 =
    let parts = parts_from 0 text segments in
    let all = lines_on layout [] parts in (
      0 + sizes all,
      omega (arith, sizes-lines_on layout [] parts, sizes-parts 0 text segments utf8 (IsCharBoundary-start text utf8)),
      placed-in_a_row layout 0 all,
    )
