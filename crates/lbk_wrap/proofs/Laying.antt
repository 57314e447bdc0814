-- The lines as clusters, and as offsets and columns.
use Rattle.std.proofs.Common.{◌≡◌, ℕ, ◌+◌, ◌≤◌, Bool, true, false, ◌==◌, nat_le, List, [], ◌∷◌, ◌++◌, refl, ap, sym, ◌∙◌, arith, if◌then◌else◌}
use Rattle.std.proofs.lemmas.Bool.Decides.{nat_tests}
use Rattle.lbk_wrap.specs.declared.layout.Layout.{Layout}
use Rattle.lbk_wrap.specs.declared.open.Line.{Line}
use Rattle.lbk_wrap.specs.declared.open.LineKind.TheVariants.{Must, Cut}
use Rattle.lbk_wrap.specs.declared.open.Open.{Open}
use Rattle.lbk_wrap.specs.Layouts.{tab_of}
use Rattle.lbk_wrap.specs.Columns.{Cluster, shown, size}
use Rattle.lbk_wrap.specs.Lines.{Laid, Part, Whole, alone, before_next, behind, cut, ended_if, fits, has_room, lay, line_at, lines_on, placed}
use Rattle.lbk_wrap.specs.Steps.{Taken, after_lines, cut_on, end_if, ended_before, fits_as, grown_all, has_room_as, lines_from, open_at, take, take_alone}
use Rattle.lbk_wrap.proofs.Standing.{grown-standing, grown_all-standing, open_at-standing, shown-append_none, shown-append_some, size-append, size-shown, standing}

-- how many bytes some lines are
abbrev pub sizes : List Whole → ℕ
sizes [] = 0
sizes (l ∷ ls) = size l.clusters + sizes ls

-- what was laid from this byte on, as it is taken
abbrev pub as_taken : Layout → ℕ → Laid → Taken
as_taken layout start laid =
    record { lines = placed layout start laid.lines; line = standing layout (start + sizes laid.lines) laid.line }

pub sizes-append : (xs ys : List Whole) → sizes (xs ++ ys) ≡ sizes xs + sizes ys
sizes-append [] ys = omega arith
sizes-append (x ∷ xs) ys = omega (arith, sizes-append xs ys)

placed-append : (layout : Layout) (start : ℕ) (xs ys : List Whole)
    → placed layout start (xs ++ ys) ≡ placed layout start xs ++ placed layout (start + sizes xs) ys
placed-append layout start [] ys =
    let e : start ≡ start + 0 = omega arith in ap (λ n. placed layout n ys) e
placed-append layout start (x ∷ xs) ys =
    let e : (start + size x.clusters) + sizes xs ≡ start + (size x.clusters + sizes xs) = omega arith in
    ap (λ ls. line_at layout start x ∷ ls)
    (placed-append layout (start + size x.clusters) xs ys
    ∙ ap (λ n. placed layout (start + size x.clusters) xs ++ placed layout n ys) e)

taken_same : (ls ms : List Line) (x y : Open) → ls ≡ ms → x ≡ y
    → (let t : Taken = record { lines = ls; line = x } in t) ≡ record { lines = ms; line = y }
taken_same ls ms x y p q = cc

as_taken-behind : (layout : Layout) (start : ℕ) (ls : List Whole) (laid : Laid)
    → after_lines (placed layout start ls) (as_taken layout (start + sizes ls) laid) ≡ as_taken layout start (behind ls laid)
as_taken-behind layout start ls laid =
    let e : (start + sizes ls) + sizes laid.lines ≡ start + sizes (ls ++ laid.lines) = omega (arith, sizes-append ls laid.lines) in
    let lines = sym (placed-append layout start ls laid.lines) in
    let line = ap (λ n. standing layout n laid.line) e in
    taken_same _ _ _ _ lines line

le_is_zero : (start n : ℕ) → nat_le (start + n) start ≡ (n == 0)
le_is_zero start n = grind (arith, nat_tests)

room-same : (layout : Layout) (start : ℕ) (line : List Cluster) (c : Cluster)
    → has_room_as layout (standing layout start line) (standing layout start (line ++ c ∷ [])) c ≡ has_room layout line c
unfolding has_room_as has_room
room-same layout start line c = rw (le_is_zero start (size line)) refl

cut-by : (layout : Layout) (start : ℕ) (line : List Cluster) (c : Cluster) (cs : List Cluster) (b : Bool)
    → has_room layout line c ≡ b
    → ((start : ℕ) (line : List Cluster) → cut_on layout (standing layout start line) cs ≡ as_taken layout start (cut layout line cs))
    → cut_on layout (standing layout start line) (c ∷ cs) ≡ as_taken layout start (cut layout line (c ∷ cs))
cut-by layout start line c cs true h more =
    rw (grown-standing layout start line c, room-same layout start line c, h) (more start (line ++ c ∷ []))
cut-by layout start line c cs false h more =
    rw (grown-standing layout start line c, room-same layout start line c, h)
    (rw (open_at-standing layout (start + size line), grown-standing layout (start + size line) [] c, more (start + size line) (c ∷ []))
    (let e : start + size line ≡ start + (size line + 0) = omega arith in
    ap (λ n. after_lines (placed layout start (record { clusters = line; kind = Cut } ∷ [])) (as_taken layout n (cut layout (c ∷ []) cs))) e
    ∙ as_taken-behind layout start (record { clusters = line; kind = Cut } ∷ []) (cut layout (c ∷ []) cs)))

cut-same : (layout : Layout) (start : ℕ) (line cs : List Cluster)
    → cut_on layout (standing layout start line) cs ≡ as_taken layout start (cut layout line cs)
cut-same layout start line [] = let e : start ≡ start + 0 = omega arith in
    ap (λ n. let t : Taken = record { lines = []; line = standing layout n line } in t) e
cut-same layout start line (c ∷ cs) =
    cut-by layout start line c cs (has_room layout line c) refl (λ s l. cut-same layout s l cs)

-- a segment that shows nothing
fits-none : (layout : Layout) (start : ℕ) (line : List Cluster) (part : Part) → shown part.clusters ≡ []
    → fits_as layout (standing layout start line) (standing layout start (line ++ part.clusters)) part.must
    ≡ fits layout line part
unfolding fits_as fits
fits-none layout start line part h =
    let le : start + size (shown line) ≤ start + size line = omega (arith, size-shown line) in
    rw (shown-append_none line part.clusters h, h) (rw (is_le (start + size (shown line)) (start + size line) le) refl)
  where
    is_le : (a b : ℕ) → a ≤ b → nat_le a b ≡ true
    is_le a b h = grind (arith, nat_tests)

-- and one that shows something
fits-some : (layout : Layout) (start : ℕ) (line : List Cluster) (part : Part) (d : Cluster) (ds : List Cluster)
    → shown part.clusters ≡ d ∷ ds
    → fits_as layout (standing layout start line) (standing layout start (line ++ part.clusters)) part.must
    ≡ fits layout line part
unfolding fits_as fits
fits-some layout start line part d ds h =
    rw (shown-append_some line part.clusters d ds h, h)
    (rw (end_is_zero start line (d ∷ ds)) refl)
  where
    end_is_zero : (start : ℕ) (xs ys : List Cluster) → nat_le (start + size (xs ++ ys)) (start + size xs) ≡ (size ys == 0)
    end_is_zero start xs ys =
        let e : start + size (xs ++ ys) ≡ (start + size xs) + size ys = omega (arith, size-append xs ys) in
        ap (λ n. nat_le n (start + size xs)) e ∙ le_is_zero (start + size xs) (size ys)

fits-by : (layout : Layout) (start : ℕ) (line : List Cluster) (part : Part) (ds : List Cluster) → shown part.clusters ≡ ds
    → fits_as layout (standing layout start line) (standing layout start (line ++ part.clusters)) part.must
    ≡ fits layout line part
fits-by layout start line part [] h = fits-none layout start line part h
fits-by layout start line part (d ∷ ds) h = fits-some layout start line part d ds h

alone-if : (layout : Layout) (at : ℕ) (cs : List Cluster) (b : Bool)
    → (let t : Taken = if b then record { lines = []; line = grown_all (tab_of layout) (open_at at) cs } else cut_on layout (open_at at) cs in t)
    ≡ as_taken layout at (if b then record { lines = []; line = cs } else cut layout [] cs)
alone-if layout at cs true =
    let e : at ≡ at + 0 = omega arith in
    rw (open_at-standing layout at, grown_all-standing layout at [] cs)
    (ap (λ n. let t : Taken = record { lines = []; line = standing layout n cs } in t) e)
alone-if layout at cs false = rw (open_at-standing layout at) (cut-same layout at [] cs)

alone-same : (layout : Layout) (at : ℕ) (cs : List Cluster)
    → take_alone layout at cs ≡ as_taken layout at (alone layout cs)
alone-same layout at cs = alone-if layout at cs layout.whole

before-by : (layout : Layout) (start : ℕ) (line : List Cluster) (b : Bool) → (size line == 0) ≡ b
    → (ended_before (standing layout start line) ≡ placed layout start (before_next line))
    × (start + size line ≡ start + sizes (before_next line))
before-by layout start line true h =
    let none : size line ≡ 0 = grind (arith, nat_tests) in
    (rw (le_is_zero start (size line), h) refl, rw h (omega arith))
before-by layout start line false h =
    (rw (le_is_zero start (size line), h) refl, rw h (omega arith))

lay-by : (layout : Layout) (start : ℕ) (line : List Cluster) (part : Part) (b : Bool) → fits layout line part ≡ b
    → take layout (standing layout start line) part ≡ as_taken layout start (lay layout line part)
lay-by layout start line part true h =
    let e : start ≡ start + 0 = omega arith in
    rw (grown_all-standing layout start line part.clusters, fits-by layout start line part _ refl, h)
    (ap (λ n. let t : Taken = record { lines = []; line = standing layout n (line ++ part.clusters) } in t) e)
lay-by layout start line part false h =
    let before = before-by layout start line (size line == 0) refl in
    rw (grown_all-standing layout start line part.clusters, fits-by layout start line part _ refl, h)
    (rw (before.0, alone-same layout (start + size line) part.clusters)
    (ap (λ n. after_lines (placed layout start (before_next line)) (as_taken layout n (alone layout part.clusters))) before.1
    ∙ as_taken-behind layout start (before_next line) (alone layout part.clusters)))

ended-by : (layout : Layout) (start : ℕ) (laid : Laid) (b : Bool)
    → end_if b (as_taken layout start laid) ≡ as_taken layout start (ended_if b laid)
ended-by layout start laid false = refl
ended-by layout start laid true =
    let last : Whole = record { clusters = laid.line; kind = Must } in
    let e : (start + sizes laid.lines) + size laid.line ≡ start + sizes (laid.lines ++ last ∷ []) = omega (arith, sizes-append laid.lines (last ∷ [])) in
    let lines = sym (placed-append layout start laid.lines (last ∷ [])) in
    let line = ap open_at e ∙ open_at-standing layout (start + sizes (laid.lines ++ last ∷ [])) in
    taken_same _ _ _ _ lines line

pub lines-same : (layout : Layout) (start : ℕ) (line : List Cluster) (parts : List Part)
    → lines_from layout (standing layout start line) parts ≡ placed layout start (lines_on layout line parts)
lines-same layout start line [] = refl
lines-same layout start line (p ∷ ps) =
    let laid = ended_if p.must (lay layout line p) in
    rw (lay-by layout start line p (fits layout line p) refl, ended-by layout start (lay layout line p) p.must)
    (ap (λ ls. placed layout start laid.lines ++ ls) (lines-same layout (start + sizes laid.lines) laid.line ps)
    ∙ sym (placed-append layout start laid.lines (lines_on layout laid.line ps)))
