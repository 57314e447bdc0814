-- How wide lines are.
use Rattle.std.proofs.Common.{◌≡◌, ◌⊎◌, inl, inr, ℕ, ◌+◌, ◌<◌, ◌≤◌, Bool, true, false, ◌==◌, ◌||◌, nat_le, if◌then◌else◌, List, [], ◌∷◌, ◌++◌, length, length-append, refl, sym, arith, subst, ⊎_elim}
use Rattle.std.proofs.lemmas.Bool.{or_cases}
use Rattle.std.proofs.lemmas.Bool.Decides.{nat_tests}
use Rattle.std.specs.List.{AllByRecursion, concat}
use Rattle.lbk_passage.specs.declared.passage.Segment.{Segment}
use Rattle.lbk_wrap.specs.declared.layout.Layout.{Layout}
use Rattle.lbk_wrap.specs.Columns.{Cluster, is_blank, shown, size, with_shown}
use Rattle.lbk_wrap.specs.Laws.{IsNarrow}
use Rattle.lbk_wrap.specs.Lines.{Laid, Part, before_next, columns, cut, ended_if, fits, has_room, hyphen, lay, lines_on, parts_from, text_to}
use Rattle.lbk_wrap.proofs.Lengths.{AreSome, all-append, some-append, some-graphemes}
use Rattle.lbk_wrap.proofs.Standing.{shown-append_none, shown-append_some, shown-blank, shown-some}

-- a line of these clusters is narrow, whatever its kind
abbrev pub AreNarrow : Layout → List Cluster → Type 0
AreNarrow layout cs = (columns layout (shown cs) ≤ layout.columns) ⊎ (length (shown cs) ≤ 1)

-- so are the lines that have ended, and the line that has not
pub record LaidNarrow (layout : Layout) (laid : Laid) : Type 0 where
  pub lines : AllByRecursion (IsNarrow layout) laid.lines
  pub line : AreNarrow layout laid.line
  pub some : AreSome laid.line

same-shown : (layout : Layout) (xs ys : List Cluster) → shown ys ≡ shown xs → AreNarrow layout xs → AreNarrow layout ys
same-shown layout xs ys e h =
    let P : List Cluster → Type 0 = λ cs. (columns layout cs ≤ layout.columns) ⊎ (length cs ≤ 1) in subst P (sym e) h

no_bytes : (cs : List Cluster) → AreSome cs → size cs ≡ 0 → cs ≡ []
no_bytes [] some h = refl
no_bytes (c ∷ cs) some h = absurd (omega (arith, some.0, length-first c cs, h))
  where
    length-first : (c : Cluster) (cs : List Cluster) → size (c ∷ cs) ≡ length c + size cs
    length-first c cs = length-append c (concat cs)

one-by : (c : Cluster) (b : Bool) → is_blank c ≡ b → length (shown (c ∷ [])) ≤ 1
one-by c true h = rw h (omega arith)
one-by c false h = rw h (omega arith)

one-narrow : (layout : Layout) (c : Cluster) → AreNarrow layout (c ∷ [])
one-narrow layout c = inr (one-by c (is_blank c) refl)

within-by : (layout : Layout) (line : List Cluster) (c : Cluster) (b : Bool) → is_blank c ≡ b → AreNarrow layout line
    → columns layout (line ++ c ∷ []) ≤ layout.columns → AreNarrow layout (line ++ c ∷ [])
within-by layout line c true h narrow le = same-shown layout line (line ++ c ∷ []) (shown-blank line c h) narrow
within-by layout line c false h narrow le =
    inl (subst (λ cs. columns layout cs ≤ layout.columns) (sym (shown-some line c h)) le)

is_within : (m n : ℕ) → nat_le m n ≡ true → m ≤ n
is_within m n h = grind (arith, nat_tests)

is_zero : (n : ℕ) → (n == 0) ≡ true → n ≡ 0
is_zero n h = grind (arith, nat_tests)

push-narrow : (layout : Layout) (line : List Cluster) (c : Cluster) → AreSome line → AreNarrow layout line
    → has_room layout line c ≡ true → AreNarrow layout (line ++ c ∷ [])
unfolding has_room
push-narrow layout line c some narrow h =
    ⊎_elim
    (λ either.
    ⊎_elim (λ blank. same-shown layout line (line ++ c ∷ []) (shown-blank line c blank) narrow)
    (λ none.
    let e : line ≡ [] = no_bytes line some (is_zero (size line) none) in
    subst (λ xs. AreNarrow layout (xs ++ c ∷ [])) (sym e) (one-narrow layout c))
    (or_cases (is_blank c) (size line == 0) either))
    (λ le. within-by layout line c (is_blank c) refl narrow (is_within _ layout.columns le))
    (or_cases (is_blank c || (size line == 0)) (nat_le (columns layout (line ++ c ∷ [])) layout.columns) h)

cut-narrow-by : (layout : Layout) (line : List Cluster) (c : Cluster) (cs : List Cluster) (b : Bool) → has_room layout line c ≡ b
    → 0 < length c → AreSome line → AreNarrow layout line
    → ((l : List Cluster) → AreSome l → AreNarrow layout l → LaidNarrow layout (cut layout l cs))
    → LaidNarrow layout (cut layout line (c ∷ cs))
cut-narrow-by layout line c cs true h byte some narrow more =
    rw h (more (line ++ c ∷ []) (some-append line (c ∷ []) some (byte, tt)) (push-narrow layout line c some narrow h))
cut-narrow-by layout line c cs false h byte some narrow more =
    let rest = more (c ∷ []) (byte, tt) (one-narrow layout c) in
    rw h (record { lines = (narrow, rest.lines); line = rest.line; some = rest.some })

cut-narrow : (layout : Layout) (line cs : List Cluster) → AreSome cs → AreSome line → AreNarrow layout line
    → LaidNarrow layout (cut layout line cs)
cut-narrow layout line [] all some narrow = record { lines = tt; line = narrow; some = some }
cut-narrow layout line (c ∷ cs) all some narrow =
    cut-narrow-by layout line c cs (has_room layout line c) refl all.0 some narrow (λ l k m. cut-narrow layout l cs all.1 k m)

nothing-narrow : (layout : Layout) → AreNarrow layout []
nothing-narrow layout = inl (omega arith)

alone-narrow-if : (layout : Layout) (cs : List Cluster) (b : Bool) → b ≡ false → AreSome cs
    → LaidNarrow layout (if b then record { lines = []; line = cs } else cut layout [] cs)
alone-narrow-if layout cs true h all = cc
alone-narrow-if layout cs false h all = cut-narrow layout [] cs all tt (nothing-narrow layout)

before-narrow-by : (layout : Layout) (line : List Cluster) (b : Bool) → (size line == 0) ≡ b → AreNarrow layout line
    → AllByRecursion (IsNarrow layout) (before_next line)
before-narrow-by layout line true h narrow = rw h tt
before-narrow-by layout line false h narrow = rw h (narrow, tt)

with_shown-some_by : (c : Cluster) (b : Bool) → is_blank c ≡ b → 0 < length c → AreSome (with_shown c [])
with_shown-some_by c true h byte = rw h tt
with_shown-some_by c false h byte = rw h (byte, tt)

with_shown-bytes : (c : Cluster) (xs : List Cluster) → 0 < length c → AreSome xs → AreSome (with_shown c xs)
with_shown-bytes c [] byte all = with_shown-some_by c (is_blank c) refl byte
with_shown-bytes c (d ∷ ds) byte all = (byte, all)

shown-bytes : (cs : List Cluster) → AreSome cs → AreSome (shown cs)
shown-bytes [] all = tt
shown-bytes (c ∷ cs) all = with_shown-bytes c (shown cs) all.0 (shown-bytes cs all.1)

-- a line that takes a segment
takes-narrow-by : (layout : Layout) (line : List Cluster) (part : Part) (ds : List Cluster) → shown part.clusters ≡ ds
    → AreSome part.clusters → AreNarrow layout line → fits layout line part ≡ true → AreNarrow layout (line ++ part.clusters)
unfolding fits
takes-narrow-by layout line part [] e all narrow h =
    same-shown layout line (line ++ part.clusters) (shown-append_none line part.clusters e) narrow
takes-narrow-by layout line part (d ∷ ds) e all narrow h =
    let shows = line ++ d ∷ ds in
    let bytes = subst AreSome e (shown-bytes part.clusters all) in
    ⊎_elim
    (λ none.
    let nothing : (d ∷ ds) ≡ [] = no_bytes (d ∷ ds) bytes (is_zero (size (d ∷ ds)) none) in cc)
    (λ le.
    let few = is_within (columns layout shows + hyphen shows part.must) layout.columns le in
    inl (subst (λ cs. columns layout cs ≤ layout.columns) (sym (shown-append_some line part.clusters d ds e)) (omega (arith, few))))
    (or_cases (size (d ∷ ds) == 0) (nat_le (columns layout shows + hyphen shows part.must) layout.columns) (rw e at h))

lay-narrow-by : (layout : Layout) (line : List Cluster) (part : Part) (b : Bool) → fits layout line part ≡ b
    → layout.whole ≡ false → AreSome part.clusters → AreSome line → AreNarrow layout line → LaidNarrow layout (lay layout line part)
lay-narrow-by layout line part true h cuts all some narrow =
    rw h (record {
      lines = tt;
      line = takes-narrow-by layout line part _ refl all narrow h;
      some = some-append line part.clusters some all;
    })
lay-narrow-by layout line part false h cuts all some narrow =
    let rest = alone-narrow-if layout part.clusters layout.whole cuts all in
    rw h (record {
      lines = all-append (IsNarrow layout) (before_next line) _ (before-narrow-by layout line (size line == 0) refl narrow) rest.lines;
      line = rest.line;
      some = rest.some;
    })

ended-narrow : (layout : Layout) (laid : Laid) (b : Bool) → LaidNarrow layout laid → LaidNarrow layout (ended_if b laid)
ended-narrow layout laid true h =
    record { lines = all-append (IsNarrow layout) laid.lines _ h.lines (h.line, tt); line = nothing-narrow layout; some = tt }
ended-narrow layout laid false h = h

lines_on-narrow : (layout : Layout) (line : List Cluster) (parts : List Part) → layout.whole ≡ false
    → AllByRecursion (λ p. AreSome p.clusters) parts → AreSome line → AreNarrow layout line
    → AllByRecursion (IsNarrow layout) (lines_on layout line parts)
lines_on-narrow layout line [] cuts all some narrow = tt
lines_on-narrow layout line (p ∷ ps) cuts all some narrow =
    let laid = ended-narrow layout (lay layout line p) p.must (lay-narrow-by layout line p (fits layout line p) refl cuts all.0 some narrow) in
    all-append (IsNarrow layout) (ended_if p.must (lay layout line p)).lines _ laid.lines
    (lines_on-narrow layout (ended_if p.must (lay layout line p)).line ps cuts all.1 laid.some laid.line)

parts-bytes : (at : ℕ) (text : List ℕ) (segments : List Segment)
    → AllByRecursion (λ p. AreSome p.clusters) (parts_from at text segments)
parts-bytes at text [] = tt
parts-bytes at text (s ∷ ss) =
    (some-graphemes (text_to text at s.end), parts-bytes (at + length (text_to text at s.end)) text ss)

pub lines_narrow : (layout : Layout) (text : List ℕ) (segments : List Segment) → layout.whole ≡ false
    → AllByRecursion (IsNarrow layout) (lines_on layout [] (parts_from 0 text segments))
lines_narrow layout text segments cuts =
    lines_on-narrow layout [] (parts_from 0 text segments) cuts (parts-bytes 0 text segments) tt (nothing-narrow layout)
