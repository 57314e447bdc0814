-- Where lines end.
use Rattle.std.proofs.Common.{◌≡◌, ℕ, ◌+◌, Bool, true, false, List, [], ◌∷◌, ◌++◌, length, refl, ap, sym, ◌∙◌, arith, subst}
use Rattle.std.proofs.lemmas.Str.{IsCharBoundary-start}
use Rattle.std.specs.Str.{IsUtf8}
use Rattle.lbk_passage.specs.Passages.{is_must}
use Rattle.lbk_passage.specs.declared.passage.Segment.{Segment}
use Rattle.unicode_segmentation.specs.Grapheme.{graphemes}
use Rattle.lbk_wrap.specs.declared.layout.Layout.{Layout}
use Rattle.lbk_wrap.specs.Columns.{Cluster, is_blank, shown, size, with_shown}
use Rattle.lbk_wrap.specs.Cuttings.{AreCutting}
use Rattle.lbk_wrap.specs.Laws.{EndWithMust, OnlyBlanksHang}
use Rattle.lbk_wrap.specs.Lines.{ended_if, lay, lines, lines_on, Part, parts_from, text_to}
use Rattle.lbk_wrap.specs.Orders.{AreInARow}
use Rattle.lbk_wrap.proofs.Laying.{sizes}
use Rattle.lbk_wrap.proofs.Orders.{left, placed-in_a_row, sizes-cutting, sizes-lines_on}

none-left : (layout : Layout) (text : List ℕ) (at : ℕ) (line : List Cluster) (s : Segment) (ss : List Segment) → EndWithMust (s ∷ ss)
    → left layout line (parts_from at text (s ∷ ss)) ≡ []
none-left layout text at line s [] h =
    let clusters = graphemes true (text_to text at s.end) in
    ap (λ b. (ended_if b (lay layout line (record { clusters = clusters; must = b }))).line) h
none-left layout text at line s (t ∷ ss) h =
    let part = text_to text at s.end in
    let taken : Part = record { clusters = graphemes true part; must = is_must s.kind } in
    none-left layout text (at + length part) (ended_if (is_must s.kind) (lay layout line taken)).line t ss h

none-left-all : (layout : Layout) (text : List ℕ) (segments : List Segment) → EndWithMust segments
    → left layout [] (parts_from 0 text segments) ≡ []
none-left-all layout text [] h = refl
none-left-all layout text (s ∷ ss) h = none-left layout text 0 [] s ss h

pub lines_whole : (layout : Layout) (text : List ℕ) (segments : List Segment) → IsUtf8 text → AreCutting text segments
    → EndWithMust segments → AreInARow 0 (length text) (lines layout text segments)
unfolding lines
lines_whole layout text segments utf8 h must =
    let parts = parts_from 0 text segments in
    let all = lines_on layout [] parts in
    let e : 0 + sizes all ≡ length text =
    omega (
      arith,
      sizes-lines_on layout [] parts,
      ap size (none-left-all layout text segments must),
      sizes-cutting 0 text segments utf8 (IsCharBoundary-start text utf8) h,
    ) in
    subst (λ n. AreInARow 0 n (lines layout text segments)) e (placed-in_a_row layout 0 all)

blank-front-by : (c : Cluster) (cs ds : List Cluster) (h : OnlyBlanksHang cs) (b : Bool) → is_blank c ≡ b → shown cs ≡ ds
    → OnlyBlanksHang (c ∷ cs)
blank-front-by c cs [] h true blank none =
    record {
      hanging = c ∷ cs;
      is = ap (λ xs. with_shown c xs ++ c ∷ cs) none ∙ rw blank refl;
      blank = (blank, rw (sym (ap (λ xs. xs ++ h.hanging) none) ∙ h.is) at h.blank);
    }
blank-front-by c cs [] h false blank none =
    record {
      hanging = h.hanging;
      is = ap (λ xs. with_shown c xs ++ h.hanging) none ∙ rw blank (ap (λ xs. c ∷ xs) (sym (ap (λ xs. xs ++ h.hanging) none) ∙ h.is));
      blank = h.blank;
    }
blank-front-by c cs (d ∷ ds) h b blank some =
    record {
      hanging = h.hanging;
      is = ap (λ xs. with_shown c xs ++ h.hanging) some ∙ ap (λ xs. c ∷ xs) (sym (ap (λ xs. xs ++ h.hanging) some) ∙ h.is);
      blank = h.blank;
    }

pub only_blanks : (cs : List Cluster) → OnlyBlanksHang cs
only_blanks [] = record { hanging = []; is = refl; blank = tt }
only_blanks (c ∷ cs) = blank-front-by c cs (shown cs) (only_blanks cs) (is_blank c) refl refl
