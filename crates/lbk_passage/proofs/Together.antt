-- What the passages of a text are together.
use Rattle.std.proofs.Common.{◌≡◌, ℕ, ◌+◌, true, false, cond, List, [], ◌∷◌, ◌++◌, map, length, encode_utf8, encode_utf8_all, chars, IsUtf8, refl, sym, ap, ◌∙◌, arith}
use Rattle.std.specs.List.{AllByRecursion, flat_map}
use Rattle.std.proofs.lemmas.Str.{encodes-append, encodes-chars}
use Rattle.lbk_rules.specs.declared.Cell.{Cell}
use Rattle.lbk_values.specs.declared.profile.Profile.{Profile}
use Rattle.lbk_passage.specs.Breaks.{break_by, breaks, breaks_from, is_no}
use Rattle.lbk_passage.specs.Laws.{EndsOnce, break_at, segment_breaks}
use Rattle.lbk_passage.specs.Marks.{Marked, marks, scalars_of, text_of}
use Rattle.lbk_passage.specs.Passages.{passages, ends_passage, cut_after}
use Rattle.lbk_passage.specs.Segments.{segment_by, segments_from, segments_of}
use Rattle.lbk_rules.proofs.JoinLemmas.{breaks-joined}
use Rattle.lbk_rules.proofs.MarkLemmas.{scalars-behind}
use Rattle.lbk_passage.proofs.Cutting.{cut_after-joined, cut_after-whole, cut_after-ends, cut_after-only}
use Rattle.lbk_passage.proofs.Marking.{marks-closed}

-- The breaks at the ends of segments

segments-shifted : (start from at : ℕ) (ms : List Marked) → map (break_at start) (segments_from from at ms) ≡ breaks_from (start + at) ms
segments-shifted start from at [] = refl
segments-shifted start from at (m ∷ ms) =
    let end = at + length (encode_utf8 m.scalar) in
    let there = start + at + length (encode_utf8 m.scalar) in
    let place : start + end ≡ there = omega arith in
    elim (is_no m.after.kind)
    as (λ k. map (break_at start) (cond k (segments_from from end ms) (segment_by from end m.after ∷ segments_from end end ms))
    ≡ cond k (breaks_from there ms) (break_by there m.after ∷ breaks_from there ms)) [
      | true ↦ segments-shifted start from end ms ∙ ap (λ n. breaks_from n ms) place
      | false ↦ ap (λ l. break_by (start + end) m.after ∷ l) (segments-shifted start end end ms) ∙ ap (λ n. break_by n m.after ∷ breaks_from n ms) place
    ]

pub segment_breaks-are : (start : ℕ) (ps : List (List Marked)) → segment_breaks start ps ≡ breaks_from start (flat_map (λ ms. ms) ps)
unfolding segments_of
segment_breaks-are start [] = refl
segment_breaks-are start (ms ∷ ps) =
    ap (λ l. l ++ segment_breaks (start + length (text_of ms)) ps)
    (segments-shifted start 0 0 ms ∙ ap (λ n. breaks_from n ms) (let same : start + 0 ≡ start = omega arith in same))
    ∙ ap (λ l. breaks_from start ms ++ l) (segment_breaks-are (start + length (text_of ms)) ps)
    ∙ sym (breaks-joined start ms (flat_map (λ ms. ms) ps))

-- The texts of passages

pub texts-joined : (ps : List (List Marked)) → flat_map text_of ps ≡ encode_utf8_all (flat_map scalars_of ps)
texts-joined [] = refl
texts-joined (ms ∷ ps) = ap (λ l. text_of ms ++ l) (texts-joined ps) ∙ sym (encodes-append (scalars_of ms) (flat_map scalars_of ps))

module _ (profile : Profile) (cell : ℕ → Cell) where
  pub passages-marks : (text : List ℕ) → flat_map (λ ms. ms) (passages profile cell text) ≡ marks profile cell text
  unfolding passages
  passages-marks text = cut_after-whole ends_passage (marks profile cell text)

  pub passages-scalars : (text : List ℕ) → flat_map scalars_of (passages profile cell text) ≡ text
  unfolding passages
  passages-scalars text = cut_after-joined ends_passage (λ m. m.scalar) (marks profile cell text) ∙ scalars-behind profile cell [] text

  pub passages-bytes : (text : List ℕ) → IsUtf8 text → flat_map text_of (passages profile cell (chars text)) ≡ text
  passages-bytes text utf8 = texts-joined (passages profile cell (chars text)) ∙ ap encode_utf8_all (passages-scalars (chars text)) ∙ encodes-chars text utf8

  pub passages-breaks : (text : List ℕ) → segment_breaks 0 (passages profile cell text) ≡ breaks profile cell text
  passages-breaks text = segment_breaks-are 0 (passages profile cell text) ∙ ap (breaks_from 0) (passages-marks text)

  pub passages-end : (text : List ℕ) → AllByRecursion EndsOnce (passages profile cell text)
  unfolding passages
  passages-end text = cut_after-ends ends_passage (marks profile cell text) (marks-closed profile cell [] text)

  pub passages-only : (text : List ℕ) (ps : List (List Marked)) → flat_map (λ ms. ms) ps ≡ marks profile cell text → AllByRecursion EndsOnce ps
      → ps ≡ passages profile cell text
  unfolding passages
  passages-only text ps joined all = sym (cut_after-only ends_passage ps all) ∙ ap (cut_after ends_passage) joined

-- that passages cut the marks of a text in one way
pub ruleset one_way = (passages-marks, passages-end, passages-only)
