-- A passage's text with its signs, break by break, is that of its marks.
use Rattle.std.proofs.Common.{◌≡◌, ⊎_elim, ℕ, ◌+◌, ◌-◌, ◌≤◌, true, List, [], ◌∷◌, ◌++◌, length, drop, take, append_assoc, refl, sym, ap, ap₂, subst, ◌∙◌, arith, length-append, encode_utf8, encode_utf8_all, chars, IsUtf8}
use Rattle.std.specs.Prelude.{slice_range, if◌then◌else◌}
use Rattle.std.specs.List.{AllByRecursion, flat_map}
use Rattle.std.proofs.Math.Seq.{drop-append_seam, take-append_seam}
use Rattle.std.proofs.lemmas.Str.{chars_from_encodes, encodes-chars}
use Rattle.lbk_rules.specs.declared.Break.{Break}
use Rattle.lbk_rules.specs.declared.Cell.{Cell}
use Rattle.lbk_rules.specs.declared.Kind.{Kind}
use Rattle.lbk_rules.specs.declared.Kind.TheVariants.{No, May, Must}
use Rattle.lbk_rules.specs.declared.Verdict.{Verdict}
use Rattle.lbk_rules.specs.Breaks.{breaks, breaks_from, is_no}
use Rattle.lbk_rules.proofs.MarkLemmas.{scalars-behind}
use Rattle.lbk_values.specs.declared.profile.Profile.{Profile}
use Rattle.lbk_passage.specs.Laws.{IsPart}
use Rattle.lbk_passage.specs.Marks.{Marked, ended, marks, scalars_of, text_of}
use Rattle.lbk_passage.specs.Next.{GoesOn, IsLast, IsPassage, Lends}
use Rattle.lbk_passage.specs.Passages.{ends_passage, is_must}
use Rattle.lbk_passage.specs.State.{State}
use Rattle.lbk_passage.specs.declared.passage.Passage.{Passage}
use Rattle.lbk_passage.proofs.Cutting.{IsClosed}
use Rattle.lbk_passage.proofs.Marking.{marks-closed}
use Rattle.lbk_passage.proofs.Together.{passages-end}
use Rattle.lbk_cmd.specs.Mark.{missing_line_end, sign, signed, signed_passage}
use Rattle.lbk_cmd.specs.Signing.{IsCut, signed_from}

-- what stands between two places of a text
part-is : (before here behind text : List ℕ) (start end : ℕ) → text ≡ before ++ (here ++ behind) → start ≡ length before
    → end ≡ length before + length here → slice_range text start end ≡ here
part-is before here behind text start end is first last =
    let wide : end - start ≡ length here = omega (arith, first, last) in
    ap₂ (λ n l. take n l) wide
    (ap₂ (λ n l. drop n l) first is ∙ drop-append_seam before (here ++ behind))
    ∙ take-append_seam here behind

-- the text from `start` on, where the bytes `here` stand before the scalars of the marks and behind the last break
signed-is : (mark : List ℕ) (ms : List Marked) (before here text : List ℕ) (start at : ℕ) → text ≡ before ++ (here ++ text_of ms)
    → start ≡ length before → at ≡ length before + length here
    → signed_from mark text start (breaks_from at ms) ≡ here ++ flat_map (signed mark) ms
signed-is mark [] before here text start at is first last =
    ap₂ (λ n l. drop n l) first is ∙ drop-append_seam before (here ++ [])
signed-is mark (m ∷ ms) before here text start at is first last =
    let bytes = encode_utf8 m.scalar in
    let end = at + length bytes in
    let more : text ≡ before ++ ((here ++ bytes) ++ text_of ms) = is ∙ ap (λ l. before ++ l) (sym (append_assoc here bytes (text_of ms))) in
    let wide : length (here ++ bytes) ≡ length here + length bytes = length-append here bytes in
    let far : end ≡ length before + length (here ++ bytes) = omega (arith, wide, last) in
    let beyond : text ≡ (before ++ (here ++ bytes)) ++ ([] ++ text_of ms) = more ∙ sym (append_assoc before (here ++ bytes) (text_of ms)) in
    let seam : end ≡ length (before ++ (here ++ bytes)) = omega (arith, far, length-append before (here ++ bytes)) in
    let further : signed_from mark text end (breaks_from end ms) ≡ flat_map (signed mark) ms =
    signed-is mark ms (before ++ (here ++ bytes)) [] text end end beyond seam (omega (arith, seam)) in
    let piece : slice_range text start end ≡ here ++ bytes = part-is before (here ++ bytes) (text_of ms) text start end more first far in
    let regroup : (tail rest : List ℕ) → (here ++ bytes) ++ (tail ++ rest) ≡ here ++ ((bytes ++ tail) ++ rest) =
    λ tail rest. append_assoc here bytes (tail ++ rest) ∙ ap (λ l. here ++ l) (sym (append_assoc bytes tail rest)) in
    elim m.after.kind as (λ k. signed_from mark text start
    (if is_no k then breaks_from end ms else record { at = end; kind = k; rule = m.after.rule } ∷ breaks_from end ms)
    ≡ here ++ ((bytes ++ sign mark k) ++ flat_map (signed mark) ms)) [
      | No ↦ signed-is mark ms before (here ++ bytes) text start end more first far ∙ regroup [] (flat_map (signed mark) ms)
      | May ↦ ap₂ (λ l r. l ++ (sign mark May ++ r)) piece further ∙ regroup (sign mark May) (flat_map (signed mark) ms)
      | Must ↦ ap₂ (λ l r. l ++ (sign mark Must ++ r)) piece further ∙ regroup (sign mark Must) (flat_map (signed mark) ms)
    ]

-- the breaks after some marks stand one behind another
cut-is : (ms : List Marked) (start at len : ℕ) → start ≤ at → at + length (text_of ms) ≤ len → IsCut start len (breaks_from at ms)
cut-is [] start at len first last = omega (arith, first, last)
cut-is (m ∷ ms) start at len first last =
    let end = at + length (encode_utf8 m.scalar) in
    let wide = length-append (encode_utf8 m.scalar) (text_of ms) in
    let near : start ≤ end = omega (arith, first) in
    let within : end ≤ len = omega (arith, wide, last) in
    let room : end + length (text_of ms) ≤ len = omega (arith, wide, last) in
    let further : IsCut end len (breaks_from end ms) = cut-is ms end end len (omega arith) room in
    elim m.after.kind as (λ k. IsCut start len
    (if is_no k then breaks_from end ms else record { at = end; kind = k; rule = m.after.rule } ∷ breaks_from end ms)) [
      | No ↦ cut-is ms start end len near room
      | May ↦ (near, within, further)
      | Must ↦ (near, within, further)
    ]

-- so do the first of them
pub cut-front : (at len : ℕ) (bs more : List Break) → IsCut at len (bs ++ more) → IsCut at len bs
cut-front at len [] more cut = before at more cut
  where
    before : (at : ℕ) (bs : List Break) → IsCut at len bs → at ≤ len
    before at [] cut = cut
    before at (b ∷ bs) cut = let rest = before b.at bs cut.2 in omega (arith, cut.0, rest)
cut-front at len (b ∷ bs) more cut = (cut.0, cut.1, cut-front b.at len bs more cut.2)

module _ (profile : Profile) (cell : ℕ → Cell) (text : List ℕ) (utf8 : IsUtf8 text) where
  scalars_are : scalars_of (marks profile cell (chars text)) ≡ chars text
  scalars_are = scalars-behind profile cell [] (chars text)

  text_is : text_of (marks profile cell (chars text)) ≡ text
  text_is = ap encode_utf8_all scalars_are ∙ encodes-chars text utf8

  pub text_cut : IsCut 0 (length text) (breaks profile cell (chars text))
  text_cut = cut-is (marks profile cell (chars text)) 0 0 (length text) (omega arith) (omega (arith, ap length text_is))

  pub text_signed : (mark : List ℕ) → signed_from mark text 0 (breaks profile cell (chars text)) ++ missing_line_end cell (chars text)
      ≡ signed_passage mark cell (marks profile cell (chars text))
  text_signed mark = ap₂ (λ l cs. l ++ missing_line_end cell cs)
      (signed-is mark (marks profile cell (chars text)) [] [] text 0 0 (sym text_is) refl refl) (sym scalars_are)

-- a line must end behind the text of a passage, and no sign stands there
must-sign : (mark : List ℕ) (k : Kind) → is_must k ≡ true → sign mark k ≡ []
must-sign mark No must = cc
must-sign mark May must = cc
must-sign mark Must must = refl

signed-ended : (mark : List ℕ) (end : Verdict) (ms : List Marked) → IsClosed ends_passage ms → is_must end.kind ≡ true
    → flat_map (signed mark) (ended end ms) ≡ flat_map (signed mark) ms
signed-ended mark end [] closed must = refl
signed-ended mark end (m ∷ []) closed must =
    ap (λ l. (encode_utf8 m.scalar ++ l) ++ []) (must-sign mark end.kind must ∙ sym (must-sign mark m.after.kind closed))
signed-ended mark end (m ∷ n ∷ ms) closed must = ap (λ l. signed mark m ++ l) (signed-ended mark end (n ∷ ms) closed must)

must_end : (end : Verdict) (ms : List Marked) → IsPart ends_passage (ended end ms) → is_must end.kind ≡ true
must_end end [] part = absurd part
must_end end (m ∷ []) part = part
must_end end (m ∷ n ∷ []) part = part.1
must_end end (m ∷ n ∷ o ∷ ms) part = must_end end (n ∷ o ∷ ms) part.1

-- what is written of a passage, by its text alone
pub passage_signed : (mark : List ℕ) (s : State) (ms : List Marked) (p : Passage) (cell : ℕ → Cell) (profile : Profile) → s.cell ≡ cell → s.profile ≡ profile
    → IsPassage s ms p → is_must p.end.kind ≡ true
    → signed_passage mark cell (marks profile cell (chars p.text.now)) ≡ signed_passage mark cell ms
passage_signed mark s ms p cell profile cell_is profile_is of must =
    let cs = chars p.text.now in
    let scalars_of_it : cs ≡ scalars_of ms = sym (chars_from_encodes (scalars_of ms) p.text.now of.utf8 (sym of.text)) in
    let all : ended p.end (marks profile cell cs) ≡ ms =
    ap (λ l. ended p.end (marks profile cell l)) scalars_of_it
    ∙ ap₂ (λ f g. ended p.end (marks f g (scalars_of ms))) (sym profile_is) (sym cell_is) ∙ sym of.alone in
    ap₂ (λ l cs. l ++ missing_line_end cell cs) (sym (signed-ended mark p.end (marks profile cell cs) (marks-closed profile cell [] cs) must) ∙ ap (flat_map (signed mark)) all)
    (scalars-behind profile cell [] cs ∙ scalars_of_it)

-- a line must end behind a passage that was lent
pub lent_must : (s t : State) (p : Passage) → Lends s t p → is_must p.end.kind ≡ true
lent_must s t p lends = must_end p.end (marks s.profile s.cell (scalars_of lends.marks)) (subst (IsPart ends_passage) lends.passage.alone ends)
  where
    ends : IsPart ends_passage lends.marks
    ends = ⊎_elim
        (λ (h : GoesOn t lends.marks t.held).
        (subst (AllByRecursion (IsPart ends_passage)) (h.first []) (passages-end t.profile t.cell (scalars_of lends.marks ++ h.next ∷ []))).0)
        (λ (h : IsLast t lends.marks t.held).
        (subst (AllByRecursion (IsPart ends_passage)) h.first (passages-end t.profile t.cell (scalars_of lends.marks))).0)
        lends.comes.follows
