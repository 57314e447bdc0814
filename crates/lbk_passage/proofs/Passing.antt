-- How far scalars of a piece belong to its paragraph, one more of them at a time.
use Rattle.std.proofs.Common.{◌≡◌, ℕ, ◌+◌, ◌-◌, ◌<◌, ◌≤◌, Bool, true, false, ◌&&◌, not, List, [], ◌∷◌, ◌++◌, length, take, drop, Option, None, Some, encode_utf8, encode_utf8_all, IsUtf8, IsCharBoundary, chars, slice_index_or, refl, sym, ap, subst, ◌∙◌, arith, inl, inr, append_assoc, append-nil, length-append, length-drop}
use Rattle.std.specs.Char.{IsScalar}
use Rattle.std.proofs.Math.Seq.{take-append_seam}
use Rattle.std.proofs.Math.Utf8.{scalars}
use Rattle.std.proofs.lemmas.Bool.{cases_lt, false≢true}
use Rattle.std.proofs.lemmas.List.{drop_more, get_or-drop, get_or_append_left, length-take-le, take-append-drop}
use Rattle.std.proofs.lemmas.Str.{encode_ascii, encode_same, encodes-append, encodes-chars, encodes_same, IsCharBoundary-at_seam, IsCharBoundary-from_drop, IsUtf8-between, IsUtf8-encode, IsUtf8-take}
use Rattle.lbk_masks.specs.Sets.{is_set}
use Rattle.lbk_rules.specs.Classes.{CR, LF}
use Rattle.lbk_rules.specs.FirstBytes.{first_byte}
use Rattle.lbk_rules.specs.declared.Class.{Class}
use Rattle.lbk_rules.specs.declared.Cell.{Cell}
use Rattle.lbk_passage.proofs.ReadLemmas.{reads}
use Rattle.lbk_passage.specs.Gathering.{Reaches, StopsBefore}
use Rattle.lbk_rules.specs.Ends.{ends_line}
use Rattle.lbk_passage.specs.Flags.{AreCalm, AreQuiet, ArePassed, Passes, is_end}
use Rattle.lbk_passage.specs.Stays.{ends_at, last_class}
use Rattle.lbk_passage.specs.declared.reach.Reach.{Reach}
use Rattle.lbk_passage.proofs.Booleans.{both-left, both-right}
use Rattle.lbk_passage.proofs.FlagLemmas.{some_bytes}
use Rattle.lbk_passage.proofs.Staying.{stays-snoc, last_class-append, length-encode_more}

-- no line must end before a scalar where none must behind the one before it
pub calm : (last : Option Class) (next : Class) → is_end last ≡ false → ends_at last next ≡ false
calm None next quiet = refl
calm (Some last) next quiet = ap (λ b. b && not (CR last && LF next)) quiet

-- a scalar begins at a byte that is not quiet
pub place-loud : (cell : ℕ → Cell) (is_quiet : List Bool) (piece : List ℕ) (k : ℕ) → AreQuiet cell is_quiet → k ≤ length piece
    → slice_index_or is_quiet (slice_index_or piece k 0) false ≡ false → IsCharBoundary piece k
place-loud cell is_quiet piece k are within loud = (
  within,
  λ below high. elim (cases_lt (slice_index_or piece k 0) 192) [
    | inl low ↦ absurd (false≢true (sym loud ∙ are.later (slice_index_or piece k 0) high low))
    | inr enough ↦ enough
  ],
)

-- where bytes were passed up to one that is not quiet, or up to a place where a scalar begins, one begins
pub place-passed : (cell : ℕ → Cell) (is_quiet : List Bool) (piece : List ℕ) (k end : ℕ) → AreQuiet cell is_quiet → IsCharBoundary piece end → k ≤ end
    → (k < end → slice_index_or is_quiet (slice_index_or piece k 0) false ≡ false) → IsCharBoundary piece k
place-passed cell is_quiet piece k end are place within stops = elim (cases_lt k end) [
  | inl less ↦ place-loud cell is_quiet piece k are (omega (arith, within, place.0)) (stops less)
  | inr enough ↦ let same : end ≡ k = omega (arith, enough, within) in subst (IsCharBoundary piece) same place
]

-- the byte at which a scalar stands
begins-at : (piece : List ℕ) (k c : ℕ) (more : List ℕ) → drop k piece ≡ encode_utf8 c ++ more → slice_index_or piece k 0 ≡ first_byte c
begins-at piece k c more splits =
    let here : k ≡ k + 0 = omega arith in
    ap (λ n. slice_index_or piece n 0) here ∙ sym (get_or-drop k piece 0 0) ∙ ap (λ l. slice_index_or l 0 0) splits
    ∙ get_or_append_left (encode_utf8 c) more 0 0 (some_bytes c)

-- no line must end behind the scalars that begin with quiet bytes
pub calm-passed : (cell : ℕ → Cell) (is_quiet : List Bool) (piece : List ℕ) (start end : ℕ) → AreQuiet cell is_quiet
    → ArePassed is_quiet piece start end → AreCalm cell piece start end
calm-passed cell is_quiet piece start end are passed k c more from to scalar splits =
    are.first c scalar (ap (λ b. slice_index_or is_quiet b false) (sym (begins-at piece k c more splits)) ∙ passed k from to)

-- nor behind these, and then those
pub calm-joined : (cell : ℕ → Cell) (piece : List ℕ) (start seam end : ℕ) → AreCalm cell piece start seam → AreCalm cell piece seam end
    → AreCalm cell piece start end
calm-joined cell piece start seam end these those k c more from to scalar splits = elim (cases_lt k seam) [
  | inl before ↦ these k c more from before scalar splits
  | inr behind ↦ those k c more (omega (arith, behind)) to scalar splits
]

-- nor behind one that begins with a quiet byte
pub calm-quiet : (cell : ℕ → Cell) (is_quiet : List Bool) (piece : List ℕ) (at : ℕ) → AreQuiet cell is_quiet
    → slice_index_or is_quiet (slice_index_or piece at 0) false ≡ true → AreCalm cell piece at (at + 1)
calm-quiet cell is_quiet piece at are quiet = calm-passed cell is_quiet piece at (at + 1) are
    (λ k from to. let same : k ≡ at = omega (arith, from, to) in ap (λ n. slice_index_or is_quiet (slice_index_or piece n 0) false) same ∙ quiet)

-- nor behind those that begin at bytes whose bits are not set
pub calm-block : (cell : ℕ → Cell) (piece : List ℕ) (start left count : ℕ)
    → ((i : ℕ) → i < 64 → is_set left i ≡ false → AreCalm cell piece (start + i) (start + i + 1))
    → count ≤ 64 → ((i : ℕ) → i < count → is_set left i ≡ false) → AreCalm cell piece start (start + count)
calm-block cell piece start left count each few none k c more from to scalar splits =
    each (k - start) (omega (arith, to, few, from)) (none (k - start) (omega (arith, to, from))) k c more (omega (arith, from)) (omega (arith, from)) scalar splits

-- nor behind the one that was read at a place
pub calm-read : (cell : ℕ → Cell) (piece : List ℕ) (at c : ℕ) (more : List ℕ) → drop at piece ≡ encode_utf8 c ++ more
    → ends_line (cell c).class ≡ false → AreCalm cell piece at (at + 1)
calm-read cell piece at c more splits none k d rest from to scalar other =
    let same : k ≡ at = omega (arith, from, to) in
    let it = encode_same c d more rest (sym splits ∙ ap (λ n. drop n piece) (sym same) ∙ other) in
    ap (λ x. ends_line (cell x).class) (sym it.0) ∙ none

-- a scalar of one byte at the front of a text
pub chars-byte : (text : List ℕ) → IsUtf8 text → 0 < length text → slice_index_or text 0 0 < 128
    → chars text ≡ slice_index_or text 0 0 ∷ chars (drop 1 text)
chars-byte text utf8 some ascii =
    let byte = slice_index_or text 0 0 in
    (reads text (drop 1 text) 0 byte utf8 (IsCharBoundary-from_drop text 0 (omega arith) utf8)
    (drop_more text 0 0 some ∙ ap (λ l. l ++ drop 1 text) (sym (encode_ascii byte ascii)))).begins

-- a scalar that stands before a place where one begins ends there or before
fits : (piece : List ℕ) → IsUtf8 piece → (len next c : ℕ) (more : List ℕ) → IsCharBoundary piece len → IsCharBoundary piece next → len < next
    → drop len piece ≡ encode_utf8 c ++ more → len + length (encode_utf8 c) ≤ next
fits piece utf8 len next c more here there before splits =
    let text = IsUtf8-between piece len next utf8 (omega arith) here there in
    let size : length (take (next - len) (drop len piece)) ≡ next - len =
    length-take-le (next - len) (drop len piece) (omega (arith, length-drop len piece, there.0)) in
    first_of text.0 text.1.1 size
  where
    first_of : (ds : List ℕ) → encode_utf8_all ds ≡ take (next - len) (drop len piece) → length (take (next - len) (drop len piece)) ≡ next - len
        → len + length (encode_utf8 c) ≤ next
    first_of [] spelt size = let none : 0 ≡ next - len = ap length spelt ∙ size in absurd (let impossible : ⊥ = omega (arith, none) in impossible)
    first_of (d ∷ ds) spelt size =
        let whole : drop len piece ≡ encode_utf8 d ++ (encode_utf8_all ds ++ drop (next - len) (drop len piece)) =
        sym (take-append-drop (next - len) (drop len piece)) ∙ ap (λ l. l ++ drop (next - len) (drop len piece)) (sym spelt)
        ∙ append_assoc (encode_utf8 d) (encode_utf8_all ds) (drop (next - len) (drop len piece)) in
        let same = encode_same c d more (encode_utf8_all ds ++ drop (next - len) (drop len piece)) (sym splits ∙ whole) in
        let long : length (encode_utf8 d) + length (encode_utf8_all ds) ≡ next - len =
        sym (length-append (encode_utf8 d) (encode_utf8_all ds)) ∙ ap length spelt ∙ size in
        omega (arith, ap (λ x. length (encode_utf8 x)) same.0, long)

module _ {cell : ℕ → Cell} {first : Option Class} {piece : List ℕ} {room : ℕ} (utf8 : IsUtf8 piece) where
  -- one more scalar
  pub Passes-more : {len : ℕ} {last : Option Class} {c : ℕ} (more : List ℕ) → Passes cell first piece room len last
      → drop len piece ≡ encode_utf8 c ++ more → ends_at last (cell c).class ≡ false → length piece - length more ≤ room
      → Passes cell first piece room (length piece - length more) (Some (cell c).class)
  Passes-more {len} {last} {c} more passes splits none within =
      let r = reads piece more len c utf8 passes.place splits in
      record {
        taken = passes.taken ++ c ∷ [];
        all = passes.all ∙ ap (λ l. passes.taken ++ l) (r.begins ∙ ap (λ l. c ∷ chars l) (sym r.rest))
            ∙ sym (append_assoc passes.taken (c ∷ []) (chars (drop (length piece - length more) piece)));
        len_is = omega (arith, r.next_is, passes.len_is, length-encode_more passes.taken c);
        place = r.place;
        within = within;
        none_ends = stays-snoc cell first passes.taken c passes.none_ends (ap (λ k. ends_at k (cell c).class) (sym passes.last_is) ∙ none);
        last_is = sym (last_class-append cell first passes.taken (c ∷ []));
      }

  -- none yet
  pub Passes-none : Passes cell first piece room 0 first
  Passes-none = record {
    taken = [];
    all = refl;
    len_is = refl;
    place = IsCharBoundary-from_drop piece 0 (omega arith) utf8;
    within = omega arith;
    none_ends = refl;
    last_is = refl;
  }

  -- the scalars up to there are those of the bytes up to there
  taken-is : (len : ℕ) (last : Option Class) (passes : Passes cell first piece room len last) → encode_utf8_all passes.taken ≡ take len piece
  taken-is len last passes =
      let left = encode_utf8_all passes.taken in
      let right = encode_utf8_all (chars (drop len piece)) in
      let parts : piece ≡ left ++ right =
      sym (encodes-chars piece utf8) ∙ ap encode_utf8_all passes.all ∙ encodes-append passes.taken (chars (drop len piece)) in
      sym (take-append_seam left right) ∙ ap (take (length left)) (sym parts) ∙ ap (λ n. take n piece) (sym passes.len_is)

  -- the last of them is the scalar at the end of these bytes
  pub Passes-last : (len : ℕ) (last : Option Class) (rest : List ℕ) (c : ℕ) → Passes cell first piece room len last → IsScalar c
      → take len piece ≡ rest ++ encode_utf8 c → Passes cell first piece room len (Some (cell c).class)
  Passes-last len last rest c passes is splits =
      let seam = IsCharBoundary-at_seam (take len piece) rest (encode_utf8 c) splits (IsUtf8-encode c is) in
      let text = subst IsUtf8 (ap (take (length rest)) splits ∙ take-append_seam rest (encode_utf8 c))
      (IsUtf8-take (take len piece) (length rest) (IsUtf8-take piece len utf8 passes.place) seam) in
      let spelt : encode_utf8_all (chars rest ++ c ∷ []) ≡ rest ++ encode_utf8 c =
      encodes-append (chars rest) (c ∷ []) ∙ ap (λ l. l ++ encode_utf8_all (c ∷ [])) (encodes-chars rest text) ∙ ap (λ l. rest ++ l) (append-nil (encode_utf8 c)) in
      let same : passes.taken ≡ chars rest ++ c ∷ [] =
      encodes_same passes.taken (chars rest ++ c ∷ []) (taken-is len last passes ∙ splits ∙ sym spelt) in
      subst (Passes cell first piece room len)
      (passes.last_is ∙ ap (last_class cell first) same ∙ last_class-append cell first (chars rest) (c ∷ []))
      passes

  -- all scalars up to a place where one begins, where a line must end behind none
  pub Passes-calm : (next : ℕ) → IsCharBoundary piece next → next ≤ room
      → (cs : List ℕ) (len : ℕ) (last : Option Class) → Passes cell first piece room len last → is_end last ≡ false
      → scalars cs ≡ true → drop len piece ≡ encode_utf8_all cs → len ≤ next → AreCalm cell piece len next
      → (final : Option Class) × Passes cell first piece room next final
  Passes-calm next there within [] len last passes calm_last all splits before calm_here =
      let none : 0 ≡ length piece - len = sym (ap length splits) ∙ length-drop len piece in
      let same : len ≡ next = omega (arith, none, there.0) in
      (last, subst (λ n. Passes cell first piece room n last) same passes)
  Passes-calm next there within (c ∷ cs) len last passes calm_last all splits before calm_here = elim (cases_lt len next) [
    | inl less ↦
        let more = encode_utf8_all cs in
        let r = reads piece more len c utf8 passes.place splits in
        let quiet = calm_here len c more (omega arith) less (both-left _ _ all) splits in
        let ends = fits piece utf8 len next c more passes.place there less splits in
        let at : length piece - length more ≤ next = omega (arith, r.next_is, ends) in
        Passes-calm next there within cs (length piece - length more) (Some (cell c).class)
        (Passes-more more passes splits (calm last (cell c).class calm_last) (omega (arith, at)))
        quiet (both-right _ _ all) r.rest at
        (λ k d rest from to. calm_here k d rest (omega (arith, from, r.next_is)) to)
    | inr not_less ↦ let same : len ≡ next = omega (arith, not_less) in (last, subst (λ n. Passes cell first piece room n last) same passes)
  ]

  -- and no more
  pub Passes-stops : {len : ℕ} {last : Option Class} (r : Reach) → Passes cell first piece room len last
      → (r.len ≡ len) × (r.last ≡ last) → StopsBefore cell last len room r.stop (chars (drop len piece)) → Reaches cell first piece room r
  Passes-stops {len} r passes same stops = record {
    taken = passes.taken;
    rest = chars (drop len piece);
    all = passes.all;
    len = same.0 ∙ passes.len_is;
    within = omega (arith, same.0, passes.within);
    none_ends = passes.none_ends;
    last_is = same.1 ∙ passes.last_is;
    stop = rw (same.0, same.1) stops;
  }
