-- The chunks to come, from call to call.
use Rattle.std.proofs.Common.{◌≡◌, ℕ, ◌+◌, ◌<◌, ◌≤◌, ⊎_elim, Bool, true, false, ◌||◌, List, [], ◌∷◌, ◌++◌, length}
use Rattle.std.proofs.Common.{Option, None, Some, Result, Ok, Err, IsUtf8, encode_utf8, encode_utf8_all, append_assoc}
use Rattle.std.proofs.Common.{append-nil, refl, sym, ap, ap₂, subst, ◌∙◌, arith, length-append}
use Rattle.std.proofs.lemmas.Bool.{false≢true}
use Rattle.std.proofs.lemmas.List.{append_cancel_left}
use Rattle.std.proofs.lemmas.Str.{IsUtf8-append, IsUtf8-nil, encodes-append, encode_same, length-encode}
use Rattle.std.proofs.lemmas.Str.{len_utf8_bounds}
use Rattle.lbk_feed.specs.Devices.{Reads}
use Rattle.lbk_feed.specs.Runs.{Took}
use Rattle.lbk_feed.specs.Text.{longest_text}
use Rattle.lbk_feed.proofs.Taking.{Consumes-nil, Took-then, begun_took, kept_took, told_took}
use Rattle.lbk_rules.specs.declared.Cell.{Cell}
use Rattle.lbk_values.specs.declared.profile.Profile.{Profile}
use Rattle.lbk_chunks.specs.declared.chunk.Chunk.{Chunk}
use Rattle.lbk_chunks.specs.declared.chunk.Limits.{Limits}
use Rattle.lbk_chunks.specs.declared.cut.Cut.{Cut}
use Rattle.lbk_chunks.specs.declared.chunk.Here.{Here}
use Rattle.lbk_chunks.specs.Chunks.{end_of, AreChunks, cuts_past, text_start}
use Rattle.lbk_chunks.specs.Cuts.{AreCutsPast}
use Rattle.lbk_passage.specs.Marks.{Marked, scalars_of, text_of}
use Rattle.lbk_passage.specs.Next.{AfterNext, GoesOn, IsDone, IsLast, IsPassage, Lends, lent_text}
use Rattle.lbk_passage.specs.Passages.{passages}
use Rattle.lbk_passage.specs.Pieces.{pieces_of}
use Rattle.lbk_passage.specs.Segments.{segments_of}
use Rattle.lbk_passage.specs.State.{State, new_state}
use Rattle.lbk_passage.specs.declared.faults.PassageFault.{PassageFault}
use Rattle.lbk_passage.specs.declared.faults.PassageFault.TheVariants as fault
use Rattle.lbk_passage.specs.declared.passage.Passage.{Passage}
use Rattle.lbk_chunk_reader.specs.PassageWords.{words_in_pieces}
use Rattle.lbk_chunk_reader.specs.declared.window.Window.{Window}
use Rattle.lbk_chunk_reader.specs.Between.{AreCutsBetween}
use Rattle.lbk_chunk_reader.specs.Choosing.{IsNextChunk}
use Rattle.lbk_chunk_reader.specs.Cuts.{cuts_between, cuts_of_passages}
use Rattle.std.specs.Prelude.{IfSome}
use Rattle.lbk_chunk_reader.specs.declared.cut.Chunk as given
use Rattle.lbk_chunk_reader.specs.Numbered.{numbered_chunk}
use Rattle.lbk_chunk_reader.specs.Reader.{ChunksCome, Goes, HasGiven, IsStopped, MayCome, View, cuts_with, new_view}
use Rattle.lbk_chunk_reader.specs.Standing.{Stands, view_with}
use Rattle.lbk_chunk_reader.specs.Window.{IsNewWindow, IsTaken, cuts_in}
use Rattle.lbk_chunk_reader.proofs.BetweenLemmas.{AreUpTo, between-append, between-left, between-past, between-up_to}
use Rattle.lbk_chunk_reader.proofs.BetweenLemmas.{end-up_to, past-up_to, passage-between, passages-rising}
use Rattle.lbk_chunk_reader.proofs.StartingLemmas.{next-chunks, next-told}
use Rattle.lbk_chunk_reader.proofs.WordLemmas.{text-words-few}

-- Calls one behind the other

pub given-none : (v : View) → HasGiven v v [] [] []
given-none v = record {
  bytes = sym (append-nil v.passages.held);
  utf8 = IsUtf8-nil;
  ended = λ at_end. (refl, at_end);
  chunks = λ behind more later may come. come;
}

module _ (a b c : View) (g1 g2 s1 s2 : List ℕ) (c1 c2 : List Chunk) (first : HasGiven a b g1 s1 c1)
    (second : HasGiven b c g2 s2 c2) where
  bytes-then : encode_utf8_all (s1 ++ s2) ++ c.passages.held ≡ a.passages.held ++ (g1 ++ g2)
  bytes-then =
      ap (λ l. l ++ c.passages.held) (encodes-append s1 s2)
      ∙ append_assoc (encode_utf8_all s1) (encode_utf8_all s2) c.passages.held
      ∙ ap (λ l. encode_utf8_all s1 ++ l) second.bytes ∙ sym (append_assoc (encode_utf8_all s1) b.passages.held g2)
      ∙ ap (λ l. l ++ g2) first.bytes ∙ append_assoc a.passages.held g1 g2

  may-then : (behind more : List ℕ) → MayCome c behind more → MayCome b (s2 ++ behind) (g2 ++ more)
  may-then behind more may = record {
    bytes = encodes-append s2 behind ∙ ap (λ l. encode_utf8_all s2 ++ l) may.bytes
        ∙ sym (append_assoc (encode_utf8_all s2) c.passages.held more)
        ∙ ap (λ l. l ++ more) second.bytes ∙ append_assoc b.passages.held g2 more;
    utf8 = subst IsUtf8 (sym (encodes-append s2 behind))
        (IsUtf8-append (encode_utf8_all s2) (encode_utf8_all behind) second.utf8 may.utf8);
    ended = λ at_end. (let then = second.ended at_end in ap₂ (λ x y. x ++ y) then.0 (may.ended then.1));
  }

  pub given-then : HasGiven a c (g1 ++ g2) (s1 ++ s2) (c1 ++ c2)
  given-then = record {
    bytes = bytes-then;
    utf8 = subst IsUtf8 (sym (encodes-append s1 s2))
        (IsUtf8-append (encode_utf8_all s1) (encode_utf8_all s2) first.utf8 second.utf8);
    ended = λ at_end. (
        let then = first.ended at_end in
        let last = second.ended then.1 in
        (ap₂ (λ x y. x ++ y) then.0 last.0, last.1));
    chunks = λ behind more later may come.
        subst (λ l. ChunksCome a (s1 ++ s2 ++ behind) l) (sym (append_assoc c1 c2 later))
        (subst (λ l. ChunksCome a l (c1 ++ (c2 ++ later))) (sym (append_assoc s1 s2 behind))
        (first.chunks (s2 ++ behind) (g2 ++ more) (c2 ++ later) (may-then behind more may)
        (second.chunks behind more later may come)));
  }

pub goes-none : (v : View) (u : Option (List ℕ)) → Goes v v false u u []
goes-none v u = record { got = []; scalars = []; took = Consumes-nil u; given = given-none v }

pub goes-then : (a b c : View) (failed : Bool) (u v w : Option (List ℕ)) (c1 c2 : List Chunk) → Goes a b false u v c1
    → Goes b c failed v w c2 → Goes a c failed u w (c1 ++ c2)
goes-then a b c failed u v w c1 c2 first second = record {
  got = first.got ++ second.got;
  scalars = first.scalars ++ second.scalars;
  took = Took-then failed u v w first.got second.got first.took second.took;
  given = given-then a b c first.got second.got first.scalars second.scalars c1 c2 first.given second.given;
}

pub stopped-then : (a b c : View) (u v w : Option (List ℕ)) (why : PassageFault) → Goes a b false u v []
    → IsStopped b c v w false why → IsStopped a c u w false why
stopped-then a b c u v w fault.Limit first then = (goes-then a b c false u v w [] [] first then.0, then.1)
stopped-then a b c u v w fault.Memory first then = tt
stopped-then a b c u v w fault.Read first then = (goes-then a b c true u v w [] [] first then.0, then.1)
stopped-then a b c u v w (fault.NotUtf8 at) first then = (goes-then a b c false u v w [] [] first then.0, then.1)
stopped-then a b c u v w fault.TextTooLong first then = (goes-then a b c false u v w [] [] first then.0, then.1)
stopped-then a b c u v w (fault.ParagraphTooLong start) first then =
    (goes-then a b c false u v w [] [] first then.0, then.1)
stopped-then a b c u v w fault.Spent first then = absurd (false≢true then)

-- A step of the segmenter

some-bytes : (c : ℕ) → 1 ≤ length (encode_utf8 c)
some-bytes c = let bounds = len_utf8_bounds c in omega (arith, length-encode c, bounds.0)

pub no-scalars : (cs : List ℕ) → encode_utf8_all cs ≡ [] → cs ≡ []
no-scalars [] none = refl
no-scalars (c ∷ cs) none = absurd (let no : ⊥ = omega (
  arith,
  some-bytes c,
  ap length none,
  length-append (encode_utf8 c) (encode_utf8_all cs),
) in no)

module _ (s t : State) (u v : Option (List ℕ)) (e1 e2 : Bool) (r1 r2 : Reads) where
  -- a passage was lent
  module _ (p : Passage) (a : AfterNext s t u v e1 e2 r1 r2 (Ok (Some p))) where
    lent : Lends s t p
    lent = a.answer

    -- it comes first in what is to come
    first-passage : (behind more : List ℕ) → encode_utf8_all behind ≡ t.held ++ more → (t.is_ended ≡ true → more ≡ [])
        → passages t.profile t.cell (scalars_of lent.marks ++ behind) ≡ lent.marks ∷ passages t.profile t.cell behind
    unfolding lent passages
    first-passage [] more bytes ended = ⊎_elim
        (λ (g : GoesOn t lent.marks t.held). absurd
        (let no : ⊥ = omega (
          arith,
          some-bytes g.next,
          ap length bytes,
          ap length g.bytes,
          length-append t.held more,
          length-append (encode_utf8 g.next) g.rest,
        ) in no))
        (λ (g : IsLast t lent.marks t.held). ap (passages t.profile t.cell) (append-nil (scalars_of lent.marks))
        ∙ g.first ∙ none-left)
        lent.comes.follows
      where
        none-left : lent.marks ∷ [] ≡ lent.marks ∷ passages t.profile t.cell []
        none-left = refl
    first-passage (c ∷ cs) more bytes ended = ⊎_elim
        (λ (g : GoesOn t lent.marks t.held).
        let same = encode_same c g.next (encode_utf8_all cs) (g.rest ++ more) (bytes ∙ ap (λ l. l ++ more) g.bytes
        ∙ append_assoc (encode_utf8 g.next) g.rest more) in
        ap (λ x. passages t.profile t.cell (scalars_of lent.marks ++ x ∷ cs)) same.0 ∙ g.first cs
        ∙ ap (λ x. lent.marks ∷ passages t.profile t.cell (x ∷ cs)) (sym same.0))
        (λ (g : IsLast t lent.marks t.held). absurd
        (let no : ⊥ = omega (
          arith,
          some-bytes c,
          ap length (bytes ∙ ap₂ (λ x y. x ++ y) g.none (ended g.at_end)),
          length-append (encode_utf8 c) (encode_utf8_all cs),
        ) in no))
        lent.comes.follows

chunks-same : (l l' : Limits) (cuts cuts' : List Cut) (h h' : Here) (later : List Chunk) → l' ≡ l → cuts ≡ cuts'
    → h' ≡ h → AreChunks l' cuts' h' later → AreChunks l cuts h later
chunks-same l l' cuts cuts' h h' later limits same here are =
    subst (λ x. AreChunks x cuts h later) limits
    (subst (λ x. AreChunks l' x h later) (sym same) (subst (λ x. AreChunks l' cuts' x later) here are))

module _ (s t : State) (u v : Option (List ℕ)) (e1 e2 : Bool) (r1 r2 : Reads) (w : Window) where
  -- the cuts of a passage that was lent were taken
  module _ (w' : Window) (p : Passage) (a : AfterNext s t u v e1 e2 r1 r2 (Ok (Some p))) (k : IsTaken p w w') where
    ms : List Marked
    ms = (lent s t u v e1 e2 r1 r2 p a).marks

    is-passage : IsPassage s ms p
    unfolding ms
    is-passage = (lent s t u v e1 e2 r1 r2 p a).passage

    start-is : p.start ≡ s.start
    unfolding lent
    start-is = (lent s t u v e1 e2 r1 r2 p a).start

    pieces-are : p.pieces.now ≡ pieces_of s.cell (text_of ms)
    pieces-are = is-passage.pieces

    cuts-are : cuts_in w' ≡ cuts_in w ++ cuts_between s.start w.words (segments_of ms) (pieces_of s.cell (text_of ms))
    cuts-are =
        k.cuts ∙ ap (λ n. cuts_in w ++ cuts_between n w.words p.segments.now p.pieces.now) start-is
        ∙ ap₂ (λ x y. cuts_in w ++ cuts_between s.start w.words x y) is-passage.segments pieces-are

    words-are : w'.words ≡ w.words + length (words_in_pieces s.start (pieces_of s.cell (text_of ms)))
    words-are = k.words ∙ ap₂ (λ n x. w.words + length (words_in_pieces n x)) start-is pieces-are

    ends-at : t.start ≡ s.start + length (text_of ms)
    ends-at = a.start ∙ ap (λ l. s.start + length l) is-passage.text

    same-cuts : (behind more : List ℕ) → MayCome (view_with w' t) behind more
        → cuts_with (view_with w s) (scalars_of ms ++ behind) ≡ cuts_with (view_with w' t) behind
    unfolding ms
    same-cuts behind more may =
        let later = passages t.profile t.cell behind in
        let first = first-passage s t u v e1 e2 r1 r2 p a behind more may.bytes may.ended in
        ap₂ (λ f g. cuts_in w ++ cuts_of_passages s.cell s.start w.words (passages f g (scalars_of ms ++ behind)))
        (sym a.alike.profile) (sym a.alike.cell)
        ∙ ap (λ l. cuts_in w ++ cuts_of_passages s.cell s.start w.words l) (by first)
        ∙ sym (append_assoc (cuts_in w) (cuts_between s.start w.words (segments_of ms) (pieces_of s.cell (text_of ms)))
        (cuts_of_passages s.cell (s.start + length (text_of ms))
        (w.words + length (words_in_pieces s.start (pieces_of s.cell (text_of ms)))) later))
        ∙ ap₂ (λ x n. x ++ cuts_of_passages s.cell n
        (w.words + length (words_in_pieces s.start (pieces_of s.cell (text_of ms)))) later) (sym cuts-are)
        (sym ends-at)
        ∙ ap₂ (λ n f. cuts_in w' ++ cuts_of_passages f t.start n later) (sym words-are) (sym a.alike.cell)
      where
        by : passages t.profile t.cell (scalars_of (lent s t u v e1 e2 r1 r2 p a).marks ++ behind)
            ≡ (lent s t u v e1 e2 r1 r2 p a).marks ∷ passages t.profile t.cell behind
            → passages t.profile t.cell (scalars_of ms ++ behind) ≡ ms ∷ passages t.profile t.cell behind
        by same = same

    pub goes-taken : Goes (view_with w s) (view_with w' t) false u v []
    goes-taken = record {
      got = a.got;
      scalars = scalars_of ms;
      took = kept_took _ _ _ a.grown u v a.ahead_kept;
      given = record {
        bytes = ap (λ l. l ++ t.held) (sym is-passage.text) ∙ a.grown;
        utf8 = subst IsUtf8 is-passage.text is-passage.utf8;
        ended = λ at_end. (
          append_cancel_left s.held a.got [] (sym a.grown ∙ (a.quiet at_end).0
              ∙ sym (append-nil s.held)),
          (a.quiet at_end).1,
        );
        chunks = λ behind more later may come.
            chunks-same w.limits w'.limits (cuts_with (view_with w s) (scalars_of ms ++ behind))
            (cuts_with (view_with w' t) behind) w.here w'.here later
            k.limits (same-cuts behind more may) k.here come;
      };
    }

    pub stands-taken : Stands w s false → Stands w' t false
    stands-taken st =
        let few = text-words-few s.cell s.start (text_of ms) (subst IsUtf8 is-passage.text is-passage.utf8) in
        record {
          unspent = a.spent ∙ ap (λ b. b || false) st.unspent;
          whole = λ no. absurd (false≢true no);
          between = subst (λ (h : _). AreCutsBetween h.start (cuts_in w') t.start) (sym k.here)
              (subst (λ l. AreCutsBetween w.here.start l t.start) (sym cuts-are)
              (subst (AreCutsBetween w.here.start (cuts_in w ++ cuts_between s.start w.words (segments_of ms)
              (pieces_of s.cell (text_of ms)))) (sym ends-at)
              (between-append w.here.start (cuts_in w) s.start
              (cuts_between s.start w.words (segments_of ms) (pieces_of s.cell (text_of ms)))
              (s.start + length (text_of ms))
              st.between (passage-between s.cell s.start w.words ms))));
          told = subst (λ (h : _). h.start ≤ h.told) (sym k.here) st.told;
          words = omega (arith, words-are, ends-at, few, st.words);
        }

    pub rises : (s.start < t.start) × (t.start ≤ longest_text)
    unfolding lent
    rises =
        let l = lent s t u v e1 e2 r1 r2 p a in (
          omega (arith, a.start, l.passage.some, some-text l.marks l.passage.some, ap length l.passage.text),
          omega (arith, a.start, l.counted),
        )
      where
        some-text : (ms : List Marked) → 0 < length ms → 1 ≤ length (text_of ms)
        some-text [] some = absurd (let no : ⊥ = omega (arith, some) in no)
        some-text (m ∷ ms) some = omega (arith, some-bytes m.scalar, length-append (encode_utf8 m.scalar) (text_of ms))

  -- no passage was lent
  module _ (r : Result (Option Passage) PassageFault) (a : AfterNext s t u v e1 e2 r1 r2 r)
      (none : lent_text r ≡ []) where
    same-start : t.start ≡ s.start
    same-start = a.start ∙ ap (λ l. s.start + length l) none ∙ (let e : s.start + 0 ≡ s.start = omega arith in e)

    pub given-still : HasGiven (view_with w s) (view_with w t) a.got [] []
    given-still = record {
      bytes = ap (λ l. l ++ t.held) (sym none) ∙ a.grown;
      utf8 = IsUtf8-nil;
      ended = λ at_end. (
        append_cancel_left s.held a.got [] (sym a.grown ∙ (a.quiet at_end).0
            ∙ sym (append-nil s.held)),
        (a.quiet at_end).1,
      );
      chunks = λ behind more later may come.
          chunks-same w.limits w.limits (cuts_with (view_with w s) behind) (cuts_with (view_with w t) behind) w.here
          w.here later refl
          (ap (λ n. cuts_in w ++ cuts_of_passages s.cell n w.words (passages s.profile s.cell behind)) (sym same-start)
          ∙ ap₂ (λ f g. cuts_in w ++ cuts_of_passages f t.start w.words (passages g f behind)) (sym a.alike.cell)
          (sym a.alike.profile)) refl come;
    }

    pub goes-still : (failed : Bool) → Took failed u v a.got → Goes (view_with w s) (view_with w t) failed u v []
    goes-still failed took = record { got = a.got; scalars = []; took = took; given = given-still }

  pub goes-ended : (a : AfterNext s t u v e1 e2 r1 r2 (Ok None)) → Goes (view_with w s) (view_with w t) false u v []
  goes-ended a = goes-still (Ok None) a refl false (kept_took _ _ _ a.grown u v a.ahead_kept)

  pub ended-start : (a : AfterNext s t u v e1 e2 r1 r2 (Ok None)) → t.start ≡ s.start
  ended-start a = same-start (Ok None) a refl

  pub stands-ended : (a : AfterNext s t u v e1 e2 r1 r2 (Ok None)) → Stands w s false → Stands w t true
  stands-ended a st = record {
    unspent = a.spent ∙ ap (λ b. b || false) st.unspent;
    whole = λ _. a.answer;
    between = subst (AreCutsBetween w.here.start (cuts_in w)) (sym (same-start (Ok None) a refl)) st.between;
    told = st.told;
    words = let same = same-start (Ok None) a refl in omega (arith, same, st.words);
  }

  -- a fault
  pub goes-stopped : (why : PassageFault) (a : AfterNext s t u v e1 e2 r1 r2 (Err why)) → s.is_spent ≡ false
      → IsStopped (view_with w s) (view_with w t) u v false why
  goes-stopped fault.Limit a unspent =
      (goes-still (Err fault.Limit) a refl false (kept_took _ _ _ a.grown u v a.ahead_kept), a.answer)
  goes-stopped fault.Memory a unspent = tt
  goes-stopped fault.Read a unspent = (
    goes-still (Err fault.Read) a refl true
        (begun_took _ _ _ a.grown u a.begins, told_took _ _ _ a.grown u v a.ahead_kept),
    a.answer,
  )
  goes-stopped (fault.NotUtf8 at) a unspent =
      (goes-still (Err (fault.NotUtf8 at)) a refl false (kept_took _ _ _ a.grown u v a.ahead_kept), a.answer)
  goes-stopped fault.TextTooLong a unspent =
      (goes-still (Err fault.TextTooLong) a refl false (kept_took _ _ _ a.grown u v a.ahead_kept), a.answer)
  goes-stopped (fault.ParagraphTooLong start) a unspent =
      (goes-still (Err (fault.ParagraphTooLong start)) a refl false (kept_took _ _ _ a.grown u v a.ahead_kept), a.answer)
  goes-stopped fault.Spent a unspent = sym unspent ∙ a.answer

-- A chunk

none-to-come : (cell : ℕ → Cell) (profile : Profile) (start words : ℕ) (behind : List ℕ) → behind ≡ []
    → cuts_of_passages cell start words (passages profile cell behind) ≡ []
unfolding passages
none-to-come cell profile start words behind none =
    ap (λ l. cuts_of_passages cell start words (passages profile cell l)) none

-- a chunk ends at the byte that cuts stand before, or before it, and those behind its next start do so too
module _ (w w' : Window) (is_whole : Bool) (to : ℕ) (between : AreCutsBetween w.here.start (cuts_in w) to)
    (chunk : Chunk)
    (next : (more : List Cut) → (is_whole ≡ true → more ≡ []) → AreCutsPast w.here.start (cuts_in w ++ more)
    → IsNextChunk w.limits w.here (cuts_in w ++ more) chunk w'.here (cuts_in w' ++ more)) where
  alone : IsNextChunk w.limits w.here (cuts_in w ++ []) chunk w'.here (cuts_in w' ++ [])
  alone = next [] (λ _. refl) (between-past w.here.start (cuts_in w) to [] between tt)

  end-within : (end_of w.limits w.here alone.first alone.more).at ≤ to
  end-within =
      let whole : AreCutsBetween w.here.start (cuts_in w ++ []) to =
      subst (λ l. AreCutsBetween w.here.start l to) (sym (append-nil (cuts_in w))) between in
      let all = past-up_to to w.here.told (cuts_in w ++ []) (between-up_to to w.here.start (cuts_in w ++ []) whole) in
      end-up_to to w.limits w.here alone.first alone.more (subst (AreUpTo to) alone.are all)

  pub chunk-within : chunk.end ≤ to
  chunk-within = let e = ap (λ (c : Chunk). c.end) alone.is in omega (arith, e, end-within)

  pub next-between : AreCutsBetween w'.here.start (cuts_in w') to
  next-between =
      let told = next-told w.limits w.here (cuts_in w ++ []) chunk w'.here (cuts_in w' ++ []) alone in
      let left : cuts_in w' ≡ cuts_past w'.here.start (cuts_in w) = sym (append-nil (cuts_in w')) ∙ alone.leaves
      ∙ ap (cuts_past w'.here.start) (append-nil (cuts_in w)) in
      subst (λ l. AreCutsBetween w'.here.start l to) (sym left)
      (between-left w.here.start w'.here.start (cuts_in w) to (omega (arith, told.1, end-within)) between)

module _ (s : State) (w w' : Window) (is_whole : Bool) (st : Stands w s is_whole) where
  pub none-behind : (behind more : List ℕ) → MayCome (view_with w' s) behind more → is_whole ≡ true → behind ≡ []
  none-behind behind more may whole =
      let done = st.whole whole in
      no-scalars behind (may.bytes ∙ ap₂ (λ x y. x ++ y) done.none (may.ended done.at_end))

  module _ (chunk : Chunk) (limits : w'.limits ≡ w.limits) (words : w'.words ≡ w.words)
      (next : (more : List Cut) → (is_whole ≡ true → more ≡ []) → AreCutsPast w.here.start (cuts_in w ++ more)
      → IsNextChunk w.limits w.here (cuts_in w ++ more) chunk w'.here (cuts_in w' ++ more)) where
    pub goes-chunk : (u : Option (List ℕ)) → Goes (view_with w s) (view_with w' s) false u u (chunk ∷ [])
    goes-chunk u = record {
      got = [];
      scalars = [];
      took = Consumes-nil u;
      given = record {
        bytes = sym (append-nil s.held);
        utf8 = IsUtf8-nil;
        ended = λ at_end. (refl, at_end);
        chunks = λ behind more later may come. (
            let to_come = cuts_of_passages s.cell s.start w.words (passages s.profile s.cell behind) in
            let rising = between-past w.here.start (cuts_in w) s.start to_come st.between
            (passages-rising s.cell s.start w.words (passages s.profile s.cell behind)) in
            let none : is_whole ≡ true → to_come ≡ [] =
            λ whole. none-to-come s.cell s.profile s.start w.words behind (none-behind behind more may whole) in
            next-chunks w.limits w.here (cuts_in w ++ to_come) chunk w'.here (cuts_in w' ++ to_come) later rising
            st.told (next to_come none rising)
            (chunks-same w.limits w'.limits (cuts_in w' ++ to_come) (cuts_with (view_with w' s) behind) w'.here w'.here
            later limits
            (ap (λ n. cuts_in w' ++ cuts_of_passages s.cell s.start n (passages s.profile s.cell behind)) (sym words))
            refl come));
      };
    }

    pub stands-chunk : Stands w' s is_whole
    stands-chunk =
        let alone : AreCutsPast w.here.start (cuts_in w ++ []) =
        between-past w.here.start (cuts_in w) s.start [] st.between tt in
        let n = next [] (λ _. refl) alone in
        let told = next-told w.limits w.here (cuts_in w ++ []) chunk w'.here (cuts_in w' ++ []) n in
        record {
          unspent = st.unspent;
          whole = st.whole;
          between = next-between w w' is_whole s.start st.between chunk next;
          told = told.0;
          words = omega (arith, words, st.words);
        }

-- none is left
pub none-come : (s : State) (w : Window) → cuts_past w.here.told (cuts_in w) ≡ [] → ChunksCome (view_with w s) [] []
unfolding passages
none-come s w none = ap (cuts_past w.here.told) (append-nil (cuts_in w)) ∙ none

pub come-none : (s : State) (w : Window) → ChunksCome (view_with w s) [] [] → cuts_past w.here.told (cuts_in w) ≡ []
unfolding passages
come-none s w over = ap (cuts_past w.here.told) (sym (append-nil (cuts_in w))) ∙ over

-- then no chunk is next
pub none-next : (s : State) (w w' : Window) (is_whole : Bool) → Stands w s is_whole → (chunk : Chunk)
    → ((more : List Cut) → (is_whole ≡ true → more ≡ []) → AreCutsPast w.here.start (cuts_in w ++ more)
    → IsNextChunk w.limits w.here (cuts_in w ++ more) chunk w'.here (cuts_in w' ++ more))
    → cuts_past w.here.told (cuts_in w) ≡ [] → ⊥
none-next s w w' is_whole st chunk next none =
    let n = next [] (λ _. refl) (between-past w.here.start (cuts_in w) s.start [] st.between tt) in
    let some : [] ≡ n.first ∷ n.more = sym none ∙ ap (cuts_past w.here.told) (sym (append-nil (cuts_in w))) ∙ n.are in
    let no : ⊥ = cc in
    no

-- so far it went to a window that is still the same
pub goes-same : (a : View) (w w' : Window) (s : State) (u v : Option (List ℕ)) → w' ≡ w
    → Goes a (view_with w s) false u v [] → Goes a (view_with w' s) false u v []
goes-same a w w' s u v same = subst (λ x. Goes a (view_with x s) false u v []) (sym same)

-- Where a run from the start of a text ends

module _ (cell : ℕ → Cell) (profile : Profile) (limits : Limits) (limit : ℕ) (last : View) (got cs : List ℕ)
    (given : List Chunk)
    (run : HasGiven (new_view cell profile limits limit) last got cs given) (done : IsDone last.passages) where
  pub run-bytes : got ≡ encode_utf8_all cs
  run-bytes = sym run.bytes ∙ ap (λ l. encode_utf8_all cs ++ l) done.none ∙ append-nil (encode_utf8_all cs)

  pub run-chunks : ChunksCome last [] [] → AreChunks limits (cuts_of_passages cell 0 0 (passages profile cell cs))
      text_start given
  run-chunks come =
      subst (λ l. AreChunks limits (cuts_of_passages cell 0 0 (passages profile cell l)) text_start given)
      (append-nil cs)
      (subst (AreChunks limits (cuts_of_passages cell 0 0 (passages profile cell (cs ++ []))) text_start)
      (append-nil given)
      (run.chunks [] [] [] (record {
        bytes = sym (append-nil last.passages.held ∙ done.none);
        utf8 = IsUtf8-nil;
        ended = λ _. refl;
      }) come))

-- Before any call

module _ (l : Limits) (w : Window) (s : State) (cell : ℕ → Cell) (profile : Profile) (limit : ℕ) (n : IsNewWindow l w)
    (is : s ≡ new_state cell profile limit) where
  pub view-new : view_with w s ≡ new_view cell profile l limit
  view-new =
      ap (λ x. record { limits = x; cuts = cuts_in w; here = w.here; passages = s; words = w.words }) n.limits
      ∙ ap (λ x. record { limits = l; cuts = x; here = w.here; passages = s; words = w.words }) n.cuts
      ∙ ap (λ x. record { limits = l; cuts = []; here = x; passages = s; words = w.words }) n.here
      ∙ ap (λ x. record { limits = l; cuts = []; here = text_start; passages = x; words = w.words }) is
      ∙ ap (λ x. record {
        limits = l;
        cuts = [];
        here = text_start;
        passages = new_state cell profile limit;
        words = x;
      }) n.words

  pub stands-new : Stands w s false
  stands-new = record {
    unspent = ap (λ (x : State). x.is_spent) is;
    whole = λ no. absurd (false≢true no);
    between = subst (λ (h : _). AreCutsBetween h.start (cuts_in w) s.start) (sym n.here)
        (subst (λ x. AreCutsBetween 0 x s.start) (sym n.cuts) (omega arith));
    told = subst (λ (h : _). h.start ≤ h.told) (sym n.here) (omega arith);
    words = let none = n.words in omega (arith, none);
  }

-- what stands after the next chunk was looked for
pub stands-next : (s : State) (w w' : Window) (is_whole : Bool) → Stands w s is_whole → w'.limits ≡ w.limits
    → w'.words ≡ w.words → (r : Option given.Chunk)
    → IfSome r (λ chunk. (more : List Cut) → (is_whole ≡ true → more ≡ [])
    → AreCutsPast w.here.start (cuts_in w ++ more)
    → IsNextChunk w.limits w.here (cuts_in w ++ more) (numbered_chunk chunk) w'.here (cuts_in w' ++ more))
    → (r ≡ None → w' ≡ w) → Stands w' s is_whole
stands-next s w w' is_whole st limits words None next none = subst (λ x. Stands x s is_whole) (sym (none refl)) st
stands-next s w w' is_whole st limits words (Some chunk) next none =
    stands-chunk s w w' is_whole st (numbered_chunk chunk) limits words next
