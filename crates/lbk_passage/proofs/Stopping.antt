-- Where a segmenter stops: by a fault of the feed, or by too long a paragraph.
use Rattle.std.proofs.Common.{◌≡◌, ℕ, ◌+◌, ◌<◌, ◌≤◌, true, false, List, [], ◌∷◌, ◌++◌, length, None, Some, encode_utf8, encode_utf8_all, IsUtf8, chars, refl, sym, ap, subst, ◌∙◌, arith, length-append, append_assoc, append-nil}
use Rattle.std.proofs.Math.Utf8.{scalar}
use Rattle.std.proofs.lemmas.Str.{encodes-chars, encodes-append, IsUtf8-append}
use Rattle.lbk_feed.specs.declared.faults.FeedFault.{FeedFault}
use Rattle.lbk_feed.specs.declared.faults.FeedFault.TheVariants as feed_fault
use Rattle.lbk_feed.specs.Text.{longest_text, well_formed_prefix, counted, IsNotUtf8At, IsTooLong}
use Rattle.lbk_feed.specs.View.{AfterEach, CanGoOn, IsFront, LiesIn}
use Rattle.lbk_passage.specs.Faults.{passage_fault}
use Rattle.lbk_passage.specs.Stays.{ends_at, stays, last_class}
use Rattle.lbk_passage.specs.State.{bytes_in, State}
use Rattle.lbk_passage.specs.Next.{IsAllSeen, LiesBehind, Stops}
use Rattle.lbk_passage.specs.declared.faults.PassageFault.{PassageFault}
use Rattle.lbk_passage.specs.declared.faults.PassageFault.TheVariants.{NotUtf8, ParagraphTooLong, Read, TextTooLong}
use Rattle.lbk_passage.specs.declared.paragraph.Paragraph.{Paragraph}
use Rattle.lbk_passage.proofs.Marking.{few_passages, begins_with_all}
use Rattle.lbk_passage.proofs.Staying.{stays-snoc, length-encode_more}
use Rattle.lbk_passage.proofs.Finding.{Shows, IsUtf8-scalar}

module _ (s : State) (p : Paragraph) (shows : Shows s p) (none : stays s.cell None (chars (bytes_in p)) ≡ true) where
  text_is : encode_utf8_all (chars (bytes_in p)) ≡ bytes_in p
  text_is = encodes-chars (bytes_in p) shows.text

  -- what holds behind each text before the paragraph and the paragraph holds behind each text before it
  behind : (P Q : List ℕ → Type 0) → ((used : List ℕ) → P (used ++ bytes_in p) → Q used) → AfterEach p.feed.given P → AfterEach s.start Q
  behind P Q to each used utf8 long =
      to used (each (used ++ bytes_in p) (IsUtf8-append used (bytes_in p) utf8 shows.text)
      (length-append used (bytes_in p) ∙ ap (λ n. n + length (bytes_in p)) long ∙ shows.start))

  joined : (used : List ℕ) → (used ++ bytes_in p) ++ p.feed.held ≡ used ++ s.held
  joined used = append_assoc used (bytes_in p) p.feed.held ∙ ap (λ l. used ++ l) (sym shows.held)

  all_seen : p.feed.ready ≡ [] → IsFront p.feed
      → AfterEach s.start (λ used. used ++ encode_utf8_all (chars (bytes_in p)) ≡ well_formed_prefix (counted (used ++ s.held)))
  all_seen ready front = behind
      (λ all. all ++ p.feed.ready ≡ well_formed_prefix (counted (all ++ p.feed.held)))
      (λ used. used ++ encode_utf8_all (chars (bytes_in p)) ≡ well_formed_prefix (counted (used ++ s.held)))
      (λ used is. ap (λ l. used ++ l) text_is ∙ sym (append-nil (used ++ bytes_in p)) ∙ ap (λ l. (used ++ bytes_in p) ++ l) (sym ready)
      ∙ is ∙ ap (λ l. well_formed_prefix (counted l)) (joined used))
      front

  short : length (encode_utf8_all (chars (bytes_in p))) ≤ s.limit
  short = omega (arith, ap length text_is, shows.within)

  bytes : s.held ≡ encode_utf8_all (chars (bytes_in p)) ++ p.feed.held
  bytes = shows.held ∙ ap (λ l. l ++ p.feed.held) (sym text_is)

  -- how many bytes stand before those that the feed holds
  before : s.start + length (encode_utf8_all (chars (bytes_in p))) ≡ p.feed.given
  before = ap (λ l. s.start + length l) text_is ∙ shows.start

  -- it stops behind the scalars of the paragraph
  stops-behind : (fault : PassageFault) → p.feed.given ≤ longest_text → IsAllSeen fault s (chars (bytes_in p))
      → LiesBehind fault s (chars (bytes_in p)) p.feed.held → Stops s fault
  stops-behind fault few seen lies = record {
    seen = chars (bytes_in p);
    rest = p.feed.held;
    bytes = bytes;
    text = subst IsUtf8 (sym text_is) shows.text;
    few = few_passages s.profile s.cell (chars (bytes_in p)) none;
    unfinished = λ some more. begins_with_all s.profile s.cell (chars (bytes_in p)) more some none;
    counted = omega (arith, before, few);
    all_seen = seen;
    lies = lies;
  }

  pub Stops-feed : (e : FeedFault) → ¬ (Some e ≡ Some feed_fault.Spent) → p.feed.ready ≡ [] → IsFront p.feed → p.feed.given ≤ longest_text → LiesIn e p.feed
      → Stops s (passage_fault e)
  Stops-feed feed_fault.Read unspent ready front few lies =
      stops-behind Read few (all_seen ready front) (short, subst (λ n. CanGoOn n p.feed.held) (sym before) lies)
  Stops-feed (feed_fault.NotUtf8 at) unspent ready front few lies =
      stops-behind (NotUtf8 at) few (all_seen ready front) (
        short,
        behind (λ all. IsNotUtf8At (all ++ p.feed.held) p.feed.is_ended at) (λ used. IsNotUtf8At (used ++ s.held) s.is_ended at)
            (λ used h. subst (λ l. IsNotUtf8At l s.is_ended at) (joined used) (subst (λ b. IsNotUtf8At ((used ++ bytes_in p) ++ p.feed.held) b at) (sym shows.is_ended) h)) lies,
      )
  Stops-feed feed_fault.TextTooLong unspent ready front few lies =
      stops-behind TextTooLong few (all_seen ready front) (
        short,
        behind (λ all. IsTooLong (all ++ p.feed.held)) (λ used. IsTooLong (used ++ s.held))
            (λ used h. subst IsTooLong (joined used) h) lies,
      )
  Stops-feed feed_fault.Spent unspent ready front few lies = absurd (unspent refl)

  -- the next scalar goes past the limit
  pub Stops-long : (c : ℕ) (cs behind : List ℕ) (start : ℕ) → p.feed.held ≡ encode_utf8_all (c ∷ cs) ++ behind → scalar c ≡ true
      → ends_at (last_class s.cell None (chars (bytes_in p))) (s.cell c).class ≡ false
      → s.limit < length (bytes_in p) + length (encode_utf8 c) → p.feed.given + length (encode_utf8 c) ≤ longest_text → start ≡ s.start
      → Stops s (ParagraphTooLong start)
  Stops-long c cs behind start held is ends over near start_is =
      let text = bytes_in p in
      let seen = chars text ++ c ∷ [] in
      let stay = stays-snoc s.cell None (chars text) c none ends in
      let long = length-encode_more (chars text) c in
      let spelt : encode_utf8_all seen ≡ text ++ encode_utf8 c =
      encodes-append (chars text) (c ∷ []) ∙ ap (λ l. encode_utf8_all (chars text) ++ l) (append-nil (encode_utf8 c)) ∙ ap (λ l. l ++ encode_utf8 c) text_is in
      record {
        seen = seen;
        rest = encode_utf8_all cs ++ behind;
        bytes = shows.held ∙ ap (λ l. text ++ l) (held ∙ append_assoc (encode_utf8 c) (encode_utf8_all cs) behind)
            ∙ sym (append_assoc text (encode_utf8 c) (encode_utf8_all cs ++ behind)) ∙ ap (λ l. l ++ (encode_utf8_all cs ++ behind)) (sym spelt);
        text = subst IsUtf8 (sym spelt) (IsUtf8-append text (encode_utf8 c) shows.text (IsUtf8-scalar c is));
        few = few_passages s.profile s.cell seen stay;
        unfinished = λ some more. begins_with_all s.profile s.cell seen more some stay;
        counted = omega (arith, shows.start, near, ap length spelt, length-append text (encode_utf8 c));
        all_seen = tt;
        lies = (start_is, (chars text, c, refl, short, omega (arith, ap length text_is, long, over)));
      }
