-- Where a run of an engine ends.
use Rattle.std.proofs.Common.{◌≡◌, ℕ, zero, suc, ◌+◌, ◌-◌, ◌<◌, ◌≤◌, Bool, true, ◌⊎◌, List, [], ◌∷◌, ◌++◌, length, take, None, Option, Result, Ok, Err, IsUtf8, encode_utf8, encode_utf8_all, chars, refl, sym, ap, subst, ◌∙◌, arith, inl, inr, ⊎_elim, length-append, length-take, append_assoc, append-nil}
use Rattle.std.specs.List.{flat_map}
use Rattle.std.proofs.Math.Seq.{take-append-add}
use Rattle.std.proofs.lemmas.Bool.{false≢true}
use Rattle.std.proofs.lemmas.Str.{IsUtf8-append, IsUtf8-nil, encodes-append, chars_from_encodes}
use Rattle.lbk_feed.specs.Devices.{Reads}
use Rattle.lbk_feed.specs.Runs.{IsStopped, midway, at_end}
use Rattle.lbk_feed.specs.Text.{longest_text, well_formed_prefix, counted, IsNotUtf8At, IsTooLong, IsOpen}
use Rattle.lbk_feed.specs.View.{CanGoOn}
use Rattle.lbk_feed.proofs.Judged.{prefix-after}
use Rattle.lbk_passage.specs.Marks.{Marked, scalars_of, text_of}
use Rattle.lbk_passage.specs.Passages.{passages}
use Rattle.lbk_passage.specs.State.{State}
use Rattle.lbk_passage.specs.Next.{AfterNext, BeginsWithAll, ComesFirst, GoesOn, IsLast, IsDone, Stops, Waits, lent_text}
use Rattle.lbk_passage.specs.declared.faults.PassageFault.{PassageFault}
use Rattle.lbk_passage.specs.declared.faults.PassageFault.TheVariants as fault
use Rattle.lbk_passage.specs.declared.passage.Passage.{Passage as LentPassage}
use Rattle.lbk_passage.proofs.Marking.{begins_with_all}
use Rattle.lbk_cmd.specs.Ranges.{HasPassed, RangeComesTo, next_start}
use Rattle.lbk_cmd.specs.Run.{Writing, passages_by, AreWithin, IsWhole, AreGiven, IsSettled, IsHeldUp, AreAll, ComesTo, segmenter_of}
use Rattle.lbk_cmd.specs.declared.faults.CmdFault.TheVariants.{Passage}
use Rattle.lbk_cmd.proofs.Running.{Finishes, some_bytes, Stands, fresh, goes_on, ended, Standing, onward}

-- the front of some bytes is one of these and more
pub front_of : (n : ℕ) (out later : List ℕ) → (k : ℕ) × (take n out ≡ take k (out ++ later))
front_of zero out later = (0, refl)
front_of (suc n) [] later = (0, refl)
front_of (suc n) (x ∷ out) later = let rest = front_of n out later in (suc rest.0, ap (λ l. x ∷ l) rest.1)

module _ (e : Writing) where
  no_passages : passages_by e [] ≡ []
  unfolding passages
  no_passages = refl

  -- nothing is given of no scalars
  pub none_given : AreGiven e [] []
  none_given = record {
    behind = [];
    joined = refl;
    followed = λ some. absurd (omega (arith, some));
    first = λ more. refl;
    in_one = λ some. absurd (omega (arith, some));
    within = tt;
  }

  unfoldable pub settled_none : e.Settled [] [] → IsSettled e [] []
  settled_none none = record { scalars = []; rest = []; begins = refl; utf8 = IsUtf8-nil; few = omega arith; given = []; are = none_given; is = none }

  module _ (s : State) (bytes out : List ℕ) (st : Standing e s bytes out) where
    -- nothing was given
    settled_fresh : st.given ≡ [] → IsSettled e bytes out
    settled_fresh no_given = record {
      scalars = [];
      rest = bytes;
      begins = refl;
      utf8 = IsUtf8-nil;
      few = omega arith;
      given = [];
      are = none_given;
      is = subst (λ (g : List (List Marked)). e.Settled g out) no_given st.is;
    }

    -- a scalar follows what was given
    settled_on : (next : ℕ) (rest : List ℕ) → s.held ≡ encode_utf8 next ++ rest → IsUtf8 (encode_utf8 next)
        → length (encode_utf8_all st.scalars) + length (encode_utf8 next) ≤ longest_text
        → ((more : List ℕ) → passages_by e (st.scalars ++ next ∷ more) ≡ st.given ++ passages_by e (next ∷ more)) → IsSettled e bytes out
    settled_on next rest held utf8 near first =
        let one : encode_utf8_all (st.scalars ++ next ∷ []) ≡ encode_utf8_all st.scalars ++ encode_utf8 next =
        encodes-append st.scalars (next ∷ []) ∙ ap (λ l. encode_utf8_all st.scalars ++ l) (append-nil (encode_utf8 next)) in
        record {
          scalars = st.scalars ++ next ∷ [];
          rest = rest;
          begins = st.bytes_are ∙ ap (λ l. encode_utf8_all st.scalars ++ l) held
              ∙ sym (append_assoc (encode_utf8_all st.scalars) (encode_utf8 next) rest) ∙ ap (λ l. l ++ rest) (sym one);
          utf8 = subst IsUtf8 (sym one) (IsUtf8-append (encode_utf8_all st.scalars) (encode_utf8 next) st.utf8 utf8);
          few = omega (arith, near, ap length one, length-append (encode_utf8_all st.scalars) (encode_utf8 next));
          given = st.given;
          are = record {
            behind = next ∷ [];
            joined = ap (λ l. l ++ next ∷ []) (sym st.joined);
            followed = λ some. omega arith;
            first = λ more. ap (passages_by e) (append_assoc st.scalars (next ∷ []) more) ∙ first more;
            in_one = λ some more. begins_with_all e.profile e.cell (next ∷ []) more some refl;
            within = st.within;
          };
          is = st.is;
        }

    -- scalars of one passage were seen behind those given, in `all`, which are the bytes held and those that came
    module _ (all got seen behind : List ℕ) (grown : all ≡ s.held ++ got) (quiet : s.is_ended ≡ true → all ≡ s.held)
        (are : all ≡ encode_utf8_all seen ++ behind) (text : IsUtf8 (encode_utf8_all seen))
        (few : length (encode_utf8_all st.scalars) + length (encode_utf8_all seen) ≤ longest_text)
        (in_one : 0 < length seen → (more : List ℕ) → BeginsWithAll seen (passages_by e (seen ++ more)))
        (none_seen : seen ≡ [] → (st.scalars ≡ []) × (st.given ≡ [])) where
      unfoldable pub settled_by : (read rest : List ℕ) → read ≡ encode_utf8_all st.scalars ++ (encode_utf8_all seen ++ rest) → IsSettled e read out
      settled_by read rest read_is = record {
        scalars = st.scalars ++ seen;
        rest = rest;
        begins = read_is ∙ sym (append_assoc (encode_utf8_all st.scalars) (encode_utf8_all seen) rest)
            ∙ ap (λ l. l ++ rest) (sym (encodes-append st.scalars seen));
        utf8 = subst IsUtf8 (sym (encodes-append st.scalars seen)) (IsUtf8-append (encode_utf8_all st.scalars) (encode_utf8_all seen) st.utf8 text);
        few = omega (arith, few, ap length (encodes-append st.scalars seen), length-append (encode_utf8_all st.scalars) (encode_utf8_all seen));
        given = st.given;
        are = record {
          behind = seen;
          joined = ap (λ l. l ++ seen) (sym st.joined);
          followed = λ some. seen_behind seen refl some;
          first = λ more. first seen refl more;
          in_one = in_one;
          within = st.within;
        };
        is = st.is;
      }
        where
          seen_behind : (cs : List ℕ) → seen ≡ cs → 0 < length st.given → 0 < length cs
          seen_behind [] is some = absurd (let given = ap length (none_seen is).1 in omega (arith, some, given))
          seen_behind (c ∷ cs) is some = omega arith

          first : (cs : List ℕ) → seen ≡ cs → (more : List ℕ) → passages_by e ((st.scalars ++ cs) ++ more) ≡ st.given ++ passages_by e (cs ++ more)
          first [] is more =
              let none = none_seen is in
              ap (λ l. passages_by e ((l ++ []) ++ more)) none.0 ∙ ap (λ l. l ++ passages_by e more) (sym none.1)
          first (c ∷ cs) is more =
              ap (passages_by e) (append_assoc st.scalars (c ∷ cs) more)
              ∙ onward e s bytes out st all got grown quiet c (encode_utf8_all cs ++ behind) (cs ++ more)
              (are ∙ ap (λ l. encode_utf8_all l ++ behind) is ∙ append_assoc (encode_utf8 c) (encode_utf8_all cs) behind)

    -- the text ended
    whole_at : (all text : List ℕ) → all ≡ encode_utf8_all st.scalars → passages_by e st.scalars ≡ st.given → e.Whole st.given text → IsWhole e all text
    whole_at all text is given whole =
        let scalars_are : chars all ≡ st.scalars = sym (chars_from_encodes st.scalars all (subst IsUtf8 (sym is) st.utf8) (sym is)) in
        record {
          utf8 = subst IsUtf8 (sym is) st.utf8;
          few = omega (arith, ap length is, st.start, st.few);
          within = subst (AreWithin e) (sym (ap (passages_by e) scalars_are ∙ given)) st.within;
          is = subst (λ (g : List (List Marked)). e.Whole g text) (sym (ap (passages_by e) scalars_are ∙ given)) whole;
        }

    -- the front of what is written of the passages given; more may have been read behind them
    pub stopped : Finishes e → (has_ended : Bool) (got : List ℕ) → (s.is_ended ≡ true → (has_ended ≡ true) × (got ≡ [])) → (put : List ℕ) (n : ℕ) → put ≡ take n out
        → IsStopped (IsSettled e) (IsWhole e) (has_ended ≡ true) (bytes ++ got) put
    stopped finishes has_ended got notices put n front = by st.stands
      where
        by : Stands e s st.scalars st.given → IsStopped (IsSettled e) (IsWhole e) (has_ended ≡ true) (bytes ++ got) put
        by (fresh none no_given) = midway bytes got out n refl (settled_fresh no_given) front
        by (goes_on next rest held utf8 near first) = midway bytes got out n refl (settled_on next rest held utf8 near first) front
        by (ended held is_at_end given) =
            let at = notices is_at_end in
            let all = finishes st.given out st.is in
            let fewer = front_of n out all.0 in
            at_end (out ++ all.0) fewer.0 at.0
            (whole_at (bytes ++ got) (out ++ all.0)
            (ap (λ l. bytes ++ l) at.1 ∙ append-nil bytes ∙ st.bytes_are ∙ ap (λ l. encode_utf8_all st.scalars ++ l) held ∙ append-nil (encode_utf8_all st.scalars))
            given all.1) (front ∙ fewer.1)

    -- the passages given reach up to `to`, or are all of the text
    pub passed : (to : ℕ) → e.Whole st.given out → to ≤ s.start → ((s.is_ended ≡ true) × IsWhole e bytes out) ⊎ HasPassed e to bytes out
    unfolding settled_fresh settled_on
    passed to whole past = by st.stands
      where
        by : Stands e s st.scalars st.given → ((s.is_ended ≡ true) × IsWhole e bytes out) ⊎ HasPassed e to bytes out
        by (fresh none no_given) = inr (record {
          settled = settled_fresh no_given;
          reaches = let empty = ap (λ l. length (encode_utf8_all l)) none in omega (arith, past, st.start, empty);
        })
        by (goes_on next rest held utf8 near first) = inr (record {
          settled = settled_on next rest held utf8 near first;
          reaches = let long = ap (λ l. length (encode_utf8_all l)) st.joined in omega (arith, past, st.start, long);
        })
        by (ended held is_at_end given) =
            inl (is_at_end, whole_at bytes out (st.bytes_are ∙ ap (λ l. encode_utf8_all st.scalars ++ l) held ∙ append-nil (encode_utf8_all st.scalars)) given whole)

    module _ (t : State) (u v : Option (List ℕ)) (e1 e2 : Bool) (r1 r2 : Reads) where
      -- the text was read to its end
      module _ (a : AfterNext s t u v e1 e2 r1 r2 (Ok None)) where
        none_left : s.held ++ a.got ≡ []
        none_left = let done : IsDone t = a.answer in sym a.grown ∙ done.none

        all_read : bytes ++ a.got ≡ encode_utf8_all st.scalars
        all_read = ap (λ l. l ++ a.got) st.bytes_are ∙ append_assoc (encode_utf8_all st.scalars) s.held a.got
            ∙ ap (λ l. encode_utf8_all st.scalars ++ l) none_left ∙ append-nil (encode_utf8_all st.scalars)

        all_given : passages_by e st.scalars ≡ st.given
        all_given = by st.stands
          where
            by : Stands e s st.scalars st.given → passages_by e st.scalars ≡ st.given
            by (fresh no_scalars no_given) = ap (passages_by e) no_scalars ∙ no_passages ∙ sym no_given
            by (goes_on next rest held utf8 near first) =
                let some = some_bytes next in
                absurd (omega (arith, some, ap length none_left, length-append s.held a.got, ap length held, length-append (encode_utf8 next) rest))
            by (ended held is_at_end given) = given

        pub run_whole : (text : List ℕ) → e.Whole st.given text → IsWhole e (bytes ++ a.got) text
        run_whole text whole = whole_at (bytes ++ a.got) text all_read all_given whole

        -- the passages given are all of the text
        pub given_whole : st.given ≡ passages_by e (chars (bytes ++ a.got))
        given_whole =
            let scalars_are : chars (bytes ++ a.got) ≡ st.scalars =
            sym (chars_from_encodes st.scalars (bytes ++ a.got) (subst IsUtf8 (sym all_read) st.utf8) (sym all_read)) in
            sym (ap (passages_by e) scalars_are ∙ all_given)

      -- memory could not grow for a passage that was read whole, or for its lines: its marks, and the bytes behind it
      module _ (r : Result (Option LentPassage) PassageFault) (a : AfterNext s t u v e1 e2 r1 r2 r) (notices : t.is_ended ≡ true → e2 ≡ true)
          (ms : List Marked) (behind : List ℕ) (some : 0 < length ms) (whole : lent_text r ++ t.held ≡ text_of ms ++ behind) (comes : ComesFirst t ms behind) where
        -- the engine decides as the segmenter does
        comes_in : ComesFirst (segmenter_of e e2) ms behind
        comes_in = record {
          within = let short = comes.within in omega (arith, short, a.alike.limit, st.limit);
          follows = ⊎_elim
              (λ (h : GoesOn t ms behind).
              inl (record { next = h.next; rest = h.rest; bytes = h.bytes; scalar = h.scalar; first = λ more. by_engine (λ f. FirstBefore f h.next more) (h.first more) }))
              (λ (h : IsLast t ms behind).
              inr (record { none = h.none; at_end = notices h.at_end; first = by_engine (λ f. f (scalars_of ms) ≡ ms ∷ []) h.first }))
              comes.follows;
        }
          where
            FirstBefore : (List ℕ → List (List Marked)) → ℕ → List ℕ → Type 0
            FirstBefore f next more = f (scalars_of ms ++ next ∷ more) ≡ ms ∷ f (next ∷ more)

            by_engine : (P : (List ℕ → List (List Marked)) → Type 0) → P (passages t.profile t.cell) → P (passages e.profile e.cell)
            by_engine P is =
                subst (λ profile. P (passages profile e.cell)) (a.alike.profile ∙ st.profile)
                (subst (λ cell. P (passages t.profile cell)) (a.alike.cell ∙ st.cell) is)

        -- where it stands behind those given
        place : bytes ++ a.got ≡ encode_utf8_all st.scalars ++ (text_of ms ++ behind)
        place = ap (λ l. l ++ a.got) st.bytes_are ∙ append_assoc (encode_utf8_all st.scalars) s.held a.got
            ∙ ap (λ l. encode_utf8_all st.scalars ++ l) (sym a.grown ∙ whole)

        -- for the passage that begins where the segmenter stands
        abbrev pub HeldUp : Type 0
        HeldUp = (h : IsHeldUp e e2 (bytes ++ a.got) out) × (next_start h.settled ≡ s.start)

        held_up : (given : List (List Marked)) → flat_map scalars_of given ≡ st.scalars → (is : IsSettled e (bytes ++ a.got) out) → is.given ≡ given → HeldUp
        held_up given joined is same =
            let all = ap (flat_map scalars_of) same ∙ joined in (
              record {
                settled = is;
                passage = ms;
                some = some;
                behind = behind;
                next = place ∙ ap (λ l. encode_utf8_all l ++ (text_of ms ++ behind)) (sym all);
                comes = comes_in;
              },
              ap (λ l. length (encode_utf8_all l)) all ∙ sym st.start,
            )

        settled_more : IsSettled e bytes out → IsSettled e (bytes ++ a.got) out
        settled_more x = record {
          scalars = x.scalars;
          rest = x.rest ++ a.got;
          begins = ap (λ l. l ++ a.got) x.begins ∙ append_assoc (encode_utf8_all x.scalars) x.rest a.got;
          utf8 = x.utf8;
          few = x.few;
          given = x.given;
          are = x.are;
          is = x.is;
        }

        pub run_memory : HeldUp
        unfolding settled_more settled_fresh settled_on
        run_memory = by st.stands
          where
            by : Stands e s st.scalars st.given → HeldUp
            by (fresh none no_given) = held_up [] (sym none) (settled_more (settled_fresh no_given)) refl
            by (goes_on next rest held utf8 near first) = held_up st.given st.joined (settled_more (settled_on next rest held utf8 near first)) refl
            by (ended held is_at_end given) =
                let none = ap length (sym whole ∙ (a.quiet is_at_end).0 ∙ held) in
                absurd (some_text ms some (omega (arith, none, length-append (text_of ms) behind)))
              where
                some_text : (ms : List Marked) → 0 < length ms → length (text_of ms) ≡ 0 → ⊥
                some_text [] some none = omega (arith, some)
                some_text (m ∷ ms) some none =
                    let bytes_of = some_bytes m.scalar in
                    omega (arith, bytes_of, none, length-append (encode_utf8 m.scalar) (text_of ms))

      -- the segmenter waits with a passage that it holds whole
      waits_memory : (a : AfterNext s t u v e1 e2 r1 r2 (Err fault.Memory)) → (t.is_ended ≡ true → e2 ≡ true) → (h : IsHeldUp e e2 (bytes ++ a.got) out) × (next_start h.settled ≡ s.start)
      waits_memory a notices =
          let waits : Waits t = a.answer in
          run_memory (Err fault.Memory) a notices waits.marks waits.behind waits.some waits.bytes waits.comes

      -- the reader or the text stopped it
      module _ (why : PassageFault) (a : AfterNext s t u v e1 e2 r1 r2 (Err why)) (stops : Stops t why) where
        used : List ℕ
        used = encode_utf8_all st.scalars

        begin_now : length used ≡ t.start
        unfolding used
        begin_now = omega (arith, a.start, st.start)

        all_now : bytes ++ a.got ≡ used ++ t.held
        unfolding used
        all_now =
            ap (λ l. l ++ a.got) st.bytes_are ∙ append_assoc (encode_utf8_all st.scalars) s.held a.got
            ∙ ap (λ l. encode_utf8_all st.scalars ++ l) (sym a.grown)

        NoneSeen : Type 0
        NoneSeen = stops.seen ≡ [] → (st.scalars ≡ []) × (st.given ≡ [])

        settled : NoneSeen → IsSettled e (bytes ++ a.got) out
        unfolding used NoneSeen
        settled none_seen =
            settled_by t.held a.got stops.seen stops.rest a.grown (λ h. (a.quiet h).0) stops.bytes stops.text (omega (arith, begin_now, stops.counted))
            (λ some more. in_engine more (stops.unfinished some more)) none_seen (bytes ++ a.got) stops.rest
            (all_now ∙ ap (λ l. used ++ l) stops.bytes)
          where
            in_engine : (more : List ℕ) → BeginsWithAll stops.seen (passages t.profile t.cell (stops.seen ++ more))
                → BeginsWithAll stops.seen (passages_by e (stops.seen ++ more))
            in_engine more b =
                subst (λ f. BeginsWithAll stops.seen (passages f e.cell (stops.seen ++ more))) (a.alike.profile ∙ st.profile)
                (subst (λ f. BeginsWithAll stops.seen (passages t.profile f (stops.seen ++ more))) (a.alike.cell ∙ st.cell) b)

        -- where all well-formed bytes were seen
        module _ (covered : used ++ encode_utf8_all stops.seen ≡ well_formed_prefix (counted (used ++ t.held)))
            (short : length (encode_utf8_all stops.seen) ≤ t.limit) where
          all_seen : AreAll e (bytes ++ a.got) (st.scalars ++ stops.seen) stops.seen
          unfolding used
          all_seen = (
            encodes-append st.scalars stops.seen ∙ covered ∙ ap (λ l. well_formed_prefix (counted l)) (sym all_now),
            omega (arith, short, a.alike.limit, st.limit),
          )

          -- something was seen behind a passage, unless the text ended there
          none_seen : (s.is_ended ≡ true → s.held ≡ [] → ⊥) → NoneSeen
          unfolding used NoneSeen
          none_seen not_ended none = by st.stands
            where
              by : Stands e s st.scalars st.given → (st.scalars ≡ []) × (st.given ≡ [])
              by (fresh no_scalars no_given) = (no_scalars, no_given)
              by (goes_on next rest held utf8 near first) =
                  let front = used ++ encode_utf8 next in
                  let long : length front ≡ length used + length (encode_utf8 next) = length-append used (encode_utf8 next) in
                  let n = longest_text - length front in
                  let many : longest_text ≡ length front + n = omega (arith, near, long) in
                  let later = take n (rest ++ a.got) in
                  let held_now : used ++ t.held ≡ front ++ (rest ++ a.got) =
                  ap (λ l. used ++ l) (a.grown ∙ ap (λ l. l ++ a.got) held ∙ append_assoc (encode_utf8 next) rest a.got)
                  ∙ sym (append_assoc used (encode_utf8 next) (rest ++ a.got)) in
                  let count : counted (used ++ t.held) ≡ front ++ later =
                  ap counted held_now ∙ ap (λ k. take k (front ++ (rest ++ a.got))) many ∙ take-append-add front (rest ++ a.got) n in
                  let prefix : used ++ encode_utf8_all stops.seen ≡ front ++ well_formed_prefix later =
                  covered ∙ ap well_formed_prefix count ∙ prefix-after front later (IsUtf8-append used (encode_utf8 next) st.utf8 utf8) in
                  let some = some_bytes next in
                  absurd (omega (
                    arith,
                    some,
                    long,
                    ap length prefix,
                    length-append used (encode_utf8_all stops.seen),
                    length-append front (well_formed_prefix later),
                    ap (λ l. length (encode_utf8_all l)) none,
                  ))
              by (ended held is_at_end given) = absurd (not_ended is_at_end held)

      behind_given : length (encode_utf8_all (flat_map scalars_of st.given)) ≡ s.start
      behind_given = ap (λ l. length (encode_utf8_all l)) st.joined ∙ sym st.start

      at_its_end : (bs : List ℕ) (b c : Bool) (at : ℕ) → (b ≡ true → c ≡ true) → IsNotUtf8At bs b at → IsNotUtf8At bs c at
      at_its_end bs b c at notices i = record {
        place = i.place;
        follows = i.follows;
        why = ⊎_elim (λ (no : ¬ (IsOpen (counted bs))). inl no)
            (λ (yes : IsOpen (counted bs) × (counted bs ≡ bs) × (b ≡ true)). inr (yes.0, yes.1, notices yes.2)) i.why;
      }

      -- by the fault that a call answered
      pub run_fault : (X : Type 0) (why : PassageFault) (a : AfterNext s t u v e1 e2 r1 r2 (Err why)) → (t.is_ended ≡ true → e2 ≡ true)
          → ComesTo {X = X} e e2 (Err (Passage why)) (bytes ++ a.got) out
      unfolding used settled settled_by
      run_fault X fault.Limit a notices = absurd a.answer.lies
      run_fault X fault.Memory a notices = inr (waits_memory a notices).0
      run_fault X fault.Read a notices =
          let stops : Stops t fault.Read = a.answer in
          let covered = stops.all_seen (used fault.Read a stops) st.utf8 (begin_now fault.Read a stops) in
          record {
            settled = settled fault.Read a stops (none_seen fault.Read a stops covered stops.lies.0 (λ is_at_end held. (a.quiet is_at_end).3 refl));
            lies = (
              all_seen fault.Read a stops covered stops.lies.0,
              subst (λ n. CanGoOn n stops.rest)
                  (let long = ap length (encodes-append st.scalars stops.seen) ∙ length-append (encode_utf8_all st.scalars) (encode_utf8_all stops.seen) in
                  let e0 : t.start + length (encode_utf8_all stops.seen) ≡ length (encode_utf8_all (st.scalars ++ stops.seen)) =
                  omega (arith, begin_now fault.Read a stops, long) in e0) stops.lies.1,
            );
          }
      run_fault X (fault.NotUtf8 at) a notices =
          let stops : Stops t (fault.NotUtf8 at) = a.answer in
          let us = used (fault.NotUtf8 at) a stops in
          let begins = begin_now (fault.NotUtf8 at) a stops in
          let covered = stops.all_seen us st.utf8 begins in
          let there = stops.lies.1 us st.utf8 begins in
          let all = all_now (fault.NotUtf8 at) a stops in
          record {
            settled = settled (fault.NotUtf8 at) a stops (none_seen (fault.NotUtf8 at) a stops covered stops.lies.0
                (λ is_at_end held.
                let none = ap length ((a.quiet is_at_end).0 ∙ held) in
                let follows = there.follows in
                omega (
                  arith,
                  there.place,
                  follows,
                  ap length covered,
                  length-append us (encode_utf8_all stops.seen),
                  length-append us t.held,
                  none,
                  length-take longest_text (us ++ t.held),
                )));
            lies = (
              all_seen (fault.NotUtf8 at) a stops covered stops.lies.0,
              subst (λ l. IsNotUtf8At l e2 at) (sym all) (at_its_end (us ++ t.held) t.is_ended e2 at notices there),
            );
          }
      run_fault X fault.TextTooLong a notices =
          let stops : Stops t fault.TextTooLong = a.answer in
          let us = used fault.TextTooLong a stops in
          let begins = begin_now fault.TextTooLong a stops in
          let covered = stops.all_seen us st.utf8 begins in
          let over = stops.lies.1 us st.utf8 begins in
          record {
            settled = settled fault.TextTooLong a stops (none_seen fault.TextTooLong a stops covered stops.lies.0
                (λ is_at_end held.
                let none = ap length ((a.quiet is_at_end).0 ∙ held) in
                let more = over.over in
                omega (arith, more, length-append us t.held, none, begins, a.start, st.few)));
            lies = (all_seen fault.TextTooLong a stops covered stops.lies.0, subst IsTooLong (sym (all_now fault.TextTooLong a stops)) over);
          }
      run_fault X (fault.ParagraphTooLong start) a notices =
          let stops : Stops t (fault.ParagraphTooLong start) = a.answer in
          let where_it_is = stops.lies in
          let some = ap length where_it_is.1.2 ∙ length-append where_it_is.1.0 (where_it_is.1.1 ∷ []) in
          record {
            settled = settled (fault.ParagraphTooLong start) a stops (λ none. absurd (omega (arith, some, ap length none)));
            lies = (
              omega (arith, where_it_is.0, ap length (encodes-append st.scalars stops.seen), length-append (encode_utf8_all st.scalars) (encode_utf8_all stops.seen), a.start, st.start),
              omega (arith, where_it_is.1.4, a.alike.limit, st.limit),
              (where_it_is.1.0, where_it_is.1.1, where_it_is.1.2, omega (arith, where_it_is.1.3, a.alike.limit, st.limit)),
            );
          }
      run_fault X fault.Spent a notices = absurd (false≢true (sym st.unspent ∙ a.answer))

      -- in a run over a range: it is one of the passage that begins where the segmenter stands
      pub range_fault : (X : Type 0) (from to : ℕ) (AtEnd : Type 0) (why : PassageFault) (a : AfterNext s t u v e1 e2 r1 r2 (Err why)) → (t.is_ended ≡ true → e2 ≡ true)
          → (why ≡ fault.Memory → from ≤ s.start) → s.start < to → RangeComesTo {X = X} e from to e2 AtEnd (Err (Passage why)) (bytes ++ a.got) out
      unfolding run_fault settled settled_by
      range_fault X from to AtEnd fault.Limit a notices late early = absurd a.answer.lies
      range_fault X from to AtEnd fault.Memory a notices late early =
          let held = waits_memory a notices in inr (record { held_up = held.0; late = omega (arith, held.1, late refl); begins = omega (arith, held.1, early) })
      range_fault X from to AtEnd fault.Read a notices late early = record { refused = run_fault X fault.Read a notices; begins = omega (arith, behind_given, early) }
      range_fault X from to AtEnd (fault.NotUtf8 at) a notices late early =
          record { refused = run_fault X (fault.NotUtf8 at) a notices; begins = omega (arith, behind_given, early) }
      range_fault X from to AtEnd fault.TextTooLong a notices late early = record { refused = run_fault X fault.TextTooLong a notices; begins = omega (arith, behind_given, early) }
      range_fault X from to AtEnd (fault.ParagraphTooLong start) a notices late early =
          record { refused = run_fault X (fault.ParagraphTooLong start) a notices; begins = omega (arith, behind_given, early) }
      range_fault X from to AtEnd fault.Spent a notices late early = absurd (false≢true (sym st.unspent ∙ a.answer))
