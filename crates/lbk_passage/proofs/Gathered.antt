-- The turns of the loop that gathers a paragraph.
use Rattle.std.proofs.Common.{◌≡◌, ℕ, ◌+◌, ◌-◌, ◌<◌, ◌≤◌, Bool, true, false, ◌&&◌, ◌||◌, not, List, [], ◌∷◌, ◌++◌, length, drop, Option, None, Some, Result, Ok, Err, IfOk, IfSome, option_map, is_some, encode_utf8, encode_utf8_all, chars, if◌then◌else◌, refl, sym, ap, subst, ◌∙◌, arith, inl, inr, length-append, append_assoc, append-nil}
use Rattle.std.specs.Bool.{OnTrue, OnFalse}
use Rattle.std.proofs.Math.Utf8.{scalars}
use Rattle.std.proofs.Math.Seq.{drop-append_seam}
use Rattle.std.proofs.lemmas.Str.{scalars-chars, encodes-chars, chars-nil, is_utf8-from_IsUtf8}
use Rattle.lbk_feed.specs.declared.faults.FeedFault.{FeedFault}
use Rattle.lbk_feed.specs.declared.faults.FeedFault.TheVariants as feed_fault
use Rattle.lbk_feed.specs.Devices.{Reads}
use Rattle.lbk_feed.specs.View.{View, IsFront, LendsFront, LiesIn, Steps}
use Rattle.lbk_feed.specs.View as feed
use Rattle.lbk_rules.specs.declared.Class.{Class}
use Rattle.lbk_rules.specs.declared.Cell.{Cell}
use Rattle.lbk_values.specs.declared.profile.Profile.{Profile}
use Rattle.lbk_rules.specs.declared.Verdict.{Verdict}
use Rattle.lbk_passage.specs.Faults.{passage_fault}
use Rattle.lbk_passage.specs.Stays.{IsWholeText, ends_at, stays, last_class, end_before, finds_end, is_nil}
use Rattle.lbk_passage.specs.State.{bytes_in, state_with, text_held}
use Rattle.lbk_passage.specs.Next.{fault_in, ends_run, Stops}
use Rattle.lbk_passage.specs.Gathering.{StopsBefore, Takes, Settles, HasRead, Gathering, Gathers, IsSame}
use Rattle.lbk_passage.specs.declared.faults.PassageFault.{PassageFault}
use Rattle.lbk_passage.specs.declared.faults.PassageFault.TheVariants.{Read, ParagraphTooLong}
use Rattle.lbk_passage.specs.declared.paragraph.Paragraph.{Paragraph}
use Rattle.lbk_passage.specs.declared.reach.Reach.{Reach}
use Rattle.lbk_passage.specs.declared.reach.ReachEnd.TheVariants.{PieceEnds, LineEnds, NoRoom}
use Rattle.lbk_passage.proofs.Reading.{HasRead-none, HasRead-step, few-step, each-step}
use Rattle.lbk_passage.proofs.Staying.{stays-append, last_class-append}
use Rattle.lbk_passage.proofs.Texts.{IsUtf8-bytes_in, bytes-given, bytes-within}
use Rattle.lbk_passage.proofs.Finding.{Shows}
use Rattle.lbk_passage.proofs.Stopping.{Stops-feed, Stops-long}
use Rattle.lbk_passage.proofs.Booleans.{both-left, or-true}

-- a failed read is that of the feed
read_by : (fault : Option FeedFault) → option_map passage_fault fault ≡ Some Read → fault ≡ Some feed_fault.Read
read_by None e = cc
read_by (Some feed_fault.Read) e = refl
read_by (Some (feed_fault.NotUtf8 at)) e = cc
read_by (Some feed_fault.TextTooLong) e = cc
read_by (Some feed_fault.Spent) e = cc

-- a feed that has nothing held has nothing ready
pub ready_nil : (ready rest : List ℕ) → ready ++ rest ≡ [] → ready ≡ []
ready_nil [] rest e = refl
ready_nil (x ∷ xs) rest e = cc

-- how a state shows a paragraph whose text was not given
pub Shows-of : (cell : ℕ → Cell) (profile : Profile) (p : Paragraph) → (p.is_held || p.is_spent) ≡ true → Shows (state_with cell profile p) p
Shows-of cell profile p in_hand =
    let text : text_held p ≡ bytes_in p = ap (λ b. if b then bytes_in p else []) in_hand in
    let few = bytes-given p in
    let short = bytes-within p in
    record {
      limit = refl;
      start = omega (arith, ap length text, few);
      held = ap (λ l. l ++ p.feed.held) text;
      is_ended = refl;
      text = IsUtf8-bytes_in p;
      within = short;
    }

-- a paragraph is whole where a line must end before the next scalar that is ready
pub whole-line : (cell : ℕ → Cell) (last : Option Class) (p n : Paragraph) (r : Reach) (t : Takes cell last p n r)
    → stays cell None (chars (bytes_in n)) ≡ true → r.last ≡ last_class cell None (chars (bytes_in n))
    → (end : Option Verdict) → r.stop ≡ LineEnds → end ≡ end_before r.last true → IsWholeText cell (bytes_in n) n.feed end
whole-line cell last p n r t none_ends last_is end is end_is =
    let next = subst (λ k. StopsBefore cell r.last (length (bytes_in n)) p.limit k t.rest) is t.stop in
    let ready : chars n.feed.ready ≡ next.0 ∷ next.1 = t.is_ready ∙ next.2 in
    record {
      utf8 = is_utf8-from_IsUtf8 n.feed.ready t.utf8;
      first = ap (λ l. n.feed.ready ++ drop (length n.feed.ready) l) t.front ∙ ap (λ l. n.feed.ready ++ l) (drop-append_seam n.feed.ready t.behind) ∙ sym t.front;
      few = t.few;
      none_ends = none_ends;
      found = ap (λ l. finds_end cell (last_class cell None (chars (bytes_in n))) n.feed l) ready
          ∙ ap (λ k. ends_at k (cell next.0).class) (sym last_is) ∙ next.3;
      end_is = end_is ∙ ap (λ k. end_before k true) last_is
          ∙ ap (λ l. end_before (last_class cell None (chars (bytes_in n))) (not (is_nil l))) (sym ready);
    }

module _ (cell : ℕ → Cell) (old : Paragraph) (unread : Option (List ℕ)) (ended : Bool) (reads : Reads) where
  -- nothing is gathered yet
  pub Gathering-none : bytes_in old ≡ [] → old.is_held ≡ false → old.is_spent ≡ false → Gathering cell old old None unread unread ended ended reads reads
  Gathering-none none open_end unspent =
      let all : bytes_in old ++ old.feed.held ≡ old.feed.held = ap (λ l. l ++ old.feed.held) none in
      let scalars_are : chars (bytes_in old) ≡ [] = ap chars none ∙ chars-nil in
      record {
        limit = refl;
        open_end = open_end;
        unspent = unspent;
        given = omega (arith, ap length none);
        read = subst (λ l. HasRead cell old.limit old.feed l unread unread reads reads None) (sym all) (HasRead-none cell old.limit old.feed unread reads);
        each_gave = omega (arith, ap length all);
        few = omega arith;
        agrees = λ h. h;
        notices = λ h. refl;
        quiet = λ h. (all, h, refl);
        none_ends = ap (stays cell None) scalars_are;
        last_is = sym (ap (last_class cell None) scalars_are);
      }

  -- where nothing was left at first, nothing is gathered
  pub still_done : (now : Paragraph) (last : Option Class) (u : Option (List ℕ)) (e : Bool) (r1 : Reads) → Gathering cell old now last unread u ended e reads r1
      → old.feed.is_ended ≡ true → old.feed.held ≡ [] → (now.feed.is_ended ≡ true) × (now.feed.held ≡ []) × (last ≡ None)
  still_done now last u e r1 g at_end none =
      let was = g.quiet at_end in
      let all = ready_nil (bytes_in now) now.feed.held (was.0 ∙ none) in (
        was.1,
        ap (λ l. l ++ now.feed.held) (sym all) ∙ was.0 ∙ none,
        g.last_is ∙ ap (last_class cell None) (ap chars all ∙ chars-nil),
      )

  -- after a step of the feed
  pub record Settled (p : Paragraph) (last : Option Class) (unread' : Option (List ℕ)) (ended' : Bool) (reads' : Reads) (fault : Option PassageFault) : Type 0 where
    pub limit : p.limit ≡ old.limit
    pub open_end : p.is_held ≡ false
    pub given : p.feed.given ≡ old.feed.given + length (bytes_in p)
    pub read : HasRead cell old.limit old.feed (bytes_in p ++ p.feed.held) unread unread' reads reads' fault
    pub each_gave : 0 < length p.feed.ready → reads'.count + length old.feed.held ≤ reads.count + length (bytes_in p ++ p.feed.held)
    pub few : reads'.count ≤ reads.count + (length (bytes_in p) + 4)
    pub agrees : feed.Agrees old.feed ended unread → feed.Agrees p.feed ended' unread'
    pub notices : p.feed.is_ended ≡ false → ended' ≡ ended
    pub quiet : old.feed.is_ended ≡ true
        → (bytes_in p ++ p.feed.held ≡ old.feed.held) × (p.feed.is_ended ≡ true) × (reads' ≡ reads) × (¬ (fault ≡ Some Read))
    pub none_ends : stays cell None (chars (bytes_in p)) ≡ true
    pub last_is : last ≡ last_class cell None (chars (bytes_in p))

  pub Settled-of : (now p : Paragraph) (last : Option Class) (u v : Option (List ℕ)) (e e' : Bool) (r1 r2 : Reads) (r : Result Bool PassageFault)
      → Gathering cell old now last unread u ended e reads r1 → Settles now p u v e e' r1 r2 r → Settled p last v e' r2 (fault_in r)
  Settled-of now p last u v e e' r1 r2 r g s =
      let text : bytes_in p ≡ bytes_in now = s.text in
      let within : length (bytes_in now) ≤ old.limit =
      (let kept = bytes-within now in omega (arith, kept, g.limit)) in
      record {
        limit = s.limit ∙ g.limit;
        open_end = s.same_held ∙ g.open_end;
        given = s.steps.given ∙ g.given ∙ ap (λ l. old.feed.given + length l) (sym text);
        read = subst (λ f. HasRead cell old.limit old.feed (bytes_in p ++ p.feed.held) unread v reads r2 f) (sym s.fault_is)
            (subst (λ l. HasRead cell old.limit old.feed (l ++ p.feed.held) unread v reads r2 (option_map passage_fault s.fault)) (sym text)
            (HasRead-step cell old.limit old.feed (bytes_in now) now.feed p.feed unread u v reads r1 r2 s.fault
            (IsUtf8-bytes_in now) g.none_ends within g.read g.each_gave g.given s.steps s.pays));
        each_gave = λ some. omega (
          arith,
          ap length text,
          length-append (bytes_in p) p.feed.held,
          length-append (bytes_in now) p.feed.held,
          each-step cell old.limit old.feed (bytes_in now) now.feed p.feed unread u v reads r1 r2 s.fault g.each_gave some s.pays,
        );
        few = omega (arith, ap length text, few-step cell old.limit old.feed (bytes_in now) now.feed p.feed unread u v reads r1 r2 s.fault g.few g.each_gave s.pays);
        agrees = λ h. s.agrees (g.agrees h);
        notices = λ open_end. s.notices open_end ∙ g.notices (not_sooner now.feed p.feed u v s.fault open_end s.steps);
        quiet = λ h.
            (let was = g.quiet h in
            let same = s.steps.same (inr (inl was.1)) in (
              ap (λ l. l ++ p.feed.held) text ∙ ap (λ l. bytes_in now ++ l) same.0 ∙ was.0,
              same.2 ∙ was.1,
              (s.unasked was.1).0 ∙ was.2,
              λ e. (s.unasked was.1).1 (read_by s.fault (sym s.fault_is ∙ e)),
            ));
        none_ends = ap (λ l. stays cell None (chars l)) text ∙ g.none_ends;
        last_is = g.last_is ∙ ap (λ l. last_class cell None (chars l)) (sym text);
      }
    where
      not_sooner : (f h : View) (u v : Option (List ℕ)) (fault : Option FeedFault) → h.is_ended ≡ false → Steps f h u v fault → f.is_ended ≡ false
      not_sooner f h u v fault open_end steps = by f.is_ended refl
        where
          by : (b : Bool) → f.is_ended ≡ b → f.is_ended ≡ false
          by false is = is
          by true is = absurd (let same = (steps.same (inr (inl is))).2 in cc)

  module _ (p : Paragraph) (last : Option Class) (v : Option (List ℕ)) (e' : Bool) (r2 : Reads) where
    short : length (bytes_in p) ≤ p.limit
    short = bytes-within p

    -- the text ends
    pub Gathers-end : (end : Option Verdict) → Settled p last v e' r2 None → p.is_spent ≡ false → LendsFront p.feed → p.feed.held ≡ [] → p.feed.is_ended ≡ true
        → end ≡ end_before last false → Gathers cell old p unread v ended e' reads r2 (Ok end)
    Gathers-end end s unspent lends none at_end is =
        let ready : p.feed.ready ≡ [] = ready_nil p.feed.ready lends.rest (sym lends.first ∙ none) in
        let scalars_are : chars p.feed.ready ≡ [] = ap chars ready ∙ chars-nil in
        let kept = short in
        record {
          limit = s.limit;
          open_end = s.open_end;
          spent = unspent;
          given = s.given;
          read = s.read;
          each_gave = λ open_end. cc;
          few = omega (arith, s.few, s.limit, kept);
          agrees = s.agrees;
          notices = s.notices;
          quiet = s.quiet;
          whole = record {
            utf8 = is_utf8-from_IsUtf8 p.feed.ready lends.text;
            first = ap (λ l. l ++ drop (length l) p.feed.held) ready;
            few = omega (arith, lends.few);
            none_ends = s.none_ends;
            found = ap (λ l. finds_end cell (last_class cell None (chars (bytes_in p))) p.feed l) scalars_are
                ∙ ap (λ l. is_nil l && p.feed.is_ended) none ∙ at_end;
            end_is = is ∙ ap (λ k. end_before k false) s.last_is ∙ ap (λ l. end_before (last_class cell None (chars (bytes_in p))) (not (is_nil l))) (sym scalars_are);
          };
          stops = tt;
        }

    ends_feed : (e : FeedFault) → ends_run (Some (passage_fault e)) ≡ true
    ends_feed feed_fault.Read = refl
    ends_feed (feed_fault.NotUtf8 at) = refl
    ends_feed feed_fault.TextTooLong = refl
    ends_feed feed_fault.Spent = refl

    -- the feed stops
    pub Gathers-fault : (e : FeedFault) → Settled p last v e' r2 (Some (passage_fault e)) → p.is_spent ≡ true → ¬ (Some e ≡ Some feed_fault.Spent)
        → p.feed.ready ≡ [] → IsFront p.feed → LendsFront p.feed → LiesIn e p.feed → Gathers cell old p unread v ended e' reads r2 (Err (passage_fault e))
    Gathers-fault e s spent unspent ready front lends lies =
        let kept = short in
        record {
          limit = s.limit;
          open_end = s.open_end;
          spent = spent ∙ sym (ends_feed e);
          given = s.given;
          read = s.read;
          each_gave = λ open_end. let ends : (ends_run (Some (passage_fault e)) || p.feed.is_ended) ≡ true = ap (λ b. b || p.feed.is_ended) (ends_feed e) in cc;
          few = omega (arith, s.few, s.limit, kept);
          agrees = s.agrees;
          notices = s.notices;
          quiet = s.quiet;
          whole = tt;
          stops = λ profile. Stops-feed (state_with cell profile p) p (Shows-of cell profile p (ap (λ b. p.is_held || b) spent ∙ or-true p.is_held)) s.none_ends e unspent ready front
              (omega (arith, lends.few)) lies;
        }

    -- scalars of the piece that is ready went to the text
    module _ (n : Paragraph) (r : Reach) (t : Takes cell last p n r) (s : Settled p last v e' r2 None) (some : 0 < length p.feed.ready) where
      all_same : bytes_in n ++ n.feed.held ≡ bytes_in p ++ p.feed.held
      all_same = ap (λ l. l ++ n.feed.held) t.text ∙ append_assoc (bytes_in p) (encode_utf8_all t.taken) n.feed.held
          ∙ ap (λ l. bytes_in p ++ l) (sym t.was_held)

      longer : length (bytes_in n) ≡ length (bytes_in p) + length (encode_utf8_all t.taken)
      longer = ap length t.text ∙ length-append (bytes_in p) (encode_utf8_all t.taken)

      given : n.feed.given ≡ old.feed.given + length (bytes_in n)
      given = omega (arith, t.given, s.given, longer)

      read : (fault : Option PassageFault) → HasRead cell old.limit old.feed (bytes_in p ++ p.feed.held) unread v reads r2 fault
          → HasRead cell old.limit old.feed (bytes_in n ++ n.feed.held) unread v reads r2 fault
      read fault h = subst (λ l. HasRead cell old.limit old.feed l unread v reads r2 fault) (sym all_same) h

      gave : r2.count + length old.feed.held ≤ reads.count + length (bytes_in n ++ n.feed.held)
      gave = omega (arith, ap length all_same, s.each_gave some)

      few : r2.count ≤ reads.count + (length (bytes_in n) + 4)
      few = omega (arith, longer, s.few)

      none_ends : stays cell None (chars (bytes_in n)) ≡ true
      none_ends =
          ap (stays cell None) t.scalars
          ∙ stays-append cell None (chars (bytes_in p)) t.taken s.none_ends (ap (λ k. stays cell k t.taken) (sym s.last_is) ∙ t.none_ends)

      last_is : r.last ≡ last_class cell None (chars (bytes_in n))
      last_is =
          t.last_is ∙ ap (λ k. last_class cell k t.taken) s.last_is ∙ sym (last_class-append cell None (chars (bytes_in p)) t.taken)
          ∙ ap (last_class cell None) (sym t.scalars)

      kept_short : length (bytes_in n) ≤ n.limit
      kept_short = bytes-within n

      still : old.feed.is_ended ≡ true → (bytes_in n ++ n.feed.held ≡ old.feed.held) × (n.feed.is_ended ≡ true) × (r2 ≡ reads)
      still h = (all_same ∙ (s.quiet h).0, t.ended ∙ (s.quiet h).1, (s.quiet h).2)

      -- the piece is all of the paragraph
      pub Gathering-more : p.is_spent ≡ false → Gathering cell old n r.last unread v ended e' reads r2
      Gathering-more unspent = record {
        limit = t.limit ∙ s.limit;
        open_end = t.same_held ∙ s.open_end;
        unspent = t.same_spent ∙ unspent;
        given = given;
        read = read None s.read;
        each_gave = gave;
        few = few;
        agrees = λ h at_end. s.agrees h (sym t.ended ∙ at_end);
        notices = λ h. s.notices (sym t.ended ∙ h);
        quiet = still;
        none_ends = none_ends;
        last_is = last_is;
      }

      -- and the text grew, so that less is left of the limit
      pub more_text : r.stop ≡ PieceEnds → LendsFront p.feed → n.limit - length (bytes_in n) < p.limit - length (bytes_in p)
      more_text is lends =
          let rest : t.rest ≡ [] = subst (λ k. StopsBefore cell r.last (length (bytes_in n)) p.limit k t.rest) is t.stop in
          let whole : p.feed.ready ≡ encode_utf8_all t.taken =
          sym (encodes-chars p.feed.ready lends.text) ∙ ap encode_utf8_all (t.was_ready ∙ ap (λ l. t.taken ++ l) rest ∙ append-nil t.taken) in
          omega (arith, ap length whole, some, longer, bytes-within n, t.limit)

      -- a line must end before the next scalar
      pub Gathers-line : (end : Option Verdict) → p.is_spent ≡ false → r.stop ≡ LineEnds → end ≡ end_before r.last true
          → Gathers cell old n unread v ended e' reads r2 (Ok end)
      Gathers-line end unspent is end_is =
          let kept = kept_short in
          record {
            limit = t.limit ∙ s.limit;
            open_end = t.same_held ∙ s.open_end;
            spent = t.same_spent ∙ unspent;
            given = given;
            read = read None s.read;
            each_gave = λ _. gave;
            few = omega (arith, few, t.limit, s.limit, kept);
            agrees = λ h at_end. s.agrees h (sym t.ended ∙ at_end);
            notices = λ h. s.notices (sym t.ended ∙ h);
            quiet = λ h. ((still h).0, (still h).1, (still h).2, λ e. cc);
            whole = whole-line cell last p n r t none_ends last_is end is end_is;
            stops = tt;
          }

      -- the next scalar has no room
      pub Gathers-long : (m : Paragraph) (fault : PassageFault) → IsSame n m n.is_held true → r.stop ≡ NoRoom
          → fault ≡ ParagraphTooLong (n.feed.given - length (bytes_in n)) → Gathers cell old m unread v ended e' reads r2 (Err fault)
      Gathers-long m fault same is fault_is =
          let next = subst (λ k. StopsBefore cell r.last (length (bytes_in n)) p.limit k t.rest) is t.stop in
          let all : scalars (next.0 ∷ next.1) ≡ true = ap scalars (sym (t.is_ready ∙ next.2)) ∙ scalars-chars n.feed.ready t.utf8 in
          let held : m.feed.held ≡ encode_utf8_all (next.0 ∷ next.1) ++ t.behind =
          ap (λ f. f.held) same.feed ∙ t.is_held ∙ ap (λ l. encode_utf8_all l ++ t.behind) next.2 in
          let kept = kept_short in
          let shows = λ (profile : Profile). Shows-of cell profile m (ap (λ b. m.is_held || b) same.spent ∙ or-true m.is_held) in
          let none : stays cell None (chars (bytes_in m)) ≡ true = ap (λ l. stays cell None (chars l)) same.text ∙ none_ends in
          let text_same : bytes_in m ++ m.feed.held ≡ bytes_in n ++ n.feed.held =
          ap (λ l. l ++ m.feed.held) same.text ∙ ap (λ f. bytes_in n ++ f.held) same.feed in
          record {
            limit = same.limit ∙ t.limit ∙ s.limit;
            open_end = same.held ∙ t.same_held ∙ s.open_end;
            spent = same.spent ∙ ap (λ f. ends_run (Some f)) (sym fault_is);
            given = ap (λ f. f.given) same.feed ∙ given ∙ ap (λ l. old.feed.given + length l) (sym same.text);
            read = subst (λ l. HasRead cell old.limit old.feed l unread v reads r2 (Some fault)) (sym text_same) (read (Some fault) (read_fault fault fault_is s.read));
            each_gave = λ open_end. let ends : (ends_run (Some fault) || m.feed.is_ended) ≡ true = ap (λ f. ends_run (Some f) || m.feed.is_ended) fault_is in cc;
            few = omega (arith, few, t.limit, s.limit, kept);
            agrees = λ h at_end. s.agrees h (sym t.ended ∙ sym (ap (λ f. f.is_ended) same.feed) ∙ at_end);
            notices = λ h. s.notices (sym t.ended ∙ sym (ap (λ f. f.is_ended) same.feed) ∙ h);
            quiet = λ h. (text_same ∙ (still h).0, ap (λ f. f.is_ended) same.feed ∙ (still h).1, (still h).2, λ e. cc);
            whole = tt;
            stops = λ profile.
                subst (Stops (state_with cell profile m)) (sym fault_is)
                (Stops-long (state_with cell profile m) m (shows profile) none next.0 next.1 t.behind (n.feed.given - length (bytes_in n)) held (both-left _ (scalars next.1) all)
                (ap (λ l. ends_at (last_class cell None (chars l)) (cell next.0).class) same.text ∙ ap (λ k. ends_at k (cell next.0).class) (sym last_is) ∙ next.3)
                (omega (arith, ap length same.text, same.limit, t.limit, next.4))
                (omega (
                  arith,
                  ap (λ f. f.given) same.feed,
                  t.few,
                  ap length (sym (encodes-chars n.feed.ready t.utf8) ∙ ap encode_utf8_all (t.is_ready ∙ next.2)),
                  length-append (encode_utf8 next.0) (encode_utf8_all next.1),
                ))
                (let st = (shows profile).start in omega (arith, st, ap length same.text, ap (λ f. f.given) same.feed)));
          }
        where
          read_fault : (fault : PassageFault) → fault ≡ ParagraphTooLong (n.feed.given - length (bytes_in n))
              → HasRead cell old.limit old.feed (bytes_in p ++ p.feed.held) unread v reads r2 None → HasRead cell old.limit old.feed (bytes_in p ++ p.feed.held) unread v reads r2 (Some fault)
          read_fault fault is h = subst (λ f. HasRead cell old.limit old.feed (bytes_in p ++ p.feed.held) unread v reads r2 (Some f)) (sym is) (record {
            got = h.got;
            grown = h.grown;
            ahead_kept = h.ahead_kept;
            begins = h.begins;
            but_one = h.but_one;
            within = h.within;
            due = h.due;
          })

module _ (cell : ℕ → Cell) (old : Paragraph) (unread : Option (List ℕ)) (ended : Bool) (reads : Reads) where
  -- all of the paragraph was known before any step
  pub Gathers-told : (n : Paragraph) (r : Reach) (t : Takes cell None old n r) → bytes_in old ≡ [] → old.is_held ≡ false → old.is_spent ≡ false
      → 0 < length old.feed.ready → (end : Option Verdict) → r.stop ≡ LineEnds → end ≡ end_before r.last true
      → Gathers cell old n unread unread ended ended reads reads (Ok end)
  Gathers-told n r t none open_end unspent some end is end_is =
      let g = Gathering-none cell old unread ended reads none open_end unspent in
      Gathers-line cell old unread ended reads old None unread ended reads n r t
      (record {
        limit = refl;
        open_end = open_end;
        given = g.given;
        read = g.read;
        each_gave = λ _. g.each_gave;
        few = g.few;
        agrees = g.agrees;
        notices = g.notices;
        quiet = λ h. ((g.quiet h).0, (g.quiet h).1, (g.quiet h).2, λ e. cc);
        none_ends = g.none_ends;
        last_is = g.last_is;
      })
      some end unspent is end_is

-- what a step of the feed answered, where it did not stop
pub stood : (P : Type 0) (r : Result Bool PassageFault) (b : Bool) → r ≡ Ok b → b ≡ true → IfOk r (λ stands. OnTrue stands P) → P
stood P r b was is h = let r_is : r ≡ Ok true = was ∙ ap Ok is in rw r_is at h

pub ended_all : (P : Type 0) (r : Result Bool PassageFault) (b : Bool) → r ≡ Ok b → b ≡ false → IfOk r (λ stands. OnFalse stands P) → P
ended_all P r b was is h = let r_is : r ≡ Ok false = was ∙ ap Ok is in rw r_is at h

pub no_fault : (fault : Option FeedFault) → None ≡ option_map passage_fault fault → fault ≡ None
no_fault None e = refl
no_fault (Some x) e = cc

module _ (cell : ℕ → Cell) (old : Paragraph) (unread : Option (List ℕ)) (ended : Bool) (reads : Reads) (now p : Paragraph) (last : Option Class)
    (u v : Option (List ℕ)) (e e' : Bool) (r1 r2 : Reads) (r : Result Bool PassageFault)
    (g : Gathering cell old now last unread u ended e reads r1) (s : Settles now p u v e e' r1 r2 r) where
  settled : Settled cell old unread ended reads p last v e' r2 (fault_in r)
  settled = Settled-of cell old unread ended reads now p last u v e e' r1 r2 r g s

  module _ (b : Bool) (was : r ≡ Ok b) where
    settled_ok : Settled cell old unread ended reads p last v e' r2 None
    settled_ok = subst (λ x. Settled cell old unread ended reads p last v e' r2 (fault_in x)) was settled

    unspent : p.is_spent ≡ false
    unspent = s.spent ∙ ap is_some (no_fault s.fault (sym (ap fault_in was) ∙ s.fault_is))

    pub turn-end : (end : Option Verdict) → b ≡ false → end ≡ end_before last false → Gathers cell old p unread v ended e' reads r2 (Ok end)
    turn-end end is end_is =
        let all = ended_all ((p.feed.held ≡ []) × (p.feed.is_ended ≡ true)) r b was is s.ends in
        Gathers-end cell old unread ended reads p last v e' r2 end settled_ok unspent s.steps.lends all.0 all.1 end_is

    module _ (is : b ≡ true) (n : Paragraph) (reach : Reach) (t : Takes cell last p n reach) where
      some : 0 < length p.feed.ready
      some = stood (0 < length p.feed.ready) r b was is s.stands

      pub turn-more : Gathering cell old n reach.last unread v ended e' reads r2
      turn-more = Gathering-more cell old unread ended reads p last v e' r2 n reach t settled_ok some unspent

      pub turn-less : reach.stop ≡ PieceEnds → n.limit - length (bytes_in n) < now.limit - length (bytes_in now)
      turn-less stop =
          let less = more_text cell old unread ended reads p last v e' r2 n reach t settled_ok some stop s.steps.lends in
          omega (arith, less, s.limit, ap length s.text)

      pub turn-line : (end : Option Verdict) → reach.stop ≡ LineEnds → end ≡ end_before reach.last true → Gathers cell old n unread v ended e' reads r2 (Ok end)
      turn-line end stop end_is = Gathers-line cell old unread ended reads p last v e' r2 n reach t settled_ok some end unspent stop end_is

      pub turn-long : (m : Paragraph) (fault : PassageFault) → IsSame n m n.is_held true → reach.stop ≡ NoRoom
          → fault ≡ ParagraphTooLong (n.feed.given - length (bytes_in n)) → Gathers cell old m unread v ended e' reads r2 (Err fault)
      turn-long m fault same stop fault_is = Gathers-long cell old unread ended reads p last v e' r2 n reach t settled_ok some m fault same stop fault_is

  pub turn-fault : (x : PassageFault) → r ≡ Err x → Gathers cell old p unread v ended e' reads r2 (Err x)
  turn-fault x was = by s.fault refl
    where
      by : (fault : Option FeedFault) → s.fault ≡ fault → Gathers cell old p unread v ended e' reads r2 (Err x)
      by None is = absurd (let other : Some x ≡ None = sym (ap fault_in was) ∙ s.fault_is ∙ ap (option_map passage_fault) is in cc)
      by (Some f) is =
          let other : Some x ≡ Some (passage_fault f) = sym (ap fault_in was) ∙ s.fault_is ∙ ap (option_map passage_fault) is in
          let same : passage_fault f ≡ x = cc in
          let lies = subst (λ o. IfSome o (λ k. (p.feed.ready ≡ []) × LiesIn k p.feed)) is s.steps.lies in
          subst (λ k. Gathers cell old p unread v ended e' reads r2 (Err k)) same
          (Gathers-fault cell old unread ended reads p last v e' r2 f
          (subst (λ k. Settled cell old unread ended reads p last v e' r2 k) (ap fault_in was ∙ ap Some (sym same)) settled)
          (s.spent ∙ ap is_some is) (λ k. s.unspent (is ∙ k)) lies.0 s.steps.front s.steps.lends lies.1)
