-- What filling a paragraph leaves, as its callers see it.
use Rattle.std.proofs.Common.{◌≡◌, ℕ, ◌+◌, Bool, true, false, ◌||◌, not, List, [], ◌++◌, length, Option, None, Some, Result, Ok, Err, encode_utf8_all, chars, IsUtf8, if◌then◌else◌, refl, sym, ap, subst, ◌∙◌, arith, inl, inr, ⊎_elim, append-nil}
use Rattle.std.specs.Io.KnownBytes.{prepend_known}
use Rattle.std.proofs.lemmas.Str.{chars-nil, encodes-chars}
use Rattle.std.proofs.lemmas.Bool.{false≢true}
use Rattle.lbk_feed.specs.Devices.{Reads}
use Rattle.lbk_feed.specs.View.{BeginsWith, CanGoOn}
use Rattle.lbk_rules.specs.declared.Cell.{Cell}
use Rattle.lbk_values.specs.declared.profile.Profile.{Profile}
use Rattle.lbk_rules.specs.declared.Verdict.{Verdict}
use Rattle.lbk_passage.specs.State.{bytes_in, State, state_with, text_held}
use Rattle.lbk_passage.specs.Stays.{IsWhole, IsWholeText, end_before, is_nil, last_class}
use Rattle.lbk_passage.specs.Next.{fault_in, ends_run, IsDone, KeepsAhead, Stops, WereDue}
use Rattle.lbk_passage.specs.Gathering.{HasRead, WasOpen, Gathers, Fills, FillAnswers}
use Rattle.lbk_passage.specs.declared.faults.PassageFault.{PassageFault}
use Rattle.lbk_passage.specs.declared.faults.PassageFault.TheVariants.{Limit, Memory, Read, NotUtf8, TextTooLong, ParagraphTooLong, Spent}
use Rattle.lbk_passage.specs.declared.paragraph.Paragraph.{Paragraph}
use Rattle.lbk_passage.proofs.Reading.{Keeps-refl, BeginsWith-held}
use Rattle.lbk_passage.proofs.Finding.{found}
use Rattle.lbk_passage.proofs.Marking.{few_passages, begins_with_all}
use Rattle.lbk_passage.proofs.Gathered.{ready_nil, Shows-of}
use Rattle.lbk_passage.proofs.Booleans.{or-false, or-true}

-- where nothing is left, a paragraph that is held has no end, and the feed holds nothing
module _ (cell : ℕ → Cell) (profile : Profile) (p : Paragraph) where
  pub held_done : (p.is_held || p.is_spent) ≡ false → IsDone (state_with cell profile p) → p.feed.held ≡ []
  held_done fresh done = ap (λ b. (if b then bytes_in p else []) ++ p.feed.held) (sym fresh) ∙ done.none

  pub whole_done : (p.is_held || p.is_spent) ≡ true → IsWhole cell p → IsDone (state_with cell profile p) → p.end ≡ None
  whole_done in_hand whole done =
      let none : bytes_in p ≡ [] =
      ready_nil (bytes_in p) p.feed.held (ap (λ b. (if b then bytes_in p else []) ++ p.feed.held) (sym in_hand) ∙ done.none) in
      whole.end_is ∙ ap (λ k. end_before k (not (is_nil (chars p.feed.ready)))) (ap (last_class cell None) (ap chars none ∙ chars-nil))

module _ (cell : ℕ → Cell) (profile : Profile) (old : Paragraph) (u : Option (List ℕ)) (e : Bool) (reads : Reads) where
  state : State
  state = state_with cell profile old

  -- a call after a fault
  pub Fills-spent : old.is_spent ≡ true → Fills cell profile old old u u e e reads reads (Err Spent)
  Fills-spent spent = record {
    limit = refl;
    answer = inl (refl, spent);
    start = refl;
    in_hand = ap (λ b. old.is_held || b) spent ∙ or-true old.is_held;
    unspent = λ ok. cc;
    spent = spent ∙ sym (or-true old.is_spent);
    got = [];
    grown = sym (append-nil (state_with cell profile old).held);
    ahead_kept = Keeps-refl (prepend_known (state_with cell profile old).held u);
    begins = BeginsWith-held (state_with cell profile old).held u;
    costs = record { each_gave = λ open_end. cc; but_one = omega arith; within = λ less. absurd (omega arith); due = inl (refl, refl) };
    agrees = λ h. h;
    notices = λ h. refl;
    quiet = λ h. (refl, h, refl, λ e. cc);
    still = λ h. ((refl, refl), λ e. cc);
  }

  -- a paragraph that is held already
  pub Fills-held : old.is_held ≡ true → old.is_spent ≡ false → IsWhole cell old → Fills cell profile old old u u e e reads reads (Ok old.end)
  Fills-held held unspent whole = record {
    limit = refl;
    answer = found (state_with cell profile old) old (Shows-of cell profile old (ap (λ b. b || old.is_spent) held)) old.end old.is_spent whole;
    start = refl;
    in_hand = ap (λ b. b || old.is_spent) held;
    unspent = λ ok. unspent;
    spent = or-false old.is_spent;
    got = [];
    grown = sym (append-nil (state_with cell profile old).held);
    ahead_kept = Keeps-refl (prepend_known (state_with cell profile old).held u);
    begins = BeginsWith-held (state_with cell profile old).held u;
    costs = record { each_gave = λ open_end. omega arith; but_one = omega arith; within = λ less. absurd (omega arith); due = inl (refl, refl) };
    agrees = λ h. h;
    notices = λ h. refl;
    quiet = λ h. (refl, h, refl, λ e. cc);
    still = λ h. ((refl, refl), λ e. cc);
  }

  -- a paragraph that was gathered
  module _ (mid new p : Paragraph) (v : Option (List ℕ)) (e' : Bool) (reads' : Reads) (r : Result (Option Verdict) PassageFault)
      (fresh : (old.is_held || old.is_spent) ≡ false) (feed_is : mid.feed ≡ old.feed) (limit_is : mid.limit ≡ old.limit)
      (g : Gathers cell mid new u v e e' reads reads' r) (feed_same : p.feed ≡ new.feed) (text_same : bytes_in p ≡ bytes_in new)
      (limit_same : p.limit ≡ new.limit) (spent_same : p.is_spent ≡ new.is_spent) (in_hand : (p.is_held || p.is_spent) ≡ true) where
    none_held : text_held old ≡ []
    none_held = ap (λ b. if b then bytes_in old else []) fresh

    text_is : text_held p ≡ bytes_in new
    text_is = ap (λ b. if b then bytes_in p else []) in_hand ∙ text_same

    old_held : (state_with cell profile old).held ≡ mid.feed.held
    old_held = ap (λ l. l ++ old.feed.held) none_held ∙ ap (λ f. f.held) (sym feed_is)

    new_held : (state_with cell profile p).held ≡ bytes_in new ++ new.feed.held
    new_held = ap (λ l. l ++ p.feed.held) text_is ∙ ap (λ f. bytes_in new ++ f.held) feed_same

    read : HasRead cell mid.limit mid.feed (bytes_in new ++ new.feed.held) u v reads reads' (fault_in r)
    read = g.read

    before : (state_with cell profile old).start ≡ mid.feed.given
    before = omega (arith, ap length none_held, ap (λ f. f.given) feed_is)

    due : WasOpen cell mid.limit mid.feed (bytes_in new ++ new.feed.held) reads reads'
        → WereDue (state_with cell profile old) (state_with cell profile p).held reads reads'
    due o =
        let spelt : encode_utf8_all (chars o.text) ≡ o.text = encodes-chars o.text o.utf8 in
        let long = ap length spelt in
        let place : mid.feed.given + length o.text ≡ (state_with cell profile old).start + length (encode_utf8_all (chars o.text)) =
        omega (arith, before, long) in
        record {
          seen = chars o.text;
          rest = o.rest;
          last = o.last;
          bytes = new_held ∙ o.bytes ∙ ap (λ l. l ++ (o.rest ++ o.last)) (sym spelt);
          text = subst IsUtf8 (sym spelt) o.utf8;
          few = few_passages profile cell (chars o.text) o.none_ends;
          unfinished = λ some more. begins_with_all profile cell (chars o.text) more some o.none_ends;
          within = omega (arith, long, o.within, limit_is);
          goes_on = subst (λ n. CanGoOn n o.rest) place o.goes_on;
          is_last = o.is_last;
          holds = omega (arith, long, ap length old_held, o.holds);
          each_gave = omega (arith, long, ap length old_held, o.each_gave);
        }

    pub Fills-gathered : old.is_spent ≡ false → FillAnswers (state_with cell profile p) p old.is_spent r → Fills cell profile old p u v e e' reads reads' r
    Fills-gathered unspent answer =
        let long_old = ap length old_held in
        let long_new = ap length new_held in
        let given_new = ap (λ f. f.given) feed_same in
        record {
          limit = limit_same ∙ g.limit ∙ limit_is;
          answer = answer;
          start = omega (arith, before, ap length text_is, given_new, g.given);
          in_hand = in_hand;
          unspent = λ ok. unspent;
          spent = spent_same ∙ g.spent ∙ ap (λ b. b || ends_run (fault_in r)) (sym unspent);
          got = read.got;
          grown = new_held ∙ read.grown ∙ ap (λ l. l ++ read.got) (sym old_held);
          ahead_kept = subst (λ l. KeepsAhead (fault_in r) (prepend_known l u) (prepend_known (state_with cell profile p).held v)) (sym old_held)
              (subst (λ l. KeepsAhead (fault_in r) (prepend_known mid.feed.held u) (prepend_known l v)) (sym new_held) read.ahead_kept);
          begins = subst (λ l. BeginsWith (state_with cell profile p).held (prepend_known l u)) (sym old_held)
              (subst (λ l. BeginsWith l (prepend_known mid.feed.held u)) (sym new_held) read.begins);
          costs = record {
            each_gave = λ open_end. omega (arith, long_old, long_new, g.each_gave (ap (λ f. ends_run (fault_in r) || f.is_ended) (sym feed_same) ∙ open_end));
            but_one = omega (arith, long_old, long_new, read.but_one);
            within = λ less. omega (arith, long_old, before, read.within less);
            due = ⊎_elim (λ none. inl (new_held ∙ none.0 ∙ sym old_held, none.1)) (λ o. inr (due o)) read.due;
          };
          agrees = λ h at_end. g.agrees (λ k. h (ap (λ f. f.is_ended) (sym feed_is) ∙ k)) (ap (λ f. f.is_ended) (sym feed_same) ∙ at_end);
          notices = λ open_end. g.notices (ap (λ f. f.is_ended) (sym feed_same) ∙ open_end);
          quiet = λ h.
              (let still = g.quiet (ap (λ f. f.is_ended) feed_is ∙ h) in
              (new_held ∙ still.0 ∙ sym old_held, ap (λ f. f.is_ended) feed_same ∙ still.1, still.2, still.3));
          still = λ h. absurd (false≢true (sym fresh ∙ h));
        }

-- a fault that stops a run ends it
pub ends_by_fault : (s : State) (fault : PassageFault) → Stops s fault → ends_run (Some fault) ≡ true
ends_by_fault s Memory stops = absurd stops.lies
ends_by_fault s Limit stops = refl
ends_by_fault s Read stops = refl
ends_by_fault s (NotUtf8 at) stops = refl
ends_by_fault s TextTooLong stops = refl
ends_by_fault s (ParagraphTooLong start) stops = refl
ends_by_fault s Spent stops = refl

-- a paragraph whose end was found
pub Fills-ok : (cell : ℕ → Cell) (profile : Profile) (old : Paragraph) (u : Option (List ℕ)) (e : Bool) (reads : Reads)
    (mid new p : Paragraph) (v : Option (List ℕ)) (e' : Bool) (reads' : Reads) (end : Option Verdict)
    → (old.is_held || old.is_spent) ≡ false → mid.feed ≡ old.feed → mid.limit ≡ old.limit
    → Gathers cell mid new u v e e' reads reads' (Ok end) → p.feed ≡ new.feed → bytes_in p ≡ bytes_in new
    → p.limit ≡ new.limit → p.is_spent ≡ new.is_spent → p.is_held ≡ true → old.is_spent ≡ false → Fills cell profile old p u v e e' reads reads' (Ok end)
Fills-ok cell profile old u e reads mid new p v e' reads' end fresh feed_is limit_is g feed_same text_same limit_same spent_same held unspent =
    let in_hand = ap (λ b. b || p.is_spent) held in
    let whole : IsWholeText cell (bytes_in p) p.feed end =
    subst (λ f. IsWholeText cell (bytes_in p) f end) (sym feed_same)
    (subst (λ l. IsWholeText cell l new.feed end) (sym text_same) g.whole) in
    Fills-gathered cell profile old u e reads mid new p v e' reads' (Ok end) fresh feed_is limit_is g feed_same text_same limit_same spent_same in_hand unspent
    (found (state_with cell profile p) p (Shows-of cell profile p in_hand) end old.is_spent whole)
