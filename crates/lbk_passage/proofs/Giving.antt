-- What a call of `next` leaves, by the answer of the call that fills a paragraph.
use Rattle.std.proofs.Common.{◌≡◌, ◌⊎◌, ℕ, ◌-◌, ◌*◌, ◌<◌, ◌≤◌, Bool, true, false, ◌||◌, List, [], ◌∷◌, ◌++◌, length, Option, None, Some, Result, Ok, Err, is_ok, max, OnOk, OnErr, encode_utf8_all, chars, IsUtf8, if◌then◌else◌, refl, sym, ap, subst, ◌∙◌, arith, inl, inr, ⊎_elim}
use Rattle.std.proofs.Math.Nat.{le-max_left}
use Rattle.std.proofs.lemmas.Str.{chars-nil, encodes-chars}
use Rattle.std.specs.Io.KnownBytes.{prepend_known}
use Rattle.lbk_feed.specs.Devices.{Reads}
use Rattle.lbk_feed.specs.View.{BeginsWith, IsStill}
use Rattle.lbk_rules.specs.declared.Cell.{Cell}
use Rattle.lbk_values.specs.declared.profile.Profile.{Profile}
use Rattle.lbk_rules.specs.declared.Verdict.{Verdict}
use Rattle.lbk_passage.specs.Marks.{Marked, marks, ended, scalars_of, text_of}
use Rattle.lbk_passage.specs.Segments.{segments_of}
use Rattle.lbk_passage.specs.Pieces.{pieces_of}
use Rattle.lbk_passage.specs.Shown.{Found, KeepsRoom, LacksRoom}
use Rattle.lbk_passage.specs.State.{bytes_in, State, state_with, text_held}
use Rattle.lbk_passage.specs.Next.{fault_in, lends as is_lent, lent_text, Answers, AfterNext, IsPlaced, Lends, ComesFirst, GoesOn, GoesOnce, IsDone, IsLast, Stops, KeepsAhead, WereDue}
use Rattle.lbk_passage.specs.Gathering.{Asks, Fills, FillAnswers, IsFirst, IsSame}
use Rattle.lbk_passage.specs.declared.faults.PassageFault.{PassageFault}
use Rattle.lbk_passage.specs.declared.faults.PassageFault.TheVariants.{Limit, Memory, Read, NotUtf8, TextTooLong, ParagraphTooLong, Spent}
use Rattle.lbk_passage.specs.declared.paragraph.Paragraph.{Paragraph}
use Rattle.lbk_passage.specs.declared.passage.Passage.{Passage}
use Rattle.lbk_passage.proofs.Finding.{Shows}
use Rattle.lbk_rules.proofs.MarkLemmas.{scalars-behind, scalars-ended}
use Rattle.lbk_passage.proofs.Gathered.{Shows-of}
use Rattle.lbk_passage.proofs.Settling.{ok_err, some_none}
use Rattle.lbk_passage.proofs.Texts.{IsUtf8-bytes_in}

pub or-cases : (a b : Bool) → (a || b) ≡ true → (a ≡ true) ⊎ (b ≡ true)
or-cases true b h = inl refl
or-cases false b h = inr h

length-scalars : (l : List Marked) → length (scalars_of l) ≡ length l
length-scalars [] = refl
length-scalars (m ∷ l) = let rest = length-scalars l in omega (arith, rest)

-- what an `Ok` says
pub on_ok : {T E : Type 0} (P : Type 0) (r : Result T E) → is_ok r ≡ true → OnOk r P → P
on_ok P (Ok x) is h = h
on_ok P (Err e) is h = cc

-- what an `Err` says
pub on_err : {T E : Type 0} (P : Type 0) (r : Result T E) → is_ok r ≡ false → OnErr r P → P
on_err P (Ok x) is h = cc
on_err P (Err e) is h = h

-- no fault is none of memory
pub no_fault : (P : Type 0) → None ≡ Some Memory → P
no_fault P is = cc

-- room for at most twice so many
pub most_of : (room had : ℕ) {n m : ℕ} → n ≡ m → room ≤ max had (2 * n) → room ≤ max had (2 * m)
most_of room had same most = subst (λ k. room ≤ max had (2 * k)) same most

-- room stays where nothing is found
pub Keeps-same : (found : Found) (s : State) (fault : Option PassageFault) → ¬ (fault ≡ Some Memory) → KeepsRoom found found s fault
Keeps-same found s fault other = record {
  for_segments = omega arith;
  for_pieces = omega arith;
  few_segments = le-max_left found.room_for_segments (2 * length found.segments);
  few_pieces = le-max_left found.room_for_pieces (2 * length found.pieces);
  memory = λ is. absurd (other is);
}

fault-answers : (old s : State) (p : Paragraph) (fault : PassageFault) → FillAnswers s p old.is_spent (Err fault) → Answers old s (Err fault)
fault-answers old s p Limit (inl h) = absurd (let e = h.0 in cc)
fault-answers old s p Limit (inr h) = h
fault-answers old s p Memory (inl h) = absurd (let e = h.0 in cc)
fault-answers old s p Memory (inr h) = absurd h.lies
fault-answers old s p Read (inl h) = absurd (let e = h.0 in cc)
fault-answers old s p Read (inr h) = h
fault-answers old s p (NotUtf8 at) (inl h) = absurd (let e = h.0 in cc)
fault-answers old s p (NotUtf8 at) (inr h) = h
fault-answers old s p TextTooLong (inl h) = absurd (let e = h.0 in cc)
fault-answers old s p TextTooLong (inr h) = h
fault-answers old s p (ParagraphTooLong start) (inl h) = absurd (let e = h.0 in cc)
fault-answers old s p (ParagraphTooLong start) (inr h) = h
fault-answers old s p Spent (inl h) = h.1
fault-answers old s p Spent (inr h) = absurd h.lies

module _ {cell : ℕ → Cell} {profile : Profile} {old p : Paragraph} {u v : Option (List ℕ)} {e e' : Bool} {reads reads' : Reads} where
  -- a fault is `Spent` only where one was answered before
  spent_by : {fault : PassageFault} → Fills cell profile old p u v e e' reads reads' (Err fault) → fault ≡ Spent → old.is_spent ≡ true
  spent_by f is = ⊎_elim (λ a. a.1) (λ stops. absurd (let at_spent : Stops (state_with cell profile p) Spent = subst (Stops (state_with cell profile p)) is stops in at_spent.lies)) f.answer

  -- a paragraph is gathered in memory that is there
  pub never_memory : {fault : PassageFault} → Fills cell profile old p u v e e' reads reads' (Err fault) → ¬ (fault ≡ Memory)
  never_memory f is =
      ⊎_elim (λ a. let e : Spent ≡ Memory = sym a.0 ∙ is in cc)
      (λ stops. let at_memory : Stops (state_with cell profile p) Memory = subst (Stops (state_with cell profile p)) is stops in at_memory.lies) f.answer

  -- an answer that lends nothing, and is of the fault of the call that filled the paragraph, if any
  after-nothing : {r : Result (Option Verdict) PassageFault} (answer : Result (Option Passage) PassageFault) → lent_text answer ≡ [] → is_lent answer ≡ false
      → fault_in answer ≡ fault_in r → Answers (state_with cell profile old) (state_with cell profile p) answer
      → Fills cell profile old p u v e e' reads reads' r
      → AfterNext (state_with cell profile old) (state_with cell profile p) u v e e' reads reads' answer
  after-nothing answer none out same says f = record {
    alike = record { cell = refl; profile = refl; limit = f.limit };
    answer = says;
    start = omega (arith, f.start, ap length none);
    spent = rw same f.spent;
    settled = rw out f.in_hand;
    got = f.got;
    grown = rw none f.grown;
    ahead_kept = rw (none, same) f.ahead_kept;
    begins = rw none f.begins;
    costs = rw (none, same) f.costs;
    agrees = f.agrees;
    notices = f.notices;
    quiet = rw (none, same) f.quiet;
    still = rw (none, same) f.still;
  }

  pub After-fault : {fault : PassageFault} → Fills cell profile old p u v e e' reads reads' (Err fault)
      → AfterNext (state_with cell profile old) (state_with cell profile p) u v e e' reads reads' (Err fault)
  After-fault {fault} f = after-nothing (Err fault) refl refl refl (fault-answers (state_with cell profile old) (state_with cell profile p) p fault f.answer) f

  pub After-none : Fills cell profile old p u v e e' reads reads' (Ok None)
      → AfterNext (state_with cell profile old) (state_with cell profile p) u v e e' reads reads' (Ok None)
  After-none f = after-nothing (Ok None) refl refl refl f.answer f

  module _ {end : Verdict} (f : Fills cell profile old p u v e e' reads reads' (Ok (Some end))) where
    shows : Shows (state_with cell profile p) p
    shows = Shows-of cell profile p f.in_hand

    abbrev text : List ℕ
    text = bytes_in p

    abbrev ms : List Marked
    ms = ended end (marks profile cell (chars text))

    scalars_are : scalars_of ms ≡ chars text
    scalars_are = scalars-ended end (marks profile cell (chars text)) ∙ scalars-behind profile cell [] (chars text)

    text_is : text_of ms ≡ text
    text_is = ap encode_utf8_all scalars_are ∙ encodes-chars (bytes_in p) (IsUtf8-bytes_in p)

    first_is : IsFirst (state_with cell profile p) p end
    first_is = f.answer

    some : 0 < length ms
    some =
        let first = first_is in
        let given = first.some in
        let long = ap length scalars_are in
        let same = length-scalars ms in
        omega (arith, long, same, given)

    comes : ComesFirst (state_with cell profile p) ms p.feed.held
    comes = let first = first_is in first.comes

    pub After-memory : AfterNext (state_with cell profile old) (state_with cell profile p) u v e e' reads reads' (Err Memory)
    After-memory = record {
      alike = record { cell = refl; profile = refl; limit = f.limit };
      answer = record {
        marks = ms;
        some = some;
        behind = p.feed.held;
        bytes = shows.held ∙ ap (λ l. l ++ p.feed.held) (sym text_is);
        comes = comes;
        counted = (let first = first_is in omega (arith, ap length text_is, first.counted));
        near = λ next rest e.
            (let first = first_is in
            let begins = shows.start in
            omega (arith, ap length text_is, begins, first.near next rest e));
      };
      start = omega (arith, f.start);
      spent = f.spent;
      settled = f.in_hand;
      got = f.got;
      grown = f.grown;
      ahead_kept = f.ahead_kept;
      begins = f.begins;
      costs = record { each_gave = f.costs.each_gave; but_one = f.costs.but_one; within = f.costs.within; due = f.costs.due };
      agrees = f.agrees;
      notices = f.notices;
      quiet = λ h. ((f.quiet h).0, (f.quiet h).1, (f.quiet h).2, λ e. cc);
      still = λ h. ((f.still h).0, λ e. cc);
    }

    pub lacks_room : (found : Found) → (found.room_for_segments < length (segments_of ms)) ⊎ (found.room_for_pieces < length (pieces_of cell text))
        → LacksRoom found (state_with cell profile p)
    lacks_room found full = record {
      marks = ms;
      behind = p.feed.held;
      bytes = shows.held ∙ ap (λ l. l ++ p.feed.held) (sym text_is);
      comes = comes;
      full = subst (λ l. (found.room_for_segments < length (segments_of ms)) ⊎ (found.room_for_pieces < length (pieces_of cell l))) (sym text_is) full;
    }

    -- what a passage says of the paragraph
    pub record IsOf (pg : Passage) : Type 0 where
      pub start : pg.start ≡ p.feed.given - length (bytes_in p)
      pub bytes : pg.text.now ≡ bytes_in p
      pub segments : pg.segments.now ≡ segments_of (ended end (marks profile cell (chars (bytes_in p))))
      pub pieces : pg.pieces.now ≡ pieces_of cell (bytes_in p)
      pub ends : pg.end ≡ end

    module _ (q : Paragraph) (pg : Passage) (same : IsSame p q false p.is_spent) (of : IsOf pg) where
      unspent : q.is_spent ≡ false
      unspent = same.spent ∙ f.spent ∙ ap (λ b. b || false) (f.unspent refl)

      out : (q.is_held || q.is_spent) ≡ false
      out = ap (λ b. b || q.is_spent) same.held ∙ unspent

      none_held : text_held q ≡ []
      none_held = ap (λ b. if b then bytes_in q else []) out

      held_is : (state_with cell profile q).held ≡ p.feed.held
      held_is = ap (λ l. l ++ q.feed.held) none_held ∙ ap (λ g. g.held) same.feed

      all_is : pg.text.now ++ (state_with cell profile q).held ≡ (state_with cell profile p).held
      all_is = ap (λ l. l ++ (state_with cell profile q).held) of.bytes ∙ ap (λ l. bytes_in p ++ l) held_is ∙ sym shows.held

      start_is : (state_with cell profile old).start ≡ p.feed.given - length (bytes_in p)
      start_is = let begins = shows.start in omega (arith, f.start, begins)

      ended_is : (state_with cell profile q).is_ended ≡ (state_with cell profile p).is_ended
      ended_is = ap (λ g. g.is_ended) same.feed

      comes_in : ComesFirst (state_with cell profile q) ms (state_with cell profile q).held
      comes_in = subst (ComesFirst (state_with cell profile q) ms) (sym held_is) (record {
        within = omega (arith, comes.within, same.limit);
        follows = ⊎_elim
            (λ (h : GoesOn (state_with cell profile p) ms p.feed.held).
            inl (record { next = h.next; rest = h.rest; bytes = h.bytes; scalar = h.scalar; first = h.first }))
            (λ (h : IsLast (state_with cell profile p) ms p.feed.held).
            inr (record { none = h.none; at_end = ended_is ∙ h.at_end; first = h.first }))
            comes.follows;
      })

      lends : Lends (state_with cell profile old) (state_with cell profile q) pg
      lends = record {
        marks = ms;
        passage = record {
          some = some;
          text = of.bytes ∙ sym text_is;
          utf8 = subst IsUtf8 (sym of.bytes) (IsUtf8-bytes_in p);
          segments = of.segments;
          pieces = of.pieces ∙ ap (pieces_of cell) (sym text_is);
          alone = ap (λ x. ended x (marks profile cell (chars text))) (sym of.ends) ∙ ap (λ l. ended pg.end (marks profile cell l)) (sym scalars_are);
        };
        start = of.start ∙ sym start_is;
        comes = comes_in;
        counted = let first = first_is in
            omega (arith, f.start, ap length of.bytes, first.counted);
        near = λ next rest e.
            (let first = first_is in
            let begins = shows.start in
            omega (arith, f.start, ap length of.bytes, begins, first.near next rest (sym held_is ∙ e)));
      }

      pub After-passage : AfterNext (state_with cell profile old) (state_with cell profile q) u v e e' reads reads' (Ok (Some pg))
      After-passage =
          let long = ap length all_is in
          record {
            alike = record { cell = refl; profile = refl; limit = same.limit ∙ f.limit };
            answer = lends;
            start = let begins = shows.start in
                omega (arith, ap (λ g. g.given) same.feed, ap length none_held, f.start, begins, ap length of.bytes);
            spent = same.spent ∙ f.spent;
            settled = out;
            got = f.got;
            grown = all_is ∙ f.grown;
            ahead_kept = subst (λ l. KeepsAhead None (prepend_known (state_with cell profile old).held u) (prepend_known l v)) (sym all_is) f.ahead_kept;
            begins = subst (λ l. BeginsWith l (prepend_known (state_with cell profile old).held u)) (sym all_is) f.begins;
            costs = record {
              each_gave = λ open_end. omega (arith, long, f.costs.each_gave (sym ended_is ∙ open_end));
              but_one = omega (arith, long, f.costs.but_one);
              within = f.costs.within;
              due = subst (λ l. IsStill (state_with cell profile old).held l reads reads' ⊎ WereDue (state_with cell profile old) l reads reads') (sym all_is) f.costs.due;
            };
            agrees = λ h at_end. f.agrees h (sym ended_is ∙ at_end);
            notices = λ open_end. f.notices (sym ended_is ∙ open_end);
            quiet = λ h. (all_is ∙ (f.quiet h).0, ended_is ∙ (f.quiet h).1, (f.quiet h).2, λ e. cc);
            still = λ h. let none = (f.still h).0 in ((all_is ∙ none.0, none.1), λ e. cc);
          }

      some_text : (l : List ℕ) → 0 < length (chars l) → 0 < length l
      some_text [] h = absurd (let none = ap length chars-nil in omega (arith, h, none))
      some_text (x ∷ xs) h = omega arith

      pub lent_placed : IsPlaced pg
      lent_placed =
          let first = first_is in
          let text_in = some_text (bytes_in p) first.some in
          (omega (arith, text_in, ap length of.bytes), omega (arith, lends.start, lends.counted))

      pub After-lent : AfterNext (state_with cell profile old) (state_with cell profile q) u v e e' reads reads' (Ok (Some pg)) × IsPlaced pg
      After-lent = (After-passage, lent_placed)

-- what a call that goes to the next passage answers, and how often it reads, by the call that fills a paragraph
module _ {R X : Type 0} {cell : ℕ → Cell} {profile : Profile} {old p : Paragraph} {u v : Option (List ℕ)} {e e' : Bool} {reads reads' : Reads}
    {reader reader' : R} {made made' : ℕ} {r : Result (Option Verdict) PassageFault} (f : Fills cell profile old p u v e e' reads reads' r)
    {failure_count : R → ℕ} (asks : Asks failure_count old reader reader' made made' r)
    (again : IsDone (state_with cell profile old) → old.is_spent ≡ false → r ≡ Ok None) where
  goes : (answer : Result (Option X) PassageFault) → (r ≡ Err Spent → answer ≡ Err Spent) → (answer ≡ Err Spent → old.is_spent ≡ true)
      → (r ≡ Ok None → answer ≡ Ok None) → GoesOnce (state_with cell profile old) reader reader' made made' answer
  goes answer refuses only none = record {
    spent = λ was. refuses (asks.refused was);
    spent_only = only;
    again = λ done unspent. none (again done unspent);
    settled = λ seen. ⊎_elim asks.quiet asks.spent (or-cases old.is_held old.is_spent seen);
    ended = asks.ended;
    reads = omega (arith, asks.reads);
  }

  pub Goes-fault : {fault : PassageFault} → r ≡ Err fault → GoesOnce {X = X} (state_with cell profile old) reader reader' made made' (Err fault)
  Goes-fault {fault} was =
      goes (Err fault) (λ is. let same : fault ≡ Spent = cc in ap (λ (f : PassageFault). Err f) same)
      (λ is. spent_by (subst (Fills cell profile old p u v e e' reads reads') was f) (let same : fault ≡ Spent = cc in same))
      (λ is. absurd (ok_err r None fault is was))

  pub Goes-none : r ≡ Ok None → GoesOnce {X = X} (state_with cell profile old) reader reader' made made' (Ok None)
  Goes-none was = goes (Ok None) (λ is. absurd (ok_err r None Spent was is)) (λ is. absurd (ok_err (Ok None) None Spent refl is)) (λ is. refl)

  pub Goes-some : {end : Verdict} → r ≡ Ok (Some end) → (answer : Result (Option X) PassageFault) → ¬ (answer ≡ Err Spent)
      → GoesOnce (state_with cell profile old) reader reader' made made' answer
  Goes-some {end} was answer other =
      goes answer (λ is. absurd (ok_err r (Some end) Spent was is)) (λ is. absurd (other is)) (λ is. absurd (some_none r end was is))

  pub Goes-lent : {end : Verdict} (lent : X) → r ≡ Ok (Some end) → GoesOnce (state_with cell profile old) reader reader' made made' (Ok (Some lent))
  Goes-lent lent was = Goes-some was (Ok (Some lent)) (λ is. ok_err (Ok (Some lent)) (Some lent) Spent refl is)
