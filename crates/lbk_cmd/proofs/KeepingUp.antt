-- What is settled before a read is written before it.
use Rattle.std.proofs.Common.{◌≡◌, ◌⊎◌, ℕ, ◌+◌, ◌<◌, ◌≤◌, true, false, Bool, List, [], ◌∷◌, ◌++◌, length, take, drop, Option, Result, encode_utf8, encode_utf8_all, sym, ap, subst, ◌∙◌, arith, inl, inr, refl, ⊎_elim, length-append, append_assoc, append-nil}
use Rattle.std.proofs.lemmas.Bool.{false≢true}
use Rattle.std.proofs.lemmas.List.{take-append-drop, take-append-le}
use Rattle.std.proofs.Math.Seq.{take-append_seam}
use Rattle.std.proofs.lemmas.Str.{encode_same, encodes-append}
use Rattle.lbk_feed.specs.Devices.{Reads}
use Rattle.lbk_feed.specs.Text.{IsCutScalar}
use Rattle.lbk_feed.specs.View.{CanGoOn, IsStill}
use Rattle.lbk_passage.specs.Passages.{passages}
use Rattle.lbk_passage.specs.State.{State}
use Rattle.lbk_passage.specs.Next.{AfterNext, BeginsWithAll, WereDue, lent_text}
use Rattle.lbk_passage.specs.declared.faults.PassageFault.{PassageFault}
use Rattle.lbk_passage.specs.declared.passage.Passage.{Passage}
use Rattle.lbk_cmd.specs.Ranges.{ReadsBefore, next_start}
use Rattle.lbk_cmd.specs.Run.{KeepsUp, Writing, passages_by}
use Rattle.lbk_cmd.proofs.Running.{some_bytes, Stands, fresh, goes_on, ended, Standing, Standing-same}
use Rattle.lbk_cmd.proofs.Stopping.{settled_by, settled_none}

-- nothing was read
pub keeps_none : (e : Writing) (reads : Reads) → e.Settled [] [] → KeepsUp e reads reads [] []
unfolding settled_none
keeps_none e reads none = record {
  before = [];
  last = [];
  read = refl;
  is_last = inl (refl, refl);
  each_gave = omega arith;
  written = [];
  later = [];
  is = refl;
  settled = settled_none e none;
  goes_on = record { within = omega arith; cut = inl refl };
}

pub before_none : (e : Writing) (reads : Reads) (none : e.Settled [] []) (end : ℕ) → ReadsBefore end (keeps_none e reads none)
before_none e reads none end = inl (refl, refl)

-- more was written
pub keeps_written : (e : Writing) (from to : Reads) (bytes out line : List ℕ) → KeepsUp e from to bytes out → KeepsUp e from to bytes (out ++ line)
keeps_written e from to bytes out line k = record {
  before = k.before;
  last = k.last;
  read = k.read;
  is_last = k.is_last;
  each_gave = k.each_gave;
  written = k.written;
  later = k.later ++ line;
  is = ap (λ l. l ++ line) k.is ∙ append_assoc k.written k.later line;
  settled = k.settled;
  goes_on = k.goes_on;
}

pub before_written : (e : Writing) (from to : Reads) (bytes out line : List ℕ) (k : KeepsUp e from to bytes out) (end : ℕ) → ReadsBefore end k
    → ReadsBefore end (keeps_written e from to bytes out line k)
unfolding keeps_written
before_written e from to bytes out line k end before = before

-- of a call that left the bytes as they were, none came
pub none_got : (held got : List ℕ) → held ++ got ≡ held → got ≡ []
none_got held [] same = refl
none_got held (x ∷ got) same = absurd (let long = ap length same in omega (arith, long, length-append held (x ∷ got)))

-- a call that made no read
module _ (e : Writing) (from to to' : Reads) (bytes held all got out : List ℕ) (grown : all ≡ held ++ got) (still : IsStill held all to to') (k : KeepsUp e from to bytes out) where
  same_bytes : bytes ++ got ≡ bytes
  same_bytes = ap (λ l. bytes ++ l) (none_got held got (sym grown ∙ still.0)) ∙ append-nil bytes

  none_still : IsStill [] bytes from to → IsStill [] (bytes ++ got) from to'
  none_still none = (same_bytes ∙ none.0, still.1 ∙ none.1)

  keeps_still : KeepsUp e from to' (bytes ++ got) out
  keeps_still = record {
    before = k.before;
    last = k.last;
    read = same_bytes ∙ k.read;
    is_last = ⊎_elim (λ none. inl (none_still none)) (λ (last : length k.last ≡ to.gave). inr (last ∙ ap (λ r. r.gave) (sym still.1))) k.is_last;
    each_gave = omega (arith, ap (λ r. r.count) still.1, k.each_gave);
    written = k.written;
    later = k.later;
    is = k.is;
    settled = k.settled;
    goes_on = k.goes_on;
  }

  before_still : (end : ℕ) → ReadsBefore end k → ReadsBefore end keeps_still
  unfolding keeps_still
  before_still end before = ⊎_elim (λ none. inl (none_still none)) (λ (early : next_start k.settled < end). inr early) before

-- bytes that may go on to a scalar do not begin with one
not_whole : (next : ℕ) (rest last behind : List ℕ) → rest ++ last ≡ encode_utf8 next ++ behind → length (encode_utf8 next) ≤ length rest → IsCutScalar rest → ⊥
not_whole next rest last behind same long cut =
    let n = length (encode_utf8 next) in
    let front : take n rest ≡ encode_utf8 next =
    sym (take-append-le n rest last long) ∙ ap (take n) same ∙ take-append_seam (encode_utf8 next) behind in
    let split : rest ≡ encode_utf8 next ++ drop n rest = sym (take-append-drop n rest) ∙ ap (λ l. l ++ drop n rest) front in
    let whole : encode_utf8 next ++ (drop n rest ++ cut.more) ≡ encode_utf8 cut.scalar ++ [] =
    sym (append_assoc (encode_utf8 next) (drop n rest) cut.more) ∙ ap (λ l. l ++ cut.more) (sym split) ∙ cut.spells ∙ sym (append-nil (encode_utf8 cut.scalar)) in
    let one = encode_same next cut.scalar (drop n rest ++ cut.more) [] whole in
    let lacks = cut.lacks in
    omega (arith, lacks, ap length cut.spells, length-append rest cut.more, ap (λ c. length (encode_utf8 c)) one.0, long)

module _ (e : Writing) (from : Reads) (s : State) (bytes out : List ℕ) (st : Standing e s bytes out) (t : State) (u v : Option (List ℕ)) (e1 e2 : Bool) (r1 r2 : Reads)
    (r : Result (Option Passage) PassageFault) (a : AfterNext s t u v e1 e2 r1 r2 r) (paid : s.is_ended ≡ false → r1.count ≤ from.count + (s.start + length s.held)) where
  -- reads were made, and the end was not met before them
  module _ (open_end : s.is_ended ≡ false) (due : WereDue s (lent_text r ++ t.held) r1 r2) where
    used : List ℕ
    used = encode_utf8_all st.scalars

    -- something was seen behind a passage that was given
    none_seen : due.seen ≡ [] → (st.scalars ≡ []) × (st.given ≡ [])
    none_seen none = by st.stands
      where
        by : Stands e s st.scalars st.given → (st.scalars ≡ []) × (st.given ≡ [])
        by (fresh no_scalars no_given) = (no_scalars, no_given)
        by (goes_on next rest held utf8 near first) =
            let some = some_bytes next in
            let nothing : length (encode_utf8_all due.seen) ≡ 0 = ap (λ l. length (encode_utf8_all l)) none in
            let many = ap length held ∙ length-append (encode_utf8 next) rest in
            let long : length (encode_utf8 next) ≤ length due.rest = omega (arith, due.holds, nothing, many) in
            let same : due.rest ++ due.last ≡ encode_utf8 next ++ (rest ++ a.got) =
            sym (due.bytes ∙ ap (λ l. encode_utf8_all l ++ (due.rest ++ due.last)) none) ∙ a.grown ∙ ap (λ l. l ++ a.got) held ∙ append_assoc (encode_utf8 next) rest a.got in
            absurd (⊎_elim
            (λ (empty : due.rest ≡ []). omega (arith, some, long, ap length empty))
            (λ (cut : IsCutScalar due.rest). not_whole next due.rest due.last (rest ++ a.got) same long cut)
            due.goes_on.cut)
        by (ended held at_end given) = absurd (false≢true (sym open_end ∙ at_end))

    begin_now : length used ≡ s.start
    unfolding used
    begin_now = sym st.start

    in_engine : (more : List ℕ) → BeginsWithAll due.seen (passages s.profile s.cell (due.seen ++ more)) → BeginsWithAll due.seen (passages_by e (due.seen ++ more))
    in_engine more b =
        subst (λ f. BeginsWithAll due.seen (passages f e.cell (due.seen ++ more))) st.profile
        (subst (λ f. BeginsWithAll due.seen (passages s.profile f (due.seen ++ more))) st.cell b)

    keeps_due : KeepsUp e from r2 (bytes ++ a.got) out
    unfolding used settled_by
    keeps_due =
        let before = used ++ (encode_utf8_all due.seen ++ due.rest) in
        let place : s.start + length (encode_utf8_all due.seen) ≡ length (encode_utf8_all (st.scalars ++ due.seen)) =
        omega (arith, begin_now, ap length (encodes-append st.scalars due.seen), length-append used (encode_utf8_all due.seen)) in
        let within = due.goes_on.within in
        record {
          before = before;
          last = due.last;
          read = ap (λ l. l ++ a.got) st.bytes_are ∙ append_assoc used s.held a.got
              ∙ ap (λ l. used ++ l) (sym a.grown ∙ due.bytes ∙ sym (append_assoc (encode_utf8_all due.seen) due.rest due.last))
              ∙ sym (append_assoc used (encode_utf8_all due.seen ++ due.rest) due.last);
          is_last = inr due.is_last;
          each_gave = omega (
            arith,
            due.each_gave,
            paid open_end,
            begin_now,
            length-append used (encode_utf8_all due.seen ++ due.rest),
            length-append (encode_utf8_all due.seen) due.rest,
          );
          written = out;
          later = [];
          is = sym (append-nil out);
          settled = settled_by e s bytes out st (lent_text r ++ t.held) a.got due.seen (due.rest ++ due.last) a.grown (λ h. (a.quiet h).0) due.bytes due.text
              (omega (arith, begin_now, within)) (λ some more. in_engine more (due.unfinished some more)) none_seen before due.rest refl;
          goes_on = subst (λ n. CanGoOn n due.rest) place due.goes_on;
        }

    before_due : (end : ℕ) → s.start < end → ReadsBefore end keeps_due
    unfolding keeps_due settled_by
    before_due end early = inr (omega (arith, early, begin_now, ap (λ l. length (encode_utf8_all l)) st.joined))

  -- a call more, whose reads are made for the passage that begins where the segmenter stands
  module _ (k : KeepsUp e from r1 bytes out) where
    Next : Type 0
    Next = (k' : KeepsUp e from r2 (bytes ++ a.got) out) × ((end : ℕ) → s.start < end → ReadsBefore end k → ReadsBefore end k')

    next : Next
    unfolding Next
    next = by s.is_ended refl
      where
        still : IsStill s.held (lent_text r ++ t.held) r1 r2 → Next
        still none = (
          keeps_still e from r1 r2 bytes s.held (lent_text r ++ t.held) a.got out a.grown none k,
          λ end early before. before_still e from r1 r2 bytes s.held (lent_text r ++ t.held) a.got out a.grown none k end before,
        )

        by : (b : Bool) → s.is_ended ≡ b → Next
        by true is = let quiet = a.quiet is in still (quiet.0, quiet.2)
        by false is = ⊎_elim still (λ due. (keeps_due is due, λ end early before. before_due is due end early)) a.costs.due

    pub keeps_next : (k' : KeepsUp e from r2 (bytes ++ a.got) out) × ((end : ℕ) → s.start < end → ReadsBefore end k → ReadsBefore end k')
    unfolding Next
    keeps_next = next

-- where lines wait, the call is one that makes no read
module _ (e : Writing) (from : Reads) (s : State) (bytes out lines : List ℕ) (st : Standing e s bytes (out ++ lines)) (t : State) (u v : Option (List ℕ)) (e1 e2 : Bool)
    (r1 r2 : Reads) (r : Result (Option Passage) PassageFault) (a : AfterNext s t u v e1 e2 r1 r2 r) (paid : s.is_ended ≡ false → r1.count ≤ from.count + (s.start + length s.held))
    (waits : (lines ≡ []) ⊎ (s.is_settled ≡ true)) (k : KeepsUp e from r1 bytes out) where
  Waiting : Type 0
  Waiting = (k' : KeepsUp e from r2 (bytes ++ a.got) out) × ((end : ℕ) → s.start < end → ReadsBefore end k → ReadsBefore end k')

  waiting : Waiting
  unfolding Waiting
  waiting = ⊎_elim
      (λ (none : lines ≡ []).
      keeps_next e from s bytes out (Standing-same e s bytes (out ++ lines) out (sym (ap (λ l. out ++ l) none ∙ append-nil out)) st) t u v e1 e2 r1 r2 r a paid k)
      (λ (settled : s.is_settled ≡ true). (
        keeps_still e from r1 r2 bytes s.held (lent_text r ++ t.held) a.got out a.grown (a.still settled).0 k,
        λ end early before. before_still e from r1 r2 bytes s.held (lent_text r ++ t.held) a.got out a.grown (a.still settled).0 k end before,
      ))
      waits

  pub keeps_waiting : KeepsUp e from r2 (bytes ++ a.got) out
  unfolding Waiting
  keeps_waiting = waiting.0

  pub before_waiting : (end : ℕ) → s.start < end → ReadsBefore end k → ReadsBefore end keeps_waiting
  unfolding Waiting keeps_waiting
  before_waiting = waiting.1
