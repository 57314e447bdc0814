-- A paragraph that the bytes ready settle, before any read.
use Rattle.std.proofs.Common.{◌≡◌, ◌⊎◌, ℕ, ◌-◌, ◌<◌, ◌≤◌, Bool, true, false, ◌||◌, List, [], ◌∷◌, ◌++◌, length, Option, None, chars, if◌then◌else◌, encode_utf8_all, refl, sym, ap, subst, ◌∙◌, arith, inl, inr, ⊎_elim, append_assoc, append-nil}
use Rattle.std.proofs.Math.Utf8.{scalars}
use Rattle.std.proofs.lemmas.Str.{chars-nil, encodes-append, encodes-chars, scalars-chars}
use Rattle.lbk_feed.specs.Text.{well_formed_prefix, counted}
use Rattle.lbk_feed.specs.View.{IsFront, LendsFront}
use Rattle.lbk_rules.specs.declared.Cell.{Cell}
use Rattle.lbk_values.specs.declared.profile.Profile.{Profile}
use Rattle.lbk_rules.specs.declared.Verdict.{Verdict}
use Rattle.lbk_passage.specs.Gathering.{Reaches, StopsBefore, Takes}
use Rattle.lbk_passage.specs.Next.{IsOpen}
use Rattle.lbk_passage.specs.State.{bytes_in, State, state_with, text_held}
use Rattle.lbk_passage.specs.Stays.{IsWholeText, end_before, ends_at, last_class, stays}
use Rattle.lbk_passage.specs.declared.paragraph.Paragraph.{Paragraph}
use Rattle.lbk_passage.specs.declared.reach.Reach.{Reach}
use Rattle.lbk_passage.specs.declared.reach.ReachEnd.{ReachEnd}
use Rattle.lbk_passage.specs.declared.reach.ReachEnd.TheVariants.{PieceEnds, LineEnds, NoRoom}
use Rattle.lbk_passage.proofs.Gathered.{whole-line}
use Rattle.lbk_passage.proofs.Marking.{few_passages, begins_with_all}
use Rattle.lbk_passage.proofs.Staying.{stays-snoc, length-encode_more}
use Rattle.lbk_passage.proofs.Taking.{IsUtf8-scalars, scalars-left}

-- a state, but for whether what the next call answers was seen
same_state : (s : State) (limit start : ℕ) (held : List ℕ) (is_ended settled is_spent b : Bool) → limit ≡ s.limit → start ≡ s.start → held ≡ s.held
    → is_ended ≡ s.is_ended → is_spent ≡ s.is_spent → settled ≡ b
    → record { cell = s.cell; profile = s.profile; limit = limit; start = start; held = held; is_ended = is_ended; is_settled = settled; is_spent = is_spent }
    ≡ record s { is_settled = b }
same_state s limit start held is_ended settled is_spent b limit_is start_is held_is ended_is spent_is settled_is =
    rw (limit_is, start_is, held_is, ended_is, spent_is, settled_is) refl

module _ (cell : ℕ → Cell) (profile : Profile) (old : Paragraph) where
  module _ (fresh : (old.is_held || old.is_spent) ≡ false) (mid : Paragraph) (none : bytes_in mid ≡ []) (feed_is : mid.feed ≡ old.feed)
      (limit_is : mid.limit ≡ old.limit) (spent_is : mid.is_spent ≡ old.is_spent) where
    none_held : text_held old ≡ []
    none_held = ap (λ b. if b then bytes_in old else []) fresh

    module _ (by : ℕ → Cell) (n : Paragraph) (r : Reach) (t : Takes by None mid n r) where
      text_is : bytes_in n ≡ encode_utf8_all t.taken
      text_is = t.text ∙ ap (λ l. l ++ encode_utf8_all t.taken) none

      -- they settle it
      pub looked_line : record {
        cell = cell;
        profile = profile;
        limit = n.limit;
        start = n.feed.given - length (bytes_in n);
        held = bytes_in n ++ n.feed.held;
        is_ended = n.feed.is_ended;
        is_settled = true;
        is_spent = n.is_spent;
      } ≡ record (state_with cell profile old) { is_settled = true }
      looked_line = same_state (state_with cell profile old) n.limit (n.feed.given - length (bytes_in n)) (bytes_in n ++ n.feed.held)
          n.feed.is_ended true n.is_spent true (t.limit ∙ limit_is)
          (omega (arith, ap length text_is, ap length none_held, t.given, ap (λ f. f.given) feed_is))
          (ap (λ l. l ++ n.feed.held) text_is ∙ sym t.was_held ∙ ap (λ f. f.held) feed_is ∙ sym (ap (λ l. l ++ old.feed.held) none_held))
          (t.ended ∙ ap (λ f. f.is_ended) feed_is) (t.same_spent ∙ spent_is) refl

      scalars_are : chars (bytes_in n) ≡ t.taken
      scalars_are = t.scalars ∙ ap (λ l. l ++ t.taken) (ap chars none ∙ chars-nil)

      pub whole_line : (end : Option Verdict) → r.stop ≡ LineEnds → end ≡ end_before r.last true → IsWholeText by (bytes_in n) n.feed end
      whole_line end is end_is =
          whole-line by None mid n r t (ap (stays by None) scalars_are ∙ t.none_ends) (t.last_is ∙ ap (last_class by None) (sym scalars_are)) end is end_is

-- no line must end in what is ready, or it goes past the limit first
module _ (cell : ℕ → Cell) (profile : Profile) (old : Paragraph) (fresh : (old.is_held || old.is_spent) ≡ false) (room : ℕ)
    (room_is : old.limit ≤ room) (r : Reach) (lends : LendsFront old.feed) (front : IsFront old.feed) (reaches : Reaches cell None old.feed.ready room r) where
  nothing_held : text_held old ≡ []
  nothing_held = ap (λ b. if b then bytes_in old else []) fresh

  all_held : (state_with cell profile old).held ≡ old.feed.held
  all_held = ap (λ l. l ++ old.feed.held) nothing_held

  begins : (state_with cell profile old).start ≡ old.feed.given
  begins = omega (arith, ap length nothing_held)

  open_by : (seen after : List ℕ) → chars old.feed.ready ≡ seen ++ after → stays cell None seen ≡ true
      → (old.limit < length (encode_utf8_all seen)) ⊎ (after ≡ []) → IsOpen (state_with cell profile old)
  open_by seen after is stay how =
      let spelt : old.feed.ready ≡ encode_utf8_all seen ++ encode_utf8_all after =
      sym (encodes-chars old.feed.ready lends.text) ∙ ap encode_utf8_all is ∙ encodes-append seen after in
      record {
        seen = seen;
        rest = encode_utf8_all after ++ lends.rest;
        bytes = all_held ∙ lends.first ∙ ap (λ l. l ++ lends.rest) spelt ∙ append_assoc (encode_utf8_all seen) (encode_utf8_all after) lends.rest;
        text = IsUtf8-scalars seen (scalars-left seen after (ap scalars (sym is) ∙ scalars-chars old.feed.ready lends.text));
        few = few_passages profile cell seen stay;
        unfinished = λ some more. begins_with_all profile cell seen more some stay;
        all_seen = ⊎_elim inl
            (λ (end : after ≡ []).
            inr (λ used utf8 long.
            ap (λ l. used ++ l) (sym (append-nil (encode_utf8_all seen)) ∙ ap (λ l. encode_utf8_all seen ++ encode_utf8_all l) (sym end) ∙ sym spelt)
            ∙ front used utf8 (long ∙ begins) ∙ ap (λ l. well_formed_prefix (counted (used ++ l))) (sym all_held)))
            how;
      }

  pub still_open : ¬ (r.stop ≡ LineEnds) → IsOpen (state_with cell profile old)
  still_open goes = by r.stop refl
    where
      by : (stop : ReachEnd) → r.stop ≡ stop → IsOpen (state_with cell profile old)
      by LineEnds is = absurd (goes is)
      by PieceEnds is =
          open_by reaches.taken reaches.rest reaches.all reaches.none_ends
          (inr (subst (λ k. StopsBefore cell r.last r.len room k reaches.rest) is reaches.stop))
      by NoRoom is =
          let next = subst (λ k. StopsBefore cell r.last r.len room k reaches.rest) is reaches.stop in
          open_by (reaches.taken ++ next.0 ∷ []) next.1
          (reaches.all ∙ ap (λ l. reaches.taken ++ l) next.2 ∙ sym (append_assoc reaches.taken (next.0 ∷ []) next.1))
          (stays-snoc cell None reaches.taken next.0 reaches.none_ends (ap (λ k. ends_at k (cell next.0).class) (sym reaches.last_is) ∙ next.3))
          (inl (omega (arith, next.4, length-encode_more reaches.taken next.0, reaches.len, room_is)))
