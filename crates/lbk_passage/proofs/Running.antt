-- A run: what was given so far, and what comes with the next answer.
use Rattle.std.proofs.Common.{◌≡◌, ℕ, ◌<◌, true, List, [], ◌∷◌, ◌++◌, length, encode_utf8, encode_utf8_all, IsUtf8, chars, refl, sym, ap, ◌∙◌, arith, inl, inr, ⊎_elim, append_assoc, append-nil, length-append}
use Rattle.std.specs.List.{flat_map}
use Rattle.std.proofs.Math.Utf8.{scalar, scalars}
use Rattle.std.proofs.lemmas.Grind.{flat_map-append}
use Rattle.std.proofs.lemmas.Str.{encode_same, encodes-chars, encodes_same, scalars-chars, length-encode, len_utf8_bounds}
use Rattle.lbk_rules.specs.declared.Cell.{Cell}
use Rattle.lbk_values.specs.declared.profile.Profile.{Profile}
use Rattle.lbk_passage.specs.Marks.{Marked, scalars_of, text_of}
use Rattle.lbk_passage.specs.Passages.{passages}
use Rattle.lbk_passage.specs.State.{State}
use Rattle.lbk_passage.specs.Next.{ComesFirst, GoesOn, IsLast, IsDone, Stops}
use Rattle.lbk_passage.specs.Runs.{HasGiven}
use Rattle.lbk_passage.specs.declared.faults.PassageFault.{PassageFault}
use Rattle.lbk_passage.proofs.Finding.{IsUtf8-scalar}
use Rattle.lbk_passage.proofs.Booleans.{both-left}

pub Given-none : (profile : Profile) (cell : ℕ → Cell) (left : List ℕ) → HasGiven profile cell [] left
unfolding passages
Given-none profile cell left = record { before = []; scalars = refl; first = λ c rest more is utf8. refl; whole = λ none. refl }

-- a scalar has a byte
not_nil : (c : ℕ) (rest : List ℕ) → ¬ ([] ≡ encode_utf8 c ++ rest)
not_nil c rest is =
    let long = ap length is ∙ length-append (encode_utf8 c) rest in
    let some = len_utf8_bounds c in
    omega (arith, long, length-encode c, some.0)

-- the first scalar of a text is one
first_scalar : (c : ℕ) (cs : List ℕ) → IsUtf8 (encode_utf8_all (c ∷ cs)) → IsUtf8 (encode_utf8 c)
first_scalar c cs utf8 =
    let same : chars (encode_utf8_all (c ∷ cs)) ≡ c ∷ cs = encodes_same (chars (encode_utf8_all (c ∷ cs))) (c ∷ cs) (encodes-chars (encode_utf8_all (c ∷ cs)) utf8) in
    let all : scalars (c ∷ cs) ≡ true = ap scalars (sym same) ∙ scalars-chars (encode_utf8_all (c ∷ cs)) utf8 in
    IsUtf8-scalar c (both-left (scalar c) (scalars cs) all)

scalars-snoc : (given : List (List Marked)) (ms : List Marked) → flat_map scalars_of (given ++ ms ∷ []) ≡ flat_map scalars_of given ++ scalars_of ms
scalars-snoc given ms = flat_map-append scalars_of given (ms ∷ []) ∙ ap (λ l. flat_map scalars_of given ++ l) (append-nil (scalars_of ms))

module _ (s : State) (given : List (List Marked)) where
  module _ (m : Marked) (ms : List Marked) (behind : List ℕ) (utf8 : IsUtf8 (text_of (m ∷ ms))) (h : HasGiven s.profile s.cell given (text_of (m ∷ ms) ++ behind)) where
    -- the passages of what was given, and then of a text that begins with this passage
    on : (more : List ℕ) → passages s.profile s.cell (h.before ++ (scalars_of (m ∷ ms) ++ more)) ≡ given ++ passages s.profile s.cell (scalars_of (m ∷ ms) ++ more)
    on more = h.first m.scalar (encode_utf8_all (scalars_of ms) ++ behind) (scalars_of ms ++ more)
        (append_assoc (encode_utf8 m.scalar) (encode_utf8_all (scalars_of ms)) behind) (first_scalar m.scalar (scalars_of ms) utf8)

    followed : GoesOn s (m ∷ ms) behind → HasGiven s.profile s.cell (given ++ (m ∷ ms) ∷ []) behind
    followed goes = record {
      before = h.before ++ scalars_of (m ∷ ms);
      scalars = scalars-snoc given (m ∷ ms) ∙ ap (λ l. l ++ scalars_of (m ∷ ms)) h.scalars;
      first = λ c rest more is scalar_is.
          let same : c ≡ goes.next = (encode_same c goes.next rest goes.rest (sym is ∙ goes.bytes)).0 in
          ap (passages s.profile s.cell) (append_assoc h.before (scalars_of (m ∷ ms)) (c ∷ more))
          ∙ on (c ∷ more)
          ∙ ap (λ l. given ++ l) (ap (λ k. passages s.profile s.cell (scalars_of (m ∷ ms) ++ k ∷ more)) same ∙ goes.first more
          ∙ ap (λ k. (m ∷ ms) ∷ passages s.profile s.cell (k ∷ more)) (sym same))
          ∙ sym (append_assoc given ((m ∷ ms) ∷ []) (passages s.profile s.cell (c ∷ more)));
      whole = λ none. absurd (not_nil goes.next goes.rest (sym none ∙ goes.bytes));
    }

    ended : IsLast s (m ∷ ms) behind → HasGiven s.profile s.cell (given ++ (m ∷ ms) ∷ []) behind
    ended last = record {
      before = h.before ++ scalars_of (m ∷ ms);
      scalars = scalars-snoc given (m ∷ ms) ∙ ap (λ l. l ++ scalars_of (m ∷ ms)) h.scalars;
      first = λ c rest more is scalar_is. absurd (not_nil c rest (sym last.none ∙ is));
      whole = λ none. ap (λ l. passages s.profile s.cell (h.before ++ l)) (sym (append-nil (scalars_of (m ∷ ms)))) ∙ on []
          ∙ ap (λ l. given ++ l) (ap (passages s.profile s.cell) (append-nil (scalars_of (m ∷ ms))) ∙ last.first);
    }

  pub Given-more : (passage : List Marked) (behind : List ℕ) → 0 < length passage → IsUtf8 (text_of passage)
      → HasGiven s.profile s.cell given (text_of passage ++ behind) → ComesFirst s passage behind → HasGiven s.profile s.cell (given ++ passage ∷ []) behind
  Given-more [] behind some utf8 h comes = absurd (omega arith)
  Given-more (m ∷ ms) behind some utf8 h comes = ⊎_elim (followed m ms behind utf8 h) (ended m ms behind utf8 h) comes.follows

  -- what comes first still does, where more bytes are behind it
  further : (passage : List Marked) (behind unread : List ℕ) → (s.is_ended ≡ true → unread ≡ []) → ComesFirst s passage behind → ComesFirst s passage (behind ++ unread)
  further passage behind unread at_end comes = record {
    within = comes.within;
    follows = ⊎_elim
        (λ (goes : GoesOn s passage behind).
        inl (record {
          next = goes.next;
          rest = goes.rest ++ unread;
          bytes = ap (λ l. l ++ unread) goes.bytes ∙ append_assoc (encode_utf8 goes.next) goes.rest unread;
          scalar = goes.scalar;
          first = goes.first;
        }))
        (λ (last : IsLast s passage behind).
        inr (record { none = ap (λ l. l ++ unread) last.none ∙ at_end last.at_end; at_end = last.at_end; first = last.first }))
        comes.follows;
  }

  pub Given-further : (passage : List Marked) (behind unread : List ℕ) → 0 < length passage → IsUtf8 (text_of passage) → (s.is_ended ≡ true → unread ≡ [])
      → HasGiven s.profile s.cell given (text_of passage ++ (behind ++ unread)) → ComesFirst s passage behind
      → HasGiven s.profile s.cell (given ++ passage ∷ []) (behind ++ unread)
  Given-further passage behind unread some utf8 at_end h comes = Given-more passage (behind ++ unread) some utf8 h (further passage behind unread at_end comes)

  pub Given-all : HasGiven s.profile s.cell given s.held → IsDone s → passages s.profile s.cell (flat_map scalars_of given) ≡ given
  Given-all h done = ap (passages s.profile s.cell) h.scalars ∙ h.whole done.none

  pub Given-stopped : (fault : PassageFault) (unread : List ℕ) (stops : Stops s fault) → HasGiven s.profile s.cell given (s.held ++ unread) → 0 < length stops.seen → (more : List ℕ)
      → passages s.profile s.cell (flat_map scalars_of given ++ (stops.seen ++ more)) ≡ given ++ passages s.profile s.cell (stops.seen ++ more)
  Given-stopped fault unread stops h some more =
      ap (λ l. passages s.profile s.cell (l ++ (stops.seen ++ more))) h.scalars ∙ by stops.seen stops.text some stops.bytes h
    where
      by : (seen : List ℕ) → IsUtf8 (encode_utf8_all seen) → 0 < length seen → s.held ≡ encode_utf8_all seen ++ stops.rest
          → (h : HasGiven s.profile s.cell given (s.held ++ unread)) → passages s.profile s.cell (h.before ++ (seen ++ more)) ≡ given ++ passages s.profile s.cell (seen ++ more)
      by [] text some is h = absurd (omega arith)
      by (c ∷ cs) text some is h =
          h.first c ((encode_utf8_all cs ++ stops.rest) ++ unread) (cs ++ more)
          (ap (λ l. l ++ unread) (is ∙ append_assoc (encode_utf8 c) (encode_utf8_all cs) stops.rest) ∙ append_assoc (encode_utf8 c) (encode_utf8_all cs ++ stops.rest) unread)
          (first_scalar c cs text)
