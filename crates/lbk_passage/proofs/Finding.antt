-- A paragraph that is held whole is the first passage of the text still to come.
use Rattle.std.proofs.Common.{◌≡◌, ℕ, ◌+◌, ◌≤◌, Bool, true, false, ◌&&◌, not, List, [], ◌∷◌, ◌++◌, length, drop, Option, None, Some, Ok, encode_utf8, encode_utf8_all, IsUtf8, chars, refl, sym, ap, subst, ◌∙◌, arith, inl, inr, length-append, append_assoc, append-nil}
use Rattle.std.proofs.Math.Utf8.{scalar, scalars}
use Rattle.std.proofs.lemmas.Str.{scalars-chars, encodes-chars, encode_same, length-encode, len_utf8_bounds, IsUtf8-from_is_utf8}
use Rattle.lbk_feed.specs.Text.{longest_text}
use Rattle.lbk_rules.specs.declared.Verdict.{Verdict}
use Rattle.lbk_rules.specs.Ends.{ends_between, end_after, end_of_text}
use Rattle.lbk_passage.specs.Marks.{marks, scalars_of, text_of, ended}
use Rattle.lbk_passage.specs.Passages.{passages}
use Rattle.lbk_passage.specs.Stays.{ends_at, stays, last_class, end_before, finds_end, is_nil, IsWholeText}
use Rattle.lbk_passage.specs.State.{bytes_in, State}
use Rattle.lbk_passage.specs.Next.{IsDone}
use Rattle.lbk_passage.specs.Gathering.{IsFirst, FillAnswers}
use Rattle.lbk_passage.specs.declared.paragraph.Paragraph.{Paragraph}
use Rattle.lbk_rules.proofs.MarkLemmas.{last_in, scalars-behind, scalars-ended}
use Rattle.lbk_passage.proofs.Marking.{last_class-in, first_passage, only_passage}
use Rattle.lbk_passage.proofs.Booleans.{both-left, both-right}

is_nil-nil : (l : List ℕ) → is_nil l ≡ true → l ≡ []
is_nil-nil [] h = refl
is_nil-nil (x ∷ xs) h = cc

pub IsUtf8-scalar : (c : ℕ) → scalar c ≡ true → IsUtf8 (encode_utf8 c)
IsUtf8-scalar c is = (c ∷ [], (ap (λ b. b && true) is, append-nil (encode_utf8 c)))

-- how a state shows a paragraph that is held
pub record Shows (s : State) (p : Paragraph) : Type 0 where
  pub limit : s.limit ≡ p.limit
  pub start : s.start + length (bytes_in p) ≡ p.feed.given
  pub held : s.held ≡ bytes_in p ++ p.feed.held
  pub is_ended : s.is_ended ≡ p.feed.is_ended
  pub text : IsUtf8 (bytes_in p)
  pub within : length (bytes_in p) ≤ s.limit

some_bytes : (c : ℕ) → 1 ≤ length (encode_utf8 c)
some_bytes c = let bounds = len_utf8_bounds c in omega (arith, length-encode c, bounds.0)

module _ (s : State) (p : Paragraph) (shows : Shows s p) where
  scalars_are : (end : Verdict) (cs : List ℕ) → scalars_of (ended end (marks s.profile s.cell cs)) ≡ cs
  scalars_are end cs = scalars-ended end (marks s.profile s.cell cs) ∙ scalars-behind s.profile s.cell [] cs

  within : (end : Verdict) → length (text_of (ended end (marks s.profile s.cell (chars (bytes_in p))))) ≤ s.limit
  within end =
      let same = ap (λ l. length (encode_utf8_all l)) (scalars_are end (chars (bytes_in p)))
      ∙ ap length (encodes-chars (bytes_in p) shows.text) in
      omega (arith, same, shows.within)

  module _ (end : Option Verdict) (whole : IsWholeText s.cell (bytes_in p) p.feed end) where
    ready_utf8 : IsUtf8 p.feed.ready
    ready_utf8 = IsUtf8-from_is_utf8 p.feed.ready whole.utf8

    -- no text is left
    done : chars (bytes_in p) ≡ [] → chars p.feed.ready ≡ [] → (is_nil p.feed.held && p.feed.is_ended) ≡ true → IsDone s
    done none ready found = record {
      none = shows.held ∙ ap (λ l. l ++ p.feed.held) (sym (encodes-chars (bytes_in p) shows.text) ∙ ap encode_utf8_all none)
          ∙ is_nil-nil p.feed.held (both-left _ _ found);
      at_end = shows.is_ended ∙ both-right _ _ found;
    }

    counted : s.start + length (bytes_in p) ≤ longest_text
    counted = omega (arith, shows.start, whole.few)

    -- the text ends behind the paragraph
    last : (c : ℕ) (cs : List ℕ) → chars (bytes_in p) ≡ c ∷ cs → stays s.cell (Some (s.cell c).class) cs ≡ true
        → (is_nil p.feed.held && p.feed.is_ended) ≡ true → IsFirst s p end_of_text
    last c cs is none found = record {
      some = omega (arith, ap length is);
      broken = refl;
      comes = record {
        within = within end_of_text;
        follows = inr (record {
          none = is_nil-nil p.feed.held (both-left _ _ found);
          at_end = shows.is_ended ∙ both-right _ _ found;
          first = ap (passages s.profile s.cell) (scalars_are end_of_text (chars (bytes_in p)) ∙ is) ∙ only_passage s.profile s.cell c cs none
              ∙ ap (λ l. ended end_of_text (marks s.profile s.cell l) ∷ []) (sym is);
        });
      };
      counted = counted;
      near = λ next rest e.
          (let none = ap length (sym e ∙ is_nil-nil p.feed.held (both-left _ _ found)) in
          let some = some_bytes next in
          absurd (omega (arith, none, some, length-append (encode_utf8 next) rest)));
    }

    -- text follows it
    followed : (c : ℕ) (cs : List ℕ) (y : ℕ) (ys : List ℕ) → chars (bytes_in p) ≡ c ∷ cs → chars p.feed.ready ≡ y ∷ ys
        → stays s.cell (Some (s.cell c).class) cs ≡ true → ends_between (last_in s.profile s.cell c cs) (s.cell y).class ≡ true
        → IsFirst s p (end_after (last_in s.profile s.cell c cs))
    followed c cs y ys is next none ends =
        let end = end_after (last_in s.profile s.cell c cs) in
        let all : scalars (y ∷ ys) ≡ true = ap scalars (sym next) ∙ scalars-chars p.feed.ready ready_utf8 in
        let ready : p.feed.ready ≡ encode_utf8 y ++ encode_utf8_all ys = sym (encodes-chars p.feed.ready ready_utf8) ∙ ap encode_utf8_all next in
        let behind = drop (length p.feed.ready) p.feed.held in
        record {
          some = omega (arith, ap length is);
          broken = refl;
          comes = record {
            within = within end;
            follows = inl (record {
              next = y;
              rest = encode_utf8_all ys ++ behind;
              bytes = sym whole.first ∙ ap (λ l. l ++ behind) ready ∙ append_assoc (encode_utf8 y) (encode_utf8_all ys) behind;
              scalar = IsUtf8-scalar y (both-left _ (scalars ys) all);
              first = λ more. ap (λ l. passages s.profile s.cell (l ++ y ∷ more)) (scalars_are end (chars (bytes_in p)) ∙ is)
                  ∙ first_passage s.profile s.cell c cs y more none ends
                  ∙ ap (λ l. ended end (marks s.profile s.cell l) ∷ passages s.profile s.cell (y ∷ more)) (sym is);
            });
          };
          counted = counted;
          near = λ next rest e.
              (let held = sym e ∙ sym whole.first ∙ ap (λ l. l ++ behind) ready ∙ append_assoc (encode_utf8 y) (encode_utf8_all ys) behind in
              let same = encode_same next y rest (encode_utf8_all ys ++ behind) held in
              let few = whole.few in
              omega (arith, few, ap (λ x. length (encode_utf8 x)) same.0, ap length ready, length-append (encode_utf8 y) (encode_utf8_all ys)));
        }

  Answered : Option Verdict → Type 0
  Answered None = IsDone s
  Answered (Some end) = IsFirst s p end

  found_by : (end : Option Verdict) → IsWholeText s.cell (bytes_in p) p.feed end → (cs ys : List ℕ)
      → chars (bytes_in p) ≡ cs → chars p.feed.ready ≡ ys
      → stays s.cell None cs ≡ true → finds_end s.cell (last_class s.cell None cs) p.feed ys ≡ true
      → (o : Option Verdict) → o ≡ end_before (last_class s.cell None cs) (not (is_nil ys)) → Answered o
  unfolding Answered
  found_by end whole [] [] is next none found o end_is = subst Answered (sym end_is) (done end whole is next found)
  found_by end whole [] (y ∷ ys) is next none found o end_is = cc
  found_by end whole (c ∷ cs) [] is next none found o end_is =
      subst Answered (sym (end_is ∙ ap (λ k. end_before k false) (last_class-in s.profile s.cell c cs))) (last end whole c cs is none found)
  found_by end whole (c ∷ cs) (y ∷ ys) is next none found o end_is =
      subst Answered (sym (end_is ∙ ap (λ k. end_before k true) (last_class-in s.profile s.cell c cs)))
      (followed end whole c cs y ys is next none (ap (λ k. ends_at k (s.cell y).class) (sym (last_class-in s.profile s.cell c cs)) ∙ found))

  pub found : (end : Option Verdict) (was : Bool) → IsWholeText s.cell (bytes_in p) p.feed end → FillAnswers s p was (Ok end)
  unfolding Answered
  found None was whole =
      found_by None whole (chars (bytes_in p)) (chars p.feed.ready) refl refl whole.none_ends whole.found None whole.end_is
  found (Some end) was whole =
      found_by (Some end) whole (chars (bytes_in p)) (chars p.feed.ready) refl refl whole.none_ends whole.found (Some end) whole.end_is
