-- What stands behind the well-formed bytes, and which fault that is.
use Rattle.std.proofs.Common.{◌≡◌, ◌≢◌, ◌⊎◌, ℕ, ◌+◌, ◌-◌, ◌<◌, ◌≤◌, Bool, true, List, [], ◌∷◌, ◌++◌, length, take, drop, Option, None, Some, refl, sym, ap, subst, ◌∙◌, arith, inl, inr, ⊎_elim, length-drop, length-take, length-append, length-take-le, is_some, cond}
use Rattle.std.specs.Str.Lossy.{utf8_valid_len, utf8_error_len}
use Rattle.std.proofs.lemmas.List.{take-append-drop, take_all, append-nil}
use Rattle.std.proofs.lemmas.Str.{utf8_valid_len_le}
use Rattle.lbk_feed.specs.declared.judge.Stop.{Stop}
use Rattle.lbk_feed.specs.declared.judge.Stop.TheVariants.{Whole, Cut, Faulty}
use Rattle.lbk_feed.specs.Text.{longest_text, well_formed_prefix, after_prefix, counted, IsCutScalar, IsNotUtf8At, IsTooLong}
use Rattle.lbk_feed.specs.Judge.{in_reach, stop_of, IsJudged}
use Rattle.lbk_feed.specs.View.{AfterEach, CanGoOn}
use Rattle.lbk_feed.proofs.Front.{well_formed_prefix-IsUtf8, utf8_valid_len-after}
use Rattle.lbk_feed.proofs.Cut.{none-cut, cut-none, length-cut}
use Rattle.lbk_feed.proofs.Judged.{counted-after, front, rest}

-- what bytes are that follow a longest well-formed prefix
pub data Standing (bs : List ℕ) : Type 0 where
  stands_whole : stop_of bs ≡ Whole → bs ≡ [] → Standing bs
  stands_cut : stop_of bs ≡ Cut → IsCutScalar bs → Standing bs
  stands_faulty : stop_of bs ≡ Faulty → 0 < length bs → ¬ (IsCutScalar bs) → Standing bs

standing : (bs : List ℕ) → utf8_valid_len bs ≡ 0 → Standing bs
standing [] none = stands_whole refl refl
standing (x ∷ xs) none = by (utf8_error_len (x ∷ xs)) refl
  where
    by : (o : Option ℕ) → utf8_error_len (x ∷ xs) ≡ o → Standing (x ∷ xs)
    by None is = stands_cut (ap (λ e. cond (is_some e) Faulty Cut) is) (none-cut (x ∷ xs) (omega arith) none is)
    by (Some n) is = stands_faulty (ap (λ e. cond (is_some e) Faulty Cut) is) (omega arith) (λ cut. let other = cut-none (x ∷ xs) cut in cc)

pub standing-after : (bs : List ℕ) → Standing (after_prefix bs)
standing-after bs =
    let v = utf8_valid_len bs in
    let long = length-take-le v bs (utf8_valid_len_le bs) in
    let split = ap utf8_valid_len (sym (take-append-drop v bs)) ∙ utf8_valid_len-after (take v bs) (drop v bs) (well_formed_prefix-IsUtf8 bs) in
    standing (after_prefix bs) (omega (arith, split, long))

-- at most three bytes can go on
pub few_held : (given : ℕ) (held : List ℕ) → CanGoOn given held → length held < 4
few_held given held goes_on = ⊎_elim
    (λ (none : held ≡ []). omega (arith, ap length none))
    (λ (cut : IsCutScalar held). length-cut held cut)
    goes_on.cut

module _ (held : List ℕ) (given len : ℕ) (stop : Stop) (spent : Bool) (judged : IsJudged held given len stop spent) where
  -- what is left of the bytes in reach, where nothing of them is ready
  all_left : len ≡ 0 → after_prefix (in_reach given held) ≡ in_reach given held
  all_left none = let zero : utf8_valid_len (in_reach given held) ≡ 0 = omega (arith, judged.ready) in ap (λ n. drop n (in_reach given held)) zero

  all_reached : given + length held ≤ longest_text → in_reach given held ≡ held
  all_reached within = take_all (longest_text - given) held (omega arith)

  -- where nothing is ready and nothing at fault, what is held may go on
  pub can_go_on : len ≡ 0 → stop ≢ Faulty → given + length held ≤ longest_text → CanGoOn given held
  can_go_on none fine within = record { within = within; cut = by (standing-after (in_reach given held)) }
    where
      same : after_prefix (in_reach given held) ≡ held
      same = all_left none ∙ all_reached within

      by : Standing (after_prefix (in_reach given held)) → (held ≡ []) ⊎ IsCutScalar held
      by (stands_whole is all) = inl (sym same ∙ all)
      by (stands_cut is cut) = inr (subst IsCutScalar same cut)
      by (stands_faulty is some not_cut) = absurd (fine (judged.stop_is ∙ is))

  place : len ≡ 0 → AfterEach given (λ used. given ≡ length (well_formed_prefix (counted (used ++ held))))
  place none used text long =
      let whole = front held given len stop spent judged used text long in
      omega (arith, none, ap length whole, length-append used (take len held), long, length-take len held)

  counts : AfterEach given (λ used. length (counted (used ++ held)) ≡ given + length (in_reach given held))
  counts used text long = ap length (counted-after used held given long judged.within) ∙ length-append used (in_reach given held) ∙ ap (λ n. n + length (in_reach given held)) long

  pub not_utf8_faulty : len ≡ 0 → stop ≡ Faulty → (ended : Bool) → AfterEach given (λ used. IsNotUtf8At (used ++ held) ended given)
  not_utf8_faulty none faulty ended used text long = by (standing-after (in_reach given held))
    where
      by : Standing (after_prefix (in_reach given held)) → IsNotUtf8At (used ++ held) ended given
      by (stands_whole is all) = absurd (let other = sym faulty ∙ judged.stop_is ∙ is in cc)
      by (stands_cut is cut) = absurd (let other = sym faulty ∙ judged.stop_is ∙ is in cc)
      by (stands_faulty is some not_cut) = record {
        place = place none used text long;
        follows = omega (arith, counts used text long, some, length-drop (utf8_valid_len (in_reach given held)) (in_reach given held));
        why = inl (λ cut. not_cut (subst IsCutScalar (rest held given len stop spent judged used text long) cut));
      }

  pub not_utf8_cut : len ≡ 0 → stop ≢ Faulty → given + length held ≤ longest_text → 0 < length held → (ended : Bool) → ended ≡ true
      → AfterEach given (λ used. IsNotUtf8At (used ++ held) ended given)
  not_utf8_cut none fine within some ended is_ended used text long = by (standing-after (in_reach given held))
    where
      same : after_prefix (in_reach given held) ≡ held
      same = all_left none ∙ all_reached within

      by : Standing (after_prefix (in_reach given held)) → IsNotUtf8At (used ++ held) ended given
      by (stands_whole is all) = absurd (omega (arith, ap length (sym same ∙ all)))
      by (stands_faulty is some not_cut) = absurd (fine (judged.stop_is ∙ is))
      by (stands_cut is cut) = record {
        place = place none used text long;
        follows = omega (arith, counts used text long, ap length (all_reached within));
        why = inr (
          subst IsCutScalar (sym (rest held given len stop spent judged used text long)) cut,
          take_all longest_text (used ++ held) (omega (arith, length-append used held)),
          is_ended,
        );
      }

  pub too_long : stop ≢ Faulty → longest_text < given + length held → AfterEach given (λ used. IsTooLong (used ++ held))
  too_long fine over used text long = by (standing-after (in_reach given held))
    where
      after_is : after_prefix (counted (used ++ held)) ≡ after_prefix (in_reach given held)
      after_is = rest held given len stop spent judged used text long

      more : longest_text < length (used ++ held)
      more = omega (arith, length-append used held)

      by : Standing (after_prefix (in_reach given held)) → IsTooLong (used ++ held)
      by (stands_faulty is some not_cut) = absurd (fine (judged.stop_is ∙ is))
      by (stands_cut is cut) = record { over = more; text = inr (subst IsCutScalar (sym after_is) cut) }
      by (stands_whole is all) =
          let bs = counted (used ++ held) in
          record {
            over = more;
            text = inl (sym (append-nil (well_formed_prefix bs)) ∙ ap (λ l. well_formed_prefix bs ++ l) (sym (after_is ∙ all)) ∙ take-append-drop (utf8_valid_len bs) bs);
          }
