-- What the numbers kept beside the bytes held say of all that was read.
use Rattle.std.proofs.Common.{◌≡◌, ℕ, ◌+◌, ◌-◌, ◌≤◌, Bool, true, false, List, [], ◌++◌, length, take, drop, IsUtf8, refl, sym, ap, subst, ◌∙◌, arith, length-take, length-take-le}
use Rattle.std.specs.Str.Lossy.{utf8_valid_len}
use Rattle.std.proofs.lemmas.List.{take-take, take_at, drop_at, drop-drop, take-append-drop, drop-take, take_all, drop_all}
use Rattle.std.proofs.lemmas.Str.{utf8_valid_len_le, utf8_valid_len-IsUtf8, IsUtf8-nil}
use lib.Seq.{take-add}
use Rattle.lbk_feed.specs.declared.judge.Stop.{Stop}
use Rattle.lbk_feed.specs.declared.judge.Stop.TheVariants.{Whole}
use Rattle.lbk_feed.specs.Text.{longest_text, well_formed_prefix, after_prefix, counted}
use Rattle.lbk_feed.specs.Judge.{in_reach, stop_of, IsJudged}
use Rattle.lbk_feed.specs.View.{AfterEach, LendsFront}
use Rattle.lbk_feed.proofs.Front.{well_formed_prefix-IsUtf8, utf8_valid_len-after}

-- after a text that was used up, the bytes counted are that text and those in reach
pub counted-after : (used held : List ℕ) (given : ℕ) → length used ≡ given → given ≤ longest_text → counted (used ++ held) ≡ used ++ in_reach given held
counted-after used held given long within =
    let room = longest_text - given in
    let parts : longest_text ≡ given + room = omega arith in
    ap (λ n. take n (used ++ held)) parts ∙ take-add given room (used ++ held)
    ∙ ap (λ l. l ++ take room (drop given (used ++ held))) (take_at used held given long)
    ∙ ap (λ l. used ++ take room l) (drop_at used held given long)

-- the longest prefix of a text and more
pub prefix-after : (used bs : List ℕ) → IsUtf8 used → well_formed_prefix (used ++ bs) ≡ used ++ well_formed_prefix bs
prefix-after used bs text =
    let v = utf8_valid_len bs in
    ap (λ n. take n (used ++ bs)) (utf8_valid_len-after used bs text) ∙ take-add (length used) v (used ++ bs)
    ∙ ap (λ l. l ++ take v (drop (length used) (used ++ bs))) (take_at used bs _ refl) ∙ ap (λ l. used ++ take v l) (drop_at used bs _ refl)

pub rest-after : (used bs : List ℕ) → IsUtf8 used → after_prefix (used ++ bs) ≡ after_prefix bs
rest-after used bs text =
    let v = utf8_valid_len bs in
    ap (λ n. drop n (used ++ bs)) (utf8_valid_len-after used bs text) ∙ sym (drop-drop v (length used) (used ++ bs))
    ∙ ap (λ l. drop v l) (drop_at used bs _ refl)

module _ (held : List ℕ) (given len : ℕ) (stop : Stop) (spent : Bool) (judged : IsJudged held given len stop spent) where
  pub ready_within : len ≤ length (in_reach given held)
  ready_within = omega (arith, judged.ready, utf8_valid_len_le (in_reach given held))

  pub ready_held : len ≤ length held
  ready_held = omega (arith, ready_within, length-take (longest_text - given) held)

  pub ready_counted : given + len ≤ longest_text
  ready_counted = omega (arith, judged.within, ready_within, length-take (longest_text - given) held)

  pub ready-prefix : take len held ≡ well_formed_prefix (in_reach given held)
  ready-prefix =
      let room = longest_text - given in
      let fits : len ≤ room = omega (arith, ready_counted) in
      sym (take-take len room held fits) ∙ ap (λ n. take n (in_reach given held)) judged.ready

  pub ready-IsUtf8 : IsUtf8 (take len held)
  ready-IsUtf8 = subst IsUtf8 (sym ready-prefix) (well_formed_prefix-IsUtf8 (in_reach given held))

  pub front : AfterEach given (λ used. used ++ take len held ≡ well_formed_prefix (counted (used ++ held)))
  front used text long =
      ap (λ l. used ++ l) ready-prefix ∙ sym (prefix-after used (in_reach given held) text)
      ∙ ap well_formed_prefix (sym (counted-after used held given long judged.within))

  pub rest : AfterEach given (λ used. after_prefix (counted (used ++ held)) ≡ after_prefix (in_reach given held))
  rest used text long = ap after_prefix (counted-after used held given long judged.within) ∙ rest-after used (in_reach given held) text

  pub lends : (behind : List ℕ) (ended : Bool) → LendsFront (record { held = held; ready = take len held; behind = behind; given = given; is_ended = ended; is_spent = spent })
  lends behind ended = record {
    text = ready-IsUtf8;
    rest = drop len held;
    first = sym (take-append-drop len held);
    few = omega (arith, ready_counted, length-take-le len held ready_held);
  }

  -- the same after the first n bytes are used up
  pub judged-drop : (n : ℕ) → n ≤ len → IsUtf8 (take n (take len held)) → IsJudged (drop n held) (given + n) (len - n) stop spent
  judged-drop n within text =
      let reach = in_reach given held in
      let room = longest_text - (given + n) in
      let counts = ready_counted in
      let parts : longest_text - given ≡ n + room = omega arith in
      let later : drop n reach ≡ in_reach (given + n) (drop n held) =
      ap (λ k. drop n (take k held)) parts ∙ drop-take n room held in
      let used = take n reach in
      let long : length used ≡ n = length-take-le n reach (omega (arith, ready_within)) in
      let is_text : IsUtf8 used =
      subst IsUtf8 (take-take n len held within ∙ sym (take-take n (longest_text - given) held (omega arith))) text in
      let split : reach ≡ used ++ in_reach (given + n) (drop n held) =
      sym (take-append-drop n reach) ∙ ap (λ l. used ++ l) later in
      let whole : utf8_valid_len reach ≡ n + utf8_valid_len (in_reach (given + n) (drop n held)) =
      ap utf8_valid_len split ∙ utf8_valid_len-after used _ is_text ∙ ap (λ k. k + utf8_valid_len (in_reach (given + n) (drop n held))) long in
      record {
        within = omega arith;
        ready = omega (arith, whole, judged.ready);
        stop_is = judged.stop_is ∙ ap stop_of (ap after_prefix split ∙ rest-after used _ is_text);
        spent = λ is. omega (arith, judged.spent is);
      }

  -- where nothing is held, nothing stands there
  pub stop-nil : held ≡ [] → stop ≡ Whole
  stop-nil none =
      let reach : in_reach given held ≡ [] = ap (λ l. in_reach given l) none ∙ take_all (longest_text - given) [] (omega arith) in
      judged.stop_is ∙ ap (λ l. stop_of (after_prefix l)) reach ∙ ap stop_of (drop_all (utf8_valid_len []) [] (omega arith))

  -- the same after a fault
  pub judged-spent : length (take len held) ≡ 0 → IsJudged held given len stop true
  judged-spent none = record {
    within = judged.within;
    ready = judged.ready;
    stop_is = judged.stop_is;
    spent = λ is. omega (arith, none, length-take-le len held ready_held);
  }

  -- what is ready after that use
  pub ready-drop : (n : ℕ) → n ≤ len → take (len - n) (drop n held) ≡ drop n (take len held)
  ready-drop n within =
      let parts : len ≡ n + (len - n) = omega arith in
      sym (ap (λ k. drop n (take k held)) parts ∙ drop-take n (len - n) held)

-- nothing was read yet
pub judged-nil : (held : List ℕ) → held ≡ [] → IsJudged held 0 0 Whole false
judged-nil held none =
    let reach : in_reach 0 held ≡ [] = drop-nil held none in
    record {
      within = omega arith;
      ready = sym (ap utf8_valid_len reach ∙ utf8_valid_len-IsUtf8 [] IsUtf8-nil);
      stop_is = sym (ap (λ l. stop_of (after_prefix l)) reach ∙ ap stop_of (drop_all (utf8_valid_len []) [] (omega arith)));
      spent = λ is. refl;
    }
  where
    drop-nil : (held : List ℕ) → held ≡ [] → in_reach 0 held ≡ []
    drop-nil held none = ap (λ l. in_reach 0 l) none ∙ take_all (longest_text - 0) [] (omega arith)
