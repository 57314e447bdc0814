-- After a word boundary what comes does not depend on what was before (UAX #29, section 4.1).
use Rattle.std.proofs.Common.{◌≡◌, ◌⊎◌, inl, inr, ⊎_elim, ℕ, Bool, true, false, cond, not, ◌&&◌, ◌||◌, Option, Some, None, List, [], ◌∷◌, append-nil, unwrap_or, refl, sym, ap, ap₂, subst, ◌∙◌}
use Rattle.ucd_breaks.specs.WordBreak.{word_break}
use Rattle.ucd_breaks.specs.declared.WordBreak.{WordBreak}
use Rattle.ucd_breaks.specs.declared.WordBreak.TheVariants.{Cr, Extend, Format, Lf, Newline, Other, Zwj}
use Rattle.ucd_emoji.specs.Binary.{is_extended_pictographic}
use Rattle.unicode_segmentation.specs.Segments.{cut, prepend}
use Rattle.unicode_segmentation.specs.Word.{break_by_pair, is_ah_letter, is_double_quote, is_hebrew_letter, is_ignored, is_mid_letter, is_mid_num, is_numeric, is_regional, is_word_break, joins, significant, starts_with_half_flag, value_at}
use Rattle.unicode_segmentation.proofs.WordLemmas.{significant-ignored, significant-kept}
use Rattle.lbk_words.specs.Contexts.{Context, breaks_by, context_after, context_of}
use Rattle.lbk_words.proofs.Booleans.{and-false, or_parts}
use Rattle.lbk_words.proofs.ContextLemmas.{context-after, decided-inside}

abbrev pub is_line_end : WordBreak → Bool
is_line_end Newline = true
is_line_end Cr = true
is_line_end Lf = true
is_line_end _ = false

-- Two neighbours

-- before what WB4 passes over there is a boundary behind the end of a line alone
pair-ignored : (left right : WordBreak) (pict : Bool) → is_ignored right ≡ true → break_by_pair left right pict ≡ Some (is_line_end left)
pair-ignored Zwj Extend true ignored = refl
pair-ignored Zwj Extend false ignored = refl
pair-ignored Zwj Format true ignored = refl
pair-ignored Zwj Format false ignored = refl
pair-ignored Zwj Zwj true ignored = refl
pair-ignored Zwj Zwj false ignored = refl
pair-ignored _ Extend pict ignored = refl
pair-ignored _ Format pict ignored = refl
pair-ignored _ Zwj pict ignored = refl
pair-ignored left _ pict ignored = cc

-- two neighbours alone make a boundary where one of them ends a line
pair-breaks : (left right : WordBreak) (pict : Bool) → break_by_pair left right pict ≡ Some true → (is_line_end left ≡ true) ⊎ (is_line_end right ≡ true)
pair-breaks Newline right pict found = inl refl
pair-breaks Cr right pict found = inl refl
pair-breaks Lf right pict found = inl refl
pair-breaks _ Newline pict found = inr refl
pair-breaks _ Cr pict found = inr refl
pair-breaks _ Lf pict found = inr refl
pair-breaks Zwj Extend true found = cc
pair-breaks _ Extend true found = cc
pair-breaks _ _ true found = cc
pair-breaks _ _ false found = cc

-- Joined or not

-- no rule names the end of a line
joins-line_end : (far_left left right far_right : WordBreak) → is_line_end left ≡ true → joins far_left left right far_right ≡ false
joins-line_end far_left Newline right far_right ends = simp and-false
joins-line_end far_left Cr right far_right ends = simp and-false
joins-line_end far_left Lf right far_right ends = simp and-false
joins-line_end far_left _ right far_right ends = cc

joins-other : (far_left right far_right : WordBreak) → joins far_left Other right far_right ≡ false
joins-other far_left right far_right = simp and-false

joins-far_line_end : (far_left left right far_right : WordBreak) → is_line_end far_left ≡ true
    → joins far_left left right far_right ≡ joins Other left right far_right
joins-far_line_end Newline left right far_right ends = refl
joins-far_line_end Cr left right far_right ends = refl
joins-far_line_end Lf left right far_right ends = refl
joins-far_line_end _ left right far_right ends = cc

-- where a rule that looks ahead joins nothing, the rule that looks back joins nothing one further
joins-apart : (far_left left right far_right more : WordBreak) → joins far_left left right far_right ≡ false
    → joins left right far_right more ≡ joins Other right far_right more
joins-apart far_left left right far_right more apart =
    let past_13b = or_parts _ _ apart in
    let past_13a = or_parts _ _ past_13b.0 in
    let past_13 = or_parts _ _ past_13a.0 in
    let past_12 = or_parts _ _ past_13.0 in
    let past_11 = or_parts _ _ past_12.0 in
    let past_10 = or_parts _ _ past_11.0 in
    let past_9 = or_parts _ _ past_10.0 in
    let past_8 = or_parts _ _ past_9.0 in
    let past_7c = or_parts _ _ past_8.0 in
    let past_7b = or_parts _ _ past_7c.0 in
    let past_7a = or_parts _ _ past_7b.0 in
    let past_7 = or_parts _ _ past_7a.0 in
    let past_6 = or_parts _ _ past_7.0 in
    let letters : (is_ah_letter left && is_mid_letter right && is_ah_letter far_right) ≡ false = past_6.1 in
    let hebrew : (is_hebrew_letter left && is_double_quote right && is_hebrew_letter far_right) ≡ false = past_7b.1 in
    let numbers : (is_numeric left && is_mid_num right && is_numeric far_right) ≡ false = past_12.1 in
    rw (letters, hebrew, numbers)

-- Two contexts

-- they decide alike over the scalars that come
pub record Alike (x y : Context) (cs : List ℕ) : Type 0 where
  pub last : x.last ≡ y.last
  pub flag : x.half_flag ≡ y.half_flag
  pub here : (more : WordBreak) → joins x.far_left x.left (value_at (significant cs) 0) more ≡ joins y.far_left y.left (value_at (significant cs) 0) more
  pub next : (left right far_right : WordBreak) → joins x.left left right far_right ≡ joins y.left left right far_right

alike-breaks : (x y : Context) (c : ℕ) (cs : List ℕ) (far_right : WordBreak) → Alike x y (c ∷ cs) → breaks_by x c far_right ≡ breaks_by y c far_right
alike-breaks x y c cs far_right alike =
    let value = word_break c in
    let pict = is_extended_pictographic c in
    (elim (is_ignored value) as (λ b. is_ignored value ≡ b → breaks_by x c far_right ≡ breaks_by y c far_right) [
      | true ↦ λ ignored.
          ap (λ o. unwrap_or o (not (joins x.far_left x.left value far_right || (x.half_flag && is_regional value)))) (pair-ignored x.last value pict ignored)
          ∙ ap is_line_end alike.last
          ∙ sym (ap (λ o. unwrap_or o (not (joins y.far_left y.left value far_right || (y.half_flag && is_regional value)))) (pair-ignored y.last value pict ignored))
      | false ↦ λ kept.
          let first : value_at (significant (c ∷ cs)) 0 ≡ value = ap (λ values. value_at values 0) (significant-kept c cs kept) in
          let same : joins x.far_left x.left value far_right ≡ joins y.far_left y.left value far_right =
          subst (λ v. joins x.far_left x.left v far_right ≡ joins y.far_left y.left v far_right) first (alike.here far_right) in
          ap (λ l. unwrap_or (break_by_pair l value pict) (not (joins x.far_left x.left value far_right || (x.half_flag && is_regional value)))) alike.last
          ∙ ap₂ (λ j f. unwrap_or (break_by_pair y.last value pict) (not (j || (f && is_regional value)))) same alike.flag
    ]) refl

alike-after : (x y : Context) (c : ℕ) (cs : List ℕ) → Alike x y (c ∷ cs) → Alike (context_after x (word_break c)) (context_after y (word_break c)) cs
alike-after x y c cs alike =
    let value = word_break c in
    (elim (is_ignored value) as (λ b. is_ignored value ≡ b
    → Alike (cond b (record { last = value; left = x.left; far_left = x.far_left; half_flag = x.half_flag }) (record { last = value; left = value; far_left = x.left; half_flag = is_regional value && not x.half_flag }))
    (cond b (record { last = value; left = y.left; far_left = y.far_left; half_flag = y.half_flag }) (record { last = value; left = value; far_left = y.left; half_flag = is_regional value && not y.half_flag })) cs) [
      | true ↦ λ ignored. record {
        last = refl;
        flag = alike.flag;
        here = λ more. subst (λ values. joins x.far_left x.left (value_at values 0) more ≡ joins y.far_left y.left (value_at values 0) more) (significant-ignored c cs ignored) (alike.here more);
        next = alike.next;
      }
      | false ↦ λ kept. record {
        last = refl;
        flag = ap (λ f. is_regional value && not f) alike.flag;
        here = λ more. alike.next value (value_at (significant cs) 0) more;
        next = λ left right far_right. refl;
      }
    ]) refl

-- A boundary

-- what the context knows of the end of a line
pub record KnowsLines (x : Context) : Type 0 where
  pub left : is_line_end x.last ≡ true → is_line_end x.left ≡ true
  pub flag : is_line_end x.last ≡ true → x.half_flag ≡ false

line_end-kept : (value : WordBreak) → is_line_end value ≡ true → (is_ignored value ≡ false) × (is_regional value ≡ false)
line_end-kept Newline ends = (refl, refl)
line_end-kept Cr ends = (refl, refl)
line_end-kept Lf ends = (refl, refl)
line_end-kept _ ends = cc

knows-lines : (last : ℕ) (before : List ℕ) → KnowsLines (context_of (last ∷ before))
unfolding starts_with_half_flag
knows-lines last before = record {
  left = λ ends.
      let kept = (line_end-kept (word_break last) ends).0 in
      ap (λ values. is_line_end (value_at values 0)) (significant-kept last before kept) ∙ ends;
  flag = λ ends.
      let kept = line_end-kept (word_break last) ends in
      ap starts_with_half_flag (significant-kept last before kept.0)
      ∙ ap (λ b. b && not (starts_with_half_flag (significant before))) kept.1;
}

not-true : (b : Bool) → not b ≡ true → b ≡ false
not-true true e = cc
not-true false e = refl

-- behind a boundary it decides as the context of no scalars
module _ (x : Context) (knows : KnowsLines x) (c : ℕ) (cs : List ℕ) where
  abbrev value : WordBreak
  value = word_break c

  abbrev ahead : WordBreak
  ahead = value_at (significant cs) 0

  abbrev joined : Bool
  joined = joins x.far_left x.left value ahead || (x.half_flag && is_regional value)

  abbrev pair : Option Bool
  pair = break_by_pair x.last value (is_extended_pictographic c)

  by-pair : breaks_by x c ahead ≡ true → (is_line_end x.last ≡ true) ⊎ ((is_line_end value ≡ true) ⊎ (joined ≡ false))
  by-pair breaks =
      (elim pair as (λ o. pair ≡ o → unwrap_or o (not joined) ≡ true → (is_line_end x.last ≡ true) ⊎ ((is_line_end value ≡ true) ⊎ (joined ≡ false))) [
        | None ↦ λ none open_. inr (inr (not-true joined open_))
        | Some b ↦ (elim b as (λ b. pair ≡ Some b → b ≡ true → (is_line_end x.last ≡ true) ⊎ ((is_line_end value ≡ true) ⊎ (joined ≡ false))) [
          | true ↦ λ found yes. ⊎_elim (λ ends. inl ends) (λ ends. inr (inl ends)) (pair-breaks x.last value (is_extended_pictographic c) found)
          | false ↦ λ found yes. cc
        ])
      ]) refl breaks

  flag-fresh : breaks_by x c ahead ≡ true → (is_regional value && not x.half_flag) ≡ (is_regional value && not false)
  flag-fresh breaks =
      (elim (is_regional value) as (λ b. is_regional value ≡ b → (b && not x.half_flag) ≡ (b && not false)) [
        | true ↦ λ regional.
            let odd : x.half_flag ≡ false =
            ⊎_elim knows.flag (λ rest. ⊎_elim (λ ends. absurd (let kept = (line_end-kept value ends).1 in let no : ⊥ = cc in no)) (λ apart.
            let both = (or_parts (joins x.far_left x.left value ahead) (x.half_flag && is_regional value) apart).1 in
            half-off x.half_flag (sym (ap (λ b. x.half_flag && b) regional) ∙ both)) rest) (by-pair breaks) in
            ap not odd
        | false ↦ λ other. refl
      ]) refl
    where
      half-off : (b : Bool) → (b && true) ≡ false → b ≡ false
      half-off true e = e
      half-off false e = refl

  here-fresh : breaks_by x c ahead ≡ true → (more : WordBreak) → joins x.left value ahead more ≡ joins Other value ahead more
  here-fresh breaks more =
      ⊎_elim (λ ends. joins-far_line_end x.left value ahead more (knows.left ends))
      (λ rest. ⊎_elim (λ ends. joins-line_end x.left value ahead more ends ∙ sym (joins-line_end Other value ahead more ends))
      (λ apart. joins-apart x.far_left x.left value ahead more (or_parts (joins x.far_left x.left value ahead) (x.half_flag && is_regional value) apart).0) rest)
      (by-pair breaks)

  pub alike-fresh : breaks_by x c ahead ≡ true → Alike (context_after x value) (context_after (context_of []) value) cs
  unfolding starts_with_half_flag significant
  alike-fresh breaks =
      (elim (is_ignored value) as (λ b. is_ignored value ≡ b
      → Alike (cond b (record { last = value; left = x.left; far_left = x.far_left; half_flag = x.half_flag }) (record { last = value; left = value; far_left = x.left; half_flag = is_regional value && not x.half_flag }))
      (cond b (record { last = value; left = Other; far_left = Other; half_flag = false }) (record { last = value; left = value; far_left = Other; half_flag = is_regional value && not false })) cs) [
        | true ↦ λ ignored.
            let ends : is_line_end x.last ≡ true = sym (ap (λ o. unwrap_or o (not joined)) (pair-ignored x.last value (is_extended_pictographic c) ignored)) ∙ breaks in
            let left = knows.left ends in
            record {
              last = refl;
              flag = knows.flag ends;
              here = λ more. joins-line_end x.far_left x.left ahead more left ∙ sym (joins-other Other ahead more);
              next = λ l r more. joins-far_line_end x.left l r more left;
            }
        | false ↦ λ kept. record {
          last = refl;
          flag = flag-fresh breaks;
          here = here-fresh breaks;
          next = λ l r more. refl;
        }
      ]) refl

-- The parts that come

rule-alike : (xs ys cs : List ℕ) (x y : ℕ) → Alike (context_of (x ∷ xs)) (context_of (y ∷ ys)) cs → is_word_break (x ∷ xs) cs ≡ is_word_break (y ∷ ys) cs
unfolding is_word_break
rule-alike xs ys [] x y alike = refl
rule-alike xs ys (c ∷ cs) x y alike = alike-breaks (context_of (x ∷ xs)) (context_of (y ∷ ys)) c cs (value_at (significant cs) 0) alike

pub cut-step : (before : List ℕ) (c : ℕ) (cs : List ℕ)
    → cut is_word_break before (c ∷ cs) []
    ≡ cond (is_word_break (c ∷ before) cs) ((c ∷ []) ∷ cut is_word_break (c ∷ before) cs []) (prepend (c ∷ []) (cut is_word_break (c ∷ before) cs []))
unfolding cut
cut-step before c cs =
    ap (λ l. cond (is_word_break (c ∷ before) l) ((c ∷ []) ∷ cut is_word_break (c ∷ before) cs []) (prepend (c ∷ []) (cut is_word_break (c ∷ before) cs []))) (append-nil cs)

cut-alike : (xs ys cs : List ℕ) → Alike (context_of xs) (context_of ys) cs → cut is_word_break xs cs [] ≡ cut is_word_break ys cs []
unfolding cut
cut-alike xs ys [] alike = refl
cut-alike xs ys (c ∷ cs) alike =
    let on : Alike (context_of (c ∷ xs)) (context_of (c ∷ ys)) cs =
    subst (λ x. Alike x (context_of (c ∷ ys)) cs) (sym (context-after c xs))
    (subst (λ y. Alike (context_after (context_of xs) (word_break c)) y cs) (sym (context-after c ys)) (alike-after (context_of xs) (context_of ys) c cs alike)) in
    cut-step xs c cs
    ∙ ap₂ (λ b parts. cond b ((c ∷ []) ∷ parts) (prepend (c ∷ []) parts)) (rule-alike xs ys cs c c on) (cut-alike (c ∷ xs) (c ∷ ys) cs on)
    ∙ sym (cut-step ys c cs)

-- the parts behind a boundary are those of what comes alone
pub cut-fresh : (before cs : List ℕ) → is_word_break before cs ≡ true → cut is_word_break before cs [] ≡ cut is_word_break [] cs []
unfolding cut
cut-fresh [] cs breaks = refl
cut-fresh (last ∷ before) [] breaks = refl
cut-fresh (last ∷ before) (c ∷ cs) breaks =
    let xs = last ∷ before in
    let there : breaks_by (context_of xs) c (value_at (significant cs) 0) ≡ true = sym (decided-inside last before c cs) ∙ breaks in
    let on : Alike (context_of (c ∷ xs)) (context_of (c ∷ [])) cs =
    subst (λ x. Alike x (context_of (c ∷ [])) cs) (sym (context-after c xs))
    (subst (λ y. Alike (context_after (context_of xs) (word_break c)) y cs) (sym (context-after c [])) (alike-fresh (context_of xs) (knows-lines last before) c cs there)) in
    cut-step xs c cs
    ∙ ap₂ (λ b parts. cond b ((c ∷ []) ∷ parts) (prepend (c ∷ []) parts)) (rule-alike xs [] cs c c on) (cut-alike (c ∷ xs) (c ∷ []) cs on)
    ∙ sym (cut-step [] c cs)
