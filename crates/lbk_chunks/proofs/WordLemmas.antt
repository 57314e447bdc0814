-- The words before cuts.
use Rattle.std.proofs.Common.{◌≡◌, ℕ, ◌+◌, ◌<◌, ◌≤◌, ◌⊎◌, ◌-◌, ◌==◌, ⊎_elim, inl, inr, suc, Bool, true, false, cond, nat_le, nat_lt, List, [], ◌∷◌, ◌++◌, length, refl, sym, ap, ap₂, subst, ◌∙◌, arith}
use Rattle.std.proofs.lemmas.Bool.{cases_lt}
use Rattle.std.proofs.lemmas.Bool.Decides.{nat_tests}
use Rattle.std.proofs.lemmas.List.Sums.{sum_by-cons}
use Rattle.lbk_rules.specs.declared.Break.{Break}
use Rattle.lbk_rules.specs.Codes.{kind_number, rule_number}
use Rattle.lbk_calls.specs.declared.interface.State.{State}
use Rattle.lbk_words.specs.declared.word.Word.{Word}
use Rattle.lbk_words.specs.Words.{words_on}
use Rattle.lbk_words.proofs.FillLemmas.{words-end}
use Rattle.lbk_chunks.specs.declared.cut.Cut.{Cut}
use Rattle.lbk_chunks.specs.declared.cut.Place.{Place}
use Rattle.lbk_chunks.specs.Coming.{AreBreaksPast, AreOnward, IsLoaded, IsPassed, held, left, words_ahead}
use Rattle.lbk_chunks.specs.Cuts.{cuts_among, is_within, words_before}

-- no word is behind the place where none begins before it
pub none-before : (at from : ℕ) (ws : List Word) → at < from → AreOnward from ws → (is_within ws at ≡ false) × (words_before ws at ≡ 0)
none-before at from [] below onward = (refl, refl)
none-before at from (w ∷ ws) below onward =
    let more = none-before at w.end ws (omega arith) onward.2 in
    let within : is_within (w ∷ ws) at ≡ false = grind (arith, nat_tests) in
    let before : words_before (w ∷ ws) at ≡ 0 = grind (arith, nat_tests) in
    (within, before)

-- where the first word ends behind a place
pub first-behind : (at : ℕ) (w : Word) (ws : List Word) → at < w.end → AreOnward 0 (w ∷ ws) → (is_within (w ∷ ws) at ≡ nat_lt w.start at) × (words_before (w ∷ ws) at ≡ 0)
first-behind at w ws behind onward =
    let more = none-before at w.end ws behind onward.2 in
    let within : is_within (w ∷ ws) at ≡ nat_lt w.start at = grind (arith, nat_tests) in
    let before : words_before (w ∷ ws) at ≡ 0 = grind (arith, nat_tests) in
    (within, before)

-- a word that ends before a place or at it
one-passed : (at : ℕ) (w : Word) (ws : List Word) → w.end ≤ at → (is_within (w ∷ ws) at ≡ is_within ws at) × (words_before (w ∷ ws) at ≡ 1 + words_before ws at)
one-passed at w ws ends =
    let within : is_within (w ∷ ws) at ≡ is_within ws at = grind (arith, nat_tests) in
    let ended : nat_le w.end at ≡ true = grind (arith, nat_tests) in
    (within, sum_by-cons (λ (w : Word). cond (nat_le w.end at) 1 0) w ws ∙ ap (λ t. cond t 1 0 + words_before ws at) ended)

-- the cut at a break
abbrev pub cut_by : Break → ℕ → Cut
cut_by b words = record { at = b.at; words = words; kind = kind_number b.kind; rule = rule_number b.rule }

-- passing it changes no cut
pub cuts-passed : (count at : ℕ) (w : Word) (ws : List Word) (bs : List Break) → w.end ≤ at → AreBreaksPast at bs
    → cuts_among (count + 1) ws bs ≡ cuts_among count (w ∷ ws) bs
cuts-passed count at w ws [] ends past = refl
cuts-passed count at w ws (b ∷ bs) ends past =
    let others = cuts-passed count b.at w ws bs (omega arith) past.1 in
    let one = one-passed b.at w ws (omega arith) in
    ap₂ (λ (within : Bool) (n : ℕ). cond within (cuts_among (count + 1) ws bs) (cut_by b n ∷ cuts_among (count + 1) ws bs)) (sym one.0) (omega arith)
    ∙ ap (λ l. cond (is_within (w ∷ ws) b.at) l (cut_by b (count + words_before (w ∷ ws) b.at) ∷ l)) others

pub cuts-passed-first : (count : ℕ) (w : Word) (ws : List Word) (b : Break) (bs : List Break) → w.end ≤ b.at → AreBreaksPast b.at bs
    → cuts_among (count + 1) ws (b ∷ bs) ≡ cuts_among count (w ∷ ws) (b ∷ bs)
cuts-passed-first count w ws b bs ends past =
    let others = cuts-passed count b.at w ws bs ends past in
    let one = one-passed b.at w ws ends in
    ap₂ (λ (within : Bool) (n : ℕ). cond within (cuts_among (count + 1) ws bs) (cut_by b n ∷ cuts_among (count + 1) ws bs)) (sym one.0) (omega arith)
    ∙ ap (λ l. cond (is_within (w ∷ ws) b.at) l (cut_by b (count + words_before (w ∷ ws) b.at) ∷ l)) others

-- the words onward from a byte are so from an earlier one
pub onward-from : (from to : ℕ) (ws : List Word) → from ≤ to → AreOnward to ws → AreOnward from ws
onward-from from to [] below onward = onward
onward-from from to (w ∷ ws) below onward = (omega (arith, onward.0), onward.1, onward.2)

-- a place from which the same words come, of the same number
pub load : (text : List ℕ) (at : ℕ) (first old new : Place) → IsPassed text at first old → (new.breaks ≡ old.breaks) × (new.words ≡ old.words)
    → IsLoaded text old new → IsPassed text at first new
load text at first old new passed same loaded = record {
  same_breaks = same.0 ∙ passed.same_breaks;
  counted = λ c. (let was = passed.counted c in record { few = loaded.counted was.few; onward = subst (AreOnward 0) (sym loaded.ahead) was.onward });
  cuts = λ c b bs from past.
      ap₂ (λ n ws. cuts_among n ws (b ∷ bs)) same.1 loaded.ahead ∙ passed.cuts c b bs from past;
}

pub load-none : (text : List ℕ) (at : ℕ) (place : Place) → IsPassed text at place place
load-none text at place = record {
  same_breaks = refl;
  counted = λ c. c;
  cuts = λ c b bs from past. refl;
}

pub with-breaks : (text : List ℕ) (at : ℕ) (old new : Place) (breaks : State) → IsPassed text at old new → breaks ≡ old.breaks → IsPassed text at old (record new { breaks = breaks })
with-breaks text at old new breaks passed same = record {
  same_breaks = same;
  counted = λ c. (let n = passed.counted c in record { few = n.few; onward = n.onward });
  cuts = passed.cuts;
}

-- the word that was read is the first to come
pub word-first : (text : List ℕ) (place : Place) → 0 < place.word.end → words_ahead text place ≡ place.word ∷ words_on text place.from
word-first text place some = let no : (place.word.end == 0) ≡ false = grind (arith, nat_tests) in
    ap (λ t. cond t [] (place.word ∷ []) ++ words_on text place.from) no

pub word-none : (text : List ℕ) (place : Place) → place.word.end ≡ 0 → words_ahead text place ≡ words_on text place.from
word-none text place none = let no : (place.word.end == 0) ≡ true = grind (arith, nat_tests) in
    ap (λ t. cond t [] (place.word ∷ []) ++ words_on text place.from) no

-- none comes behind the end of a text
pub none-ahead : (text : List ℕ) (place : Place) (at : ℕ) → place.word.end ≡ 0 → length text ≤ at → words_ahead text (record place { from = at }) ≡ []
none-ahead text place at none past = word-none text (record place { from = at }) none ∙ words-end text at past

pub held-some : (w : Word) → 0 < w.end → held w ≡ 1
held-some w some = let no : (w.end == 0) ≡ false = grind (arith, nat_tests) in ap (λ t. cond t 0 1) no

pub held-none : (w : Word) → w.end ≡ 0 → held w ≡ 0
held-none w none = let no : (w.end == 0) ≡ true = grind (arith, nat_tests) in ap (λ t. cond t 0 1) no

-- one word more is passed
pub pass : (text : List ℕ) (at : ℕ) (old new : Place) → 0 < old.word.end → old.word.end ≤ at
    → new.breaks ≡ old.breaks → new.from ≡ old.from → new.word.end ≡ 0 → (old.words < old.from → new.words ≡ old.words + 1)
    → IsPassed text at old new
pass text at old new some ends same_breaks same_from none one_more =
    let one = held-some old.word some in
    let zero_held = held-none new.word none in
    let was = word-first text old some in
    let now : words_ahead text new ≡ words_on text old.from = word-none text new none ∙ ap (words_on text) same_from in
    record {
      same_breaks = same_breaks;
      counted = λ c. (
          let few = c.few in
          let onward = subst (AreOnward 0) was c.onward in
          record {
            few = (let more : new.words ≡ old.words + 1 = one_more (omega arith) in omega arith);
            onward = subst (AreOnward 0) (sym now) (onward-from 0 old.word.end (words_on text old.from) (omega arith) onward.2);
          });
      cuts = λ c b bs from past. (
          let few = c.few in
          let more : new.words ≡ old.words + 1 = one_more (omega arith) in
          ap₂ (λ n ws. cuts_among n ws (b ∷ bs)) more now
          ∙ cuts-passed-first old.words old.word (words_on text old.from) b bs (omega arith) past
          ∙ ap (λ ws. cuts_among old.words ws (b ∷ bs)) (sym was));
    }

pub pass-more : (text : List ℕ) (at : ℕ) (first old new : Place) → IsPassed text at first old → IsPassed text at old new → IsPassed text at first new
pass-more text at first old new a b = record {
  same_breaks = b.same_breaks ∙ a.same_breaks;
  counted = λ c. b.counted (a.counted c);
  cuts = λ c br bs from past. b.cuts (a.counted c) br bs from past ∙ a.cuts c br bs from past;
}

-- a word that ends past the one that is passed is nearer to the byte, or past it
left-none : (at : ℕ) (place : Place) → place.word.end ≡ 0 → left at place ≡ 0
left-none at place none = let no : (place.word.end == 0) ≡ true = grind (arith, nat_tests) in
    ap (λ t. cond t 0 (cond (nat_le place.word.end at) (suc (at - place.from)) 0)) no

left-past : (at : ℕ) (place : Place) → at < place.word.end → left at place ≡ 0
left-past at place past =
    let some : (place.word.end == 0) ≡ false = grind (arith, nat_tests) in
    let beyond : nat_le place.word.end at ≡ false = grind (arith, nat_tests) in
    ap₂ (λ t u. cond t 0 (cond u (suc (at - place.from)) 0)) some beyond

left-some : (at : ℕ) (place : Place) → 0 < place.word.end → place.word.end ≤ at → left at place ≡ suc (at - place.from)
left-some at place ends within =
    let some : (place.word.end == 0) ≡ false = grind (arith, nat_tests) in
    let before : nat_le place.word.end at ≡ true = grind (arith, nat_tests) in
    ap₂ (λ t u. cond t 0 (cond u (suc (at - place.from)) 0)) some before

pub left-less : (at from : ℕ) (old new : Place) → 0 < old.word.end → old.word.end ≤ at → from ≡ old.from
    → (new.word.end ≡ 0) ⊎ ((new.word.end ≡ new.from) × (from < new.from)) → left at new < left at old
left-less at from old new some within same (inl none) = omega (arith, left-none at new none, left-some at old some within)
left-less at from old new some within same (inr further) =
    let was = left-some at old some within in
    ⊎_elim
    (λ (past : at < new.word.end). omega (arith, was, left-past at new past))
    (λ (before : new.word.end ≤ at). omega (arith, was, left-some at new (omega arith) before))
    (cases_lt at new.word.end)
