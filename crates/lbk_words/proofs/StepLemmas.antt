-- A block that is filled scalar by scalar, by rows.
use Rattle.std.proofs.Common.{◌≡◌, ℕ, ◌+◌, ◌<◌, ◌≤◌, Bool, true, false, cond, ◌&&◌, ◌||◌, List, [], ◌++◌, append_assoc, length, take, refl, sym, ap, subst, ◌∙◌, arith}
use Rattle.std.specs.Int.{from_bool}
use Rattle.std.proofs.Math.ListN.{length-set, set}
use Rattle.std.proofs.lemmas.List.{append-nil}
use Rattle.ucd_breaks.specs.WordBreak.{word_break}
use Rattle.ucd_breaks.specs.declared.WordBreak.{WordBreak}
use Rattle.unicode_segmentation.specs.Word.{significant, starts_with_half_flag, value_at}
use Rattle.lbk_words.specs.declared.parts.Filling.{Filling}
use Rattle.lbk_words.specs.declared.steps.Step.{Step}
use Rattle.lbk_words.specs.declared.word.Filled.{Filled}
use Rattle.lbk_words.specs.declared.word.Word.{Word}
use Rattle.lbk_words.specs.Contexts.{context_after, context_of}
use Rattle.lbk_words.specs.Filling.{FillsOn, FillsUpTo, IsFilled, IsFilling, IsInRow}
use Rattle.lbk_words.specs.Letters.{is_letter_or_number}
use Rattle.lbk_words.specs.Places.{IsFirstPiece, IsReadAt}
use Rattle.lbk_words.specs.Rows.{IsFirstRow, IsStep, canonical, row_context, row_word, start_context}
use Rattle.lbk_words.specs.Words.{AreRising, scalars_on, words_on}
use Rattle.lbk_words.proofs.FillLemmas.{boundary-here, boundary-next, from_bool-few, one_word, rising-word, words-next, written-more}
use Rattle.lbk_words.proofs.WalkLemmas.{walk-as, walk-break, walk-end, walk-start, walk-step}

start-is : context_of [] ≡ start_context
unfolding significant starts_with_half_flag
start-is = refl

begins-row : (text : List ℕ) (at c end row : ℕ) → IsReadAt text at c end → row < 43
    → canonical (context_after start_context (word_break c)) ≡ row_context row → row_word row ≡ is_letter_or_number c → IsInRow text at end row
begins-row text at c end row read few like word = record {
  few = few;
  context = context_after start_context (word_break c);
  like = like;
  walk = walk-as text at end (context_after (context_of []) (word_break c)) (context_after start_context (word_break c)) (is_letter_or_number c) (row_word row)
      (walk-start text at c end read) (ap (λ x. context_after x (word_break c)) start-is) (sym word);
}

pub first-in_row : (text : List ℕ) (at c end row : ℕ) → IsReadAt text at c end → IsFirstRow c row → IsInRow text at end row
first-in_row text at c end row read first = begins-row text at c end row read first.few first.context first.word

-- a step that does not cut goes on with the part
pub row-goes-on : (text : List ℕ) (begin at row c end : ℕ) (step : Step) → IsInRow text begin at row → IsReadAt text at c end
    → IsStep row c (value_at (significant (scalars_on text end)) 0) step → step.cuts ≡ false → IsInRow text begin end step.next
row-goes-on text begin at row c end step part read is goes = record {
  few = is.next;
  context = context_after part.context (word_break c);
  like = is.joined goes part.context part.like;
  walk = walk-as text begin end (context_after part.context (word_break c)) (context_after part.context (word_break c)) (row_word row || is_letter_or_number c) (row_word step.next)
      (walk-step text begin at c end part.context (row_word row) part.walk read (is.cuts part.context part.like ∙ goes)) refl
      (sym (is.word ∙ ap (λ b. cond b (is_letter_or_number c) (row_word row || is_letter_or_number c)) goes));
}

-- one that cuts ends it, and the scalar begins the next one
pub row-ends : (text : List ℕ) (begin at row c end : ℕ) (step : Step) → IsInRow text begin at row → IsReadAt text at c end
    → IsStep row c (value_at (significant (scalars_on text end)) 0) step → step.cuts ≡ true → IsFirstPiece text begin at (row_word row)
row-ends text begin at row c end step part read is cuts =
    walk-break text begin at c end part.context (row_word row) part.walk read (is.cuts part.context part.like ∙ cuts)

-- its row is that of a part of the scalar alone
pub first-of-step : {row c : ℕ} {far : WordBreak} (step : Step) → IsStep row c far step → step.cuts ≡ true → IsFirstRow c step.next
first-of-step {row} {c} step is cuts = record {
  few = is.next;
  context = is.fresh cuts;
  word = is.word ∙ ap (λ b. cond b (is_letter_or_number c) (row_word row || is_letter_or_number c)) cuts;
}

pub row-begins : (text : List ℕ) (at row c end : ℕ) (step : Step) → IsReadAt text at c end
    → IsStep row c (value_at (significant (scalars_on text end)) 0) step → step.cuts ≡ true → IsInRow text at end step.next
row-begins text at row c end step read is cuts =
    first-in_row text at c end step.next read (first-of-step step is cuts)

-- nothing is filled at the start
pub filled-none : (text : List ℕ) (start : ℕ) (out : List Word) → IsFilled text start start 0 out
filled-none text start out = record {
  room = omega arith;
  onward = omega arith;
  boundary = boundary-here text start;
  rising = omega arith;
  joined = refl;
}

-- a block that is filled on, and on again
pub fills-then : {text : List ℕ} {from mid to : Filled} {old between new : List Word} → FillsOn text from old mid between
    → length between ≡ length old → FillsOn text mid between to new → FillsOn text from old to new
fills-then one size two = record {
  onward = (omega (arith, one.onward, two.onward), omega (arith, one.onward, two.onward));
  within = (two.within.0, omega (arith, size, two.within));
  filled = λ start filled. two.filled start (one.filled start filled);
}

-- a part is written, and counts where it is a word
pub filled-part : (text : List ℕ) (start begin at count : ℕ) (is_word : Bool) (out : List Word) → IsFilled text start begin count out → count < length out
    → IsFirstPiece text begin at is_word
    → IsFilled text start at (count + from_bool is_word) (set out count (record { start = begin; end = at }))
filled-part text start begin at count is_word out f some first =
    let word : Word = record { start = begin; end = at } in
    let few = from_bool-few is_word in
    let written = written-more out count begin at is_word some in
    record {
      room = omega (arith, length-set out count word);
      onward = (let on = f.onward in let grows = first.grows in omega arith);
      boundary = boundary-next text start begin at is_word f.boundary first;
      rising = subst (AreRising start at) (sym written) (rising-word start begin at is_word (take count out) f.rising first.grows);
      joined =
          f.joined
          ∙ ap (λ ws. take count out ++ ws) (words-next text begin at is_word first)
          ∙ sym (append_assoc (take count out) (one_word is_word begin at) (words_on text at))
          ∙ ap (λ ws. ws ++ words_on text at) (sym written);
    }

-- what is written behind the words changes none of them
filled-written : (text : List ℕ) (start begin count : ℕ) (word : Word) (out : List Word) → IsFilled text start begin count out → count < length out
    → IsFilled text start begin (count + 0) (set out count word)
filled-written text start begin count word out f some =
    let same : take (count + 0) (set out count word) ≡ take count out = written-more out count word.start word.end false some ∙ append-nil (take count out) in
    record {
      room = (let room = f.room in omega (arith, length-set out count word));
      onward = f.onward;
      boundary = f.boundary;
      rising = subst (AreRising start begin) (sym same) f.rising;
      joined = f.joined ∙ ap (λ ws. ws ++ words_on text begin) (sym same);
    }

-- one scalar more
taken-by : (text : List ℕ) (start : ℕ) (part : Filling) (out : List Word) (c end : ℕ) (step : Step) (cuts : Bool) → IsFilling text start part out
    → part.filled.count < length out → IsReadAt text part.at c end → IsStep part.row c (value_at (significant (scalars_on text end)) 0) step → step.cuts ≡ cuts
    → IsFilling text start (record { filled = record { count = part.filled.count + from_bool (cuts && row_word part.row); at = cond cuts part.at part.filled.at }; at = end; row = step.next })
    (set out part.filled.count (record { start = part.filled.at; end = part.at }))
taken-by text start part out c end step true f some read is cuts = record {
  filled = filled-part text start part.filled.at part.at part.filled.count (row_word part.row) out f.filled some (row-ends text part.filled.at part.at part.row c end step f.reads read is cuts);
  reads = row-begins text part.at part.row c end step read is cuts;
}
taken-by text start part out c end step false f some read is cuts = record {
  filled = filled-written text start part.filled.at part.filled.count (record { start = part.filled.at; end = part.at }) out f.filled some;
  reads = row-goes-on text part.filled.at part.at part.row c end step f.reads read is cuts;
}

begin-between : (cuts : Bool) (begin at : ℕ) → begin < at → (begin ≤ cond cuts at begin) × (cond cuts at begin ≤ at)
begin-between true begin at some = (omega arith, omega arith)
begin-between false begin at some = (omega arith, omega arith)

-- the same from a boundary on
pub filling-taken : (text : List ℕ) (from : Filled) (old : List Word) (part : Filling) (out : List Word) (c end : ℕ) (step : Step)
    → FillsUpTo text from old part out → part.filled.count < length out → IsReadAt text part.at c end
    → IsStep part.row c (value_at (significant (scalars_on text end)) 0) step
    → FillsUpTo text from old (record { filled = record { count = part.filled.count + from_bool step.counts; at = cond step.cuts part.at part.filled.at }; at = end; row = step.next })
    (set out part.filled.count (record { start = part.filled.at; end = part.at }))
filling-taken text from old part out c end step f some read is =
    let few = from_bool-few step.counts in
    let size = length-set out part.filled.count (record { start = part.filled.at; end = part.at }) in
    let begin = begin-between step.cuts part.filled.at part.at f.some in
    record {
      onward = (omega (arith, f.onward, begin), omega (arith, f.onward));
      within = (read.within, omega (arith, few, size));
      some = omega (arith, begin, read.grows);
      few = is.next;
      filling = λ start filled.
          subst (λ b. IsFilling text start (record { filled = record { count = part.filled.count + from_bool b; at = cond step.cuts part.at part.filled.at }; at = end; row = step.next })
          (set out part.filled.count (record { start = part.filled.at; end = part.at }))) (sym is.counts)
          (taken-by text start part out c end step step.cuts (f.filling start filled) some read is refl);
    }

-- the text ends with a part
pub filling-ended : (text : List ℕ) (start : ℕ) (part : Filling) (out : List Word) → IsFilling text start part out → part.filled.count < length out → length text ≤ part.at
    → IsFilled text start part.at (part.filled.count + from_bool (row_word part.row)) (set out part.filled.count (record { start = part.filled.at; end = part.at }))
filling-ended text start part out f some past =
    filled-part text start part.filled.at part.at part.filled.count (row_word part.row) out f.filled some
    (walk-end text part.filled.at part.at f.reads.context (row_word part.row) f.reads.walk past)
