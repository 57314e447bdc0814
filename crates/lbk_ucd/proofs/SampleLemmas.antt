-- The sample files have no fault, computed from the definitions, and files without one are refused for want of memory alone.
use Rattle.std.proofs.Common.{◌≡◌, ℕ, ◌<◌, Bool, true, false, List, length, nat_lt, Option, None, Some, inl, inr, refl, sym, subst, true≢false, arith}
use Rattle.std.proofs.lemmas.Bool.{agree_below, agree_below_at, ltb-true}
use Rattle.lbk_ucd.specs.declared.faults.UcdCause.{UcdCause}
use Rattle.lbk_ucd.specs.declared.faults.UcdCause.TheVariants.{Memory}
use Rattle.lbk_ucd.specs.declared.faults.UcdFault.{UcdFault}
use Rattle.lbk_ucd.specs.declared.tables.Files.{Files}
use Rattle.lbk_ucd.specs.declared.which.Which.{Which}
use Rattle.lbk_ucd.specs.declared.which.Which.TheVariants.{LineBreak, EastAsianWidth, Category, Emoji}
use Rattle.lbk_ucd.specs.declared.samples.TheConstants.{SAMPLE_LINE_BREAK, SAMPLE_EAST_ASIAN, SAMPLE_CATEGORY, SAMPLE_EMOJI}
use Rattle.lbk_ucd.specs.Names.{line_break_format, east_asian_format, category_format, emoji_format}
use Rattle.lbk_ucd.specs.PropertyLine.{code_of, pair_of, range_of, name_of, entry_of, default_of, meaning_of}
use Rattle.lbk_ucd.specs.File.{Format, lines_of, cause_at, cause_beside, cause_of_entry, IsLawful, IsRefusal}
use Rattle.lbk_ucd.specs.Files.{AreLawful, IsRefused, IsRefusedIn}
use Rattle.lbk_ucd.specs.Samples.{AreSamples}
use Rattle.lbk_ucd.proofs.LawLemmas.{lawful_no_fault}

abbrev is_none : {A : Type 0} → Option A → Bool
is_none None = true
is_none (Some x) = false

none : {A : Type 0} → (o : Option A) → is_none o ≡ true → o ≡ None
none None e = refl
none (Some x) e = absurd (true≢false (sym e))

-- a short file of whose lines none has a cause
abbrev no_cause : {V : Type 0} → Format V → List ℕ → Bool
no_cause format bytes = agree_below (λ k. is_none (cause_at format (lines_of bytes) k)) (λ k. true) (length (lines_of bytes))

lawful : {V : Type 0} (format : Format V) (bytes : List ℕ) → nat_lt (length bytes) 8388608 ≡ true → no_cause format bytes ≡ true → IsLawful format bytes
lawful format bytes few clean = record {
  short = let less : length bytes < 8388608 = ltb-true _ _ few in omega arith;
  lines = λ k within. none (cause_at format (lines_of bytes) k)
      (agree_below_at (λ k. is_none (cause_at format (lines_of bytes) k)) (λ k. true) (length (lines_of bytes)) k clean within);
}

samples_clean : (no_cause line_break_format SAMPLE_LINE_BREAK.now ≡ true)
    × (no_cause east_asian_format SAMPLE_EAST_ASIAN.now ≡ true)
    × (no_cause category_format SAMPLE_CATEGORY.now ≡ true)
    × (no_cause emoji_format SAMPLE_EMOJI.now ≡ true)
unfolding line_break_format east_asian_format category_format emoji_format cause_beside cause_of_entry meaning_of
    default_of entry_of range_of pair_of code_of name_of
samples_clean = (refl, refl, refl, refl)

pub samples_lawful : (files : Files) → AreSamples files → AreLawful files
samples_lawful files are = record {
  line_break = subst (IsLawful line_break_format) (sym are.line_break) (lawful line_break_format SAMPLE_LINE_BREAK.now refl samples_clean.0);
  east_asian = subst (IsLawful east_asian_format) (sym are.east_asian) (lawful east_asian_format SAMPLE_EAST_ASIAN.now refl samples_clean.1);
  category = subst (IsLawful category_format) (sym are.category) (lawful category_format SAMPLE_CATEGORY.now refl samples_clean.2);
  emoji = subst (IsLawful emoji_format) (sym are.emoji) (lawful emoji_format SAMPLE_EMOJI.now refl samples_clean.3);
}

refused_so : {V : Type 0} (format : Format V) (bytes : List ℕ) (number : ℕ) (cause : UcdCause) → IsLawful format bytes
    → IsRefusal format bytes number cause → cause ≡ Memory
refused_so format bytes number cause lawful (inl fault) = absurd (lawful_no_fault format bytes number cause lawful fault)
refused_so format bytes number cause lawful (inr grows) = grows.0

pub lawful_refused : (files : Files) (fault : UcdFault) → AreLawful files → IsRefused files fault → fault.cause ≡ Memory
lawful_refused files fault lawful refused = go fault.file refused
  where
    go : (which : Which) → IsRefusedIn files which fault.line fault.cause → fault.cause ≡ Memory
    go LineBreak refused = refused_so line_break_format files.line_break.now fault.line fault.cause lawful.line_break refused
    go EastAsianWidth refused = refused_so east_asian_format files.east_asian.now fault.line fault.cause lawful.east_asian refused.1
    go Category refused = refused_so category_format files.category.now fault.line fault.cause lawful.category refused.2
    go Emoji refused = refused_so emoji_format files.emoji.now fault.line fault.cause lawful.emoji refused.3
