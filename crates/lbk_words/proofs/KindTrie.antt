-- The table has the kinds of all scalars.
use Rattle.std.proofs.Common.{◌≡◌, ℕ, ◌<◌, Bool, true, ◌&&◌, ◌==◌, nat_lt, refl, sym, subst, arith, eqb-true, ltb-true}
use Rattle.std.specs.Bool.{beq}
use Rattle.std.proofs.lemmas.Bool.{and_parts}
use Rattle.ucd_table.proofs.Facts.{Stepped-always, always, same_from_beq}
use Rattle.ucd_table.specs.Trie.{IsTrie, trie_value}
use Rattle.ucd_table.proofs.Stepped.{Stepped, runs_of, map_stepped, zip_stepped}
use Rattle.ucd_table.proofs.TrieCheck.{trie_ok-IsTrie, trie_value-Stepped, trie_ok}
use Rattle.ucd_table.proofs.Computing.{tables}
use Rattle.ucd_breaks.specs.WordBreak.{word_break, word_break_number}
use Rattle.ucd_breaks.specs.declared.WordBreak.{WordBreak}
use Rattle.ucd_breaks.proofs.WordBreakLemmas.{word_break_stepped, word_break_number_injective}
use Rattle.ucd_category.specs.GeneralCategory.{general_category}
use Rattle.ucd_category.proofs.GeneralCategoryLemmas.{general_category_stepped}
use Rattle.ucd_emoji.specs.Binary.{is_extended_pictographic}
use Rattle.ucd_emoji.proofs.BinaryLemmas.{is_extended_pictographic_stepped}
use Rattle.lbk_words.specs.declared.kind_table.TheConstants.{KIND_INDEX, KIND_WORDS, KIND_TAIL}
use Rattle.lbk_words.specs.Near.{IsOfKind}
use Rattle.lbk_words.specs.Kinds.{kind_at, kind_letter, kind_number, kind_pict, kind_value}
use Rattle.lbk_words.specs.Letters.{is_letter_category, is_letter_or_number}

abbrev pub letter_stepped : Stepped is_letter_or_number
letter_stepped = map_stepped is_letter_category general_category general_category_stepped

abbrev pub kind_stepped : Stepped kind_at
kind_stepped =
    zip_stepped (λ (kind : Bool → ℕ) pict. kind pict) (λ c. kind_number (word_break c) (is_letter_or_number c)) is_extended_pictographic
    (zip_stepped kind_number word_break is_letter_or_number word_break_stepped letter_stepped) is_extended_pictographic_stepped

kinds_ok : trie_ok 8 16 32 KIND_INDEX KIND_WORDS KIND_TAIL (runs_of kind_at kind_stepped) ≡ true
unfolding tables word_break_stepped general_category_stepped is_extended_pictographic_stepped
kinds_ok = refl

pub IsTrie-kinds : IsTrie 8 16 KIND_INDEX KIND_WORDS
IsTrie-kinds = trie_ok-IsTrie 8 16 32 KIND_INDEX KIND_WORDS KIND_TAIL _ kinds_ok

pub trie_value-kinds : (c : ℕ) → c < 0x11_0000 → trie_value 8 16 KIND_INDEX KIND_WORDS KIND_TAIL c ≡ kind_at c
trie_value-kinds = trie_value-Stepped 8 16 32 KIND_INDEX KIND_WORDS KIND_TAIL kind_at kind_stepped kinds_ok

-- What a kind tells

abbrev reads : WordBreak → Bool → Bool → Bool
reads value letter pict =
    let kind = kind_number value letter pict in
    nat_lt kind 32 && ((word_break_number (kind_value kind) == word_break_number value) && (beq (kind_letter kind) letter && beq (kind_pict kind) pict))

abbrev reads_at : ℕ → Bool
reads_at c = reads (word_break c) (is_letter_or_number c) (is_extended_pictographic c)

abbrev reads_stepped : Stepped reads_at
reads_stepped =
    zip_stepped (λ (read : Bool → Bool) pict. read pict) (λ c. reads (word_break c) (is_letter_or_number c)) is_extended_pictographic
    (zip_stepped reads word_break is_letter_or_number word_break_stepped letter_stepped) is_extended_pictographic_stepped

reads_ok : always reads_at reads_stepped ≡ true
unfolding tables word_break_stepped general_category_stepped is_extended_pictographic_stepped
reads_ok = refl

pub record IsKind (c kind : ℕ) : Type 0 where
  pub few : kind < 32
  pub value : kind_value kind ≡ word_break c
  pub letter : kind_letter kind ≡ is_letter_or_number c
  pub pict : kind_pict kind ≡ is_extended_pictographic c

pub is-kind : (c : ℕ) → c < 0x11_0000 → IsKind c (kind_at c)
is-kind c scalar =
    let kind = kind_at c in
    let all = Stepped-always reads_at reads_stepped reads_ok c (omega arith) in
    let few = and_parts _ _ all in
    let value = and_parts _ _ few.1 in
    let rest = and_parts _ _ value.1 in
    record {
      few = ltb-true kind 32 few.0;
      value = word_break_number_injective _ _ (eqb-true _ _ value.0);
      letter = same_from_beq _ _ rest.0;
      pict = same_from_beq _ _ rest.1;
    }

-- a scalar of this kind has what the kind tells
pub is-of-kind : (code kind : ℕ) → IsOfKind code kind → IsKind code kind
is-of-kind code kind is = subst (IsKind code) (sym is.is) (is-kind code is.few)
