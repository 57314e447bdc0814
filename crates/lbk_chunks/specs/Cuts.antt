-- The cuts of a text: its breaks (UAX #14, section 3) outside its words (UAX #29, section 4).
use Rattle.std.specs.Prelude.{ℕ, ◌+◌, ◌<◌, ◌&&◌, Bool, nat_le, nat_lt, List, [], ◌∷◌, count_by, if◌then◌else◌}
use Rattle.std.specs.List.{list_any}
use Rattle.lbk_rules.specs.declared.Break.{Break}
use Rattle.lbk_rules.specs.declared.Cell.{Cell}
use Rattle.lbk_values.specs.declared.profile.Profile.{Profile}
use Rattle.lbk_rules.specs.Codes.{kind_number, rule_number}
use Rattle.lbk_bytes.specs.Bytes.{breaks_of_bytes}
use Rattle.lbk_words.specs.declared.word.Word.{Word}
use Rattle.lbk_words.specs.Words.{words_of}
use Rattle.lbk_chunks.specs.declared.cut.Cut.{Cut}

-- the offset is inside one of these words
abbrev pub is_within : List Word → ℕ → Bool
is_within words at = list_any (λ (w : Word). nat_lt w.start at && nat_lt at w.end) words

-- how many of them end at the offset or before it
abbrev pub words_before : List Word → ℕ → ℕ
words_before words at = count_by (λ (w : Word). nat_le w.end at) words

-- the cuts among these breaks, after `count` earlier words
abbrev pub cuts_among : ℕ → List Word → List Break → List Cut
cuts_among count words [] = []
cuts_among count words (b ∷ bs) =
    let others = cuts_among count words bs in
    if is_within words b.at then others
    else record {
      at = b.at;
      words = count + words_before words b.at;
      kind = kind_number b.kind;
      rule = rule_number b.rule;
    } ∷ others

abbrev pub cuts_of : Profile → (ℕ → Cell) → List ℕ → List Cut
cuts_of profile cell text = cuts_among 0 (words_of text) (breaks_of_bytes profile cell text)

-- cuts in rising order, past a byte
abbrev pub AreCutsPast : ℕ → List Cut → Type 0
AreCutsPast at [] = Unit {0}
AreCutsPast at (c ∷ cs) = (at < c.at) × AreCutsPast c.at cs
