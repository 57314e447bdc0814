-- What the code's values show, without their layout in memory.
use Rattle.std.specs.Prelude.{ℕ, ◌==◌, List, [], map, Option, Some, None}
use Rattle.std.specs.List.{slice_split}
use Rattle.std.specs.Borrow.{Bor}
use Rattle.lbk_ucd.specs.declared.property_line.Entry.{Entry as CodeEntry}
use Rattle.lbk_ucd.specs.declared.property_line.Meaning.{Meaning as CodeMeaning}
use Rattle.lbk_ucd.specs.declared.property_line.Meaning.TheVariants as code
use Rattle.lbk_ucd.specs.declared.format.Format.{Format as CodeFormat}
use Rattle.lbk_ucd.specs.File.{Format}
use Rattle.lbk_ucd.specs.PropertyLine.{Entry, Meaning, nothing, row, default}

abbrev pub shown_name : Bor (List ℕ) → List ℕ
shown_name name = name.now

abbrev pub shown_entry : CodeEntry → Entry
shown_entry entry = record { first = entry.first; last = entry.last; name = entry.name.now }

abbrev pub shown_meaning : CodeMeaning → Meaning
shown_meaning code.Nothing = nothing
shown_meaning (code.Row entry) = row (shown_entry entry)
shown_meaning (code.Default entry) = default (shown_entry entry)

abbrev pub shown_names : {V : Type 0} → List (Bor (List ℕ) × V) → List (List ℕ × V)
shown_names names = map (λ entry. (entry.0.now, entry.1)) names

abbrev pub shown_format : {V : Type 0} → CodeFormat V → Format V
shown_format format =
    record {
      names = shown_names format.names.now;
      others = format.others;
      defaults = format.defaults;
      unlisted = format.unlisted;
    }

-- the lines of what follows an LF, none where there was none
abbrev pub lines_left : Option (Bor (List ℕ)) → List (List ℕ)
lines_left None = []
lines_left (Some text) = slice_split (λ byte. byte == 10) text.now
