-- The engines, by the lines that they write for a passage.
use Rattle.std.specs.Prelude.{ℕ, List}
use Rattle.lbk_rules.specs.declared.Cell.{Cell}
use Rattle.lbk_values.specs.declared.profile.Profile.{Profile}
use Rattle.lbk_passage.specs.Marks.{Marked}
use Rattle.lbk_passage.specs.Lines.{segmented_passage}
use Rattle.lbk_cmd.specs.Mark.{signed_passage}
use Rattle.lbk_cmd.specs.Run.{Engine}
use Rattle.lbk_cmd.specs.Show.{shown_passage}
use Rattle.lbk_cmd.specs.declared.engine.Breaking.{Breaking}
use Rattle.lbk_cmd.specs.declared.engine.Lines.{Lines}
use Rattle.lbk_cmd.specs.declared.engine.Lines.TheVariants.{Text, Segmented}
use Rattle.lbk_cmd.specs.declared.engine.TextLines.TheVariants.{Signed, Shown}

-- that of `mark`, with this sign
abbrev pub marking : List ℕ → (ℕ → Cell) → Profile → ℕ → Engine
marking mark cell profile limit =
    record { lines = λ start ms. signed_passage mark cell ms; cell = cell; profile = profile; limit = limit }

-- that of `show`
abbrev pub showing : (ℕ → Cell) → Profile → ℕ → Engine
showing cell profile limit =
    record { lines = λ start ms. shown_passage ms; cell = cell; profile = profile; limit = limit }

-- that of `segment`
abbrev pub segmenting : (ℕ → Cell) → Profile → ℕ → Engine
segmenting cell profile limit = record { lines = segmented_passage cell; cell = cell; profile = profile; limit = limit }

-- the lines that each writes
abbrev pub lines_of : Lines → (ℕ → Cell) → ℕ → List Marked → List ℕ
lines_of (Text (Signed mark)) cell start ms = signed_passage mark.now cell ms
lines_of (Text Shown) cell start ms = shown_passage ms
lines_of Segmented cell start ms = segmented_passage cell start ms

abbrev pub engine_of : Lines → (ℕ → Cell) → Profile → ℕ → Engine
engine_of lines cell profile limit =
    record { lines = lines_of lines cell; cell = cell; profile = profile; limit = limit }

-- the engine that writes these lines of a text that is broken so, by what the cells say of a scalar
abbrev pub engine_by : {C : Type 0} → (C → ℕ → Cell) → Lines → Breaking C → Engine
engine_by cell_of lines how = engine_of lines (cell_of how.cells.now) how.profile how.limit
