-- What a layout says.
use Rattle.std.specs.Prelude.{ℕ, ◌==◌, if◌then◌else◌}
use Rattle.lbk_wrap.specs.declared.layout.Layout.{Layout}

-- the distance of the tab stops
abbrev pub tab_of : Layout → ℕ
tab_of layout = if layout.tab == 0 then 8 else layout.tab
