use Rattle.std.proofs.Common.{◌≡◌, drop}
use Rattle.lbk_ucd.specs.File.{named}
use Rattle.lbk_ucd.specs.Shown.{shown_names}
use Rattle.lbk_ucd.proofs.format.value_named.Given as goal

abbrev pub invariant-loop-named : goal.invariant-loop-named
invariant-loop-named g l =
    named (shown_names {V = g.row.V.Denot} (drop l.named-index l.names)) l.name ≡ named (shown_names {V = g.row.V.Denot} l.names) l.name
