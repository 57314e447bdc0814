-- Terms of other crates, for the contracts here.
pub use Rattle.lbk_values.specs.declared.profile.Profile.{Profile}
pub use Rattle.lbk_values.specs.declared.profile.Profile.TheVariants.{First, Second}
pub use Rattle.lbk_uax14.specs.declared.cells.Cell.{Cell}
pub use Rattle.lbk_uax14.specs.declared.verdicts.Kind.{Kind}
pub use Rattle.lbk_uax14.specs.declared.verdicts.Rule.{Rule}
pub use Rattle.lbk_uax14.specs.declared.verdicts.Verdict.{Verdict}
pub use Rattle.lbk_uax14.specs.Breaks.{is_no}
pub use Rattle.lbk_uax14.specs.Chain.{from_cells}
pub use Rattle.lbk_uax14.specs.Classes.{hard}
pub use Rattle.lbk_uax14.specs.Codes.{kind_number, rule_number, rules}
pub use Rattle.lbk_uax14.specs.Facts.{closes_in, facts}
pub use Rattle.lbk_uax14.specs.Held.{answer_at, is_15b, is_held, late_at, now_at}
pub use Rattle.lbk_uax14.specs.LateFits.{waiting}
pub use Rattle.lbk_uax14.specs.Normal.{normal, normals}
pub use Rattle.lbk_uax14.specs.Sides.{Side}
pub use Rattle.lbk_uax14.specs.Units.{nearest, units_after}
pub use Rattle.lbk_uax14.specs.Verdict.{verdict_between_in, verdict_in}
