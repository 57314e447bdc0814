-- Terms of other crates, for the contracts here.
pub use Rattle.lbk_masks.specs.Bits.{AreKeptBelow, IsLowest}
pub use Rattle.lbk_masks.specs.Sets.{is_set}
pub use Rattle.lbk_values.specs.declared.profile.Profile.{Profile}
pub use Rattle.lbk_values.specs.declared.profile.Profile.TheVariants.{First}
pub use Rattle.lbk_rules.specs.Classes.{hard}
pub use Rattle.lbk_rules.specs.FlatTable.{AreFlatKinds, IsFlatBy, IsFlatOf, KnowsTaken}
pub use Rattle.lbk_rules.specs.Neighbours.{AreTold}
pub use Rattle.lbk_rules.specs.Normal.{normal}
pub use Rattle.lbk_rules.specs.Rows.{AreSteps, IsPlace, IsShown, steps_in, verdict_shown}
pub use Rattle.lbk_rules.specs.Sides.{leaves_closed}
pub use Rattle.lbk_rules.specs.Units.{units_after}
pub use Rattle.lbk_rules.specs.Verdict.{verdict_between_in}
pub use Rattle.lbk_rules.specs.declared.Cell.{Cell}
pub use Rattle.lbk_rules.specs.declared.steps.Step.{Step}
