-- Terms of other crates, for the contracts here.
pub use Rattle.bstr.specs.Utf8.{Decoded, or_replacement}
pub use Rattle.lbk_rules.specs.Breaks.{break_by}
pub use Rattle.lbk_rules.specs.declared.Break.{Break}
pub use Rattle.lbk_rules.specs.declared.Verdict.{Verdict}
pub use Rattle.lbk_bytes.specs.Bytes.{AtEnd, with_break}
pub use Rattle.lbk_bytes.specs.Order.{AreInOrderBy, ArePositionsInOrder, IsBreak, IsPosition}
pub use Rattle.lbk_bytes.specs.Reached.{IsInOrderBy, Onward, onward_all, onward_to, scalars_of}
pub use Rattle.lbk_bytes.specs.Shown.{given_in}
pub use Rattle.lbk_bytes.specs.Terms.{AreFlatKinds, AreSteps, Cell, IsFlatBy, IsPlace, IsShown, Profile, steps_in, verdict_between_in, verdict_shown}
pub use Rattle.lbk_bytes.specs.declared.raw_break.RawBreak.{RawBreak}
