-- What two neighbouring classes decide: where a line must end (UAX #14, section 6.1, rules LB3 to LB5), and where a
-- mark joins the cell before it (rules LB8a and LB9).
use Rattle.std.specs.Prelude.{Bool, ◌&&◌, not, if◌then◌else◌}
use Rattle.lbk_uax14.specs.declared.classes.Class.{Class}
use Rattle.lbk_uax14.specs.declared.verdicts.Kind.TheVariants.{No, Must}
use Rattle.lbk_uax14.specs.declared.verdicts.Rule.TheVariants.{Lb3, Lb4, Lb5, Lb8a, Lb9}
use Rattle.lbk_uax14.specs.declared.verdicts.Verdict.{Verdict}
use Rattle.lbk_uax14.specs.Classes.{Set, ◌or◌, none_of, BK, CR, LF, NL, isZWJ, hard, mark}

-- a line ends after these classes
abbrev pub ends_line : Set
ends_line = BK or CR or LF or NL

-- a line must end between a cell of class `last` and one of class `next`
abbrev pub ends_between : Class → Class → Bool
ends_between last next = ends_line last && not (CR last && LF next)

-- the verdict there
abbrev pub end_after : Class → Verdict
end_after last = record { kind = Must; rule = if BK last then Lb4 else Lb5 }

-- the verdict at the end of a text
abbrev pub end_of_text : Verdict
end_of_text = record { kind = Must; rule = Lb3 }

-- a mark of class `next` joins the cell of class `last` before it, and heads no unit
abbrev pub joins : Class → Class → Bool
joins last next = none_of hard last && mark next

-- the verdict there
abbrev pub joined_after : Class → Verdict
joined_after last = record { kind = No; rule = if isZWJ last then Lb8a else Lb9 }
