-- What the rules ask about the left side. What no rule distinguishes there is one value.
use Rattle.std.specs.Prelude.{Bool, false, ◌||◌, ◌&&◌, if◌then◌else◌}
use Rattle.lbk_uax14.specs.declared.cells.Cell.{Cell}
use Rattle.lbk_uax14.specs.declared.classes.Class.{Class}
use Rattle.lbk_uax14.specs.declared.classes.Class.TheVariants.{Alphabetic, ClosePunctuation, Ideographic, JT, JV}
use Rattle.lbk_uax14.specs.declared.classes.Class.TheVariants.{LineFeed, Nonstarter, Space}
use Rattle.lbk_uax14.specs.declared.classes.Quote.TheVariants.{Neither, Initial}
use Rattle.lbk_uax14.specs.Classes.{Set, ◌or◌, none_of, B2, BB, BK, CB, CL, CP, CR, EB, EM, EX, GL, isH2, isH3, IN}
use Rattle.lbk_uax14.specs.Classes.{LF, NL, NS, OP, PR, QU, SP, WJ, ZW, isZWJ}
use Rattle.lbk_uax14.specs.Sides.{opening}

-- About the last cell, rules LB4 to LB10 ask whether it is BK, CR, or LF or NL, whether it is SP or ZW, and whether it
-- is ZWJ
unfoldable pub asked_of_cell : Class → Class
asked_of_cell class =
    if (LF or NL) class then LineFeed
    else (if (SP or ZW) class then Space
    else (if (BK or CR or isZWJ) class then class
    else Alphabetic))

-- About the class before the spaces, rules LB14 to LB17 ask whether it is OP, QU, CL or CP, or B2
unfoldable pub asked_before_spaces : Class → Class
asked_before_spaces class =
    if (CL or CP) class then ClosePunctuation
    else (if (OP or QU or B2) class then class
    else Space)

-- About the last unit, the rules ask for its class, but not for EX, IN and NS, nor which line end it is. They treat EB
-- and EM like ID (LB23a), H2 like JV and H3 like JT (LB26, LB27), and a wide CP like CL (LB16, LB25)
unfoldable pub asked_class : Class → Bool → Class
asked_class class wide =
    if (BK or CR or LF or NL) class then LineFeed
    else (if (EX or IN or NS) class then Nonstarter
    else (if (EB or EM) class then Ideographic
    else (if isH2 class then JV
    else (if isH3 class then JT
    else (if CP class && wide then ClosePunctuation
    else class)))))

-- the classes after which a rule before LB30b decides whether an emoji modifier follows
abbrev pub decides_before_30b : Set
decides_before_30b = WJ or GL or OP or SP or QU or CB or BB or PR

-- They also ask whether an emoji modifier stays with it: with EB, and with an unassigned pictograph if no earlier rule
-- decides (LB30b); and whether it is a quotation mark that opens (LB15a)
unfoldable pub asked_of_unit : Cell → Cell
asked_of_unit cell = record {
  class = asked_class cell.class cell.wide;
  wide = false;
  pict_cn = EB cell.class || (none_of decides_before_30b cell.class && cell.pict_cn);
  quote = if opening cell then Initial else Neither;
  letter = false;
}
