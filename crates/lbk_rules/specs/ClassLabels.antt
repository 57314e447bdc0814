-- The names of line breaking classes (UAX #14, section 5.1), as LineBreak.txt has them.
use Rattle.std.specs.Prelude.{ℕ, List, codes}
use Rattle.lbk_uax14.specs.declared.classes.Class.{Class}
use Rattle.lbk_uax14.specs.declared.classes.Class.TheVariants.{Alphabetic, BreakBoth, BreakAfter, BreakBefore}
use Rattle.lbk_uax14.specs.declared.classes.Class.TheVariants.{MandatoryBreak, ContingentBreak, ClosePunctuation}
use Rattle.lbk_uax14.specs.declared.classes.Class.TheVariants.{CombiningMark, CloseParenthesis, CarriageReturn, EBase}
use Rattle.lbk_uax14.specs.declared.classes.Class.TheVariants.{EModifier, Exclamation, Glue, H2, H3, HebrewLetter}
use Rattle.lbk_uax14.specs.declared.classes.Class.TheVariants.{Hyphen, Ideographic, Inseparable, InfixNumeric, JL, JT}
use Rattle.lbk_uax14.specs.declared.classes.Class.TheVariants.{JV, LineFeed, NextLine, Nonstarter, Numeric}
use Rattle.lbk_uax14.specs.declared.classes.Class.TheVariants.{OpenPunctuation, PostfixNumeric, PrefixNumeric}
use Rattle.lbk_uax14.specs.declared.classes.Class.TheVariants.{Quotation, RegionalIndicator, Space, BreakSymbols}
use Rattle.lbk_uax14.specs.declared.classes.Class.TheVariants.{WordJoiner, ZWSpace, ZWJ}

abbrev pub class_label : Class → List ℕ
class_label Alphabetic = codes "AL"
class_label BreakBoth = codes "B2"
class_label BreakAfter = codes "BA"
class_label BreakBefore = codes "BB"
class_label MandatoryBreak = codes "BK"
class_label ContingentBreak = codes "CB"
class_label ClosePunctuation = codes "CL"
class_label CombiningMark = codes "CM"
class_label CloseParenthesis = codes "CP"
class_label CarriageReturn = codes "CR"
class_label EBase = codes "EB"
class_label EModifier = codes "EM"
class_label Exclamation = codes "EX"
class_label Glue = codes "GL"
class_label H2 = codes "H2"
class_label H3 = codes "H3"
class_label HebrewLetter = codes "HL"
class_label Hyphen = codes "HY"
class_label Ideographic = codes "ID"
class_label Inseparable = codes "IN"
class_label InfixNumeric = codes "IS"
class_label JL = codes "JL"
class_label JT = codes "JT"
class_label JV = codes "JV"
class_label LineFeed = codes "LF"
class_label NextLine = codes "NL"
class_label Nonstarter = codes "NS"
class_label Numeric = codes "NU"
class_label OpenPunctuation = codes "OP"
class_label PostfixNumeric = codes "PO"
class_label PrefixNumeric = codes "PR"
class_label Quotation = codes "QU"
class_label RegionalIndicator = codes "RI"
class_label Space = codes "SP"
class_label BreakSymbols = codes "SY"
class_label WordJoiner = codes "WJ"
class_label ZWSpace = codes "ZW"
class_label ZWJ = codes "ZWJ"
