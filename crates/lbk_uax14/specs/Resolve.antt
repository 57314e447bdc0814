-- The cell of a scalar value, from its four properties (UAX #14, section 6.1, rule LB1).
use Rattle.std.specs.Prelude.{Bool, true, false, ◌&&◌, if◌then◌else◌}
use Rattle.lbk_values.specs.declared.values.LineBreak.{LineBreak}
use Rattle.lbk_values.specs.declared.values.LineBreak.TheVariants as Property
use Rattle.lbk_values.specs.declared.values.EastAsian.{EastAsian}
use Rattle.lbk_values.specs.declared.values.EastAsian.TheVariants as Width
use Rattle.lbk_values.specs.declared.values.Category.{Category}
use Rattle.lbk_values.specs.declared.values.Category.TheVariants.{Lu, Ll, Lt, Lm, Lo, Nd, Nl, No, Mn, Mc, Pi, Pf, Cn}
use Rattle.lbk_uax14.specs.declared.classes.Class.{Class}
use Rattle.lbk_uax14.specs.declared.classes.Class.TheVariants.{Alphabetic, BreakBoth, BreakAfter, BreakBefore}
use Rattle.lbk_uax14.specs.declared.classes.Class.TheVariants.{MandatoryBreak, ContingentBreak, ClosePunctuation}
use Rattle.lbk_uax14.specs.declared.classes.Class.TheVariants.{CombiningMark, CloseParenthesis, CarriageReturn, EBase}
use Rattle.lbk_uax14.specs.declared.classes.Class.TheVariants.{EModifier, Exclamation, Glue, H2, H3, HebrewLetter}
use Rattle.lbk_uax14.specs.declared.classes.Class.TheVariants.{Hyphen, Ideographic, Inseparable, InfixNumeric, JL, JT}
use Rattle.lbk_uax14.specs.declared.classes.Class.TheVariants.{JV, LineFeed, NextLine, Nonstarter, Numeric}
use Rattle.lbk_uax14.specs.declared.classes.Class.TheVariants.{OpenPunctuation, PostfixNumeric, PrefixNumeric}
use Rattle.lbk_uax14.specs.declared.classes.Class.TheVariants.{Quotation, RegionalIndicator, Space, BreakSymbols}
use Rattle.lbk_uax14.specs.declared.classes.Class.TheVariants.{WordJoiner, ZWSpace, ZWJ}
use Rattle.lbk_uax14.specs.declared.classes.Quote.{Quote}
use Rattle.lbk_uax14.specs.declared.classes.Quote.TheVariants.{Neither, Initial, Final}
use Rattle.lbk_uax14.specs.declared.cells.Cell.{Cell}

-- a mark that a complex context resolves to a combining mark
abbrev pub is_combining : Category → Bool
is_combining Mn = true
is_combining Mc = true
is_combining _ = false

-- rule LB1
abbrev pub class_of : LineBreak → Category → Class
class_of Property.Ambiguous category = Alphabetic
class_of Property.Alphabetic category = Alphabetic
class_of Property.BreakBoth category = BreakBoth
class_of Property.BreakAfter category = BreakAfter
class_of Property.BreakBefore category = BreakBefore
class_of Property.MandatoryBreak category = MandatoryBreak
class_of Property.ContingentBreak category = ContingentBreak
class_of Property.ConditionalJapaneseStarter category = Nonstarter
class_of Property.ClosePunctuation category = ClosePunctuation
class_of Property.CombiningMark category = CombiningMark
class_of Property.CloseParenthesis category = CloseParenthesis
class_of Property.CarriageReturn category = CarriageReturn
class_of Property.EBase category = EBase
class_of Property.EModifier category = EModifier
class_of Property.Exclamation category = Exclamation
class_of Property.Glue category = Glue
class_of Property.H2 category = H2
class_of Property.H3 category = H3
class_of Property.HebrewLetter category = HebrewLetter
class_of Property.Hyphen category = Hyphen
class_of Property.Ideographic category = Ideographic
class_of Property.Inseparable category = Inseparable
class_of Property.InfixNumeric category = InfixNumeric
class_of Property.JL category = JL
class_of Property.JT category = JT
class_of Property.JV category = JV
class_of Property.LineFeed category = LineFeed
class_of Property.NextLine category = NextLine
class_of Property.Nonstarter category = Nonstarter
class_of Property.Numeric category = Numeric
class_of Property.OpenPunctuation category = OpenPunctuation
class_of Property.PostfixNumeric category = PostfixNumeric
class_of Property.PrefixNumeric category = PrefixNumeric
class_of Property.Quotation category = Quotation
class_of Property.RegionalIndicator category = RegionalIndicator
class_of Property.ComplexContext category = if is_combining category then CombiningMark else Alphabetic
class_of Property.Surrogate category = Alphabetic
class_of Property.Space category = Space
class_of Property.BreakSymbols category = BreakSymbols
class_of Property.WordJoiner category = WordJoiner
class_of Property.Unknown category = Alphabetic
class_of Property.ZWSpace category = ZWSpace
class_of Property.ZWJ category = ZWJ

abbrev pub is_wide : EastAsian → Bool
is_wide Width.Fullwidth = true
is_wide Width.Wide = true
is_wide Width.Halfwidth = true
is_wide _ = false

abbrev pub is_unassigned : Category → Bool
is_unassigned Cn = true
is_unassigned _ = false

abbrev pub quote_of : Category → Quote
quote_of Pi = Initial
quote_of Pf = Final
quote_of _ = Neither

-- its category begins with L or N
abbrev pub is_letter_or_number : Category → Bool
is_letter_or_number Lu = true
is_letter_or_number Ll = true
is_letter_or_number Lt = true
is_letter_or_number Lm = true
is_letter_or_number Lo = true
is_letter_or_number Nd = true
is_letter_or_number Nl = true
is_letter_or_number No = true
is_letter_or_number _ = false

abbrev pub cell_of_properties : LineBreak → EastAsian → Category → Bool → Cell
cell_of_properties line_break east_asian category pictographic = record {
  class = class_of line_break category;
  wide = is_wide east_asian;
  pict_cn = pictographic && is_unassigned category;
  quote = quote_of category;
  letter = is_letter_or_number category;
}
