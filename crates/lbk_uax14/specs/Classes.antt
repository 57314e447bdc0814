-- Classes, and sets of classes under the annex's short names (UAX #14, section 5.1).
use Rattle.std.specs.Prelude.{ℕ, Bool, ◌==◌, ◌||◌, not}
use Rattle.lbk_uax14.specs.declared.classes.Class.{Class}
use Rattle.lbk_uax14.specs.declared.classes.Class.TheVariants.{Alphabetic, BreakBoth, BreakAfter, BreakBefore}
use Rattle.lbk_uax14.specs.declared.classes.Class.TheVariants.{MandatoryBreak, ContingentBreak, ClosePunctuation}
use Rattle.lbk_uax14.specs.declared.classes.Class.TheVariants.{CombiningMark, CloseParenthesis, CarriageReturn, EBase}
use Rattle.lbk_uax14.specs.declared.classes.Class.TheVariants.{EModifier, Exclamation, Glue, H2, H3, HebrewLetter}
use Rattle.lbk_uax14.specs.declared.classes.Class.TheVariants.{Hyphen, Ideographic, Inseparable, InfixNumeric, JL, JT}
use Rattle.lbk_uax14.specs.declared.classes.Class.TheVariants.{JV, LineFeed, NextLine, Nonstarter, Numeric}
use Rattle.lbk_uax14.specs.declared.classes.Class.TheVariants.{OpenPunctuation, PostfixNumeric, PrefixNumeric}
use Rattle.lbk_uax14.specs.declared.classes.Class.TheVariants.{Quotation, RegionalIndicator, Space, BreakSymbols}
use Rattle.lbk_uax14.specs.declared.classes.Class.TheVariants.{WordJoiner, ZWSpace, ZWJ}

-- a set of classes, as a predicate
abbrev pub Set : Type 0
Set = Class → Bool

-- the index of a class among the 38
abbrev pub place : Class → ℕ
place Alphabetic = 0
place BreakBoth = 1
place BreakAfter = 2
place BreakBefore = 3
place MandatoryBreak = 4
place ContingentBreak = 5
place ClosePunctuation = 6
place CombiningMark = 7
place CloseParenthesis = 8
place CarriageReturn = 9
place EBase = 10
place EModifier = 11
place Exclamation = 12
place Glue = 13
place H2 = 14
place H3 = 15
place HebrewLetter = 16
place Hyphen = 17
place Ideographic = 18
place Inseparable = 19
place InfixNumeric = 20
place JL = 21
place JT = 22
place JV = 23
place LineFeed = 24
place NextLine = 25
place Nonstarter = 26
place Numeric = 27
place OpenPunctuation = 28
place PostfixNumeric = 29
place PrefixNumeric = 30
place Quotation = 31
place RegionalIndicator = 32
place Space = 33
place BreakSymbols = 34
place WordJoiner = 35
place ZWSpace = 36
place ZWJ = 37

-- the set of one class
unfoldable pub is : Class → Set
is this class = place class == place this

-- either of two sets
infixl 20 ◌or◌
abbrev pub ◌or◌ : Set → Set → Set
(a or b) class = a class || b class

-- every class except those of a set
abbrev pub none_of : Set → Set
none_of set class = not (set class)

abbrev pub AL : Set
AL = is Alphabetic

abbrev pub B2 : Set
B2 = is BreakBoth

abbrev pub BA : Set
BA = is BreakAfter

abbrev pub BB : Set
BB = is BreakBefore

abbrev pub BK : Set
BK = is MandatoryBreak

abbrev pub CB : Set
CB = is ContingentBreak

abbrev pub CL : Set
CL = is ClosePunctuation

abbrev pub CM : Set
CM = is CombiningMark

abbrev pub CP : Set
CP = is CloseParenthesis

abbrev pub CR : Set
CR = is CarriageReturn

abbrev pub EB : Set
EB = is EBase

abbrev pub EM : Set
EM = is EModifier

abbrev pub EX : Set
EX = is Exclamation

abbrev pub GL : Set
GL = is Glue

abbrev pub isH2 : Set
isH2 = is H2

abbrev pub isH3 : Set
isH3 = is H3

abbrev pub HL : Set
HL = is HebrewLetter

abbrev pub HY : Set
HY = is Hyphen

abbrev pub ID : Set
ID = is Ideographic

abbrev pub IN : Set
IN = is Inseparable

abbrev pub IS : Set
IS = is InfixNumeric

abbrev pub isJL : Set
isJL = is JL

abbrev pub isJT : Set
isJT = is JT

abbrev pub isJV : Set
isJV = is JV

abbrev pub LF : Set
LF = is LineFeed

abbrev pub NL : Set
NL = is NextLine

abbrev pub NS : Set
NS = is Nonstarter

abbrev pub NU : Set
NU = is Numeric

abbrev pub OP : Set
OP = is OpenPunctuation

abbrev pub PO : Set
PO = is PostfixNumeric

abbrev pub PR : Set
PR = is PrefixNumeric

abbrev pub QU : Set
QU = is Quotation

abbrev pub RI : Set
RI = is RegionalIndicator

abbrev pub SP : Set
SP = is Space

abbrev pub SY : Set
SY = is BreakSymbols

abbrev pub WJ : Set
WJ = is WordJoiner

abbrev pub ZW : Set
ZW = is ZWSpace

abbrev pub isZWJ : Set
isZWJ = is ZWJ

-- a mark after these classes has no base: a line end, a space or a break without a space
abbrev pub hard : Set
hard = BK or CR or LF or NL or SP or ZW

-- the classes that join the character before them
abbrev pub mark : Set
mark = CM or isZWJ

-- a closing quotation mark closes before these classes, an opening one opens after these (rules LB15b and LB15a)
abbrev pub closes_before : Set
closes_before = SP or GL or WJ or CL or QU or CP or EX or IS or SY or BK or CR or LF or NL or ZW

abbrev pub opens_after : Set
opens_after = BK or CR or LF or NL or OP or QU or GL or SP or ZW
