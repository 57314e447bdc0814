-- The names of the property values (PropertyValueAliases.txt of the Unicode Character Database), where case matters,
-- and the differences between the four files. No name occurs twice; the most frequent ones in the published files come
-- first.
use Rattle.std.specs.Prelude.{ℕ, Bool, true, false, List, [], ◌∷◌, codes}
use Rattle.lbk_values.specs.declared.values.LineBreak.{LineBreak}
use Rattle.lbk_values.specs.declared.values.LineBreak.TheVariants as lb
use Rattle.lbk_values.specs.declared.values.EastAsian.{EastAsian}
use Rattle.lbk_values.specs.declared.values.EastAsian.TheVariants as ea
use Rattle.lbk_values.specs.declared.values.Category.{Category}
use Rattle.lbk_values.specs.declared.values.Category.TheVariants as gc
use Rattle.lbk_ucd.specs.File.{Format}

-- Line_Break: each value by its short and its long name
abbrev pub line_break_names : List (List ℕ × LineBreak)
line_break_names =
    (codes "AL", lb.Alphabetic) ∷ (codes "Alphabetic", lb.Alphabetic)
    ∷ (codes "CM", lb.CombiningMark) ∷ (codes "Combining_Mark", lb.CombiningMark)
    ∷ (codes "H2", lb.H2)
    ∷ (codes "H3", lb.H3)
    ∷ (codes "ID", lb.Ideographic) ∷ (codes "Ideographic", lb.Ideographic)
    ∷ (codes "SA", lb.ComplexContext) ∷ (codes "Complex_Context", lb.ComplexContext)
    ∷ (codes "AI", lb.Ambiguous) ∷ (codes "Ambiguous", lb.Ambiguous)
    ∷ (codes "BA", lb.BreakAfter) ∷ (codes "Break_After", lb.BreakAfter)
    ∷ (codes "OP", lb.OpenPunctuation) ∷ (codes "Open_Punctuation", lb.OpenPunctuation)
    ∷ (codes "CL", lb.ClosePunctuation) ∷ (codes "Close_Punctuation", lb.ClosePunctuation)
    ∷ (codes "NU", lb.Numeric) ∷ (codes "Numeric", lb.Numeric)
    ∷ (codes "B2", lb.BreakBoth) ∷ (codes "Break_Both", lb.BreakBoth)
    ∷ (codes "BB", lb.BreakBefore) ∷ (codes "Break_Before", lb.BreakBefore)
    ∷ (codes "BK", lb.MandatoryBreak) ∷ (codes "Mandatory_Break", lb.MandatoryBreak)
    ∷ (codes "CB", lb.ContingentBreak) ∷ (codes "Contingent_Break", lb.ContingentBreak)
    ∷ (codes "CJ", lb.ConditionalJapaneseStarter)
    ∷ (codes "Conditional_Japanese_Starter", lb.ConditionalJapaneseStarter)
    ∷ (codes "CP", lb.CloseParenthesis) ∷ (codes "Close_Parenthesis", lb.CloseParenthesis)
    ∷ (codes "CR", lb.CarriageReturn) ∷ (codes "Carriage_Return", lb.CarriageReturn)
    ∷ (codes "EB", lb.EBase) ∷ (codes "E_Base", lb.EBase)
    ∷ (codes "EM", lb.EModifier) ∷ (codes "E_Modifier", lb.EModifier)
    ∷ (codes "EX", lb.Exclamation) ∷ (codes "Exclamation", lb.Exclamation)
    ∷ (codes "GL", lb.Glue) ∷ (codes "Glue", lb.Glue)
    ∷ (codes "HL", lb.HebrewLetter) ∷ (codes "Hebrew_Letter", lb.HebrewLetter)
    ∷ (codes "HY", lb.Hyphen) ∷ (codes "Hyphen", lb.Hyphen)
    ∷ (codes "IN", lb.Inseparable) ∷ (codes "Inseparable", lb.Inseparable)
    ∷ (codes "IS", lb.InfixNumeric) ∷ (codes "Infix_Numeric", lb.InfixNumeric)
    ∷ (codes "JL", lb.JL)
    ∷ (codes "JT", lb.JT)
    ∷ (codes "JV", lb.JV)
    ∷ (codes "LF", lb.LineFeed) ∷ (codes "Line_Feed", lb.LineFeed)
    ∷ (codes "NL", lb.NextLine) ∷ (codes "Next_Line", lb.NextLine)
    ∷ (codes "NS", lb.Nonstarter) ∷ (codes "Nonstarter", lb.Nonstarter)
    ∷ (codes "PO", lb.PostfixNumeric) ∷ (codes "Postfix_Numeric", lb.PostfixNumeric)
    ∷ (codes "PR", lb.PrefixNumeric) ∷ (codes "Prefix_Numeric", lb.PrefixNumeric)
    ∷ (codes "QU", lb.Quotation) ∷ (codes "Quotation", lb.Quotation)
    ∷ (codes "RI", lb.RegionalIndicator) ∷ (codes "Regional_Indicator", lb.RegionalIndicator)
    ∷ (codes "SG", lb.Surrogate) ∷ (codes "Surrogate", lb.Surrogate)
    ∷ (codes "SP", lb.Space) ∷ (codes "Space", lb.Space)
    ∷ (codes "SY", lb.BreakSymbols) ∷ (codes "Break_Symbols", lb.BreakSymbols)
    ∷ (codes "WJ", lb.WordJoiner) ∷ (codes "Word_Joiner", lb.WordJoiner)
    ∷ (codes "XX", lb.Unknown) ∷ (codes "Unknown", lb.Unknown)
    ∷ (codes "ZW", lb.ZWSpace) ∷ (codes "ZWSpace", lb.ZWSpace)
    ∷ (codes "ZWJ", lb.ZWJ)
    ∷ []

-- East_Asian_Width: each value by its short and its long name
abbrev pub east_asian_names : List (List ℕ × EastAsian)
east_asian_names =
    (codes "N", ea.Neutral) ∷ (codes "Neutral", ea.Neutral)
    ∷ (codes "W", ea.Wide) ∷ (codes "Wide", ea.Wide)
    ∷ (codes "A", ea.Ambiguous) ∷ (codes "Ambiguous", ea.Ambiguous)
    ∷ (codes "Na", ea.Narrow) ∷ (codes "Narrow", ea.Narrow)
    ∷ (codes "F", ea.Fullwidth) ∷ (codes "Fullwidth", ea.Fullwidth)
    ∷ (codes "H", ea.Halfwidth) ∷ (codes "Halfwidth", ea.Halfwidth)
    ∷ []

-- General_Category: only short names
abbrev pub category_names : List (List ℕ × Category)
category_names =
    (codes "Cn", gc.Cn)
    ∷ (codes "Ll", gc.Ll)
    ∷ (codes "Lu", gc.Lu)
    ∷ (codes "Lo", gc.Lo)
    ∷ (codes "Mn", gc.Mn)
    ∷ (codes "Po", gc.Po)
    ∷ (codes "So", gc.So)
    ∷ (codes "Mc", gc.Mc)
    ∷ (codes "Lt", gc.Lt)
    ∷ (codes "Lm", gc.Lm)
    ∷ (codes "Me", gc.Me)
    ∷ (codes "Nd", gc.Nd)
    ∷ (codes "Nl", gc.Nl)
    ∷ (codes "No", gc.No)
    ∷ (codes "Pc", gc.Pc)
    ∷ (codes "Pd", gc.Pd)
    ∷ (codes "Ps", gc.Ps)
    ∷ (codes "Pe", gc.Pe)
    ∷ (codes "Pi", gc.Pi)
    ∷ (codes "Pf", gc.Pf)
    ∷ (codes "Sm", gc.Sm)
    ∷ (codes "Sc", gc.Sc)
    ∷ (codes "Sk", gc.Sk)
    ∷ (codes "Zs", gc.Zs)
    ∷ (codes "Zl", gc.Zl)
    ∷ (codes "Zp", gc.Zp)
    ∷ (codes "Cc", gc.Cc)
    ∷ (codes "Cf", gc.Cf)
    ∷ (codes "Cs", gc.Cs)
    ∷ (codes "Co", gc.Co)
    ∷ []

-- the one property of emoji-data.txt that is kept
abbrev pub emoji_names : List (List ℕ × Bool)
emoji_names =
    (codes "Extended_Pictographic", true)
    ∷ []

-- LineBreak.txt, EastAsianWidth.txt, DerivedGeneralCategory.txt and emoji-data.txt
unfoldable pub line_break_format : Format LineBreak
line_break_format = record { names = line_break_names; others = false; defaults = true; unlisted = lb.Unknown }

unfoldable pub east_asian_format : Format EastAsian
east_asian_format = record { names = east_asian_names; others = false; defaults = true; unlisted = ea.Neutral }

unfoldable pub category_format : Format Category
category_format = record { names = category_names; others = false; defaults = false; unlisted = gc.Cn }

unfoldable pub emoji_format : Format Bool
emoji_format = record { names = emoji_names; others = true; defaults = false; unlisted = false }
