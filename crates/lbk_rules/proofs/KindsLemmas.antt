-- Kinds: a cell's kind leads back to the normal cell.
use Rattle.std.proofs.Common.{◌≡◌, ℕ, zero, suc, ◌+◌, ◌*◌, ◌%◌, ◌<◌, Bool, true, false, ◌&&◌, leb, ltb, List, [], ◌∷◌, ltb-true, ap, ap₂, refl, ◌∙◌, arith, lit<}
use Rattle.std.specs.List.{list_all}
use Rattle.std.proofs.lemmas.Bool.{and_parts, lt-ltb}
use Rattle.std.proofs.lemmas.Bool.Decides.{nat_tests}
use Rattle.std.specs.Int.{from_bool}
use Rattle.lbk_uax14.specs.declared.cells.Cell.{Cell}
use Rattle.lbk_uax14.specs.declared.classes.Class.{Class}
use Rattle.lbk_uax14.specs.declared.classes.Class.TheVariants.{Alphabetic, BreakBoth, BreakAfter, BreakBefore, MandatoryBreak, ContingentBreak, ClosePunctuation, CombiningMark, CloseParenthesis, CarriageReturn, EBase, EModifier, Exclamation, Glue, H2, H3, HebrewLetter, Hyphen, Ideographic, Inseparable, InfixNumeric, JL, JT, JV, LineFeed, NextLine, Nonstarter, Numeric, OpenPunctuation, PostfixNumeric, PrefixNumeric, Quotation, RegionalIndicator, Space, BreakSymbols, WordJoiner, ZWSpace, ZWJ}
use Rattle.lbk_uax14.specs.declared.classes.Quote.{Quote}
use Rattle.lbk_uax14.specs.declared.classes.Quote.TheVariants.{Neither, Initial, Final}
use Rattle.lbk_uax14.specs.Classes.{is, mark, none_of}
use Rattle.lbk_rules.specs.declared.kinds.TheConstants.{KINDS}
use Rattle.lbk_rules.specs.FlatTable.{AreKinds}
use Rattle.lbk_rules.specs.Kinds.{kind_cell, kind_of, real_kind, slot_cell, slot_of}
use Rattle.lbk_uax14.specs.Normal.{normal}

-- a place leads back to the cell, but for what no rule asks of it
abbrev LeadsBack : Cell → Type 0
LeadsBack cell = (slot_of cell < 42) × (slot_cell (slot_of cell) (none_of mark cell.class && cell.pict_cn) ≡ normal cell)

leads_back : (class : Class) (wide pict_cn : Bool) (quote : Quote) (letter : Bool)
    → LeadsBack (record { class = class; wide = wide; pict_cn = pict_cn; quote = quote; letter = letter })
unfolding is normal
leads_back Alphabetic wide pict_cn quote letter = (lit< tt, refl)
leads_back BreakBoth wide pict_cn quote letter = (lit< tt, refl)
leads_back BreakAfter wide pict_cn quote letter = (lit< tt, refl)
leads_back BreakBefore wide pict_cn quote letter = (lit< tt, refl)
leads_back MandatoryBreak wide pict_cn quote letter = (lit< tt, refl)
leads_back ContingentBreak wide pict_cn quote letter = (lit< tt, refl)
leads_back ClosePunctuation wide pict_cn quote letter = (lit< tt, refl)
leads_back CombiningMark wide pict_cn quote letter = (lit< tt, refl)
leads_back CloseParenthesis true pict_cn quote letter = (lit< tt, refl)
leads_back CloseParenthesis false pict_cn quote letter = (lit< tt, refl)
leads_back CarriageReturn wide pict_cn quote letter = (lit< tt, refl)
leads_back EBase wide pict_cn quote letter = (lit< tt, refl)
leads_back EModifier wide pict_cn quote letter = (lit< tt, refl)
leads_back Exclamation wide pict_cn quote letter = (lit< tt, refl)
leads_back Glue wide pict_cn quote letter = (lit< tt, refl)
leads_back H2 wide pict_cn quote letter = (lit< tt, refl)
leads_back H3 wide pict_cn quote letter = (lit< tt, refl)
leads_back HebrewLetter wide pict_cn quote letter = (lit< tt, refl)
leads_back Hyphen wide pict_cn quote letter = (lit< tt, refl)
leads_back Ideographic wide pict_cn quote letter = (lit< tt, refl)
leads_back Inseparable wide pict_cn quote letter = (lit< tt, refl)
leads_back InfixNumeric wide pict_cn quote letter = (lit< tt, refl)
leads_back JL wide pict_cn quote letter = (lit< tt, refl)
leads_back JT wide pict_cn quote letter = (lit< tt, refl)
leads_back JV wide pict_cn quote letter = (lit< tt, refl)
leads_back LineFeed wide pict_cn quote letter = (lit< tt, refl)
leads_back NextLine wide pict_cn quote letter = (lit< tt, refl)
leads_back Nonstarter wide pict_cn quote letter = (lit< tt, refl)
leads_back Numeric wide pict_cn quote letter = (lit< tt, refl)
leads_back OpenPunctuation true pict_cn quote letter = (lit< tt, refl)
leads_back OpenPunctuation false pict_cn quote letter = (lit< tt, refl)
leads_back PostfixNumeric wide pict_cn quote letter = (lit< tt, refl)
leads_back PrefixNumeric wide pict_cn quote letter = (lit< tt, refl)
leads_back Quotation wide pict_cn Neither letter = (lit< tt, refl)
leads_back Quotation wide pict_cn Initial letter = (lit< tt, refl)
leads_back Quotation wide pict_cn Final letter = (lit< tt, refl)
leads_back RegionalIndicator wide pict_cn quote letter = (lit< tt, refl)
leads_back Space wide pict_cn quote letter = (lit< tt, refl)
leads_back BreakSymbols wide pict_cn quote letter = (lit< tt, refl)
leads_back WordJoiner wide pict_cn quote letter = (lit< tt, refl)
leads_back ZWSpace wide pict_cn quote letter = (lit< tt, refl)
leads_back ZWJ wide pict_cn quote letter = (lit< tt, refl)

-- a number of two digits, of which the first is a test, leads back to both
test_digit : (slot : ℕ) (b : Bool) → slot < 42 → leb 42 (slot + 42 * from_bool b) ≡ b
test_digit slot true few = grind (arith, nat_tests)
test_digit slot false few = grind (arith, nat_tests)

slot_digit : (slot : ℕ) (b : Bool) → slot < 42 → (slot + 42 * from_bool b) % 42 ≡ slot
slot_digit slot true few = omega arith
slot_digit slot false few = omega arith

few_digits : (slot : ℕ) (b : Bool) → slot < 42 → slot + 42 * from_bool b < 84
few_digits slot true few = omega arith
few_digits slot false few = omega arith

-- the kind of a cell is that of one normal cell
pub kind-cell : (cell : Cell) → kind_cell (kind_of cell) ≡ normal cell
unfolding kind_cell kind_of
kind-cell cell =
    let b = none_of mark cell.class && cell.pict_cn in
    let back = leads_back cell.class cell.wide cell.pict_cn cell.quote cell.letter in
    ap (λ slot. slot_cell slot (leb 42 (slot_of cell + 42 * from_bool b))) (slot_digit (slot_of cell) b back.0)
    ∙ (ap (λ test. slot_cell (slot_of cell) test) (test_digit (slot_of cell) b back.0)
    ∙ back.1)

pub kind-few : (cell : Cell) → kind_of cell < 84
unfolding kind_of
kind-few cell =
    few_digits (slot_of cell) (none_of mark cell.class && cell.pict_cn)
    (leads_back cell.class cell.wide cell.pict_cn cell.quote cell.letter).0

-- a kind stands for itself
pub real-kind : (kind : ℕ) → kind < 84 → real_kind kind ≡ kind
real-kind kind few = omega arith

-- numbers that are tested one by one
pub all-kinds : (kinds : List ℕ) → list_all (λ kind. ltb kind KINDS) kinds ≡ true → AreKinds kinds
all-kinds [] all i = lit< tt
all-kinds (kind ∷ kinds) all zero = ltb-true kind KINDS (and_parts (ltb kind KINDS) (list_all (λ k. ltb k KINDS) kinds) all).0
all-kinds (kind ∷ kinds) all (suc i) = all-kinds kinds (and_parts (ltb kind KINDS) (list_all (λ k. ltb k KINDS) kinds) all).1 i

pub kinds-all : (kinds : List ℕ) → AreKinds kinds → list_all (λ kind. ltb kind KINDS) kinds ≡ true
kinds-all [] are = refl
kinds-all (kind ∷ kinds) are = ap₂ (λ a b. a && b) (lt-ltb kind KINDS (are 0)) (kinds-all kinds (λ i. are (suc i)))
