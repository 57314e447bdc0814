-- The rules, in the annex's order (UAX #14, section 6): the first one that matches decides. × is No, ÷ is May, ! is
-- Must.
use Rattle.std.specs.Prelude.{Bool, ◌&&◌, if◌then◌else◌, List, [], ◌∷◌, ◌++◌, map, reverse}
use Rattle.lbk_uax14.specs.declared.verdicts.Kind.TheVariants.{No, May, Must}
use Rattle.lbk_uax14.specs.declared.verdicts.Rule.{Rule}
use Rattle.lbk_uax14.specs.declared.verdicts.Rule.TheVariants.{Lb2, Lb3, Lb4, Lb5, Lb6, Lb7, Lb8, Lb8a, Lb9, Lb11}
use Rattle.lbk_uax14.specs.declared.verdicts.Rule.TheVariants.{Lb12, Lb12a, Lb13, Lb14, Lb15, Lb15a, Lb15b, Lb16}
use Rattle.lbk_uax14.specs.declared.verdicts.Rule.TheVariants.{Lb17, Lb18, Lb19, Lb20, Lb21, Lb21a, Lb21b, Lb22, Lb23}
use Rattle.lbk_uax14.specs.declared.verdicts.Rule.TheVariants.{Lb23a, Lb24, Lb25, Lb26, Lb27, Lb28, Lb29, Lb30, Lb30a}
use Rattle.lbk_uax14.specs.declared.verdicts.Rule.TheVariants.{Lb30b, Lb31}
use Rattle.lbk_values.specs.declared.profile.Profile.{Profile}
use Rattle.lbk_values.specs.declared.profile.Profile.TheVariants.{First, Second}
use Rattle.lbk_uax14.specs.declared.verdicts.Verdict.{Verdict}
use Rattle.lbk_uax14.specs.declared.cells.Cell.{Cell}
use Rattle.lbk_uax14.specs.Classes.{◌or◌, none_of, AL, B2, BA, BB, BK, CB, CL, CP, CR, EB, EM, EX, GL, isH2, isH3, HL}
use Rattle.lbk_uax14.specs.Classes.{HY, ID, IN, IS, isJL, isJT, isJV, LF, NL, NS, NU, OP, PO, PR, QU, RI, SP, SY, WJ}
use Rattle.lbk_uax14.specs.Classes.{ZW, isZWJ, hard, mark}
use Rattle.lbk_uax14.specs.Sides.{Condition, is_nothing, at, behind, at_narrow, at_odd_run, at_pictograph}
use Rattle.lbk_uax14.specs.Sides.{past_spaces, opens_quotation, closes_quotation, on_left, on_right, between}
use Rattle.lbk_uax14.specs.Sides.{over_spaces, everywhere}
use Rattle.lbk_uax14.specs.Units.{units}

-- a line of the table: its verdict if its condition holds
pub record Line : Type 0 where
  pub answer : Verdict
  pub holds : Condition

infix 15 ◌×at◌
abbrev pub ◌×at◌ : Rule → Condition → Line
name ×at condition = record { answer = record { kind = No; rule = name }; holds = condition }

infix 15 ◌÷at◌
abbrev pub ◌÷at◌ : Rule → Condition → Line
name ÷at condition = record { answer = record { kind = May; rule = name }; holds = condition }

infix 15 ◌!at◌
abbrev pub ◌!at◌ : Rule → Condition → Line
name !at condition = record { answer = record { kind = Must; rule = name }; holds = condition }

-- 6.1 Non-tailorable rules, over cells

-- start and end of text, mandatory breaks, explicit breaks and non-breaks, combining marks
unfoldable pub cell_rules : List Line
cell_rules =
    (Lb2 ×at (λ left right. is_nothing left))
    ∷ (Lb3 !at (λ left right. is_nothing right))
    ∷ (Lb4 !at on_left BK)
    ∷ (Lb5 ×at between CR LF)
    ∷ (Lb5 !at on_left (CR or LF or NL))
    ∷ (Lb6 ×at on_right (BK or CR or LF or NL))
    ∷ (Lb7 ×at on_right (SP or ZW))
    ∷ (Lb8 ÷at (λ left right. past_spaces ZW left))
    ∷ (Lb8a ×at on_left isZWJ)
    ∷ (Lb9 ×at between (none_of hard) mark)
    ∷ []

-- 6.1 Non-tailorable rules, over units

-- word joiner, non-breaking characters, closing punctuation
unfoldable pub joining_rules : List Line
joining_rules =
    (Lb11 ×at on_right WJ)
    ∷ (Lb11 ×at on_left WJ)
    ∷ (Lb12 ×at on_left GL)
    ∷ (Lb12a ×at between (none_of (SP or BA or HY)) GL)
    ∷ (Lb13 ×at on_right (CL or CP or EX or IS or SY))
    ∷ []

-- 6.2 Tailorable rules, over units

-- opening punctuation
unfoldable pub opening_rules : List Line
opening_rules =
    (Lb14 ×at (λ left right. past_spaces OP left))
    ∷ []

-- quotation marks, by profile
unfoldable pub quotation_rules : Profile → List Line
quotation_rules First =
    (Lb15 ×at over_spaces QU OP)
    ∷ []
quotation_rules Second =
    (Lb15a ×at (λ left right. opens_quotation left))
    ∷ (Lb15b ×at (λ left right. closes_quotation right))
    ∷ []

-- closing punctuation and nonstarters, dashes, spaces
unfoldable pub space_rules : List Line
space_rules =
    (Lb16 ×at over_spaces (CL or CP) NS)
    ∷ (Lb17 ×at over_spaces B2 B2)
    ∷ (Lb18 ÷at on_left SP)
    ∷ []

-- quotation marks, contingent breaks, hyphens, leaders
unfoldable pub hyphen_rules : List Line
hyphen_rules =
    (Lb19 ×at on_right QU)
    ∷ (Lb19 ×at on_left QU)
    ∷ (Lb20 ÷at on_right CB)
    ∷ (Lb20 ÷at on_left CB)
    ∷ (Lb21 ×at on_right (BA or HY or NS))
    ∷ (Lb21 ×at on_left BB)
    ∷ (Lb21a ×at (λ left right. at (HY or BA) left && behind HL left))
    ∷ (Lb21b ×at between SY HL)
    ∷ (Lb22 ×at on_right IN)
    ∷ []

-- letters and digits, prefixes and postfixes
unfoldable pub affix_rules : List Line
affix_rules =
    (Lb23 ×at between (AL or HL) NU)
    ∷ (Lb23 ×at between NU (AL or HL))
    ∷ (Lb23a ×at between PR (ID or EB or EM))
    ∷ (Lb23a ×at between (ID or EB or EM) PO)
    ∷ (Lb24 ×at between (PR or PO) (AL or HL))
    ∷ (Lb24 ×at between (AL or HL) (PR or PO))
    ∷ []

-- numbers
unfoldable pub number_rules : List Line
number_rules =
    (Lb25 ×at between CL PO)
    ∷ (Lb25 ×at between CP PO)
    ∷ (Lb25 ×at between CL PR)
    ∷ (Lb25 ×at between CP PR)
    ∷ (Lb25 ×at between NU PO)
    ∷ (Lb25 ×at between NU PR)
    ∷ (Lb25 ×at between PO OP)
    ∷ (Lb25 ×at between PO NU)
    ∷ (Lb25 ×at between PR OP)
    ∷ (Lb25 ×at between PR NU)
    ∷ (Lb25 ×at between HY NU)
    ∷ (Lb25 ×at between IS NU)
    ∷ (Lb25 ×at between NU NU)
    ∷ (Lb25 ×at between SY NU)
    ∷ []

-- Korean syllable blocks
unfoldable pub syllable_rules : List Line
syllable_rules =
    (Lb26 ×at between isJL (isJL or isJV or isH2 or isH3))
    ∷ (Lb26 ×at between (isJV or isH2) (isJV or isJT))
    ∷ (Lb26 ×at between (isJT or isH3) isJT)
    ∷ (Lb27 ×at between (isJL or isJV or isJT or isH2 or isH3) PO)
    ∷ (Lb27 ×at between PR (isJL or isJV or isJT or isH2 or isH3))
    ∷ []

-- letters, parentheses, flags, emoji
unfoldable pub letter_rules : List Line
letter_rules =
    (Lb28 ×at between (AL or HL) (AL or HL))
    ∷ (Lb29 ×at between IS (AL or HL))
    ∷ (Lb30 ×at (λ left right. at (AL or HL or NU) left && at_narrow OP right))
    ∷ (Lb30 ×at (λ left right. at_narrow CP left && at (AL or HL or NU) right))
    ∷ (Lb30a ×at (λ left right. at_odd_run left && at RI right))
    ∷ (Lb30b ×at between EB EM)
    ∷ (Lb30b ×at (λ left right. at_pictograph left && at EM right))
    ∷ []

-- all others
unfoldable pub last_rule : List Line
last_rule =
    (Lb31 ÷at everywhere)
    ∷ []

-- all rules over units
unfoldable pub unit_rules : Profile → List Line
unit_rules profile =
    joining_rules
    ++ opening_rules
    ++ quotation_rules profile
    ++ space_rules
    ++ hyphen_rules
    ++ affix_rules
    ++ number_rules
    ++ syllable_rules
    ++ letter_rules
    ++ last_rule

-- An entry of the rule list: its verdict, and whether it matches between the whole list of cells on the left and the
-- whole list of cells on the right
pub record Entry : Type 0 where
  pub answer : Verdict
  pub matches : List Cell → List Cell → Bool

-- a line that looks at cells
abbrev pub over_cells : Line → Entry
over_cells line = record {
  answer = line.answer;
  matches = λ left right. line.holds (reverse left) right;
}

-- a line that looks at the units of the left and the units of the right
abbrev pub over_units : Line → Entry
over_units line = record {
  answer = line.answer;
  matches = λ left right. line.holds (reverse (units left)) (units right);
}

-- the rule list of a profile
unfoldable pub rule_list : Profile → List Entry
rule_list profile =
    map over_cells cell_rules
    ++ map over_units (unit_rules profile)

-- the verdict of the first entry that matches. The last entry matches everywhere, so some entry always does
abbrev pub first_match : List Entry → List Cell → List Cell → Verdict
first_match [] left right = record { kind = May; rule = Lb31 }
first_match (entry ∷ entries) left right =
    if entry.matches left right then entry.answer else first_match entries left right
