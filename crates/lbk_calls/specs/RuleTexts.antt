-- What each rule of UAX #14, section 6, says, in one line. All languages and the page take these sentences.
use Rattle.std.specs.Prelude.{ℕ, ◌==◌, List, [], Option, Some, None, codes, find}
use Rattle.lbk_rules.specs.declared.Rule.{Rule}
use Rattle.lbk_rules.specs.declared.Rule.TheVariants.{Lb2, Lb3, Lb4, Lb5, Lb6, Lb7, Lb8, Lb8a, Lb9, Lb11}
use Rattle.lbk_rules.specs.declared.Rule.TheVariants.{Lb12, Lb12a, Lb13, Lb14, Lb15, Lb15a, Lb15b, Lb16, Lb17, Lb18}
use Rattle.lbk_rules.specs.declared.Rule.TheVariants.{Lb19, Lb20, Lb21, Lb21a, Lb21b, Lb22, Lb23, Lb23a, Lb24, Lb25}
use Rattle.lbk_rules.specs.declared.Rule.TheVariants.{Lb26, Lb27, Lb28, Lb29, Lb30, Lb30a, Lb30b, Lb31}
use Rattle.lbk_rules.specs.Codes.{rule_number, rules}
use Rattle.lbk_calls.specs.Padding.{padded}

abbrev pub rule_text_of : Rule → List ℕ
rule_text_of Lb2 = codes "No break at the start of the text."
rule_text_of Lb3 = codes "Always break at the end of the text."
rule_text_of Lb4 = codes "Always break after a mandatory break (BK)."
rule_text_of Lb5 =
    codes "CR LF is one line end. Break after it, and after a CR, LF or next line (NL) that stands alone."
rule_text_of Lb6 = codes "No break before a line end."
rule_text_of Lb7 = codes "No break before a space or a zero width space."
rule_text_of Lb8 = codes "A break is allowed after a zero width space, also where spaces follow it."
rule_text_of Lb8a = codes "No break after a zero width joiner."
rule_text_of Lb9 = codes "A combining mark or joiner stays with the character before it."
rule_text_of Lb11 = codes "No break before or after a word joiner."
rule_text_of Lb12 = codes "No break after a no-break space or other glue."
rule_text_of Lb12a = codes "No break before glue, except after a space or a hyphen."
rule_text_of Lb13 = codes "No break before closing punctuation, exclamation, infix separators or slashes."
rule_text_of Lb14 = codes "No break after opening punctuation, even where spaces follow it."
rule_text_of Lb15 = codes "No break between a quotation mark and opening punctuation, even across spaces."
rule_text_of Lb15a = codes "No break after an opening quotation mark that starts a quotation, even across spaces."
rule_text_of Lb15b = codes "No break before a closing quotation mark that ends a quotation."
rule_text_of Lb16 = codes "No break between closing punctuation and a nonstarter, even across spaces."
rule_text_of Lb17 = codes "No break between two em dashes, even across spaces."
rule_text_of Lb18 = codes "A break is allowed after spaces."
rule_text_of Lb19 = codes "No break before or after a quotation mark."
rule_text_of Lb20 = codes "A break is allowed before and after an object whose breaks others decide (CB)."
rule_text_of Lb21 = codes "No break before hyphens, nonstarters and break-after (BA); none after break-before (BB)."
rule_text_of Lb21a = codes "No break after a hyphen that follows a Hebrew letter."
rule_text_of Lb21b = codes "No break between a slash and a Hebrew letter."
rule_text_of Lb22 = codes "No break before an ellipsis."
rule_text_of Lb23 = codes "No break between letters and digits."
rule_text_of Lb23a = codes "No break between a prefix and an ideograph, or an ideograph and a postfix."
rule_text_of Lb24 = codes "No break between letters and prefixes or postfixes."
rule_text_of Lb25 = codes "No break within a number with its signs, separators and units."
rule_text_of Lb26 = codes "No break within a Korean syllable."
rule_text_of Lb27 = codes "Korean syllables stay with prefixes and postfixes as ideographs do."
rule_text_of Lb28 = codes "No break between letters."
rule_text_of Lb29 = codes "No break between an infix separator and a letter."
rule_text_of Lb30 = codes "No break between a letter or digit and a narrow parenthesis."
rule_text_of Lb30a = codes "Regional indicators go in pairs, and break between pairs only."
rule_text_of Lb30b = codes "No break between an emoji and its modifier."
rule_text_of Lb31 = codes "A break is allowed everywhere else."

-- the 96 bytes of what a rule says, if there is one
abbrev pub rule_text_in : Option Rule → List ℕ
rule_text_in None = padded 96 []
rule_text_in (Some rule) = padded 96 (rule_text_of rule)

-- the 96 bytes of what the rule that has this number says; zeros where no rule has it
abbrev pub rule_text_numbered : ℕ → List ℕ
rule_text_numbered number = rule_text_in (find (λ rule. rule_number rule == number) rules)
