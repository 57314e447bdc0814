-- Well-formed text, and the states from which some breaks come.
use Rattle.std.proofs.Common.{rules, ◌≡◌, ℕ, zero, suc, ◌<◌, ◌≤◌, true, inl, inr, Some, None, List, [], ◌∷◌, ◌++◌, length, map, refl, sym, ap, subst, ◌∙◌, ◌+◌, arith}
use Rattle.std.specs.Char.{encode_utf8}
use Rattle.std.specs.Str.{IsUtf8, chars, encode_utf8_all}
use Rattle.std.proofs.lemmas.Str.{chars-encodes}
use lib.Utf8.{scalars}
use Rattle.lbk_rules.specs.declared.Cell.{Cell}
use Rattle.lbk_values.specs.declared.profile.Profile.{Profile}
use Rattle.lbk_rules.specs.Breaks.{breaks, breaks_from}
use Rattle.lbk_rules.specs.Marks.{marks, marks_behind}
use Rattle.lbk_rules.specs.Verdict.{verdict_between_in}
use Rattle.lbk_words.proofs.WellFormedLemmas.{good_of, pieces-encode, scalars-good}
use Rattle.lbk_calls.specs.declared.interface.State.{State}
use Rattle.lbk_bytes.specs.Bytes.{breaks_after, breaks_of_bytes, with_break}
use Rattle.lbk_bytes.specs.Reached.{scalars_of}
use Rattle.lbk_calls.specs.Coming.{IsGoing, IsSpent}
use Rattle.lbk_calls.specs.State.{plain, plain_number, profile_numbered}

-- Well-formed text

after-good : (profile : Profile) (cell : ℕ → Cell) (before : List ℕ) (at : ℕ) (cs : List ℕ)
    → breaks_after at (map good_of cs) (marks_behind profile cell before cs) ≡ breaks_from at (marks_behind profile cell before cs)
after-good profile cell before at [] = refl
after-good profile cell before at (c ∷ cs) =
    ap (with_break (at + length (encode_utf8 c)) (verdict_between_in profile (map cell (before ++ c ∷ [])) (map cell cs)))
    (after-good profile cell (before ++ c ∷ []) (at + length (encode_utf8 c)) cs)

encoded-breaks : (profile : Profile) (cell : ℕ → Cell) (cs : List ℕ) → scalars cs ≡ true
    → breaks_of_bytes profile cell (encode_utf8_all cs) ≡ breaks profile cell (chars (encode_utf8_all cs))
encoded-breaks profile cell cs all =
    ap (λ ps. breaks_after 0 ps (marks profile cell (scalars_of ps))) (pieces-encode cs all)
    ∙ ap (λ l. breaks_after 0 (map good_of cs) (marks profile cell l)) (scalars-good cs)
    ∙ after-good profile cell [] 0 cs
    ∙ ap (λ l. breaks profile cell l) (sym (chars-encodes cs all))

-- of well-formed text the breaks of its bytes are those of its scalars
pub breaks-utf8 : (profile : Profile) (cell : ℕ → Cell) (text : List ℕ) → IsUtf8 text
    → breaks_of_bytes profile cell text ≡ breaks profile cell (chars text)
breaks-utf8 profile cell text utf8 =
    subst (λ t. breaks_of_bytes profile cell t ≡ breaks profile cell (chars t)) utf8.1.1 (encoded-breaks profile cell utf8.0 utf8.1.0)

-- Between the calls

pub same-profile : (p q : Profile) (state : State) → profile_numbered state.profile ≡ Some p → profile_numbered state.profile ≡ Some q → p ≡ q
same-profile p q state is also = cc

-- a state that names a profile and is within the text is spent only where it has given all
named-few : (n : ℕ) → n ≤ 3 → profile_numbered (plain_number n) ≡ None → ⊥
named-few zero few none = (let no : ⊥ = cc in no)
named-few (suc zero) few none = (let no : ⊥ = cc in no)
named-few (suc (suc zero)) few none = (let no : ⊥ = cc in no)
named-few (suc (suc (suc zero))) few none = (let no : ⊥ = cc in no)
named-few (suc (suc (suc (suc n)))) few none = absurd (omega (arith, few))

pub spent-ended : (state : State) (len : ℕ) → IsSpent (plain state) len → state.profile ≤ 3 → state.at ≤ len → 0 < state.ended
spent-ended state len (inl unnamed) few within = absurd (named-few state.profile few unnamed)
spent-ended state len (inr (inl ended)) few within = ended
spent-ended state len (inr (inr past)) few within = absurd (omega arith)

-- and one from which some may come names a profile
pub going-few : (profile : Profile) (state : State) (len : ℕ) → IsGoing profile (plain state) len → 3 < state.profile → ⊥
going-few profile state len going more = let named = going.named in search rules
