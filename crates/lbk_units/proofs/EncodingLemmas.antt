-- The same scalars in several encodings.
use Rattle.std.proofs.Common.{◌≡◌, ℕ, ◌+◌, ◌-◌, ◌/◌, ◌%◌, ◌<◌, ◌≤◌, ◌⊎◌, ⊎_elim, inl, inr, true, false, cond, not, Some, List, [], ◌∷◌, ◌++◌, append_assoc, length, map, take, refl, sym, ap, ap₂, ◌∙◌, arith}
use Rattle.std.specs.Char.{IsScalar, encode_utf8}
use Rattle.std.specs.Char.Escape.{encode_utf16}
use Rattle.std.specs.Char.Utf16.{surrogate_pair_char, utf16_chars}
use Rattle.std.specs.List.{flat_map}
use Rattle.std.specs.Str.{encode_utf8_all}
use Rattle.std.proofs.lemmas.Bool.{and_parts, cases_lt}
use Rattle.std.proofs.lemmas.Bool.Decides.{nat_tests}
use Rattle.std.proofs.lemmas.List.{length-append, take_at}
use Rattle.std.proofs.lemmas.Str.{utf16_chars-nil, utf16_chars_lone, utf16_chars_pair}
use lib.Utf8.{scalar, scalar_cases, scalars}
use Rattle.bstr.specs.Utf8.{Decoded, bad, good, pieces}
use Rattle.lbk_rules.specs.declared.Break.{Break}
use Rattle.lbk_rules.specs.declared.Cell.{Cell}
use Rattle.lbk_values.specs.declared.profile.Profile.{Profile}
use Rattle.lbk_rules.specs.declared.Verdict.{Verdict}
use Rattle.lbk_rules.specs.Breaks.{break_by, is_no}
use Rattle.lbk_rules.specs.Marks.{Marked, marks}
use Rattle.lbk_rules.specs.Verdict.{verdict_between_in}
use Rattle.lbk_rules.proofs.EndLemmas.{start_of_text}
use Rattle.lbk_words.proofs.WellFormedLemmas.{pieces-encode}
use Rattle.lbk_bytes.specs.Bytes.{breaks_after, breaks_of_bytes, with_break}
use Rattle.lbk_bytes.specs.Reached.{scalars_of}
use Rattle.lbk_units.specs.Encodings.{encode_utf16_all, placed_in}
use Rattle.lbk_units.specs.Positions.{breaks_among, positions_after, positions_of_bytes, positions_of_pieces, positions_of_utf16, positions_of_utf32}
use Rattle.lbk_units.specs.Units.{breaks_of_pieces, breaks_of_utf16, breaks_of_utf32, pieces_of_utf16, pieces_of_utf32, utf16_piece}
use Rattle.lbk_bytes.proofs.WideLemmas.{lone-high, lone-low}

-- a scalar that takes so many units
abbrev sized : (ℕ → ℕ) → ℕ → Decoded
sized size c = good c (size c)

abbrev one : ℕ → ℕ
one c = 1

abbrev units16 : ℕ → ℕ
units16 c = length (encode_utf16 c)

abbrev units8 : ℕ → ℕ
units8 c = length (encode_utf8 c)

scalars-sized : (size : ℕ → ℕ) (cs : List ℕ) → scalars_of (map (sized size) cs) ≡ cs
scalars-sized size [] = refl
scalars-sized size (c ∷ cs) = ap (λ l. c ∷ l) (scalars-sized size cs)

-- In each encoding the pieces of some scalars are these

pieces-utf32 : (cs : List ℕ) → scalars cs ≡ true → pieces_of_utf32 cs ≡ map (sized one) cs
pieces-utf32 [] all = refl
pieces-utf32 (c ∷ cs) all =
    let both = and_parts (scalar c) (scalars cs) all in
    ap (λ b. cond b (good c 1) (bad 1) ∷ pieces_of_utf32 cs) both.0 ∙ ap (λ l. good c 1 ∷ l) (pieces-utf32 cs both.1)

-- one unit
encodes-one : (c : ℕ) → c < 0x10000 → encode_utf16 c ≡ c ∷ []
encodes-one c below = grind (arith, nat_tests)

-- two
encodes-two : (c : ℕ) → 0x10000 ≤ c → encode_utf16 c ≡ (0xD800 + (c - 0x10000) / 0x400) ∷ (0xDC00 + (c - 0x10000) % 0x400) ∷ []
encodes-two c above = grind (arith, nat_tests)

chars-low : (c : ℕ) (more : List ℕ) → (c < 0xD800) ⊎ (0xE000 ≤ c) → c < 0x10000 → utf16_chars (encode_utf16 c ++ more) ≡ Some c ∷ utf16_chars more
chars-low c more apart below =
    ap (λ l. utf16_chars (l ++ more)) (encodes-one c below)
    ∙ utf16_chars_lone c more (λ pair. ⊎_elim (λ low. (let no : ⊥ = omega (arith, pair.0) in no)) (λ high. (let no : ⊥ = omega (arith, pair.1) in no)) apart)
    ∙ ap (λ o. o ∷ utf16_chars more) (⊎_elim (λ low. lone-low c low) (λ high. lone-high c high) apart)

chars-high : (c : ℕ) (more : List ℕ) → 0x10000 ≤ c → c < 0x110000 → utf16_chars (encode_utf16 c ++ more) ≡ Some c ∷ utf16_chars more
chars-high c more above below =
    let high = 0xD800 + (c - 0x10000) / 0x400 in
    let low = 0xDC00 + (c - 0x10000) % 0x400 in
    let same : surrogate_pair_char high low ≡ c = omega arith in
    ap (λ l. utf16_chars (l ++ more)) (encodes-two c above)
    ∙ utf16_chars_pair high low more (omega arith, omega arith, omega arith, omega arith)
    ∙ ap (λ n. Some n ∷ utf16_chars more) same

chars-first : (c : ℕ) (more : List ℕ) → IsScalar c → utf16_chars (encode_utf16 c ++ more) ≡ Some c ∷ utf16_chars more
chars-first c more is_scalar =
    ⊎_elim (λ low. chars-low c more (inl low) (omega arith))
    (λ high. ⊎_elim (λ few. chars-low c more (inr high.0) few) (λ many. chars-high c more many high.1) (cases_lt c 0x10000))
    (scalar_cases c is_scalar)

pieces-utf16 : (cs : List ℕ) → scalars cs ≡ true → pieces_of_utf16 (encode_utf16_all cs) ≡ map (sized units16) cs
pieces-utf16 [] all = ap (map utf16_piece) utf16_chars-nil
pieces-utf16 (c ∷ cs) all =
    let both = and_parts (scalar c) (scalars cs) all in
    ap (map utf16_piece) (chars-first c (encode_utf16_all cs) both.0) ∙ ap (λ l. good c (units16 c) ∷ l) (pieces-utf16 cs both.1)

-- One scalar more, encoded

-- in an encoding that spells one scalar after the other
joins : (spell : ℕ → List ℕ) (xs : List ℕ) (c : ℕ)
    → length (flat_map spell (xs ++ c ∷ [])) ≡ length (flat_map spell xs) + length (spell c)
joins spell [] c = length-append (spell c) [] ∙ (let e : length (spell c) + 0 ≡ 0 + length (spell c) = omega arith in e)
joins spell (x ∷ xs) c =
    let on = length-append (spell x) (flat_map spell (xs ++ c ∷ [])) in
    let here = length-append (spell x) (flat_map spell xs) in
    let rest = joins spell xs c in
    omega (arith, on, here, rest)

-- The positions

after-placed : (encode : List ℕ → List ℕ) (size : ℕ → ℕ) → ((xs : List ℕ) (c : ℕ) → length (encode (xs ++ c ∷ [])) ≡ length (encode xs) + size c)
    → (all before cs : List ℕ) (ms : List Marked) → all ≡ before ++ cs
    → positions_after (length (encode before)) (map (sized size) cs) ms ≡ map (placed_in encode all) (positions_after (length before) (map (sized one) cs) ms)
after-placed encode size joins all before [] ms same = refl
after-placed encode size joins all before (c ∷ cs) [] same = refl
after-placed encode size joins all before (c ∷ cs) (m ∷ ms) same =
    let on = before ++ c ∷ [] in
    let split : all ≡ on ++ cs = same ∙ sym (append_assoc before (c ∷ []) cs) in
    let place = length (encode on) in
    let here : length (encode before) + size c ≡ place = sym (joins before c) in
    let count : length before + 1 ≡ length on = sym (length-append before (c ∷ [])) in
    let front : take (length on) all ≡ on = ap (take (length on)) split ∙ take_at on cs (length on) refl in
    ap (λ n. break_by n m.after ∷ positions_after n (map (sized size) cs) ms) here
    ∙ ap (λ l. break_by place m.after ∷ l) (after-placed encode size joins all on cs ms split)
    ∙ ap (λ n. break_by n m.after ∷ map (placed_in encode all) (positions_after (length on) (map (sized one) cs) ms)) (ap (λ l. length (encode l)) (sym front))
    ∙ ap (λ n. map (placed_in encode all) (break_by n m.after ∷ positions_after n (map (sized one) cs) ms)) (sym count)

-- the positions of some scalars in an encoding
encoded : (encode : List ℕ → List ℕ) (size : ℕ → ℕ) → ((xs : List ℕ) (c : ℕ) → length (encode (xs ++ c ∷ [])) ≡ length (encode xs) + size c)
    → length (encode []) ≡ 0 → (profile : Profile) (cell : ℕ → Cell) (cs : List ℕ) (ps : List Decoded) → ps ≡ map (sized size) cs → scalars cs ≡ true
    → positions_of_pieces profile cell ps ≡ map (placed_in encode cs) (positions_of_utf32 profile cell cs)
encoded encode size joins empty profile cell cs ps are all =
    let told = marks profile cell cs in
    let first = verdict_between_in profile [] (map cell cs) in
    ap (positions_of_pieces profile cell) are
    ∙ ap (λ l. break_by 0 (verdict_between_in profile [] (map cell l)) ∷ positions_after 0 (map (sized size) cs) (marks profile cell l)) (scalars-sized size cs)
    ∙ ap (λ n. break_by n first ∷ positions_after n (map (sized size) cs) told) (sym empty)
    ∙ ap (λ l. break_by (length (encode [])) first ∷ l) (after-placed encode size joins cs [] cs told refl)
    ∙ sym (ap (map (placed_in encode cs))
    (ap (positions_of_pieces profile cell) (pieces-utf32 cs all)
    ∙ ap (λ l. break_by 0 (verdict_between_in profile [] (map cell l)) ∷ positions_after 0 (map (sized one) cs) (marks profile cell l)) (scalars-sized one cs)))

pub positions-utf16 : (profile : Profile) (cell : ℕ → Cell) (cs : List ℕ) → scalars cs ≡ true
    → positions_of_utf16 profile cell (encode_utf16_all cs) ≡ map (placed_in encode_utf16_all cs) (positions_of_utf32 profile cell cs)
positions-utf16 profile cell cs all = encoded encode_utf16_all units16 (joins encode_utf16) refl profile cell cs (pieces_of_utf16 (encode_utf16_all cs)) (pieces-utf16 cs all) all

pub positions-utf8 : (profile : Profile) (cell : ℕ → Cell) (cs : List ℕ) → scalars cs ≡ true
    → positions_of_bytes profile cell (encode_utf8_all cs) ≡ map (placed_in encode_utf8_all cs) (positions_of_utf32 profile cell cs)
positions-utf8 profile cell cs all = encoded encode_utf8_all units8 (joins encode_utf8) refl profile cell cs (pieces (encode_utf8_all cs)) (pieces-encode cs all) all

-- The breaks, which are among them

pub after-among : (at : ℕ) (ps : List Decoded) (ms : List Marked) → breaks_among (positions_after at ps ms) ≡ breaks_after at ps ms
after-among at [] ms = refl
after-among at (p ∷ ps) [] = refl
after-among at (p ∷ ps) (m ∷ ms) =
    let next = at + p.size in
    let rest = breaks_among (positions_after next ps ms) in
    (elim (is_no m.after.kind) as (λ k. cond (not k) (break_by next m.after ∷ rest) rest ≡ cond k rest (break_by next m.after ∷ rest)) [
      | true ↦ refl
      | false ↦ refl
    ])
    ∙ ap (with_break next m.after) (after-among next ps ms)

pub breaks-among : (profile : Profile) (cell : ℕ → Cell) (ps : List Decoded) → breaks_among (positions_of_pieces profile cell ps) ≡ breaks_of_pieces profile cell ps
breaks-among profile cell ps =
    let told = marks profile cell (scalars_of ps) in
    ap (λ (v : Verdict). breaks_among (break_by 0 v ∷ positions_after 0 ps told)) (start_of_text profile (map cell (scalars_of ps)))
    ∙ after-among 0 ps told

-- moved breaks keep their kinds
pub among-moved : (move : Break → Break) → ((one : Break) → (move one).kind ≡ one.kind) → (found : List Break)
    → breaks_among (map move found) ≡ map move (breaks_among found)
among-moved move same [] = refl
among-moved move same (one ∷ more) =
    let rest = map move (breaks_among more) in
    ap₂ (λ k l. cond (not (is_no k)) (move one ∷ l) l) (same one) (among-moved move same more)
    ∙ (elim (is_no one.kind) as (λ k. cond (not k) (move one ∷ rest) rest ≡ map move (cond (not k) (one ∷ breaks_among more) (breaks_among more))) [
      | true ↦ refl
      | false ↦ refl
    ])

breaks-placed : (encode : List ℕ → List ℕ) (profile : Profile) (cell : ℕ → Cell) (cs : List ℕ) (ps : List Decoded)
    → positions_of_pieces profile cell ps ≡ map (placed_in encode cs) (positions_of_utf32 profile cell cs)
    → breaks_of_pieces profile cell ps ≡ map (placed_in encode cs) (breaks_of_utf32 profile cell cs)
breaks-placed encode profile cell cs ps placed =
    sym (breaks-among profile cell ps)
    ∙ ap breaks_among placed
    ∙ among-moved (placed_in encode cs) (λ one. refl) (positions_of_utf32 profile cell cs)
    ∙ ap (map (placed_in encode cs)) (breaks-among profile cell (pieces_of_utf32 cs))

pub breaks-utf16 : (profile : Profile) (cell : ℕ → Cell) (cs : List ℕ) → scalars cs ≡ true
    → breaks_of_utf16 profile cell (encode_utf16_all cs) ≡ map (placed_in encode_utf16_all cs) (breaks_of_utf32 profile cell cs)
breaks-utf16 profile cell cs all = breaks-placed encode_utf16_all profile cell cs (pieces_of_utf16 (encode_utf16_all cs)) (positions-utf16 profile cell cs all)

pub breaks-utf8 : (profile : Profile) (cell : ℕ → Cell) (cs : List ℕ) → scalars cs ≡ true
    → breaks_of_bytes profile cell (encode_utf8_all cs) ≡ map (placed_in encode_utf8_all cs) (breaks_of_utf32 profile cell cs)
breaks-utf8 profile cell cs all = breaks-placed encode_utf8_all profile cell cs (pieces (encode_utf8_all cs)) (positions-utf8 profile cell cs all)

-- what the law says
pub ruleset encodings = (breaks-utf8, breaks-utf16, positions-utf8, positions-utf16)
