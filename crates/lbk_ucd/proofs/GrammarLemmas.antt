-- `meaning_of` answers just what the grammar relates to a line.
use Rattle.std.proofs.Common.{◌≡◌, ◌≢◌, ℕ, suc, ◌==◌, nat_eq, nat_lt, nat_le, ◌+◌, ◌-◌, ◌<◌, ◌≤◌, ◌&&◌, not, Bool, true, false, cond, List, [], ◌∷◌, ◌++◌, length, get_or, take, drop, reverse, codes, Option, Some, None, option_and_then, sym, ap, refl, ◌∙◌, arith, inl, inr, ◌⊎◌, length-append, length-drop, append-nil, append_assoc, slice_index, subst}
use Rattle.std.specs.List.{AllPass, list_any, list_all, prefix_len, suffix_len, position_or_len, before_first, after_first, starts_with}
use Rattle.std.specs.Option.{option_map, option_map_or}
use Rattle.std.specs.Str.Parse.{digits_value}
use Rattle.std.proofs.lemmas.Bool.{and_parts, and_right, cases_lt, eqb-true, eq-eqb, or_parts}
use Rattle.std.proofs.lemmas.Bool.Decides.{nat_tests, Decides-eqb}
use Rattle.std.proofs.lemmas.List.{take-append-drop, take_more, get_or_at, get_or_past, take_at, drop_at, take_all, drop_all, get_or-drop, get_or-reverse, length-reverse, reverse-append}
use Rattle.std.proofs.lemmas.List.Folds.{list_any-append, list_all-append}
use Rattle.std.proofs.lemmas.List.Sums.{list_all-from_AllPass, prefix_len-le-length, prefix_len_passes}
use Rattle.std.proofs.lemmas.List.Sorted.{IsPermutation-reverse, list_any-IsPermutation}
use Rattle.std.proofs.lemmas.Option.{cond_some, option_and_then_some}
use Rattle.std.proofs.lemmas.Slice.Eq.{starts_is}
use Rattle.lbk_ucd.specs.PropertyLine.{Entry, Meaning, nothing, row, default, is_space, is_dot, is_semicolon, is_hash, is_hex, is_name_byte, trimmed, trimmed_start, code_of, pair_of, range_of, name_of, entry_of, default_of, comment_meaning, without_return, meaning_of}
use Rattle.lbk_ucd.specs.Grammar.{IsBlank, IsCode, IsRange, one, two, IsName, IsEntry, IsComment, IsDefault, Says, blank, comment, row_line, default_line, IsSaid}

-- Lists of which no byte passes a test, and lists of which each does.

none_of : (p q : ℕ → Bool) → ((byte : ℕ) → q byte ≡ true → p byte ≡ false) → (bytes : List ℕ) → list_all q bytes ≡ true → list_any p bytes ≡ false
none_of p q apart [] all = refl
none_of p q apart (byte ∷ bytes) all =
    let parts = and_parts (q byte) (list_all q bytes) all in
    let here = apart byte parts.0 in
    let rest = none_of p q apart bytes parts.1 in
    rw (here, rest) refl

-- a byte that passes a test isn't one that fails it
differs : (q : ℕ → Bool) (k : ℕ) → q k ≡ false → (byte : ℕ) → q byte ≡ true → (byte == k) ≡ false
differs q k fails byte passes = go (byte == k) refl
  where
    go : (same : Bool) → (byte == k) ≡ same → (byte == k) ≡ false
    go true is = let at : byte ≡ k = eqb-true byte k is in let both : q byte ≡ q k = ap q at in cc
    go false is = is

space_no_hash : (byte : ℕ) → is_space byte ≡ true → is_hash byte ≡ false
space_no_hash = differs is_space 35 refl

space_no_semicolon : (byte : ℕ) → is_space byte ≡ true → is_semicolon byte ≡ false
space_no_semicolon = differs is_space 59 refl

hex_no_dot : (byte : ℕ) → is_hex byte ≡ true → is_dot byte ≡ false
hex_no_dot = differs is_hex 46 refl

hex_no_hash : (byte : ℕ) → is_hex byte ≡ true → is_hash byte ≡ false
hex_no_hash = differs is_hex 35 refl

hex_no_semicolon : (byte : ℕ) → is_hex byte ≡ true → is_semicolon byte ≡ false
hex_no_semicolon = differs is_hex 59 refl

hex_no_space : (byte : ℕ) → is_hex byte ≡ true → is_space byte ≡ false
hex_no_space byte hex = rw (differs is_hex 32 refl byte hex, differs is_hex 9 refl byte hex) refl

name_no_hash : (byte : ℕ) → is_name_byte byte ≡ true → is_hash byte ≡ false
name_no_hash = differs is_name_byte 35 refl

name_no_space : (byte : ℕ) → is_name_byte byte ≡ true → is_space byte ≡ false
name_no_space byte name = rw (differs is_name_byte 32 refl byte name, differs is_name_byte 9 refl byte name) refl

-- Where a list is cut at the first byte that passes.

place_behind : (p : ℕ → Bool) (front back : List ℕ) → list_any p front ≡ false → position_or_len p (front ++ back) ≡ length front + position_or_len p back
place_behind p [] back none = omega arith
place_behind p (byte ∷ front) back none =
    let parts = or_parts (p byte) (list_any p front) none in
    let rest = place_behind p front back parts.1 in
    rw (parts.0, rest) (omega arith)

place_here : (p : ℕ → Bool) (front back : List ℕ) (c : ℕ) → list_any p front ≡ false → p c ≡ true → position_or_len p (front ++ (c ∷ back)) ≡ length front
place_here p front back c none passes = place_behind p front (c ∷ back) none ∙ rw passes (omega arith)

place_none : (p : ℕ → Bool) (bytes : List ℕ) → list_any p bytes ≡ false → position_or_len p bytes ≡ length bytes
place_none p bytes none = ap (position_or_len p) (sym (append-nil bytes)) ∙ place_behind p bytes [] none ∙ omega arith

before_here : (p : ℕ → Bool) (front back : List ℕ) (c : ℕ) → list_any p front ≡ false → p c ≡ true → before_first p (front ++ (c ∷ back)) ≡ front
before_here p front back c none passes =
    rw (place_here p front back c none passes) (take_at front (c ∷ back) (length front) refl)

after_here : (p : ℕ → Bool) (front back : List ℕ) (c : ℕ) → list_any p front ≡ false → p c ≡ true → after_first p (front ++ (c ∷ back)) ≡ back
after_here p front back c none passes =
    let regrouped : (front ++ (c ∷ [])) ++ back ≡ front ++ (c ∷ back) = append_assoc front (c ∷ []) back in
    rw (place_here p front back c none passes, ← regrouped)
    (drop_at (front ++ (c ∷ [])) back (length front + 1) (length-append front (c ∷ [])))

before_none : (p : ℕ → Bool) (bytes : List ℕ) → list_any p bytes ≡ false → before_first p bytes ≡ bytes
before_none p bytes none = rw (place_none p bytes none) (take_all (length bytes) bytes (omega arith))

after_none : (p : ℕ → Bool) (bytes : List ℕ) → list_any p bytes ≡ false → after_first p bytes ≡ []
after_none p bytes none = rw (place_none p bytes none) (drop_all (length bytes + 1) bytes (omega arith))

-- how a list is cut: a byte passes, or none does
data Cut (p : ℕ → Bool) (bytes : List ℕ) : Type 0 where
  whole : list_any p bytes ≡ false → Cut p bytes
  parts : (front back : List ℕ) (c : ℕ) → bytes ≡ front ++ (c ∷ back) → list_any p front ≡ false → p c ≡ true → Cut p bytes

cut : (p : ℕ → Bool) (bytes : List ℕ) → Cut p bytes
cut p [] = whole refl
cut p (byte ∷ bytes) = go (p byte) refl (cut p bytes)
  where
    go : (here : Bool) → p byte ≡ here → Cut p bytes → Cut p (byte ∷ bytes)
    go true is rest = parts [] bytes byte refl refl is
    go false is (whole none) = whole (rw (is, none) refl)
    go false is (parts front back c split none passes) = parts (byte ∷ front) back c (ap (λ l. byte ∷ l) split) (rw (is, none) refl) passes

-- White space at the front and at the end.

prefix_none : (bytes : List ℕ) → list_any is_space bytes ≡ false → prefix_len is_space bytes ≡ 0
prefix_none [] none = refl
prefix_none (byte ∷ bytes) none =
    let parts = or_parts (is_space byte) (list_any is_space bytes) none in
    rw parts.0 refl

prefix_past : (front back : List ℕ) → IsBlank front → prefix_len is_space (front ++ back) ≡ length front + prefix_len is_space back
prefix_past [] back white = omega arith
prefix_past (byte ∷ front) back white =
    let parts = and_parts (is_space byte) (list_all is_space front) white in
    let rest = prefix_past front back parts.1 in
    rw (parts.0, rest) (omega arith)

-- a list in front of another that begins with no space
prefix_core : (core back : List ℕ) → 0 < length core → list_any is_space core ≡ false → prefix_len is_space (core ++ back) ≡ 0
prefix_core [] back some none = absurd (omega arith)
prefix_core (byte ∷ core) back some none =
    let parts = or_parts (is_space byte) (list_any is_space core) none in
    rw parts.0 refl

all_none : (p : ℕ → Bool) (bytes : List ℕ) → list_all p bytes ≡ true → list_any (λ byte. not (p byte)) bytes ≡ false
all_none p [] all = refl
all_none p (byte ∷ bytes) all =
    let parts = and_parts (p byte) (list_all p bytes) all in
    let rest = all_none p bytes parts.1 in
    rw (parts.0, rest) refl

none_all : (p : ℕ → Bool) (bytes : List ℕ) → list_any (λ byte. not (p byte)) bytes ≡ false → list_all p bytes ≡ true
none_all p [] none = refl
none_all p (byte ∷ bytes) none =
    let parts = or_parts (not (p byte)) (list_any (λ other. not (p other)) bytes) none in
    let rest = none_all p bytes parts.1 in
    let here : p byte ≡ true = turned (p byte) parts.0 in
    rw (here, rest) refl
  where
    turned : (b : Bool) → not b ≡ false → b ≡ true
    turned true is = refl
    turned false is = cc

blank_reverse : (bytes : List ℕ) → IsBlank bytes → IsBlank (reverse bytes)
blank_reverse bytes white =
    none_all is_space (reverse bytes)
    (sym (list_any-IsPermutation (λ byte. not (is_space byte)) bytes (reverse bytes) (IsPermutation-reverse bytes)) ∙ all_none is_space bytes white)

none_reverse : (bytes : List ℕ) → list_any is_space bytes ≡ false → list_any is_space (reverse bytes) ≡ false
none_reverse bytes none = sym (list_any-IsPermutation is_space bytes (reverse bytes) (IsPermutation-reverse bytes)) ∙ none

trimmed_start_is : (front back : List ℕ) → IsBlank front → prefix_len is_space back ≡ 0 → trimmed_start (front ++ back) ≡ back
trimmed_start_is front back white none =
    let start : prefix_len is_space (front ++ back) ≡ length front = prefix_past front back white ∙ (let none' = none in omega arith) in
    rw start (drop_at front back (length front) refl)

trimmed_is : (front core back : List ℕ) → IsBlank front → IsBlank back → 0 < length core → list_any is_space core ≡ false
    → trimmed (front ++ (core ++ back)) ≡ core
trimmed_is front core back white white' some none =
    let start : trimmed_start (front ++ (core ++ back)) ≡ core ++ back = trimmed_start_is front (core ++ back) white (prefix_core core back some none) in
    let end : suffix_len is_space (core ++ back) ≡ length back
    = ap (prefix_len is_space) (reverse-append core back)
    ∙ (prefix_past (reverse back) (reverse core) (blank_reverse back white')
    ∙ rw (prefix_none (reverse core) (none_reverse core none), length-reverse back) (omega arith)) in
    rw (start, end) (take_at core back (length (core ++ back) - length back) (let lengths = length-append core back in omega arith))

-- what trimming leaves out is white space
pub record IsTrimmed (bytes : List ℕ) : Type 0 where
  front : List ℕ
  back : List ℕ
  is : bytes ≡ front ++ (trimmed bytes ++ back)
  front_blank : IsBlank front
  back_blank : IsBlank back

prefix_blank : (bytes : List ℕ) → IsBlank (take (prefix_len is_space bytes) bytes)
prefix_blank [] = refl
prefix_blank (byte ∷ bytes) = go (is_space byte) refl (prefix_blank bytes)
  where
    go : (white : Bool) → is_space byte ≡ white → IsBlank (take (prefix_len is_space bytes) bytes)
        → IsBlank (take (prefix_len is_space (byte ∷ bytes)) (byte ∷ bytes))
    go true is rest =
        let one : 1 + prefix_len is_space bytes ≡ suc (prefix_len is_space bytes) = omega arith in
        rw (is, one, is, rest) refl
    go false is rest = rw is refl

-- where the white space at the end begins
abbrev end_of : List ℕ → ℕ
end_of bytes = length bytes - suffix_len is_space bytes

suffix_each : (bytes : List ℕ) → AllPass is_space (drop (end_of bytes) bytes)
suffix_each bytes k d lt =
    let fits : suffix_len is_space bytes ≤ length bytes = rw length-reverse at (prefix_len-le-length is_space (reverse bytes)) in
    let short : k < length bytes - end_of bytes = rw length-drop at lt in
    let j : ℕ = length bytes - 1 - (end_of bytes + k) in
    let near : j < suffix_len is_space bytes = omega arith in
    let inside : j < length bytes = omega arith in
    let back : length bytes - 1 - j ≡ end_of bytes + k = omega arith in
    let passes = prefix_len_passes is_space (reverse bytes) j d near in
    let there : get_or (reverse bytes) j d ≡ get_or (drop (end_of bytes) bytes) k d
    = get_or-reverse bytes j d inside ∙ (ap (λ i. get_or bytes i d) back ∙ sym (get_or-drop (end_of bytes) bytes k d)) in
    rw there at passes

suffix_blank : (bytes : List ℕ) → IsBlank (drop (end_of bytes) bytes)
suffix_blank bytes = list_all-from_AllPass is_space (drop (end_of bytes) bytes) (suffix_each bytes)

is_trimmed : (bytes : List ℕ) → IsTrimmed bytes
is_trimmed bytes =
    let n = prefix_len is_space bytes in
    let rest = trimmed_start bytes in
    let m = length rest - suffix_len is_space rest in
    record {
      front = take n bytes;
      back = drop m rest;
      is = sym (ap (λ r. take n bytes ++ r) (take-append-drop m rest) ∙ take-append-drop n bytes);
      front_blank = prefix_blank bytes;
      back_blank = suffix_blank rest;
    }

-- Codes, ranges and names.

some_same : {A : Type 0} {x y : A} → Some x ≡ Some y → x ≡ y
some_same same = cc

code_is : (digits : List ℕ) (code : ℕ) → code_of digits ≡ Some code → IsCode digits code
unfolding code_of
code_is digits code found =
    let parts = cond_some ((nat_le 4 (length digits) && nat_le (length digits) 6) && list_all is_hex digits) (digits_value 16 digits) code found in
    let tests = and_parts (nat_le 4 (length digits) && nat_le (length digits) 6) (list_all is_hex digits) parts.0 in
    let lengths = and_parts (nat_le 4 (length digits)) (nat_le (length digits) 6) tests.0 in
    record {
      hex = tests.1;
      four = grind (arith, nat_tests);
      six = grind (arith, nat_tests);
      is = sym parts.1;
    }

code_from : (digits : List ℕ) (code : ℕ) → IsCode digits code → code_of digits ≡ Some code
unfolding code_of
code_from digits code is =
    let low = is.four in
    let high = is.six in
    let four : nat_le 4 (length digits) ≡ true = grind (arith, nat_tests) in
    let six : nat_le (length digits) 6 ≡ true = grind (arith, nat_tests) in
    rw (four, six, is.hex) (ap Some (sym is.is))

name_is : (field name : List ℕ) → name_of field ≡ Some name → (field ≡ name) × IsName name
unfolding name_of
name_is field name found =
    let parts = cond_some (nat_lt 0 (length field) && list_all is_name_byte field) field name found in
    let tests = and_parts (nat_lt 0 (length field)) (list_all is_name_byte field) parts.0 in
    let some : 0 < length field = grind (arith, nat_tests) in
    (parts.1, rw parts.1 at (let named : IsName field = record { some = some; bytes = tests.1 } in named))

name_from : (name : List ℕ) → IsName name → name_of name ≡ Some name
unfolding name_of
name_from name is =
    let long = is.some in
    let some : nat_lt 0 (length name) ≡ true = grind (arith, nat_tests) in
    rw (some, is.bytes) refl

hex_some : (digits : List ℕ) (code : ℕ) → IsCode digits code → 0 < length digits
hex_some digits code is = omega (arith, is.four)

-- the two dots
dotted : (digits digits' : List ℕ) (first last : ℕ) → IsCode digits first → IsCode digits' last → pair_of (digits ++ (46 ∷ 46 ∷ digits')) ≡ Some (first, last)
unfolding pair_of
dotted digits digits' first last is is' =
    let none = none_of is_dot is_hex hex_no_dot digits is.hex in
    let place = place_here is_dot digits (46 ∷ digits') 46 none refl in
    rw (place, drop_at digits (46 ∷ 46 ∷ digits') (length digits) refl, take_at digits (46 ∷ 46 ∷ digits') (length digits) refl, code_from digits first is, code_from digits' last is') refl

abbrev paired : ℕ → ℕ → Option (ℕ × ℕ)
paired a b = Some (a, b)

abbrev twice : ℕ → ℕ × ℕ
twice code = (code, code)

abbrev from_dot : List ℕ → List ℕ
from_dot field = drop (position_or_len is_dot field) field

pair_is : (single : Bool) (field : List ℕ) (first last : ℕ) → pair_of field ≡ Some (first, last) → IsRange single field first last
unfolding pair_of
pair_is single field first last found = go (starts_with nat_eq (from_dot field) (codes "..")) refl found
  where
    go : (dots : Bool) → starts_with nat_eq (from_dot field) (codes "..") ≡ dots
        → cond dots (option_and_then (λ a. option_and_then (paired a) (code_of (drop 2 (from_dot field)))) (code_of (before_first is_dot field))) None ≡ Some (first, last)
        → IsRange single field first last
    go false is h = cc
    go true is h =
        let split : from_dot field ≡ 46 ∷ 46 ∷ drop 2 (from_dot field)
        = (starts_is Decides-eqb (from_dot field) (codes "..") (starts_with nat_eq (from_dot field) (codes "..")) refl).0 is in
        let whole : before_first is_dot field ++ (46 ∷ 46 ∷ drop 2 (from_dot field)) ≡ field
        = ap (λ r. before_first is_dot field ++ r) (sym split) ∙ take-append-drop (position_or_len is_dot field) field in
        option_and_then_some (λ a. option_and_then (paired a) (code_of (drop 2 (from_dot field)))) (code_of (before_first is_dot field)) (first, last) h (λ a is_a h'.
        option_and_then_some (paired a) (code_of (drop 2 (from_dot field))) (first, last) h' (λ b is_b h''.
        let same : (a, b) ≡ (first, last) = some_same h'' in
        let P : List ℕ → Type 0 = λ f. IsRange single f first last in
        subst P whole (two single (before_first is_dot field) (drop 2 (from_dot field)) first last
        (code_is (before_first is_dot field) first (is_a ∙ ap Some (ap (λ (p : ℕ × ℕ). p.0) same)))
        (code_is (drop 2 (from_dot field)) last (is_b ∙ ap Some (ap (λ (p : ℕ × ℕ). p.1) same))))))

range_is : (single : Bool) (field : List ℕ) (first last : ℕ) → range_of single field ≡ Some (first, last) → IsRange single field first last
unfolding range_of
range_is false field first last found = pair_is false field first last found
range_is true field first last found = go (list_any is_dot field) found
  where
    alone : (code : Option ℕ) → code_of field ≡ code → option_map twice code ≡ Some (first, last) → IsRange true field first last
    alone None is h = cc
    alone (Some code) is h =
        let same : (code, code) ≡ (first, last) = some_same h in
        let a : code ≡ first = ap (λ (p : ℕ × ℕ). p.0) same in
        let b : code ≡ last = ap (λ (p : ℕ × ℕ). p.1) same in
        let P : ℕ → Type 0 = λ l. IsRange true field first l in
        subst P (sym a ∙ b) (one field first (code_is field first (is ∙ ap Some a)))

    go : (dots : Bool) → cond (not dots) (option_map twice (code_of field)) (pair_of field) ≡ Some (first, last) → IsRange true field first last
    go true h = pair_is true field first last h
    go false h = alone (code_of field) refl h

range_from : (single : Bool) (field : List ℕ) (first last : ℕ) → IsRange single field first last → range_of single field ≡ Some (first, last)
unfolding range_of
range_from single field first last (one digits code is) =
    rw (none_of is_dot is_hex hex_no_dot digits is.hex, code_from digits code is) refl
range_from single field first last (two false digits digits' a b is is') = dotted digits digits' a b is is'
range_from single field first last (two true digits digits' a b is is') =
    let none = none_of is_dot is_hex hex_no_dot digits is.hex in
    let dot : list_any is_dot (digits ++ (46 ∷ 46 ∷ digits')) ≡ true = list_any-append is_dot digits (46 ∷ 46 ∷ digits') ∙ rw none refl in
    rw dot (dotted digits digits' a b is is')

-- what a range holds none of, where hex digits and dots don't
range_none : (p : ℕ → Bool) → ((byte : ℕ) → is_hex byte ≡ true → p byte ≡ false) → p 46 ≡ false
    → (single : Bool) (field : List ℕ) (first last : ℕ) → IsRange single field first last → list_any p field ≡ false
range_none p apart dot single field first last (one digits code is) = none_of p is_hex apart digits is.hex
range_none p apart dot single field first last (two either digits digits' a b is is') =
    list_any-append p digits (46 ∷ 46 ∷ digits')
    ∙ rw (none_of p is_hex apart digits is.hex, dot, none_of p is_hex apart digits' is'.hex) refl

range_some : (single : Bool) (field : List ℕ) (first last : ℕ) → IsRange single field first last → 0 < length field
range_some single field first last (one digits code is) = hex_some digits code is
range_some single field first last (two either digits digits' a b is is') =
    omega (arith, hex_some digits a is, length-append digits (46 ∷ 46 ∷ digits'))

-- Entries.

entry_is : (single : Bool) (bytes : List ℕ) (entry : Entry) → entry_of single bytes ≡ Some entry → IsEntry single bytes entry
unfolding entry_of
entry_is single bytes entry found =
    option_and_then_some _ (range_of single (trimmed (before_first is_semicolon bytes))) entry found (λ range is_range h.
    option_and_then_some _ (name_of (trimmed (after_first is_semicolon bytes))) entry h (λ name is_name h'.
    go range name is_range is_name (some_same h') (cut is_semicolon bytes)))
  where
    go : (range : ℕ × ℕ) (name : List ℕ)
        → range_of single (trimmed (before_first is_semicolon bytes)) ≡ Some range
        → name_of (trimmed (after_first is_semicolon bytes)) ≡ Some name
        → (let made : Entry = record { first = range.0; last = range.1; name = name } in made) ≡ entry
        → Cut is_semicolon bytes → IsEntry single bytes entry
    go range name is_range is_name same (whole none) =
        let empty : trimmed (after_first is_semicolon bytes) ≡ [] = rw (after_none is_semicolon bytes none) refl in
        let named = name_is (trimmed (after_first is_semicolon bytes)) name is_name in
        let some = named.1.some in
        let lengths : length name ≡ 0 = ap length (sym named.0 ∙ empty) in
        absurd (omega arith)
    go range name is_range is_name same (parts front back c split none passes) =
        let at : c ≡ 59 = eqb-true c 59 passes in
        let cut_front : before_first is_semicolon bytes ≡ front = ap (before_first is_semicolon) split ∙ before_here is_semicolon front back c none passes in
        let cut_back : after_first is_semicolon bytes ≡ back = ap (after_first is_semicolon) split ∙ after_here is_semicolon front back c none passes in
        let f = is_trimmed front in
        let b = is_trimmed back in
        let spells : IsRange single (trimmed front) range.0 range.1 = range_is single (trimmed front) range.0 range.1 (rw cut_front at is_range) in
        let named = name_is (trimmed back) name (rw cut_back at is_name) in
        let whole' : bytes ≡ (f.front ++ (trimmed front ++ f.back)) ++ (59 ∷ (b.front ++ (name ++ b.back)))
        = split ∙ (ap (λ l. l ++ (c ∷ back)) f.is
        ∙ (ap (λ k. (f.front ++ (trimmed front ++ f.back)) ++ (k ∷ back)) at
        ∙ (ap (λ l. (f.front ++ (trimmed front ++ f.back)) ++ (59 ∷ l)) b.is
        ∙ ap (λ l. (f.front ++ (trimmed front ++ f.back)) ++ (59 ∷ (b.front ++ (l ++ b.back)))) named.0))) in
        let P : Entry → Type 0 = IsEntry single bytes in
        subst P same (record {
          before = f.front;
          range = trimmed front;
          behind = f.back;
          between = b.front;
          after = b.back;
          is = whole';
          before_blank = f.front_blank;
          spells = spells;
          behind_blank = f.back_blank;
          between_blank = b.front_blank;
          name = named.1;
          after_blank = b.back_blank;
        })

entry_from : (single : Bool) (bytes : List ℕ) (entry : Entry) → IsEntry single bytes entry → entry_of single bytes ≡ Some entry
unfolding entry_of
entry_from single bytes entry is =
    let range_free = range_none is_semicolon hex_no_semicolon refl single is.range entry.first entry.last is.spells in
    let front = is.before ++ (is.range ++ is.behind) in
    let back = is.between ++ (entry.name ++ is.after) in
    let none : list_any is_semicolon front ≡ false
    = list_any-append is_semicolon is.before (is.range ++ is.behind)
    ∙ rw (none_of is_semicolon is_space space_no_semicolon is.before is.before_blank, list_any-append is_semicolon is.range is.behind, range_free, none_of is_semicolon is_space space_no_semicolon is.behind is.behind_blank) refl in
    let cut_front : before_first is_semicolon bytes ≡ front = ap (before_first is_semicolon) is.is ∙ before_here is_semicolon front back 59 none refl in
    let cut_back : after_first is_semicolon bytes ≡ back = ap (after_first is_semicolon) is.is ∙ after_here is_semicolon front back 59 none refl in
    let trim_front : trimmed front ≡ is.range
    = trimmed_is is.before is.range is.behind is.before_blank is.behind_blank (range_some single is.range entry.first entry.last is.spells)
    (range_none is_space hex_no_space refl single is.range entry.first entry.last is.spells) in
    let trim_back : trimmed back ≡ entry.name
    = trimmed_is is.between entry.name is.after is.between_blank is.after_blank is.name.some (none_of is_space is_name_byte name_no_space entry.name is.name.bytes) in
    let range' : range_of single (trimmed (before_first is_semicolon bytes)) ≡ Some (entry.first, entry.last)
    = ap (λ l. range_of single (trimmed l)) cut_front ∙ (ap (range_of single) trim_front ∙ range_from single is.range entry.first entry.last is.spells) in
    let name' : name_of (trimmed (after_first is_semicolon bytes)) ≡ Some entry.name
    = ap (λ l. name_of (trimmed l)) cut_back ∙ (ap name_of trim_back ∙ name_from entry.name is.name) in
    rw (range', name') refl

-- an entry holds no hash, and isn't white space alone
entry_no_hash : (single : Bool) (bytes : List ℕ) (entry : Entry) → IsEntry single bytes entry → list_any is_hash bytes ≡ false
entry_no_hash single bytes entry is =
    let free = none_of is_hash is_space space_no_hash in
    let range_free = range_none is_hash hex_no_hash refl single is.range entry.first entry.last is.spells in
    let name_free = none_of is_hash is_name_byte name_no_hash entry.name is.name.bytes in
    let front : list_any is_hash (is.before ++ (is.range ++ is.behind)) ≡ false
    = list_any-append is_hash is.before (is.range ++ is.behind)
    ∙ rw (free is.before is.before_blank, list_any-append is_hash is.range is.behind, range_free, free is.behind is.behind_blank) refl in
    let back : list_any is_hash (is.between ++ (entry.name ++ is.after)) ≡ false
    = list_any-append is_hash is.between (entry.name ++ is.after)
    ∙ rw (free is.between is.between_blank, list_any-append is_hash entry.name is.after, name_free, free is.after is.after_blank) refl in
    ap (list_any is_hash) is.is
    ∙ (list_any-append is_hash (is.before ++ (is.range ++ is.behind)) (59 ∷ (is.between ++ (entry.name ++ is.after)))
    ∙ rw (front, back) refl)

entry_not_blank : (single : Bool) (bytes : List ℕ) (entry : Entry) → IsEntry single bytes entry → list_all is_space bytes ≡ false
entry_not_blank single bytes entry is =
    ap (list_all is_space) is.is
    ∙ (list_all-append is_space (is.before ++ (is.range ++ is.behind)) (59 ∷ (is.between ++ (entry.name ++ is.after)))
    ∙ and_right (list_all is_space (is.before ++ (is.range ++ is.behind))) false refl)

-- what stands before the comment of an entry
before_comment : (single : Bool) (spelled rest : List ℕ) (entry : Entry) → IsEntry single spelled entry → IsComment rest → before_first is_hash (spelled ++ rest) ≡ spelled
before_comment single spelled rest entry is ends =
    let none = entry_no_hash single spelled entry is in
    elim ends [
      | inl empty ↦ rw (empty, append-nil) (before_none is_hash spelled none)
      | inr hash ↦ rw hash.1 (before_here is_hash spelled hash.0 35 none refl)
    ]

-- the rest of a cut at a hash is a comment
comment_left : (bytes : List ℕ) → Cut is_hash bytes → (rest : List ℕ) × (bytes ≡ before_first is_hash bytes ++ rest) × IsComment rest
comment_left bytes (whole none) = ([], sym (append-nil bytes) ∙ ap (λ l. l ++ []) (sym (before_none is_hash bytes none)), inl refl)
comment_left bytes (parts front back c split none passes) =
    let at : c ≡ 35 = eqb-true c 35 passes in
    let cut_front : before_first is_hash bytes ≡ front = ap (before_first is_hash) split ∙ before_here is_hash front back c none passes in
    (c ∷ back, split ∙ ap (λ l. l ++ (c ∷ back)) (sym cut_front), inr (back, ap (λ k. k ∷ back) at))

-- Default lines.

default_is : (comment' : List ℕ) (entry : Entry) → default_of comment' ≡ Some entry → IsDefault comment' entry
unfolding default_of
default_is comment' entry found = go (starts_with nat_eq (trimmed_start comment') (codes "@missing:")) refl found
  where
    go : (missing : Bool) → starts_with nat_eq (trimmed_start comment') (codes "@missing:") ≡ missing
        → cond missing (entry_of false (before_first is_hash (drop 9 (trimmed_start comment')))) None ≡ Some entry → IsDefault comment' entry
    go false is h = cc
    go true is h =
        let body = trimmed_start comment' in
        let split : body ≡ codes "@missing:" ++ drop 9 body
        = (starts_is Decides-eqb body (codes "@missing:") (starts_with nat_eq body (codes "@missing:")) refl).0 is in
        let left = comment_left (drop 9 body) (cut is_hash (drop 9 body)) in
        record {
          before = take (prefix_len is_space comment') comment';
          spelled = before_first is_hash (drop 9 body);
          rest = left.0;
          is = sym (take-append-drop (prefix_len is_space comment') comment')
              ∙ ap (λ l. take (prefix_len is_space comment') comment' ++ l) (split ∙ ap (λ l. codes "@missing:" ++ l) left.1);
          before_blank = prefix_blank comment';
          spells = entry_is false (before_first is_hash (drop 9 body)) entry h;
          ends = left.2;
        }

default_from : (comment' : List ℕ) (entry : Entry) → IsDefault comment' entry → default_of comment' ≡ Some entry
unfolding default_of
default_from comment' entry is =
    let body : trimmed_start comment' ≡ codes "@missing:" ++ (is.spelled ++ is.rest)
    = ap trimmed_start is.is ∙ trimmed_start_is is.before (codes "@missing:" ++ (is.spelled ++ is.rest)) is.before_blank refl in
    rw (body, before_comment false is.spelled is.rest entry is.spells is.ends) (entry_from false is.spelled entry is.spells)

-- Lines.

-- a comment says nothing exactly where it is no default line of a file that has these
comment_is : (defaults : Bool) (any : List ℕ) → comment_meaning defaults any ≡ nothing → defaults ≡ true → (entry : Entry) → IsDefault any entry → ⊥
comment_is false any says is entry def = cc
comment_is true any says is entry def =
    let found = default_from any entry def in
    let both : option_map_or default (default_of any) nothing ≡ default entry = ap (λ o. option_map_or default o nothing) found in
    cc

comment_from : (defaults : Bool) (any : List ℕ) → (defaults ≡ true → (entry : Entry) → IsDefault any entry → ⊥) → comment_meaning defaults any ≡ nothing
comment_from false any none = refl
comment_from true any none = go (default_of any) refl
  where
    go : (found : Option Entry) → default_of any ≡ found → option_map_or default found nothing ≡ nothing
    go None is = refl
    go (Some entry) is = absurd (none refl entry (default_is any entry is))

-- what a comment may say
comment_cases : (defaults : Bool) (text before any : List ℕ) → text ≡ before ++ (35 ∷ any) → IsBlank before
    → (meaning : Meaning) → comment_meaning defaults any ≡ meaning → Says defaults text meaning
comment_cases defaults text before any split white nothing says = comment before any split white (comment_is defaults any says)
comment_cases false text before any split white (row entry) says = cc
comment_cases false text before any split white (default entry) says = cc
comment_cases true text before any split white (row entry) says = absurd (go (default_of any) says)
  where
    go : (found : Option Entry) → option_map_or default found nothing ≡ row entry → ⊥
    go None h = cc
    go (Some other) h = cc
comment_cases true text before any split white (default entry) says = go (default_of any) refl says
  where
    go : (found : Option Entry) → default_of any ≡ found → option_map_or default found nothing ≡ default entry → Says true text (default entry)
    go None is h = cc
    go (Some other) is h =
        let same : other ≡ entry = cc in
        default_line before any entry refl split white (default_is any entry (is ∙ ap Some same))

abbrev read_text : Bool → List ℕ → Option Meaning
read_text defaults text =
    cond (list_all is_space (before_first is_hash text))
    (Some (comment_meaning defaults (after_first is_hash text)))
    (option_map row (entry_of true (before_first is_hash text)))

-- nothing stands behind a missing hash
no_comment : (defaults : Bool) → comment_meaning defaults [] ≡ nothing
unfolding default_of
no_comment true = refl
no_comment false = refl

-- what a line without its carriage return says
text_is : (defaults : Bool) (text : List ℕ) (meaning : Meaning) → read_text defaults text ≡ Some meaning → Says defaults text meaning
text_is defaults text meaning found = go (list_all is_space (before_first is_hash text)) refl found
  where
    rows : (entry : Option Entry) → entry_of true (before_first is_hash text) ≡ entry → option_map row entry ≡ Some meaning → Says defaults text meaning
    rows None is h = cc
    rows (Some entry) is h =
        let same : row entry ≡ meaning = some_same h in
        let left = comment_left text (cut is_hash text) in
        let P : Meaning → Type 0 = Says defaults text in
        subst P same (row_line (before_first is_hash text) left.0 entry left.1 (entry_is true (before_first is_hash text) entry is) left.2)

    blanks : Cut is_hash text → list_all is_space (before_first is_hash text) ≡ true → comment_meaning defaults (after_first is_hash text) ≡ meaning → Says defaults text meaning
    blanks (whole none) white says =
        let empty : comment_meaning defaults [] ≡ nothing = no_comment defaults in
        let same : nothing ≡ meaning = sym empty ∙ (ap (comment_meaning defaults) (sym (after_none is_hash text none)) ∙ says) in
        let P : Meaning → Type 0 = Says defaults text in
        subst P same (blank (rw (before_none is_hash text none) at white))
    blanks (parts front back c split none passes) white says =
        let at : c ≡ 35 = eqb-true c 35 passes in
        let cut_front : before_first is_hash text ≡ front = ap (before_first is_hash) split ∙ before_here is_hash front back c none passes in
        let cut_back : after_first is_hash text ≡ back = ap (after_first is_hash) split ∙ after_here is_hash front back c none passes in
        comment_cases defaults text front back (split ∙ ap (λ k. front ++ (k ∷ back)) at) (rw cut_front at white) meaning (ap (comment_meaning defaults) (sym cut_back) ∙ says)

    go : (white : Bool) → list_all is_space (before_first is_hash text) ≡ white
        → cond white (Some (comment_meaning defaults (after_first is_hash text))) (option_map row (entry_of true (before_first is_hash text))) ≡ Some meaning
        → Says defaults text meaning
    go true is h = blanks (cut is_hash text) is (some_same h)
    go false is h = rows (entry_of true (before_first is_hash text)) refl h

text_from : (defaults : Bool) (text : List ℕ) (meaning : Meaning) → Says defaults text meaning → read_text defaults text ≡ Some meaning
text_from defaults text meaning (blank white) =
    let none = none_of is_hash is_space space_no_hash text white in
    rw (before_none is_hash text none, after_none is_hash text none, white) (ap Some (no_comment defaults))
text_from defaults text meaning (comment before any split white no_default) =
    let none = none_of is_hash is_space space_no_hash before white in
    let cut_front : before_first is_hash text ≡ before = ap (before_first is_hash) split ∙ before_here is_hash before any 35 none refl in
    let cut_back : after_first is_hash text ≡ any = ap (after_first is_hash) split ∙ after_here is_hash before any 35 none refl in
    rw (cut_front, cut_back, white) (ap Some (comment_from defaults any no_default))
text_from defaults text meaning (row_line spelled rest entry split is ends) =
    let cut_front : before_first is_hash text ≡ spelled = ap (before_first is_hash) split ∙ before_comment true spelled rest entry is ends in
    rw (cut_front, entry_not_blank true spelled entry is, entry_from true spelled entry is) refl
text_from defaults text meaning (default_line before any entry has split white is) =
    let none = none_of is_hash is_space space_no_hash before white in
    let cut_front : before_first is_hash text ≡ before = ap (before_first is_hash) split ∙ before_here is_hash before any 35 none refl in
    let cut_back : after_first is_hash text ≡ any = ap (after_first is_hash) split ∙ after_here is_hash before any 35 none refl in
    let says : comment_meaning defaults any ≡ default entry
    = ap (λ d. comment_meaning d any) has ∙ ap (λ o. option_map_or default o nothing) (default_from any entry is) in
    rw (cut_front, cut_back, white) (ap Some says)

-- The carriage return.

last_split : (line : List ℕ) → 0 < length line → line ≡ take (length line - 1) line ++ (get_or line (length line - 1) 0 ∷ [])
last_split line some =
    let i : ℕ = length line - 1 in
    let within : i < length line = omega arith in
    let all : length line ≤ i + 1 = omega arith in
    sym (take_all (i + 1) line all) ∙ take_more line i 0 within

abbrev IsReturned : List ℕ → List ℕ → Type 0
IsReturned line text = (line ≡ text ++ (13 ∷ [])) ⊎ ((line ≡ text) × ((front : List ℕ) → line ≢ front ++ (13 ∷ [])))

-- a line whose last byte is a carriage return
return_split : (line : List ℕ) → (slice_index line (length line - 1) == 13) ≡ true → line ≡ take (length line - 1) line ++ (13 ∷ [])
return_split line is =
    let at : slice_index line (length line - 1) ≡ 13 = eqb-true (slice_index line (length line - 1)) 13 is in
    elim (cases_lt 0 (length line)) [
      | inl some ↦ last_split line some ∙ ap (λ k. take (length line - 1) line ++ (k ∷ [])) at
      | inr empty ↦
          let past : slice_index line (length line - 1) ≡ 0 = get_or_past line (length line - 1) 0 (omega arith) in
          absurd (omega arith)
    ]

return_last : (front : List ℕ) → slice_index (front ++ (13 ∷ [])) (length (front ++ (13 ∷ [])) - 1) ≡ 13
return_last front =
    let lengths = length-append front (13 ∷ []) in
    get_or_at front 13 [] 0 (length (front ++ (13 ∷ [])) - 1) (omega arith)

returned : (line : List ℕ) → IsReturned line (without_return line)
returned line = go (slice_index line (length line - 1) == 13) refl
  where
    go : (last : Bool) → (slice_index line (length line - 1) == 13) ≡ last → IsReturned line (cond last (take (length line - 1) line) line)
    go true is = inl (return_split line is)
    go false is = inr (
      refl,
      λ front split.
          let at : slice_index line (length line - 1) ≡ 13 = ap (λ l. slice_index l (length l - 1)) split ∙ return_last front in
          let yes = eq-eqb (slice_index line (length line - 1)) 13 at in
          cc,
    )

unreturned : (line text : List ℕ) → IsReturned line text → without_return line ≡ text
unreturned line text (inl split) =
    let at : slice_index line (length line - 1) ≡ 13 = ap (λ l. slice_index l (length l - 1)) split ∙ return_last text in
    let yes : (slice_index line (length line - 1) == 13) ≡ true = eq-eqb (slice_index line (length line - 1)) 13 at in
    let lengths : length line ≡ length text + 1 = ap length split ∙ length-append text (13 ∷ []) in
    let shorter : length text ≡ length line - 1 = omega arith in
    rw yes (ap (take (length line - 1)) split ∙ take_at text (13 ∷ []) (length line - 1) shorter)
unreturned line text (inr p) = go (slice_index line (length line - 1) == 13) refl
  where
    go : (last : Bool) → (slice_index line (length line - 1) == 13) ≡ last → cond last (take (length line - 1) line) line ≡ text
    go true is = absurd (p.1 (take (length line - 1) line) (return_split line is))
    go false is = p.0

pub said_is : (defaults : Bool) (line : List ℕ) (meaning : Meaning) → meaning_of defaults line ≡ Some meaning → IsSaid defaults line meaning
unfolding meaning_of
said_is defaults line meaning found = record {
  text = without_return line;
  ends = returned line;
  says = text_is defaults (without_return line) meaning found;
}

pub said_from : (defaults : Bool) (line : List ℕ) (meaning : Meaning) → IsSaid defaults line meaning → meaning_of defaults line ≡ Some meaning
unfolding meaning_of
said_from defaults line meaning is =
    ap (read_text defaults) (unreturned line is.text is.ends) ∙ text_from defaults is.text meaning is.says
