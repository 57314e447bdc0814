-- What one byte more does to the lines of a file.
use Rattle.std.proofs.Common.{◌≡◌, ◌≢◌, ℕ, ◌+◌, Bool, true, false, ◌<◌, cond, eqb, nat_eq, ◌&&◌, List, [], ◌∷◌, ◌++◌, length, refl, sym, ap, subst, ◌∙◌, inl, inr, arith, append_assoc, append-nil}
use Rattle.std.proofs.lemmas.Bool.{cases_Bool, cases_eq, eqb-false, eqb-true, false_from_ne_true, false≢true}
use Rattle.std.specs.Cmp.Lexicographic.{same_text}
use Rattle.std.specs.List.{AllByRecursion, starts_with}
use Rattle.lbk_notation.specs.Stream.{Cut, HasNoLineEnd, byte_order_mark, cut_of, cut_on, nothing_cut, then_byte, with_line_ends, without_mark}

pub cut_on-append : (cut : Cut) (xs ys : List ℕ) → cut_on cut (xs ++ ys) ≡ cut_on (cut_on cut xs) ys
cut_on-append cut [] ys = refl
cut_on-append cut (x ∷ xs) ys = cut_on-append (then_byte cut x) xs ys

-- the byte order mark and nothing else
abbrev pub is_mark : List ℕ → Bool
is_mark [] = false
is_mark (a ∷ []) = false
is_mark (a ∷ b ∷ []) = false
is_mark (a ∷ b ∷ c ∷ []) = starts_with nat_eq (a ∷ b ∷ c ∷ []) byte_order_mark
is_mark (a ∷ b ∷ c ∷ d ∷ _) = false

not_mark : (a b c d : ℕ) (rest : List ℕ) → is_mark (a ∷ b ∷ c ∷ (rest ++ d ∷ [])) ≡ false
not_mark a b c d [] = refl
not_mark a b c d (x ∷ rest) = refl

-- fewer bytes than the mark has are kept
mark_missing : (bytes : List ℕ) → length bytes < 3 → without_mark bytes ≡ bytes
mark_missing [] few = refl
mark_missing (a ∷ []) few = elim (nat_eq 0xEF a) as (λ v. cond (v && false) [] (a ∷ []) ≡ a ∷ []) [ true ↦ refl | false ↦ refl ]
mark_missing (a ∷ b ∷ []) few =
    elim (nat_eq 0xEF a) as (λ v. cond (v && (nat_eq 0xBB b && false)) [] (a ∷ b ∷ []) ≡ a ∷ b ∷ []) [
      | true ↦ elim (nat_eq 0xBB b) as (λ v. cond (v && false) [] (a ∷ b ∷ []) ≡ a ∷ b ∷ []) [ true ↦ refl | false ↦ refl ]
      | false ↦ refl
    ]
mark_missing (a ∷ b ∷ c ∷ rest) few = absurd (omega arith)

cut_of-few : (bytes : List ℕ) → length bytes < 3 → cut_of bytes ≡ cut_on nothing_cut bytes
unfolding cut_of
cut_of-few bytes few = ap (cut_on nothing_cut) (mark_missing bytes few)

-- a byte completes the byte order mark, or comes after all others
pub cut_of-snoc : (used : List ℕ) (byte : ℕ)
    → cut_of (used ++ byte ∷ []) ≡ cond (is_mark (used ++ byte ∷ [])) nothing_cut (then_byte (cut_of used) byte)
unfolding cut_of
cut_of-snoc [] byte = cut_of-few (byte ∷ []) (omega arith)
cut_of-snoc (a ∷ []) byte =
    cut_of-few (a ∷ byte ∷ []) (omega arith) ∙ ap (λ cut. then_byte cut byte) (sym (cut_of-few (a ∷ []) (omega arith)))
cut_of-snoc (a ∷ b ∷ []) byte =
    (elim (is_mark (a ∷ b ∷ byte ∷ []))
    as (λ v. cut_on nothing_cut (cond v [] (a ∷ b ∷ byte ∷ [])) ≡ cond v nothing_cut (cut_on nothing_cut (a ∷ b ∷ byte ∷ [])))
    [ true ↦ refl | false ↦ refl ])
    ∙ ap (λ cut. cond (is_mark (a ∷ b ∷ byte ∷ [])) nothing_cut (then_byte cut byte)) (sym (cut_of-few (a ∷ b ∷ []) (omega arith)))
cut_of-snoc (a ∷ b ∷ c ∷ rest) byte =
    (elim (is_mark (a ∷ b ∷ c ∷ []))
    as (λ v. cut_on nothing_cut (cond v (rest ++ byte ∷ []) (a ∷ b ∷ c ∷ (rest ++ byte ∷ [])))
    ≡ then_byte (cut_on nothing_cut (cond v rest (a ∷ b ∷ c ∷ rest))) byte) [
      | true ↦ cut_on-append nothing_cut rest (byte ∷ [])
      | false ↦ cut_on-append nothing_cut (a ∷ b ∷ c ∷ rest) (byte ∷ [])
    ])
    ∙ ap (λ v. cond v nothing_cut (then_byte (cut_of (a ∷ b ∷ c ∷ rest)) byte)) (sym (not_mark a b c byte rest))

mark_alone : (bytes : List ℕ) → is_mark bytes ≡ true → bytes ≡ byte_order_mark
mark_alone [] h = absurd (false≢true h)
mark_alone (a ∷ []) h = absurd (false≢true h)
mark_alone (a ∷ b ∷ []) h = absurd (false≢true h)
mark_alone (a ∷ b ∷ c ∷ []) h = sym (same_text byte_order_mark (a ∷ b ∷ c ∷ []) (sym h))
mark_alone (a ∷ b ∷ c ∷ d ∷ rest) h = absurd (false≢true h)

snoc-apart : (used : List ℕ) (byte : ℕ) → used ++ byte ∷ [] ≡ byte_order_mark → (used ≡ 0xEF ∷ 0xBB ∷ []) × (byte ≡ 0xBF)
snoc-apart [] byte e = absurd (let no : ⊥ = cc in no)
snoc-apart (a ∷ []) byte e = absurd (let no : ⊥ = cc in no)
snoc-apart (a ∷ b ∷ []) byte e = (let same : a ∷ b ∷ [] ≡ 0xEF ∷ 0xBB ∷ [] = cc in same, let same : byte ≡ 0xBF = cc in same)
snoc-apart (a ∷ b ∷ c ∷ []) byte e = absurd (let no : ⊥ = cc in no)
snoc-apart (a ∷ b ∷ c ∷ d ∷ rest) byte e = absurd (let no : ⊥ = cc in no)

-- before the byte that completes the mark stand its two others
pub mark_completed : (used : List ℕ) (byte : ℕ) → is_mark (used ++ byte ∷ []) ≡ true
    → (length used ≡ 2) × (cut_of used ≡ record { lines = []; rest = 0xEF ∷ 0xBB ∷ [] }) × (byte ≡ 0xBF)
unfolding cut_of
mark_completed used byte h =
    let apart = snoc-apart used byte (mark_alone (used ++ byte ∷ []) h) in
    (ap length apart.0, ap cut_of apart.0, apart.1)

-- what one byte more does to the bytes behind the last LF
then_byte-rest : (cut : Cut) (byte : ℕ) → (then_byte cut byte).rest ≡ cond (eqb byte 10) [] (cut.rest ++ byte ∷ [])
then_byte-rest cut byte =
    elim (eqb byte 10)
    as (λ v. (cond {A = Cut} v (record { lines = cut.lines ++ cut.rest ∷ []; rest = [] }) (record { lines = cut.lines; rest = cut.rest ++ byte ∷ [] })).rest
    ≡ cond v [] (cut.rest ++ byte ∷ []))
    [ true ↦ refl | false ↦ refl ]

three_bytes : (ends_first ends_second : Bool) (a b byte : ℕ)
    → cond ends_second [] (cond ends_first [] (a ∷ []) ++ b ∷ []) ++ byte ∷ [] ≡ byte_order_mark → a ∷ b ∷ byte ∷ [] ≡ byte_order_mark
three_bytes first true a b byte e = absurd (let no : ⊥ = cc in no)
three_bytes true false a b byte e = absurd (let no : ⊥ = cc in no)
three_bytes false false a b byte e = e

-- three bytes that leave the mark behind the last LF are the mark
pub mark_held : (used : List ℕ) (byte : ℕ) → length used + 1 ≡ 3 → (cut_of used).rest ++ byte ∷ [] ≡ byte_order_mark → used ++ byte ∷ [] ≡ byte_order_mark
unfolding cut_of
mark_held [] byte count e = absurd (omega arith)
mark_held (a ∷ []) byte count e = absurd (omega arith)
mark_held (a ∷ b ∷ c ∷ rest) byte count e = absurd (omega arith)
mark_held (a ∷ b ∷ []) byte count e =
    let inner : (then_byte nothing_cut a).rest ≡ cond (eqb a 10) [] (a ∷ []) = then_byte-rest nothing_cut a in
    let outer : (cut_on nothing_cut (a ∷ b ∷ [])).rest ≡ cond (eqb b 10) [] ((then_byte nothing_cut a).rest ++ b ∷ []) =
    then_byte-rest (then_byte nothing_cut a) b in
    three_bytes (eqb a 10) (eqb b 10) a b byte
    (ap (λ l. cond (eqb b 10) [] (l ++ b ∷ []) ++ byte ∷ []) (sym inner) ∙ ap (λ l. l ++ byte ∷ []) (sym outer)
    ∙ ap (λ cut. cut.rest ++ byte ∷ []) (sym (cut_of-few (a ∷ b ∷ []) (omega arith))) ∙ e)

pub is_mark-mark : (bytes : List ℕ) → bytes ≡ byte_order_mark → is_mark bytes ≡ true
is_mark-mark bytes e = ap is_mark e

-- a byte that is no LF, after those used
pub cut-add : (used : List ℕ) (byte : ℕ) → byte ≢ 10
    → cut_of (used ++ byte ∷ [])
    ≡ cond (is_mark (used ++ byte ∷ [])) nothing_cut (record { lines = (cut_of used).lines; rest = (cut_of used).rest ++ byte ∷ [] })
cut-add used byte other =
    cut_of-snoc used byte
    ∙ ap (λ v. cond (is_mark (used ++ byte ∷ [])) nothing_cut
    (cond v (record { lines = (cut_of used).lines ++ (cut_of used).rest ∷ []; rest = [] }) (record { lines = (cut_of used).lines; rest = (cut_of used).rest ++ byte ∷ [] })))
    (false_from_ne_true (eqb byte 10) (λ same. other (eqb-true byte 10 same)))

not_mark_at_end : (used : List ℕ) → is_mark (used ++ 10 ∷ []) ≡ false
not_mark_at_end used = false_from_ne_true (is_mark (used ++ 10 ∷ []))
    (λ h. let e : 10 ≡ 0xBF = (mark_completed used 10 h).2 in absurd (omega arith))

-- an LF, after those used
pub cut-end : (used : List ℕ) → cut_of (used ++ 10 ∷ []) ≡ record { lines = (cut_of used).lines ++ (cut_of used).rest ∷ []; rest = [] }
cut-end used =
    cut_of-snoc used 10 ∙ ap (λ v. cond v nothing_cut (then_byte (cut_of used) 10)) (not_mark_at_end used)

-- it ends no line
pub lines-add : (used : List ℕ) (byte : ℕ) → byte ≢ 10 → (cut_of (used ++ byte ∷ [])).lines ≡ (cut_of used).lines
lines-add used byte other =
    ap (λ cut. cut.lines) (cut-add used byte other)
    ∙ (elim (cases_Bool (is_mark (used ++ byte ∷ []))) [
      | inl marked ↦
          ap (λ v. (cond {A = Cut} v nothing_cut (record { lines = (cut_of used).lines; rest = (cut_of used).rest ++ byte ∷ [] })).lines) marked
          ∙ sym (ap (λ cut. cut.lines) (mark_completed used byte marked).1)
      | inr unmarked ↦ ap (λ v. (cond {A = Cut} v nothing_cut (record { lines = (cut_of used).lines; rest = (cut_of used).rest ++ byte ∷ [] })).lines) unmarked
    ])

-- the bytes behind the last LF, with one that is none
pub rest-add : (used : List ℕ) (byte : ℕ) → byte ≢ 10 → is_mark (used ++ byte ∷ []) ≡ false
    → (cut_of (used ++ byte ∷ [])).rest ≡ (cut_of used).rest ++ byte ∷ []
rest-add used byte other unmarked =
    ap (λ cut. cut.rest) (cut-add used byte other)
    ∙ ap (λ v. (cond {A = Cut} v nothing_cut (record { lines = (cut_of used).lines; rest = (cut_of used).rest ++ byte ∷ [] })).rest) unmarked

pub rest-mark : (used : List ℕ) (byte : ℕ) → byte ≢ 10 → is_mark (used ++ byte ∷ []) ≡ true → (cut_of (used ++ byte ∷ [])).rest ≡ []
rest-mark used byte other marked =
    ap (λ cut. cut.rest) (cut-add used byte other)
    ∙ ap (λ v. (cond {A = Cut} v nothing_cut (record { lines = (cut_of used).lines; rest = (cut_of used).rest ++ byte ∷ [] })).rest) marked

-- The lines make up the file

abbrev value : Cut → List ℕ
value cut = with_line_ends cut.lines ++ cut.rest

with_line_ends-snoc : (lines : List (List ℕ)) (line : List ℕ) → with_line_ends (lines ++ line ∷ []) ≡ with_line_ends lines ++ (line ++ 10 ∷ [])
with_line_ends-snoc [] line = refl
with_line_ends-snoc (first ∷ lines) line =
    ap (λ l. first ++ (10 ∷ l)) (with_line_ends-snoc lines line) ∙ sym (append_assoc first (10 ∷ with_line_ends lines) (line ++ 10 ∷ []))

then_byte-ends : (lines : List (List ℕ)) (rest : List ℕ) (byte : ℕ) → byte ≡ 10
    → with_line_ends (lines ++ rest ∷ []) ++ [] ≡ (with_line_ends lines ++ rest) ++ byte ∷ []
then_byte-ends lines rest byte same =
    append-nil (with_line_ends (lines ++ rest ∷ [])) ∙ with_line_ends-snoc lines rest ∙ sym (append_assoc (with_line_ends lines) rest (10 ∷ []))
    ∙ ap (λ b. (with_line_ends lines ++ rest) ++ b ∷ []) (sym same)

then_byte-value : (cut : Cut) (byte : ℕ) → value (then_byte cut byte) ≡ value cut ++ byte ∷ []
then_byte-value cut byte =
    elim (cases_Bool (eqb byte 10)) [
      | inl ends ↦
          ap (λ v. value (cond v (record { lines = cut.lines ++ cut.rest ∷ []; rest = [] }) (record { lines = cut.lines; rest = cut.rest ++ byte ∷ [] }))) ends
          ∙ then_byte-ends cut.lines cut.rest byte (eqb-true byte 10 ends)
      | inr goes_on ↦
          ap (λ v. value (cond v (record { lines = cut.lines ++ cut.rest ∷ []; rest = [] }) (record { lines = cut.lines; rest = cut.rest ++ byte ∷ [] }))) goes_on
          ∙ sym (append_assoc (with_line_ends cut.lines) cut.rest (byte ∷ []))
    ]

cut_on-value : (cut : Cut) (bytes : List ℕ) → value (cut_on cut bytes) ≡ value cut ++ bytes
cut_on-value cut [] = sym (append-nil (value cut))
cut_on-value cut (byte ∷ bytes) =
    cut_on-value (then_byte cut byte) bytes ∙ ap (λ v. v ++ bytes) (then_byte-value cut byte) ∙ append_assoc (value cut) (byte ∷ []) bytes

pub value-cut_of : (bytes : List ℕ) → with_line_ends (cut_of bytes).lines ++ (cut_of bytes).rest ≡ without_mark bytes
unfolding cut_of
value-cut_of bytes = cut_on-value nothing_cut (without_mark bytes)

all-snoc : {X : Type 0} (P : X → Type 0) (xs : List X) (x : X) → AllByRecursion P xs → P x → AllByRecursion P (xs ++ x ∷ [])
all-snoc P [] x all is = (is, tt)
all-snoc P (y ∷ xs) x all is = (all.0, all-snoc P xs x all.1 is)

pub record IsCut (cut : Cut) : Type 0 where
  pub lines : AllByRecursion HasNoLineEnd cut.lines
  pub rest : HasNoLineEnd cut.rest

then_byte-IsCut : (cut : Cut) (byte : ℕ) → IsCut cut → IsCut (then_byte cut byte)
then_byte-IsCut cut byte is =
    elim (cases_Bool (eqb byte 10)) [
      | inl ends ↦
          subst (λ (v : Bool). IsCut (cond v (record { lines = cut.lines ++ cut.rest ∷ []; rest = [] }) (record { lines = cut.lines; rest = cut.rest ++ byte ∷ [] })))
          (sym ends) (record { lines = all-snoc HasNoLineEnd cut.lines cut.rest is.lines is.rest; rest = tt })
      | inr goes_on ↦
          subst (λ (v : Bool). IsCut (cond v (record { lines = cut.lines ++ cut.rest ∷ []; rest = [] }) (record { lines = cut.lines; rest = cut.rest ++ byte ∷ [] })))
          (sym goes_on) (record { lines = is.lines; rest = all-snoc (λ b. b ≢ 10) cut.rest byte is.rest (eqb-false byte 10 goes_on) })
    ]

cut_on-IsCut : (cut : Cut) (bytes : List ℕ) → IsCut cut → IsCut (cut_on cut bytes)
cut_on-IsCut cut [] is = is
cut_on-IsCut cut (byte ∷ bytes) is = cut_on-IsCut (then_byte cut byte) bytes (then_byte-IsCut cut byte is)

pub IsCut-cut_of : (bytes : List ℕ) → IsCut (cut_of bytes)
unfolding cut_of
IsCut-cut_of bytes = cut_on-IsCut nothing_cut (without_mark bytes) (record { lines = tt; rest = tt })

-- the lines ended by more bytes come behind those that were ended before

lines-byte : (used : List ℕ) (byte : ℕ) → (later : List (List ℕ)) × ((cut_of (used ++ byte ∷ [])).lines ≡ (cut_of used).lines ++ later)
lines-byte used byte =
    elim (cases_eq byte 10) [
      | inl ends ↦ ((cut_of used).rest ∷ [], ap (λ b. (cut_of (used ++ b ∷ [])).lines) ends ∙ ap (λ cut. cut.lines) (cut-end used))
      | inr goes_on ↦ ([], lines-add used byte goes_on ∙ sym (append-nil (cut_of used).lines))
    ]

pub lines-more : (used more : List ℕ) → (later : List (List ℕ)) × ((cut_of (used ++ more)).lines ≡ (cut_of used).lines ++ later)
lines-more used [] = ([], ap (λ u. (cut_of u).lines) (append-nil used) ∙ sym (append-nil (cut_of used).lines))
lines-more used (byte ∷ more) =
    let first = lines-byte used byte in
    let rest = lines-more (used ++ byte ∷ []) more in (
      first.0 ++ rest.0,
      ap (λ u. (cut_of u).lines) (sym (append_assoc used (byte ∷ []) more)) ∙ rest.1 ∙ ap (λ l. l ++ rest.0) first.1
          ∙ append_assoc (cut_of used).lines first.0 rest.0,
    )
