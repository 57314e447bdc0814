-- An input ends inside a scalar exactly where std's test for ill-formed bytes finds none at fault.
use Rattle.std.proofs.Common.{◌≡◌, ◌⊎◌, ℕ, ◌+◌, ◌<◌, ◌≤◌, Bool, true, false, List, [], ◌∷◌, ◌++◌, length, take, Option, None, Some, IsUtf8, refl, sym, ap, ◌∙◌, arith, inl, inr, subst, ⊎_elim, cond, ◌≢◌, length-append, take_at}
use Rattle.std.specs.Char.{encode_utf8}
use Rattle.std.specs.Int.{is_in_range}
use Rattle.std.specs.Str.Lossy.{second_byte_min, second_byte_max, utf8_error_len, utf8_valid_len}
use Rattle.std.proofs.lemmas.Bool.{cases_lt, cond-true}
use Rattle.std.proofs.lemmas.Bool.Decides.{nat_tests}
use Rattle.std.proofs.lemmas.Str.{IsUtf8-encode}
use Rattle.lbk_feed.specs.Text.{IsCutScalar}
use Rattle.lbk_feed.proofs.Scalars.{MayFollow, MayFollow-tested, MayFollow-passes, IsSpelt, spelt_two, spelt_three, spelt_four, Spelling, spells_one, spells_two, spells_three, spells_four, spelling}
use Rattle.lbk_feed.proofs.Front.{utf8_valid_len-longest}

abbrev leads : ℕ → Bool
leads x = is_in_range 0xC2 0xF4 x

abbrev may_follow : ℕ → ℕ → Bool
may_follow x y = is_in_range (second_byte_min x) (second_byte_max x) y

abbrev continues : ℕ → Bool
continues z = is_in_range 0x80 0xBF z

-- what std's test says of one, two, three and more bytes
error_len-one : (x : ℕ) → utf8_error_len (x ∷ []) ≡ cond (leads x) None (Some 1)
unfolding utf8_error_len
error_len-one x = refl

error_len-two : (x y : ℕ) → utf8_error_len (x ∷ y ∷ []) ≡ cond (leads x) (cond (may_follow x y) None (Some 1)) (Some 1)
unfolding utf8_error_len
error_len-two x y = refl

error_len-three : (x y z : ℕ) → utf8_error_len (x ∷ y ∷ z ∷ []) ≡ cond (leads x) (cond (may_follow x y) (cond (continues z) None (Some 2)) (Some 1)) (Some 1)
unfolding utf8_error_len
error_len-three x y z = refl

-- with four bytes there is always one at fault
error_len-more : (x y z w : ℕ) (rest : List ℕ) → ¬ (utf8_error_len (x ∷ y ∷ z ∷ w ∷ rest) ≡ None)
unfolding utf8_error_len
error_len-more x y z w rest none =
    let long : 4 ≤ length (x ∷ y ∷ z ∷ w ∷ rest) = omega arith in grind (arith, nat_tests)

-- the bytes of a scalar are a text, so where no byte begins one they are not at the front
no_scalar : (bs front more : List ℕ) → utf8_valid_len bs ≡ 0 → bs ≡ front ++ more → 0 < length front → IsSpelt front → ⊥
no_scalar bs front more none is some spelt =
    let text : IsUtf8 front = subst IsUtf8 (sym spelt.spells) (IsUtf8-encode spelt.scalar spelt.is_scalar) in
    let within : length front ≤ length bs = omega (arith, ap length is, length-append front more) in
    let least = utf8_valid_len-longest bs (length front) within (subst IsUtf8 (sym (ap (take (length front)) is ∙ take_at front more _ refl)) text) in
    omega (arith, least, none)

cut_off : (bs more : List ℕ) → 0 < length bs → 0 < length more → IsSpelt (bs ++ more) → IsCutScalar bs
cut_off bs more some lacks spelt = record {
  scalar = spelt.scalar;
  more = more;
  is_scalar = spelt.is_scalar;
  spells = spelt.spells;
  begins = some;
  lacks = lacks;
}

leads-true : (x : ℕ) → leads x ≡ true → (0xC2 ≤ x) × (x ≤ 0xF4)
leads-true x passes = grind (arith, nat_tests)

continues-true : (z : ℕ) → continues z ≡ true → (0x80 ≤ z) × (z ≤ 0xBF)
continues-true z passes = grind (arith, nat_tests)

-- the least byte that may follow x
least_follower : (x : ℕ) → (y : ℕ) × MayFollow x y
least_follower x = ⊎_elim
    (λ (is : x ≡ 0xE0). (0xA0, record { low = omega arith; high = omega arith; after_E0 = λ e. omega arith; after_ED = λ e. omega arith; after_F0 = λ e. omega arith; after_F4 = λ e. omega arith }))
    (λ (other : (x ≡ 0xF0) ⊎ ((x ≢ 0xE0) × (x ≢ 0xF0))). ⊎_elim
    (λ (is : x ≡ 0xF0). (0x90, record { low = omega arith; high = omega arith; after_E0 = λ e. omega arith; after_ED = λ e. omega arith; after_F0 = λ e. omega arith; after_F4 = λ e. omega arith }))
    (λ (is : (x ≢ 0xE0) × (x ≢ 0xF0)). (0x80, record { low = omega arith; high = omega arith; after_E0 = λ e. absurd (is.0 e); after_ED = λ e. omega arith; after_F0 = λ e. absurd (is.1 e); after_F4 = λ e. omega arith }))
    other)
    (let cases : (x ≡ 0xE0) ⊎ ((x ≡ 0xF0) ⊎ ((x ≢ 0xE0) × (x ≢ 0xF0))) = grind arith in cases)

-- where a first byte leads, how many follow
data LeadsTo (x : ℕ) : Type 0 where
  leads_two : 0xC2 ≤ x → x ≤ 0xDF → LeadsTo x
  leads_three : 0xE0 ≤ x → x ≤ 0xEF → LeadsTo x
  leads_four : 0xF0 ≤ x → x ≤ 0xF4 → LeadsTo x

leads_to : (x : ℕ) → leads x ≡ true → LeadsTo x
leads_to x passes = by (leads-true x passes) (cases_lt x 0xE0) (cases_lt x 0xF0)
  where
    by : (0xC2 ≤ x) × (x ≤ 0xF4) → (x < 0xE0) ⊎ (0xE0 ≤ x) → (x < 0xF0) ⊎ (0xF0 ≤ x) → LeadsTo x
    by within (inl low) _ = leads_two within.0 (omega arith)
    by within (inr high) (inl low) = leads_three high (omega arith)
    by within (inr _) (inr high) = leads_four high within.1

both_none : (b : Bool) (o : Option ℕ) (n : ℕ) → cond b o (Some n) ≡ None → (b ≡ true) × (o ≡ None)
both_none true o n is = (refl, is)
both_none false o n is = cc

-- bytes with none at fault, which no scalar begins, are cut off inside one
pub none-cut : (bs : List ℕ) → 0 < length bs → utf8_valid_len bs ≡ 0 → utf8_error_len bs ≡ None → IsCutScalar bs
none-cut [] some none is = absurd (omega arith)
none-cut (x ∷ []) some none is = by (leads_to x (both_none _ _ _ (sym (error_len-one x) ∙ is)).0)
  where
    by : LeadsTo x → IsCutScalar (x ∷ [])
    by (leads_two from to) = cut_off (x ∷ []) (0x80 ∷ []) (omega arith) (omega arith) (spelt_two x 0x80 from to (omega arith) (omega arith))
    by (leads_three from to) =
        let next = least_follower x in
        cut_off (x ∷ []) (next.0 ∷ 0x80 ∷ []) (omega arith) (omega arith) (spelt_three x next.0 0x80 from to next.1 (omega arith) (omega arith))
    by (leads_four from to) =
        let next = least_follower x in
        cut_off (x ∷ []) (next.0 ∷ 0x80 ∷ 0x80 ∷ []) (omega arith) (omega arith)
        (spelt_four x next.0 0x80 0x80 from to next.1 (omega arith) (omega arith) (omega arith) (omega arith))
none-cut (x ∷ y ∷ []) some none is =
    let first = both_none _ _ _ (sym (error_len-two x y) ∙ is) in
    by (leads_to x first.0) (MayFollow-tested x y (both_none _ _ _ first.1).0)
  where
    by : LeadsTo x → MayFollow x y → IsCutScalar (x ∷ y ∷ [])
    by (leads_two from to) may = absurd (no_scalar (x ∷ y ∷ []) (x ∷ y ∷ []) [] none refl (omega arith) (spelt_two x y from to may.low may.high))
    by (leads_three from to) may = cut_off (x ∷ y ∷ []) (0x80 ∷ []) (omega arith) (omega arith) (spelt_three x y 0x80 from to may (omega arith) (omega arith))
    by (leads_four from to) may = cut_off (x ∷ y ∷ []) (0x80 ∷ 0x80 ∷ []) (omega arith) (omega arith)
        (spelt_four x y 0x80 0x80 from to may (omega arith) (omega arith) (omega arith) (omega arith))
none-cut (x ∷ y ∷ z ∷ []) some none is =
    let first = both_none _ _ _ (sym (error_len-three x y z) ∙ is) in
    let second = both_none _ _ _ first.1 in
    let third = continues-true z (both_none _ _ _ second.1).0 in
    by (leads_to x first.0) (MayFollow-tested x y second.0) third.0 third.1
  where
    by : LeadsTo x → MayFollow x y → 0x80 ≤ z → z ≤ 0xBF → IsCutScalar (x ∷ y ∷ z ∷ [])
    by (leads_two from to) may low high = absurd (no_scalar (x ∷ y ∷ z ∷ []) (x ∷ y ∷ []) (z ∷ []) none refl (omega arith) (spelt_two x y from to may.low may.high))
    by (leads_three from to) may low high =
        absurd (no_scalar (x ∷ y ∷ z ∷ []) (x ∷ y ∷ z ∷ []) [] none refl (omega arith) (spelt_three x y z from to may low high))
    by (leads_four from to) may low high =
        cut_off (x ∷ y ∷ z ∷ []) (0x80 ∷ []) (omega arith) (omega arith) (spelt_four x y z 0x80 from to may low high (omega arith) (omega arith))
none-cut (x ∷ y ∷ z ∷ w ∷ rest) some none is = absurd (error_len-more x y z w rest is)

leads-passes : (x : ℕ) → 0xC2 ≤ x → x ≤ 0xF4 → leads x ≡ true
leads-passes x low high = grind (arith, nat_tests)

continues-passes : (z : ℕ) → 0x80 ≤ z → z ≤ 0xBF → continues z ≡ true
continues-passes z low high = grind (arith, nat_tests)

none-one : (x : ℕ) → 0xC2 ≤ x → x ≤ 0xF4 → utf8_error_len (x ∷ []) ≡ None
none-one x low high = error_len-one x ∙ cond-true _ _ _ (leads-passes x low high)

none-two : (x y : ℕ) → 0xC2 ≤ x → x ≤ 0xF4 → MayFollow x y → utf8_error_len (x ∷ y ∷ []) ≡ None
none-two x y low high may = error_len-two x y ∙ cond-true _ _ _ (leads-passes x low high) ∙ cond-true _ _ _ (MayFollow-passes x y may)

none-three : (x y z : ℕ) → 0xC2 ≤ x → x ≤ 0xF4 → MayFollow x y → 0x80 ≤ z → z ≤ 0xBF → utf8_error_len (x ∷ y ∷ z ∷ []) ≡ None
none-three x y z low high may from to =
    error_len-three x y z ∙ cond-true _ _ _ (leads-passes x low high) ∙ cond-true _ _ _ (MayFollow-passes x y may) ∙ cond-true _ _ _ (continues-passes z from to)

-- and the other way round
pub cut-none : (bs : List ℕ) → IsCutScalar bs → utf8_error_len bs ≡ None
cut-none bs cut = by bs cut.begins (spelling cut.scalar cut.is_scalar) cut.spells
  where
    by : (bs : List ℕ) → 0 < length bs → Spelling cut.scalar → bs ++ cut.more ≡ encode_utf8 cut.scalar → utf8_error_len bs ≡ None
    by [] some shape is = absurd (omega arith)
    by (a ∷ r) some (spells_one spells) is = absurd (omega (arith, cut.lacks, ap length (is ∙ spells), length-append (a ∷ r) cut.more))
    by (a ∷ []) some (spells_two x y low high from to spells) is =
        let same : x ≡ a = (let all = is ∙ spells in cc) in none-one a (omega arith) (omega arith)
    by (a ∷ b ∷ r) some (spells_two x y low high from to spells) is = absurd (omega (arith, cut.lacks, ap length (is ∙ spells), length-append (a ∷ b ∷ r) cut.more))
    by (a ∷ []) some (spells_three x y z low high may from to spells) is =
        let same : x ≡ a = (let all = is ∙ spells in cc) in none-one a (omega arith) (omega arith)
    by (a ∷ b ∷ []) some (spells_three x y z low high may from to spells) is =
        let same : x ≡ a = (let all = is ∙ spells in cc) in
        let next : y ≡ b = (let all = is ∙ spells in cc) in
        none-two a b (omega arith) (omega arith) (subst (λ v. MayFollow v b) same (subst (MayFollow x) next may))
    by (a ∷ b ∷ d ∷ r) some (spells_three x y z low high may from to spells) is =
        absurd (omega (arith, cut.lacks, ap length (is ∙ spells), length-append (a ∷ b ∷ d ∷ r) cut.more))
    by (a ∷ []) some (spells_four x y z w low high may from to from' to' spells) is =
        let same : x ≡ a = (let all = is ∙ spells in cc) in none-one a (omega arith) (omega arith)
    by (a ∷ b ∷ []) some (spells_four x y z w low high may from to from' to' spells) is =
        let same : x ≡ a = (let all = is ∙ spells in cc) in
        let next : y ≡ b = (let all = is ∙ spells in cc) in
        none-two a b (omega arith) (omega arith) (subst (λ v. MayFollow v b) same (subst (MayFollow x) next may))
    by (a ∷ b ∷ d ∷ []) some (spells_four x y z w low high may from to from' to' spells) is =
        let same : x ≡ a = (let all = is ∙ spells in cc) in
        let next : y ≡ b = (let all = is ∙ spells in cc) in
        let third : z ≡ d = (let all = is ∙ spells in cc) in
        none-three a b d (omega arith) (omega arith) (subst (λ v. MayFollow v b) same (subst (MayFollow x) next may)) (omega arith) (omega arith)
    by (a ∷ b ∷ d ∷ e ∷ r) some (spells_four x y z w low high may from to from' to' spells) is =
        absurd (omega (arith, cut.lacks, ap length (is ∙ spells), length-append (a ∷ b ∷ d ∷ e ∷ r) cut.more))

-- there is no cut scalar of four bytes
pub length-cut : (bs : List ℕ) → IsCutScalar bs → length bs < 4
length-cut bs cut = by (spelling cut.scalar cut.is_scalar)
  where
    long : length bs + length cut.more ≡ length (encode_utf8 cut.scalar)
    long = sym (length-append bs cut.more) ∙ ap length cut.spells

    by : Spelling cut.scalar → length bs < 4
    by (spells_one spells) = omega (arith, long, cut.lacks, ap length spells)
    by (spells_two x y low high from to spells) = omega (arith, long, cut.lacks, ap length spells)
    by (spells_three x y z low high may from to spells) = omega (arith, long, cut.lacks, ap length spells)
    by (spells_four x y z w low high may from to from' to' spells) = omega (arith, long, cut.lacks, ap length spells)
