use Rattle.std.proofs.Common.{◌≡◌, ℕ, ◌+◌, ◌/◌, ◌^◌, ◌<◌, ◌≤◌, ◌&&◌, Bool, true, false, get_or, nat_lt, bit_and, refl, sym, ap, ap₂, ◌∙◌, ⊎_elim, arith}
use Rattle.std.specs.Bool.{beq}
use Rattle.std.proofs.lemmas.Bool.{and_left, and_right, cases_lt, le-ltb, lt-ltb}
use Rattle.bstr.specs.Utf8.{continues}
use Rattle.ucd_table.proofs.Facts.{same_from_beq}
use Rattle.ucd_table.proofs.TrieCheck.{all_below, all_below-at}
use Rattle.lbk_masks.proofs.BitLemmas.{set-and, set-none, set-past}
use Rattle.lbk_masks.specs.Sets.{is_in, is_set, meets, sets_in}
use Rattle.lbk_words.specs.declared.blocks.TheConstants.{LEADS, TAILS}
use Rattle.lbk_words.specs.Blocks.{begins_long, is_long}
use Rattle.lbk_words.proofs.Booleans.{unless}
use Rattle.lbk_words.proofs.EdgeLemmas.{set-after}
use Rattle.lbk_words.proofs.blocks.longs_among.Goals as goal

-- the sets of two bytes meet where they begin a letter of three
abbrev front_right : ℕ → ℕ → Bool
front_right b c = beq (meets (sets_in LEADS b) (sets_in TAILS c)) (begins_long b c)

fronts_right : all_below (λ b. all_below (front_right b) 256) 256 ≡ true
unfolding all_below
fronts_right = refl

front-is : (b c : ℕ) → b < 256 → c < 256 → meets (sets_in LEADS b) (sets_in TAILS c) ≡ begins_long b c
front-is b c few_b few_c =
    same_from_beq _ _ (all_below-at (front_right b) 256 c (all_below-at (λ b. all_below (front_right b) 256) 256 b fronts_right few_b) few_c)

lasts_right : all_below (λ d. beq (is_in TAILS 4 d) (continues d)) 256 ≡ true
unfolding all_below
lasts_right = refl

last-is : (d : ℕ) → d < 256 → is_in TAILS 4 d ≡ continues d
last-is d few = same_from_beq _ _ (all_below-at (λ d. beq (is_in TAILS 4 d) (continues d)) 256 d lasts_right few)

-- the second byte behind one
set-second : (n i : ℕ) → is_set (n / 2 ^ 2) i ≡ is_set n (i + 2)
set-second n i =
    ap (λ m. is_set m i) (let e : n / 2 ^ 2 ≡ n / 2 ^ 1 / 2 ^ 1 = omega arith in e) ∙ set-after (n / 2 ^ 1) i ∙ set-after n (i + 1)
    ∙ ap (is_set n) (let e : i + 1 + 1 ≡ i + 2 = omega arith in e)

past-last : (n i : ℕ) → n < 2 ^ 64 → i < 64 → 62 ≤ i → is_set n (i + 2) ≡ false
past-last n i fits few past = ⊎_elim
    (λ (less : i < 63). ap (is_set n) (let e : i + 2 ≡ 64 = omega arith in e) ∙ set-past n fits)
    (λ (most : 63 ≤ i). ap (is_set n) (let e : i + 2 ≡ 64 + 1 = omega arith in e) ∙ sym (set-after n 64) ∙ set-past (n / 2 ^ 1) (omega (arith, fits)))
    (cases_lt i 63)

-- no three bytes behind one another are of no letter of two
pub returns-then-others-eq0 : goal.returns-then-others-eq0
returns-then-others-eq0 c = λ i few.
    let others = c.args.others in
    set-none i
    ∙ sym (unless (is_long c.args.bytes.now i) (λ is.
    let all = c.requires.others i few is in
    let here : is_set others i ≡ true = ap (is_set others) (let e : i ≡ i + 0 = omega arith in e) ∙ all 0 (omega arith) in
    let three : is_set (bit_and (bit_and others (others / 2 ^ 1)) (others / 2 ^ 2)) i ≡ true =
    set-and (bit_and others (others / 2 ^ 1)) (others / 2 ^ 2) i
    ∙ ap₂ (λ a b. a && b)
    (set-and others (others / 2 ^ 1) i ∙ ap₂ (λ a b. a && b) here (set-after others i ∙ all 1 (omega arith)))
    (set-second others i ∙ all 2 (omega arith)) in
    (let e : true ≡ false = sym three ∙ ap (λ n. is_set n i) c.if-others-eq0.true ∙ set-none i in cc)))

-- no letter of three bytes begins there
pub returns-then-leads-eq0 : goal.returns-then-leads-eq0
returns-then-leads-eq0 c = λ i few.
    let byte : ℕ → ℕ = λ j. get_or c.args.bytes.now j 0 in
    let fit : (j : ℕ) → byte j < 256 = λ j. (c.type_inv.bytes j).fits in
    let here = begins_long (byte i) (byte (i + 1)) in
    set-none i ∙ sym (⊎_elim
    (λ (inside : i < 62).
    let none : here ≡ false =
    sym (front-is (byte i) (byte (i + 1)) (fit i) (fit (i + 1)))
    ∙ sym (ap (λ b. b && meets (sets_in LEADS (byte i)) (sets_in TAILS (byte (i + 1)))) (lt-ltb i 63 (omega (arith, inside))))
    ∙ sym (c.pairs-leads.ensures i few) ∙ ap (λ n. is_set n i) c.if-leads-eq0.true ∙ set-none i in
    and_right (nat_lt i 62) (here && continues (byte (i + 2))) (and_left here (continues (byte (i + 2))) none))
    (λ (past : 62 ≤ i). and_left (nat_lt i 62) (here && continues (byte (i + 2))) (le-ltb i 62 past))
    (cases_lt i 62))

pub returns : goal.returns
returns c = λ i few.
    let byte : ℕ → ℕ = λ j. get_or c.args.bytes.now j 0 in
    let fit : (j : ℕ) → byte j < 256 = λ j. (c.type_inv.bytes j).fits in
    let leads = c.pairs-leads.result in
    let lasts = c.members.result in
    let here = begins_long (byte i) (byte (i + 1)) in
    let last = continues (byte (i + 2)) in
    let both : is_set (bit_and leads (lasts / 2 ^ 2)) i ≡ (is_set leads i && is_set lasts (i + 2)) =
    set-and leads (lasts / 2 ^ 2) i ∙ ap (λ b. is_set leads i && b) (set-second lasts i) in
    both
    ∙ ⊎_elim
    (λ (inside : i < 62).
    ap₂ (λ a b. a && b)
    (c.pairs-leads.ensures i few ∙ ap₂ (λ a b. a && b) (lt-ltb i 63 (omega (arith, inside))) (front-is (byte i) (byte (i + 1)) (fit i) (fit (i + 1))))
    (c.members.ensures (i + 2) (omega (arith, inside)) ∙ last-is (byte (i + 2)) (fit (i + 2)))
    ∙ sym (ap (λ b. b && (here && last)) (lt-ltb i 62 inside)))
    (λ (past : 62 ≤ i).
    and_right (is_set leads i) (is_set lasts (i + 2)) (past-last lasts i (omega arith) few past)
    ∙ sym (and_left (nat_lt i 62) (here && last) (le-ltb i 62 past)))
    (cases_lt i 62)
