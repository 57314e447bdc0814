-- The well-formed prefix: that it is a text, that none is longer, and that what comes after a text has its own.
use Rattle.std.proofs.Common.{◌≡◌, ℕ, zero, suc, ◌+◌, ◌-◌, ◌<◌, ◌≤◌, List, ◌++◌, length, take, drop, IsUtf8, refl, sym, ap, subst, ◌∙◌, arith, ⊎_elim, length-append, true≢false}
use Rattle.std.proofs.lemmas.Bool.{cases_Bool, cases_lt, cond-true, cond-false}
use Rattle.std.proofs.lemmas.List.{take_at, drop_at}
use Rattle.std.proofs.lemmas.Str.{IsUtf8-from_is_utf8, is_utf8-from_IsUtf8, IsUtf8-append, IsUtf8-drop, IsUtf8-nil, IsCharBoundary-from_take, utf8_valid_len_le}
use Rattle.std.specs.Str.{is_utf8}
use Rattle.std.specs.Str.Lossy.{valid_len_up_to, utf8_valid_len}
use lib.Seq.{take-add}

-- the front of that length is a text
valid_len_up_to-IsUtf8 : (bs : List ℕ) (m : ℕ) → IsUtf8 (take (valid_len_up_to bs m) bs)
valid_len_up_to-IsUtf8 bs zero = IsUtf8-nil
valid_len_up_to-IsUtf8 bs (suc m) = ⊎_elim
    (λ yes. subst (λ n. IsUtf8 (take n bs)) (sym (cond-true _ _ _ yes)) (IsUtf8-from_is_utf8 _ yes))
    (λ no. subst (λ n. IsUtf8 (take n bs)) (sym (cond-false _ _ _ no)) (valid_len_up_to-IsUtf8 bs m))
    (cases_Bool (is_utf8 (take (suc m) bs)))

-- and it is at least as long as any other up to m
valid_len_up_to-longest : (bs : List ℕ) (m n : ℕ) → n ≤ m → IsUtf8 (take n bs) → n ≤ valid_len_up_to bs m
valid_len_up_to-longest bs zero n within text = within
valid_len_up_to-longest bs (suc m) n within text = ⊎_elim
    (λ yes. subst (λ k. n ≤ k) (sym (cond-true _ _ _ yes)) within)
    (λ no. subst (λ k. n ≤ k) (sym (cond-false _ (suc m) (valid_len_up_to bs m) no)) (⊎_elim
    (λ (below : n < suc m). valid_len_up_to-longest bs m n (omega arith) text)
    (λ (top : suc m ≤ n).
    let same : n ≡ suc m = omega arith in
    absurd (true≢false (sym (is_utf8-from_IsUtf8 _ (subst (λ k. IsUtf8 (take k bs)) same text)) ∙ no)))
    (cases_lt n (suc m))))
    (cases_Bool (is_utf8 (take (suc m) bs)))

pub well_formed_prefix-IsUtf8 : (bs : List ℕ) → IsUtf8 (take (utf8_valid_len bs) bs)
unfolding utf8_valid_len
well_formed_prefix-IsUtf8 bs = valid_len_up_to-IsUtf8 bs (length bs)

pub utf8_valid_len-longest : (bs : List ℕ) (n : ℕ) → n ≤ length bs → IsUtf8 (take n bs) → n ≤ utf8_valid_len bs
unfolding utf8_valid_len
utf8_valid_len-longest bs n within text = valid_len_up_to-longest bs (length bs) n within text

-- after a text, the longest prefix goes on by that of what follows
pub utf8_valid_len-after : (used bs : List ℕ) → IsUtf8 used → utf8_valid_len (used ++ bs) ≡ length used + utf8_valid_len bs
utf8_valid_len-after used bs text =
    let all = used ++ bs in
    let u = length used in
    let n = utf8_valid_len all in
    let v = utf8_valid_len bs in
    let long = length-append used bs in
    let n_within = utf8_valid_len_le all in
    let v_within = utf8_valid_len_le bs in
    let fronts : (k : ℕ) → take (u + k) all ≡ used ++ take k bs =
    λ k. take-add u k all ∙ ap (λ l. l ++ take k (drop u all)) (take_at used bs u refl) ∙ ap (λ l. used ++ take k l) (drop_at used bs u refl) in
    let at_least : u + v ≤ n = utf8_valid_len-longest all (u + v) (omega arith)
    (subst IsUtf8 (sym (fronts v)) (IsUtf8-append used (take v bs) text (well_formed_prefix-IsUtf8 bs))) in
    let rest = n - u in
    let parts : u + rest ≡ n = omega arith in
    let whole : IsUtf8 (used ++ take rest bs) =
    subst IsUtf8 (ap (λ k. take k all) (sym parts) ∙ fronts rest) (well_formed_prefix-IsUtf8 all) in
    let boundary = IsCharBoundary-from_take (used ++ take rest bs) u whole (omega (arith, length-append used (take rest bs)))
    (subst IsUtf8 (sym (take_at used (take rest bs) u refl)) text) in
    let later : IsUtf8 (take rest bs) =
    subst IsUtf8 (drop_at used (take rest bs) u refl) (IsUtf8-drop (used ++ take rest bs) u whole boundary) in
    let at_most : rest ≤ v = utf8_valid_len-longest bs rest (omega arith) later in
    omega arith
