-- What `judge` finds, from what `from_utf8` answers.
use Rattle.std.proofs.Common.{◌≡◌, ℕ, ◌<◌, min, Bool, List, [], ◌∷◌, length, take, drop, Option, IsUtf8, refl, sym, ap, ◌∙◌, arith, length-drop, length-take-le, ◌+◌, ◌≤◌, is_some, cond}
use Rattle.std.specs.Str.Lossy.{utf8_valid_len, utf8_error_len}
use Rattle.std.proofs.lemmas.List.{take_min, drop_all, take-append-drop}
use Rattle.std.proofs.lemmas.Str.{utf8_valid_len-IsUtf8}
use Rattle.lbk_feed.specs.declared.judge.Stop.TheVariants.{Whole, Cut, Faulty}
use Rattle.lbk_feed.specs.Text.{after_prefix}
use Rattle.lbk_feed.specs.Judge.{stop_of}
use Rattle.lbk_feed.proofs.Front.{utf8_valid_len-after}
use Rattle.lbk_feed.proofs.Judged.{rest-after}

-- the slice up to the lesser of two lengths, as code writes it
pub reached : (held : List ℕ) (reach room : ℕ) → reach ≡ min room (length held) → take reach held ≡ take room held
reached held reach room is = ap (λ n. take n held) is ∙ take_min room held

stop_some : (bs : List ℕ) → 0 < length bs → stop_of bs ≡ cond (is_some (utf8_error_len bs)) Faulty Cut
stop_some [] some = absurd (omega arith)
stop_some (x ∷ xs) some = refl

pub err_stop : (bs : List ℕ) (at : ℕ) (len : Option ℕ) (found : Bool) → at ≡ utf8_valid_len bs → len ≡ utf8_error_len (drop at bs) → at < length bs
    → found ≡ is_some len → cond found Faulty Cut ≡ stop_of (after_prefix bs)
err_stop bs at len found place fault short is =
    let rest = after_prefix bs in
    let same : drop at bs ≡ rest = ap (λ n. drop n bs) place in
    let some : 0 < length rest = omega (arith, length-drop (utf8_valid_len bs) bs) in
    ap (λ b. cond b Faulty Cut) (is ∙ ap is_some (fault ∙ ap utf8_error_len same)) ∙ sym (stop_some rest some)

pub all_len : (bs : List ℕ) → IsUtf8 bs → length bs ≡ utf8_valid_len bs
all_len bs text = sym (utf8_valid_len-IsUtf8 bs text)

pub all_stop : (bs : List ℕ) → IsUtf8 bs → Whole ≡ stop_of (after_prefix bs)
all_stop bs text = ap stop_of (sym (drop_all _ bs (omega (arith, utf8_valid_len-IsUtf8 bs text))))

-- where the front of bytes is a text, the rest tells how far all are well-formed, and what follows
pub parts_len : (bs : List ℕ) (cut : ℕ) → cut ≤ length bs → IsUtf8 (take cut bs) → utf8_valid_len bs ≡ cut + utf8_valid_len (drop cut bs)
parts_len bs cut within text =
    ap utf8_valid_len (sym (take-append-drop cut bs)) ∙ utf8_valid_len-after (take cut bs) (drop cut bs) text
    ∙ ap (λ n. n + utf8_valid_len (drop cut bs)) (length-take-le cut bs within)

pub parts_stop : (bs : List ℕ) (cut : ℕ) → IsUtf8 (take cut bs) → stop_of (after_prefix (drop cut bs)) ≡ stop_of (after_prefix bs)
parts_stop bs cut text =
    ap stop_of (sym (ap after_prefix (sym (take-append-drop cut bs)) ∙ rest-after (take cut bs) (drop cut bs) text))
