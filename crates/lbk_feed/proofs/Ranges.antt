-- A part of a list that begins later, and one that ends in what was written behind it.
use Rattle.std.proofs.Common.{◌≡◌, ℕ, ◌+◌, ◌-◌, ◌≤◌, List, ◌++◌, length, take, drop, sym, ap, ◌∙◌, arith, slice_range}
use Rattle.std.proofs.lemmas.List.{take-take, drop-take, drop-drop, take_at, drop_at, take-append-le, length-take-le}
use Rattle.std.proofs.lemmas.Slice.{between_from_start}
use lib.Seq.{take-add}
use borrow.Rule.Slice.PartMut.{put_mid, post_of}

pub drop-slice_range : (xs : List ℕ) (a b n : ℕ) → n ≤ b - a → drop n (slice_range xs a b) ≡ slice_range xs (a + n) b
drop-slice_range xs a b n within =
    let rest = b - (a + n) in
    let parts : b - a ≡ n + rest = omega arith in
    ap (λ k. drop n (take k (drop a xs))) parts ∙ drop-take n rest (drop a xs) ∙ ap (take rest) (drop-drop n a xs)

pub take-slice_range : (xs : List ℕ) (a b n : ℕ) → n ≤ b - a → take n (slice_range xs a b) ≡ take n (drop a xs)
take-slice_range xs a b n within = take-take n (b - a) (drop a xs) within

-- the first n of what was written from `end` on stand behind what stood before it
pub slice_range-put_mid : (xs written : List ℕ) (end room n : ℕ) → end ≤ length xs → n ≤ length written
    → slice_range (put_mid end room xs written) 0 (end + n) ≡ slice_range xs 0 end ++ take n written
slice_range-put_mid xs written end room n within few =
    let front = take end xs in
    let behind = written ++ post_of end room xs in
    let long : length front ≡ end = length-take-le end xs within in
    between_from_start (front ++ behind) (end + n) ∙ take-add end n (front ++ behind)
    ∙ ap (λ l. l ++ take n (drop end (front ++ behind))) (take_at front behind end long ∙ sym (between_from_start xs end))
    ∙ ap (λ l. slice_range xs 0 end ++ take n l) (drop_at front behind end long)
    ∙ ap (λ l. slice_range xs 0 end ++ l) (take-append-le n written (post_of end room xs) few)
