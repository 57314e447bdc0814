-- No step of a table's digest leads two numbers to one, so neither do two tables that differ in one number.
use Rattle.std.proofs.Common.{◌≡◌, ℕ, ◌*◌, ◌%◌, ◌^◌, ◌<◌, List, [], ◌∷◌, ◌++◌, refl, sym, ap, subst, ◌∙◌, arith}
use Rattle.std.specs.List.{AllByRecursion, flat_map, fold}
use Rattle.std.proofs.lemmas.List.Sums.{fold-append}
use lib.Bits.{bit_xor, xor_assoc, xor_comm, xor_lt, xor_self, xor_zero_r}
use Rattle.lbk_rules.specs.declared.flat_table.FlatTable.{FlatTable}
use Rattle.lbk_rules.specs.declared.neighbours.Neighbours.{Neighbours}
use Rattle.lbk_rules.specs.FlatTable.{IsWhole, digest_of, digest_with}
use Rattle.lbk_rules.specs.Neighbours.{digest_of_neighbours}
use Rattle.lbk_c.specs.Checked.{DifferInOne, numbers_of, numbers_of_neighbours}

twice : (a d : ℕ) → bit_xor (bit_xor a d) d ≡ a
twice a d = xor_assoc a d d ∙ ap (bit_xor a) (xor_self d) ∙ xor_zero_r a

-- an odd factor tells all numbers of 64 bits apart
times-same : (x y : ℕ) → x < 2 ^ 64 → y < 2 ^ 64 → (x * 0x100_0000_01b3) % 2 ^ 64 ≡ (y * 0x100_0000_01b3) % 2 ^ 64 → x ≡ y
times-same x y low high same = omega arith

pub same-number : (digest one other : ℕ) → digest < 2 ^ 64 → one < 2 ^ 64 → other < 2 ^ 64 → digest_with digest one ≡ digest_with digest other → one ≡ other
same-number digest one other d a b same =
    let is = times-same (bit_xor digest one) (bit_xor digest other) (xor_lt 64 digest one d a) (xor_lt 64 digest other d b) same in
    sym (twice one digest) ∙ ap (λ v. bit_xor v digest) (xor_comm one digest ∙ is ∙ xor_comm digest other) ∙ twice other digest

pub same-digest : (one other number : ℕ) → one < 2 ^ 64 → other < 2 ^ 64 → number < 2 ^ 64 → digest_with one number ≡ digest_with other number → one ≡ other
same-digest one other number a b n same =
    let is = times-same (bit_xor one number) (bit_xor other number) (xor_lt 64 one number a n) (xor_lt 64 other number b n) same in
    sym (twice one number) ∙ ap (λ v. bit_xor v number) is ∙ twice other number

-- Tables

abbrev AreSmall : List ℕ → Type 0
AreSmall numbers = AllByRecursion (λ number. number < 2 ^ 64) numbers

below : (digest number : ℕ) → digest_with digest number < 2 ^ 64
below digest number = omega arith

-- behind two digests that differ the same numbers lead to two
same-start : (numbers : List ℕ) (one other : ℕ) → one < 2 ^ 64 → other < 2 ^ 64 → AreSmall numbers
    → fold digest_with one numbers ≡ fold digest_with other numbers → one ≡ other
same-start [] one other a b small same = same
same-start (n ∷ ns) one other a b small same =
    same-digest one other n a b small.0
    (same-start ns (digest_with one n) (digest_with other n) (below one n) (below other n) small.1 same)

-- nor do two numbers among the same
same-between : (front back : List ℕ) (digest one other : ℕ) → digest < 2 ^ 64 → AreSmall (front ++ one ∷ back) → AreSmall (front ++ other ∷ back)
    → fold digest_with digest (front ++ one ∷ back) ≡ fold digest_with digest (front ++ other ∷ back) → one ≡ other
same-between [] back digest one other d a b same =
    same-number digest one other d a.0 b.0
    (same-start back (digest_with digest one) (digest_with digest other) (below digest one) (below digest other) a.1 same)
same-between (n ∷ ns) back digest one other d a b same =
    same-between ns back (digest_with digest n) one other (below digest n) a.1 b.1 same

rows-joined : (rows : List (List ℕ)) (digest : ℕ)
    → fold (λ sum row. fold digest_with sum row) digest rows ≡ fold digest_with digest (flat_map (λ row. row) rows)
rows-joined [] digest = refl
rows-joined (row ∷ rows) digest =
    rows-joined rows (fold digest_with digest row) ∙ sym (fold-append digest_with digest row (flat_map (λ r. r) rows))

neighbours-joined : (digest : ℕ) (pairs : Neighbours) → digest_of_neighbours digest pairs ≡ fold digest_with digest (numbers_of_neighbours pairs)
unfolding digest_of_neighbours
neighbours-joined digest pairs =
    let classes = flat_map (λ row. row) pairs.sets.classes in
    let sets = pairs.sets in
    ap (λ d. fold digest_with (fold digest_with (fold digest_with d sets.left) sets.right) pairs.rows) (rows-joined sets.classes digest)
    ∙ sym (
    fold-append digest_with digest (classes ++ sets.left ++ sets.right) pairs.rows
    ∙ ap (λ d. fold digest_with d pairs.rows)
    (fold-append digest_with digest (classes ++ sets.left) sets.right
    ∙ ap (λ d. fold digest_with d sets.right) (fold-append digest_with digest classes sets.left))
    )

abbrev start : ℕ
start = 0xcbf2_9ce4_8422_2325

all-joined : (table : FlatTable) → digest_of table ≡ fold digest_with start (numbers_of table)
unfolding digest_of
all-joined table =
    ap (λ d. fold digest_with d table.kinds) (neighbours-joined start table.pairs)
    ∙ sym (fold-append digest_with start (numbers_of_neighbours table.pairs) table.kinds)

pub one-changed : (table other : FlatTable) (one changed : ℕ) → IsWhole table → IsWhole other → other.digest ≡ table.digest
    → DifferInOne table other one changed → changed ≡ one
one-changed table other one changed whole other_whole same d =
    let digests : fold digest_with start (d.front ++ changed ∷ d.back) ≡ fold digest_with start (d.front ++ one ∷ d.back) =
    ap (fold digest_with start) (sym d.there) ∙ sym (all-joined other) ∙ sym other_whole.1 ∙ same ∙ whole.1 ∙ all-joined table
    ∙ ap (fold digest_with start) d.here in
    same-between d.front d.back start changed one (omega arith) (subst AreSmall d.there d.other_each) (subst AreSmall d.here d.each) digests

pub same-content : (table other : FlatTable) → IsWhole table → IsWhole other → numbers_of other ≡ numbers_of table → other.digest ≡ table.digest
same-content table other whole other_whole same =
    other_whole.1 ∙ all-joined other ∙ ap (fold digest_with start) same ∙ sym (all-joined table) ∙ sym whole.1
