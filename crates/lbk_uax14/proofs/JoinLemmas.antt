-- What is said of the parts of a text, joined.
use Rattle.std.proofs.Common.{◌≡◌, ℕ, ◌+◌, Bool, true, false, cond, List, [], ◌∷◌, ◌++◌, map, length, encode_utf8}
use Rattle.std.proofs.Common.{encode_utf8_all, refl, sym, ap, ◌∙◌, append-nil, arith, length-append}
use Rattle.std.specs.List.{flat_map}
use Rattle.std.proofs.lemmas.Bool.{false≢true}
use Rattle.std.proofs.lemmas.List.{map-append}
use Rattle.lbk_uax14.specs.declared.breaks.Break.{Break}
use Rattle.lbk_uax14.specs.declared.cells.Cell.{Cell}
use Rattle.lbk_uax14.specs.declared.verdicts.Kind.TheVariants.{Must}
use Rattle.lbk_uax14.specs.declared.verdicts.Rule.{Rule}
use Rattle.lbk_values.specs.declared.profile.Profile.{Profile}
use Rattle.lbk_uax14.specs.Breaks.{break_by, breaks, breaks_from, is_no}
use Rattle.lbk_uax14.specs.Ends.{end_of_text}
use Rattle.lbk_uax14.specs.Joins.{AreParts, breaks_before, breaks_in, by_rule, end_before_more, marks_in, moved}
use Rattle.lbk_uax14.specs.Joins.{must_end_between, of_parts, with_last}
use Rattle.lbk_uax14.specs.Marks.{Marked, ended, marks, scalars_of, text_of}
use Rattle.lbk_uax14.proofs.MarkLemmas.{end_before_more-last, last-marks, marks-joined, must_end_between-last}
use Rattle.lbk_uax14.proofs.MarkLemmas.{scalars-behind, scalars-ended}

-- Of two parts, and of many

-- what is said of two texts joined is said of the first before more, and of the second at its place
abbrev pub JoinsTwo : {X : Type 0} → (ℕ → Cell) → (ℕ → Bool → List ℕ → List X) → Type 0
JoinsTwo cell say = (at : ℕ) (first second : List ℕ) → must_end_between cell first second ≡ true
    → say at false (first ++ second) ≡ say at true first ++ say (at + length (encode_utf8_all first)) false second

-- what follows the first scalar of the second tells nothing of the end between them
must_end_between-more : (cell : ℕ → Cell) (first second more : List ℕ) → must_end_between cell first second ≡ true
    → must_end_between cell first (second ++ more) ≡ true
must_end_between-more cell [] second more ends = ends
must_end_between-more cell (c ∷ []) [] more ends = absurd (false≢true ends)
must_end_between-more cell (c ∷ []) (d ∷ ds) more ends = ends
must_end_between-more cell (c ∷ e ∷ es) second more ends = must_end_between-more cell (e ∷ es) second more ends

pub joined-parts : {X : Type 0} (cell : ℕ → Cell) (say : ℕ → Bool → List ℕ → List X) → JoinsTwo cell say
    → ((at : ℕ) → say at false [] ≡ []) → (at : ℕ) (parts : List (List ℕ)) → AreParts cell parts
    → say at false (flat_map (λ part. part) parts) ≡ of_parts say at parts
joined-parts cell say two none at [] are = none at
joined-parts cell say two none at (part ∷ []) are = ap (say at false) (append-nil part)
joined-parts cell say two none at (part ∷ next ∷ parts) are =
    two at part (flat_map (λ p. p) (next ∷ parts))
    (must_end_between-more cell part next (flat_map (λ p. p) parts) are.0)
    ∙ ap (λ l. say at true part ++ l) (joined-parts cell say two none (at + length (encode_utf8_all part))
    (next ∷ parts) are.1)

-- Marks

pub joined-marks : (profile : Profile) (cell : ℕ → Cell) (first second : List ℕ)
    → must_end_between cell first second ≡ true
    → marks profile cell (first ++ second) ≡ marks_in profile cell true first ++ marks profile cell second
joined-marks profile cell [] second ends = absurd (false≢true ends)
joined-marks profile cell (c ∷ []) [] ends = absurd (false≢true ends)
joined-marks profile cell (c ∷ d ∷ ds) [] ends = absurd (none c (d ∷ ds) ends)
  where
    none : (c : ℕ) (cs : List ℕ) → must_end_between cell (c ∷ cs) [] ≡ true → ⊥
    none c [] ends = false≢true ends
    none c (d ∷ ds) ends = none d ds ends
joined-marks profile cell (c ∷ cs) (y ∷ more) ends =
    marks-joined profile cell c cs y more (sym (must_end_between-last profile cell c cs y more) ∙ ends)
    ∙ ap (λ v. ended v (marks profile cell (c ∷ cs)) ++ marks profile cell (y ∷ more))
    (sym (end_before_more-last profile cell c cs))

pub joined-marks_of_parts : (profile : Profile) (cell : ℕ → Cell) (parts : List (List ℕ)) → AreParts cell parts
    → marks profile cell (flat_map (λ part. part) parts) ≡ of_parts (λ at. marks_in profile cell) 0 parts
joined-marks_of_parts profile cell parts are =
    joined-parts cell (λ at. marks_in profile cell)
    (λ at first second ends. joined-marks profile cell first second ends) (λ at. refl) 0 parts are

-- The last of a list

pub with_last-snoc : {A : Type 0} (change : A → A) (xs : List A) (x : A)
    → with_last change (xs ++ x ∷ []) ≡ xs ++ change x ∷ []
with_last-snoc change [] x = refl
with_last-snoc change (a ∷ []) x = refl
with_last-snoc change (a ∷ b ∷ xs) x = ap (λ l. a ∷ l) (with_last-snoc change (b ∷ xs) x)

-- Breaks

pub breaks-joined : (at : ℕ) (xs ys : List Marked)
    → breaks_from at (xs ++ ys) ≡ breaks_from at xs ++ breaks_from (at + length (text_of xs)) ys
breaks-joined at [] ys = ap (λ n. breaks_from n ys) (let same : at ≡ at + 0 = omega arith in same)
breaks-joined at (m ∷ ms) ys =
    let end = at + length (encode_utf8 m.scalar) in
    let place : end + length (text_of ms) ≡ at + length (text_of (m ∷ ms)) =
    omega (arith, length-append (encode_utf8 m.scalar) (text_of ms)) in
    let rest = breaks-joined end ms ys ∙ ap (λ n. breaks_from end ms ++ breaks_from n ys) place in
    elim (is_no m.after.kind)
    as (λ k. cond k (breaks_from end (ms ++ ys)) (break_by end m.after ∷ breaks_from end (ms ++ ys))
    ≡ cond k (breaks_from end ms) (break_by end m.after ∷ breaks_from end ms)
    ++ breaks_from (at + length (text_of (m ∷ ms))) ys)
    [ true ↦ rest | false ↦ ap (λ l. break_by end m.after ∷ l) rest ]

breaks-moved : (bytes at : ℕ) (ms : List Marked) → breaks_from (bytes + at) ms ≡ map (moved bytes) (breaks_from at ms)
breaks-moved bytes at [] = refl
breaks-moved bytes at (m ∷ ms) =
    let end = at + length (encode_utf8 m.scalar) in
    let there = bytes + at + length (encode_utf8 m.scalar) in
    let place : there ≡ bytes + end = omega arith in
    elim (is_no m.after.kind)
    as (λ k. cond k (breaks_from there ms) (break_by there m.after ∷ breaks_from there ms)
    ≡ map (moved bytes) (cond k (breaks_from end ms) (break_by end m.after ∷ breaks_from end ms))) [
      | true ↦ ap (λ n. breaks_from n ms) place ∙ breaks-moved bytes end ms
      | false ↦ ap (λ n. break_by n m.after ∷ breaks_from n ms) place
          ∙ ap (λ l. break_by (bytes + end) m.after ∷ l) (breaks-moved bytes end ms)
    ]

-- the last break of some marks, by the verdict after the last of them
record LastBreak (at : ℕ) (m : Marked) (ms : List Marked) : Type 0 where
  front : List Break
  end : ℕ
  is : (rule : Rule) → breaks_from at (ended (record { kind = Must; rule = rule }) (m ∷ ms))
      ≡ front ++ break_by end (record { kind = Must; rule = rule }) ∷ []

last_break : (at : ℕ) (m : Marked) (ms : List Marked) → LastBreak at m ms
last_break at m [] = record { front = []; end = at + length (encode_utf8 m.scalar); is = λ rule. refl }
last_break at m (n ∷ ms) =
    let end = at + length (encode_utf8 m.scalar) in
    let rest = last_break end n ms in
    record {
      front = cond (is_no m.after.kind) rest.front (break_by end m.after ∷ rest.front);
      end = rest.end;
      is = λ rule. elim (is_no m.after.kind)
          as (λ k. cond k (breaks_from end (ended (record { kind = Must; rule = rule }) (n ∷ ms)))
          (break_by end m.after ∷ breaks_from end (ended (record { kind = Must; rule = rule }) (n ∷ ms)))
          ≡ cond k rest.front (break_by end m.after ∷ rest.front)
          ++ break_by rest.end (record { kind = Must; rule = rule }) ∷ [])
          [ true ↦ rest.is rule | false ↦ ap (λ l. break_by end m.after ∷ l) (rest.is rule) ];
    }

breaks-ended : (at : ℕ) (rule was : Rule) (ms : List Marked)
    → breaks_from at (ended (record { kind = Must; rule = rule }) ms)
    ≡ with_last (by_rule rule) (breaks_from at (ended (record { kind = Must; rule = was }) ms))
breaks-ended at rule was [] = refl
breaks-ended at rule was (m ∷ ms) =
    let last = last_break at m ms in
    last.is rule ∙ sym (ap (with_last (by_rule rule)) (last.is was)
    ∙ with_last-snoc (by_rule rule) last.front (break_by last.end (record { kind = Must; rule = was })))

pub end_before_more-must : (cell : ℕ → Cell) (c : ℕ) (cs : List ℕ)
    → end_before_more cell (c ∷ cs) ≡ record { kind = Must; rule = (end_before_more cell (c ∷ cs)).rule }
end_before_more-must cell c [] = refl
end_before_more-must cell c (d ∷ ds) = end_before_more-must cell d ds

breaks-before_more : (profile : Profile) (cell : ℕ → Cell) (part : List ℕ)
    → breaks_from 0 (marks_in profile cell true part) ≡ breaks_before profile cell true part
breaks-before_more profile cell [] = refl
breaks-before_more profile cell (c ∷ cs) =
    let ms = marks profile cell (c ∷ cs) in
    let rule = (end_before_more cell (c ∷ cs)).rule in
    ap (λ v. breaks_from 0 (ended v ms)) (end_before_more-must cell c cs)
    ∙ breaks-ended 0 rule end_of_text.rule ms
    ∙ ap (λ l. with_last (by_rule rule) (breaks_from 0 l)) (sym (last-marks profile cell [] c cs))

scalars-in : (profile : Profile) (cell : ℕ → Cell) (part : List ℕ) → scalars_of (marks_in profile cell true part) ≡ part
scalars-in profile cell part = scalars-ended (end_before_more cell part) (marks profile cell part)
    ∙ scalars-behind profile cell [] part

pub map-moved : (a b : ℕ) (bs : List Break) → map (moved a) (map (moved b) bs) ≡ map (moved (a + b)) bs
map-moved a b [] = refl
map-moved a b (x ∷ bs) =
    let place : a + (b + x.at) ≡ (a + b) + x.at = omega arith in
    ap (λ n. record { at = n; kind = x.kind; rule = x.rule } ∷ map (moved a) (map (moved b) bs)) place
    ∙ ap (λ l. moved (a + b) x ∷ l) (map-moved a b bs)

-- from a place on
joined-breaks_behind : (profile : Profile) (cell : ℕ → Cell) (first second : List ℕ)
    → must_end_between cell first second ≡ true
    → breaks profile cell (first ++ second) ≡ breaks_before profile cell true first
    ++ map (moved (length (encode_utf8_all first))) (breaks profile cell second)
joined-breaks_behind profile cell first second ends =
    let ms = marks_in profile cell true first in
    let bytes = length (encode_utf8_all first) in
    let place : 0 + length (text_of ms) ≡ bytes + 0 =
    omega (arith, ap (λ l. length (encode_utf8_all l)) (scalars-in profile cell first)) in
    ap (breaks_from 0) (joined-marks profile cell first second ends)
    ∙ breaks-joined 0 ms (marks profile cell second)
    ∙ ap (λ l. l ++ breaks_from (0 + length (text_of ms)) (marks profile cell second))
    (breaks-before_more profile cell first)
    ∙ ap (λ n. breaks_before profile cell true first ++ breaks_from n (marks profile cell second)) place
    ∙ ap (λ l. breaks_before profile cell true first ++ l) (breaks-moved bytes 0 (marks profile cell second))

joins-breaks : (profile : Profile) (cell : ℕ → Cell) → JoinsTwo cell (breaks_in profile cell)
joins-breaks profile cell at first second ends =
    ap (map (moved at)) (joined-breaks_behind profile cell first second ends)
    ∙ map-append (moved at) (breaks_before profile cell true first) _
    ∙ ap (λ l. breaks_in profile cell at true first ++ l)
    (map-moved at (length (encode_utf8_all first)) (breaks profile cell second))

pub map-moved-none : (bs : List Break) → map (moved 0) bs ≡ bs
map-moved-none [] = refl
map-moved-none (x ∷ bs) =
    let place : 0 + x.at ≡ x.at = omega arith in
    ap (λ n. record { at = n; kind = x.kind; rule = x.rule } ∷ map (moved 0) bs) place
    ∙ ap (λ l. x ∷ l) (map-moved-none bs)

pub joined-breaks : (profile : Profile) (cell : ℕ → Cell) (first second : List ℕ)
    → must_end_between cell first second ≡ true
    → breaks profile cell (first ++ second) ≡ breaks_before profile cell true first ++ breaks_in profile cell
    (length (encode_utf8_all first)) false second
joined-breaks = joined-breaks_behind

pub joined-breaks_of_parts : (profile : Profile) (cell : ℕ → Cell) (parts : List (List ℕ)) → AreParts cell parts
    → breaks profile cell (flat_map (λ part. part) parts) ≡ of_parts (breaks_in profile cell) 0 parts
joined-breaks_of_parts profile cell parts are =
    sym (map-moved-none (breaks profile cell (flat_map (λ part. part) parts)))
    ∙ joined-parts cell (breaks_in profile cell) (joins-breaks profile cell) (λ at. refl) 0 parts are
