-- What is far from a place tells nothing of it.
use Rattle.std.proofs.Common.{◌≡◌, ◌⊎◌, ◌↔◌, ℕ, zero, suc, ◌+◌, ◌-◌, ◌<◌, ◌≤◌, true, false, min, List, [], ◌∷◌, ◌++◌, length, take, drop, slice_index, refl, sym, ap, subst, ◌∙◌, inl, inr, ⊎_elim, append-nil, arith, length-append, length-drop, length-take-le}
use Rattle.std.proofs.lemmas.Bool.{cases_Bool, cases_eq, cases_lt, false≢true}
use Rattle.std.proofs.lemmas.List.{drop-append-le, get_or-append-add, take-append-le, take_at}
use lib.Seq.{drop-append-add, take-append-add}
use Rattle.bstr.specs.Utf8.{Decoded, IsLastPiece, bad, continues, decoded, lossy_chars, or_replacement}
use Rattle.bstr.proofs.lemmas.PieceLemmas.{IsLastPiece-short_at, IsLastPiece-tail, IsLastPiece-whole_at, lossy_chars-last, lossy_chars-nil, lossy_chars-step, piece-bounds}
use Rattle.lbk_rules.specs.declared.Cell.{Cell}
use Rattle.lbk_rules.specs.Ends.{ends_between}
use Rattle.lbk_rules.specs.Joins.{must_end_between}
use Rattle.lbk_streams.specs.Cuts.{EndsBefore, HasNear, IsCutAfter, IsCutBefore, IsPieceStart, IsSafeCut}
use Rattle.lbk_streams.proofs.JoinLemmas.{must_end_between-later}
use Rattle.lbk_streams.proofs.PieceStartLemmas.{decoded-take, last-begins, last-whole, starts_next}

-- The last piece of some bytes

-- the last byte of a few that continues no scalar, if there is one
last_clean : (bs : List ℕ) (few : ℕ) → few ≤ length bs
    → ((k : ℕ) → length bs - few ≤ k → k < length bs → continues (slice_index bs k) ≡ true)
    ⊎ ((q : ℕ) × (length bs - few ≤ q) × (q < length bs) × (continues (slice_index bs q) ≡ false) × ((k : ℕ) → q < k → k < length bs → continues (slice_index bs k) ≡ true))
last_clean bs zero le = inl (λ k low high. absurd (let no : ⊥ = omega arith in no))
last_clean bs (suc few) le =
    let q = length bs - suc few in
    ⊎_elim
    (λ all. ⊎_elim
    (λ yes. inl (λ k low high. ⊎_elim
    (λ same. subst (λ j. continues (slice_index bs j) ≡ true) (sym same) yes)
    (λ other. all k (omega arith) high)
    (cases_eq k q)))
    (λ no. inr (q, omega arith, omega arith, no, λ k low high. all k (omega arith) high))
    (cases_Bool (continues (slice_index bs q))))
    (λ found. inr (found.0, omega (arith, found.1), found.2, found.3, found.4))
    (last_clean bs few (omega arith))

-- a piece that is the last of some bytes, and of these behind others
record Last (xs ys : List ℕ) : Type 0 where
  piece : Decoded
  alone : IsLastPiece ys piece
  behind : IsLastPiece (xs ++ ys) piece

module _ (xs ys : List ℕ) (some : 0 < length ys) (enough : (xs ≡ []) ⊎ (4 ≤ length ys)) where
  low : (k : ℕ) → length ys - 4 ≤ k → length (xs ++ ys) - 4 ≤ length xs + k
  low k few = ⊎_elim
      (λ none. let no = ap length none in omega (arith, length-append xs ys))
      (λ four. omega (arith, length-append xs ys))
      enough

  past : (k : ℕ) → length (xs ++ ys) - 4 ≤ k → length xs ≤ k
  past k few = ⊎_elim
      (λ none. let no = ap length none in omega arith)
      (λ four. omega (arith, length-append xs ys))
      enough

  continues-behind : (k : ℕ) → length xs ≤ k → continues (slice_index ys (k - length xs)) ≡ true → continues (slice_index (xs ++ ys) k) ≡ true
  continues-behind k behind is =
      let place : length xs + (k - length xs) ≡ k = omega arith in
      subst (λ n. continues (slice_index (xs ++ ys) n) ≡ true) place (ap continues (get_or-append-add xs ys (k - length xs) 0) ∙ is)

  last-continues : ((k : ℕ) → length ys - 4 ≤ k → k < length ys → continues (slice_index ys k) ≡ true) → Last xs ys
  last-continues all =
      let long = length-append xs ys in
      record {
        piece = bad 1;
        alone = IsLastPiece-tail ys some all;
        behind = IsLastPiece-tail (xs ++ ys) (omega arith) (λ k few less.
            let over = past k few in
            continues-behind k over (all (k - length xs) (omega arith) (omega arith)));
      }

  last-clean : (q : ℕ) → length ys - 4 ≤ q → q < length ys → continues (slice_index ys q) ≡ false
      → ((k : ℕ) → q < k → k < length ys → continues (slice_index ys k) ≡ true) → Last xs ys
  last-clean q few less clean all =
      let long = length-append xs ys in
      let at = length xs + q in
      let same : drop at (xs ++ ys) ≡ drop q ys = drop-append-add xs ys q in
      let below : at < length (xs ++ ys) = omega arith in
      let after : (k : ℕ) → at < k → k < length (xs ++ ys) → continues (slice_index (xs ++ ys) k) ≡ true =
      λ k more under. continues-behind k (omega arith) (all (k - length xs) (omega arith) (omega arith)) in
      let clean_there : continues (slice_index (xs ++ ys) at) ≡ false = ap continues (get_or-append-add xs ys q 0) ∙ clean in
      let size : (decoded (drop at (xs ++ ys))).size ≡ (decoded (drop q ys)).size = ap (λ bs. (decoded bs).size) same in
      ⊎_elim
      (λ whole. record {
        piece = decoded (drop q ys);
        alone = IsLastPiece-whole_at ys q less few all (λ _. clean) whole;
        behind = subst (λ p. IsLastPiece (xs ++ ys) p) (ap decoded same)
            (IsLastPiece-whole_at (xs ++ ys) at below (low q few) after (λ _. clean_there) (omega arith));
      })
      (λ short. record {
        piece = bad 1;
        alone = IsLastPiece-short_at ys q less few all (λ _. clean) short;
        behind = IsLastPiece-short_at (xs ++ ys) at below (low q few) after (λ _. clean_there) (λ whole. short (omega arith));
      })
      (cases_eq (decoded (drop q ys)).size (length ys - q))

  last_of : Last xs ys
  last_of = ⊎_elim
      (λ all. last-continues (λ k few less. all k (omega arith) less))
      (λ found. last-clean found.0 (let from = found.1 in omega arith) found.2 found.3 found.4)
      (last_clean ys (min 4 (length ys)) (omega arith))

-- What begins with some bytes

module _ (bs more : List ℕ) (enough : (more ≡ []) ⊎ (4 ≤ length bs)) where
  decoded-front : decoded (bs ++ more) ≡ decoded bs
  decoded-front = ⊎_elim
      (λ none. ap (λ l. decoded (bs ++ l)) none ∙ ap decoded (append-nil bs))
      (λ four.
      let long = length-append bs more in
      let bounds = piece-bounds (bs ++ more) (omega arith) in
      sym (decoded-take (bs ++ more) (length bs) (omega arith) (omega arith) (omega (arith, bounds.1)))
      ∙ ap decoded (take_at bs more (length bs) refl))
      enough

  ends-front : (cell : ℕ → Cell) (c : ℕ) → must_end_between cell (c ∷ []) (lossy_chars (bs ++ more)) ≡ must_end_between cell (c ∷ []) (lossy_chars bs)
  ends-front cell c = ⊎_elim
      (λ none. ap (λ l. must_end_between cell (c ∷ []) (lossy_chars (bs ++ l))) none ∙ ap (λ l. must_end_between cell (c ∷ []) (lossy_chars l)) (append-nil bs))
      (λ four.
      ap (must_end_between cell (c ∷ [])) (lossy_chars-step (bs ++ more) (omega (arith, length-append bs more)))
      ∙ ap (λ (p : Decoded). ends_between (cell c).class (cell (or_replacement p.char)).class) decoded-front
      ∙ sym (ap (must_end_between cell (c ∷ [])) (lossy_chars-step bs (omega arith))))
      enough

-- What tells that a line must end before a byte

-- the piece before it ends there, and what follows it is no part of the same line end
record Told (cell : ℕ → Cell) (text : List ℕ) (place : ℕ) (r : Decoded) : Type 0 where
  whole : decoded (drop (place - r.size) text) ≡ r
  ends : must_end_between cell (or_replacement r.char ∷ []) (lossy_chars (drop place text)) ≡ true

module _ (cell : ℕ → Cell) (text : List ℕ) (place : ℕ) (r : Decoded) (within : place ≤ length text) (last : IsLastPiece (take place text) r) where
  by-last : must_end_between cell (lossy_chars (take place text)) (lossy_chars (drop place text))
      ≡ must_end_between cell (or_replacement r.char ∷ []) (lossy_chars (drop place text))
  by-last =
      ap (λ cs. must_end_between cell cs (lossy_chars (drop place text))) (lossy_chars-last (take place text) r last)
      ∙ must_end_between-later cell (lossy_chars (take (length (take place text) - r.size) (take place text))) (or_replacement r.char ∷ [])
      (lossy_chars (drop place text)) (omega arith)

  told : EndsBefore cell text place → Told cell text place r
  told ends = record { whole = sym (last-whole text place r within ends.0 last); ends = sym by-last ∙ ends.1 }

  ends-told : Told cell text place r → EndsBefore cell text place
  ends-told t =
      let long = length-take-le place text within in
      let fits = last.fits in
      let some = last.some in
      let start = place - r.size in
      let next = starts_next text start (omega arith) (last-begins text place r within last) in
      let size = ap (λ (p : Decoded). p.size) t.whole in
      let end : start + (decoded (drop start text)).size ≡ place = omega arith in
      (subst (λ n. IsPieceStart text n) end next.begins, by-last ∙ t.ends)

none-at_start : (cell : ℕ → Cell) (text : List ℕ) (place : ℕ) → place ≡ 0 → EndsBefore cell text place → ⊥
none-at_start cell text place none ends =
    false≢true (sym (ap (λ n. must_end_between cell (lossy_chars (take n text)) (lossy_chars (drop n text))) none
    ∙ ap (λ cs. must_end_between cell cs (lossy_chars text)) lossy_chars-nil) ∙ ends.1)

-- The bytes near a place

module _ (cell : ℕ → Cell) (before near after : List ℕ) where
  abbrev pub text : List ℕ
  text = before ++ (near ++ after)

  long : length text ≡ length before + (length near + length after)
  long = omega (arith, length-append before (near ++ after), length-append near after)

  module _ (place : ℕ) (has : HasNear before near after place place) (within : place ≤ length near) where
    abbrev pub there : ℕ
    there = length before + place

    front : take there text ≡ before ++ take place near
    front = take-append-add before (near ++ after) place ∙ ap (λ l. before ++ l) (take-append-le place near after within)

    from : (n : ℕ) → n ≤ length near → drop (length before + n) text ≡ drop n near ++ after
    from n few = drop-append-add before (near ++ after) n ∙ drop-append-le n near after few

    enough : (n : ℕ) → n ≤ place → (after ≡ []) ⊎ (4 ≤ length (drop n near))
    enough n few = ⊎_elim inl (λ four. inr (omega (arith, length-drop n near))) has.end

    module _ (r : Decoded) (fits : r.size ≤ place) where
      whole-near : decoded (drop (there - r.size) text) ≡ decoded (drop (place - r.size) near)
      whole-near =
          let at : there - r.size ≡ length before + (place - r.size) = omega arith in
          ap (λ n. decoded (drop n text)) at
          ∙ ap decoded (from (place - r.size) (omega arith))
          ∙ decoded-front (drop (place - r.size) near) after (enough (place - r.size) (omega arith))

      ends-near_at : must_end_between cell (or_replacement r.char ∷ []) (lossy_chars (drop there text))
          ≡ must_end_between cell (or_replacement r.char ∷ []) (lossy_chars (drop place near))
      ends-near_at =
          ap (λ bs. must_end_between cell (or_replacement r.char ∷ []) (lossy_chars bs)) (from place within)
          ∙ ends-front (drop place near) after (enough place (omega arith)) cell (or_replacement r.char)

    ends-near : EndsBefore cell text there ↔ EndsBefore cell near place
    ends-near = ⊎_elim
        (λ none.
        let first : there ≡ 0 = ⊎_elim (λ no. let none_before = ap length no in omega arith) (λ four. absurd (let no : ⊥ = omega arith in no)) has.start in
        (λ ends. absurd (none-at_start cell text there first ends), λ ends. absurd (none-at_start cell near place none ends)))
        (λ some.
        let size = length-take-le place near within in
        let l = last_of before (take place near) (omega arith) (⊎_elim inl (λ four. inr (omega arith)) has.start) in
        let last : IsLastPiece (take there text) l.piece = subst (λ bs. IsLastPiece bs l.piece) (sym front) l.behind in
        let most = l.alone.fits in
        let fits : l.piece.size ≤ place = omega arith in
        let inside : there ≤ length text = omega (arith, long) in (
          λ ends. let t = told cell text there l.piece inside last ends in
              ends-told cell near place l.piece within l.alone (record {
                whole = sym (whole-near l.piece fits) ∙ t.whole;
                ends = sym (ends-near_at l.piece fits) ∙ t.ends;
              }),
          λ ends. let t = told cell near place l.piece within l.alone ends in
              ends-told cell text there l.piece inside last (record {
                whole = whole-near l.piece fits ∙ t.whole;
                ends = ends-near_at l.piece fits ∙ t.ends;
              }),
        ))
        (cases_eq place 0)

    pub safe-near : IsSafeCut cell text there ↔ IsSafeCut cell near place
    safe-near = (
      ⊎_elim (λ start. inl (omega arith))
          (⊎_elim (λ end. inr (inl (omega (arith, long)))) (λ ends. inr (inr (ends-near.0 ends)))),
      ⊎_elim (λ start. inl (⊎_elim (λ none. let no = ap length none in omega arith) (λ four. absurd (let no : ⊥ = omega arith in no)) has.start))
          (⊎_elim (λ end. inr (inl (⊎_elim (λ none. let no = ap length none in omega (arith, long)) (λ four. absurd (let no : ⊥ = omega arith in no)) has.end)))
          (λ ends. inr (inr (ends-near.1 ends)))),
    )

  -- Cuts

  inside-near : (first last : ℕ) → HasNear before near after first last → length before + last ≤ length text → last ≤ length near
  inside-near first last has few = ⊎_elim (λ none. let no = ap length none in omega (arith, long)) (λ four. omega arith) has.end

  narrowed : (first last place : ℕ) → HasNear before near after first last → first ≤ place → place ≤ last → HasNear before near after place place
  narrowed first last place has low high = record {
    start = ⊎_elim inl (λ four. inr (omega arith)) has.start;
    end = ⊎_elim inl (λ four. inr (omega arith)) has.end;
  }

  safe-after : (at result : ℕ) → HasNear before near after at result → result ≤ length near → min at (length near) ≤ result
      → (IsSafeCut cell text (length before + result) ↔ IsSafeCut cell near result)
  safe-after at result has within behind = ⊎_elim
      (λ less.
      let end : length before + result ≡ length text =
      ⊎_elim (λ none. let no = ap length none in omega (arith, long)) (λ four. absurd (let no : ⊥ = omega arith in no)) has.end in
      (λ safe. inr (inl (omega arith)), λ safe. inr (inl end)))
      (λ more. safe-near result (narrowed at result result has more (let le : result ≤ result = omega arith in le)) within)
      (cases_lt result at)

  pub after-near : (at result : ℕ) → HasNear before near after at result
      → (IsCutAfter cell text (length before + at) (length before + result) ↔ IsCutAfter cell near at result)
  after-near at result has = (
    λ cut.
        let over = cut.behind in
        let within = inside-near at result has cut.within in
        let behind : min at (length near) ≤ result =
        ⊎_elim (λ none. let no = ap length none in omega (arith, long)) (λ four. omega (arith, long)) has.end in
        record {
          within = within;
          behind = behind;
          safe = (safe-after at result has within behind).0 cut.safe;
          least = λ place first less safe. cut.least (length before + place) (omega arith) (omega arith)
              ((safe-near place (narrowed at result place has first (omega arith)) (omega arith)).1 safe);
        },
    λ cut.
        let over = cut.behind in
        let within = cut.within in
        record {
          within = omega (arith, long);
          behind = ⊎_elim (λ none. let no = ap length none in omega (arith, long)) (λ four. omega (arith, long)) has.end;
          safe = (safe-after at result has within over).1 cut.safe;
          least = λ place first less safe.
              let k = place - length before in
              let same : place ≡ length before + k = omega arith in
              cut.least k (omega arith) (omega arith)
              ((safe-near k (narrowed at result k has (omega arith) (omega arith)) (omega arith)).0 (subst (λ n. IsSafeCut cell text n) same safe));
        },
  )

  first-near : (first last : ℕ) → HasNear before near after first last → first ≤ last → HasNear before near after first first
  first-near first last has order = narrowed first last first has (let le : first ≤ first = omega arith in le) order

  pub before-near : (at result : ℕ) → HasNear before near after result at
      → (IsCutBefore cell text (length before + at) (length before + result) ↔ IsCutBefore cell near at result)
  before-near at result has = (
    λ cut.
        let few = cut.before in
        let within : result ≤ length near =
        ⊎_elim (λ none. let no = ap length none in omega (arith, long)) (λ four. omega arith) has.end in
        record {
          before = omega arith;
          safe = (safe-near result (first-near result at has (omega arith)) within).0 cut.safe;
          greatest = λ place more last inside safe. cut.greatest (length before + place) (omega arith) (omega arith) (omega (arith, long))
              ((safe-near place (narrowed result at place has (omega arith) last) inside).1 safe);
        },
    λ cut.
        let few = cut.before in
        record {
          before = omega (arith, long);
          safe = (safe-near result (first-near result at has (omega arith)) (omega arith)).1 cut.safe;
          greatest = λ place more last inside safe.
              let k = place - length before in
              let same : place ≡ length before + k = omega arith in
              let within : k ≤ length near =
              ⊎_elim (λ none. let no = ap length none in omega (arith, long)) (λ four. omega arith) has.end in
              cut.greatest k (omega arith) (omega arith) within
              ((safe-near k (narrowed result at k has (omega arith) (omega arith)) within).0 (subst (λ n. IsSafeCut cell text n) same safe));
        },
  )

module _ (cell : ℕ → Cell) (text : List ℕ) (at first second : ℕ) where
  pub one-after : IsCutAfter cell text at first → IsCutAfter cell text at second → first ≡ second
  one-after one other =
      let from = one.behind in
      let to = other.behind in
      let end = one.within in
      let last = other.within in
      ⊎_elim
      (λ less. absurd (other.least first (omega arith) less one.safe))
      (λ more. ⊎_elim (λ less. absurd (one.least second (omega arith) less other.safe)) (λ same. omega arith) (cases_lt second first))
      (cases_lt first second)

  pub one-before : IsCutBefore cell text at first → IsCutBefore cell text at second → first ≡ second
  one-before one other =
      let up = one.before in
      let to = other.before in
      ⊎_elim
      (λ less. absurd (one.greatest second less (omega arith) (omega arith) other.safe))
      (λ more. ⊎_elim (λ less. absurd (other.greatest first less (omega arith) (omega arith) one.safe)) (λ same. omega arith) (cases_lt second first))
      (cases_lt first second)
