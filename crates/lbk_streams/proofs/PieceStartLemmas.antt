-- Where the pieces of a text begin.
use Rattle.std.proofs.Common.{◌≡◌, ℕ, ◌+◌, ◌-◌, ◌<◌, ◌≤◌, true, List, [], ◌∷◌, ◌++◌, length, take, drop, slice_index, refl, sym, ap, subst, ◌∙◌, ⊎_elim, append_assoc, arith, length-drop, length-take-le, get_or-take}
use Rattle.std.proofs.lemmas.Bool.{cases_lt, false≢true}
use Rattle.std.proofs.lemmas.List.{append-nil, drop-drop, drop-take, take-take}
use Rattle.std.proofs.Math.Seq.{drop-length, take-length}
use Rattle.bstr.specs.Utf8.{Decoded, IsLastPiece, continues, decoded, decoded_by, pieces, second}
use Rattle.bstr.proofs.lemmas.PieceLemmas.{by-shape, decoded_by-cut, pieces-nil, pieces-sizes, pieces-step, size-bounds, size-within, sizes}
use Rattle.bstr.proofs.lemmas.SoundLemmas.{IsLastPiece-decoded}
use Rattle.lbk_streams.specs.Cuts.{IsPieceStart}
use Rattle.lbk_bytes.proofs.PieceLemmas.{pieces-on}

-- A piece whose bytes are cut

-- two bytes of three or four, and three of four, are one piece
short : (k b c d e : ℕ) → 2 ≤ k → k < 4 → 0xE0 ≤ b → b ≤ 0xF4 → second b c ≡ true → (2 < k → 0xF0 ≤ b) → (2 < k → continues d ≡ true)
    → (decoded_by k b c d e).size ≡ k
short k b c d e some few low high follows lead third = by-shape k b c d e
    (λ h. absurd (omega arith))
    (λ h. absurd (omega arith))
    (λ h. absurd (omega arith))
    (λ h. absurd (omega arith))
    (λ h. absurd (omega arith))
    (λ h. absurd (false≢true (sym h.3 ∙ follows)))
    (λ h. absurd (omega arith))
    (λ h. let size = ap (λ p. p.size) h.5 in omega arith)
    (λ h. absurd (false≢true (sym h.4 ∙ third (omega arith))))
    (λ h. absurd (let least = lead (omega arith) in omega arith))
    (λ h. let size = ap (λ p. p.size) h.6 in omega arith)
    (λ h. absurd (omega arith))
    (λ h. absurd (omega arith))

module _ (k n b c d e c' d' e' : ℕ) (some : 0 < k) (below : k < (decoded_by n b c d e).size) (c_is : 1 < k → c' ≡ c) (d_is : 2 < k → d' ≡ d) where
  one : k < 2 → (decoded_by k b c' d' e').size ≡ k
  one few = let bounds = size-bounds k b c' d' e' some in omega arith

  more : 0xE0 ≤ b → b ≤ 0xF4 → second b c ≡ true → k < 4 → (2 < k → 0xF0 ≤ b) → (2 < k → continues d ≡ true) → (decoded_by k b c' d' e').size ≡ k
  more low high follows few lead third =
      ⊎_elim one (λ some. short k b c' d' e' some few low high (ap (second b) (c_is (omega arith)) ∙ follows) lead (λ long. ap continues (d_is long) ∙ third long))
      (cases_lt k 2)

  -- some first bytes of a piece are one piece
  decoded_by-short : (decoded_by k b c' d' e').size ≡ k
  decoded_by-short = by-shape n b c d e
      (λ h. let size = ap (λ p. p.size) h.1 in absurd (omega arith))
      (λ h. let size = ap (λ p. p.size) h.2 in absurd (omega arith))
      (λ h. let size = ap (λ p. p.size) h.3 in absurd (omega arith))
      (λ h. let size = ap (λ p. p.size) h.2 in absurd (omega arith))
      (λ h. let size = ap (λ p. p.size) h.4 in absurd (omega arith))
      (λ h. let size = ap (λ p. p.size) h.4 in absurd (omega arith))
      (λ h. let size = ap (λ p. p.size) h.4 in one (omega arith))
      (λ h. let size = ap (λ p. p.size) h.5 in one (omega arith))
      (λ h. let size = ap (λ p. p.size) h.5 in one (omega arith))
      (λ h. let size = ap (λ p. p.size) h.5 in more h.1 (omega arith) h.3 (omega arith) (λ long. absurd (omega arith)) (λ long. absurd (omega arith)))
      (λ h. let size = ap (λ p. p.size) h.6 in more (omega arith) h.2 h.3 (omega arith) (λ _. h.1) (λ _. h.4))
      (λ h. let size = ap (λ p. p.size) h.6 in more (omega arith) h.2 h.3 (omega arith) (λ _. h.1) (λ _. h.4))
      (λ h. let size = ap (λ p. p.size) h.6 in more (omega arith) h.2 h.3 (omega arith) (λ _. h.1) (λ _. h.4))

-- what follows a piece may go
pub decoded-take : (bs : List ℕ) (k : ℕ) → 0 < k → k ≤ length bs → (decoded bs).size ≤ k → decoded (take k bs) ≡ decoded bs
decoded-take bs k some within fits =
    let t = take k bs in
    let at : (i : ℕ) → i < k → slice_index t i ≡ slice_index bs i = λ i l. get_or-take k bs i 0 l in
    subst (λ v. decoded_by v (slice_index t 0) (slice_index t 1) (slice_index t 2) (slice_index t 3) ≡ decoded bs) (sym (length-take-le k bs within))
    (subst (λ v. decoded_by k v (slice_index t 1) (slice_index t 2) (slice_index t 3) ≡ decoded bs) (sym (at 0 some))
    (decoded_by-cut k (length bs) (slice_index bs 0) (slice_index bs 1) (slice_index bs 2) (slice_index bs 3)
    (slice_index t 1) (slice_index t 2) (slice_index t 3) fits within some (at 1) (at 2) (at 3)))

-- and of a piece some of its bytes
decoded-short : (bs : List ℕ) (k : ℕ) → 0 < k → k < (decoded bs).size → (decoded (take k bs)).size ≡ k
decoded-short bs k some below =
    let t = take k bs in
    let fits = size-within bs in
    let within : k ≤ length bs = omega arith in
    let at : (i : ℕ) → i < k → slice_index t i ≡ slice_index bs i = λ i l. get_or-take k bs i 0 l in
    subst (λ v. (decoded_by v (slice_index t 0) (slice_index t 1) (slice_index t 2) (slice_index t 3)).size ≡ k) (sym (length-take-le k bs within))
    (subst (λ v. (decoded_by k v (slice_index t 1) (slice_index t 2) (slice_index t 3)).size ≡ k) (sym (at 0 some))
    (decoded_by-short k (length bs) (slice_index bs 0) (slice_index bs 1) (slice_index bs 2) (slice_index bs 3)
    (slice_index t 1) (slice_index t 2) (slice_index t 3) some below (at 1) (at 2)))

-- Pieces of the front of a text

pub sizes-append : (xs ys : List Decoded) → sizes (xs ++ ys) ≡ sizes xs + sizes ys
unfolding sizes
sizes-append [] ys = let same : sizes ys ≡ 0 + sizes ys = omega arith in same
sizes-append (x ∷ xs) ys =
    let rest = sizes-append xs ys in
    let same : x.size + sizes (xs ++ ys) ≡ x.size + sizes xs + sizes ys = omega arith in same

pub sizes-pieces : (bs : List ℕ) → sizes (pieces bs) ≡ length bs
sizes-pieces bs = pieces-sizes (length bs) bs (let same : length bs ≤ length bs = omega arith in same)

pub sizes-front : (text : List ℕ) (place : ℕ) → place ≤ length text → sizes (pieces (take place text)) ≡ place
sizes-front text place within = sizes-pieces (take place text) ∙ length-take-le place text within

pieces-some : (bs : List ℕ) (p : Decoded) (ps : List Decoded) → pieces bs ≡ p ∷ ps → 0 < length bs
pieces-some [] p ps is = absurd (let none = sym pieces-nil ∙ is in let no : ⊥ = cc in no)
pieces-some (b ∷ bs) p ps is = omega arith

pieces-some_last : (bs : List ℕ) (ps : List Decoded) (p : Decoded) → pieces bs ≡ ps ++ p ∷ [] → 0 < length bs
pieces-some_last bs [] p is = pieces-some bs p [] is
pieces-some_last bs (q ∷ ps) p is = pieces-some bs q (ps ++ p ∷ []) is

-- the first of some pieces, and the others
record Begins (bs : List ℕ) (p : Decoded) (ps : List Decoded) : Type 0 where
  some : 0 < length bs
  first : decoded bs ≡ p
  others : pieces (drop p.size bs) ≡ ps

begins : (bs : List ℕ) (p : Decoded) (ps : List Decoded) → pieces bs ≡ p ∷ ps → Begins bs p ps
begins bs p ps is =
    let some = pieces-some bs p ps is in
    let both = sym (pieces-step bs some) ∙ is in
    let first : decoded bs ≡ p = cc in
    let others : pieces (drop (decoded bs).size bs) ≡ ps = cc in
    record { some = some; first = first; others = ap (λ (q : Decoded). pieces (drop q.size bs)) (sym first) ∙ others }

-- cut between two pieces, a text has the pieces before the cut, and those behind it
pub pieces-cut : (xs ys : List Decoded) (bs : List ℕ) → pieces bs ≡ xs ++ ys → pieces (take (sizes xs) bs) ≡ xs
unfolding sizes
pieces-cut [] ys bs is = pieces-nil
pieces-cut (x ∷ xs) ys bs is =
    let b = begins bs x (xs ++ ys) is in
    let size : (decoded bs).size ≡ x.size = ap (λ p. p.size) b.first in
    let bounds = size-bounds (length bs) (slice_index bs 0) (slice_index bs 1) (slice_index bs 2) (slice_index bs 3) b.some in
    let total = sym (sizes-pieces bs) ∙ ap sizes is in
    let parts = sizes-append xs ys in
    let k = x.size + sizes xs in
    let within : k ≤ length bs = omega arith in
    let first : decoded (take k bs) ≡ x = decoded-take bs k (omega arith) within (omega arith) ∙ b.first in
    let some : 0 < length (take k bs) = omega (arith, length-take-le k bs within) in
    pieces-step (take k bs) some
    ∙ ap (λ p. p ∷ pieces (drop p.size (take k bs))) first
    ∙ ap (λ l. x ∷ pieces l) (drop-take x.size (sizes xs) bs)
    ∙ ap (λ l. x ∷ l) (pieces-cut xs ys (drop x.size bs) b.others)

-- all pieces of the front of a text but the last are pieces of the text
pieces-front : (xs : List Decoded) (r : Decoded) (k : ℕ) (bs : List ℕ) → k ≤ length bs → pieces (take k bs) ≡ xs ++ r ∷ []
    → pieces bs ≡ xs ++ pieces (drop (sizes xs) bs)
unfolding sizes
pieces-front [] r k bs within is = refl
pieces-front (x ∷ xs) r k bs within is =
    let b = begins (take k bs) x (xs ++ r ∷ []) is in
    let long = length-take-le k bs within in
    let size : (decoded (take k bs)).size ≡ x.size = ap (λ p. p.size) b.first in
    let more = pieces-some_last (drop x.size (take k bs)) xs r b.others in
    let left = length-drop x.size (take k bs) in
    let less : x.size < k = omega arith in
    let same : decoded bs ≡ x =
    ⊎_elim
    (λ over. absurd (let short = decoded-short bs k (omega arith) over in let no : ⊥ = omega arith in no))
    (λ fits. sym (decoded-take bs k (omega arith) within fits) ∙ b.first)
    (cases_lt k (decoded bs).size) in
    let split : x.size + (k - x.size) ≡ k = omega arith in
    let rest : drop x.size (take k bs) ≡ take (k - x.size) (drop x.size bs) =
    ap (λ n. drop x.size (take n bs)) (sym split) ∙ drop-take x.size (k - x.size) bs in
    let on = pieces-front xs r (k - x.size) (drop x.size bs) (omega (arith, length-drop x.size bs)) (ap pieces (sym rest) ∙ b.others) in
    let some : 0 < length bs = omega arith in
    pieces-step bs some
    ∙ ap (λ (p : Decoded). p ∷ pieces (drop p.size bs)) same
    ∙ ap (λ l. x ∷ l) on
    ∙ ap (λ l. x ∷ (xs ++ pieces l)) (drop-drop (sizes xs) x.size bs)

-- Where a piece begins

module _ (text : List ℕ) (end : ℕ) (r : Decoded) (within : end ≤ length text) (last : IsLastPiece (take end text) r) where
  last-at : length (take end text) - r.size ≡ end - r.size
  last-at = ap (λ n. n - r.size) (length-take-le end text within)

  -- the last piece of the front of a text is cut from what begins there
  last-cut : r ≡ decoded (take r.size (drop (end - r.size) text))
  last-cut =
      let t = take end text in
      let long = length-take-le end text within in
      let fits = last.fits in
      let start = end - r.size in
      let split : start + r.size ≡ end = omega arith in
      let cut : drop (length t - r.size) t ≡ take r.size (drop start text) =
      ap (λ n. drop n t) last-at ∙ ap (λ n. drop start (take n text)) (sym split) ∙ drop-take start r.size text in
      IsLastPiece-decoded t r last ∙ ap decoded cut

  pub last-begins : IsPieceStart text (end - r.size)
  last-begins =
      let t = take end text in
      let start = end - r.size in
      let front : take (length t - r.size) t ≡ take start text =
      ap (λ n. take n t) last-at ∙ take-take start end text (omega arith) in
      let splits : pieces t ≡ pieces (take start text) ++ r ∷ [] = last.splits ∙ ap (λ l. pieces l ++ r ∷ []) front in
      pieces-front (pieces (take start text)) r end text within splits
      ∙ ap (λ n. pieces (take start text) ++ pieces (drop n text)) (sizes-front text start (omega arith))

  pub last-holds : end ≤ (end - r.size) + (decoded (drop (end - r.size) text)).size
  last-holds =
      let long = length-take-le end text within in
      let fits = last.fits in
      let some = last.some in
      let start = end - r.size in
      let left = length-drop start text in
      ⊎_elim
      (λ less. absurd (
      let whole = decoded-take (drop start text) r.size some (omega arith) (omega arith) in
      let size = ap (λ (p : Decoded). p.size) (last-cut ∙ whole) in
      let no : ⊥ = omega arith in no))
      (λ more. omega arith)
      (cases_lt (decoded (drop start text)).size r.size)

-- the piece that begins there is the next one, and where it ends another begins
pub record StartsNext (text : List ℕ) (place : ℕ) : Type 0 where
  pub begins : IsPieceStart text (place + (decoded (drop place text)).size)
  pub front : pieces (take (place + (decoded (drop place text)).size) text) ≡ pieces (take place text) ++ decoded (drop place text) ∷ []

pub starts_next : (text : List ℕ) (place : ℕ) → place < length text → IsPieceStart text place → StartsNext text place
unfolding sizes
starts_next text place inside starts =
    let q = decoded (drop place text) in
    let before = pieces (take place text) in
    let behind = pieces (drop (place + q.size) text) in
    let is : pieces text ≡ (before ++ q ∷ []) ++ behind =
    starts ∙ ap (λ l. before ++ l) (pieces-on text place inside) ∙ sym (append_assoc before (q ∷ []) behind) in
    let few = sizes-front text place (let le : place ≤ length text = omega arith in le) in
    let size : sizes (before ++ q ∷ []) ≡ place + q.size = let parts = sizes-append before (q ∷ []) in omega arith in
    let front : pieces (take (place + q.size) text) ≡ before ++ q ∷ [] =
    ap (λ n. pieces (take n text)) (sym size) ∙ pieces-cut (before ++ q ∷ []) behind text is in
    record { begins = is ∙ ap (λ l. l ++ behind) (sym front); front = front }

-- no piece begins within another
passes : (xs zs ys ws : List Decoded) (q : Decoded) → xs ++ zs ≡ ys ++ q ∷ ws → sizes ys < sizes xs → sizes ys + q.size ≤ sizes xs
unfolding sizes
passes [] zs ys ws q is less = absurd (omega arith)
passes (x ∷ xs) zs [] ws q is less =
    let first : x ≡ q = cc in
    let size = ap (λ (p : Decoded). p.size) first in
    omega arith
passes (x ∷ xs) zs (y ∷ ys) ws q is less =
    let first : x ≡ y = cc in
    let rest : xs ++ zs ≡ ys ++ q ∷ ws = cc in
    let size = ap (λ (p : Decoded). p.size) first in
    let on = passes xs zs ys ws q rest (omega arith) in
    omega arith

pub none-within : (text : List ℕ) (start place : ℕ) → start < length text → place ≤ length text → IsPieceStart text start → IsPieceStart text place → start < place
    → start + (decoded (drop start text)).size ≤ place
none-within text start place inside within starts begins later =
    let q = decoded (drop start text) in
    let one = sizes-front text start (let le : start ≤ length text = omega arith in le) in
    let other = sizes-front text place within in
    let passed = passes (pieces (take place text)) (pieces (drop place text)) (pieces (take start text)) (pieces (drop (start + q.size) text)) q
    (sym begins ∙ starts ∙ ap (λ l. pieces (take start text) ++ l) (pieces-on text start inside)) (omega arith) in
    omega arith

-- the last piece before one is a piece of the text
pub last-whole : (text : List ℕ) (end : ℕ) (r : Decoded) → end ≤ length text → IsPieceStart text end → IsLastPiece (take end text) r
    → r ≡ decoded (drop (end - r.size) text)
last-whole text end r within starts last =
    let long = length-take-le end text within in
    let fits = last.fits in
    let some = last.some in
    let start = end - r.size in
    let left = length-drop start text in
    let least = none-within text start end (omega arith) within (last-begins text end r within last) starts (omega arith) in
    last-cut text end r within last ∙ decoded-take (drop start text) r.size some (omega arith) (omega arith)

-- a piece begins at the start of a text, and its end counts as such a place
pub starts_first : (text : List ℕ) → IsPieceStart text 0
starts_first text = sym (ap (λ l. l ++ pieces text) pieces-nil)

pub starts_last : (text : List ℕ) → IsPieceStart text (length text)
starts_last text =
    sym (ap (λ l. pieces l ++ pieces (drop (length text) text)) (take-length text)
    ∙ ap (λ l. pieces text ++ pieces l) (drop-length text)
    ∙ ap (λ l. pieces text ++ l) pieces-nil
    ∙ append-nil (pieces text))
