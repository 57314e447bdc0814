-- What holds of chunks by their definition.
use Rattle.std.proofs.Common.{◌≡◌, ℕ, zero, suc, ◌+◌, ◌-◌, ◌<◌, ◌≤◌, ◌⊎◌, inl, inr, ⊎_elim, Bool, true, false, not, ◌&&◌, ◌*◌, cond, nat_le, nat_lt, List, [], ◌∷◌, length, Option, Some, None, refl, sym, ap, subst, ◌∙◌, arith}
use Rattle.std.specs.Prelude.{find}
use Rattle.std.specs.List.{list_all}
use Rattle.std.specs.Option.{unwrap_or}
use Rattle.std.proofs.lemmas.Bool.Decides.{nat_tests}
use Rattle.lbk_chunks.specs.declared.chunk.Chunk.{Chunk}
use Rattle.lbk_chunks.specs.declared.chunk.Limits.{Limits}
use Rattle.lbk_chunks.specs.declared.cut.Cut.{Cut}
use Rattle.lbk_chunks.specs.declared.chunk.Here.{Here}
use Rattle.lbk_chunks.specs.Chunks.{AreChunks, after, chunk_to, cuts_past, end_of, fits, fitting, is_early, last_early, last_of, may_start, start_among, start_at, start_before}
use Rattle.lbk_chunks.specs.Cuts.{AreCutsPast}
use Rattle.lbk_chunks.specs.Laws.{AreJoined, AreWithin, BeginsUnfit, IsFull, IsWithin, StartsRise, last_end}
use Rattle.lbk_chunks.proofs.CutLemmas.{past-all, past-before, past-past, past-rising}
use Rattle.lbk_chunks.proofs.StartLemmas.{after-apart}

-- what is told behind a chunk
told-among : (end : Cut) (found : Option Cut) → (start_among end found).told ≡ end.at
told-among end None = refl
told-among end (Some c) = refl

told-by : (l : Limits) (cuts : List Cut) (h : Here) (end : Cut) (behind : List Cut) → (start_before l cuts h end behind).told ≡ end.at
told-by l cuts h end [] = refl
told-by l cuts h end (next ∷ more) = told-among end (find (may_start l h end next) (cuts_past h.start cuts))

pub after-told : (l : Limits) (cuts : List Cut) (h : Here) (end : Cut) → (after l cuts h end).told ≡ end.at
after-told l cuts h end = told-by l cuts h end (cuts_past end.at cuts)

-- a chunk does not end before the first cut ahead
last-from : (from : ℕ) (c : Cut) (cs : List Cut) → from ≤ c.at → AreCutsPast c.at cs → from ≤ (last_of c cs).at
last-from from c [] below past = below
last-from from c (d ∷ ds) below past = last-from from d ds (omega (arith, past.0)) past.1

fitting-by : (b : Bool) (at : ℕ) (c : Cut) (cs : List Cut) → at < c.at → AreCutsPast c.at cs → AreCutsPast at (cond b (c ∷ cs) [])
fitting-by true at c cs below past = (below, past)
fitting-by false at c cs below past = tt

fitting-rising : (l : Limits) (h : Here) (at : ℕ) (cs : List Cut) → AreCutsPast at cs → AreCutsPast at (fitting l h cs)
fitting-rising l h at [] past = past
fitting-rising l h at (c ∷ cs) past = fitting-by (fits l h c) at c (fitting l h cs) past.0 (fitting-rising l h c.at cs past.1)

abbrev Placed : ℕ → Option Cut → Type 0
Placed from None = Unit {0}
Placed from (Some c) = from ≤ c.at

placed-by : (b : Bool) (from : ℕ) (c : Cut) (found : Option Cut) → from ≤ c.at → Placed from found → Placed from (cond b (Some c) found)
placed-by true from c found below placed = below
placed-by false from c found below placed = placed

early-from : (l : Limits) (h : Here) (from at : ℕ) (found : Option Cut) (cs : List Cut) → from ≤ at → Placed from found → AreCutsPast at cs → Placed from (last_early l h found cs)
early-from l h from at found [] below placed past = placed
early-from l h from at found (c ∷ cs) below placed past =
    early-from l h from c.at (cond (is_early l h c) (Some c) found) cs (omega (arith, past.0)) (placed-by (is_early l h c) from c found (omega (arith, past.0)) placed) past.1

or-from : (from : ℕ) (found : Option Cut) (d : Cut) → Placed from found → from ≤ d.at → from ≤ (unwrap_or found d).at
or-from from None d placed below = below
or-from from (Some c) d placed below = placed

cond-from : (b : Bool) (from : ℕ) (x y : Cut) → from ≤ x.at → from ≤ y.at → from ≤ (cond b x y).at
cond-from true from x y first second = first
cond-from false from x y first second = second

pub end-from : (l : Limits) (h : Here) (first : Cut) (more : List Cut) → AreCutsPast first.at more → first.at ≤ (end_of l h first more).at
end-from l h first more past =
    let good = fitting-rising l h first.at more past in
    let full = last-from first.at first (fitting l h more) (omega arith) good in
    let early = early-from l h first.at first.at (cond (is_early l h first) (Some first) None) (fitting l h more) (omega arith)
    (placed-by (is_early l h first) first.at first None (omega arith) tt) good in
    let found = last_early l h None (first ∷ fitting l h more) in
    cond-from (not (fits l h first)) first.at first
    (cond (list_all (fits l h) more) (last_of first more) (unwrap_or found (last_of first (fitting l h more)))) (omega arith)
    (cond-from (list_all (fits l h) more) first.at (last_of first more) (unwrap_or found (last_of first (fitting l h more)))
    (last-from first.at first more (omega arith) past)
    (or-from first.at found (last_of first (fitting l h more)) early full))

-- so fewer cuts are ahead
fewer-by : (b : Bool) (c : Cut) (cs fewer : List Cut) → length fewer ≤ length cs → length (cond b fewer (c ∷ cs)) ≤ suc (length cs)
fewer-by true c cs fewer few = omega arith
fewer-by false c cs fewer few = omega arith

past-fewer : (at : ℕ) (cs : List Cut) → length (cuts_past at cs) ≤ length cs
past-fewer at [] = omega arith
past-fewer at (c ∷ cs) = fewer-by (nat_le c.at at) c cs (cuts_past at cs) (past-fewer at cs)

pub fewer : (told to : ℕ) (first : Cut) (more cuts : List Cut) → cuts_past told cuts ≡ first ∷ more → told ≤ to → first.at ≤ to → length (cuts_past to cuts) ≤ length more
fewer told to first more cuts joined below behind =
    let same : cuts_past to cuts ≡ cuts_past to more = sym (past-past told to cuts below) ∙ ap (cuts_past to) joined ∙ past-before to first more behind in
    omega (arith, ap length same, past-fewer to more)

exist-at : (n : ℕ) (l : Limits) (cuts : List Cut) (h : Here) (ahead : List Cut) → AreCutsPast 0 cuts → cuts_past h.told cuts ≡ ahead → length ahead ≤ n
    → (chunks : List Chunk) × AreChunks l cuts h chunks
exist-at n l cuts h [] rising is few = ([], is)
exist-at zero l cuts h (first ∷ more) rising is few = absurd (omega arith)
exist-at (suc n) l cuts h (first ∷ more) rising is few =
    let end = end_of l h first more in
    let next = after l cuts h end in
    let past = subst (AreCutsPast h.told) is (past-rising 0 h.told cuts rising) in
    let behind = end-from l h first more past.1 in
    let same = after-told l cuts h end in
    let rest = exist-at n l cuts next (cuts_past next.told cuts) rising refl
    (omega (arith, fewer h.told next.told first more cuts is (omega (arith, past.0, behind, same)) (omega (arith, behind, same)))) in
    (chunk_to l h end ∷ rest.0, (first, more, is, refl, rest.1))

pub chunks-exist : (l : Limits) (cuts : List Cut) (h : Here) → AreCutsPast 0 cuts → (chunks : List Chunk) × AreChunks l cuts h chunks
chunks-exist l cuts h rising = exist-at (length (cuts_past h.told cuts)) l cuts h (cuts_past h.told cuts) rising refl (omega arith)

pub chunks-whole : (l : Limits) (cuts : List Cut) (h : Here) (chunks : List Chunk) → AreChunks l cuts h chunks → cuts_past (last_end h.told chunks) cuts ≡ []
chunks-whole l cuts h [] are = are
chunks-whole l cuts h (c ∷ cs) are =
    let end = end_of l h are.0 are.1 in
    let ends : (after l cuts h end).told ≡ c.end = after-told l cuts h end ∙ ap (λ (x : Chunk). x.end) (sym are.3) in
    subst (λ n. cuts_past (last_end n cs) cuts ≡ []) ends (chunks-whole l cuts (after l cuts h end) cs are.4)

within-by : (l : Limits) (h : Here) (end : Cut) (b : Bool) → fits l h end ≡ b → IsWithin l (chunk_to l h end)
within-by l h end false is = inl (ap not is)
within-by l h end true is = inr (fits-means l h end is)
  where
    fits-means : (l : Limits) (h : Here) (end : Cut) → fits l h end ≡ true → (end.at ≤ h.start + l.most) × ((l.words ≡ 0) ⊎ (end.words - h.words ≤ l.words))
    fits-means l h end is = grind (arith, nat_tests)

pub chunks-within : (l : Limits) (cuts : List Cut) (h : Here) (chunks : List Chunk) → AreChunks l cuts h chunks → AreWithin l chunks
chunks-within l cuts h [] are = tt
chunks-within l cuts h (c ∷ cs) are =
    let end = end_of l h are.0 are.1 in
    (subst (IsWithin l) (sym are.3) (within-by l h end (fits l h end) refl), chunks-within l cuts (after l cuts h end) cs are.4)

pub chunks-joined : (l : Limits) (cuts : List Cut) (h : Here) (chunks : List Chunk) → l.overlap ≡ 0 → AreChunks l cuts h chunks → AreJoined h.start chunks
chunks-joined l cuts h [] none are = tt
chunks-joined l cuts h (c ∷ cs) none are =
    let end = end_of l h are.0 are.1 in
    let starts : (after l cuts h end).start ≡ c.end =
    ap (λ (x : Here). x.start) (after-apart l cuts h end (cuts_past end.at cuts) none) ∙ ap (λ (x : Chunk). x.end) (sym are.3) in
    (ap (λ (x : Chunk). x.start) are.3, subst (λ n. AreJoined n cs) starts (chunks-joined l cuts (after l cuts h end) cs none are.4))

-- the next chunk starts past this one's start
found-past : (at : ℕ) (p : Cut → Bool) (cs : List Cut) → AreCutsPast at cs → Placed (suc at) (find p cs)
found-past at p [] past = tt
found-past at p (c ∷ cs) past = found-by (p c) at c (find p cs) past.0 (raised (find p cs) (found-past c.at p cs past.1))
  where
    raised : (found : Option Cut) → Placed (suc c.at) found → Placed (suc at) found
    raised None placed = tt
    raised (Some d) placed = omega (arith, past.0, placed)

    found-by : (b : Bool) (at : ℕ) (c : Cut) (found : Option Cut) → at < c.at → Placed (suc at) found → Placed (suc at) (cond b (Some c) found)
    found-by true at c found below placed = omega arith
    found-by false at c found below placed = placed

start-among : (at : ℕ) (end : Cut) (found : Option Cut) → at < end.at → Placed (suc at) found → at < (start_among end found).start
start-among at end None below placed = below
start-among at end (Some c) below placed = omega (arith, placed)

pub start-by : (l : Limits) (cuts : List Cut) (h : Here) (end : Cut) (behind : List Cut) → AreCutsPast 0 cuts → h.start < end.at → h.start < (start_before l cuts h end behind).start
start-by l cuts h end [] rising below = below
start-by l cuts h end (next ∷ more) rising below =
    start-among h.start end (find (may_start l h end next) (cuts_past h.start cuts)) below
    (found-past h.start (may_start l h end next) (cuts_past h.start cuts) (past-rising 0 h.start cuts rising))

start-told-among : (end : Cut) (p : Cut → Bool) (cs : List Cut) → ((c : Cut) → p c ≡ true → c.at ≤ end.at) → (start_among end (find p cs)).start ≤ end.at
start-told-among end p [] each = omega arith
start-told-among end p (c ∷ cs) each = by-test (p c) refl (start-told-among end p cs each)
  where
    by-test : (b : Bool) → p c ≡ b → (start_among end (find p cs)).start ≤ end.at → (start_among end (cond b (Some c) (find p cs))).start ≤ end.at
    by-test true is more = each c is
    by-test false is more = more

pub start-told : (l : Limits) (cuts : List Cut) (h : Here) (end : Cut) (behind : List Cut) → (start_before l cuts h end behind).start ≤ end.at
start-told l cuts h end [] = omega arith
start-told l cuts h end (next ∷ more) = start-told-among end (may_start l h end next) (cuts_past h.start cuts) (λ c may. below c (nat_lt c.at end.at) refl may)
  where
    below : (c : Cut) (b : Bool) → nat_lt c.at end.at ≡ b
        → (b && (nat_le (end.at - c.at) l.overlap && (nat_le (2 * (end.at - c.at)) (end.at - h.start) && fits l (start_at c end.at) next))) ≡ true → c.at ≤ end.at
    below c true is may = (let h : c.at < end.at = grind (arith, nat_tests) in omega arith)
    below c false is may = absurd (let no : ⊥ = cc in no)

pub chunks-start-past : (l : Limits) (cuts : List Cut) (h : Here) (c : Chunk) (cs : List Chunk) → AreCutsPast 0 cuts → h.start ≤ h.told → AreChunks l cuts h (c ∷ cs) → StartsRise c.start cs
chunks-start-past l cuts h c [] rising below are = tt
chunks-start-past l cuts h c (d ∷ ds) rising below are =
    let end = end_of l h are.0 are.1 in
    let next = after l cuts h end in
    let past = subst (AreCutsPast h.told) are.2 (past-rising 0 h.told cuts rising) in
    let ends = end-from l h are.0 are.1 past.1 in
    let first : c.start ≡ h.start = ap (λ (x : Chunk). x.start) are.3 in
    let second : d.start ≡ next.start = ap (λ (x : Chunk). x.start) are.4.3 in
    let rises = start-by l cuts h end (cuts_past end.at cuts) rising (omega (arith, past.0, ends)) in
    let told = after-told l cuts h end in (
      omega (arith, rises, first, second),
      chunks-start-past l cuts next d ds rising (omega (arith, told, start-told l cuts h end (cuts_past end.at cuts))) are.4,
    )

-- what is behind a cut
behind-next : (at : ℕ) (c : Cut) (cs cuts : List Cut) → at < c.at → AreCutsPast c.at cs → cuts_past at cuts ≡ c ∷ cs → cuts_past c.at cuts ≡ cs
behind-next at c cs cuts below past is =
    sym (past-past at c.at cuts (omega arith)) ∙ ap (cuts_past c.at) is ∙ past-before c.at c cs (omega arith) ∙ past-all c.at c.at cs (omega arith) past

-- all fit
whole-full : (c : Cut) (cs cuts : List Cut) → AreCutsPast c.at cs → cuts_past c.at cuts ≡ cs → cuts_past (last_of c cs).at cuts ≡ []
whole-full c [] cuts past is = is
whole-full c (d ∷ ds) cuts past is = whole-full d ds cuts past.1 (behind-next c.at d ds cuts past.0 past.1 is)

-- those in front fit
full-by : (l : Limits) (h : Here) (c : Cut) (cs cuts : List Cut) → AreCutsPast c.at cs → cuts_past c.at cuts ≡ cs
    → (cuts_past (last_of c (fitting l h cs)).at cuts ≡ []) ⊎ BeginsUnfit l h (cuts_past (last_of c (fitting l h cs)).at cuts)
full-by l h c [] cuts past is = inl is
full-by l h c (d ∷ ds) cuts past is =
    by-test (fits l h d) refl (full-by l h d ds cuts past.1 (behind-next c.at d ds cuts past.0 past.1 is))
  where
    by-test : (b : Bool) → fits l h d ≡ b → (cuts_past (last_of d (fitting l h ds)).at cuts ≡ []) ⊎ BeginsUnfit l h (cuts_past (last_of d (fitting l h ds)).at cuts)
        → (cuts_past (last_of c (cond b (d ∷ fitting l h ds) [])).at cuts ≡ []) ⊎ BeginsUnfit l h (cuts_past (last_of c (cond b (d ∷ fitting l h ds) [])).at cuts)
    by-test true fit more = more
    by-test false fit more = inr (subst (BeginsUnfit l h) (sym is) fit)

-- what was found is an early end
abbrev IsEarly : Limits → Here → Option Cut → Type 0
IsEarly l h None = Unit {0}
IsEarly l h (Some c) = is_early l h c ≡ true

early-is : (l : Limits) (h : Here) (found : Option Cut) (cs : List Cut) → IsEarly l h found → IsEarly l h (last_early l h found cs)
early-is l h found [] early = early
early-is l h found (c ∷ cs) early = early-is l h (cond (is_early l h c) (Some c) found) cs (by-test (is_early l h c) refl)
  where
    by-test : (b : Bool) → is_early l h c ≡ b → IsEarly l h (cond b (Some c) found)
    by-test true is = is
    by-test false is = early

or-full : (l : Limits) (h : Here) (cuts : List Cut) (found : Option Cut) (d : Cut) → IsEarly l h found → IsFull l cuts h d → IsFull l cuts h (unwrap_or found d)
or-full l h cuts None d early full = full
or-full l h cuts (Some c) d early full = inr (inl early)

cond-full : (l : Limits) (h : Here) (cuts : List Cut) (b : Bool) (x y : Cut) → IsFull l cuts h x → IsFull l cuts h y → IsFull l cuts h (cond b x y)
cond-full l h cuts true x y first second = first
cond-full l h cuts false x y first second = second

pub chunks-full : (l : Limits) (cuts : List Cut) (h : Here) (first : Cut) (more : List Cut) → AreCutsPast 0 cuts → cuts_past h.told cuts ≡ first ∷ more
    → fits l h first ≡ true → IsFull l cuts h (end_of l h first more)
chunks-full l cuts h first more rising is fit =
    let past = subst (AreCutsPast h.told) is (past-rising 0 h.told cuts rising) in
    let behind = behind-next h.told first more cuts past.0 past.1 is in
    let found = last_early l h None (first ∷ fitting l h more) in
    let full = last_of first (fitting l h more) in
    let split : IsFull l cuts h full = ⊎_elim (λ (none : cuts_past full.at cuts ≡ []). inl none) (λ (unfit : BeginsUnfit l h (cuts_past full.at cuts)). inr (inr unfit))
    (full-by l h first more cuts past.1 behind) in
    subst (λ (b : Bool). IsFull l cuts h (cond (not b) first (cond (list_all (fits l h) more) (last_of first more) (unwrap_or found full)))) (sym fit)
    (cond-full l h cuts (list_all (fits l h) more) (last_of first more) (unwrap_or found full)
    (inl (whole-full first more cuts past.1 behind))
    (or-full l h cuts found full (early-is l h None (first ∷ fitting l h more) tt) split))
