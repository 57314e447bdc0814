-- The chunks that some first cuts settle, one after another.
use Rattle.std.proofs.Common.{◌≡◌, ◌⊎◌, inl, inr, ℕ, suc, zero, ◌<◌, ◌≤◌, ◌&&◌, not, Bool, true, false, cond, nat_le}
use Rattle.std.proofs.Common.{List, [], ◌∷◌, ◌++◌, length, append_assoc, append-nil, length-append, refl, sym, ap, ap₂}
use Rattle.std.proofs.Common.{subst, ◌∙◌, arith}
use Rattle.std.proofs.lemmas.Bool.{false≢true}
use Rattle.std.specs.List.{list_all}
use Rattle.std.specs.Option.{unwrap_or}
use Rattle.std.specs.Prelude.{None}
use Rattle.lbk_chunks.specs.declared.chunk.Chunk.{Chunk}
use Rattle.lbk_chunks.specs.declared.chunk.Limits.{Limits}
use Rattle.lbk_chunks.specs.declared.cut.Cut.{Cut}
use Rattle.lbk_chunks.specs.declared.chunk.Here.{Here}
use Rattle.lbk_chunks.specs.Chunks.{AreChunks, after, chunk_to, cuts_past, end_of, fits, fitting, last_early, last_of}
use Rattle.lbk_chunks.specs.Chunks.{text_start}
use Rattle.lbk_chunks.specs.Cuts.{AreCutsPast}
use Rattle.lbk_chunks.proofs.CutLemmas.{cuts-from, past-all, past-past, past-rising}
use Rattle.lbk_chunks.proofs.LawLemmas.{after-told, chunks-exist, end-from, fewer, start-by}
use Rattle.lbk_chunk_reader.specs.Choosing.{IsNextChunk, start_among_known}
use Rattle.lbk_chunk_reader.specs.Settled.{AreSettled, EndsLast, GoOn, IsOpen, Settle, SettleAll}
use Rattle.lbk_chunk_reader.proofs.StartingLemmas.{AreSome, next-among, next-chunks, next-told, past-more}

-- ---- nothing, one chunk, and one run behind another

pub settle-none : (l : Limits) (is_whole : Bool) (h : Here) (cuts : List Cut) → Settle l is_whole h cuts [] h cuts
settle-none l is_whole h cuts = record {
  go_on = λ more whole rising. record {
    left_are = sym (past-all h.start h.start (cuts ++ more) (omega arith) rising);
    rising = rising;
    forward = omega arith;
    told = λ below. below;
    come = λ later below are. are;
  };
  known = inr (inl (refl, refl));
}

go-one : (l : Limits) (h : Here) (cuts : List Cut) (chunk : Chunk) (next : Here) (left : List Cut)
    → AreCutsPast h.start cuts → h.start ≤ h.told
    → IsNextChunk l h cuts chunk next left → GoOn l h cuts (chunk ∷ []) next left
go-one l h cuts chunk next left rising below n =
    let end = end_of l h n.first n.more in
    let past = subst (AreCutsPast h.told) n.are (past-rising h.start h.told cuts rising) in
    let ends = end-from l h n.first n.more past.1 in
    let begins = start-by l cuts h end (cuts_past end.at cuts) (cuts-from 0 h.start cuts (omega arith) rising)
    (omega (arith, past.0, ends, below)) in
    let start = ap (λ (x : Here). x.start) n.goes_on in
    let told = next-told l h cuts chunk next left n in
    record {
      left_are = n.leaves;
      rising = subst (AreCutsPast next.start) (sym n.leaves) (past-rising h.start next.start cuts rising);
      forward = omega (arith, begins, start);
      told = λ _. told.0;
      come = λ later _ are. next-chunks l h cuts chunk next left later rising below n are;
    }

some-long : (cs : List Cut) → 0 < length cs → AreSome cs
some-long [] some = absurd (let none : ⊥ = omega (arith, some) in none)
some-long (c ∷ cs) some = tt

long-some : (cs : List Cut) → AreSome cs → 0 < length cs
long-some [] some = absurd some
long-some (c ∷ cs) some = omega arith

pub settle-one : (l : Limits) (is_whole : Bool) (h : Here) (cuts : List Cut) (chunk : Chunk) (next : Here)
    (left : List Cut) → h.start ≤ h.told
    → ((more : List Cut) → (is_whole ≡ true → more ≡ []) → AreCutsPast h.start (cuts ++ more)
    → IsNextChunk l h (cuts ++ more) chunk next (left ++ more))
    → (is_whole ≡ false → 0 < length (cuts_past next.told cuts)) → Settle l is_whole h cuts (chunk ∷ []) next left
settle-one l is_whole h cuts chunk next left below each behind = record {
  go_on = λ more whole rising. go-one l h (cuts ++ more) chunk next (left ++ more) rising below
      (each more whole rising);
  known = by is_whole refl;
}
  where
    by : (b : Bool) → is_whole ≡ b → (is_whole ≡ true)
        ⊎ (((chunk ∷ [] ≡ []) × (next ≡ h)) ⊎ (0 < length (cuts_past next.told cuts)))
    by true is = inl is
    by false is = inr (inr (behind is))

go-then : (l : Limits) (h : Here) (cuts : List Cut) (cs : List Chunk) (mid : Here) (between : List Cut)
    (ds : List Chunk) (next : Here) (left : List Cut)
    → GoOn l h cuts cs mid between → GoOn l mid between ds next left → GoOn l h cuts (cs ++ ds) next left
go-then l h cuts cs mid between ds next left first second = record {
  left_are = second.left_are ∙ ap (cuts_past next.start) first.left_are
      ∙ past-past mid.start next.start cuts second.forward;
  rising = second.rising;
  forward = (let a = first.forward in let b = second.forward in omega (arith, a, b));
  told = λ below. second.told (first.told below);
  come = λ later below are. subst (λ x. AreChunks l cuts h x) (sym (append_assoc cs ds later))
      (first.come (ds ++ later) below (second.come later (first.told below) are));
}

-- with the cuts that are known rising, and the start at what was told or before it
pub settle-then : (l : Limits) (is_whole : Bool) (h : Here) (cuts : List Cut) (cs : List Chunk) (mid : Here)
    (between : List Cut) (ds : List Chunk) (next : Here) (left : List Cut)
    → AreCutsPast h.start cuts → h.start ≤ h.told
    → Settle l is_whole h cuts cs mid between → Settle l is_whole mid between ds next left
    → Settle l is_whole h cuts (cs ++ ds) next left
settle-then l is_whole h cuts cs mid between ds next left rising below first second = record {
  go_on = λ more whole rises.
      let one = first.go_on more whole rises in
      go-then l h (cuts ++ more) cs mid (between ++ more) ds next (left ++ more) one
      (second.go_on more whole one.rising);
  known = by first.known second.known;
}
  where
    alone : AreCutsPast h.start (cuts ++ [])
    alone = subst (AreCutsPast h.start) (sym (append-nil cuts)) rising

    Known : Type 0
    Known = (is_whole ≡ true) ⊎ (((cs ++ ds ≡ []) × (next ≡ h)) ⊎ (0 < length (cuts_past next.told cuts)))

    by : (is_whole ≡ true) ⊎ (((cs ≡ []) × (mid ≡ h)) ⊎ (0 < length (cuts_past mid.told cuts)))
        → (is_whole ≡ true) ⊎ (((ds ≡ []) × (next ≡ mid)) ⊎ (0 < length (cuts_past next.told between)))
        → (is_whole ≡ true) ⊎ (((cs ++ ds ≡ []) × (next ≡ h)) ⊎ (0 < length (cuts_past next.told cuts)))
    by (inl whole) other = inl whole
    by (inr one) (inl whole) = inl whole
    by (inr (inl none)) (inr (inl nothing)) = inr (inl (ap₂ (λ x y. x ++ y) none.0 nothing.0, nothing.1 ∙ none.1))
    by (inr (inr some)) (inr (inl nothing)) =
        inr (inr (subst (λ (x : Here). 0 < length (cuts_past x.told cuts)) (sym nothing.1) some))
    by (inr one) (inr (inr some)) = inr (inr (more is_whole refl))
      where
        more : (b : Bool) → is_whole ≡ b → 0 < length (cuts_past next.told cuts)
        more b is =
            let first_on = first.go_on [] (λ _. refl) alone in
            let second_on = second.go_on [] (λ _. refl) first_on.rising in
            let forward = second_on.forward in
            let told = second_on.told (first_on.told below) in
            let left_is : between ≡ cuts_past mid.start cuts = sym (append-nil between) ∙ first_on.left_are
            ∙ ap (cuts_past mid.start) (append-nil cuts) in
            subst (λ x. 0 < length x) (ap (cuts_past next.told) left_is
            ∙ past-past mid.start next.told cuts (omega (arith, forward, told))) some

-- and then all from there on
pub settle-all : (l : Limits) (is_whole : Bool) (h : Here) (cuts : List Cut) (cs : List Chunk) (mid : Here)
    (between : List Cut) (ds : List Chunk)
    → AreCutsPast h.start cuts → h.start ≤ h.told
    → Settle l is_whole h cuts cs mid between → SettleAll l is_whole mid between ds
    → SettleAll l is_whole h cuts (cs ++ ds)
settle-all l true h cuts cs mid between ds rising below first are =
    let on = first.go_on [] (λ _. refl) (subst (AreCutsPast h.start) (sym (append-nil cuts)) rising) in
    subst (λ x. AreChunks l x h (cs ++ ds)) (append-nil cuts)
    (on.come ds below (subst (λ x. AreChunks l x mid ds) (sym (append-nil between)) are))
settle-all l false h cuts cs mid between ds rising below first are =
    (are.0, are.1, settle-then l false h cuts cs mid between ds are.0 are.1 rising below first are.2, are.3)

-- more cuts come
pub settle-more : (l : Limits) (h : Here) (cuts new : List Cut) (cs : List Chunk) (next : Here) (left : List Cut)
    → Settle l false h cuts cs next left
    → Settle l false h (cuts ++ new) cs next (left ++ new)
settle-more l h cuts new cs next left s = record {
  go_on = λ more _ rising.
      subst (λ x. GoOn l h x cs next ((left ++ new) ++ more)) (sym (append_assoc cuts new more))
      (subst (λ x. GoOn l h (cuts ++ (new ++ more)) cs next x) (sym (append_assoc left new more))
      (s.go_on (new ++ more) (λ unfit. absurd (false≢true unfit))
      (subst (AreCutsPast h.start) (append_assoc cuts new more) rising)));
  known = by s.known;
}
  where
    by : (false ≡ true) ⊎ (((cs ≡ []) × (next ≡ h)) ⊎ (0 < length (cuts_past next.told cuts)))
        → (false ≡ true) ⊎ (((cs ≡ []) × (next ≡ h)) ⊎ (0 < length (cuts_past next.told (cuts ++ new))))
    by (inl never) = inl never
    by (inr (inl none)) = inr (inl none)
    by (inr (inr some)) = inr (inr (
        let is = past-more next.told cuts new (inl (some-long (cuts_past next.told cuts) some)) in
        omega (arith, some, ap length is, length-append (cuts_past next.told cuts) new)))

-- ---- there are such chunks

-- where not all cuts that are known fit, more of them change nothing
all-front : (l : Limits) (h : Here) (xs ys : List Cut) → list_all (fits l h) xs ≡ false
    → list_all (fits l h) (xs ++ ys) ≡ false
all-front l h [] ys unfit = absurd (false≢true (sym unfit))
all-front l h (x ∷ xs) ys unfit = by (fits l h x) unfit (all-front l h xs ys)
  where
    by : (b : Bool) → (b && list_all (fits l h) xs) ≡ false
        → (list_all (fits l h) xs ≡ false → list_all (fits l h) (xs ++ ys) ≡ false)
        → (b && list_all (fits l h) (xs ++ ys)) ≡ false
    by true unfit rest = rest unfit
    by false unfit rest = refl

fitting-front : (l : Limits) (h : Here) (xs ys : List Cut) → list_all (fits l h) xs ≡ false
    → fitting l h (xs ++ ys) ≡ fitting l h xs
fitting-front l h [] ys unfit = absurd (false≢true (sym unfit))
fitting-front l h (x ∷ xs) ys unfit = by (fits l h x) unfit (fitting-front l h xs ys)
  where
    by : (b : Bool) → (b && list_all (fits l h) xs) ≡ false
        → (list_all (fits l h) xs ≡ false → fitting l h (xs ++ ys) ≡ fitting l h xs)
        → cond b (x ∷ fitting l h (xs ++ ys)) [] ≡ cond b (x ∷ fitting l h xs) []
    by true unfit rest = ap (λ t. x ∷ t) (rest unfit)
    by false unfit rest = refl

-- where a chunk ends, by whether the first cut fits and all others do, by those of them in front that fit, and by all
abbrev end_by : Limits → Here → Cut → Bool → Bool → List Cut → List Cut → Cut
end_by l h first b all good ds =
    cond (not b) first (cond all (last_of first ds)
    (unwrap_or (last_early l h None (first ∷ good)) (last_of first good)))

end-front : (l : Limits) (h : Here) (first : Cut) (known more : List Cut) → list_all (fits l h) (first ∷ known) ≡ false
    → end_of l h first known ≡ end_of l h first (known ++ more)
end-front l h first known more unfit = by (fits l h first) unfit
  where
    by : (b : Bool) → (b && list_all (fits l h) known) ≡ false
        → end_by l h first b (list_all (fits l h) known) (fitting l h known) known
        ≡ end_by l h first b (list_all (fits l h) (known ++ more)) (fitting l h (known ++ more)) (known ++ more)
    by false unfit = refl
    by true unfit =
        ap (λ (b : Bool). end_by l h first true b (fitting l h known) known) unfit
        ∙ ap (λ g. end_by l h first true false g (known ++ more)) (sym (fitting-front l h known more unfit))
        ∙ ap (λ (b : Bool). end_by l h first true b (fitting l h (known ++ more)) (known ++ more))
        (sym (all-front l h known more unfit))

front-past : (at : ℕ) (cs : List Cut) → (front : List Cut) × (cs ≡ front ++ cuts_past at cs)
front-past at [] = ([], refl)
front-past at (c ∷ cs) = by (nat_le c.at at) (front-past at cs)
  where
    by : (b : Bool) → (front : List Cut) × (cs ≡ front ++ cuts_past at cs)
        → (front : List Cut) × (c ∷ cs ≡ front ++ cond b (cuts_past at cs) (c ∷ cs))
    by true rest = (c ∷ rest.0, ap (λ t. c ∷ t) rest.1)
    by false rest = ([], refl)

module _ (l : Limits) (h : Here) (cuts : List Cut) (first : Cut) (known : List Cut) (below : h.start ≤ h.told)
    (rising : AreCutsPast h.start cuts)
    (ahead : cuts_past h.told cuts ≡ first ∷ known) (unfit : list_all (fits l h) (first ∷ known) ≡ false)
    (some : AreSome (cuts_past (end_of l h first known).at cuts)) where
  abbrev end : Cut
  end = end_of l h first known

  abbrev told : List Cut
  told = (front-past (end_of l h first known).at cuts).0

  pub then : Here
  then = start_among_known l h end (cuts_past end.at cuts) told

  pub rest : List Cut
  rest = cuts_past then.start cuts

  pub step : (more : List Cut) → (false ≡ true → more ≡ []) → AreCutsPast h.start (cuts ++ more)
      → IsNextChunk l h (cuts ++ more) (chunk_to l h end) then (rest ++ more)
  unfolding then rest
  step more whole rises =
      next-among l h cuts more rises (chunk_to l h end) end false (cuts_past end.at cuts) told then rest
      (record { first = first; known = known; are = ahead; ends = λ later _. end-front l h first known later unfit })
      whole refl (front-past end.at cuts).1 (inl some) refl refl refl

abbrev ending : Limits → Here → List Cut → ℕ
ending l h [] = 0
ending l h (c ∷ cs) = (end_of l h c cs).at

exist-at : (n : ℕ) (l : Limits) (h : Here) (cuts ahead : List Cut) → AreCutsPast h.start cuts → h.start ≤ h.told
    → cuts_past h.told cuts ≡ ahead → length ahead ≤ n
    → (chunks : List Chunk) × SettleAll l false h cuts chunks
exist-at n l h cuts [] rising below is few =
    ([], (h, cuts, settle-none l false h cuts, inl (ap (list_all (fits l h)) is)))
exist-at zero l h cuts (first ∷ known) rising below is few = absurd (let none : ⊥ = omega (arith, few) in none)
exist-at (suc n) l h cuts (first ∷ known) rising below is few =
    by (list_all (fits l h) (first ∷ known)) refl (cuts_past (end_of l h first known).at cuts) refl
    (λ (h2 : Here) (cuts2 : List Cut). exist-at n l h2 cuts2 (cuts_past h2.told cuts2))
  where
    none : IsOpen l h cuts → (chunks : List Chunk) × SettleAll l false h cuts chunks
    none open_here = ([], (h, cuts, settle-none l false h cuts, open_here))

    by : (b : Bool) → list_all (fits l h) (first ∷ known) ≡ b → (behind : List Cut)
        → cuts_past (end_of l h first known).at cuts ≡ behind
        → ((h2 : Here) (cuts2 : List Cut) → AreCutsPast h2.start cuts2 → h2.start ≤ h2.told
        → cuts_past h2.told cuts2 ≡ cuts_past h2.told cuts2 → length (cuts_past h2.told cuts2) ≤ n
        → (chunks : List Chunk) × SettleAll l false h2 cuts2 chunks) → (chunks : List Chunk)
        × SettleAll l false h cuts chunks
    by true all behind last again = none (inl (ap (list_all (fits l h)) is ∙ all))
    by false unfit [] last again = none (inr (subst (EndsLast l h cuts) (sym is) last))
    by false unfit (c ∷ cs) last again =
        let some : AreSome (cuts_past (end_of l h first known).at cuts) = subst AreSome (sym last) tt in
        let next = then l h cuts first known below rising is unfit some in
        let left = rest l h cuts first known below rising is unfit some in
        let each = step l h cuts first known below rising is unfit some in
        let alone = subst (AreCutsPast h.start) (sym (append-nil cuts)) rising in
        let here = each [] (λ _. refl) alone in
        let starts = next-told l h (cuts ++ []) (chunk_to l h (end_of l h first known)) next (left ++ []) here in
        let heads : here.first ∷ here.more ≡ first ∷ known = sym here.are ∙ ap (cuts_past h.told) (append-nil cuts)
        ∙ is in
        let end_is : (end_of l h here.first here.more).at ≡ (end_of l h first known).at = ap (ending l h) heads in
        let told : next.told ≡ (end_of l h first known).at =
        ap (λ (x : Here). x.told) here.goes_on ∙ after-told l (cuts ++ []) h (end_of l h here.first here.more)
        ∙ end_is in
        let past = subst (AreCutsPast h.told) is (past-rising h.start h.told cuts rising) in
        let ends = end-from l h first known past.1 in
        let behind : 0 < length (cuts_past next.told cuts) =
        (let size = ap (λ n. length (cuts_past n cuts)) told ∙ ap length last in omega (arith, size)) in
        let one = settle-one l false h cuts (chunk_to l h (end_of l h first known)) next left below each (λ _. behind)
        in
        let on = one.go_on [] (λ _. refl) alone in
        let left_is : left ≡ cuts_past next.start cuts = sym (append-nil left) ∙ on.left_are
        ∙ ap (cuts_past next.start) (append-nil cuts) in
        let same : cuts_past next.told left ≡ cuts_past next.told cuts = ap (cuts_past next.told) left_is
        ∙ past-past next.start next.told cuts starts.0 in
        let short = fewer h.told next.told first known cuts is (omega (arith, told, ends, past.0))
        (omega (arith, told, ends)) in
        let more = again next left (subst (AreCutsPast next.start) (append-nil left) on.rising) starts.0 refl
        (omega (arith, ap length same, short, few)) in (
          chunk_to l h (end_of l h first known) ∷ more.0,
          settle-all l false h cuts (chunk_to l h (end_of l h first known) ∷ []) next left more.0 rising below one
              more.1,
        )

-- from each place on some chunks are settled, and unfit more
pub all-exist : (l : Limits) (is_whole : Bool) (h : Here) (cuts : List Cut) → AreCutsPast h.start cuts
    → h.start ≤ h.told
    → (chunks : List Chunk) × SettleAll l is_whole h cuts chunks
all-exist l true h cuts rising below = chunks-exist l cuts h (cuts-from 0 h.start cuts (omega arith) rising)
all-exist l false h cuts rising below = exist-at (length (cuts_past h.told cuts)) l h cuts (cuts_past h.told cuts)
    rising below refl (omega arith)

-- where no more cuts come, too
pub settle-whole : (l : Limits) (h : Here) (cuts : List Cut) (cs : List Chunk) (next : Here) (left : List Cut)
    → Settle l false h cuts cs next left
    → Settle l true h cuts cs next left
settle-whole l h cuts cs next left s = record {
  go_on = λ more _ rising. s.go_on more (λ never. absurd (false≢true never)) rising;
  known = inl refl;
}

-- ---- a text with these cuts has these chunks and no others

abbrev ending-or : Limits → Here → Cut → List Cut → Cut
ending-or l h other [] = other
ending-or l h other (c ∷ cs) = end_of l h c cs

chunks-one : (l : Limits) (cuts : List Cut) (h : Here) (xs ys : List Chunk) → AreChunks l cuts h xs
    → AreChunks l cuts h ys → xs ≡ ys
chunks-one l cuts h [] [] a b = refl
chunks-one l cuts h [] (y ∷ ys) a b = absurd (let none : [] ≡ b.0 ∷ b.1 = sym a ∙ b.2 in omega (arith, ap length none))
chunks-one l cuts h (x ∷ xs) [] a b = absurd (let none : [] ≡ a.0 ∷ a.1 = sym b ∙ a.2 in omega (arith, ap length none))
chunks-one l cuts h (x ∷ xs) (y ∷ ys) a b =
    let same : a.0 ∷ a.1 ≡ b.0 ∷ b.1 = sym a.2 ∙ b.2 in
    let end : end_of l h a.0 a.1 ≡ end_of l h b.0 b.1 = ap (ending-or l h a.0) same in
    ap₂ (λ c cs. c ∷ cs) (a.3 ∙ ap (chunk_to l h) end ∙ sym b.3)
    (chunks-one l cuts (after l cuts h (end_of l h a.0 a.1)) xs ys a.4
    (subst (λ (e : Cut). AreChunks l cuts (after l cuts h e) ys) (sym end) b.4))

pub settled-first : (l : Limits) (cuts more : List Cut) (chunks all : List Chunk) → AreSettled l cuts chunks
    → AreCutsPast 0 (cuts ++ more)
    → AreChunks l (cuts ++ more) text_start all → (later : List Chunk) × (all ≡ chunks ++ later)
settled-first l cuts more chunks all settled rising are =
    let next = settled.0 in
    let left = settled.1 in
    let on = settled.2.go_on more (λ never. absurd (false≢true never)) rising in
    let rest = chunks-exist l (left ++ more) next (cuts-from 0 next.start (left ++ more) (omega arith) on.rising) in
    (rest.0, chunks-one l (cuts ++ more) text_start all (chunks ++ rest.0) are (on.come rest.0 (omega arith) rest.1))
