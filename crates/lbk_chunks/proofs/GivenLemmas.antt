-- Chunks given, one after another.
use Rattle.std.proofs.Common.{◌≡◌, ℕ, zero, suc, ◌+◌, ◌-◌, Bool, true, not, ◌<◌, ◌≤◌, List, [], ◌∷◌, ◌++◌, length, take, drop, refl, sym, ap, ap₂, subst, ◌∙◌, arith}
use Rattle.lbk_rules.specs.declared.Cell.{Cell}
use Rattle.lbk_rules.specs.declared.neighbours.Neighbours.{Neighbours}
use Rattle.lbk_chunks.specs.declared.chunk.Chunk.{Chunk}
use Rattle.lbk_chunks.specs.declared.chunk.ChunkState.{ChunkState}
use Rattle.lbk_chunks.specs.declared.chunk.Limits.{Limits}
use Rattle.lbk_chunks.specs.declared.chunking.Given.{Given}
use Rattle.lbk_chunks.specs.declared.cut.Cut.{Cut}
use Rattle.lbk_chunks.specs.declared.cut.Place.{Place}
use Rattle.lbk_chunks.specs.declared.cut.Mark.{Mark}
use Rattle.lbk_chunks.specs.declared.window.Window.{Window}
use Rattle.lbk_chunks.specs.declared.chunk.Here.{Here}
use Rattle.lbk_chunks.specs.Chunks.{AreChunks, AreTold, after, are_limits, chunk_to, cuts_past, end_of, fits}
use Rattle.lbk_chunks.specs.Coming.{AreCutsPast, AreGiven, AreKept, AreRead, ChunksCome, IsAhead, IsBlock, IsGiven, IsKept, IsMark, IsStanding, KeepsCuts, Knows, StandWithin, here_of}
use Rattle.lbk_chunks.proofs.CutLemmas.{cut-one}

-- the elements in front, and one more
pub take-next : (n : ℕ) (xs : List Chunk) (x : Chunk) (rest : List Chunk) → drop n xs ≡ x ∷ rest
    → (take (suc n) xs ≡ take n xs ++ x ∷ []) × (drop (suc n) xs ≡ rest) × (suc n ≤ length xs)
take-next zero [] x rest is = absurd (let no : ⊥ = cc in no)
take-next (suc n) [] x rest is = absurd (let no : ⊥ = cc in no)
take-next zero (y ∷ ys) x rest is =
    let same : y ≡ x = cc in
    let others : ys ≡ rest = cc in
    (ap (λ v. v ∷ []) same, others, omega arith)
take-next (suc n) (y ∷ ys) x rest is =
    let more = take-next n ys x rest is in
    (ap (λ l. y ∷ l) more.0, more.1, omega (arith, more.2))

pub one-more : (n : ℕ) (xs : List Chunk) (x : Chunk) (rest : List Chunk) → drop n xs ≡ x ∷ rest
    → (take (n + 1) xs ≡ take n xs ++ x ∷ []) × (drop (n + 1) xs ≡ rest) × (n + 1 ≤ length xs)
one-more n xs x rest is =
    let more = take-next n xs x rest is in
    let same : suc n ≡ n + 1 = omega arith in
    subst (λ k. (take k xs ≡ take n xs ++ x ∷ []) × (drop k xs ≡ rest) × (k ≤ length xs)) same more

pub chunk-same : (limits : Limits) (h : Here) (end : Cut) (words : ℕ) (alone : Bool) → words ≡ end.words - h.words → alone ≡ not (fits limits h end)
    → record { start = h.start; end = end.at; words = words; kind = end.kind; rule = end.rule; alone = alone } ≡ chunk_to limits h end
chunk-same limits h end words alone same_words same_alone =
    let made : ℕ → Bool → Chunk = λ w a. record { start = h.start; end = end.at; words = w; kind = end.kind; rule = end.rule; alone = a } in
    ap₂ made same_words same_alone

-- the first of the chunks to come
pub record IsFirstChunk (limits : Limits) (cuts : List Cut) (given : Given) (chunks : List Chunk) : Type 0 where
  pub rest : List Chunk
  pub joined : chunks ≡ given.chunk ∷ rest
  pub onward : AreChunks limits cuts given.next rest

pub first-chunk : (limits : Limits) (cuts : List Cut) (here : Here) (given : Given) (chunks : List Chunk)
    → IsGiven limits cuts here given → AreChunks limits cuts here chunks → IsFirstChunk limits cuts given chunks
first-chunk limits cuts here given [] g are = absurd (let joined = g.ends.joined in let no : ⊥ = cc in no)
first-chunk limits cuts here given (chunk ∷ chunks) g are =
    let h = here in
    let joined : are.0 ∷ are.1 ≡ g.ends.first ∷ cuts_past g.ends.first.at cuts = sym are.2 ∙ g.ends.joined in
    let same_first : are.0 ≡ g.ends.first = cc in
    let same_more : are.1 ≡ cuts_past g.ends.first.at cuts = cc in
    let same : end_of limits h are.0 are.1 ≡ g.end = ap₂ (end_of limits h) same_first same_more ∙ sym g.ends.is in
    record {
      rest = chunks;
      joined = ap (λ c. c ∷ chunks) (are.3 ∙ ap (chunk_to limits h) same ∙ sym g.chunk);
      onward = subst (λ x. AreChunks limits cuts x chunks) (ap (after limits cuts h) same ∙ sym g.next) are.4;
    }

-- no chunk comes where no cut does
pub no-chunk : (limits : Limits) (cuts : List Cut) (h : Here) (chunks : List Chunk) → cuts_past h.told cuts ≡ [] → AreChunks limits cuts h chunks → chunks ≡ []
no-chunk limits cuts h [] none are = refl
no-chunk limits cuts h (chunk ∷ chunks) none are = absurd (let joined = are.2 in let no : ⊥ = cc in no)

-- a chunk more is told
pub told-more : (from to size : ℕ) (cs : List Chunk) (c : Chunk) → AreTold from to size cs → c.start ≤ to → to < c.end → c.end ≤ size → AreTold from c.end size (cs ++ c ∷ [])
told-more from to size [] c told start end within = (omega (arith, told), omega (arith, told), within, refl)
told-more from to size (d ∷ ds) c told start end within = (told.0, told.1, told.2, told-more d.end to size ds c told.3 start end within)

-- how many were given where none is left
pub none-left : (count : ℕ) (xs : List Chunk) → count ≤ length xs → drop count xs ≡ [] → count ≡ length xs
none-left zero [] few none = refl
none-left zero (x ∷ xs) few none = absurd (let no : ⊥ = cc in no)
none-left (suc n) [] few none = absurd (omega arith)
none-left (suc n) (x ∷ xs) few none = (let more = none-left n xs (omega arith) none in omega arith)

module _ (cell : ℕ → Cell) (kinds : List ℕ) (pairs : Neighbours) (text : List ℕ) (limits : Limits) (cuts : List Cut) (to_come : List Chunk) where
  pub give-none : (out : List Chunk) (window : Window) (here : Here) → Knows cell kinds pairs text cuts window here → AreChunks limits cuts here to_come
      → AreGiven cell kinds pairs text limits cuts to_come 0 out window here
  give-none out window here knows are = record {
    few = omega arith;
    front = refl;
    rest = are;
    knows = knows;
    stands = λ no. absurd (omega arith);
  }

  pub give-more : (count : ℕ) (before out : List Chunk) (old new : Window) (here : Here) (given : Given)
      → AreGiven cell kinds pairs text limits cuts to_come count before old here → IsGiven limits cuts here given
      → take (count + 1) out ≡ take count before ++ given.chunk ∷ [] → Knows cell kinds pairs text cuts new given.next
      → AreGiven cell kinds pairs text limits cuts to_come (count + 1) out new given.next
  give-more count before out old new here given were g more knows =
      let first = first-chunk limits cuts here given (drop count to_come) g were.rest in
      let one = one-more count to_come given.chunk first.rest first.joined in
      record {
        few = one.2;
        front = more ∙ ap (λ l. l ++ given.chunk ∷ []) were.front ∙ sym one.0;
        rest = subst (AreChunks limits cuts given.next) (sym one.1) first.onward;
        knows = knows;
        stands = λ _. g.stands;
      }

  pub none-more : (count : ℕ) (out : List Chunk) (window : Window) (here : Here) → AreGiven cell kinds pairs text limits cuts to_come count out window here
      → cuts_past here.told cuts ≡ [] → count ≡ length to_come
  none-more count out window here were none =
      none-left count to_come were.few (no-chunk limits cuts here (drop count to_come) none were.rest)

-- what is to come of a text from a state that stands at a cut
pub come-on : (cell : ℕ → Cell) (kinds : List ℕ) (pairs : Neighbours) (text : List ℕ) (limits : Limits) (cuts : List Cut) (here : Here) (place : Place) (to_come : List Chunk)
    → are_limits limits ≡ true → AreCutsPast 0 cuts → here.start ≤ here.told → IsStanding cuts here.start here.words
    → IsAhead cell kinds pairs text place (cuts_past here.start cuts) → place.words ≡ here.words → AreChunks limits cuts here to_come
    → ChunksCome cell kinds pairs text limits (record { place = place; start = here.start; told = here.told }) to_come
come-on cell kinds pairs text limits cuts here place to_come in_range rising order stands ahead words are = record {
  in_range = in_range;
  cuts = cuts;
  stands = record {
    ahead = ahead;
    counted = λ c same cut. words ∙ sym stands.2 ∙ ap (λ (d : Cut). d.words) (cut-one cuts stands.0 c stands.3 cut (stands.1 ∙ sym same));
    rising = rising;
    told = order;
  };
  chunks = subst (λ n. AreChunks limits cuts (record { start = here.start; words = n; told = here.told }) to_come) (sym words) are;
}

-- the window still has the cuts, and those from a later start on
pub knows-on : (cell : ℕ → Cell) (kinds : List ℕ) (pairs : Neighbours) (text : List ℕ) (cuts : List Cut) (old new : Window) (was here : Here) → Knows cell kinds pairs text cuts old was
    → AreKept cell kinds pairs text cuts new → new.home.at ≤ here.start → here.start ≤ here.told → Knows cell kinds pairs text cuts new here
knows-on cell kinds pairs text cuts old new was here knows kept home told = record { rising = knows.rising; kept = kept; home = home; told = told }

pub home-same : (old new : Window) (at : ℕ) → new.home ≡ old.home → old.home.at ≤ at → new.home.at ≤ at
home-same old new at same before = subst (λ (m : Mark). m.at ≤ at) (sym same) before

-- the window at a state has the cuts from there on
pub knows-first : (cell : ℕ → Cell) (kinds : List ℕ) (pairs : Neighbours) (text : List ℕ) (limits : Limits) (state : ChunkState) (to_come : List Chunk) (window : Window)
    → (come : ChunksCome cell kinds pairs text limits state to_come) → window.home ≡ record { place = state.place; at = state.start }
    → ((cuts : List Cut) → AreCutsPast 0 cuts → IsMark cell kinds pairs text cuts (record { place = state.place; at = state.start }) → AreKept cell kinds pairs text cuts window)
    → Knows cell kinds pairs text come.cuts window (here_of state)
knows-first cell kinds pairs text limits state to_come window come same are =
    let s = come.stands in
    record {
      rising = s.rising;
      kept = are come.cuts s.rising (record { ahead = s.ahead; counted = s.counted });
      home = (let at = ap (λ (m : Mark). m.at) same in omega (arith, at));
      told = s.told;
    }

-- what is kept twice is kept, and where a search begins doesn't matter to it
pub keeps-more : (kinds : List ℕ) (pairs : Neighbours) (text : List ℕ) (first next last : Window) → KeepsCuts kinds pairs text first next → KeepsCuts kinds pairs text next last
    → KeepsCuts kinds pairs text first last
keeps-more kinds pairs text first next last keeps more = record {
  kept = λ kept. more.kept (keeps.kept kept);
  home = more.home ∙ keeps.home;
  are = λ cell cuts rising are. more.are cell cuts rising (keeps.are cell cuts rising are);
}

pub keeps-read : (kinds : List ℕ) (pairs : Neighbours) (text : List ℕ) (old new : Window) → new.home ≡ old.home
    → (IsKept text old → StandWithin (length text) new.older.count new.older.cuts) → StandWithin (length text) new.newer.count new.newer.cuts
    → ((cell : ℕ → Cell) (cuts : List Cut) → AreCutsPast 0 cuts → AreKept cell kinds pairs text cuts old
    → IsBlock cell kinds pairs text cuts new.older × IsBlock cell kinds pairs text cuts new.newer × AreRead text new.words)
    → KeepsCuts kinds pairs text old new
keeps-read kinds pairs text old new home older newer are = record {
  kept = λ kept. record { older = older kept; newer = newer };
  home = home;
  are = λ cell cuts rising were. (
      let now = are cell cuts rising were in
      record {
        older = now.0;
        newer = now.1;
        home = subst (IsMark cell kinds pairs text cuts) (sym home) were.home;
        words = now.2;
        within = record { older = older were.within; newer = newer };
      });
}

pub keeps-from : (kinds : List ℕ) (pairs : Neighbours) (text : List ℕ) (old new : Window) (next : ℕ) → KeepsCuts kinds pairs text old new
    → KeepsCuts kinds pairs text old (record new { next = next })
keeps-from kinds pairs text old new next keeps = record {
  kept = λ kept. (let k = keeps.kept kept in record { older = k.older; newer = k.newer });
  home = keeps.home;
  are = λ cell cuts rising were. (
      let k = keeps.are cell cuts rising were in
      record { older = k.older; newer = k.newer; home = k.home; words = k.words; within = record { older = k.within.older; newer = k.within.newer } });
}

-- and the start of a chunk stays behind the place from which cuts can be read again
pub keeps-behind : (kinds : List ℕ) (pairs : Neighbours) (text : List ℕ) (old new : Window) (at : ℕ) → KeepsCuts kinds pairs text old new → old.home.at ≤ at → new.home.at ≤ at
keeps-behind kinds pairs text old new at keeps before = home-same old new at keeps.home before

pub knows-still : (cell : ℕ → Cell) (kinds : List ℕ) (pairs : Neighbours) (text : List ℕ) (cuts : List Cut) (old new : Window) (here : Here) → KeepsCuts kinds pairs text old new
    → Knows cell kinds pairs text cuts old here → Knows cell kinds pairs text cuts new here
knows-still cell kinds pairs text cuts old new here keeps knows =
    knows-on cell kinds pairs text cuts old new here here knows (keeps.are cell cuts knows.rising knows.kept) (keeps-behind kinds pairs text old new here.start keeps knows.home)
    knows.told
