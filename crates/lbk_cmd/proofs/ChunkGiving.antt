-- The chunks that a window gives, one after another, and their lines.
use Rattle.std.proofs.Common.{◌≡◌, ℕ, ◌+◌, ◌<◌, ◌≤◌, Bool, true, false, List, [], ◌∷◌, ◌++◌, length, take, Option, None, Some, if◌then◌else◌, is_some, refl, sym, ap, subst, ◌∙◌, arith, append_assoc, append-nil}
use Rattle.std.specs.Prelude.{IfSome}
use Rattle.std.specs.List.{AllByRecursion}
use Rattle.std.specs.Io.KnownBytes.{Appends}
use Rattle.std.proofs.Math.Seq.{take-append-add}
use Rattle.std.proofs.lemmas.Grind.{flat_map-append}
use Rattle.lbk_chunks.specs.declared.chunk.Chunk as spec
use Rattle.lbk_chunks.specs.declared.chunk.Limits.{Limits}
use Rattle.lbk_chunks.specs.declared.cut.Cut.{Cut}
use Rattle.lbk_chunks.specs.declared.chunk.Here.{Here}
use Rattle.lbk_chunks.specs.Chunks.{cuts_past, end_of}
use Rattle.lbk_chunks.specs.Cuts.{AreCutsPast}
use Rattle.lbk_chunks.proofs.CutLemmas.{past-past, past-rising}
use Rattle.lbk_chunks.proofs.LawLemmas.{after-told, end-from, fewer}
use Rattle.lbk_chunk_reader.specs.Choosing.{IsNextChunk}
use Rattle.lbk_chunk_reader.specs.Numbered.{numbered_chunk}
use Rattle.lbk_chunk_reader.specs.Settled.{GoOn, Settle}
use Rattle.lbk_chunk_reader.specs.Held.{IsHeld, chunk_text}
use Rattle.lbk_chunk_reader.specs.Window.{HoldsFrom, cuts_in, held_in, here_in, keeps_text, limits_in, words_in}
use Rattle.lbk_chunk_reader.specs.declared.cut.Chunk.{Chunk}
use Rattle.lbk_chunk_reader.specs.declared.held.Held.{Held}
use Rattle.lbk_chunk_reader.specs.declared.window.Window.{Window}
use Rattle.lbk_chunk_reader.proofs.ReaderLemmas.{chunk-within, next-between, stands-next}
use Rattle.lbk_chunk_reader.proofs.SettledLemmas.{all-exist, settle-all, settle-none, settle-one, settle-then}
use Rattle.lbk_cmd.specs.Chunk.{Wanted, asked_line, chunk_lines, line_in}
use Rattle.lbk_cmd.specs.Chunking.{Breaks, BreaksOff, Gave, IsIn, Passes, StandsIn}
use Rattle.lbk_cmd.proofs.Looping.{Appends-nil, Appends-trans}
use Rattle.lbk_cmd.proofs.Stopping.{front_of}

-- none
pub gave-none : (asked : Wanted) (text : List ℕ) (is_whole : Bool) (w : Window) (u : Option (List ℕ)) (waiting : List ℕ) → StandsIn asked text w
    → Gave asked text is_whole w w u u waiting waiting
gave-none asked text is_whole w u waiting st = record {
  limits = refl;
  words = refl;
  chunks = [];
  within = tt;
  stands_in = st;
  stands = λ s st. st;
  settle = settle-none (limits_in w) is_whole (here_in w) (cuts_in w);
  passes = record { put = []; wrote = Appends-nil u; is = sym (append-nil waiting) };
}

-- what is needed later is needed less of
pub held-on : (h : Option Held) (start later : ℕ) (text : List ℕ) → start ≤ later → IfSome h (IsHeld start text) → IfSome h (IsHeld later text)
held-on None start later text below is = tt
held-on (Some h) start later text below is = record { early = let early = is.early in omega (arith, below, early); within = is.within; bytes = is.bytes }

-- all of some chunks, and all of others
pub all-in : (text : List ℕ) (cs ds : List spec.Chunk) → AllByRecursion (IsIn text) cs → AllByRecursion (IsIn text) ds → AllByRecursion (IsIn text) (cs ++ ds)
all-in text [] ds first second = second
all-in text (c ∷ cs) ds first second = (first.0, all-in text cs ds first.1 second)

-- the line of one chunk more
lines-snoc : (asked : Wanted) (text : List ℕ) (cs : List spec.Chunk) (c : spec.Chunk) → chunk_lines asked text (cs ++ c ∷ []) ≡ chunk_lines asked text cs ++ asked_line asked text c
lines-snoc asked text cs c =
    flat_map-append (asked_line asked text) cs (c ∷ []) ∙ ap (λ x. chunk_lines asked text cs ++ x) (append-nil (asked_line asked text c))

-- a window gave one more
module _ (is_whole : Bool) (w w' : Window) (chunk : Chunk)
    (next : (more : List Cut) → (is_whole ≡ true → more ≡ []) → AreCutsPast (here_in w).start (cuts_in w ++ more)
    → IsNextChunk (limits_in w) (here_in w) (cuts_in w ++ more) (numbered_chunk chunk) (here_in w') (cuts_in w' ++ more))
    (behind : is_whole ≡ false → 0 < length (cuts_past (here_in w').told (cuts_in w)))
    (rising : AreCutsPast (here_in w).start (cuts_in w)) (told : (here_in w).start ≤ (here_in w).told) where
  alone : IsNextChunk (limits_in w) (here_in w) (cuts_in w ++ []) (numbered_chunk chunk) (here_in w') (cuts_in w' ++ [])
  alone = next [] (λ _. refl) (subst (AreCutsPast (here_in w).start) (sym (append-nil (cuts_in w))) rising)

  one-on : GoOn (limits_in w) (here_in w) (cuts_in w ++ []) (numbered_chunk chunk ∷ []) (here_in w') (cuts_in w' ++ [])
  one-on = (settle-one (limits_in w) is_whole (here_in w) (cuts_in w) (numbered_chunk chunk) (here_in w') (cuts_in w') told next behind).go_on [] (λ _. refl)
      (subst (AreCutsPast (here_in w).start) (sym (append-nil (cuts_in w))) rising)

  pub rising-then : AreCutsPast (here_in w').start (cuts_in w')
  rising-then = subst (AreCutsPast (here_in w').start) (append-nil (cuts_in w')) one-on.rising

  pub told-then : (here_in w').start ≤ (here_in w').told
  told-then = one-on.told told

  -- fewer cuts are ahead then
  pub fewer-then : length (cuts_past (here_in w').told (cuts_in w')) < length (cuts_past (here_in w).told (cuts_in w))
  fewer-then =
      let h = here_in w in
      let cuts = cuts_in w ++ [] in
      let n = alone in
      let l = limits_in w in
      let end = end_of l h n.first n.more in
      let rises = subst (AreCutsPast h.start) (sym (append-nil (cuts_in w))) rising in
      let past = subst (AreCutsPast h.told) n.are (past-rising h.start h.told cuts rises) in
      let ends = end-from l h n.first n.more past.1 in
      let is : (here_in w').told ≡ end.at = ap (λ (x : Here). x.told) n.goes_on ∙ after-told l cuts h end in
      let short = fewer h.told (here_in w').told n.first n.more cuts n.are (omega (arith, is, ends, past.0)) (omega (arith, is, ends)) in
      let left : cuts_in w' ≡ cuts_past (here_in w').start cuts = sym (append-nil (cuts_in w')) ∙ n.leaves in
      let same : cuts_past (here_in w').told (cuts_in w') ≡ cuts_past (here_in w').told cuts =
      ap (cuts_past (here_in w').told) left ∙ past-past (here_in w').start (here_in w').told cuts told-then in
      let before : cuts_past h.told (cuts_in w) ≡ n.first ∷ n.more = ap (cuts_past h.told) (sym (append-nil (cuts_in w))) ∙ n.are in
      omega (arith, ap length same, ap length before, short)

module _ (asked : Wanted) (text : List ℕ) (is_whole : Bool) (w0 w : Window) (u v : Option (List ℕ)) (waiting0 waiting : List ℕ)
    (g : Gave asked text is_whole w0 w u v waiting0 waiting)
    (rising0 : AreCutsPast (here_in w0).start (cuts_in w0)) (told0 : (here_in w0).start ≤ (here_in w0).told)
    (rising : AreCutsPast (here_in w).start (cuts_in w)) (told : (here_in w).start ≤ (here_in w).told) where
  module _ (w' : Window) (chunk : Chunk) (limits : limits_in w' ≡ limits_in w) (words : words_in w' ≡ words_in w) (held : held_in w' ≡ held_in w)
      (next : (more : List Cut) → (is_whole ≡ true → more ≡ []) → AreCutsPast (here_in w).start (cuts_in w ++ more)
      → IsNextChunk (limits_in w) (here_in w) (cuts_in w ++ more) (numbered_chunk chunk) (here_in w') (cuts_in w' ++ more))
      (behind : is_whole ≡ false → 0 < length (cuts_past (here_in w').told (cuts_in w))) where
    one : IsNextChunk (limits_in w) (here_in w) (cuts_in w ++ []) (numbered_chunk chunk) (here_in w') (cuts_in w' ++ [])
    one = alone is_whole w w' chunk next behind rising told

    -- it is of the text
    starts : chunk.start ≡ (here_in w).start
    starts = ap (λ (c : spec.Chunk). c.start) one.is

    pub is-in : IsIn text (numbered_chunk chunk)
    is-in =
        let h = here_in w in
        let cuts = cuts_in w ++ [] in
        let n = one in
        let rises = subst (AreCutsPast h.start) (sym (append-nil (cuts_in w))) rising in
        let past = subst (AreCutsPast h.told) n.are (past-rising h.start h.told cuts rises) in
        let ends = end-from (limits_in w) h n.first n.more past.1 in
        let is = ap (λ (c : spec.Chunk). c.end) n.is in (
          omega (arith, starts, is, ends, past.0, told),
          chunk-within w w' is_whole (length text) g.stands_in.between (numbered_chunk chunk) next,
        )

    pub kept-text : HoldsFrom chunk.start text w'
    kept-text = subst (λ h. IfSome h (IsHeld chunk.start text)) (sym held) (subst (λ n. IfSome (held_in w) (IsHeld n text)) (sym starts) g.stands_in.holds)

    then-in : StandsIn asked text w'
    then-in = record {
      keeps = ap is_some held ∙ g.stands_in.keeps;
      holds = subst (λ h. IfSome h (IsHeld (here_in w').start text)) (sym held) (held-on (held_in w) (here_in w).start (here_in w').start text (one-on is_whole w w' chunk next behind rising told).forward g.stands_in.holds);
      between = next-between w w' is_whole (length text) g.stands_in.between (numbered_chunk chunk) next;
    }

    pub line-is : (own : Option (List ℕ)) → own ≡ (if keeps_text w' then Some (chunk_text text (numbered_chunk chunk)) else None)
        → line_in asked own (numbered_chunk chunk) ≡ asked_line asked text (numbered_chunk chunk)
    line-is own is =
        ap (λ x. line_in asked x (numbered_chunk chunk)) (is ∙ ap (λ (b : Bool). if b then Some (chunk_text text (numbered_chunk chunk)) else None) then-in.keeps)

    -- that of the text which a window lends for it
    pub line-of : (own : Option (List ℕ)) → (HoldsFrom chunk.start text w' → IsIn text (numbered_chunk chunk)
        → own ≡ (if keeps_text w' then Some (chunk_text text (numbered_chunk chunk)) else None))
        → line_in asked own (numbered_chunk chunk) ≡ asked_line asked text (numbered_chunk chunk)
    line-of own lends = line-is own (lends kept-text is-in)

    settled-then : Settle (limits_in w0) is_whole (here_in w0) (cuts_in w0) (g.chunks ++ numbered_chunk chunk ∷ []) (here_in w') (cuts_in w')
    settled-then =
        settle-then (limits_in w0) is_whole (here_in w0) (cuts_in w0) g.chunks (here_in w) (cuts_in w) (numbered_chunk chunk ∷ []) (here_in w') (cuts_in w') rising0 told0 g.settle
        (settle-one (limits_in w0) is_whole (here_in w) (cuts_in w) (numbered_chunk chunk) (here_in w') (cuts_in w') told
        (λ more whole rises. subst (λ (x : Limits). IsNextChunk x (here_in w) (cuts_in w ++ more) (numbered_chunk chunk) (here_in w') (cuts_in w' ++ more)) g.limits (next more whole rises))
        behind)

    pub gave-more : (v' : Option (List ℕ)) (waiting' : List ℕ) → Passes v v' waiting waiting' (asked_line asked text (numbered_chunk chunk))
        → Gave asked text is_whole w0 w' u v' waiting0 waiting'
    gave-more v' waiting' p =
        let line = asked_line asked text (numbered_chunk chunk) in
        let lines = chunk_lines asked text g.chunks in
        record {
          limits = limits ∙ g.limits;
          words = words ∙ g.words;
          chunks = g.chunks ++ numbered_chunk chunk ∷ [];
          within = all-in text g.chunks (numbered_chunk chunk ∷ []) g.within (is-in, tt);
          stands_in = then-in;
          stands = λ s st. stands-next s w w' is_whole (g.stands s st) limits words (Some chunk) next (λ none. absurd (let no : ⊥ = cc in no));
          settle = settled-then;
          passes = record {
            put = g.passes.put ++ p.put;
            wrote = Appends-trans u v v' g.passes.put p.put g.passes.wrote p.wrote;
            is = append_assoc g.passes.put p.put waiting' ∙ ap (λ x. g.passes.put ++ x) p.is ∙ sym (append_assoc g.passes.put waiting line)
                ∙ ap (λ x. x ++ line) g.passes.is ∙ append_assoc waiting0 lines line ∙ ap (λ x. waiting0 ++ x) (sym (lines-snoc asked text g.chunks (numbered_chunk chunk)));
          };
        }

    -- a write failed of the lines that wait, or of its own
    pub broke-off : (v' : Option (List ℕ)) → Breaks v v' waiting (asked_line asked text (numbered_chunk chunk)) → BreaksOff asked text is_whole w0 u v' waiting0
    broke-off v' b =
        let l = limits_in w0 in
        let line = asked_line asked text (numbered_chunk chunk) in
        let lines = chunk_lines asked text g.chunks in
        let given = g.chunks ++ numbered_chunk chunk ∷ [] in
        let rest = all-exist l is_whole (here_in w') (cuts_in w') (rising-then is_whole w w' chunk next behind rising told) (told-then is_whole w w' chunk next behind rising told) in
        let more = chunk_lines asked text rest.0 in
        let count = length g.passes.put + b.0 in
        let front = (waiting0 ++ lines) ++ line in
        let fewer = front_of count front more in
        let all : front ++ more ≡ waiting0 ++ chunk_lines asked text (given ++ rest.0) =
        ap (λ x. x ++ more) (append_assoc waiting0 lines line ∙ ap (λ x. waiting0 ++ x) (sym (lines-snoc asked text g.chunks (numbered_chunk chunk))))
        ∙ append_assoc waiting0 (chunk_lines asked text given) more ∙ ap (λ x. waiting0 ++ x) (sym (flat_map-append (asked_line asked text) given rest.0)) in
        let put : g.passes.put ++ take b.0 (waiting ++ line) ≡ take fewer.0 (waiting0 ++ chunk_lines asked text (given ++ rest.0)) =
        sym (take-append-add g.passes.put (waiting ++ line) b.0) ∙ ap (take count) (sym (append_assoc g.passes.put waiting line) ∙ ap (λ x. x ++ line) g.passes.is)
        ∙ fewer.1 ∙ ap (take fewer.0) all in
        record {
          chunks = given ++ rest.0;
          all = settle-all l is_whole (here_in w0) (cuts_in w0) given (here_in w') (cuts_in w') rest.0 rising0 told0 settled-then rest.1;
          count = fewer.0;
          wrote = subst (Appends u v') put (Appends-trans u v v' g.passes.put (take b.0 (waiting ++ line)) g.passes.wrote b.1);
        }
