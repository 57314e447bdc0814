-- The chunks of a run, from passage to passage.
use Rattle.std.proofs.Common.{◌≡◌, inl, ℕ, ◌+◌, Bool, true, false, List, [], ◌∷◌, ◌++◌, length, Option, Some, Ok, refl, sym, ap, ap₂, subst, ◌∙◌, arith, append_assoc, append-nil, encode_utf8_all, length-append, length-drop, drop, take, ◌-◌, None, if◌then◌else◌}
use Rattle.std.specs.List.{AllByRecursion, flat_map}
use Rattle.std.proofs.lemmas.List.{drop-append-le, take-append-le}
use Rattle.std.proofs.lemmas.Grind.{flat_map-append}
use Rattle.std.proofs.lemmas.Str.{encodes-append}
use Rattle.lbk_feed.specs.Devices.{Reads}
use Rattle.lbk_rules.specs.declared.Cell.{Cell}
use Rattle.lbk_values.specs.declared.profile.Profile.{Profile}
use Rattle.lbk_passage.specs.Marks.{Marked, scalars_of, text_of}
use Rattle.lbk_passage.specs.Next.{AfterNext, IsPassage}
use Rattle.lbk_passage.specs.Pieces.{pieces_of}
use Rattle.lbk_passage.specs.Segments.{segments_of}
use Rattle.lbk_passage.specs.State.{State, new_state}
use Rattle.lbk_passage.specs.declared.passage.Passage.{Passage}
use Rattle.lbk_chunk_reader.specs.PassageWords.{words_in_pieces}
use Rattle.lbk_chunks.specs.declared.chunk.Chunk.{Chunk}
use Rattle.lbk_chunks.specs.declared.chunk.Limits.{Limits}
use Rattle.lbk_chunks.specs.declared.cut.Cut.{Cut}
use Rattle.lbk_chunks.specs.declared.chunk.Here.{Here}
use Rattle.lbk_chunks.specs.Chunks.{text_start}
use Rattle.lbk_chunks.specs.Cuts.{AreCutsPast}
use Rattle.lbk_chunk_reader.specs.Cuts.{cuts_between, cuts_of_passages}
use Rattle.lbk_chunk_reader.specs.Settled.{IsOpen, Settle, SettleAll}
use Rattle.lbk_chunk_reader.specs.Standing.{Stands}
use Rattle.lbk_chunk_reader.specs.Between.{AreCutsBetween}
use Rattle.lbk_chunk_reader.specs.Held.{chunk_text}
use Rattle.lbk_chunk_reader.specs.Window.{Holds, HoldsFrom, IsNewWindow, IsTaken, cuts_in, here_in, keeps_text, limits_in, words_in}
use Rattle.lbk_chunk_reader.specs.declared.window.Window.{Window}
use Rattle.lbk_chunk_reader.proofs.BetweenLemmas.{passages-rising}
use Rattle.lbk_chunk_reader.proofs.ReaderLemmas.{stands-new, stands-taken}
use Rattle.lbk_chunk_reader.proofs.SettledLemmas.{all-exist, settle-all, settle-more, settle-none, settle-then, settle-whole}
use Rattle.lbk_cmd.specs.Chunk.{Wanted, asked_line, chunk_lines, chunking, line_in}
use Rattle.lbk_cmd.specs.Chunking.{Gave, IsIn, Rests, StandsIn}
use Rattle.lbk_cmd.specs.Run.{Writing}
use Rattle.lbk_cmd.proofs.ChunkGiving.{all-in}
use Rattle.lbk_cmd.proofs.Running.{Finishes}

-- how many words are in passages of which the first begins at this byte
abbrev pub words_of_passages : (ℕ → Cell) → ℕ → List (List Marked) → ℕ
words_of_passages cell start [] = 0
words_of_passages cell start (ms ∷ ps) =
    length (words_in_pieces start (pieces_of cell (text_of ms))) + words_of_passages cell (start + length (text_of ms)) ps

-- the text of passages
abbrev pub text_given : List (List Marked) → List ℕ
text_given given = flat_map text_of given

abbrev pub bytes_of_passages : List (List Marked) → ℕ
bytes_of_passages given = length (text_given given)

pub text-given : (given : List (List Marked)) → encode_utf8_all (flat_map scalars_of given) ≡ text_given given
text-given [] = refl
text-given (m ∷ given) = encodes-append (scalars_of m) (flat_map scalars_of given) ∙ ap (λ x. text_of m ++ x) (text-given given)

text-snoc : (given : List (List Marked)) (ms : List Marked) → text_given (given ++ ms ∷ []) ≡ text_given given ++ text_of ms
text-snoc given ms = flat_map-append text_of given (ms ∷ []) ∙ ap (λ x. text_given given ++ x) (append-nil (text_of ms))

-- the lines of chunks of a text that goes on
line-more : (asked : Wanted) (text more : List ℕ) (c : Chunk) → IsIn text c → asked_line asked text c ≡ asked_line asked (text ++ more) c
line-more asked text more c is = ap (λ x. line_in asked (if asked.texts then Some x else None) c) (sym same)
  where
    same : chunk_text (text ++ more) c ≡ chunk_text text c
    same =
        ap (take (c.end - c.start)) (drop-append-le c.start text more (omega (arith, is.0, is.1)))
        ∙ take-append-le (c.end - c.start) (drop c.start text) more (omega (arith, is.0, is.1, length-drop c.start text))

lines-more : (asked : Wanted) (text more : List ℕ) (cs : List Chunk) → AllByRecursion (IsIn text) cs → chunk_lines asked text cs ≡ chunk_lines asked (text ++ more) cs
lines-more asked text more [] all = refl
lines-more asked text more (c ∷ cs) all = ap₂ (λ x y. x ++ y) (line-more asked text more c all.0) (lines-more asked text more cs all.1)

all-more : (text more : List ℕ) (cs : List Chunk) → AllByRecursion (IsIn text) cs → AllByRecursion (IsIn (text ++ more)) cs
all-more text more [] all = tt
all-more text more (c ∷ cs) all = ((all.0.0, let few = all.0.1 in omega (arith, few, length-append text more)), all-more text more cs all.1)

long_of : (m : List Marked) (given : List (List Marked)) (start : ℕ) → start + length (text_of m) + bytes_of_passages given ≡ start + bytes_of_passages (m ∷ given)
long_of m given start = let long = length-append (text_of m) (text_given given) in omega (arith, long)

-- one passage more
cuts-snoc : (cell : ℕ → Cell) (start words : ℕ) (given : List (List Marked)) (ms : List Marked)
    → cuts_of_passages cell start words (given ++ ms ∷ []) ≡ cuts_of_passages cell start words given
    ++ cuts_between (start + bytes_of_passages given) (words + words_of_passages cell start given) (segments_of ms) (pieces_of cell (text_of ms))
cuts-snoc cell start words [] ms =
    append-nil (cuts_between start words (segments_of ms) (pieces_of cell (text_of ms)))
    ∙ ap₂ (λ n k. cuts_between n k (segments_of ms) (pieces_of cell (text_of ms))) (let e : start ≡ start + 0 = omega arith in e) (let e : words ≡ words + 0 = omega arith in e)
cuts-snoc cell start words (m ∷ given) ms =
    let here = cuts_between start words (segments_of m) (pieces_of cell (text_of m)) in
    let count = length (words_in_pieces start (pieces_of cell (text_of m))) in
    let behind = start + length (text_of m) in
    let others = cuts_of_passages cell behind (words + count) given in
    let more : words + count + words_of_passages cell behind given ≡ words + words_of_passages cell start (m ∷ given) = omega arith in
    ap (λ l. here ++ l) (cuts-snoc cell behind (words + count) given ms
    ∙ ap₂ (λ n k. others ++ cuts_between n k (segments_of ms) (pieces_of cell (text_of ms))) (long_of m given start) more)
    ∙ sym (append_assoc here others (cuts_between (start + bytes_of_passages (m ∷ given)) (words + words_of_passages cell start (m ∷ given)) (segments_of ms) (pieces_of cell (text_of ms))))

words-snoc : (cell : ℕ → Cell) (start : ℕ) (given : List (List Marked)) (ms : List Marked)
    → words_of_passages cell start (given ++ ms ∷ []) ≡ words_of_passages cell start given + length (words_in_pieces (start + bytes_of_passages given) (pieces_of cell (text_of ms)))
words-snoc cell start [] ms =
    let same = ap (λ n. length (words_in_pieces n (pieces_of cell (text_of ms)))) (let e : start ≡ start + 0 = omega arith in e) in
    omega (arith, same)
words-snoc cell start (m ∷ given) ms =
    let rest = words-snoc cell (start + length (text_of m)) given ms in
    let same = ap (λ n. length (words_in_pieces n (pieces_of cell (text_of ms)))) (long_of m given start) in
    omega (arith, rest, same)

module _ (asked : Wanted) (l : Limits) (cell : ℕ → Cell) (profile : Profile) (limit : ℕ) where
  abbrev pub e : Writing
  e = chunking asked l cell profile limit

  abbrev pub cuts : List (List Marked) → List Cut
  cuts given = cuts_of_passages cell 0 0 given

  -- a window gave the chunks of some passages, up to where it stands, and this is what is written of them
  pub record Chunked (w : Window) (s : State) (given : List (List Marked)) (text : List ℕ) : Type 0 where
    pub limits : limits_in w ≡ l
    pub stands : Stands w s false
    pub words : words_in w ≡ words_of_passages cell 0 given
    pub chunks : List Chunk
    pub settle : Settle l false text_start (cuts given) chunks (here_in w) (cuts_in w)
    pub start : s.start ≡ length (text_given given)
    pub within : AllByRecursion (IsIn (text_given given)) chunks
    pub keeps : keeps_text w ≡ asked.texts
    pub holds : Holds (text_given given) w
    pub is : text ≡ chunk_lines asked (text_given given) chunks

  rising : (given : List (List Marked)) → AreCutsPast 0 (cuts given)
  rising given = passages-rising cell 0 0 given

  pub chunked-new : (w : Window) (s : State) → IsNewWindow l w → keeps_text w ≡ asked.texts → s ≡ new_state cell profile limit → Chunked w s [] []
  chunked-new w s n keeps is = record {
    limits = n.limits;
    stands = stands-new l w s cell profile limit n is;
    words = n.words;
    chunks = [];
    settle = subst (λ (h : Here). Settle l false text_start [] [] h (cuts_in w)) (sym n.here)
        (subst (Settle l false text_start [] [] text_start) (sym n.cuts) (settle-none l false text_start []));
    start = ap (λ (x : State). x.start) is;
    within = tt;
    keeps = keeps;
    holds = subst (λ (h : Here). HoldsFrom h.start [] w) (sym n.here) n.held;
    is = refl;
  }

  pub new-open : (w : Window) → IsNewWindow l w → Rests false w
  new-open w n = subst (λ (x : Limits). IsOpen x (here_in w) (cuts_in w)) (sym n.limits)
      (subst (λ (h : Here). IsOpen l h (cuts_in w)) (sym n.here) (subst (IsOpen l text_start) (sym n.cuts) (inl refl)))

  module _ (w : Window) (s : State) (given : List (List Marked)) (text : List ℕ) (c : Chunked w s given text) where
    pub stands-in : StandsIn asked (text_given given) w
    stands-in = record { keeps = c.keeps; holds = c.holds; between = subst (AreCutsBetween (here_in w).start (cuts_in w)) c.start c.stands.between }

    -- what is written is the lines of all chunks that the passages settle
    pub settled-text : Rests false w → e.Settled given text
    settled-text rests =
        (c.chunks, (here_in w, cuts_in w, c.settle, subst (λ (x : Limits). IsOpen x (here_in w) (cuts_in w)) c.limits rests), c.is)

    -- the cuts of one passage more were taken
    pub chunked-taken : (w' : Window) (t : State) (u v : Option (List ℕ)) (e1 e2 : Bool) (r1 r2 : Reads) (p : Passage) → AfterNext s t u v e1 e2 r1 r2 (Ok (Some p))
        → IsTaken p w w' → (ms : List Marked) → IsPassage s ms p → s.cell ≡ cell → p.start ≡ bytes_of_passages given → Chunked w' t (given ++ ms ∷ []) text
    chunked-taken w' t u v e1 e2 r1 r2 p a k ms of cell_is start =
        let text = text-snoc given ms in
        let pieces = of.pieces ∙ ap (λ f. pieces_of f (text_of ms)) cell_is in
        let new : cuts_between p.start w.words p.segments.now p.pieces.now
        ≡ cuts_between (0 + bytes_of_passages given) (0 + words_of_passages cell 0 given) (segments_of ms) (pieces_of cell (text_of ms)) =
        ap₂ (λ n m. cuts_between n m p.segments.now p.pieces.now) (start ∙ (let e0 : bytes_of_passages given ≡ 0 + bytes_of_passages given = omega arith in e0))
        (c.words ∙ (let e0 : words_of_passages cell 0 given ≡ 0 + words_of_passages cell 0 given = omega arith in e0))
        ∙ ap₂ (λ x y. cuts_between (0 + bytes_of_passages given) (0 + words_of_passages cell 0 given) x y) of.segments pieces in
        let all : cuts (given ++ ms ∷ []) ≡ cuts given ++ cuts_between p.start w.words p.segments.now p.pieces.now =
        cuts-snoc cell 0 0 given ms ∙ ap (λ x. cuts given ++ x) (sym new) in
        record {
          limits = k.limits ∙ c.limits;
          stands = stands-taken s t u v e1 e2 r1 r2 w w' p a k c.stands;
          words = k.words ∙ ap₂ (λ n x. n + length x) c.words (ap₂ words_in_pieces (start ∙ (let e0 : bytes_of_passages given ≡ 0 + bytes_of_passages given = omega arith in e0)) pieces)
              ∙ sym (words-snoc cell 0 given ms);
          chunks = c.chunks;
          settle = subst (λ x. Settle l false text_start x c.chunks (here_in w') (cuts_in w')) (sym all)
              (subst (λ (h : Here). Settle l false text_start (cuts given ++ cuts_between p.start w.words p.segments.now p.pieces.now) c.chunks h (cuts_in w')) (sym k.here)
              (subst (Settle l false text_start (cuts given ++ cuts_between p.start w.words p.segments.now p.pieces.now) c.chunks (here_in w)) (sym k.cuts)
              (settle-more l text_start (cuts given) (cuts_between p.start w.words p.segments.now p.pieces.now) c.chunks (here_in w) (cuts_in w) c.settle)));
          start = let longer = ap length text in let put = length-append (text_given given) (text_of ms) in let goes = a.start in let lent_is = ap length of.text in
              omega (arith, goes, lent_is, c.start, longer, put);
          within = subst (λ x. AllByRecursion (IsIn x) c.chunks) (sym text) (all-more (text_given given) (text_of ms) c.chunks c.within);
          keeps = k.keeps ∙ c.keeps;
          holds = subst (λ x. Holds x w') (ap (λ x. text_given given ++ x) of.text ∙ sym text) (k.holds (text_given given) c.holds);
          is = c.is ∙ lines-more asked (text_given given) (text_of ms) c.chunks c.within ∙ ap (λ x. chunk_lines asked x c.chunks) (sym text);
        }

    -- the chunks were given that are settled
    pub chunked-gave : (w' : Window) (written written' : Option (List ℕ)) (waiting waiting' : List ℕ) (g : Gave asked (text_given given) false w w' written written' waiting waiting')
        → Chunked w' s given (text ++ chunk_lines asked (text_given given) g.chunks)
    chunked-gave w' written written' waiting waiting' g = record {
      limits = g.limits ∙ c.limits;
      stands = g.stands s c.stands;
      words = g.words ∙ c.words;
      chunks = c.chunks ++ g.chunks;
      settle = settle-then l false text_start (cuts given) c.chunks (here_in w) (cuts_in w) g.chunks (here_in w') (cuts_in w') (rising given) (omega arith) c.settle
          (subst (λ (x : Limits). Settle x false (here_in w) (cuts_in w) g.chunks (here_in w') (cuts_in w')) c.limits g.settle);
      start = c.start;
      within = all-in (text_given given) c.chunks g.chunks c.within g.within;
      keeps = g.stands_in.keeps;
      holds = g.stands_in.holds;
      is = ap (λ x. x ++ chunk_lines asked (text_given given) g.chunks) c.is ∙ sym (flat_map-append (asked_line asked (text_given given)) c.chunks g.chunks);
    }

    more_lines : (ds : List Chunk) → text ++ chunk_lines asked (text_given given) ds ≡ chunk_lines asked (text_given given) (c.chunks ++ ds)
    more_lines ds = ap (λ x. x ++ chunk_lines asked (text_given given) ds) c.is ∙ sym (flat_map-append (asked_line asked (text_given given)) c.chunks ds)

    -- all chunks that are settled from there on, whether they were given or not
    pub all-settled : (ds : List Chunk) → SettleAll (limits_in w) false (here_in w) (cuts_in w) ds → e.Settled given (text ++ chunk_lines asked (text_given given) ds)
    all-settled ds all = (
      c.chunks ++ ds,
      settle-all l false text_start (cuts given) c.chunks (here_in w) (cuts_in w) ds (rising given) (omega arith) c.settle
          (subst (λ (x : Limits). SettleAll x false (here_in w) (cuts_in w) ds) c.limits all),
      more_lines ds,
    )

    -- and all that are left
    pub all-whole : (ds : List Chunk) → SettleAll (limits_in w) true (here_in w) (cuts_in w) ds → e.Whole given (text ++ chunk_lines asked (text_given given) ds)
    all-whole ds all = (
      c.chunks ++ ds,
      settle-all l true text_start (cuts given) c.chunks (here_in w) (cuts_in w) ds (rising given) (omega arith) (settle-whole l text_start (cuts given) c.chunks (here_in w) (cuts_in w) c.settle)
          (subst (λ (x : Limits). SettleAll x true (here_in w) (cuts_in w) ds) c.limits all),
      more_lines ds,
    )

  pub none_settled : e.Settled [] []
  none_settled = ([], (text_start, [], settle-none l false text_start [], inl refl), refl)

  -- whatever is settled, there are chunks behind it
  pub chunks_finish : Finishes e
  chunks_finish given out settled =
      let chunks = settled.0 in
      let next = settled.1.0 in
      let left = settled.1.1 in
      let settle = settled.1.2 in
      let on = settle.go_on [] (λ _. refl) (subst (AreCutsPast 0) (sym (append-nil (cuts given))) (rising given)) in
      let rest = all-exist l true next left (subst (AreCutsPast next.start) (append-nil left) on.rising) (on.told (omega arith)) in (
        chunk_lines asked (text_given given) rest.0,
        (
          chunks ++ rest.0,
          settle-all l true text_start (cuts given) chunks next left rest.0 (rising given) (omega arith) (settle-whole l text_start (cuts given) chunks next left settle) rest.1,
          ap (λ x. x ++ chunk_lines asked (text_given given) rest.0) settled.2 ∙ sym (flat_map-append (asked_line asked (text_given given)) chunks rest.0),
        ),
      )
