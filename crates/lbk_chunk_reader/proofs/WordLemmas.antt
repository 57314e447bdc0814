-- The words of a passage, piece by piece.
use Rattle.std.proofs.Common.{◌≡◌, ℕ, ◌+◌, ◌^◌, ◌<◌, ◌≤◌, ◌&&◌, Bool, true, false, cond, nat_lt, List, [], ◌∷◌, ◌++◌, length}
use Rattle.std.proofs.Common.{map, refl, sym, ap, ap₂, subst, ◌∙◌, arith, length-append, append_assoc, append-nil}
use Rattle.std.specs.List.{concat, list_any}
use Rattle.std.specs.Str.{IsUtf8, chars}
use Rattle.std.proofs.lemmas.Bool.Decides.{nat_tests}
use Rattle.std.proofs.lemmas.List.{map-append}
use Rattle.std.proofs.lemmas.Str.{chars-nil, encodes-chars}
use Rattle.unicode_segmentation.specs.Segments.{segments}
use Rattle.unicode_segmentation.specs.Word.{word_bounds}
use Rattle.lbk_rules.specs.declared.Break.{Break}
use Rattle.lbk_rules.specs.declared.Cell.{Cell}
use Rattle.lbk_passage.specs.Pieces.{is_word, pieces_from, pieces_of}
use Rattle.lbk_passage.specs.declared.passage.Piece.{Piece}
use Rattle.lbk_words.specs.declared.word.Word.{Word}
use Rattle.lbk_chunk_reader.specs.PassageWords.{words_in_pieces}
use Rattle.lbk_chunk_reader.proofs.PieceWords.{bytes-of-parts}
use Rattle.lbk_chunks.specs.Coming.{AreBreaksPast, AreOnward}
use Rattle.lbk_chunks.specs.Cuts.{cuts_among, is_within, words_before}
use Rattle.lbk_chunks.proofs.WordLemmas.{cut_by, cuts-passed-first, first-behind, none-before, onward-from}
use Rattle.lbk_rules.specs.Codes.{kind_number, rule_number}
use Rattle.lbk_passage.specs.Laws.{break_at}
use Rattle.lbk_passage.specs.declared.passage.Segment.{Segment}
use Rattle.lbk_chunks.specs.declared.cut.Cut.{Cut}
use Rattle.lbk_chunk_reader.specs.declared.cut.Cut as given
use Rattle.lbk_chunk_reader.specs.Cuts.{cuts_between}
use Rattle.lbk_chunk_reader.specs.Numbered.{numbered}
use Rattle.lbk_chunk_reader.specs.Pieces.{AreJoined, ArePassed, EndsPast, IsRegular}

pub no-items : {X : Type 0} (xs : List X) → length xs ≡ 0 → xs ≡ []
no-items [] none = refl
no-items (x ∷ xs) none = absurd (let no : ⊥ = omega (arith, none) in no)

-- the words stand one behind the other, as the pieces do
onward-by : (b : Bool) (start end : ℕ) (ws : List Word) → start ≤ end → AreOnward end ws
    → AreOnward start (cond b (record { start = start; end = end } ∷ ws) ws)
onward-by true start end ws below onward = (omega arith, below, onward)
onward-by false start end ws below onward = onward-from start end ws below onward

pub pieces-onward : (start from : ℕ) (ps : List Piece) → AreJoined from ps
    → AreOnward (start + from) (words_in_pieces start ps)
pieces-onward start from [] joined = tt
pieces-onward start from (p ∷ ps) joined =
    let rest = pieces-onward start p.end ps joined.2 in
    subst (λ n. AreOnward (start + n) (words_in_pieces start (p ∷ ps))) joined.0
    (onward-by p.word (start + p.start) (start + p.end) (words_in_pieces start ps) (omega (arith, joined.0, joined.1))
    rest)

-- a byte within the first piece, where that is a word
pub within-first : (start from at : ℕ) (p : Piece) (ps : List Piece) → AreJoined from (p ∷ ps) → at < start + p.end
    → (is_within (words_in_pieces start (p ∷ ps)) at ≡ (p.word && nat_lt (start + p.start) at))
    × (words_before (words_in_pieces start (p ∷ ps)) at ≡ 0)
within-first start from at p ps joined past = by p.word
  where
    rest : AreOnward (start + p.end) (words_in_pieces start ps)
    rest = pieces-onward start p.end ps joined.2

    by : (b : Bool) → (is_within (cond b (record { start = start + p.start; end = start + p.end }
        ∷ words_in_pieces start ps) (words_in_pieces start ps)) at ≡ (b && nat_lt (start + p.start) at))
        × (words_before (cond b (record { start = start + p.start; end = start + p.end } ∷ words_in_pieces start ps)
        (words_in_pieces start ps)) at ≡ 0)
    by true = first-behind at (record { start = start + p.start; end = start + p.end }) (words_in_pieces start ps) past
        (omega arith, omega (arith, joined.0, joined.1), rest)
    by false = none-before at (start + p.end) (words_in_pieces start ps) past rest

-- a piece that ends before a break or at it
pub piece-passed : (start count : ℕ) (p : Piece) (ps : List Piece) (b : Break) (bs : List Break) → start + p.end ≤ b.at
    → AreBreaksPast b.at bs
    → cuts_among (count + cond p.word 1 0) (words_in_pieces start ps) (b ∷ bs)
    ≡ cuts_among count (words_in_pieces start (p ∷ ps)) (b ∷ bs)
piece-passed start count p ps b bs ends past = by p.word
  where
    by : (w : Bool) → cuts_among (count + cond w 1 0) (words_in_pieces start ps) (b ∷ bs)
        ≡ cuts_among count (cond w (record { start = start + p.start; end = start + p.end } ∷ words_in_pieces start ps)
        (words_in_pieces start ps)) (b ∷ bs)
    by true = cuts-passed-first count (record { start = start + p.start; end = start + p.end })
        (words_in_pieces start ps) b bs ends past
    by false = ap (λ n. cuts_among n (words_in_pieces start ps) (b ∷ bs)) (let same : count + 0 ≡ count = omega arith in
        same)

pub piece-counted : (start : ℕ) (p : Piece) (ps : List Piece)
    → length (words_in_pieces start (p ∷ ps)) ≡ cond p.word 1 0 + length (words_in_pieces start ps)
piece-counted start p ps = by p.word
  where
    by : (w : Bool) → length (cond w (record { start = start + p.start; end = start + p.end } ∷ words_in_pieces start
        ps) (words_in_pieces start ps))
        ≡ cond w 1 0 + length (words_in_pieces start ps)
    by true = omega arith
    by false = omega arith

pub counted-on : (start count : ℕ) (left rest : List Piece) (p : Piece) (w : Bool) → left ≡ p ∷ rest → p.word ≡ w
    → count + cond w 1 0 + length (words_in_pieces start rest) ≡ count + length (words_in_pieces start left)
counted-on start count left rest p w is word =
    let counted = ap (λ l. length (words_in_pieces start l)) is ∙ piece-counted start p rest
    ∙ ap (λ b. cond b 1 0 + length (words_in_pieces start rest)) word in
    omega (arith, counted)

pub passed-none : (start at count : ℕ) (pieces : List Piece) (from : ℕ) → AreJoined from pieces
    → ArePassed start at count pieces count pieces
passed-none start at count pieces from joined =
    record { from = from; joined = joined; same = refl; cuts = λ b bs below past. refl }

-- one piece more is passed
pub passed-on : (start at count : ℕ) (pieces : List Piece) (counted : ℕ) (left rest : List Piece) (p : Piece) (w : Bool)
    → left ≡ p ∷ rest → p.word ≡ w → start + p.end ≤ at
    → ArePassed start at count pieces counted left → ArePassed start at count pieces (counted + cond w 1 0) rest
passed-on start at count pieces counted left rest p w is word ends passed = record {
  from = p.end;
  joined = (subst (AreJoined passed.from) is passed.joined).2;
  same = counted-on start counted left rest p w is word ∙ passed.same;
  cuts = λ b bs from past.
      ap (λ x. cuts_among (counted + cond x 1 0) (words_in_pieces start rest) (b ∷ bs)) (sym word)
      ∙ piece-passed start counted p rest b bs (omega (arith, ends, from)) past
      ∙ ap (λ l. cuts_among counted (words_in_pieces start l) (b ∷ bs)) (sym is) ∙ passed.cuts b bs from past;
}

-- the same at a byte of the passage
pub within-pieces : (start from end : ℕ) (pieces : List Piece) (p : Piece) (ps : List Piece) → pieces ≡ p ∷ ps
    → AreJoined from pieces → EndsPast start (start + end) pieces
    → (is_within (words_in_pieces start pieces) (start + end) ≡ (p.word && nat_lt p.start end))
    × (words_before (words_in_pieces start pieces) (start + end) ≡ 0)
within-pieces start from end pieces p ps is joined past =
    let first = within-first start from (start + end) p ps (subst (AreJoined from) is joined)
    (subst (EndsPast start (start + end)) is past) in
    subst (λ l. (is_within (words_in_pieces start l) (start + end) ≡ (p.word && nat_lt p.start end))
    × (words_before (words_in_pieces start l) (start + end) ≡ 0)) (sym is)
    (first.0 ∙ ap (λ b. p.word && b) (further start p.start end), first.1)
  where
    further : (n a b : ℕ) → nat_lt (n + a) (n + b) ≡ nat_lt a b
    further n a b = grind (arith, nat_tests)

pub within-none : (start at : ℕ) (pieces : List Piece) → pieces ≡ []
    → (false ≡ is_within (words_in_pieces start pieces) at) × (words_before (words_in_pieces start pieces) at ≡ 0)
within-none start at pieces none = (
  ap (λ l. is_within (words_in_pieces start l) at) (sym none),
  ap (λ l. words_before (words_in_pieces start l) at) none,
)

-- The cuts of a passage, segment by segment

-- cuts were pushed; those at the segments that are left come behind them
pub record ArePushed (start words : ℕ) (segments : List Segment) (pieces : List Piece) (old new : List given.Cut)
    (count : ℕ) (left : List Piece) (rest : List Segment) : Type 0 where
  pub from : ℕ
  pub joined : AreJoined from left
  pub same : count + length (words_in_pieces start left) ≡ words + length (words_in_pieces start pieces)
  pub past : ℕ
  pub rising : AreBreaksPast past (map (break_at start) rest)
  pub cuts : map numbered new ++ cuts_among count (words_in_pieces start left) (map (break_at start) rest)
      ≡ map numbered old ++ cuts_between start words segments pieces

pub pushed-none : (start words : ℕ) (segments : List Segment) (pieces : List Piece) (old : List given.Cut)
    → IsRegular start words segments pieces
    → ArePushed start words segments pieces old old words pieces segments
pushed-none start words segments pieces old is =
    record { from = 0; joined = is.joined; same = refl; past = start; rising = is.rising; cuts = refl }

module _ (start words : ℕ) (segments : List Segment) (pieces : List Piece) (old new : List given.Cut)
    (count counted : ℕ) (left after : List Piece)
    (rest more : List Segment) (s : Segment) (is : rest ≡ s ∷ more)
    (regular : IsRegular start words segments pieces)
    (p : ArePushed start words segments pieces old new count left rest)
    (passes : (start from : ℕ) → AreJoined from left → count + length (words_in_pieces start left) < 2 ^ 64
    → ArePassed start (start + s.end) count left counted after)
    (ends : (start : ℕ) → EndsPast start (start + s.end) after)
    (inside : Bool)
    (tells : (start from : ℕ) → AreJoined from after → EndsPast start (start + s.end) after
    → (inside ≡ is_within (words_in_pieces start after) (start + s.end))
    × (words_before (words_in_pieces start after) (start + s.end) ≡ 0)) where
  passed : ArePassed start (start + s.end) count left counted after
  passed = passes start p.from p.joined (omega (arith, p.same, regular.few))

  told : (inside ≡ is_within (words_in_pieces start after) (start + s.end))
      × (words_before (words_in_pieces start after) (start + s.end) ≡ 0)
  told = tells start passed.from passed.joined (ends start)

  past-s : AreBreaksPast p.past (map (break_at start) (s ∷ more))
  past-s = subst (λ l. AreBreaksPast p.past (map (break_at start) l)) is p.rising

  others : List Cut
  others = cuts_among counted (words_in_pieces start after) (map (break_at start) more)

  -- the cuts from this segment on
  on : (xs : List Cut) → xs ≡ cuts_among counted (words_in_pieces start after)
      (break_at start s ∷ map (break_at start) more)
      → map numbered new ++ xs ≡ map numbered old ++ cuts_between start words segments pieces
  on xs same =
      ap (λ l. map numbered new ++ l) (same ∙ passed.cuts (break_at start s) (map (break_at start) more) (omega arith)
      past-s.1)
      ∙ ap (λ l. map numbered new ++ cuts_among count (words_in_pieces start left) (map (break_at start) l)) (sym is)
      ∙ p.cuts

  pub pushed-on : (items : List given.Cut)
      → items ≡ new ++ record { at = start + s.end; words = counted; kind = s.kind; rule = s.rule } ∷ []
      → inside ≡ false
      → ArePushed start words segments pieces old items counted after more
  unfolding others
  pushed-on items pushed outside =
      let cut : Cut = record {
        at = start + s.end;
        words = counted;
        kind = kind_number s.kind;
        rule = rule_number s.rule;
      } in
      let here : cut ∷ others ≡ cuts_among counted (words_in_pieces start after)
      (break_at start s ∷ map (break_at start) more) =
      sym (ap₂ (λ (w : Bool) (n : ℕ). cond w others (cut_by (break_at start s) (counted + n) ∷ others))
      (sym told.0 ∙ outside) told.1
      ∙ ap (λ n. cut_by (break_at start s) n ∷ others) (let none : counted + 0 ≡ counted = omega arith in none)) in
      record {
        from = passed.from;
        joined = passed.joined;
        same = passed.same ∙ p.same;
        past = start + s.end;
        rising = past-s.1;
        cuts = ap (λ l. map numbered l ++ others) pushed
            ∙ ap (λ l. l ++ others) (map-append numbered new
            (record { at = start + s.end; words = counted; kind = s.kind; rule = s.rule } ∷ []))
            ∙ append_assoc (map numbered new) (cut ∷ []) others ∙ on (cut ∷ others) here;
      }

  pub pushed-over : inside ≡ true → ArePushed start words segments pieces old new counted after more
  unfolding others
  pushed-over within = record {
    from = passed.from;
    joined = passed.joined;
    same = passed.same ∙ p.same;
    past = start + s.end;
    rising = past-s.1;
    cuts = on others (sym (ap (λ (w : Bool). cond w others
        (cut_by (break_at start s) (counted + words_before (words_in_pieces start after) (start + s.end)) ∷ others))
        (sym told.0 ∙ within)));
  }

pub pushed-all : (start words : ℕ) (segments : List Segment) (pieces : List Piece) (old new : List given.Cut)
    (count : ℕ) (left : List Piece) (rest : List Segment) → rest ≡ []
    → ArePushed start words segments pieces old new count left rest
    → map numbered new ≡ map numbered old ++ cuts_between start words segments pieces
pushed-all start words segments pieces old new count left rest none p =
    sym (append-nil (map numbered new)) ∙ ap
    (λ l. map numbered new ++ cuts_among count (words_in_pieces start left) (map (break_at start) l)) (sym none)
    ∙ p.cuts

-- The pieces of a text

pub pieces-joined : (cell : ℕ → Cell) (at : ℕ) (parts : List (List ℕ)) → AreJoined at (pieces_from cell at parts)
pieces-joined cell at [] = tt
pieces-joined cell at (part ∷ parts) = (refl, omega arith, pieces-joined cell (at + length part) parts)

pub text-joined : (cell : ℕ → Cell) (text : List ℕ) → AreJoined 0 (pieces_of cell text)
unfolding pieces_of
text-joined cell text = pieces-joined cell 0 (word_bounds text)

-- each word has a byte
pub no-word : (cell : ℕ → Cell) → is_word cell [] ≡ false
no-word cell = ap (list_any (λ c. (cell c).letter)) chars-nil

word-some : (cell : ℕ → Cell) (part : List ℕ) → cond (is_word cell part) 1 0 ≤ length part
word-some cell [] = let no = ap {B = ℕ} (λ (b : Bool). cond b 1 0) (no-word cell) in omega (arith, no)
word-some cell (b ∷ bs) = by (is_word cell (b ∷ bs))
  where
    by : (w : Bool) → cond w 1 0 ≤ length (b ∷ bs)
    by true = omega arith
    by false = omega arith

pub words-few : (cell : ℕ → Cell) (start at : ℕ) (parts : List (List ℕ))
    → length (words_in_pieces start (pieces_from cell at parts)) ≤ length (concat parts)
words-few cell start at [] = omega arith
words-few cell start at (part ∷ parts) =
    let counted = piece-counted start (record { start = at; end = at + length part; word = is_word cell part })
    (pieces_from cell (at + length part) parts) in
    omega (
      arith,
      counted,
      word-some cell part,
      words-few cell start (at + length part) parts,
      length-append part (concat parts),
    )

pub text-words-few : (cell : ℕ → Cell) (start : ℕ) (text : List ℕ) → IsUtf8 text
    → length (words_in_pieces start (pieces_of cell text)) ≤ length text
unfolding pieces_of segments
text-words-few cell start text utf8 =
    let bytes : concat (word_bounds text) ≡ text = bytes-of-parts (chars text) ∙ encodes-chars text utf8 in
    omega (arith, words-few cell start 0 (word_bounds text), ap length bytes)
