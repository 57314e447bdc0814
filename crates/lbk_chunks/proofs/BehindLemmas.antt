-- Behind a word of a text come the others.
use Rattle.std.proofs.Common.{drop_of_length-le, ◌≡◌, ℕ, zero, suc, ◌+◌, ◌<◌, ◌≤◌, Bool, true, false, cond, nat_le, slice_index_or, List, [], ◌∷◌, ◌++◌, drop, length, take, refl, sym, ap, ap₂, subst, ◌∙◌, arith}
use Rattle.std.proofs.lemmas.Bool.Decides.{nat_tests}
use Rattle.std.proofs.lemmas.List.{drop-drop, drop-map, get_or-take, length-take-le}
use Rattle.std.proofs.Math.Seq.{drop-cons}
use Rattle.bstr.specs.Utf8.{Decoded, decoded, or_replacement, pieces}
use Rattle.bstr.proofs.lemmas.PieceLemmas.{pieces-nil, pieces-step}
use Rattle.unicode_segmentation.specs.Segments.{cut, prepend}
use Rattle.unicode_segmentation.specs.Word.{is_word_break}
use Rattle.lbk_words.specs.declared.word.Word.{Word}
use Rattle.lbk_words.specs.Letters.{has_letter}
use Rattle.lbk_words.specs.Words.{AreRising, bytes_of, parts_of, scalars_of, scalars_on, words_among, words_on}
use Rattle.lbk_words.proofs.FillLemmas.{words-end}
use Rattle.lbk_words.proofs.FreshLemmas.{cut-fresh, cut-step}
use Rattle.lbk_chunks.specs.declared.word_block.WordBlock.{WordBlock}
use Rattle.lbk_chunks.specs.Coming.{AreRead, IsFirstWord}

-- no part comes where no scalar does
prepend-some : (xs : List ℕ) (rest : List (List ℕ)) → prepend xs rest ≡ [] → ⊥
prepend-some xs [] none = let no : ⊥ = cc in no
prepend-some xs (p ∷ ps) none = let no : ⊥ = cc in no

cond-some : (b : Bool) (c : ℕ) (rest : List (List ℕ)) → cond b ((c ∷ []) ∷ rest) (prepend (c ∷ []) rest) ≡ [] → ⊥
cond-some true c rest none = let no : ⊥ = cc in no
cond-some false c rest none = prepend-some (c ∷ []) rest none

cut-none : (before cs : List ℕ) → cut is_word_break before cs [] ≡ [] → cs ≡ []
cut-none before [] none = refl
cut-none before (c ∷ cs) none = absurd (cond-some (is_word_break (c ∷ before) cs) c (cut is_word_break (c ∷ before) cs []) (sym (cut-step before c cs) ∙ none))

parts-nil : parts_of [] ≡ []
unfolding cut
parts-nil = refl

-- the parts behind the first are those of what comes behind it
behind-joined : (c : ℕ) (cs : List ℕ) (before : List ℕ) (rest : List (List ℕ)) (part : List ℕ) (parts : List (List ℕ)) → rest ≡ cut is_word_break (c ∷ before) cs []
    → ((p : List ℕ) (ps : List (List ℕ)) → rest ≡ p ∷ ps → ps ≡ parts_of (drop (length p) cs))
    → prepend (c ∷ []) rest ≡ part ∷ parts → parts ≡ parts_of (drop (length part) (c ∷ cs))
behind-joined c cs before [] part parts is more joined =
    let none : cs ≡ [] = cut-none (c ∷ before) cs (sym is) in
    let one : c ∷ [] ≡ part = cc in
    let no : parts ≡ [] = cc in
    no ∙ sym parts-nil ∙ ap parts_of (sym none) ∙ ap (λ (p : List ℕ). parts_of (drop (length p) (c ∷ cs))) one
behind-joined c cs before (p ∷ ps) part parts is more joined =
    let one : c ∷ p ≡ part = cc in
    let others : ps ≡ parts = cc in
    sym others ∙ more p ps refl ∙ ap (λ (q : List ℕ). parts_of (drop (length q) (c ∷ cs))) one

behind-by : (b : Bool) (c : ℕ) (cs : List ℕ) (before : List ℕ) (part : List ℕ) (parts : List (List ℕ)) → is_word_break (c ∷ before) cs ≡ b
    → ((p : List ℕ) (ps : List (List ℕ)) → cut is_word_break (c ∷ before) cs [] ≡ p ∷ ps → ps ≡ parts_of (drop (length p) cs))
    → cond b ((c ∷ []) ∷ cut is_word_break (c ∷ before) cs []) (prepend (c ∷ []) (cut is_word_break (c ∷ before) cs [])) ≡ part ∷ parts
    → parts ≡ parts_of (drop (length part) (c ∷ cs))
behind-by true c cs before part parts breaks more joined =
    let one : c ∷ [] ≡ part = cc in
    let others : cut is_word_break (c ∷ before) cs [] ≡ parts = cc in
    sym others ∙ cut-fresh (c ∷ before) cs breaks ∙ ap (λ (q : List ℕ). parts_of (drop (length q) (c ∷ cs))) one
behind-by false c cs before part parts breaks more joined = behind-joined c cs before (cut is_word_break (c ∷ before) cs []) part parts refl more joined

nil-not : (before part : List ℕ) (parts : List (List ℕ)) → cut is_word_break before [] [] ≡ part ∷ parts → ⊥
unfolding cut
nil-not before part parts joined = let no : ⊥ = cc in no

parts-behind : (before cs part : List ℕ) (parts : List (List ℕ)) → cut is_word_break before cs [] ≡ part ∷ parts → parts ≡ parts_of (drop (length part) cs)
parts-behind before [] part parts joined = absurd (nil-not before part parts joined)
parts-behind before (c ∷ cs) part parts joined =
    behind-by (is_word_break (c ∷ before) cs) c cs before part parts refl (λ p ps is. parts-behind (c ∷ before) cs p ps is) (sym (cut-step before c cs) ∙ joined)

-- the pieces behind some
pieces-behind : (n : ℕ) (bs : List ℕ) → drop n (pieces bs) ≡ pieces (drop (bytes_of (take n (pieces bs))) bs)
pieces-behind zero bs = refl
pieces-behind (suc n) [] =
    let none = pieces-nil in
    ap (drop (suc n)) none ∙ sym none ∙ ap (λ ps. pieces (drop (bytes_of (take (suc n) ps)) [])) (sym none)
pieces-behind (suc n) (b ∷ bs) =
    let all = b ∷ bs in
    let size = (decoded all).size in
    let step = pieces-step all (omega arith) in
    ap (drop (suc n)) step ∙ pieces-behind n (drop size all)
    ∙ ap pieces (drop-drop (bytes_of (take n (pieces (drop size all)))) size all)
    ∙ ap (λ ps. pieces (drop (bytes_of (take (suc n) ps)) all)) (sym step)

-- behind a word come the others
among-by : (b : Bool) (text : List ℕ) (at end : ℕ) (others : List Word) (w : Word) (ws : List Word) → others ≡ words_on text end
    → ((v : Word) (vs : List Word) → others ≡ v ∷ vs → words_on text v.end ≡ vs)
    → cond b (record { start = at; end = end } ∷ others) others ≡ w ∷ ws → words_on text w.end ≡ ws
among-by true text at end others w ws are more joined =
    let first : record { start = at; end = end } ≡ w = cc in
    let same : others ≡ ws = cc in
    ap (λ (v : Word). words_on text v.end) (sym first) ∙ sym are ∙ same
among-by false text at end others w ws are more joined = more w ws joined

words-from : (parts : List (List ℕ)) (text : List ℕ) (at : ℕ) (w : Word) (ws : List Word) → parts ≡ parts_of (scalars_on text at)
    → words_among at (pieces (drop at text)) parts ≡ w ∷ ws → words_on text w.end ≡ ws
words-from [] text at w ws are joined = absurd (let no : ⊥ = cc in no)
words-from (part ∷ parts) text at w ws are joined =
    let reads = pieces (drop at text) in
    let size = bytes_of (take (length part) reads) in
    let end = at + size in
    let behind : drop (length part) reads ≡ pieces (drop end text) = pieces-behind (length part) (drop at text) ∙ ap pieces (drop-drop size at text) in
    let scalars : drop (length part) (scalars_on text at) ≡ scalars_on text end = drop-map (λ (p : Decoded). or_replacement p.char) (length part) reads ∙ ap scalars_of behind in
    let rest : parts ≡ parts_of (scalars_on text end) = parts-behind [] (scalars_on text at) part parts (sym are) ∙ ap parts_of scalars in
    let same : words_among end (drop (length part) reads) parts ≡ words_among end (pieces (drop end text)) parts = ap (λ ps. words_among end ps parts) behind in
    let on : words_among end (drop (length part) reads) parts ≡ words_on text end = same ∙ ap (words_among end (pieces (drop end text))) rest in
    among-by (has_letter part) text at end (words_among end (drop (length part) reads) parts) w ws on
    (λ v vs is. words-from parts text end v vs rest (sym same ∙ is)) joined

pub words-behind : (text : List ℕ) (from : ℕ) (w : Word) (ws : List Word) → words_on text from ≡ w ∷ ws → words_on text w.end ≡ ws
words-behind text from w ws joined = words-from (parts_of (scalars_on text from)) text from w ws refl joined

-- the next word of a block
pub next-in : (n m : ℕ) (ws : List Word) (d : Word) → n < m → m ≤ length ws → drop n (take m ws) ≡ slice_index_or ws n d ∷ drop (n + 1) (take m ws)
next-in n m ws d below room =
    drop-cons (take m ws) n d (omega (arith, length-take-le m ws room))
    ∙ ap₂ (λ (w : Word) (k : ℕ). w ∷ drop k (take m ws)) (get_or-take m ws n d below) (let e : suc n ≡ n + 1 = omega arith in e)

rising-on : (from to : ℕ) (ws : List Word) → AreRising from to ws → from ≤ to
rising-on from to [] rising = rising
rising-on from to (w ∷ ws) rising = (let more = rising-on w.end to ws rising.2 in omega (arith, rising.0, rising.1))

-- no word comes from a byte past the text
from-within : (b : Bool) (text : List ℕ) (from : ℕ) (w : Word) (ws : List Word) → nat_le from (length text) ≡ b → words_on text from ≡ w ∷ ws → from ≤ length text
from-within true text from w ws is joined = grind (arith, nat_tests)
from-within false text from w ws is joined =
    let past : length text ≤ from = grind (arith, nat_tests) in
    absurd (let no : [] ≡ w ∷ ws = sym (words-end text from past) ∙ joined in let wrong : ⊥ = cc in wrong)

-- the next word of those that were read
abbrev pub next_of : WordBlock → Word
next_of block = slice_index_or block.words block.next (record { start = 0; end = 0 })

module _ (block : WordBlock) (some : block.next < block.count) where
  abbrev more : List Word
  more = drop (block.next + 1) (take block.count block.words)

  first-here : drop block.next (take block.count block.words) ≡ next_of block ∷ more
  first-here = next-in block.next block.count block.words (record { start = 0; end = 0 }) some (omega (arith, block.within, block.size))

  rising-here : AreRising block.from block.rest (next_of block ∷ more)
  rising-here = subst (AreRising block.from block.rest) first-here block.rising

  module _ (text : List ℕ) (read : AreRead text block) where
    all-here : words_on text block.from ≡ next_of block ∷ (more ++ words_on text block.rest)
    all-here = read.joined ∙ ap (λ ws. ws ++ words_on text block.rest) first-here

    pub others-here : words_on text (next_of block).end ≡ more ++ words_on text block.rest
    others-here = words-behind text block.from (next_of block) (more ++ words_on text block.rest) all-here

    pub ends-here : block.rest ≤ length text
    ends-here = read.within (from-within (nat_le block.from (length text)) text block.from (next_of block) (more ++ words_on text block.rest) refl all-here)

    pub is-first : (from : ℕ) → block.from ≡ from → IsFirstWord text from (next_of block)
    is-first from same = subst (λ n. IsFirstWord text n (next_of block)) same (record {
      joined = all-here ∙ ap (λ ws. next_of block ∷ ws) (sym others-here);
      behind = rising-here.0;
      some = rising-here.1;
      within = (let last = rising-on (next_of block).end block.rest more rising-here.2 in omega (arith, last, ends-here));
    })

-- where the block has no more, nor has the text
pub none-left : (text : List ℕ) (block : WordBlock) → AreRead text block → block.next ≡ block.count → length text ≤ block.rest → words_on text block.from ≡ []
none-left text block read all past =
    let size = length-take-le block.count block.words (omega (arith, block.within, block.size)) in
    let none : drop block.next (take block.count block.words) ≡ [] = drop_of_length-le (take block.count block.words) (omega (arith, all, size)) in
    read.joined ∙ ap₂ (λ (a b : List Word). a ++ b) none (words-end text block.rest past)
