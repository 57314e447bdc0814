-- A run that is found by bits, in a text.
use Rattle.std.proofs.Common.{◌≡◌, ℕ, ◌+◌, ◌-◌, ◌<◌, ◌≤◌, true, false, not, List, drop, length, sym, ap, ap₂, ◌∙◌, arith}
use Rattle.std.proofs.Math.ListN.{set}
use Rattle.std.proofs.lemmas.Bool.{and_parts}
use Rattle.lbk_words.specs.declared.word.Word.{Word}
use Rattle.lbk_words.specs.Blocks.{AreEdges, begins, begins_at, class_at, is_joined, is_inner, runs_at}
use Rattle.lbk_words.specs.Filling.{IsFilled}
use Rattle.lbk_words.proofs.Booleans.{or_parts, unless}
use Rattle.lbk_words.proofs.CellLemmas.{cells-there, reading}
use Rattle.lbk_words.proofs.EdgeLemmas.{IsRun, before-first}
use Rattle.lbk_words.proofs.LetterLemmas.{inner-class}
use Rattle.lbk_words.proofs.RunLemmas.{run-written}

pub runs-there : (text : List ℕ) (base q : ℕ) → base < q
    → runs_at (drop base text) (q - base) ≡ is_joined ((reading text base).class (q - 1)) ((reading text base).class q) ((reading text base).class (q + 1))
runs-there text base q after =
    ap₂ (λ a b. is_joined (class_at (drop base text) a) (class_at (drop base text) (q - base)) (class_at (drop base text) b))
    (let e : q - base - 1 ≡ q - 1 - base = omega arith in e) (let e : q - base + 1 ≡ q + 1 - base = omega arith in e)

-- a byte that goes on with a letter would be of a run that begins with it
pub starts-here : (bytes : List ℕ) (i : ℕ) → (runs_at bytes i ≡ true → begins_at bytes i ≡ true) → is_inner bytes i ≡ false
starts-here bytes i begun = unless (is_inner bytes i) (λ is.
    let run : runs_at bytes i ≡ true = ap (λ c. is_joined (class_at bytes (i - 1)) c (class_at bytes (i + 1))) (inner-class bytes i is) in
    let starts = (and_parts (begins (class_at bytes i)) (not (is_inner bytes i)) (begun run)).1 in
    let never : true ≡ false = sym starts ∙ ap not is in cc)

-- it is a word
pub run-taken : (text : List ℕ) (start base at begin end count stop left next : ℕ) (out : List Word) → base ≤ at → base + 64 ≤ length text → count < length out
    → AreEdges (drop base text) (at - base) (record { edges = left; stop = stop })
    → IsRun (drop base text) (at - base) begin end (record { edges = left; stop = stop }) (record { edges = next; stop = stop })
    → IsFilled text start at count out → IsFilled text start (base + end) (count + 1) (set out count (record { start = base + begin; end = base + end }))
run-taken text start base at begin end count stop left next out after inside some are run f =
    let few = are.few in
    let less = run.inside in
    let grows = run.grows in
    let later = run.after in
    let bytes = drop base text in
    let place : base + begin - base ≡ begin = omega arith in
    let starts = and_parts (begins (class_at bytes begin)) (not (is_inner bytes begin)) run.starts in
    run-written text (reading text base) start at (base + begin) (base + end) count out f some (omega arith) (omega arith)
    (ap not (starts-here bytes (at - base) (λ is. are.begins (at - base) (omega arith) (omega arith) is (before-first bytes (at - base)))))
    (ap (λ i. not (is_inner bytes i)) place ∙ starts.1)
    (λ q from upto start_is.
    let plain = are.plain (q - base) (omega arith) (omega arith) in
    cells-there text base q (omega arith) (omega arith) are.fit plain start_is)
    (λ q from before. (or_parts _ _ (run.none (q - base) (omega arith) (omega arith))).0)
    (ap (λ i. begins (class_at bytes i)) place ∙ starts.0)
    (λ q from before. sym (runs-there text base q (omega arith)) ∙ run.joined (q - base) (omega arith) (omega arith))
    (sym (runs-there text base (base + end) (omega arith)) ∙ ap (runs_at bytes) (let e : base + end - base ≡ end = omega arith in e) ∙ run.apart)
