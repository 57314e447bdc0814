use Rattle.std.proofs.Common.{◌≡◌, ◌⊎◌, ◌+◌, ◌-◌, ◌<◌, ◌≤◌, ⊎_elim, ℕ, List, drop, length, subst, take, arith}
use Rattle.std.proofs.lemmas.Bool.{cases_lt}
use Rattle.lbk_words.specs.declared.blocks.Edges.{Edges}
use Rattle.lbk_words.specs.declared.blocks.Marks.{Marks}
use Rattle.lbk_words.specs.declared.word.Filled.{Filled}
use Rattle.lbk_words.specs.declared.word.Word.{Word}
use Rattle.lbk_words.specs.Blocks.{AreEdges, AreMarks}
use Rattle.lbk_words.specs.Filling.{FillsOn, IsFilled}
use Rattle.lbk_words.proofs.StepLemmas.{fills-then}
use Rattle.lbk_words.proofs.WalkLemmas.{rest-of}
use Rattle.lbk_words.proofs.blocks.fill_by_marks.Goals as goal

-- where runs begin and end in the block
edges : (text : List ℕ) (base : ℕ) {first : ℕ} {marks : Marks} {found : Edges} → AreMarks (take (length text - base) (drop base text)) marks
    → ((bytes : List ℕ) → AreMarks bytes marks → AreEdges bytes first found) → AreEdges (drop base text) first found
edges text base {first} {marks} are found = found (drop base text) (subst (λ l. AreMarks l marks) (rest-of text base) are)

-- a block that is filled on by runs
fills-runs : {text : List ℕ} {start here there : Filled} {found : Edges} {old out new : List Word} → FillsOn text start old here out
    → AreEdges (drop start.at text) (here.at - start.at) found → start.at + 64 ≤ length text
    → ((text : List ℕ) (from : ℕ) → start.at + 64 ≤ length text → AreEdges (drop start.at text) (here.at - start.at) found
    → IsFilled text from here.at here.count out → IsFilled text from there.at there.count new)
    → ((bytes : List ℕ) → AreEdges bytes (here.at - start.at) found → here.at ≤ there.at)
    → (here.count ≤ there.count) × (there.count ≤ length out) → (there.at ≡ here.at) ⊎ (there.at < start.at + 64) → length out ≡ length old
    → FillsOn text start old there new
fills-runs {text} {start} {here} {there} so_far are inside filled onward count within size =
    let on = onward (drop start.at text) are in
    record {
      onward = (omega (arith, so_far.onward, on), omega (arith, so_far.onward, count));
      within = (⊎_elim (λ (same : there.at ≡ here.at). omega (arith, so_far.within)) (λ (less : there.at < start.at + 64). omega arith) within, omega (arith, count, size));
      filled = λ from f. filled text from inside are (so_far.filled from f);
    }

pub returns-then-there-out-clause-fills : goal.returns-then-there-out-clause-fills
returns-then-there-out-clause-fills c =
    let runs = c.fill_runs-there.ensures in
    fills-runs c.loop-here.invariant (edges c.args.text.now c.args.start.at c.marks_of-marks.ensures c.edges_from-found.ensures.edges) c.requires.1 runs.filled runs.onward runs.count runs.within (omega (arith, c.loop-here.auto.out))

pub returns-then-base-there-clause-fills : goal.returns-then-base-there-clause-fills
returns-then-base-there-clause-fills c =
    let runs = c.fill_runs-there.ensures in
    fills-runs c.loop-here.invariant (edges c.args.text.now c.args.start.at c.marks_of-marks.ensures c.edges_from-found.ensures.edges) c.requires.1 runs.filled runs.onward runs.count runs.within (omega (arith, c.loop-here.auto.out))

pub returns-then-turns-eq0-clause-fills : goal.returns-then-turns-eq0-clause-fills
returns-then-turns-eq0-clause-fills c =
    let runs = c.fill_runs-there.ensures in
    fills-then
    (fills-runs c.loop-here.invariant (edges c.args.text.now c.args.start.at c.marks_of-marks.ensures c.edges_from-found.ensures.edges) c.requires.1 runs.filled runs.onward runs.count runs.within (omega (arith, c.loop-here.auto.out)))
    (omega (arith, c.fill_runs-there.auto.out, c.loop-here.auto.out)) c.fill_by_scalars.ensures.fills

pub loop-here-preserved : goal.loop-here-preserved
loop-here-preserved c =
    let runs = c.fill_runs-there.ensures in
    fills-then
    (fills-runs c.loop-here.invariant (edges c.args.text.now c.args.start.at c.marks_of-marks.ensures c.edges_from-found.ensures.edges) c.requires.1 runs.filled runs.onward runs.count runs.within (omega (arith, c.loop-here.auto.out)))
    (omega (arith, c.fill_runs-there.auto.out, c.loop-here.auto.out)) c.fill_by_scalars-here.ensures.fills

pub loop-here-smaller : goal.loop-here-smaller
loop-here-smaller c =
    let there = c.fill_by_scalars-here in
    let runs = c.fill_runs-there.ensures in
    let on = runs.onward (drop c.args.start.at c.args.text.now) (edges c.args.text.now c.args.start.at c.marks_of-marks.ensures c.edges_from-found.ensures.edges) in
    let room = length c.args.out.now in
    ⊎_elim
    (λ (few : there.result.count < room).
    let far = there.ensures.far (omega (arith, c.fill_runs-there.auto.out, c.loop-here.auto.out)) in omega (arith, there.ensures.fills.onward, runs.count))
    (λ (full : room ≤ there.result.count). omega (arith, there.ensures.fills.onward, runs.count, c.if-there-out.false)) (cases_lt there.result.count room)
