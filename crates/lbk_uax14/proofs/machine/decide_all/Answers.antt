use Rattle.std.proofs.Common.{◌≡◌, ◌∷◌, ◌++◌, ◌+◌, ◌<◌, List, [], take, drop, length, get_or, arith, sym, ap, subst}
use Rattle.std.proofs.Common.{◌∙◌}
use Rattle.std.proofs.lemmas.List.{take_more, take_all, length-take-le}
use Rattle.lbk_uax14.specs.declared.cells.Cell.{Cell}
use Rattle.lbk_uax14.specs.Units.{letter}
use Rattle.lbk_uax14.specs.Fits.{Fits}
use Rattle.lbk_uax14.specs.Verdict.{verdict}
use Rattle.lbk_uax14.proofs.MachineLemmas.{split-at}
use Rattle.lbk_uax14.proofs.WritingLemmas.{written_more}
use Rattle.lbk_uax14.proofs.machine.decide_all.Goals as goal

pub loop-k-preserved : goal.loop-k-preserved
loop-k-preserved c =
    let cells = c.args.cells.now in
    let n = c.loop-k.k in
    let cell = get_or cells n letter in
    let within : n < length cells = c.loop-k-test.true in
    let fits = c.loop-k.invariant.fits in
    let one_more : take n cells ++ cell ∷ [] ≡ take (n + 1) cells = sym (take_more cells n letter within) in
    let count : length (take n cells) ≡ n = length-take-le n cells (omega arith) in
    let decided : c.step.result ≡ verdict cells n =
    c.step.ensures.decides (take n cells) (drop (n + 1) cells) fits
    ∙ ap (λ l. verdict l (length (take n cells))) (split-at cells n letter within)
    ∙ ap (λ k. verdict cells k) count in
    record {
      fits = subst (λ (l : List Cell). Fits c.step.new.self l) one_more (c.step.ensures.fits (take n cells) fits);
      written = written_more (λ k. verdict cells k) c.loop-k.verdicts n c.step.result
          (omega (arith, c.requires, c.loop-k.auto.verdicts)) c.loop-k.invariant.written decided;
    }

pub returns : goal.returns
returns c =
    let cells = c.args.cells.now in
    let n = c.loop-k.k in
    let all : n ≡ length cells = omega arith in
    let whole : take n cells ≡ cells = take_all n cells (omega arith) in
    let decided = c.finish.ensures cells (subst (λ (l : List Cell). Fits c.loop-k.machine l) whole
    c.loop-k.invariant.fits) in
    λ k within. written_more (λ k. verdict cells k) c.loop-k.verdicts (length cells) c.finish.result
    (omega (arith, c.requires, c.loop-k.auto.verdicts))
    (λ j below. c.loop-k.invariant.written j (omega arith)) decided k (omega arith)
