use Rattle.std.proofs.Common.{◌≡◌, ◌⊎◌, ℕ, ◌++◌, [], List, false, drop, sym, subst, ⊎_elim, length-take-le, arith}
use Rattle.std.proofs.lemmas.List.{append-nil}
use Rattle.lbk_rules.specs.declared.Cell.{Cell}
use Rattle.lbk_rules.specs.FlatTable.{IsFlatBy}
use Rattle.lbk_bytes.specs.Shown.{given_in}
use Rattle.lbk_units.specs.Front.{IsFront}
use Rattle.lbk_streams.specs.Stands.{Ahead, Feeds, front_of, listed}
use Rattle.lbk_streams.proofs.FeedLemmas.{Feeds-cut, Feeds-stay, IsTaken, is-taken}
use Rattle.lbk_streams.proofs.TakingLemmas.{Takes-none, Takes-one}
use Rattle.lbk_streams.proofs.feeding.take_cut.Given.{Over}
use Rattle.lbk_streams.proofs.feeding.take_cut.Goals as goal
use Rattle.lbk_streams.proofs.feeding.take_cut.Goals.{After-take_scalar-step}

-- the scalar in front of the units that were cut is one of the text, whatever follows
taken : (g : Over) (c : After-take_scalar-step g) → let here = c.args.here in let out = c.args.out.now in let step = c.take_scalar-step in
    (cell : ℕ → Cell) (piece more : List g.row.U.Denot) → IsFlatBy (g.K.KindSource.kinds_of c.args.table.now) (g.K.KindSource.pairs_of c.args.table.now) cell
    → (g.U.StreamUnit.could_go_on (front_of here.cut) ≡ false) ⊎ (drop here.taken piece ++ more ≡ [])
    → (base : ℕ) (all : Ahead) → Feeds g.U.Unit.pieces_of c.args.profile cell base piece more here all (given_in out here.count)
    → IsTaken g.U.Unit.pieces_of (front_of here.cut ++ (drop here.taken piece ++ more)) c.first_of_cut-first.result here.place step.result.place step.result.passed
    c.args.profile cell all (given_in step.new.out step.result.count)
taken g c cell piece more flat same base all feeds =
    let of = g.U.Unit.pieces_of in
    let here = c.args.here in
    let found = c.first_of_cut-first.result in
    let rest = drop here.taken piece ++ more in
    let first = c.first_of_cut-first.ensures in
    let front : IsFront of (front_of here.cut ++ rest) found =
    ⊎_elim
    (λ (closed : g.U.StreamUnit.could_go_on (front_of here.cut) ≡ false).
    first.whole rest closed)
    (λ (none : rest ≡ []). subst (λ l. IsFront of (front_of here.cut ++ l) found) (sym none)
    (subst (λ l. IsFront of l found) (sym (append-nil (front_of here.cut))) first.front)) same in
    let step = c.take_scalar-step in
    is-taken of (front_of here.cut ++ rest) found here.place step.result.place step.result.passed c.args.profile cell all
    (given_in c.args.out.now here.count) (given_in step.new.out step.result.count) front feeds.fits step.ensures.steps.at
    (λ p ps. step.ensures.stands cell p ps all flat) feeds.stands

pub behind-cut-requires : goal.behind-cut-requires
behind-cut-requires g c =
    let long = length-take-le c.args.here.cut.size (listed c.args.here.cut.units) (omega (arith, c.requires.1, g.met.U.StreamUnit.narrow.1)) in
    (omega (arith, c.first_of_cut-first.ensures.front.within, long), omega (arith, c.requires.1, g.met.U.StreamUnit.narrow.1))

pub returns-then-step-clause-onward : goal.returns-then-step-clause-onward
returns-then-step-clause-onward g c =
    let left = c.behind-cut.ensures.size in
    let within = c.take_scalar-step.ensures.steps.within in
    omega (arith, c.first_of_cut-first.ensures.front.some, within.0, within.1)

pub returns-then-step-clause-feeds : goal.returns-then-step-clause-feeds
returns-then-step-clause-feeds g c = λ cell piece more flat same base all feeds.
    let here = c.args.here in
    let step = c.take_scalar-step in
    let t = taken g (goal.at.returns-then-step-clause-feeds g c).After-take_scalar-step cell piece more flat same base all feeds in
    Feeds-cut g.U.Unit.pieces_of c.args.profile cell base piece more here step.result.place c.behind-cut.result step.result.count c.first_of_cut-first.result all
    (given_in c.args.out.now here.count) (given_in step.new.out step.result.count)
    c.first_of_cut-first.ensures.front.within c.behind-cut.ensures.units c.behind-cut.ensures.size (t.passes c.if-step.true) feeds

pub returns-clause-feeds : goal.returns-clause-feeds
returns-clause-feeds g c = λ cell piece more flat same base all feeds.
    let here = c.args.here in
    let step = c.take_scalar-step in
    let t = taken g (goal.at.returns-clause-feeds g c).After-take_scalar-step cell piece more flat same base all feeds in
    Feeds-stay g.U.Unit.pieces_of c.args.profile cell base piece more here step.result.place step.result.count all
    (given_in c.args.out.now here.count) (given_in step.new.out step.result.count) (t.stays c.if-step.false) feeds

pub returns-then-step-clause-takes : goal.returns-then-step-clause-takes
returns-then-step-clause-takes g c =
    let first = c.first_of_cut-first in
    let step = c.take_scalar-step in
    let left = c.behind-cut.ensures.size in
    Takes-one g.U.StreamUnit.widest c.args.here.taken first.result.size c.args.out.now c.args.here step.new.out step.result c.behind-cut.result c.args.here.taken step.ensures.steps c.if-step.true
    first.ensures.front.some (omega (arith, c.requires.1, left)) (omega arith) (omega (arith, left))

pub returns-clause-takes : goal.returns-clause-takes
returns-clause-takes g c =
    let here = c.args.here in
    let step = c.take_scalar-step in
    Takes-none g.U.StreamUnit.widest here.taken c.first_of_cut-first.result.size c.args.out.now here step.new.out step.result here.cut here.taken step.ensures.steps c.if-step.false
    c.requires.1 (omega arith) (omega arith)
