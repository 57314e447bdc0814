use Rattle.std.proofs.Common.{◌≡◌, ℕ, ◌+◌, ◌-◌, ◌^◌, ◌<◌, ◌≤◌, ◌++◌, List, true, drop, length, take, sym, ap, subst, ◌∙◌, inl, length-drop, length-take-le, arith}
use Rattle.lbk_rules.specs.declared.Cell.{Cell}
use Rattle.lbk_rules.specs.FlatTable.{IsFlatBy}
use Rattle.lbk_bytes.specs.Shown.{given_in}
use Rattle.lbk_units.specs.Front.{IsFront}
use Rattle.lbk_bytes.proofs.PieceLemmas.{rest-of}
use Rattle.lbk_streams.specs.Stands.{Ahead, Feeds, Stands}
use Rattle.lbk_streams.specs.declared.stream.Cut.{Cut}
use Rattle.lbk_streams.specs.Taking.{IsOpen, TakesOf}
use Rattle.lbk_streams.proofs.FeedLemmas.{Feeds-kept, Feeds-run, IsTaken, is-taken, none-cut, not-false, not-true}
use Rattle.lbk_streams.proofs.TakingLemmas.{Takes-none, Takes-one, TakesOf-then}
use Rattle.lbk_streams.proofs.feeding.take_run.Given.{Over}
use Rattle.lbk_streams.proofs.feeding.take_run.Goals as goal
use Rattle.lbk_streams.proofs.feeding.take_run.Goals.{After-take_scalar-step}

-- the scalar lies in the piece
inside : (g : Over) (c : After-take_scalar-step g) → c.args.here.taken + c.first-first.result.size ≤ length c.args.piece.now
inside g c =
    let left = ap length (rest-of c.args.piece.now c.args.here.taken) in
    let all = length-drop c.args.here.taken c.args.piece.now in
    let within = c.first-first.ensures.front.within in
    omega arith

-- and is one of the text, whatever follows
taken : (g : Over) (c : After-take_scalar-step g) → let here = c.args.here in let out = c.args.out.now in let step = c.take_scalar-step in
    (cell : ℕ → Cell) (more : List g.row.U.Denot) → IsFlatBy (g.K.KindSource.kinds_of c.args.table.now) (g.K.KindSource.pairs_of c.args.table.now) cell
    → (base : ℕ) (all : Ahead) → Feeds g.U.Unit.pieces_of c.args.profile cell base c.args.piece.now more here all (given_in out here.count)
    → IsTaken g.U.Unit.pieces_of (drop here.taken c.args.piece.now ++ more) c.first-first.result here.place step.result.place step.result.passed c.args.profile cell all
    (given_in step.new.out step.result.count)
taken g c cell more flat base all feeds =
    let of = g.U.Unit.pieces_of in
    let here = c.args.here in
    let found = c.first-first.result in
    let step = c.take_scalar-step in
    let units = drop here.taken c.args.piece.now ++ more in
    let given = given_in c.args.out.now here.count in
    let is_rest = rest-of c.args.piece.now here.taken in
    let front : IsFront of units found = subst (λ l. IsFront of (l ++ more) found) is_rest
    (c.first-first.ensures.whole more (ap g.U.StreamUnit.could_go_on is_rest ∙ c.requires.3)) in
    let stands = subst (λ l. Stands c.args.profile cell here.place (of l) all given) (none-cut here.cut units c.requires.0) feeds.stands in
    let fits = subst (λ l. here.place.at + length l < 2 ^ 64) (none-cut here.cut units c.requires.0) feeds.fits in
    is-taken of units found here.place step.result.place step.result.passed c.args.profile cell all given (given_in step.new.out step.result.count) front fits step.ensures.steps.at
    (λ p ps. step.ensures.stands cell p ps all flat) stands

-- where it is taken
past : (g : Over) (c : After-take_scalar-step g) → let step = c.take_scalar-step in step.result.passed ≡ true
    → TakesOf g.U.Unit.pieces_of g.U.StreamUnit.widest (g.K.KindSource.kinds_of c.args.table.now) (g.K.KindSource.pairs_of c.args.table.now) c.args.profile c.args.piece.now c.args.out.now c.args.here step.new.out
    (record { place = step.result.place; cut = c.args.here.cut; taken = c.args.here.taken + c.first-first.result.size; count = step.result.count })
past g c passed =
    let here = c.args.here in
    let found = c.first-first.result in
    let step = c.take_scalar-step in
    let fits = inside g c in
    record {
      takes =
          Takes-one g.U.StreamUnit.widest (length c.args.piece.now) found.size c.args.out.now here step.new.out step.result here.cut (here.taken + found.size) step.ensures.steps passed
          c.first-first.ensures.front.some (omega (arith, c.requires.0)) fits (omega arith);
      within = (omega arith, fits);
      feeds = λ cell more flat base all feeds.
          Feeds-run g.U.Unit.pieces_of c.args.profile cell base c.args.piece.now more here step.result.place step.result.count found all
          (given_in c.args.out.now here.count) (given_in step.new.out step.result.count)
          c.requires.0 fits ((taken g c cell more flat base all feeds).passes passed) feeds;
    }

pub overflow_add-taken : goal.overflow_add-taken
overflow_add-taken g c = let fits = inside g (goal.at.overflow_add-taken g c).After-take_scalar-step in omega arith

pub slice_bounds-kept-end : goal.slice_bounds-kept-end
slice_bounds-kept-end g c =
    let left = ap length (rest-of c.args.piece.now c.args.here.taken) in
    let fits = inside g (goal.at.slice_bounds-kept-end g c).After-take_scalar-step in
    let all = length-drop c.args.here.taken c.args.piece.now in
    sym (length-take-le c.first-first.result.size (take (length c.args.piece.now - c.args.here.taken) (drop c.args.here.taken c.args.piece.now)) (omega arith))

-- as many units as the scalar has
whole : (g : Over) (c : After-take_scalar-step g) → let piece = c.args.piece.now in let size = c.first-first.result.size in
    length (take size (take (length piece - c.args.here.taken) (drop c.args.here.taken piece))) ≡ size
whole g c = length-take-le c.first-first.result.size (take (length c.args.piece.now - c.args.here.taken) (drop c.args.here.taken c.args.piece.now)) c.first-first.ensures.front.within

pub kept-cut-requires : goal.kept-cut-requires
kept-cut-requires g c =
    let long = whole g (goal.at.kept-cut-requires g c).After-take_scalar-step in
    omega (arith, long, c.first-first.ensures.few, g.met.U.StreamUnit.narrow.1)

-- no unit is cut
none-open : (g : Over) (c : After-take_scalar-step g) (cut : Cut g.row.U.Denot) → cut.size ≡ 0 → IsOpen g.U.StreamUnit.could_go_on g.U.StreamUnit.widest cut
none-open g c cut none = record { unfinished = inl none; few = omega (arith, none, g.met.U.StreamUnit.narrow.0) }

pub returns-then-not-step : goal.returns-then-not-step
returns-then-not-step g c =
    let at_step = (goal.at.returns-then-not-step g c).After-take_scalar-step in
    let piece = c.args.piece.now in
    let here = c.args.here in
    let found = c.first-first.result in
    let step = c.take_scalar-step in
    let fits = inside g at_step in
    let size = c.kept-cut.ensures.within ∙ whole g at_step in
    let stays = not-true step.result.passed c.if-not-step.true in
    record {
      takes = record {
        takes =
            Takes-none g.U.StreamUnit.widest (length piece) found.size c.args.out.now here step.new.out step.result c.kept-cut.result (here.taken + found.size) step.ensures.steps stays
            (omega (arith, size, c.first-first.ensures.few)) fits (omega (arith, size, c.requires.0));
        within = (omega arith, fits);
        feeds = λ cell more flat base all feeds.
            Feeds-kept g.U.Unit.pieces_of c.args.profile cell base piece more here step.result.place c.kept-cut.result step.result.count found.size all
            (given_in c.args.out.now here.count) (given_in step.new.out step.result.count)
            c.requires.0 fits (c.kept-cut.ensures.units ∙ ap (take found.size) (rest-of piece here.taken)) size
            ((taken g at_step cell more flat base all feeds).stays stays) feeds;
      };
      onward = omega (arith, c.first-first.ensures.front.some);
      unfinished = λ free. absurd (omega (arith, free, step.ensures.full stays));
    }

pub returns-then-past-ne0 : goal.returns-then-past-ne0
returns-then-past-ne0 g c = record {
  takes = past g (goal.at.returns-then-past-ne0 g c).After-take_scalar-step (not-false c.take_scalar-step.result.passed c.if-not-step.false);
  onward = omega (arith, c.first-first.ensures.front.some);
  unfinished = λ _. none-open g (goal.at.returns-then-past-ne0 g c).After-take_scalar-step c.args.here.cut c.requires.0;
}

pub skim-requires : goal.skim-requires
skim-requires g c =
    let fits = inside g (goal.at.skim-requires g c).After-take_scalar-step in
    (c.requires.0, c.if-past-ne0.false, omega (arith, c.take_scalar-step.ensures.steps.within.1), omega (arith, c.first-first.ensures.front.some), fits)

pub returns : goal.returns
returns g c =
    let step = c.take_scalar-step in
    let here = c.args.here in
    record {
      takes =
          TakesOf-then g.U.Unit.pieces_of g.U.StreamUnit.widest (g.K.KindSource.kinds_of c.args.table.now) (g.K.KindSource.pairs_of c.args.table.now) c.args.profile c.args.piece.now c.args.out.now here step.new.out
          (record { place = step.result.place; cut = here.cut; taken = here.taken + c.first-first.result.size; count = step.result.count }) c.skim.new.out c.skim.result
          (omega arith) (past g (goal.at.returns g c).After-take_scalar-step (not-false step.result.passed c.if-not-step.false)) c.skim.ensures.takes;
      onward = omega (arith, c.skim.ensures.takes.within.0, c.first-first.ensures.front.some);
      unfinished = λ _. none-open g (goal.at.returns g c).After-take_scalar-step c.skim.result.cut c.skim.ensures.none_cut;
    }
