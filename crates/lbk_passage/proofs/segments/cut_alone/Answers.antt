use Rattle.std.proofs.Common.{◌<◌, ◌-◌, ◌++◌, All, length, take, append-nil, refl, sym, ap, subst, ◌∙◌, arith}
use Rattle.std.proofs.lemmas.List.Elements.{All-drop, All-take}
use Rattle.std.proofs.lemmas.Result.{err_from_is_err_and}
use Rattle.lbk_rules.specs.declared.Break.{Break}
use Rattle.lbk_passage.specs.Cuts.{cut_at}
use Rattle.lbk_passage.specs.Found.{left_after}
use Rattle.lbk_passage.specs.Front.{items_of}
use Rattle.lbk_passage.proofs.FoundLemmas.{IsFound-start, left-many, left-on, taken-breaks, taken-many}
use Rattle.lbk_passage.proofs.SegmentLemmas.{breaks-within, cut-on, raw-within}
use Rattle.lbk_passage.proofs.RoomLemmas.{Grows-none, Grows-on}
use Rattle.lbk_passage.proofs.segments.cut_alone.Goals as goal

pub loop-start-init : goal.loop-start-init
loop-start-init g c =
    let cell = g.C.CellSource.cell_of c.args.cells.now in
    record {
      found = IsFound-start c.args.profile cell c.args.text.now c.utf8.text;
      cut = refl;
      within = breaks-within 4294967296 c.args.profile cell c.args.text.now c.utf8.text c.requires;
      count = refl;
      grows = Grows-none c.args.segments.now c.args.segments.now refl refl;
    }

pub loop-start-preserved : goal.loop-start-preserved
loop-start-preserved g c =
    let cell = g.C.CellSource.cell_of c.args.cells.now in
    let l = c.loop-start in
    let n = c.find-next.result.state.count - l.here.state.count in
    let left = left_after c.args.profile cell c.args.text.now l.here in
    record {
      found = c.find-next.ensures.found;
      cut = cut-on c.find-next.ensures (items_of c.loop-start.segments) (items_of c.cut_block.new.segments) c.loop-start.start c.in_ok-start.start c.in_ok-start.ensures.cut ∙ l.invariant.cut;
      within = subst (All (λ (one : Break). one.at < 4294967296)) (sym (left-on c.find-next.ensures)) (All-drop (λ (one : Break). one.at < 4294967296) n left l.invariant.within);
      count = omega (
        arith,
        c.in_ok-start.ensures.count,
        taken-many c.find-next.ensures,
        left-many c.find-next.ensures,
        l.invariant.count,
      );
      grows = Grows-on c.args.segments.now l.segments c.cut_block.new.segments l.invariant.grows c.cut_block.ensures.grows;
    }

pub loop-start-smaller : goal.loop-start-smaller
loop-start-smaller g c =
    omega (arith, left-many c.find-next.ensures, c.find-next.ensures.full c.if-next.false)

pub cut_block-requires-clause-breaks : goal.cut_block-requires-clause-breaks
cut_block-requires-clause-breaks g c =
    taken-breaks c.find-next.ensures

pub cut_block-requires-clause-few : goal.cut_block-requires-clause-few
cut_block-requires-clause-few g c =
    let cell = g.C.CellSource.cell_of c.args.cells.now in
    let l = c.loop-start in
    let n = c.find-next.result.state.count - l.here.state.count in
    let left = left_after c.args.profile cell c.args.text.now l.here in
    raw-within 4294967296 (take n c.find-next.new.out)
    (subst (All (λ (one : Break). one.at < 4294967296)) (sym c.find-next.ensures.front)
    (All-take (λ (one : Break). one.at < 4294967296) n left l.invariant.within))

pub returns-in_err-start-clause-grows : goal.returns-in_err-start-clause-grows
returns-in_err-start-clause-grows g c =
    Grows-on c.args.segments.now c.loop-start.segments c.cut_block.new.segments c.loop-start.invariant.grows c.cut_block.ensures.grows

pub returns-in_err-start-clause-full : goal.returns-in_err-start-clause-full
returns-in_err-start-clause-full g c =
    let p = err_from_is_err_and c.from_residual.result c.from_residual.ensures.1 in
    let full = c.in_err-start.ensures.full in
    let l = c.loop-start in
    rw p.1 (omega (
      arith,
      full,
      taken-many c.find-next.ensures,
      left-many c.find-next.ensures,
      l.invariant.count,
      l.invariant.grows.room,
    ))

pub returns-then-next-clause-cut : goal.returns-then-next-clause-cut
returns-then-next-clause-cut g c =
    let held = items_of c.cut_block.new.segments in
    sym (append-nil held)
    ∙ ap (λ bs. held ++ cut_at c.in_ok-start.start bs) (sym (c.find-next.ensures.found.none_left c.if-next.true))
    ∙ cut-on c.find-next.ensures (items_of c.loop-start.segments) (items_of c.cut_block.new.segments) c.loop-start.start c.in_ok-start.start c.in_ok-start.ensures.cut ∙ c.loop-start.invariant.cut

pub returns-then-next-clause-count : goal.returns-then-next-clause-count
returns-then-next-clause-count g c =
    let l = c.loop-start in
    omega (
      arith,
      c.in_ok-start.ensures.count,
      taken-many c.find-next.ensures,
      left-many c.find-next.ensures,
      ap length (c.find-next.ensures.found.none_left c.if-next.true),
      l.invariant.count,
    )

pub returns-then-next-clause-grows : goal.returns-then-next-clause-grows
returns-then-next-clause-grows g c =
    Grows-on c.args.segments.now c.loop-start.segments c.cut_block.new.segments c.loop-start.invariant.grows c.cut_block.ensures.grows
