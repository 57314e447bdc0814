use Rattle.std.proofs.Common.{◌≡◌, ◌<◌, ◌≤◌, ◌++◌, sym, ap, arith, ⊎_elim, ◌∙◌}
use Rattle.std.specs.Str.{chars}
use Rattle.std.proofs.lemmas.Bool.{cases_lt, false≢true}
use Rattle.std.proofs.lemmas.Result.{err_from_is_err_and}
use Rattle.lbk_rules.specs.Breaks.{breaks}
use Rattle.lbk_passage.specs.Ahead.{segments_told}
use Rattle.lbk_passage.specs.Cuts.{cut_at}
use Rattle.lbk_passage.specs.Front.{items_of}
use Rattle.lbk_passage.proofs.AheadLemmas.{by_count-none, by_count-some}
use Rattle.lbk_passage.proofs.RoomLemmas.{items-many}
use Rattle.lbk_passage.proofs.SegmentLemmas.{segments-many, segments-none, segments-replaced}
use Rattle.lbk_passage.proofs.segments.cut_lines.Goals as goal

pub returns-clause-cut : goal.returns-clause-cut
returns-clause-cut g c =
    let cell = g.C.CellSource.cell_of c.args.cells.now in
    let cs = chars c.args.text.now in
    let made = c.cut_alone.new.segments in
    let all = cut_at 0 (breaks c.args.profile cell cs) in
    let cut : items_of made ≡ all = c.in_ok-cut_alone.ensures.cut ∙ ap (λ l. l ++ all) c.clear.ensures.items in
    by_count-none c.args.ahead.now.told (items_of c.end_last.new.segments) (segments_told c.args.ahead.now) (c.has_told.ensures.0 c.if-has_told.false)
    ∙ ⊎_elim
    (λ (some : 0 < made.count).
    let put = c.end_last.ensures.put some in
    put.3 ∙ segments-replaced c.args.profile cell cs c.args.end put.0 put.1 (sym put.2 ∙ cut))
    (λ (few : made.count ≤ 0).
    ap items_of (c.end_last.ensures.none (omega (arith, few)))
    ∙ segments-none c.args.profile cell cs c.args.end (items_of made) (omega (arith, few, items-many made)) cut)
    (cases_lt 0 made.count)

pub returns-in_err-cut_alone-clause-full : goal.returns-in_err-cut_alone-clause-full
returns-in_err-cut_alone-clause-full g c = λ broken.
    let many = segments-many c.args.profile (g.C.CellSource.cell_of c.args.cells.now) (chars c.args.text.now) c.args.end broken in
    let p = err_from_is_err_and c.from_residual.result c.from_residual.ensures.1 in
    let full = c.in_err-cut_alone.ensures.full in
    rw p.1 (omega (arith, many, full, c.clear.ensures))

pub returns-then-has_told-clause-cut : goal.returns-then-has_told-clause-cut
returns-then-has_told-clause-cut g c =
    let a = c.args.ahead.now in
    let some : ¬ (a.told ≡ 0) = λ none. false≢true (sym (c.has_told.ensures.1 none) ∙ c.if-has_told.true) in
    let told = c.requires.told (omega (arith, some)) in
    by_count-some a.told (items_of c.args.segments.now) (segments_told a) told.some ∙ told.cut
