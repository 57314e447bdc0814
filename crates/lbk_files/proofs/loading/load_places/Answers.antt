use Rattle.std.proofs.Common.{rules, ◌∙◌, Result, Ok, Err, OnOk, ap}
use Rattle.lbk_feed.specs.Devices.{count_up}
use Rattle.lbk_ucd.specs.declared.which.Which.TheVariants.{LineBreak, EastAsianWidth, Category, Emoji}
use Rattle.lbk_files.proofs.LastFile.{fails, first_loaded, none_yet, second_loaded, third_loaded}
use Rattle.lbk_files.proofs.loading.load_places.Goals as goal

each_ok : {X E : Type 0} (answer : Result X E) (So : Type 0) → So → OnOk answer So
each_ok (Ok x) So so = so
each_ok (Err e) So so = tt

pub returns-in_err-line_break : goal.returns-in_err-line_break
returns-in_err-line_break g c =
    fails g.S.Store c.args.places.now c.args.store.now LineBreak _ _ _ _ c.from_residual.ensures.1
    (none_yet g.S.Store c.args.places.now c.args.store.now) c.in_err-line_break.ensures

pub returns-in_err-east_asian : goal.returns-in_err-east_asian
returns-in_err-east_asian g c =
    fails g.S.Store c.args.places.now c.args.store.now EastAsianWidth _ _ _ _
    c.from_residual-in_err-east_asian.ensures.1
    (first_loaded g.S.Store c.args.places.now c.args.store.now _ _ c.in_ok-line_break.ensures)
    c.in_err-east_asian.ensures

pub returns-in_err-category : goal.returns-in_err-category
returns-in_err-category g c =
    let so_far = second_loaded g.S.Store c.args.places.now c.args.store.now _ _ _ _ c.in_ok-line_break.ensures
    c.in_ok-east_asian.ensures in
    fails g.S.Store c.args.places.now c.args.store.now Category _ _ _ _ c.from_residual-in_err-category.ensures.1
    so_far c.in_err-category.ensures

pub returns-in_err-emoji : goal.returns-in_err-emoji
returns-in_err-emoji g c =
    let so_far = third_loaded g.S.Store c.args.places.now c.args.store.now _ _ _ _ _ _ c.in_ok-line_break.ensures
    c.in_ok-east_asian.ensures c.in_ok-category.ensures in
    fails g.S.Store c.args.places.now c.args.store.now Emoji _ _ _ _ c.from_residual-in_err-emoji.ensures.1 so_far
    c.in_err-emoji.ensures

pub returns : goal.returns
returns g c = record {
  loaded = search rules;
  takes = search rules;
  all = each_ok c.read_cells.result _ (c.in_ok-emoji.ensures.loads ∙ ap count_up (c.in_ok-category.ensures.loads
      ∙ ap count_up (c.in_ok-east_asian.ensures.loads ∙ ap count_up c.in_ok-line_break.ensures.loads)));
}
