use Rattle.std.proofs.Common.{subst}
use Rattle.lbk_files.specs.Taking.{ReadsFiles}
use Rattle.lbk_files.proofs.loading.load_cells.Goals as goal

pub returns-in-Ok : goal.returns-in-Ok
returns-in-Ok g c =
    subst (λ four. ReadsFiles g.S.Store c.args.store.now c.load_places.new.store four c.load_places.result)
    (c.in-Ok.ensures.places (g.S.Store.file c.args.store.now)) c.load_places.ensures
