use Rattle.lbk_streams.proofs.utf8.U8StreamUnit.fill_piece.Goals as goal

pub returns-clause-gives : goal.returns-clause-gives
returns-clause-gives g c = λ cell more flat all start.
    let r = c.fill_common.ensures.reached cell more all flat (record { taken = start.taken; knows = start.knows; some = start.some; joined = start.joined }) in
    record { taken = r.taken; knows = r.knows; some = r.some; joined = r.joined }
