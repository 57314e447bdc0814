use Rattle.lbk_bytes.proofs.one_word.one_word.Goals as goal

pub returns-then-begun-stop : goal.returns-then-begun-stop
returns-then-begun-stop g c =
    let begun = c.by_block-begun.ensures in
    let more = c.gathered.ensures.further in
    record {
      within = (more.within.0, c.gathered.ensures.stops, more.within.2, more.within.3);
      none = more.none begun.none;
      marked = λ cell all flat start. more.marked cell all flat (begun.marked cell all flat start);
    }
