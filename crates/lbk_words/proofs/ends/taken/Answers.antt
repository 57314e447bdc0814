use Rattle.std.proofs.Common.{set, ◌+◌, ◌&&◌, ◌||◌, not, [], ◌∷◌, ◌++◌, take, subst, sym, ap, ◌∙◌}
use Rattle.std.proofs.lemmas.List.{take-set, take_more_set}
use Rattle.lbk_words.specs.Ends.{IsReading}
use Rattle.lbk_words.proofs.PartLemmas.{reading-taken}
use Rattle.lbk_words.proofs.ends.taken.Goals as goal

pub returns-clause-reads : goal.returns-clause-reads
returns-clause-reads g c = λ letter text start old is r.
    let out = c.args.out.now in
    let here = c.args.here in
    let noted = c.args.noted in
    let put = c.put.new.self in
    let n = c.from.result in
    subst (λ at. IsReading g.S.PartSlot.made letter text start old (record { count = here.count + n; start = at; at = noted.next.end; row = noted.next.step.next; has_letter = noted.is_letter || (here.has_letter && not noted.next.step.cuts) }) (set out here.count put)) (sym c.one_of.ensures)
    (reading-taken g.S.PartSlot.made letter text start old here out _ noted n r
    (take-set out here.count put)
    (take_more_set out here.count put c.requires.room ∙ ap (λ x. take here.count out ++ x ∷ []) c.put.ensures)
    is c.from.ensures)
