use Rattle.std.proofs.Common.{sym, ap₂, subst, ◌∙◌}
use Rattle.lbk_words.specs.Near.{AreMet, near_number}
use Rattle.lbk_words.proofs.NearLemmas.{near-more}
use Rattle.lbk_words.proofs.near.NearScalars.find.Goals as goal
use Rattle.lbk_words.proofs.near.NearScalars.find.Goals.{then-place-lt-NEAR, else-place-lt-NEAR}

pub returns-clause-met : goal.returns-clause-met
returns-clause-met g c =
    let letter = g.L.Letters.letter_of c.args.letters.now in
    elim c.if-place-lt-NEAR.branch [
      | then-place-lt-NEAR w ↦ subst (AreMet letter) (sym w.self-is)
          (near-more letter c.args.self.now c.args.code w.number_of.result c.requires.met w.if-place-lt-NEAR.true
          (w.number_of.ensures ∙ ap₂ near_number c.kind_of-kind.ensures.kind c.is_letter-is_letter.ensures))
      | else-place-lt-NEAR w ↦ subst (AreMet letter) (sym w.self-is) c.requires.met
    ]
