use Rattle.lbk_words.proofs.near.NearScalars.told.Goals as goal

pub returns-in-Some-clause-told : goal.returns-in-Some-clause-told
returns-in-Some-clause-told g c = c.in-Some.ensures.told (g.L.Letters.letter_of c.args.letters.now) c.requires.met
