use Rattle.lbk_chunks.proofs.CursorLemmas.{pass-before}
use Rattle.lbk_chunks.proofs.cursor.add_cut.Goals as goal

pub returns-clause-among : goal.returns-clause-among
returns-clause-among c = λ cuts first rest shown a.
    let p = c.pass_words-place in
    c.put_cut.ensures.among c.args.text.now cuts first rest p.new.words shown
    (pass-before c.args.text.now cuts first rest c.args.found c.args.start p.result c.args.words.now p.new.words c.args.out.now shown a (p.ensures.passed a.read)) (p.ensures.none a.read) p.ensures.past
