use Rattle.std.proofs.Common.{◌≡◌, ap, sym, ◌∙◌, arith}
use Rattle.lbk_words.specs.declared.word.Word.{Word}
use Rattle.lbk_chunks.proofs.WordLemmas.{none-ahead, word-none}
use Rattle.lbk_chunks.proofs.words_behind.loaded.Goals as goal

pub returns-in_default-clause-loaded : goal.returns-in_default-clause-loaded
returns-in_default-clause-loaded c = λ read. (
    let text = c.args.text.now in
    let place = c.args.place in
    let none : place.word.end ≡ 0 = omega (arith, c.if-place-ne0.false) in
    let ends = none-ahead text place c.max.result none (omega (arith, c.max.ensures)) in (
      c.in_default.ensures.read read,
      record {
        ahead = ends ∙ sym (word-none text place none ∙ c.in_default.ensures.first read);
        counted = λ few. omega (arith, few, c.max.ensures);
        none = λ _. ends;
      },
    ))

pub returns-clause-loaded : goal.returns-clause-loaded
returns-clause-loaded c = λ read. (
    let first = c.in-Some.ensures.first read in
    let w = c.with_word.ensures in (
      c.in-Some.ensures.read read,
      record {
        ahead = w.ahead c.args.text.now first;
        counted = w.counted c.args.text.now first;
        none = λ none. absurd (let same = ap (λ (v : Word). v.end) w.some.0 in omega (arith, none, same, first.some));
      },
    ))
