use Rattle.std.proofs.Common.{◌+◌, ◌++◌, ap, arith, is_some, length, subst, sym, ◌∙◌}
use Rattle.std.specs.Prelude.{IfSome}
use Rattle.lbk_chunk_reader.specs.PassageWords.{words_in_pieces}
use Rattle.lbk_chunk_reader.specs.Cuts.{cuts_between}
use Rattle.lbk_chunk_reader.specs.Held.{IsHeld, Reaches}
use Rattle.lbk_chunk_reader.specs.Pieces.{IsRegular}
use Rattle.lbk_chunks.specs.declared.chunk.Here.{Here}
use Rattle.lbk_chunk_reader.specs.Window.{cuts_in}
use Rattle.lbk_chunk_reader.proofs.WindowLemmas.{taken-cuts}
use Rattle.lbk_chunk_reader.proofs.window.Window.take.Goals as goal

pub returns-clause-taken : goal.returns-clause-taken
returns-clause-taken c = λ is.
    let p = c.args.passage.now in
    let same = c.drop_passed.ensures.same in
    let mid = c.drop_passed.new.self in
    let there = subst (λ n. IsRegular p.start n p.segments.now p.pieces.now) (sym same.words) is in
    record {
      limits = same.limits;
      cuts = taken-cuts mid.passed c.push_cuts.new.cuts.items mid.cuts.items
          (cuts_between p.start mid.words p.segments.now p.pieces.now) (let few = mid.passed_few in omega (arith, few))
          (c.in_ok-self.ensures.cuts there)
          ∙ ap (λ l. l ++ cuts_between p.start mid.words p.segments.now p.pieces.now) same.cuts
          ∙ ap (λ n. cuts_in c.args.self.now ++ cuts_between p.start n p.segments.now p.pieces.now) same.words;
      here = same.here;
      words = c.in_ok-self.ensures.words there ∙ ap (λ n. n + length (words_in_pieces p.start p.pieces.now)) same.words;
      keeps = c.in_ok-take_text.ensures.keeps ∙ ap is_some same.held;
      holds = λ text held. c.in_ok-take_text.ensures.holds text
          (subst (λ h. IfSome h (IsHeld mid.here.start text)) (sym same.held)
          (subst (λ (h : Here). IfSome c.args.self.now.held (IsHeld h.start text)) (sym same.here) held));
    }

pub returns-clause-text : goal.returns-clause-text
returns-clause-text c = λ reaches.
    let same = c.drop_passed.ensures.same in
    let mid = c.drop_passed.new.self in
    c.in_ok-take_text.ensures.few
    (subst (λ h. IfSome h (Reaches mid.here.start)) (sym same.held)
    (subst (λ (h : Here). IfSome c.args.self.now.held (Reaches h.start)) (sym same.here) reaches))
