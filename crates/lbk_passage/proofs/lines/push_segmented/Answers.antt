use Rattle.std.proofs.Common.{◌≡◌, ℕ, ◌+◌, List, [], ◌∷◌, ◌++◌, length, ap, sym, ◌∙◌, arith, append_assoc, append-nil, length-append}
use Rattle.std.specs.List.{flat_map}
use Rattle.std.proofs.lemmas.Result.{on_ok_weaker}
use Rattle.lbk_feed.proofs.Appended.{HasPut-within, on_err, refused-within}
use Rattle.lbk_passage.specs.Lines.{part, segment_line, word_line}
use Rattle.lbk_passage.proofs.Places.{front_then}
use Rattle.lbk_passage.proofs.lines.push_segmented.Goals as goal

joined : (old front segments words : List ℕ) → ((old ++ ((front ++ 10 ∷ []) ++ [])) ++ segments) ++ words ≡ old ++ (front ++ (10 ∷ (segments ++ words)))
joined old front segments words = simp (append_assoc, append-nil)

begun : (front more : List ℕ) → ((front ++ 10 ∷ []) ++ []) ++ more ≡ front ++ 10 ∷ more
begun front more = simp (append_assoc, append-nil)

pub returns-in_err-push_lines-clause-refused : goal.returns-in_err-push_lines-clause-refused
returns-in_err-push_lines-clause-refused c =
    let p = c.args.passage.now in
    let old = c.args.out.now.items in
    let front = part (80 ∷ []) p.start (p.start + length p.text.now) in
    let more = flat_map (segment_line p.start) p.segments.now ++ flat_map (word_line p.start) p.pieces.now in
    on_err c.from_residual.result
    (HasPut-within old old c.push_lines.new.out.items ((front ++ 10 ∷ []) ++ []) more (front ++ 10 ∷ more) c.in_err-push_lines.ensures.refused
    (ap (λ l. old ++ l) (begun front more)) (omega arith))

pub returns-in_err-push_lines-2-clause-refused : goal.returns-in_err-push_lines-2-clause-refused
returns-in_err-push_lines-2-clause-refused c =
    let p = c.args.passage.now in
    let old = c.args.out.now.items in
    let front = part (80 ∷ []) p.start (p.start + length p.text.now) in
    let segments = flat_map (segment_line p.start) p.segments.now in
    let words = flat_map (word_line p.start) p.pieces.now in
    let first = c.in_ok-push_lines.ensures.adds.all in
    on_err c.from_residual-in_err-push_lines-2.result
    (HasPut-within old c.push_lines.new.out.items c.push_lines-2.new.out.items segments words (front ++ 10 ∷ (segments ++ words)) c.in_err-push_lines-2.ensures.refused
    (ap (λ l. l ++ (segments ++ words)) first ∙ sym (append_assoc (old ++ ((front ++ 10 ∷ []) ++ [])) segments words) ∙ joined old front segments words)
    (omega (arith, ap length first, length-append old ((front ++ 10 ∷ []) ++ []))))

pub returns : goal.returns
returns c =
    let p = c.args.passage.now in
    let old = c.args.out.now.items in
    let one = c.push_lines.new.out.items in
    let more = c.push_lines-2.new.out.items in
    let front = part (80 ∷ []) p.start (p.start + length p.text.now) in
    let segments = flat_map (segment_line p.start) p.segments.now in
    let words = flat_map (word_line p.start) p.pieces.now in
    let first : one ≡ old ++ ((front ++ 10 ∷ []) ++ []) = c.in_ok-push_lines.ensures.adds.all in
    let second : more ≡ (old ++ ((front ++ 10 ∷ []) ++ [])) ++ segments = c.in_ok-push_lines-2.ensures.adds.all ∙ ap (λ l. l ++ segments) first in
    let whole : more ++ words ≡ old ++ (front ++ (10 ∷ (segments ++ words))) = ap (λ l. l ++ words) second ∙ joined old front segments words in
    record {
      adds = record {
        all = on_ok_weaker c.push_lines-3.result (λ is. is ∙ whole) c.push_lines-3.ensures.adds.all;
        kept = front_then old more _ (front_then old one more c.push_lines.ensures.adds.kept c.push_lines-2.ensures.adds.kept) c.push_lines-3.ensures.adds.kept;
      };
      refused =
          refused-within c.push_lines-3.result old more c.push_lines-3.new.out.items words _ c.push_lines-3.ensures.refused whole
          (omega (arith, ap length second, length-append (old ++ ((front ++ 10 ∷ []) ++ [])) segments, length-append old ((front ++ 10 ∷ []) ++ [])));
    }
