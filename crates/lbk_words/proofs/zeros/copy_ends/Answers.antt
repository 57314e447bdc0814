use Rattle.std.proofs.Common.{◌≡◌, ◌+◌, ◌-◌, ◌++◌, drop, length, take, ap, sym, ◌∙◌, append_assoc, arith}
use Rattle.std.proofs.lemmas.List.{drop-drop, length-drop, length-take-le, take-append-drop, take-append-le, take-take, take_all}
use Rattle.std.proofs.lemmas.Slice.{drop-append-drop}
use Rattle.lbk_words.proofs.zeros.copy_ends.Goals as goal

pub returns : goal.returns
returns g c =
    let text = c.args.text.now in
    let out = c.args.out.now in
    let size = g.row.SIZE in
    let from = length text - size in
    let front = c.copy_from_slice.new.self in
    let long : length front ≡ size =
    ap length c.copy_from_slice.ensures.after ∙ length-take-le size text c.requires.size.0 in
    let first : take from (front ++ drop size out) ≡ take from text =
    take-append-le from front (drop size out) (omega (arith, long, c.requires.size))
    ∙ ap (take from) c.copy_from_slice.ensures.after ∙ take-take from size text (omega (arith, c.requires.size)) in
    let last : c.copy_from_slice-2.new.self ≡ drop from text =
    c.copy_from_slice-2.ensures.after
    ∙ take_all (length text - from) (drop from text) (omega (arith, length-drop from text)) in
    let whole : from + (length text - from) ≡ length text = omega (arith, c.requires.size) in
    let rest : drop (length text - from) (drop from (front ++ drop size out)) ≡ drop (length text) out =
    drop-drop (length text - from) from (front ++ drop size out)
    ∙ ap (λ n. drop n (front ++ drop size out)) whole
    ∙ drop-append-drop size out front (length text) c.requires.size.0 long in
    (λ i. first i ++ (last i ++ rest i))
    ∙ sym (append_assoc (take from text) (drop from text) (drop (length text) out))
    ∙ ap (λ l. l ++ drop (length text) out) (take-append-drop from text)
