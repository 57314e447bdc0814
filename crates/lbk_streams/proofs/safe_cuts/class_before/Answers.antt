use Rattle.std.proofs.Common.{sym, ap, ◌∙◌}
use Rattle.bstr.specs.Utf8.{Decoded, or_replacement}
use Rattle.lbk_rules.specs.declared.Cell.{Cell}
use Rattle.lbk_rules.specs.Normal.{normal}
use Rattle.lbk_streams.proofs.PieceStartLemmas.{last-begins, last-whole}
use Rattle.lbk_streams.proofs.SafeLemmas.{found, found-last}
use Rattle.lbk_streams.proofs.safe_cuts.class_before.Goals as goal

pub returns-clause-last : goal.returns-clause-last
unfolding normal
returns-clause-last g c = λ cell are_kinds.
    let r = c.decode_last_lossy-c.result in
    let f = found c.args.text.now c.args.place r.0 r.1 c.requires.some c.requires.within c.decode_last_lossy-c.ensures.last in
    found-last cell c.args.text.now c.args.place r.0 r.1 c.cell_by_kind.result.class f (ap (λ (x : Cell). x.class) (c.cell_by_kind.ensures cell are_kinds))

pub returns-clause-first : goal.returns-clause-first
unfolding normal
returns-clause-first g c = λ cell are_kinds.
    let r = c.decode_last_lossy-c.result in
    let f = found c.args.text.now c.args.place r.0 r.1 c.requires.some c.requires.within c.decode_last_lossy-c.ensures.last in
    let whole = last-whole c.args.text.now c.args.place (record { char = f.of; size = r.1 }) c.requires.within c.requires.begins f.last in
    ap (λ (x : Cell). x.class) (c.cell_by_kind.ensures cell are_kinds)
    ∙ ap (λ x. (cell x).class) (f.char_is ∙ ap (λ (p : Decoded). or_replacement p.char) whole)

pub returns-clause-begins : goal.returns-clause-begins
returns-clause-begins g c =
    let r = c.decode_last_lossy-c.result in
    let f = found c.args.text.now c.args.place r.0 r.1 c.requires.some c.requires.within c.decode_last_lossy-c.ensures.last in
    last-begins c.args.text.now c.args.place (record { char = f.of; size = r.1 }) c.requires.within f.last

pub returns-clause-size : goal.returns-clause-size
returns-clause-size g c =
    let r = c.decode_last_lossy-c.result in
    let f = found c.args.text.now c.args.place r.0 r.1 c.requires.some c.requires.within c.decode_last_lossy-c.ensures.last in
    let whole = last-whole c.args.text.now c.args.place (record { char = f.of; size = r.1 }) c.requires.within c.requires.begins f.last in
    sym (ap (λ (p : Decoded). p.size) whole)
