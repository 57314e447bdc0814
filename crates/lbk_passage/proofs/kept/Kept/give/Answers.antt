use Rattle.std.proofs.Common.{◌≡◌, ◌∷◌, ◌++◌, List, get_or, sym, ap, ◌∙◌, arith}
use Rattle.lbk_rules.specs.declared.Break.{Break}
use Rattle.lbk_bytes.specs.Order.{no_break}
use Rattle.lbk_bytes.specs.Shown.{raw_of, shown}
use Rattle.lbk_bytes.proofs.ShownLemmas.{shown-raw}
use Rattle.lbk_passage.specs.Found.{held_in, skipped}
use Rattle.lbk_passage.proofs.KeptLemmas.{first-behind, given-split, one-given}
use Rattle.lbk_passage.proofs.kept.Kept.give.Goals as goal

pub returns-clause-first : goal.returns-clause-first
returns-clause-first c =
    let k = c.args.self.now in
    let behind = held_in (skipped 1 k) in
    let known = c.requires.breaks 0 c.requires.some.0 in
    let there : get_or k.block k.next no_break ≡ raw_of known.0 = sym (first-behind k.block k.next) ∙ known.1 in
    let same : c.break_of-found.result ≡ shown (get_or k.block k.next no_break) = c.break_of-found.ensures known.0 there ∙ sym (ap shown there ∙ shown-raw known.0) in
    given-split k.block k.next 1 k.left (omega (arith, c.requires.some.0))
    ∙ ap (λ (l : List Break). l ++ behind) (one-given k.block k.next (omega (arith, c.requires.some)))
    ∙ ap (λ (b : Break). b ∷ behind) (sym same)
