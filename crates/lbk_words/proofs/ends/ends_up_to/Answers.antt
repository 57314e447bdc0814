use Rattle.std.proofs.Common.{ℕ, ◌-◌, ◌++◌, List, get_or, length, min, replicate, ap, ap₂, ◌∙◌, arith}
use Rattle.std.proofs.lemmas.List.{drop-replicate}
use Rattle.lbk_words.proofs.SameLemmas.{ends-same, same-padded}
use Rattle.lbk_words.proofs.ends.ends_up_to.Goals as goal

pub returns : goal.returns
returns g c =
    let text = c.args.text.now in
    let size = g.row.N in
    let found = c.ends_in.ensures in
    let front = text ++ replicate (size - length text) 0 in
    let is = ap₂ (λ (a b : List ℕ). a ++ b) (c.copy_from_slice.ensures.after ∙ c.with_zeros-front.ensures) (drop-replicate size 64 0) in
    let same = λ (i : ℕ). ap (λ (bytes : List ℕ). get_or bytes i 0) is ∙ same-padded front (64 - size) i ∙ same-padded text (size - length text) i in (
      min found.0 (length text),
      omega arith,
      ends-same _ text same 0 found.0 (length text) c.ends_in.result c.kept_below.result c.requires.few.1 found.1 c.kept_below.ensures,
    )
