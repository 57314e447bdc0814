use Rattle.std.proofs.Common.{arith}
use Rattle.lbk_words.proofs.StepLemmas.{first-in_row}
use Rattle.lbk_words.proofs.parts.begun.Goals as goal

pub returns : goal.returns
returns c = λ out room.
    let first = c.scalar_at-first in
    record {
      onward = (omega arith, omega arith);
      within = (first.ensures.within, omega (arith, room));
      some = first.ensures.grows;
      few = c.first_row.ensures.few;
      filling = λ start filled. record {
        filled = filled;
        reads = first-in_row c.args.text.now c.args.here.at first.result.code first.result.end c.first_row.result first.ensures c.first_row.ensures;
      };
    }
