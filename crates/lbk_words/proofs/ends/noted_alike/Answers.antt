use Rattle.unicode_segmentation.specs.Word.{significant, value_at}
use Rattle.lbk_words.specs.Words.{scalars_on}
use Rattle.lbk_words.proofs.ends.noted_alike.Goals as goal

pub returns-clause-next : goal.returns-clause-next
returns-clause-next g c =
    let scalar = c.in_ok-scalar.scalar in
    record {
      read = c.in_ok-scalar.ensures;
      step = c.step_of_kind-step.ensures c.if-step.false scalar.code (value_at (significant (scalars_on c.args.text.now scalar.end)) 0)
          (record { few = scalar.few; is = (c.in_ok-told.ensures.told c.requires.met.0 c.requires.met.1).kind });
    }

pub returns-clause-told : goal.returns-clause-told
returns-clause-told g c = λ letter met. (c.in_ok-told.ensures.told letter met).is_letter
