use Rattle.std.proofs.Common.{ℕ, Bool, true, false, ◌≡◌, ◌||◌, refl, sym, ap, subst, ◌∙◌, arith}
use Rattle.lbk_words.specs.Ends.{IsNoted}
use Rattle.lbk_words.proofs.PartLemmas.{noted-more}
use Rattle.lbk_words.proofs.StepLemmas.{row-goes-on}
use Rattle.lbk_words.proofs.ends.read_joined.Goals as goal

turned : (a b : Bool) → (a || b) ≡ (b || a)
turned true true = refl
turned true false = refl
turned false true = refl
turned false false = refl

pub joined-preserved : goal.joined-preserved
joined-preserved c =
    let i = c.joined.invariant in
    let here = c.joined.here in
    let text = c.args.text.now in
    let start = c.args.from.start in
    let noted = c.in-Some.noted in
    let next = c.in-Some.ensures.next in
    record {
      place = (omega (arith, i.place.0, next.read.grows), next.read.within, next.step.next);
      same = i.same;
      reads = λ letter met part is.
          let so_far = i.reads letter met part is in (
            row-goes-on text start here.at here.row noted.next.code noted.next.end noted.next.step so_far.0 next.read next.step c.if-step.false,
            subst (IsNoted letter text start noted.next.end)
                (turned here.has_letter (letter noted.next.code) ∙ ap (λ b. b || here.has_letter) (sym (c.in-Some.ensures.told letter met)))
                (noted-more letter text start here.at noted.next.code noted.next.end here.has_letter so_far.1 next.read),
          );
    }
