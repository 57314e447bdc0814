-- What a step of the feed leaves of a paragraph.
use Rattle.std.proofs.Common.{◌≡◌, ℕ, Option, None, Some, Bool, true, false, ◌&&◌, ◌||◌, not, Result, Ok, Err, is_ok, is_err, is_some, refl, sym, ap, ◌∙◌}
use Rattle.std.proofs.lemmas.Bool.{false≢true}
use Rattle.lbk_feed.specs.declared.faults.FeedFault.{FeedFault}
use Rattle.lbk_feed.specs.declared.faults.FeedFault.TheVariants.{Read, NotUtf8, TextTooLong, Spent}
use Rattle.lbk_feed.specs.View.{fault_of}
use Rattle.lbk_feed.specs.View as feed
use Rattle.lbk_passage.specs.Faults.{passage_fault}
use Rattle.lbk_passage.specs.Next.{failures_with}
use Rattle.lbk_passage.proofs.Booleans.{and-false}

-- an answer has one value, and is no error besides
pub one_value : {T E : Type 0} (r : Result T E) (x y : T) → r ≡ Ok x → r ≡ Ok y → x ≡ y
one_value (Ok z) x y was is = cc
one_value (Err e) x y was is = cc

pub ok_err : {T E : Type 0} (r : Result T E) (x : T) (e : E) → r ≡ Ok x → r ≡ Err e → ⊥
ok_err r x e ok err = false≢true (sym (ap is_ok (sym ok ∙ err)))

pub true_false : {E : Type 0} (r : Result Bool E) (b : Bool) → r ≡ Ok b → b ≡ true → r ≡ Ok false → ⊥
true_false r b was is other = false≢true (sym (one_value r b false was other) ∙ is)

pub some_none : {T E : Type 0} (r : Result (Option T) E) (x : T) → r ≡ Ok (Some x) → r ≡ Ok None → ⊥
some_none r x some none = let same = one_value r (Some x) None some none in cc

-- a feed is not spent where its paragraph is not
pub feed_unspent : (feed paragraph : Bool) → (feed && not paragraph) ≡ false → paragraph ≡ false → feed ≡ false
feed_unspent false paragraph kept unspent = refl
feed_unspent true false kept unspent = kept
feed_unspent true true kept unspent = unspent

-- and is not after a call, but where that answered a fault
pub spent_together : (old new : Bool) (r : Result Bool FeedFault) → old ≡ false → new ≡ (old || is_some (fault_of r)) → (new && not (is_err r)) ≡ false
spent_together old new (Ok b) unspent is = ap (λ v. v && true) (is ∙ ap (λ v. v || false) unspent)
spent_together old new (Err e) unspent is = and-false new

-- the count of failures, by the fault that the feed answered
pub failures_alike : (n : ℕ) (e : FeedFault) → feed.failures_with n (Some e) ≡ failures_with n (Some (passage_fault e))
failures_alike n Read = refl
failures_alike n (NotUtf8 at) = refl
failures_alike n TextTooLong = refl
failures_alike n Spent = refl
