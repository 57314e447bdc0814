-- Bytes taken from the front of what is unread, read by read.
use Rattle.std.proofs.Common.{◌≡◌, ℕ, Bool, true, false, List, [], ◌++◌, Option, None, Some, refl, sym, ap, ◌∙◌, append_assoc}
use Rattle.std.specs.Io.KnownBytes.{Consumes, Keeps, prepend_known}
use Rattle.std.proofs.lemmas.List.{append_cancel_left}
use Rattle.lbk_feed.specs.Devices.{KeepsIfTold}
use Rattle.lbk_feed.specs.declared.faults.FeedFault.{FeedFault}
use Rattle.lbk_feed.specs.declared.faults.FeedFault.TheVariants.{Read, NotUtf8, TextTooLong, Spent}
use Rattle.lbk_feed.specs.View.{View, BeginsWith, Steps}
use Rattle.lbk_feed.specs.Intake.{KeepsAfter}
use Rattle.lbk_feed.specs.Runs.{Took, is_failed_read}

pub Consumes-nil : (a : Option (List ℕ)) → Consumes a a []
Consumes-nil None = tt
Consumes-nil (Some x) = refl

pub Consumes-trans : (a b c : Option (List ℕ)) (bs cs : List ℕ) → Consumes a b bs → Consumes b c cs → Consumes a c (bs ++ cs)
Consumes-trans None b c bs cs p q = tt
Consumes-trans (Some x) None c bs cs p q = absurd p
Consumes-trans (Some x) (Some y) None bs cs p q = absurd q
Consumes-trans (Some x) (Some y) (Some z) bs cs p q = p ∙ ap (λ l. bs ++ l) q ∙ sym (append_assoc bs cs z)

pub BeginsWith-after : (a b : Option (List ℕ)) (bs cs : List ℕ) → Consumes a b bs → BeginsWith cs b → BeginsWith (bs ++ cs) a
BeginsWith-after None b bs cs p q = tt
BeginsWith-after (Some x) None bs cs p q = absurd p
BeginsWith-after (Some x) (Some y) bs cs p q = (q.0, p ∙ ap (λ l. bs ++ l) q.1 ∙ sym (append_assoc bs cs q.0))

pub KeepsAfter-after : (a b c : Option (List ℕ)) (bs cs : List ℕ) → Consumes a b bs → KeepsAfter cs b c → KeepsAfter (bs ++ cs) a c
KeepsAfter-after None b c bs cs p q = tt
KeepsAfter-after (Some x) None c bs cs p q = absurd p
KeepsAfter-after (Some x) (Some y) None bs cs p q = tt
KeepsAfter-after (Some x) (Some y) (Some z) bs cs p q = append_assoc bs cs z ∙ ap (λ l. bs ++ l) q ∙ sym p

pub KeepsAfter-none : (before after : Option (List ℕ)) → KeepsIfTold before after → KeepsAfter [] before after
KeepsAfter-none None after told = tt
KeepsAfter-none (Some xs) None told = tt
KeepsAfter-none (Some xs) (Some ys) told = told

pub BeginsWith-none : (known : Option (List ℕ)) → BeginsWith [] known
BeginsWith-none None = tt
BeginsWith-none (Some xs) = (xs, refl)

-- a run that reads nothing
pub Took-none : (before : Option (List ℕ)) → Took false before before []
Took-none before = Consumes-nil before

-- a run that begins with a read that fails
pub Took-failed : (before after : Option (List ℕ)) → KeepsIfTold before after → Took true before after []
Took-failed before after told = (BeginsWith-none before, KeepsAfter-none before after told)

-- a read that does not fail, and then the rest of a run
pub Took-then : (failed : Bool) (before between after : Option (List ℕ)) (bs cs : List ℕ) → Consumes before between bs → Took failed between after cs
    → Took failed before after (bs ++ cs)
Took-then false before between after bs cs first rest = Consumes-trans before between after bs cs first rest
Took-then true before between after bs cs first rest =
    (BeginsWith-after before between bs cs first rest.0, KeepsAfter-after before between after bs cs first rest.1)

-- bytes that joined those held, where the bytes ahead stayed as they were, came from those unread
module _ (held held' got : List ℕ) (grown : held' ≡ held ++ got) where
  behind : (xs ys : List ℕ) → held ++ xs ≡ held' ++ ys → xs ≡ got ++ ys
  behind xs ys same = append_cancel_left held xs (got ++ ys) (same ∙ ap (λ l. l ++ ys) grown ∙ append_assoc held got ys)

  pub kept_took : (before after : Option (List ℕ)) → Keeps (prepend_known held before) (prepend_known held' after) → Consumes before after got
  kept_took None after kept = tt
  kept_took (Some xs) None kept = absurd kept
  kept_took (Some xs) (Some ys) kept = behind xs ys (sym kept)

  pub begun_took : (before : Option (List ℕ)) → BeginsWith held' (prepend_known held before) → BeginsWith got before
  begun_took None begins = tt
  begun_took (Some xs) begins = (begins.0, behind xs begins.0 begins.1)

  pub told_took : (before after : Option (List ℕ)) → KeepsIfTold (prepend_known held before) (prepend_known held' after) → KeepsAfter got before after
  told_took None after told = tt
  told_took (Some xs) None told = tt
  told_took (Some xs) (Some ys) told = sym (behind xs ys (sym told))

-- what the reads of a feed's call took from its reader are the bytes that joined those held
pub Steps-took : (old new : View) (before after : Option (List ℕ)) (fault : Option FeedFault) (steps : Steps old new before after fault)
    → Took (is_failed_read fault) before after steps.got
Steps-took old new before after None steps = kept_took _ _ _ steps.grown before after steps.ahead_kept
Steps-took old new before after (Some Read) steps =
    (begun_took _ _ _ steps.grown before steps.begins, told_took _ _ _ steps.grown before after steps.ahead_kept)
Steps-took old new before after (Some (NotUtf8 at)) steps = kept_took _ _ _ steps.grown before after steps.ahead_kept
Steps-took old new before after (Some TextTooLong) steps = kept_took _ _ _ steps.grown before after steps.ahead_kept
Steps-took old new before after (Some Spent) steps = kept_took _ _ _ steps.grown before after steps.ahead_kept
