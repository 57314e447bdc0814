-- How far a call goes with its state, whatever it gives.
use Rattle.std.proofs.Common.{◌≡◌, ℕ, suc, ◌<◌, ◌≤◌, ◌⊎◌, inl, inr, List, refl, arith}
use Rattle.lbk_values.specs.declared.profile.Profile.{Profile}
use Rattle.lbk_bytes.specs.declared.raw_break.RawBreak.{RawBreak}
use Rattle.lbk_bytes.specs.Order.{AreInOrderBy}
use Rattle.lbk_bytes.specs.Reached.{IsInOrderBy}
use Rattle.lbk_bytes.proofs.OrderLemmas.{AreInOrder-none, AreInOrder-wider}
use Rattle.lbk_calls.specs.declared.interface.State.{State}
use Rattle.lbk_calls.specs.Calls.{Advances, GoesOver}
use Rattle.lbk_calls.specs.Coming.{IsGoing, IsSpent}
use Rattle.lbk_calls.specs.State.{plain}
use Rattle.lbk_calls.proofs.ComingLemmas.{going-few, spent-ended}

-- from a state from which some may come
pub advances-on : (profile : Profile) (old new : State) (size room result : ℕ) → IsGoing profile (plain old) size
    → new.profile ≡ old.profile → (0 < result → (old.at < new.at) ⊎ (0 < new.ended)) → old.at ≤ new.at → new.at ≤ size
    → (0 < new.ended → new.at ≡ size) → (room ≡ 0 → (result ≡ 0) × (new ≡ old))
    → Advances old new size room result
advances-on profile old new size room result going same forward onward within at_end stays = record {
  profile_same = same;
  forward = forward;
  onward = onward;
  inside = λ _. within;
  at_end = λ _. at_end;
  ended = λ ended. let unended = going.unended in absurd (omega arith);
  past = λ past. let was = going.within in absurd (omega arith);
  unknown = λ unknown. absurd (going-few profile old size going unknown);
  no_room = stays;
}

-- where nothing is given the state stays
pub advances-none : (old : State) (size room : ℕ) → Advances old old size room 0
advances-none old size room = record {
  profile_same = refl;
  forward = λ some. absurd (omega arith);
  onward = omega arith;
  inside = λ within. within;
  at_end = λ unended ended. absurd (omega arith);
  ended = λ _. (refl, refl);
  past = λ _. (refl, refl);
  unknown = λ _. (refl, refl);
  no_room = λ _. (refl, refl);
}

module _ (Is : RawBreak → Type 0) where
  -- the block is full
  pub over-full : (profile : Profile) (old new : State) (size room : ℕ) (out : List RawBreak) (result : ℕ)
      → IsGoing profile (plain old) size → new.profile ≡ old.profile → new.ended ≡ 0 → IsInOrderBy Is out result old.at new.at
      → new.at ≤ size → result ≡ room → (room ≡ 0 → new ≡ old)
      → GoesOver (AreInOrderBy Is) old new size room out result
  over-full profile old new size room out result going same unended order within full stays = record {
    advances =
        advances-on profile old new size room result going same
        (λ some. let first = order.1.within 0 some in inl (omega (arith, first.0, first.1)))
        order.0 within (λ ended. absurd (omega arith)) (λ empty. (omega arith, stays empty));
    within = omega arith;
    in_order = AreInOrder-wider out result old.at new.at (suc size) (omega arith) order.1;
    before_state = λ _. order.1;
    all = λ _ _ few. absurd (omega arith);
  }

  -- the text has ended
  pub over-ended : (profile : Profile) (old new : State) (size room : ℕ) (out : List RawBreak) (result : ℕ)
      → IsGoing profile (plain old) size → new.profile ≡ old.profile → new.ended ≡ 1 → new.at ≡ size → old.at ≤ new.at
      → result ≤ room → 0 < room → AreInOrderBy Is out result old.at (suc size)
      → GoesOver (AreInOrderBy Is) old new size room out result
  over-ended profile old new size room out result going same ended ends onward within some order = record {
    advances =
        advances-on profile old new size room result going same (λ _. inr (omega arith)) onward (omega arith) (λ _. ends)
        (λ empty. absurd (omega arith));
    within = within;
    in_order = order;
    before_state = λ unended. absurd (omega arith);
    all = λ _ _ _. omega arith;
  }

  -- from a spent state
  pub over-none : (old : State) (size room : ℕ) (out : List RawBreak) → IsSpent (plain old) size
      → GoesOver (AreInOrderBy Is) old old size room out 0
  over-none old size room out spent = record {
    advances = advances-none old size room;
    within = omega arith;
    in_order = AreInOrder-none out _ _;
    before_state = λ _. AreInOrder-none out _ _;
    all = λ few within _. spent-ended old size spent few within;
  }
