-- A clause on a result, where its variant is known or does not matter.
use Rattle.std.proofs.Common.{◌≡◌, Bool, true, false, ◌||◌, Result, Ok, Err, OnOk, OnErr, is_err, ◌∙◌}

pub OnErr-always : {T E P : Type 0} (r : Result T E) → P → OnErr r P
OnErr-always (Ok x) p = tt
OnErr-always (Err e) p = p

pub OnErr-at : {T E P : Type 0} (r : Result T E) → is_err r ≡ true → OnErr r P → P
OnErr-at (Ok x) is p = cc
OnErr-at (Err e) is p = p

pub OnOk-at : {T E P : Type 0} (r : Result T E) → is_err r ≡ false → OnOk r P → P
OnOk-at (Ok x) is p = p
OnOk-at (Err e) is p = cc

-- whether a reader has ended, after reads of which the last met the end or not
pub ended-open : (after before met : Bool) → after ≡ (before || met) → met ≡ false → after ≡ before
ended-open after true met is open_end = is
ended-open after false met is open_end = is ∙ open_end

pub ended-met : (after before met : Bool) → after ≡ (before || met) → met ≡ true → after ≡ true
ended-met after true met is end = is
ended-met after false met is end = is ∙ end
