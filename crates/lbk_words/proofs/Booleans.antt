-- Tests joined by `or`.
use Rattle.std.proofs.Common.{◌≡◌, Bool, true, false, ◌&&◌, ◌||◌, refl}

pub or-false : (x : Bool) → (x || false) ≡ x
or-false true = refl
or-false false = refl

pub and-false : (x : Bool) → (x && false) ≡ false
and-false true = refl
and-false false = refl

-- neither passes
pub or_parts : (x y : Bool) → (x || y) ≡ false → (x ≡ false) × (y ≡ false)
or_parts true y none = absurd (let no : ⊥ = cc in no)
or_parts false y none = (refl, none)

pub unless : (b : Bool) → (b ≡ true → ⊥) → b ≡ false
unless true never = absurd (never refl)
unless false never = refl
