-- How far a call has come with a piece.
use Rattle.std.proofs.Common.{◌≡◌, ℕ, ◌+◌, ◌-◌, ◌%◌, ◌^◌, ◌<◌, ◌≤◌, Bool, true, false, cond, not, List, [], ◌∷◌, ◌++◌, length, map, drop, take, append_assoc, refl, sym, ap, subst, ◌∙◌, length-append, length-drop, arith}
use Rattle.std.proofs.lemmas.Bool.{false≢true}
use Rattle.std.proofs.lemmas.List.{drop-append-le, drop-drop, length-take-le, map-append, take-append-drop, take-append-le}
use Rattle.std.proofs.Math.Seq.{take-append-add}
use Rattle.bstr.specs.Utf8.{Decoded, or_replacement}
use Rattle.lbk_rules.specs.declared.Break.{Break}
use Rattle.lbk_rules.specs.declared.Cell.{Cell}
use Rattle.lbk_values.specs.declared.profile.Profile.{Profile}
use Rattle.lbk_bytes.specs.declared.raw_break.RawBreak.{RawBreak}
use Rattle.lbk_bytes.specs.declared.unit.UnitScalar.{UnitScalar}
use Rattle.lbk_units.specs.Front.{IsFront}
use Rattle.lbk_streams.specs.declared.stream.Cut.{Cut}
use Rattle.lbk_streams.specs.declared.stream.Feeding.{Feeding}
use Rattle.lbk_streams.specs.declared.stream.StreamPosition.{StreamPosition}
use Rattle.lbk_bytes.specs.Shown.{given_in, shown}
use Rattle.lbk_streams.specs.Stands.{Ahead, Feeds, Stands, front_of, listed}

-- a test turned round
pub not-true : (test : Bool) → not test ≡ true → test ≡ false
not-true true fails = absurd (false≢true fails)
not-true false _ = refl

pub not-false : (test : Bool) → not test ≡ false → test ≡ true
not-false true _ = refl
not-false false fails = absurd (false≢true (sym fails))

-- where no unit was cut
pub none-cut : {A : Type 0} (cut : Cut A) (rest : List A) → cut.size ≡ 0 → front_of cut ++ rest ≡ rest
none-cut cut rest zero = ap (λ n. take n (listed cut.units) ++ rest) zero

-- what a scalar at the front of some units leaves
pub record IsTaken {A : Type 0} (pieces_of : List A → List Decoded) (units : List A) (found : UnitScalar) (place next : StreamPosition) (passed : Bool) (profile : Profile) (cell : ℕ → Cell) (all : Ahead) (after : List Break) : Type 0 where
  pub passes : passed ≡ true → (next.at ≡ (place.at + found.size) % 2 ^ 64) × Stands profile cell next (pieces_of (drop found.size units)) all after
  pub stays : passed ≡ false → (next.at ≡ place.at) × Stands profile cell next (pieces_of units) all after

pub is-taken : {A : Type 0} (pieces_of : List A → List Decoded) (units : List A) (found : UnitScalar) (place next : StreamPosition) (passed : Bool) (profile : Profile) (cell : ℕ → Cell) (all : Ahead) (given after : List Break)
    → IsFront pieces_of units found → place.at + length units < 2 ^ 64
    → next.at ≡ cond passed ((place.at + found.size) % 2 ^ 64) place.at
    → ((p : Decoded) (ps : List Decoded) → found.scalar ≡ or_replacement p.char → found.size ≡ p.size → 0 < found.size → place.at + found.size < 2 ^ 64
    → Stands profile cell place (p ∷ ps) all given → Stands profile cell next (cond passed ps (p ∷ ps)) all after)
    → Stands profile cell place (pieces_of units) all given
    → IsTaken pieces_of units found place next passed profile cell all after
is-taken pieces_of units found place next passed profile cell all given after front fits moved step s =
    let ps = pieces_of (drop found.size units) in
    let taken = step front.piece ps (sym front.reads) (sym front.sized) front.some (omega (arith, front.within))
    (subst (λ l. Stands profile cell place l all given) front.begins s) in
    record {
      passes = λ yes. (
        moved ∙ ap (λ b. cond b ((place.at + found.size) % 2 ^ 64) place.at) yes,
        subst (λ b. Stands profile cell next (cond b ps (front.piece ∷ ps)) all after) yes taken,
      );
      stays = λ no. (
        moved ∙ ap (λ b. cond b ((place.at + found.size) % 2 ^ 64) place.at) no,
        subst (λ l. Stands profile cell next l all after) (sym front.begins)
            (subst (λ b. Stands profile cell next (cond b ps (front.piece ∷ ps)) all after) no taken),
      );
    }

module _ {A : Type 0} (pieces_of : List A → List Decoded) (profile : Profile) (cell : ℕ → Cell) (base : ℕ) (piece more : List A) where
  -- the scalar in front of the units that were cut is taken
  pub Feeds-cut : (here : Feeding A) (place : StreamPosition) (cut : Cut A) (count : ℕ) (found : UnitScalar) (all : Ahead) (given after : List Break)
      → found.size ≤ length (front_of here.cut) → front_of cut ≡ drop found.size (front_of here.cut) → cut.size + found.size ≡ here.cut.size
      → (place.at ≡ (here.place.at + found.size) % 2 ^ 64)
      × Stands profile cell place (pieces_of (drop found.size (front_of here.cut ++ (drop here.taken piece ++ more)))) all after
      → Feeds pieces_of profile cell base piece more here all given
      → Feeds pieces_of profile cell base piece more (record { place = place; cut = cut; taken = here.taken; count = count }) all after
  Feeds-cut here place cut count found all given after within left sizes taken f =
      let size = found.size in
      let rest = drop here.taken piece ++ more in
      let whole = front_of here.cut ++ rest in
      let long : length whole ≡ length (front_of here.cut) + length rest = length-append (front_of here.cut) rest in
      let fits = f.fits in
      let seen = f.seen in
      let at = taken.0 in
      let units : drop size whole ≡ front_of cut ++ rest = drop-append-le size (front_of here.cut) rest within ∙ ap (λ l. l ++ rest) (sym left) in
      let longer : length (front_of cut ++ rest) ≡ length whole - size = ap length (sym units) ∙ length-drop size whole in
      record {
        stands = subst (λ l. Stands profile cell place (pieces_of l) all after) units taken.1;
        fits = omega arith;
        seen = omega arith;
      }

  -- it is not, as the block is full
  pub Feeds-stay : (here : Feeding A) (place : StreamPosition) (count : ℕ) (all : Ahead) (given after : List Break)
      → (place.at ≡ here.place.at) × Stands profile cell place (pieces_of (front_of here.cut ++ (drop here.taken piece ++ more))) all after
      → Feeds pieces_of profile cell base piece more here all given
      → Feeds pieces_of profile cell base piece more (record { place = place; cut = here.cut; taken = here.taken; count = count }) all after
  Feeds-stay here place count all given after taken f =
      let fits = f.fits in
      let seen = f.seen in
      let at = taken.0 in
      record { stands = taken.1; fits = omega arith; seen = omega arith }

  -- a unit of the piece is put behind those that were cut
  pub Feeds-unit : (here : Feeding A) (cut : Cut A) (unit : A) (all : Ahead) (given : List Break)
      → drop here.taken piece ≡ unit ∷ drop (here.taken + 1) piece → front_of cut ≡ front_of here.cut ++ unit ∷ [] → cut.size ≡ here.cut.size + 1
      → Feeds pieces_of profile cell base piece more here all given
      → Feeds pieces_of profile cell base piece more (record { place = here.place; cut = cut; taken = here.taken + 1; count = here.count }) all given
  Feeds-unit here cut unit all given begins longer sizes f =
      let next = drop (here.taken + 1) piece in
      let seen = f.seen in
      let units : front_of here.cut ++ (drop here.taken piece ++ more) ≡ front_of cut ++ (next ++ more) =
      ap (λ l. front_of here.cut ++ (l ++ more)) begins ∙ sym (append_assoc (front_of here.cut) (unit ∷ []) (next ++ more)) ∙ ap (λ l. l ++ (next ++ more)) (sym longer) in
      record {
        stands = subst (λ l. Stands profile cell here.place (pieces_of l) all given) units f.stands;
        fits = subst (λ l. here.place.at + length l < 2 ^ 64) units f.fits;
        seen = omega arith;
      }

  -- a scalar of the piece is taken
  pub Feeds-run : (here : Feeding A) (place : StreamPosition) (count : ℕ) (found : UnitScalar) (all : Ahead) (given after : List Break)
      → here.cut.size ≡ 0 → here.taken + found.size ≤ length piece
      → (place.at ≡ (here.place.at + found.size) % 2 ^ 64) × Stands profile cell place (pieces_of (drop found.size (drop here.taken piece ++ more))) all after
      → Feeds pieces_of profile cell base piece more here all given
      → Feeds pieces_of profile cell base piece more (record { place = place; cut = here.cut; taken = here.taken + found.size; count = count }) all after
  Feeds-run here place count found all given after none within taken f =
      let size = found.size in
      let rest = drop here.taken piece ++ more in
      let next = drop (here.taken + size) piece ++ more in
      let long : length (front_of here.cut ++ rest) ≡ length rest = ap length (none-cut here.cut rest none) in
      let longer : length rest ≡ length (drop here.taken piece) + length more = length-append (drop here.taken piece) more in
      let left = length-drop here.taken piece in
      let fits = f.fits in
      let seen = f.seen in
      let at = taken.0 in
      let same : drop size rest ≡ front_of here.cut ++ next =
      drop-append-le size (drop here.taken piece) more (omega arith)
      ∙ ap (λ l. l ++ more) (drop-drop size here.taken piece) ∙ sym (none-cut here.cut next none) in
      let shorter : length (front_of here.cut ++ next) ≡ length rest - size = ap length (sym same) ∙ length-drop size rest in
      record {
        stands = subst (λ l. Stands profile cell place (pieces_of l) all after) same taken.1;
        fits = omega arith;
        seen = omega arith;
      }

  -- it is not, as the block is full, and is kept
  pub Feeds-kept : (here : Feeding A) (place : StreamPosition) (cut : Cut A) (count size : ℕ) (all : Ahead) (given after : List Break)
      → here.cut.size ≡ 0 → here.taken + size ≤ length piece → front_of cut ≡ take size (drop here.taken piece) → cut.size ≡ size
      → (place.at ≡ here.place.at) × Stands profile cell place (pieces_of (drop here.taken piece ++ more)) all after
      → Feeds pieces_of profile cell base piece more here all given
      → Feeds pieces_of profile cell base piece more (record { place = place; cut = cut; taken = here.taken + size; count = count }) all after
  Feeds-kept here place cut count size all given after none within is sizes taken f =
      let rest = drop here.taken piece ++ more in
      let next = drop (here.taken + size) piece in
      let seen = f.seen in
      let fits = f.fits in
      let at = taken.0 in
      let split : drop here.taken piece ≡ front_of cut ++ next =
      sym (take-append-drop size (drop here.taken piece)) ∙ ap (λ l. l ++ drop size (drop here.taken piece)) (sym is)
      ∙ ap (λ l. front_of cut ++ l) (drop-drop size here.taken piece) in
      let units : rest ≡ front_of cut ++ (next ++ more) = ap (λ l. l ++ more) split ∙ append_assoc (front_of cut) next more in
      let long : length (front_of here.cut ++ rest) ≡ length (front_of cut ++ (next ++ more)) = ap length (none-cut here.cut rest none ∙ units) in
      record {
        stands = subst (λ l. Stands profile cell place (pieces_of l) all after) units taken.1;
        fits = omega arith;
        seen = omega arith;
      }

-- the breaks in the front of a block, and those put behind them
pub given-behind : (out room others : List RawBreak) (count more : ℕ) → count ≤ length out → more ≤ length room
    → given_in (take count out ++ (room ++ others)) (count + more) ≡ given_in out count ++ given_in room more
given-behind out room others count more within few =
    ap (λ n. given_in (take count out ++ (room ++ others)) (n + more)) (sym (length-take-le count out within))
    ∙ ap (map shown) (take-append-add (take count out) (room ++ others) more)
    ∙ map-append shown (take count out) (take more (room ++ others))
    ∙ ap (λ l. given_in out count ++ map shown l) (take-append-le more room others few)
