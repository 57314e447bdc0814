-- Lists that are written over, and room that grows in steps.
use Rattle.std.proofs.Common.{◌≡◌, ℕ, ◌+◌, ◌*◌, ◌≤◌, length, max, vec_capacity, arith}
use Rattle.std.proofs.lemmas.List.{length-take-le}
use Rattle.std.proofs.Math.Nat.{le-max_left, le-max_right, max-le}
use Rattle.lbk_passage.specs.declared.front.Front.{Front}
use Rattle.lbk_passage.specs.Front.{items_of}
use Rattle.lbk_passage.specs.Room.{Grows}

pub items-many : {X : Type 0} (f : Front X) → length (items_of f) ≡ f.count
items-many f = length-take-le f.count f.items.items (let within = f.within in let same = f.items.ok.0 in omega arith)

-- room that is at most doubled at each step is at most doubled
pub room-on : (first mid last some more : ℕ) → mid ≤ max first (2 * some) → last ≤ max mid (2 * more) → some ≤ more → last ≤ max first (2 * more)
room-on first mid last some more before after grows =
    let k : ℕ = max first (2 * more) in
    let left = le-max_left first (2 * more) in
    let right = le-max_right first (2 * more) in
    let one : max first (2 * some) ≤ k = max-le left (omega arith) in
    let two : max mid (2 * more) ≤ k = max-le (omega arith) right in
    omega arith

pub Grows-on : {X : Type 0} (first mid last : Front X) → Grows first mid → Grows mid last → Grows first last
Grows-on first mid last before after = record {
  room = omega (arith, before.room, after.room);
  most = room-on (vec_capacity first.items) (vec_capacity mid.items) (vec_capacity last.items) mid.count last.count before.most after.most after.onward;
  onward = omega (arith, before.onward, after.onward);
}

-- nothing was put behind those that a list has
pub Grows-none : {X : Type 0} (old new : Front X) → vec_capacity new.items ≡ vec_capacity old.items → new.count ≡ old.count → Grows old new
Grows-none old new room count = record {
  room = omega (arith, room);
  most = omega (arith, room, le-max_left (vec_capacity old.items) (2 * new.count));
  onward = omega (arith, count);
}

-- items were put into room that was made for some of them
pub Grows-more : {X : Type 0} (old made new : Front X) (more : ℕ) → vec_capacity old.items ≤ vec_capacity made.items
    → vec_capacity made.items ≤ max (vec_capacity old.items) (2 * (old.count + more)) → vec_capacity new.items ≡ vec_capacity made.items → old.count + more ≤ new.count
    → Grows old new
Grows-more old made new more kept most room count =
    let first = vec_capacity old.items in
    let left = le-max_left first (2 * new.count) in
    let right = le-max_right first (2 * new.count) in
    let upto : max first (2 * (old.count + more)) ≤ max first (2 * new.count) = max-le left (omega arith) in
    record {
      room = omega (arith, kept, room);
      most = omega (arith, most, room, upto);
      onward = omega (arith, count);
    }

-- items were put into room that was made for them
pub Grows-made : {X : Type 0} (old made new : Front X) (more : ℕ) → vec_capacity old.items ≤ vec_capacity made.items
    → vec_capacity made.items ≤ max (vec_capacity old.items) (2 * (old.count + more)) → vec_capacity new.items ≡ vec_capacity made.items → new.count ≡ old.count + more
    → Grows old new
Grows-made old made new more kept most room count = Grows-more old made new more kept most room (omega (arith, count))
