-- Lists that grow, and the room that they have: each set of clauses once.
use Rattle.std.specs.Prelude.{◌≡◌, ℕ, ◌+◌, ◌*◌, ◌≤◌, max, Result, OnErr, OnOk, vec_capacity, vec_len}
use Rattle.lbk_passage.specs.declared.front.Front.{Front}
use Rattle.lbk_passage.specs.Front.{items_of}

-- items were put behind those that counted, if any: the room that was there stays, and there is room for at most twice
-- as many as count now
pub record Grows {X : Type 0} (old new : Front X) : Type 0 where
  pub room : vec_capacity old.items ≤ vec_capacity new.items
  pub most : vec_capacity new.items ≤ max (vec_capacity old.items) (2 * new.count)
  pub onward : old.count ≤ new.count

-- there are so many items behind those that count, which stay as they are, or no room could be had for them
pub record MakesRoom {X Y E : Type 0} (old new : Front X) (more : ℕ) (r : Result Y E) : Type 0 where
  pub items : items_of new ≡ items_of old
  pub count : new.count ≡ old.count
  pub kept : vec_capacity old.items ≤ vec_capacity new.items
  pub room : OnOk r (old.count + more ≤ vec_len new.items)
  pub most : OnOk r (vec_capacity new.items ≤ max (vec_capacity old.items) (2 * (old.count + more)))
  pub refused : OnErr r (vec_capacity new.items ≡ vec_capacity old.items)
