use Rattle.std.proofs.Common.{◌≡◌, ◌-◌, ◌≤◌, vec_capacity, vec_len}
use Rattle.lbk_passage.specs.Front.{items_of}
use Rattle.lbk_passage.proofs.front.Front.lengthen.Given as goal

abbrev pub invariant-loop-filler : goal.invariant-loop-filler
invariant-loop-filler g l = record {
  items : items_of l.self ≡ items_of l.fn.self;
  count : l.self.count ≡ l.fn.self.count;
  capacity : vec_capacity l.self.items ≡ vec_capacity l.initial.self.items;
  fits : l.all ≤ vec_capacity l.self.items;
}

abbrev pub decreases-loop-filler : goal.decreases-loop-filler
decreases-loop-filler g l = vec_capacity l.self.items - vec_len l.self.items
