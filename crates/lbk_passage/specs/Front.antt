-- A list that is written over.
use Rattle.std.specs.Prelude.{List, take}
use Rattle.lbk_passage.specs.declared.front.Front.{Front}

-- the items that count
abbrev pub items_of : {X : Type 0} → Front X → List X
items_of f = take f.count f.items.items
