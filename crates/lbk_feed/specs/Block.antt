-- What a block holds, and what a read into it does.
use Rattle.std.specs.Prelude.{◌≡◌, ℕ, List, ◌++◌, length, take, slice_range, Option, Result, MatchResult}
use Rattle.std.specs.Io.KnownBytes.{Consumes, IsAtEnd}
use Rattle.lbk_feed.specs.declared.block.Block.{Block}
use Rattle.lbk_feed.specs.Devices.{KeepsIfTold}

-- the bytes that the block holds
abbrev pub items : Block → List ℕ
items b = slice_range b.bytes b.start b.end

-- the bytes before these that it still has
abbrev pub used : Block → List ℕ
used b = take b.start b.bytes

-- n bytes were moved from the front of those unread to the end of those held; 0 only at the end
pub record Gives (old new : List ℕ) (before after : Option (List ℕ)) (n : ℕ) : Type 0 where
  pub got : List ℕ
  pub count : length got ≡ n
  pub held : new ≡ old ++ got
  pub taken : Consumes before after got
  pub at_end : n ≡ 0 → IsAtEnd after

-- a read into the block that returned r
abbrev pub Fills : {E : Type 0} → List ℕ → List ℕ → Option (List ℕ) → Option (List ℕ) → Result ℕ E → Type 0
Fills old new before after r = MatchResult r (Gives old new before after) (λ _. (new ≡ old) × KeepsIfTold before after)
