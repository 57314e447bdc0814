-- A paragraph that is lent of its feed.
use Rattle.std.specs.Prelude.{◌≡◌, ℕ, ◌≤◌, true, length}
use Rattle.std.specs.Str.{is_utf8}
use Rattle.lbk_feed.specs.View.{View, last_used}

-- the last so many of the consumed bytes are still at hand, and are a text within the limit; none are where nothing is lent
pub record IsLent (lent limit : ℕ) (feed : View) : Type 0 where
  pub within : lent ≤ limit
  pub given : lent ≤ feed.given
  pub at_hand : lent ≤ length feed.behind
  pub utf8 : is_utf8 (last_used feed lent) ≡ true
