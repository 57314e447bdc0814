-- How far the held bytes are well-formed, within the size limit of a text, and what follows.
use Rattle.std.specs.Prelude.{◌≡◌, ℕ, ◌-◌, ◌≤◌, Bool, true, List, [], ◌∷◌, take, is_some, if◌then◌else◌}
use Rattle.std.specs.Str.Lossy.{utf8_valid_len, utf8_error_len}
use Rattle.lbk_feed.specs.declared.judge.Stop.{Stop}
use Rattle.lbk_feed.specs.declared.judge.Stop.TheVariants.{Whole, Cut, Faulty}
use Rattle.lbk_feed.specs.Text.{longest_text, after_prefix}

-- the held bytes within the size limit of a text, after `given` others
abbrev pub in_reach : ℕ → List ℕ → List ℕ
in_reach given held = take (longest_text - given) held

-- what follows a longest well-formed prefix
abbrev pub stop_of : List ℕ → Stop
stop_of [] = Whole
stop_of (x ∷ xs) = if is_some (utf8_error_len (x ∷ xs)) then Faulty else Cut

-- the numbers kept with the held bytes say how far they are well-formed; after a fault nothing is ready
pub record IsJudged (held : List ℕ) (given ready_len : ℕ) (stop : Stop) (is_spent : Bool) : Type 0 where
  pub within : given ≤ longest_text
  pub ready : ready_len ≡ utf8_valid_len (in_reach given held)
  pub stop_is : stop ≡ stop_of (after_prefix (in_reach given held))
  pub spent : is_spent ≡ true → ready_len ≡ 0
