-- What is found of the bytes of a text that were looked at: the first ones, up to some place.
use Rattle.std.specs.Prelude.{◌≡◌, ℕ, ◌<◌, ◌&&◌, Bool, List, get_or, bit_and, nat_le, nat_lt}
use Rattle.lbk_masks.specs.declared.ByteSets.{ByteSets}
use Rattle.lbk_masks.specs.declared.found.Edges.{Edges}
use Rattle.lbk_masks.specs.declared.found.Found.{Found}
use Rattle.lbk_masks.specs.Sets.{is_set, left_before, meets, right_in}

-- the bits below a place say whether something is so, and no other is set
abbrev pub AreBits : ℕ → (ℕ → Bool) → ℕ → Type 0
AreBits known is bits = (i : ℕ) → i < 64 → is_set bits i ≡ (nat_lt i known && is i)

pub record AreEdges (text : List ℕ) (known : ℕ) (edges : Edges) : Type 0 where
  pub wide : AreBits known (λ i. nat_le 128 (get_or text i 0)) edges.wide
  pub first : AreBits known (λ i. nat_le 192 (get_or text i 0)) edges.first

-- `before` is the left set of what stands before the text
pub record AreFound (sets : ByteSets) (before : ℕ) (text : List ℕ) (known : ℕ) (found : Found) : Type 0 where
  pub standing : AreBits known (λ i. meets (left_before sets before text i) (right_in sets (get_or text i 0)))
      found.standing
  pub special : AreBits known (λ i. meets (left_before sets before text i)
      (bit_and (right_in sets (get_or text i 0)) 3)) found.special
  pub edges : AreEdges text known found.edges
