use Rattle.std.proofs.Common.{Bool, true, false, ◌≡◌, ◌≤◌, List, ℕ, refl, sym}
use Rattle.std.specs.List.{All, list_any}
use Rattle.lbk_masks.specs.Bits.{is_marked}
use Rattle.lbk_ucd.specs.declared.ranges.Row.{Row}
use Rattle.lbk_ucd.specs.Ranges.{AreMarked, IsRange}
use Rattle.lbk_ucd.specs.Rows.{shares}
use Rattle.lbk_ucd.proofs.OverlayLemmas.{shares_marked, shares_unmarked}
use Rattle.lbk_ucd.proofs.gathered.Gathered.any_shares.Goals as goal

-- by whether a code of the range is marked
told : {V : Type 0} (rows : List (Row V)) (words : List ℕ) (first last : ℕ) (found : Bool) → All IsRange rows → AreMarked rows words → first ≤ last
    → (found ≡ true → (k : ℕ) × (first ≤ k) × (k ≤ last) × (is_marked words k ≡ true))
    → (found ≡ false → (k : ℕ) → first ≤ k → k ≤ last → is_marked words k ≡ false)
    → found ≡ list_any (shares first last) rows
told rows words first last true ranges marked rises one other =
    let here = one refl in
    sym (shares_marked rows words first last here.0 marked here.1 here.2 here.3)
told rows words first last false ranges marked rises one other = sym (shares_unmarked rows words first last ranges marked rises (other refl))

pub returns-else-is_unused : goal.returns-else-is_unused
returns-else-is_unused g c =
    let self = c.args.self.now in
    told self.rows.items self.taken.words.items c.args.span.first c.args.span.last c.any.result self.ranges (self.marked (c.is_unused.ensures.no c.if-is_unused.false)) c.args.span.rises c.any.ensures.yes c.any.ensures.no
