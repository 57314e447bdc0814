-- A call that takes the cuts of the next passage.
use Rattle.std.specs.Prelude.{◌≡◌, ℕ, Bool, true, false, Option, None, Some, Result, Ok, Err, List}
use Rattle.lbk_feed.specs.Devices.{Reads}
use Rattle.lbk_passage.specs.Next.{AfterNext, failures_with, fault_in}
use Rattle.lbk_passage.specs.State.{State}
use Rattle.lbk_passage.specs.declared.faults.PassageFault.{PassageFault}
use Rattle.lbk_passage.specs.declared.faults.PassageFault.TheVariants.{Memory}
use Rattle.lbk_passage.specs.declared.passage.Passage.{Passage}
use Rattle.lbk_chunk_reader.specs.declared.window.Window.{Window}
use Rattle.lbk_chunk_reader.specs.Window.{IsTaken}

-- a passage was lent and its cuts taken, unless memory could not grow; or none was lent
abbrev pub Takes : Result (Option Passage) PassageFault → Window → Window → Result Bool PassageFault → Type 0
Takes (Ok (Some p)) old new (Ok came) = (came ≡ true) × IsTaken p old new
Takes (Ok (Some p)) old new (Err fault) = fault ≡ Memory
Takes (Ok None) old new r = (r ≡ Ok false) × (new ≡ old)
Takes (Err fault) old new r = (r ≡ Err fault) × (new ≡ old)

-- a call that takes the cuts of the next passage, by what a segmenter would lend
pub record TakesNext (s t : State) (unread unread' : Option (List ℕ)) (ended ended' : Bool) (reads reads' : Reads)
    (failures failures' : ℕ)
    (old new : Window) (r : Result Bool PassageFault) : Type 0 where
  pub lent : Result (Option Passage) PassageFault
  pub after : AfterNext s t unread unread' ended ended' reads reads' lent
  pub failed : failures' ≡ failures_with failures (fault_in lent)
  pub takes : Takes lent old new r
