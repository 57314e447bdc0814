-- What a call leaves that passes over a passage, or lends its text alone.
use Rattle.std.specs.Prelude.{◌≡◌, ℕ, ◌+◌, Bool, List, length, Option, None, Some, Result, Ok, Err}
use Rattle.lbk_feed.specs.Devices.{Reads}
use Rattle.lbk_passage.specs.Next.{AfterNext}
use Rattle.lbk_passage.specs.State.{State}
use Rattle.lbk_passage.specs.declared.faults.PassageFault.{PassageFault}
use Rattle.lbk_passage.specs.declared.passage.Passage.{Passage}
use Rattle.lbk_passage.specs.declared.passage.PassageText.{PassageText}

-- the byte of the text behind the passage that an answer lends
abbrev pub end_of : Result (Option Passage) PassageFault → Result (Option ℕ) PassageFault
end_of (Ok None) = Ok None
end_of (Ok (Some p)) = Ok (Some (p.start + length p.text.now))
end_of (Err fault) = Err fault

-- a call that passes over a passage leaves what one that lends it leaves, and answers where it ends
pub record PassesOver (old new : State) (unread unread' : Option (List ℕ)) (ended ended' : Bool) (reads reads' : Reads)
    (r : Result (Option ℕ) PassageFault) : Type 0 where
  pub lent : Result (Option Passage) PassageFault
  pub after : AfterNext old new unread unread' ended ended' reads reads' lent
  pub is : r ≡ end_of lent

-- of the passage that an answer lends, its place, its text and its end
abbrev pub text_alone : Passage → PassageText
text_alone p = record { start = p.start; text = p.text; end = p.end }

abbrev pub text_in : Result (Option Passage) PassageFault → Result (Option PassageText) PassageFault
text_in (Ok None) = Ok None
text_in (Ok (Some p)) = Ok (Some (text_alone p))
text_in (Err fault) = Err fault

-- a call that lends the text of a passage leaves what one that lends the passage leaves
pub record LendsText (old new : State) (unread unread' : Option (List ℕ)) (ended ended' : Bool) (reads reads' : Reads)
    (r : Result (Option PassageText) PassageFault) : Type 0 where
  pub lent : Result (Option Passage) PassageFault
  pub after : AfterNext old new unread unread' ended ended' reads reads' lent
  pub is : r ≡ text_in lent
