-- What stands behind the lines that wait, by the text that a segmenter lent.
use Rattle.std.proofs.Common.{◌≡◌, ℕ, ◌+◌, ◌<◌, Bool, true, false, List, length, Option, None, Some, Result, Ok, Err, refl, sym, ap, ◌∙◌, arith, inl, inr}
use Rattle.lbk_feed.specs.Devices.{Reads}
use Rattle.lbk_passage.specs.Next.{AfterNext, Lends, fault_in}
use Rattle.lbk_passage.specs.Passages.{is_must}
use Rattle.lbk_passage.specs.Passing.{text_alone, text_in}
use Rattle.lbk_passage.specs.State.{State}
use Rattle.lbk_passage.specs.declared.faults.PassageFault.{PassageFault}
use Rattle.lbk_passage.specs.declared.passage.Passage.{Passage as LentPassage}
use Rattle.lbk_passage.specs.declared.passage.PassageText.{PassageText}
use Rattle.lbk_cmd.specs.Gathering.{Puts, PutsText}
use Rattle.lbk_cmd.specs.Run.{Engine}
use Rattle.lbk_cmd.specs.declared.faults.CmdFault.{CmdFault}
use Rattle.lbk_cmd.specs.declared.faults.CmdFault.TheVariants.{Memory, Passage}
use Rattle.lbk_cmd.proofs.Running.{some_bytes_of}
use Rattle.lbk_cmd.proofs.Signing.{lent_must}

-- the fault is that of the call that lends the passage
pub fault_alike : (lent : Result (Option LentPassage) PassageFault) → fault_in (text_in lent) ≡ fault_in lent
fault_alike (Ok None) = refl
fault_alike (Ok (Some p)) = refl
fault_alike (Err why) = refl

module _ (e : Engine) (s : State) (before : List ℕ) (at : ℕ) (answer : Result Bool CmdFault) where
  pub puts_no_text : (lent : Result (Option LentPassage) PassageFault) → Ok None ≡ text_in lent → answer ≡ Ok false → Puts e s lent before before at answer
  puts_no_text (Ok None) is same = (same, refl)
  puts_no_text (Ok (Some p)) is same = absurd (cc is)
  puts_no_text (Err why) is same = absurd (cc is)

  pub puts_text_fault : (lent : Result (Option LentPassage) PassageFault) (why : PassageFault) → Err why ≡ text_in lent → answer ≡ Err (Passage why)
      → Puts e s lent before before at answer
  puts_text_fault (Ok None) why is same = absurd (cc is)
  puts_text_fault (Ok (Some p)) why is same = absurd (cc is)
  puts_text_fault (Err other) why is same = let alike : why ≡ other = cc in (same ∙ ap (λ f. Err (Passage f)) alike, refl)

  pub puts_text_refused : (lent : Result (Option LentPassage) PassageFault) (text : PassageText) → Ok (Some text) ≡ text_in lent → answer ≡ Err Memory
      → Puts e s lent before before at answer
  puts_text_refused (Ok None) text is same = absurd (cc is)
  puts_text_refused (Ok (Some p)) text is same = inr (same, refl)
  puts_text_refused (Err why) text is same = absurd (cc is)

module _ (e : Engine) (s t : State) (u v : Option (List ℕ)) (e1 e2 : Bool) (r1 r2 : Reads) where
  pub puts_text : (lent : Result (Option LentPassage) PassageFault) → AfterNext s t u v e1 e2 r1 r2 lent → (text : PassageText) → Ok (Some text) ≡ text_in lent
      → (before after : List ℕ) (at : ℕ) → at ≡ text.start + length text.text.now
      → PutsText e text.text.now text.end before after → Puts e s lent before after at (Ok true)
  puts_text (Ok None) a text is before after at ends lines = absurd (cc is)
  puts_text (Ok (Some p)) a text is before after at ends lines =
      let same : text ≡ text_alone p = cc in
      let must = lent_must s t p a.answer in
      inl (
        refl,
        ends ∙ ap (λ k. k.start + length k.text.now) same,
        λ ms cell_is profile_is of. lines s ms p cell_is profile_is of (ap (λ k. k.text.now) (sym same)) (ap (λ k. k.end) (sym same)) (ap (λ k. is_must k.end.kind) same ∙ must),
      )
  puts_text (Err why) a text is before after at ends lines = absurd (cc is)

  -- the text is not empty, and no longer than a text may be
  pub text_some : (lent : Result (Option LentPassage) PassageFault) → AfterNext s t u v e1 e2 r1 r2 lent → (text : PassageText) → Ok (Some text) ≡ text_in lent
      → (0 < length text.text.now) × (length text.text.now < 4294967296)
  text_some (Ok None) a text is = absurd (cc is)
  text_some (Ok (Some p)) a text is =
      let same : text ≡ text_alone p = cc in
      let lends : Lends s t p = a.answer in
      let long = ap (λ k. length k.text.now) same in (
        omega (arith, long, some_bytes_of lends.marks lends.passage.some, ap length lends.passage.text),
        omega (arith, long, lends.counted),
      )
  text_some (Err why) a text is = absurd (cc is)
