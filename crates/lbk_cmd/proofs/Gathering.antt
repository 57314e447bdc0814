-- A run by the answers of the calls that gather its lines.
use Rattle.std.proofs.Common.{◌≡◌, ℕ, ◌+◌, ◌<◌, ◌≤◌, ◌⊎◌, ◌↔◌, Bool, true, false, List, [], ◌++◌, take, Option, None, Some, Result, Ok, Err, IsErrOf, IfSome, IsTrue, IsUtf8, OnOk, refl, sym, ap, subst, ◌∙◌, inl, inr, ⊎_elim, arith}
use Rattle.std.specs.Io.KnownBytes.{Appends, IsAtEnd}
use Rattle.lbk_feed.specs.Devices.{Reads, count_up, failures_after}
use Rattle.lbk_feed.specs.Runs.{Ran}
use Rattle.lbk_feed.specs.Text.{longest_text}
use Rattle.lbk_feed.specs.declared.traits.Source.{Ghosts as SourceMembers}
use Rattle.lbk_feed.specs.declared.traits.Sink.{Ghosts as SinkMembers}
use Rattle.lbk_args.specs.declared.order.Part.{Part}
use Rattle.lbk_passage.specs.State.{IsLimit, State}
use Rattle.lbk_passage.specs.Next.{AfterNext, failures_with, fault_in}
use Rattle.lbk_passage.specs.declared.faults.PassageFault.{PassageFault}
use Rattle.lbk_passage.specs.declared.faults.PassageFault.TheVariants as fault
use Rattle.lbk_passage.specs.declared.passage.Passage.{Passage}
use Rattle.lbk_cmd.specs.Gathering.{Puts, PutsNext, PutsRead, end_of}
use Rattle.lbk_cmd.specs.Ranges.{IsRangeRun, RangeRuns, ReadsBefore, within}
use Rattle.lbk_cmd.specs.Acts.{TextRuns}
use Rattle.lbk_cmd.specs.Devices.{Devices}
use Rattle.lbk_cmd.specs.Run.{Engine, IsRun, Writing, by_passage, failed_reads_with, failed_writes_with, is_failed_read}
use Rattle.lbk_cmd.specs.Writing.{WritesDue}
use Rattle.lbk_cmd.specs.declared.faults.CmdFault.{CmdFault}
use Rattle.lbk_cmd.specs.declared.faults.CmdFault.TheVariants as cmd
use Rattle.lbk_cmd.proofs.Ranging.{known_range}
use Rattle.lbk_cmd.proofs.Running.{given_now, lined, lines_finish, passage_now, start_now}
use Rattle.lbk_cmd.proofs.Looping.{Ends, Going, MayEnd, MayStop, Wait, at_the_end, due, goes_to, most_reads, ran_fault, ran_held_back, ran_memory, ran_unwritten, ran_whole, range_run, run_none, whole_run}

-- a run that goes on has no answer
none_some : {X : Type 0} (o : Option X) (x : X) → o ≡ None → o ≡ Some x → ⊥
none_some o x none some = let both : None ≡ Some x = sym none ∙ some in cc

some_same : {X : Type 0} (o : Option X) (x y : X) → o ≡ Some x → o ≡ Some y → y ≡ x
some_same o x y one other = let both : Some x ≡ Some y = sym one ∙ other in cc

-- the count of failed reads, by the fault that the segmenter answered
pub failed_alike : (n : ℕ) (why : PassageFault) → failures_with n (Some why) ≡ failed_reads_with {X = Unit {0}} n (Err (cmd.Passage why))
failed_alike n fault.Limit = refl
failed_alike n fault.Memory = refl
failed_alike n fault.Read = refl
failed_alike n (fault.NotUtf8 at) = refl
failed_alike n fault.TextTooLong = refl
failed_alike n (fault.ParagraphTooLong start) = refl
failed_alike n fault.Spent = refl

-- what a run's devices count, from before it to after it, by its answer and its limit of a paragraph
pub record Counts (bytes : ℕ) (from to : Reads) (failed failed' unwritten unwritten' : ℕ) (answer : Result (Unit {0}) CmdFault) : Type 0 where
  pub reads : to.count ≤ from.count + (longest_text + 1)
  pub limit : IsErrOf answer (cmd.Passage fault.Limit) ↔ (¬ (IsLimit bytes))
  pub failed_reads : failed' ≡ failed_reads_with failed answer
  pub failed_writes : unwritten' ≡ failed_writes_with unwritten answer

-- the limit is refused only where the segmenter is made
abbrev pub Limits : ℕ → Type 0
Limits bytes = (answer : Result (Unit {0}) CmdFault) → ¬ (answer ≡ Err (cmd.Passage fault.Limit))
    → IsErrOf answer (cmd.Passage fault.Limit) ↔ (¬ (IsLimit bytes))

-- those of a run that ends with a failed write
pub write_failed : {bytes : ℕ} {from to : Reads} {failed failed' unwritten unwritten' : ℕ} → to.count ≤ from.count + (longest_text + 1)
    → failed' ≡ failed → unwritten' ≡ count_up unwritten → Limits bytes → Counts bytes from to failed failed' unwritten unwritten' (Err cmd.Write)
write_failed few same more limits =
    record { reads = few; limit = limits (Err cmd.Write) (λ same. cc); failed_reads = same; failed_writes = more }

-- one more write has failed, or none
pub unwrote : {m : ℕ} {X Y : Type 0} {written : Result X Y} {why : Y} (n : ℕ) → m ≡ failures_after n written → written ≡ Err why → m ≡ count_up n
unwrote n failures was = failures ∙ ap (failures_after n) was

pub wrote : {m : ℕ} {X Y : Type 0} {written : Result X Y} {done : X} (n : ℕ) → m ≡ failures_after n written → written ≡ Ok done → m ≡ n
wrote n failures was = failures ∙ ap (failures_after n) was

-- a turn of an engine's loop: the lines that were due are written, and those of the next passage are put behind the others
pub record Turn (e : Engine) (u0 w0 : Option (List ℕ)) (reads0 : Reads) (s0 s t : State) (u v w1 w : Option (List ℕ)) (e1 e2 : Bool) (r1 r2 : Reads)
    (f1 f2 k1 k : ℕ) (lines0 lines lines' : List ℕ) (at : ℕ) (put : Result Bool CmdFault) (begun : Going (by_passage e) u0 w0 reads0 s0 u w1 e1 r1 lines0) : Type 0 where
  pub going : Going (by_passage e) u0 w0 reads0 s u w e1 r1 lines
  pub wait : Wait (by_passage e) u0 w0 reads0 s lines
  pub start : s.start ≡ s0.start
  pub before : (to : ℕ) → ReadsBefore to begun.keeps_up → ReadsBefore to going.keeps_up
  pub puts : PutsNext e s t u v e1 e2 r1 r2 f1 f2 lines lines' at put
  pub left_alone : s.is_settled ≡ true → f2 ≡ f1
  pub none_failed : k ≡ k1

pub turned : {R W Y : Type 0} {source : SourceMembers R} {sink : SinkMembers W} {e : Engine} {u0 w0 : Option (List ℕ)} {reads0 : Reads} {s0 s t : State}
    {reader reader' : R} {writer writer' : W} {lines0 lines lines' : List ℕ} {at : ℕ} {put : Result Bool CmdFault} {written : Result (Unit {0}) Y} {done : Unit {0}}
    → WritesDue sink writer writer' s0 s lines0 lines written → written ≡ Ok done → PutsRead source e s t reader reader' lines lines' at put
    → (begun : Going (by_passage e) u0 w0 reads0 s0 (source.unread reader) (sink.written writer) (source.has_ended reader) (source.reads_made reader) lines0)
    → Turn e u0 w0 reads0 s0 s t (source.unread reader) (source.unread reader') (sink.written writer) (sink.written writer') (source.has_ended reader) (source.has_ended reader')
    (source.reads_made reader) (source.reads_made reader') (source.failure_count reader) (source.failure_count reader') (sink.failure_count writer) (sink.failure_count writer')
    lines0 lines lines' at put begun
turned {R} {W} {Y} {source} {sink} writes was puts begun =
    let d = due _ _ _ _ _ _ _ _ _ _ _ _ _ begun writes.state (⊎_elim inl (λ k. inr (k.0, ap sink.written k.1, k.2)) (rw was at writes.due)) in
    record {
      going = d.going;
      wait = d.wait;
      start = d.start;
      before = d.before;
      puts = puts.puts;
      left_alone = λ settled. ap source.failure_count (puts.settled settled);
      none_failed = wrote _ writes.failures was;
    }

module _ {e : Engine} {u0 w0 : Option (List ℕ)} {reads0 : Reads} {s0 s t : State} {u v w1 w : Option (List ℕ)} {e1 e2 : Bool} {r1 r2 : Reads} {f1 f2 k1 k : ℕ}
    {lines0 lines lines' : List ℕ} {at : ℕ} {put : Result Bool CmdFault} {begun : Going (by_passage e) u0 w0 reads0 s0 u w1 e1 r1 lines0}
    (turn : Turn e u0 w0 reads0 s0 s t u v w1 w e1 e2 r1 r2 f1 f2 k1 k lines0 lines lines' at put begun) where
  abbrev g : Going (by_passage e) u0 w0 reads0 s u w e1 r1 lines
  g = turn.going

  abbrev wait : Wait (by_passage e) u0 w0 reads0 s lines
  wait = turn.wait

  abbrev n : PutsNext e s t u v e1 e2 r1 r2 f1 f2 lines lines' at put
  n = turn.puts

  most : r2.count ≤ reads0.count + (longest_text + 1)
  most = most_reads (by_passage e) u0 w0 reads0 s t u v w e1 e2 r1 r2 lines g wait n.lent n.next

  -- memory could not grow for the passage or its lines
  abbrev pub IsFull : Type 0
  IsFull = (put ≡ Err cmd.Memory) ⊎ (put ≡ Err (cmd.Passage fault.Memory))

  abbrev pub IsLate : ℕ → Type 0
  IsLate from = IsFull → from ≤ s.start

  -- a run over a range may end after the call
  abbrev pub May : ℕ → Type 0
  May to = MayEnd (by_passage e) u0 w0 reads0 s t u v w e1 e2 r1 r2 lines g wait to

  -- where the run goes on
  pub record On : Type 0 where
    pub going : Going (by_passage e) u0 w0 reads0 t v w e2 r2 lines'
    pub before : (to : ℕ) → May to → ReadsBefore to going.keeps_up
    pub is : at ≡ t.start
    pub onward : s.start < t.start
    pub few : t.start ≤ longest_text
    pub none_failed : f2 ≡ f1

  pub on : end_of put ≡ None → On
  on goes = by n.lent n.next n.puts n.failed
    where
      by : (lent : Result (Option Passage) PassageFault) → AfterNext s t u v e1 e2 r1 r2 lent → Puts e s lent lines lines' at put → f2 ≡ failures_with f1 (fault_in lent) → On
      by (Ok None) a puts failed = absurd (none_some (end_of put) (Ok (tt {0})) goes (ap end_of puts.0))
      by (Ok (Some p)) a (inl puts) failed =
          let b = by_passage e in
          let st = g.standing in
          let ms = given_now b s g.bytes (g.out ++ lines) st t u v e1 e2 r1 r2 p a in
          let same : lines' ≡ lines ++ e.lines s.start ms =
          puts.2 ms st.cell st.profile (passage_now b s g.bytes (g.out ++ lines) st t u v e1 e2 r1 r2 p a)
          ∙ ap (λ n. lines ++ e.lines n ms) (start_now b s g.bytes (g.out ++ lines) st t u v e1 e2 r1 r2 p a) in
          let to = goes_to b u0 w0 reads0 s t u v w e1 e2 r1 r2 lines g wait p a lines' (e.lines s.start ms) at puts.1 same (lined e s g.bytes (g.out ++ lines) st ms) in
          record { going = to.going; before = to.before; is = to.is; onward = to.onward; few = to.few; none_failed = failed }
      by (Ok (Some p)) a (inr puts) failed = absurd (none_some (end_of put) (Err cmd.Memory) goes (ap end_of puts.0))
      by (Err why) a puts failed = absurd (none_some (end_of put) (Err (cmd.Passage why)) goes (ap end_of puts.0))

  module _ (answer : Result (Unit {0}) CmdFault) (is : end_of put ≡ Some answer) where
    -- no line was put
    pub kept : lines' ≡ lines
    kept = by n.lent n.puts
      where
        by : (lent : Result (Option Passage) PassageFault) → Puts e s lent lines lines' at put → lines' ≡ lines
        by (Ok None) puts = puts.1
        by (Ok (Some p)) (inl puts) = absurd (none_some (end_of put) answer (ap end_of puts.0) is)
        by (Ok (Some p)) (inr puts) = puts.1
        by (Err why) puts = puts.1

    failed_reads : f2 ≡ failed_reads_with f1 answer
    failed_reads = by n.lent n.puts n.failed
      where
        by : (lent : Result (Option Passage) PassageFault) → Puts e s lent lines lines' at put → f2 ≡ failures_with f1 (fault_in lent) → f2 ≡ failed_reads_with f1 answer
        by (Ok None) puts failed = failed ∙ ap (failed_reads_with f1) (sym (some_same (end_of put) (Ok (tt {0})) answer (ap end_of puts.0) is))
        by (Ok (Some p)) (inl puts) failed = absurd (none_some (end_of put) answer (ap end_of puts.0) is)
        by (Ok (Some p)) (inr puts) failed = failed ∙ ap (failed_reads_with f1) (sym (some_same (end_of put) (Err cmd.Memory) answer (ap end_of puts.0) is))
        by (Err why) puts failed =
            failed ∙ failed_alike f1 why ∙ ap (failed_reads_with f1) (sym (some_same (end_of put) (Err (cmd.Passage why)) answer (ap end_of puts.0) is))

    no_failed_write : (k : ℕ) → k ≡ failed_writes_with k answer
    no_failed_write k = by n.lent n.puts
      where
        by : (lent : Result (Option Passage) PassageFault) → Puts e s lent lines lines' at put → k ≡ failed_writes_with k answer
        by (Ok None) puts = ap (failed_writes_with k) (sym (some_same (end_of put) (Ok (tt {0})) answer (ap end_of puts.0) is))
        by (Ok (Some p)) (inl puts) = absurd (none_some (end_of put) answer (ap end_of puts.0) is)
        by (Ok (Some p)) (inr puts) = ap (failed_writes_with k) (sym (some_same (end_of put) (Err cmd.Memory) answer (ap end_of puts.0) is))
        by (Err why) puts = ap (failed_writes_with k) (sym (some_same (end_of put) (Err (cmd.Passage why)) answer (ap end_of puts.0) is))

    no_limit : ¬ (answer ≡ Err (cmd.Passage fault.Limit))
    no_limit limit = by n.lent n.next n.puts
      where
        by : (lent : Result (Option Passage) PassageFault) → AfterNext s t u v e1 e2 r1 r2 lent → Puts e s lent lines lines' at put → ⊥
        by (Ok None) a puts = let same : Ok (tt {0}) ≡ Err (cmd.Passage fault.Limit) = sym (some_same (end_of put) (Ok (tt {0})) answer (ap end_of puts.0) is) ∙ limit in cc
        by (Ok (Some p)) a (inl puts) = none_some (end_of put) answer (ap end_of puts.0) is
        by (Ok (Some p)) a (inr puts) =
            let same : Err cmd.Memory ≡ Err (cmd.Passage fault.Limit) = sym (some_same (end_of put) (Err cmd.Memory) answer (ap end_of puts.0) is) ∙ limit in cc
        by (Err fault.Limit) a puts = a.answer.lies
        by (Err fault.Memory) a puts =
            let same : Err (cmd.Passage fault.Memory) ≡ Err (cmd.Passage fault.Limit) = sym (some_same (end_of put) (Err (cmd.Passage fault.Memory)) answer (ap end_of puts.0) is) ∙ limit in cc
        by (Err fault.Read) a puts =
            let same : Err (cmd.Passage fault.Read) ≡ Err (cmd.Passage fault.Limit) = sym (some_same (end_of put) (Err (cmd.Passage fault.Read)) answer (ap end_of puts.0) is) ∙ limit in cc
        by (Err (fault.NotUtf8 place)) a puts =
            let same : Err (cmd.Passage (fault.NotUtf8 place)) ≡ Err (cmd.Passage fault.Limit) =
            sym (some_same (end_of put) (Err (cmd.Passage (fault.NotUtf8 place))) answer (ap end_of puts.0) is) ∙ limit in cc
        by (Err fault.TextTooLong) a puts =
            let same : Err (cmd.Passage fault.TextTooLong) ≡ Err (cmd.Passage fault.Limit) =
            sym (some_same (end_of put) (Err (cmd.Passage fault.TextTooLong)) answer (ap end_of puts.0) is) ∙ limit in cc
        by (Err (fault.ParagraphTooLong start)) a puts =
            let same : Err (cmd.Passage (fault.ParagraphTooLong start)) ≡ Err (cmd.Passage fault.Limit) =
            sym (some_same (end_of put) (Err (cmd.Passage (fault.ParagraphTooLong start))) answer (ap end_of puts.0) is) ∙ limit in cc
        by (Err fault.Spent) a puts =
            let same : Err (cmd.Passage fault.Spent) ≡ Err (cmd.Passage fault.Limit) = sym (some_same (end_of put) (Err (cmd.Passage fault.Spent)) answer (ap end_of puts.0) is) ∙ limit in cc

    -- what the devices count where it ends so, once the lines that waited were written, and where they were not
    pub counts : {bytes f0 k0 k' : ℕ} → f1 ≡ f0 → k1 ≡ k0 → k' ≡ k → Limits bytes → Counts bytes reads0 r2 f0 f2 k0 k' answer
    counts {bytes} {f0} {k0} {k'} kept_reads kept_writes wrote_all limits = record {
      reads = most;
      limit = limits answer no_limit;
      failed_reads = failed_reads ∙ ap (λ f. failed_reads_with f answer) kept_reads;
      failed_writes = wrote_all ∙ turn.none_failed ∙ kept_writes ∙ no_failed_write k0;
    }

    pub held_counts : {bytes f0 k0 k' : ℕ} → s.is_settled ≡ true → f1 ≡ f0 → k1 ≡ k0 → k' ≡ count_up k → Limits bytes
        → Counts bytes reads0 r2 f0 f2 k0 k' (Err cmd.Write)
    held_counts settled kept_reads kept_writes more limits =
        write_failed most (turn.left_alone settled ∙ kept_reads) (more ∙ ap count_up (turn.none_failed ∙ kept_writes)) limits

    -- where it ends, once the lines that waited were written
    abbrev pub EndsBy : Option (List ℕ) → Result (Unit {0}) CmdFault → Type 0
    EndsBy w' known =
        Ran (is_failed_read known) u0 v w0 w' (Ends (by_passage e) reads0 r2 e2 v (MayStop (by_passage e) u0 w0 reads0 s t u v w e1 e2 r1 r2 lines g wait IsLate) known)

    pub ends : (w' : Option (List ℕ)) → Appends w w' lines' → EndsBy w' answer
    ends w' wrote = by n.lent n.next n.puts
      where
        by : (lent : Result (Option Passage) PassageFault) → AfterNext s t u v e1 e2 r1 r2 lent → Puts e s lent lines lines' at put → EndsBy w' answer
        by (Ok None) a puts =
            subst (EndsBy w') (sym (some_same (end_of put) (Ok (tt {0})) answer (ap end_of puts.0) is))
            (ran_whole (by_passage e) u0 w0 reads0 s t u v w e1 e2 r1 r2 lines g wait IsLate (tt {0}) w' lines (subst (Appends w w') puts.1 wrote) g.standing.is a)
        by (Ok (Some p)) a (inl puts) = absurd (none_some (end_of put) answer (ap end_of puts.0) is)
        by (Ok (Some p)) a (inr puts) =
            subst (EndsBy w') (sym (some_same (end_of put) (Err cmd.Memory) answer (ap end_of puts.0) is))
            (ran_memory (by_passage e) u0 w0 reads0 s t u v w e1 e2 r1 r2 lines g wait p a (Unit {0}) IsLate (λ from late. late (inl puts.0)) w' (subst (Appends w w') puts.1 wrote))
        by (Err why) a puts =
            subst (EndsBy w') (sym (some_same (end_of put) (Err (cmd.Passage why)) answer (ap end_of puts.0) is))
            (ran_fault (by_passage e) u0 w0 reads0 s t u v w e1 e2 r1 r2 lines g wait (Unit {0}) IsLate why
            (λ from late same. late (inr (puts.0 ∙ ap (λ f. Err (cmd.Passage f)) same))) w' (subst (Appends w w') puts.1 wrote) a)

    -- and where they were not, or not all
    pub held_back : s.is_settled ≡ true → (w' : Option (List ℕ)) (k : ℕ) → Appends w w' (take k lines')
        → Ran false u0 v w0 w' (Ends {X = Unit {0}} (by_passage e) reads0 r2 e2 v (λ from to. May to) (Err cmd.Write))
    held_back settled w' k wrote =
        ran_held_back (by_passage e) u0 w0 reads0 s t u v w e1 e2 r1 r2 lines g wait (lines_finish e) (Unit {0}) n.lent n.next (n.next.still settled).1 w' k
        (subst (λ l. Appends w w' (take k l)) kept wrote)

    -- the text was read to its end
    pub to_its_end : OnOk answer (IsTrue e2 × IsAtEnd v)
    to_its_end = by n.lent n.next n.puts
      where
        by : (lent : Result (Option Passage) PassageFault) → AfterNext s t u v e1 e2 r1 r2 lent → Puts e s lent lines lines' at put → OnOk answer (IsTrue e2 × IsAtEnd v)
        by (Ok None) a puts =
            let end = at_the_end (by_passage e) u0 w0 reads0 s t u v w e1 e2 r1 r2 lines g wait a in
            subst (λ r. OnOk r (IsTrue e2 × IsAtEnd v)) (sym (some_same (end_of put) (Ok (tt {0})) answer (ap end_of puts.0) is)) end
        by (Ok (Some p)) a (inl puts) = absurd (none_some (end_of put) answer (ap end_of puts.0) is)
        by (Ok (Some p)) a (inr puts) = subst (λ r. OnOk r (IsTrue e2 × IsAtEnd v)) (sym (some_same (end_of put) (Err cmd.Memory) answer (ap end_of puts.0) is)) tt
        by (Err why) a puts = subst (λ r. OnOk r (IsTrue e2 × IsAtEnd v)) (sym (some_same (end_of put) (Err (cmd.Passage why)) answer (ap end_of puts.0) is)) tt

    -- where no line waits, none is written, and no write fails
    pub waits : {F : Type 0} (written : Result (Unit {0}) F) (why : F) → written ≡ Err why → (lines' ≡ [] → written ≡ Ok (tt {0})) → s.is_settled ≡ true
    waits written why was nothing = ⊎_elim
        (λ (none : lines ≡ []). absurd (let both : Ok (tt {0}) ≡ Err why = sym (nothing (kept ∙ none)) ∙ was in cc))
        (λ (settled : s.is_settled ≡ true). settled)
        wait

-- the limit is refused where the segmenter is made, and nowhere else
pub limit_kept : {S : Type 0} (limit : ℕ) (made : Result S PassageFault) (s : S) → made ≡ Ok s → (IsErrOf made fault.Limit ↔ (¬ (IsLimit limit)))
    → (answer : Result (Unit {0}) CmdFault) → ¬ (answer ≡ Err (cmd.Passage fault.Limit)) → IsErrOf answer (cmd.Passage fault.Limit) ↔ (¬ (IsLimit limit))
limit_kept limit made s was told answer none = (λ h. absurd (none h), λ bad. absurd (let both : Ok s ≡ Err fault.Limit = sym was ∙ told.1 bad in cc))

-- a run over a text, and over a range of it, by what it counts
pub text_runs : {Written : List ℕ → Option (List ℕ) → Option (List ℕ) → Type 0} {e : Writing} {before after : Devices} {answer : Result (Unit {0}) CmdFault}
    → OnOk answer (IfSome before.unread (λ input. IsUtf8 input × Written input before.written after.written))
    → OnOk answer (IsTrue after.has_ended × IsAtEnd after.unread)
    → Ran (is_failed_read answer) before.unread after.unread before.written after.written (IsRun e before.reads after.reads after.has_ended answer)
    → Counts e.limit before.reads after.reads before.failed_reads after.failed_reads before.failed_writes after.failed_writes answer
    → TextRuns Written e before after answer
text_runs shown ended run counts = record {
  shown = shown;
  ended = ended;
  run = run;
  reads = counts.reads;
  limit = counts.limit;
  failed_reads = counts.failed_reads;
  failed_writes = counts.failed_writes;
}

pub range_runs : {part : Part} {e : Engine} {before after : Devices} {answer : Result (Unit {0}) CmdFault}
    → Ran (is_failed_read answer) before.unread after.unread before.written after.written
    (IsRangeRun (by_passage (within part e)) part.from part.to before.reads after.reads after.has_ended (IsTrue after.has_ended × IsAtEnd after.unread) answer)
    → Counts e.limit before.reads after.reads before.failed_reads after.failed_reads before.failed_writes after.failed_writes answer
    → RangeRuns part e before after answer
range_runs {part} {e} {before} {after} {answer} run counts = record {
  shown = known_range part e _ _ _ answer _ _ _ _ run;
  run = run;
  reads = counts.reads;
  limit = counts.limit;
  failed_reads = counts.failed_reads;
  failed_writes = counts.failed_writes;
}

-- a run over a range stops whose lines were not written, or not all of them
pub range_unwritten : {part : Part} {e : Engine} {before after : Devices} {s : State} {w : Option (List ℕ)} {lines : List ℕ}
    (going : Going (by_passage (within part e)) before.unread before.written before.reads s after.unread w after.has_ended after.reads lines)
    → ReadsBefore part.to going.keeps_up → (n : ℕ) × Appends w after.written (take n lines)
    → after.failed_reads ≡ before.failed_reads → after.failed_writes ≡ count_up before.failed_writes → Limits e.limit
    → RangeRuns part e before after (Err cmd.Write)
range_unwritten {part} {e} going early front kept more limits =
    range_runs (range_run (ran_unwritten (by_passage (within part e)) _ _ _ _ _ _ _ _ _ going (lines_finish (within part e)) (Unit {0}) _ front.0 front.1) part.from part.to early)
    (write_failed going.most kept more limits)

-- the segmenter could not be made: nothing was read or written
pub none_made : (Written : List ℕ → Option (List ℕ) → Option (List ℕ) → Type 0) (e : Writing) (d : Devices)
    (answer : Result (Unit {0}) CmdFault) (why : PassageFault)
    → e.Settled [] [] → answer ≡ Err (cmd.Passage why) → (why ≡ fault.Limit) ⊎ (why ≡ fault.Memory)
    → (IsErrOf answer (cmd.Passage fault.Limit) ↔ (¬ (IsLimit e.limit))) → TextRuns Written e d d answer
none_made Written e d answer why settled is one limit =
    subst (TextRuns Written e d d) (sym is) (record {
      shown = tt;
      ended = tt;
      run = whole_run (run_none e d.unread d.written d.reads (Unit {0}) (Err (cmd.Passage why)) settled why d.has_ended refl one);
      reads = omega arith;
      limit = subst (λ r. IsErrOf r (cmd.Passage fault.Limit) ↔ (¬ (IsLimit e.limit))) is limit;
      failed_reads = ⊎_elim (λ (same : why ≡ fault.Limit). rw same refl) (λ (same : why ≡ fault.Memory). rw same refl) one;
      failed_writes = refl;
    })
