-- The loop of an engine: what was read and what was written, from passage to passage.
use Rattle.std.proofs.Common.{◌≡◌, ℕ, ◌+◌, ◌<◌, ◌≤◌, Bool, true, false, ◌||◌, ◌⊎◌, List, [], ◌∷◌, ◌++◌, length, take, Option, None, Some, Result, Ok, Err, refl, IsTrue, sym, ap, subst, ◌∙◌, arith, inl, inr, ⊎_elim, length-append, append_assoc, append-nil}
use Rattle.std.proofs.Math.Seq.{take-append-add}
use Rattle.std.proofs.lemmas.Bool.{cases_lt, false≢true}
use Rattle.std.specs.Io.KnownBytes.{Appends, Consumes, IsAtEnd, Keeps}
use Rattle.lbk_feed.specs.Devices.{Reads}
use Rattle.lbk_feed.specs.Runs.{IsStopped, Took, Ran, at_end as front_of_all}
use Rattle.lbk_feed.specs.Text.{longest_text}
use Rattle.lbk_feed.proofs.Taking.{Consumes-nil, Consumes-trans, Took-then, kept_took, begun_took, told_took}
use Rattle.lbk_passage.specs.State.{State, new_state}
use Rattle.lbk_passage.specs.Next.{AfterNext, Agrees, IsDone, KeepsAhead, Lends, ends_run, fault_in, lent_text}
use Rattle.lbk_passage.specs.declared.faults.PassageFault.{PassageFault}
use Rattle.lbk_passage.specs.declared.faults.PassageFault.TheVariants as fault
use Rattle.lbk_passage.specs.declared.passage.Passage.{Passage}
use Rattle.lbk_cmd.specs.Gathering.{HasWritten}
use Rattle.lbk_cmd.specs.Ranges.{IsRangeRun, RangeComesTo, ReadsBefore}
use Rattle.lbk_cmd.specs.Run.{ComesTo, Writing, IsRun, IsSettled, IsWhole, KeepsUp, is_failed_read}
use Rattle.lbk_cmd.specs.declared.faults.CmdFault.{CmdFault}
use Rattle.lbk_cmd.specs.declared.faults.CmdFault.TheVariants as cmd
use Rattle.lbk_cmd.proofs.Running.{Finishes, Standing, Standing-new, Standing-new-given, Standing-next, Standing-next-given, Standing-same, Standing-settled, given_now, some_bytes_of, start_now}
use Rattle.lbk_cmd.proofs.KeepingUp.{before_none, before_waiting, before_written, keeps_none, keeps_waiting, keeps_written, none_got}
use Rattle.lbk_cmd.proofs.Stopping.{range_fault, stopped, run_memory, run_whole, run_fault}

pub Appends-nil : (a : Option (List ℕ)) → Appends a a []
Appends-nil None = tt
Appends-nil (Some xs) = sym (append-nil xs)

pub Appends-trans : (a b c : Option (List ℕ)) (bs cs : List ℕ) → Appends a b bs → Appends b c cs → Appends a c (bs ++ cs)
Appends-trans None b c bs cs p q = tt
Appends-trans (Some x) None c bs cs p q = absurd p
Appends-trans (Some x) (Some y) None bs cs p q = absurd q
Appends-trans (Some x) (Some y) (Some z) bs cs p q = q ∙ ap (λ l. l ++ cs) p ∙ append_assoc x bs cs

-- what a call that answered a fault took from its reader
took_fault : (X : Type 0) (s t : State) (u v : Option (List ℕ)) (e1 e2 : Bool) (r1 r2 : Reads) (why : PassageFault) (a : AfterNext s t u v e1 e2 r1 r2 (Err why))
    → Took (is_failed_read {X = X} (Err (cmd.Passage why))) u v a.got
took_fault X s t u v e1 e2 r1 r2 fault.Limit a = kept_took _ _ _ a.grown u v a.ahead_kept
took_fault X s t u v e1 e2 r1 r2 fault.Memory a = kept_took _ _ _ a.grown u v a.ahead_kept
took_fault X s t u v e1 e2 r1 r2 fault.Read a = (begun_took _ _ _ a.grown u a.begins, told_took _ _ _ a.grown u v a.ahead_kept)
took_fault X s t u v e1 e2 r1 r2 (fault.NotUtf8 at) a = kept_took _ _ _ a.grown u v a.ahead_kept
took_fault X s t u v e1 e2 r1 r2 fault.TextTooLong a = kept_took _ _ _ a.grown u v a.ahead_kept
took_fault X s t u v e1 e2 r1 r2 (fault.ParagraphTooLong start) a = kept_took _ _ _ a.grown u v a.ahead_kept
took_fault X s t u v e1 e2 r1 r2 fault.Spent a = kept_took _ _ _ a.grown u v a.ahead_kept

-- what a run comes to that ends with an answer, where `unread` is left: over the whole text, or over a range from one byte up to
-- another where it may end so
pub record Ends {X : Type 0} (e : Writing) (from to : Reads) (has_ended : Bool) (unread : Option (List ℕ)) (May : ℕ → ℕ → Type 0) (answer : Result X CmdFault)
    (bytes out : List ℕ) : Type 0 where
  pub comes : ComesTo e has_ended answer bytes out
  pub in_range : (begin end : ℕ) → May begin end → RangeComesTo e begin end has_ended (IsTrue has_ended × IsAtEnd unread) answer bytes out
  pub keeps_up : KeepsUp e from to bytes out
  pub before : (begin end : ℕ) → May begin end → ReadsBefore end keeps_up

-- the bytes ahead are told still, but after a failed read
kept_but_read : (f : Option PassageFault) (a b : Option (List ℕ)) → ¬ (f ≡ Some fault.Read) → KeepsAhead f a b → Keeps a b
kept_but_read None a b calm k = k
kept_but_read (Some fault.Limit) a b calm k = k
kept_but_read (Some fault.Memory) a b calm k = k
kept_but_read (Some fault.Read) a b calm k = absurd (calm refl)
kept_but_read (Some (fault.NotUtf8 at)) a b calm k = k
kept_but_read (Some fault.TextTooLong) a b calm k = k
kept_but_read (Some (fault.ParagraphTooLong start)) a b calm k = k
kept_but_read (Some fault.Spent) a b calm k = k

module _ (e : Writing) (u0 w0 : Option (List ℕ)) (reads0 : Reads) where
  -- what the calls so far took from the reader, what was written, and the lines behind it that wait
  pub record Going (s : State) (u w : Option (List ℕ)) (has_ended : Bool) (reads : Reads) (lines : List ℕ) : Type 0 where
    pub bytes : List ℕ
    pub out : List ℕ
    pub took : Consumes u0 u bytes
    pub put : Appends w0 w out
    pub standing : Standing e s bytes (out ++ lines)
    pub agrees : Agrees s has_ended u
    pub paid : s.is_ended ≡ false → reads.count ≤ reads0.count + (s.start + length s.held)
    pub most : reads.count ≤ reads0.count + (longest_text + 1)
    pub keeps_up : KeepsUp e reads0 reads bytes out

  pub Going-new : (s : State) (has_ended : Bool) → s ≡ new_state e.cell e.profile e.limit → e.Settled [] [] → Going s u0 w0 has_ended reads0 []
  Going-new s has_ended is none_settled = record {
    bytes = [];
    out = [];
    took = Consumes-nil u0;
    put = Appends-nil w0;
    standing = Standing-new e s is none_settled;
    agrees = λ at_end. absurd (false≢true (sym (ap (λ t. t.is_ended) is) ∙ at_end));
    paid = λ _. omega arith;
    most = omega arith;
    keeps_up = keeps_none e reads0 none_settled;
  }

  pub before-new : (s : State) (has_ended : Bool) (is : s ≡ new_state e.cell e.profile e.limit) (none_settled : e.Settled [] []) (end : ℕ)
      → ReadsBefore end (Going-new s has_ended is none_settled).keeps_up
  unfolding Going-new
  before-new s has_ended is none_settled end = before_none e reads0 none_settled end

  pub Going-new-given : (s : State) (has_ended : Bool) (is : s ≡ new_state e.cell e.profile e.limit) (none_settled : e.Settled [] [])
      → (Going-new s has_ended is none_settled).standing.given ≡ []
  unfolding Going-new
  Going-new-given s has_ended is none_settled = Standing-new-given e s is none_settled

  pub Going-new-out : (s : State) (has_ended : Bool) (is : s ≡ new_state e.cell e.profile e.limit) (none_settled : e.Settled [] [])
      → (Going-new s has_ended is none_settled).out ≡ []
  unfolding Going-new
  Going-new-out s has_ended is none_settled = refl

  module _ (s : State) (u w : Option (List ℕ)) (e1 : Bool) (r1 : Reads) (lines : List ℕ) (g : Going s u w e1 r1 lines) where
    -- the lines that waited were written
    pub Going-written : (w' : Option (List ℕ)) → Appends w w' lines → Going s u w' e1 r1 []
    Going-written w' wrote = record {
      bytes = g.bytes;
      out = g.out ++ lines;
      took = g.took;
      put = Appends-trans w0 w w' g.out lines g.put wrote;
      standing = Standing-same e s g.bytes (g.out ++ lines) ((g.out ++ lines) ++ []) (append-nil (g.out ++ lines)) g.standing;
      agrees = g.agrees;
      paid = g.paid;
      most = g.most;
      keeps_up = keeps_written e reads0 r1 g.bytes g.out lines g.keeps_up;
    }

    pub before-written : (w' : Option (List ℕ)) (wrote : Appends w w' lines) (to : ℕ) → ReadsBefore to g.keeps_up → ReadsBefore to (Going-written w' wrote).keeps_up
    unfolding Going-written
    before-written w' wrote to before = before_written e reads0 r1 g.bytes g.out lines g.keeps_up to before

    -- some of them were written, and the others wait
    pub Going-put : (w' : Option (List ℕ)) (put rest : List ℕ) → put ++ rest ≡ lines → Appends w w' put → Going s u w' e1 r1 rest
    Going-put w' put rest same wrote = record {
      bytes = g.bytes;
      out = g.out ++ put;
      took = g.took;
      put = Appends-trans w0 w w' g.out put g.put wrote;
      standing = Standing-same e s g.bytes (g.out ++ lines) ((g.out ++ put) ++ rest) (append_assoc g.out put rest ∙ ap (λ l. g.out ++ l) same) g.standing;
      agrees = g.agrees;
      paid = g.paid;
      most = g.most;
      keeps_up = keeps_written e reads0 r1 g.bytes g.out put g.keeps_up;
    }

    pub Going-put-is : (w' : Option (List ℕ)) (put rest : List ℕ) (same : put ++ rest ≡ lines) (wrote : Appends w w' put)
        → ((Going-put w' put rest same wrote).standing.given ≡ g.standing.given) × ((Going-put w' put rest same wrote).out ≡ g.out ++ put)
    unfolding Going-put Standing-same
    Going-put-is w' put rest same wrote = (refl, refl)

    pub Going-written-given : (w' : Option (List ℕ)) (wrote : Appends w w' lines) → (Going-written w' wrote).standing.given ≡ g.standing.given
    unfolding Going-written Standing-same
    Going-written-given w' wrote = refl

    -- the next passage was looked for
    Going-looked : (is_settled : Bool) → Going (record s { is_settled = is_settled }) u w e1 r1 lines
    Going-looked is_settled = record {
      bytes = g.bytes;
      out = g.out;
      took = g.took;
      put = g.put;
      standing = Standing-settled e s is_settled g.bytes (g.out ++ lines) g.standing;
      agrees = g.agrees;
      paid = g.paid;
      most = g.most;
      keeps_up = g.keeps_up;
    }

    -- the lines were not written, or not all of them
    pub ran_unwritten : Finishes e → (X : Type 0) (w' : Option (List ℕ)) (n : ℕ) → Appends w w' (take n lines)
        → Ran false u0 u w0 w' (Ends {X = X} e reads0 r1 e1 u (λ begin end. ReadsBefore end g.keeps_up) (Err cmd.Write))
    ran_unwritten finishes X w' n wrote =
        let put = take n lines in
        let comes = subst (λ l. IsStopped (IsSettled e) (IsWhole e) (e1 ≡ true) l (g.out ++ put)) (append-nil g.bytes)
        (stopped e s g.bytes (g.out ++ lines) g.standing finishes e1 [] (λ at_end. ((g.agrees at_end).0, refl)) (g.out ++ put) (length g.out + n)
        (sym (take-append-add g.out lines n))) in
        record {
          read = g.bytes;
          out = g.out ++ put;
          took = g.took;
          put = Appends-trans w0 w w' g.out put g.put wrote;
          so = record {
            comes = comes;
            in_range = λ from to may. comes;
            keeps_up = keeps_written e reads0 r1 g.bytes g.out put g.keeps_up;
            before = λ from to may. before_written e reads0 r1 g.bytes g.out put g.keeps_up to may;
          };
        }

  -- lines wait, or none does and a read may be made
  abbrev pub Wait : State → List ℕ → Type 0
  Wait s lines = (lines ≡ []) ⊎ (s.is_settled ≡ true)

  -- where a run goes on that has looked for the next passage, and has written the lines where a read may be due
  pub record Due (s t : State) (u w w' : Option (List ℕ)) (e1 : Bool) (r1 : Reads) (lines lines' : List ℕ) (g : Going s u w e1 r1 lines) : Type 0 where
    pub going : Going t u w' e1 r1 lines'
    pub wait : Wait t lines'
    pub start : t.start ≡ s.start
    pub before : (end : ℕ) → ReadsBefore end g.keeps_up → ReadsBefore end going.keeps_up
    pub given : going.standing.given ≡ g.standing.given
    pub text : going.out ++ lines' ≡ g.out ++ lines

  pub due : (s t : State) (u w w' : Option (List ℕ)) (e1 : Bool) (r1 : Reads) (lines lines' : List ℕ) (g : Going s u w e1 r1 lines)
      → t ≡ record s { is_settled = t.is_settled } → HasWritten w w' lines lines' ⊎ ((lines' ≡ lines) × (w' ≡ w) × (t.is_settled ≡ true))
      → Due s t u w w' e1 r1 lines lines' g
  unfolding Going-looked Going-written Standing-same Standing-settled
  due s t u w w' e1 r1 lines lines' g is by =
      subst (λ x. Due s x u w w' e1 r1 lines lines' g) (sym is)
      (⊎_elim
      (λ (written : HasWritten w w' lines lines').
      subst (λ l. Due s (record s { is_settled = t.is_settled }) u w w' e1 r1 lines l g) (sym written.0) (record {
        going = Going-looked s u w' e1 r1 [] (Going-written s u w e1 r1 lines g w' written.1) t.is_settled;
        wait = inl refl;
        start = refl;
        before = λ end before. before-written s u w e1 r1 lines g w' written.1 end before;
        given = refl;
        text = append-nil (g.out ++ lines);
      }))
      (λ (kept : (lines' ≡ lines) × (w' ≡ w) × (t.is_settled ≡ true)).
      subst (λ l. Due s (record s { is_settled = t.is_settled }) u w w' e1 r1 lines l g) (sym kept.0)
      (subst (λ x. Due s (record s { is_settled = t.is_settled }) u w x e1 r1 lines lines g) (sym kept.1) (record {
        going = Going-looked s u w e1 r1 lines g t.is_settled;
        wait = inr kept.2;
        start = refl;
        before = λ end before. before;
        given = refl;
        text = refl;
      })))
      by)

  module _ (s t : State) (u v w : Option (List ℕ)) (e1 e2 : Bool) (r1 r2 : Reads) (lines : List ℕ) (g : Going s u w e1 r1 lines) (wait : Wait s lines) where
    -- the reads of a call, where `all` are the bytes held in the end and those given
    module _ (all : List ℕ) (stops : Bool) (each : (stops || t.is_ended) ≡ false → r2.count + length s.held ≤ r1.count + length all)
        (within : r1.count < r2.count → r2.count + (s.start + length s.held) ≤ r1.count + (longest_text + 1))
        (quiet : s.is_ended ≡ true → (all ≡ s.held) × (t.is_ended ≡ true) × (r2 ≡ r1)) where
      few_reads : r2.count ≤ reads0.count + (longest_text + 1)
      few_reads = by s.is_ended refl
        where
          by : (b : Bool) → s.is_ended ≡ b → r2.count ≤ reads0.count + (longest_text + 1)
          by true is = omega (arith, ap (λ r. r.count) (quiet is).2, g.most)
          by false is = ⊎_elim (λ (more : r1.count < r2.count). omega (arith, within more, g.paid is)) (λ (none : r2.count ≤ r1.count). omega (arith, g.most))
              (cases_lt r1.count r2.count)

      paid_reads : stops ≡ false → t.is_ended ≡ false → r2.count ≤ reads0.count + (s.start + length all)
      paid_reads goes open_end = by s.is_ended refl
        where
          by : (b : Bool) → s.is_ended ≡ b → r2.count ≤ reads0.count + (s.start + length all)
          by true is = absurd (false≢true (sym open_end ∙ (quiet is).1))
          by false is = omega (arith, each (ap (λ b. b || t.is_ended) goes ∙ open_end), g.paid is)

    pub most_reads : (r : Result (Option Passage) PassageFault) (a : AfterNext s t u v e1 e2 r1 r2 r) → r2.count ≤ reads0.count + (longest_text + 1)
    most_reads r a =
        few_reads (lent_text r ++ t.held) (ends_run (fault_in r)) a.costs.each_gave a.costs.within
        (λ h. ((a.quiet h).0, (a.quiet h).1, (a.quiet h).2))

    keeps_now : (r : Result (Option Passage) PassageFault) (a : AfterNext s t u v e1 e2 r1 r2 r) → KeepsUp e reads0 r2 (g.bytes ++ a.got) g.out
    keeps_now r a = keeps_waiting e reads0 s g.bytes g.out lines g.standing t u v e1 e2 r1 r2 r a g.paid wait g.keeps_up

    before_now : (r : Result (Option Passage) PassageFault) (a : AfterNext s t u v e1 e2 r1 r2 r) (to : ℕ) → s.start < to → ReadsBefore to g.keeps_up
        → ReadsBefore to (keeps_now r a)
    unfolding keeps_now
    before_now r a = before_waiting e reads0 s g.bytes g.out lines g.standing t u v e1 e2 r1 r2 r a g.paid wait g.keeps_up

    -- and once the lines that waited were written, or some of them
    keeps_then : (r : Result (Option Passage) PassageFault) (a : AfterNext s t u v e1 e2 r1 r2 r) (put : List ℕ) → KeepsUp e reads0 r2 (g.bytes ++ a.got) (g.out ++ put)
    keeps_then r a put = keeps_written e reads0 r2 (g.bytes ++ a.got) g.out put (keeps_now r a)

    before_then : (r : Result (Option Passage) PassageFault) (a : AfterNext s t u v e1 e2 r1 r2 r) (put : List ℕ) (to : ℕ) → s.start < to → ReadsBefore to g.keeps_up
        → ReadsBefore to (keeps_then r a put)
    unfolding keeps_then
    before_then r a put to early before =
        before_written e reads0 r2 (g.bytes ++ a.got) g.out put (keeps_now r a) to (before_now r a to early before)

    notices : (r : Result (Option Passage) PassageFault) (a : AfterNext s t u v e1 e2 r1 r2 r) → t.is_ended ≡ true → e2 ≡ true
    notices r a at_end = (a.agrees g.agrees at_end).0

    -- a run over a range up to byte `to` may end after the call
    abbrev pub MayEnd : ℕ → Type 0
    MayEnd to = (s.start < to) × ReadsBefore to g.keeps_up

    -- and from byte `from` on, where it may begin so
    abbrev pub MayStop : (ℕ → Type 0) → ℕ → ℕ → Type 0
    MayStop Late from to = MayEnd to × Late from

    -- a run that ends after the call, once these lines were written
    ran_then : {X : Type 0} {May : ℕ → ℕ → Type 0} (failed : Bool) (answer : Result X CmdFault)
        (r : Result (Option Passage) PassageFault) (a : AfterNext s t u v e1 e2 r1 r2 r) → Took failed u0 v (g.bytes ++ a.got)
        → ((from to : ℕ) → May from to → MayEnd to) → (w' : Option (List ℕ)) (put : List ℕ) → Appends w w' put
        → ComesTo e e2 answer (g.bytes ++ a.got) (g.out ++ put)
        → ((from to : ℕ) → May from to → RangeComesTo e from to e2 (IsTrue e2 × IsAtEnd v) answer (g.bytes ++ a.got) (g.out ++ put))
        → Ran failed u0 v w0 w' (Ends e reads0 r2 e2 v May answer)
    ran_then failed answer r a took ends w' put wrote comes in_range = record {
      read = g.bytes ++ a.got;
      out = g.out ++ put;
      took = took;
      put = Appends-trans w0 w w' g.out put g.put wrote;
      so = record {
        comes = comes;
        in_range = in_range;
        keeps_up = keeps_then r a put;
        before = λ from to may. before_then r a put to (ends from to may).0 (ends from to may).1;
      };
    }

    module _ (p : Passage) (a : AfterNext s t u v e1 e2 r1 r2 (Ok (Some p))) where
      -- a passage was given, and its lines wait behind the others
      pub Going-lined : (line : List ℕ) → e.Settled (g.standing.given ++ given_now e s g.bytes (g.out ++ lines) g.standing t u v e1 e2 r1 r2 p a ∷ []) ((g.out ++ lines) ++ line)
          → Going t v w e2 r2 (lines ++ line)
      Going-lined line next = record {
        bytes = g.bytes ++ a.got;
        out = g.out;
        took = Consumes-trans u0 u v g.bytes a.got g.took (kept_took _ _ _ a.grown u v a.ahead_kept);
        put = g.put;
        standing = Standing-same e t (g.bytes ++ a.got) ((g.out ++ lines) ++ line) (g.out ++ (lines ++ line))
            (sym (append_assoc g.out lines line)) (Standing-next e s g.bytes (g.out ++ lines) g.standing t u v e1 e2 r1 r2 p a line next);
        agrees = a.agrees g.agrees;
        paid = λ open_end.
            (let few = paid_reads (p.text.now ++ t.held) false a.costs.each_gave a.costs.within
            (λ h. ((a.quiet h).0, (a.quiet h).1, (a.quiet h).2)) refl open_end in
            omega (arith, few, a.start, length-append p.text.now t.held));
        most = most_reads (Ok (Some p)) a;
        keeps_up = keeps_now (Ok (Some p)) a;
      }

      before-lined : (line : List ℕ) (next : e.Settled (g.standing.given ++ given_now e s g.bytes (g.out ++ lines) g.standing t u v e1 e2 r1 r2 p a ∷ []) ((g.out ++ lines) ++ line)) (to : ℕ) → MayEnd to → ReadsBefore to (Going-lined line next).keeps_up
      unfolding Going-lined
      before-lined line next to may = before_now (Ok (Some p)) a to may.0 may.1

      pub lined-given : (line : List ℕ) (next : e.Settled (g.standing.given ++ given_now e s g.bytes (g.out ++ lines) g.standing t u v e1 e2 r1 r2 p a ∷ []) ((g.out ++ lines) ++ line))
          → (Going-lined line next).standing.given ≡ g.standing.given ++ given_now e s g.bytes (g.out ++ lines) g.standing t u v e1 e2 r1 r2 p a ∷ []
      unfolding Going-lined Standing-same
      lined-given line next = Standing-next-given e s g.bytes (g.out ++ lines) g.standing t u v e1 e2 r1 r2 p a line next

      pub lined-out : (line : List ℕ) (next : e.Settled (g.standing.given ++ given_now e s g.bytes (g.out ++ lines) g.standing t u v e1 e2 r1 r2 p a ∷ []) ((g.out ++ lines) ++ line))
          → (Going-lined line next).out ≡ g.out
      unfolding Going-lined
      lined-out line next = refl

      -- and were written
      pub Going-given : (line : List ℕ) → e.Settled (g.standing.given ++ given_now e s g.bytes (g.out ++ lines) g.standing t u v e1 e2 r1 r2 p a ∷ []) ((g.out ++ lines) ++ line)
          → (w' : Option (List ℕ)) → Appends w w' (lines ++ line) → Going t v w' e2 r2 []
      Going-given line next w' wrote = Going-written t v w e2 r2 (lines ++ line) (Going-lined line next) w' wrote

      pub Going-given-is : (line : List ℕ) (next : e.Settled (g.standing.given ++ given_now e s g.bytes (g.out ++ lines) g.standing t u v e1 e2 r1 r2 p a ∷ []) ((g.out ++ lines) ++ line))
          (w' : Option (List ℕ)) (wrote : Appends w w' (lines ++ line))
          → (Going-given line next w' wrote).standing.given ≡ g.standing.given ++ given_now e s g.bytes (g.out ++ lines) g.standing t u v e1 e2 r1 r2 p a ∷ []
      unfolding Going-given
      Going-given-is line next w' wrote = Going-written-given t v w e2 r2 (lines ++ line) (Going-lined line next) w' wrote ∙ lined-given line next

      -- where a run goes on
      pub record GoesTo (lines' : List ℕ) (at : ℕ) : Type 0 where
        pub going : Going t v w e2 r2 lines'
        pub before : (to : ℕ) → MayEnd to → ReadsBefore to going.keeps_up
        pub is : at ≡ t.start
        pub onward : s.start < t.start
        pub few : t.start ≤ longest_text

      pub goes_to : (lines' line : List ℕ) (at : ℕ) → at ≡ p.start + length p.text.now → lines' ≡ lines ++ line
          → e.Settled (g.standing.given ++ given_now e s g.bytes (g.out ++ lines) g.standing t u v e1 e2 r1 r2 p a ∷ []) ((g.out ++ lines) ++ line) → GoesTo lines' at
      goes_to lines' line at end same next =
          let start = start_now e s g.bytes (g.out ++ lines) g.standing t u v e1 e2 r1 r2 p a in
          let lends : Lends s t p = a.answer in
          subst (λ l. GoesTo l at) (sym same) (record {
            going = Going-lined line next;
            before = before-lined line next;
            is = omega (arith, end, start, a.start);
            onward = omega (arith, a.start, some_bytes_of lends.marks lends.passage.some, ap length lends.passage.text);
            few = omega (arith, a.start, lends.counted);
          })

      -- memory could not grow for its lines; those that waited were written
      pub ran_memory : (X : Type 0) (Late : ℕ → Type 0) → ((from : ℕ) → Late from → from ≤ s.start) → (w' : Option (List ℕ)) → Appends w w' lines
          → Ran false u0 v w0 w' (Ends {X = X} e reads0 r2 e2 v (MayStop Late) (Err cmd.Memory))
      ran_memory X Late is_late w' wrote =
          let lends : Lends s t p = a.answer in
          let held = run_memory e s g.bytes (g.out ++ lines) g.standing t u v e1 e2 r1 r2 (Ok (Some p)) a (notices (Ok (Some p)) a) lends.marks t.held lends.passage.some
          (ap (λ l. l ++ t.held) lends.passage.text) lends.comes in
          ran_then false (Err cmd.Memory) (Ok (Some p)) a
          (Consumes-trans u0 u v g.bytes a.got g.took (kept_took _ _ _ a.grown u v a.ahead_kept))
          (λ from to may. may.0) w' lines wrote held.0
          (λ from to may. record {
            held_up = held.0;
            late = omega (arith, held.1, is_late from may.1);
            begins = omega (arith, held.1, may.0.0);
          })

    pub at_the_end : AfterNext s t u v e1 e2 r1 r2 (Ok None) → (e2 ≡ true) × IsAtEnd v
    at_the_end a = let done : IsDone t = a.answer in a.agrees g.agrees done.at_end

    -- the text was read to its end, and what is written of all of it
    pub ran_whole : {X : Type 0} (Late : ℕ → Type 0) (x : X) (w' : Option (List ℕ)) (put : List ℕ) → Appends w w' put → e.Whole g.standing.given (g.out ++ put)
        → AfterNext s t u v e1 e2 r1 r2 (Ok None) → Ran false u0 v w0 w' (Ends e reads0 r2 e2 v (MayStop Late) (Ok x))
    ran_whole Late x w' put wrote all a =
        let whole = run_whole e s g.bytes (g.out ++ lines) g.standing t u v e1 e2 r1 r2 a (g.out ++ put) all in
        ran_then false (Ok x) (Ok None) a
        (Consumes-trans u0 u v g.bytes a.got g.took (kept_took _ _ _ a.grown u v a.ahead_kept))
        (λ from to may. may.0) w' put wrote whole (λ from to may. inl (at_the_end a, whole))

    -- the text was read to its end, and only the front was written of what is written of all of it
    pub ran_cut_off : (X : Type 0) (all : List ℕ) → e.Whole g.standing.given all → AfterNext s t u v e1 e2 r1 r2 (Ok None) → (w' : Option (List ℕ)) (put : List ℕ) (n : ℕ)
        → Appends w w' put → g.out ++ put ≡ take n all → Ran false u0 v w0 w' (Ends {X = X} e reads0 r2 e2 v (λ from to. MayEnd to) (Err cmd.Write))
    ran_cut_off X all whole a w' put n wrote front =
        let comes = front_of_all all n (at_the_end a).0 (run_whole e s g.bytes (g.out ++ lines) g.standing t u v e1 e2 r1 r2 a all whole) front in
        ran_then false (Err cmd.Write) (Ok None) a
        (Consumes-trans u0 u v g.bytes a.got g.took (kept_took _ _ _ a.grown u v a.ahead_kept))
        (λ from to may. may) w' put wrote comes (λ from to may. comes)

    -- the segmenter answered a fault
    pub ran_fault : (X : Type 0) (Late : ℕ → Type 0) (why : PassageFault) → ((from : ℕ) → Late from → why ≡ fault.Memory → from ≤ s.start)
        → (w' : Option (List ℕ)) → Appends w w' lines → AfterNext s t u v e1 e2 r1 r2 (Err why)
        → Ran (is_failed_read {X = X} (Err (cmd.Passage why))) u0 v w0 w' (Ends {X = X} e reads0 r2 e2 v (MayStop Late) (Err (cmd.Passage why)))
    ran_fault X Late why is_late w' wrote a =
        ran_then (is_failed_read {X = X} (Err (cmd.Passage why))) (Err (cmd.Passage why)) (Err why) a
        (Took-then (is_failed_read {X = X} (Err (cmd.Passage why))) u0 u v g.bytes a.got g.took (took_fault X s t u v e1 e2 r1 r2 why a))
        (λ from to may. may.0) w' lines wrote
        (run_fault e s g.bytes (g.out ++ lines) g.standing t u v e1 e2 r1 r2 X why a (notices (Err why) a))
        (λ from to may. range_fault e s g.bytes (g.out ++ lines) g.standing t u v e1 e2 r1 r2 X from to (IsTrue e2 × IsAtEnd v) why a
        (notices (Err why) a) (is_late from may.1) may.0.0)

    -- after a call that read nothing, the lines that waited were not written, or not all of them
    pub ran_held_back : Finishes e → (X : Type 0) (r : Result (Option Passage) PassageFault) (a : AfterNext s t u v e1 e2 r1 r2 r) → ¬ (fault_in r ≡ Some fault.Read)
        → (w' : Option (List ℕ)) (n : ℕ) → Appends w w' (take n lines) → Ran false u0 v w0 w' (Ends {X = X} e reads0 r2 e2 v (λ from to. MayEnd to) (Err cmd.Write))
    ran_held_back finishes X r a calm w' n wrote =
        let put = take n lines in
        let comes = stopped e s g.bytes (g.out ++ lines) g.standing finishes e2 a.got
        (λ at_end. let quiet = a.quiet at_end in (notices r a quiet.1, none_got s.held a.got (sym a.grown ∙ quiet.0))) (g.out ++ put) (length g.out + n)
        (sym (take-append-add g.out lines n)) in
        ran_then false (Err cmd.Write) r a
        (Consumes-trans u0 u v g.bytes a.got g.took (kept_took _ _ _ a.grown u v (kept_but_read (fault_in r) _ _ calm a.ahead_kept)))
        (λ from to may. may) w' put wrote comes (λ from to may. comes)

  -- nothing was read, where the segmenter could not be made
  ran_nothing : e.Settled [] [] → {X : Type 0} (has_ended : Bool) (answer : Result X CmdFault) → ComesTo e has_ended answer [] []
      → ((begin end : ℕ) → RangeComesTo e begin end has_ended (IsTrue has_ended × IsAtEnd u0) answer [] [])
      → Ran false u0 u0 w0 w0 (Ends e reads0 reads0 has_ended u0 (λ begin end. Unit {0}) answer)
  ran_nothing none_settled has_ended answer comes in_range = record {
    read = [];
    out = [];
    took = Consumes-nil u0;
    put = Appends-nil w0;
    so = record {
      comes = comes;
      in_range = λ begin end may. in_range begin end;
      keeps_up = keeps_none e reads0 none_settled;
      before = λ begin end may. before_none e reads0 none_settled end;
    };
  }

-- A run by the answers of its calls

module _ (e : Writing) (u0 w0 : Option (List ℕ)) (reads0 : Reads) (X : Type 0) (answer : Result X CmdFault) where
  -- the segmenter could not be made
  pub run_none : e.Settled [] [] → (why : PassageFault) (has_ended : Bool) → answer ≡ Err (cmd.Passage why) → (why ≡ fault.Limit) ⊎ (why ≡ fault.Memory)
      → Ran (is_failed_read answer) u0 u0 w0 w0 (Ends e reads0 reads0 has_ended u0 (λ begin end. Unit {0}) answer)
  run_none none_settled why has_ended is one =
      subst (λ r. Ran (is_failed_read r) u0 u0 w0 w0 (Ends e reads0 reads0 has_ended u0 (λ begin end. Unit {0}) r)) (sym is)
      (⊎_elim
      (λ limit. none limit (ran_nothing e u0 w0 reads0 none_settled {X = X} has_ended (Err (cmd.Passage fault.Limit)) (refl, refl) (λ begin end. (refl, refl))))
      (λ memory. none memory (ran_nothing e u0 w0 reads0 none_settled {X = X} has_ended (Err (cmd.Passage fault.Memory)) (inl (refl, refl)) (λ begin end. inl (refl, refl))))
      one)
    where
      none : {known : PassageFault} → why ≡ known
          → Ran (is_failed_read {X = X} (Err (cmd.Passage known))) u0 u0 w0 w0 (Ends {X = X} e reads0 reads0 has_ended u0 (λ begin end. Unit {0}) (Err (cmd.Passage known)))
          → Ran (is_failed_read {X = X} (Err (cmd.Passage why))) u0 u0 w0 w0 (Ends {X = X} e reads0 reads0 has_ended u0 (λ begin end. Unit {0}) (Err (cmd.Passage why)))
      none same ran =
          subst (λ f. Ran (is_failed_read {X = X} (Err (cmd.Passage f))) u0 u0 w0 w0 (Ends {X = X} e reads0 reads0 has_ended u0 (λ begin end. Unit {0}) (Err (cmd.Passage f)))) (sym same) ran

  module _ (s t : State) (u v w : Option (List ℕ)) (e1 e2 : Bool) (r1 r2 : Reads) (r : Result (Option Passage) PassageFault) (lines : List ℕ)
      (g : Going e u0 w0 reads0 s u w e1 r1 lines) (wait : Wait e u0 w0 reads0 s lines) (a : AfterNext s t u v e1 e2 r1 r2 r) (w' : Option (List ℕ)) (wrote : Appends w w' lines) where
    -- where memory could not grow for a passage, this one begins in the range
    abbrev pub IsLate : ℕ → Type 0
    IsLate from = r ≡ Err fault.Memory → from ≤ s.start

    -- a run that ends after the call, over a range where it may begin so
    abbrev pub EndsSo : (ℕ → Type 0) → Type 0
    EndsSo Late = Ran (is_failed_read answer) u0 v w0 w' (Ends e reads0 r2 e2 v (MayStop e u0 w0 reads0 s t u v w e1 e2 r1 r2 lines g wait Late) answer)

    ended_so : (Late : ℕ → Type 0) (known : Result X CmdFault) → answer ≡ known
        → Ran (is_failed_read known) u0 v w0 w' (Ends e reads0 r2 e2 v (MayStop e u0 w0 reads0 s t u v w e1 e2 r1 r2 lines g wait Late) known) → EndsSo Late
    ended_so Late known is =
        subst (λ x. Ran (is_failed_read x) u0 v w0 w' (Ends e reads0 r2 e2 v (MayStop e u0 w0 reads0 s t u v w e1 e2 r1 r2 lines g wait Late) x)) (sym is)

    pub run_stopped : (why : PassageFault) → r ≡ Err why → answer ≡ Err (cmd.Passage why) → EndsSo IsLate
    run_stopped why was is =
        ended_so IsLate (Err (cmd.Passage why)) is (ran_fault e u0 w0 reads0 s t u v w e1 e2 r1 r2 lines g wait X IsLate why
        (λ from late same. late (was ∙ ap (λ f. Err f) same)) w' wrote (subst (AfterNext s t u v e1 e2 r1 r2) was a))

    pub run_ended : (x : X) → r ≡ Ok None → e.Whole g.standing.given (g.out ++ lines) → answer ≡ Ok x → EndsSo IsLate
    run_ended x was whole is =
        ended_so IsLate (Ok x) is (ran_whole e u0 w0 reads0 s t u v w e1 e2 r1 r2 lines g wait IsLate x w' lines wrote whole (subst (AfterNext s t u v e1 e2 r1 r2) was a))

    pub run_out_of_memory : (p : Passage) → r ≡ Ok (Some p) → answer ≡ Err cmd.Memory → EndsSo (λ from. from ≤ s.start)
    run_out_of_memory p was is =
        ended_so (λ from. from ≤ s.start) (Err cmd.Memory) is
        (ran_memory e u0 w0 reads0 s t u v w e1 e2 r1 r2 lines g wait p (subst (AfterNext s t u v e1 e2 r1 r2) was a) X (λ from. from ≤ s.start) (λ from late. late) w' wrote)

-- over the whole text
pub whole_run : {X : Type 0} {failed : Bool} {u v w w' : Option (List ℕ)} {e : Writing} {from to : Reads} {has_ended : Bool} {unread : Option (List ℕ)} {May : ℕ → ℕ → Type 0}
    {answer : Result X CmdFault} → Ran failed u v w w' (Ends e from to has_ended unread May answer) → Ran failed u v w w' (IsRun e from to has_ended answer)
whole_run ran = record {
  read = ran.read;
  out = ran.out;
  took = ran.took;
  put = ran.put;
  so = record { comes = ran.so.comes; keeps_up = ran.so.keeps_up };
}

-- over a range
pub range_run : {X : Type 0} {failed : Bool} {u v w w' : Option (List ℕ)} {e : Writing} {from to : Reads} {has_ended : Bool} {unread : Option (List ℕ)} {May : ℕ → ℕ → Type 0}
    {answer : Result X CmdFault} → Ran failed u v w w' (Ends e from to has_ended unread May answer) → (begin end : ℕ) → May begin end
    → Ran failed u v w w' (IsRangeRun e begin end from to has_ended (IsTrue has_ended × IsAtEnd unread) answer)
range_run ran begin end may = record {
  read = ran.read;
  out = ran.out;
  took = ran.took;
  put = ran.put;
  so = record { comes = ran.so.in_range begin end may; keeps_up = ran.so.keeps_up; no_further = ran.so.before begin end may };
}
