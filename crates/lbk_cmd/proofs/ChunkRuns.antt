-- A run that writes chunks, by the answers of its calls.
use Rattle.std.proofs.Common.{◌≡◌, ◌⊎◌, inr, ⊎_elim, ℕ, ◌+◌, ◌<◌, ◌≤◌, Bool, true, false, List, [], ◌∷◌, ◌++◌, length, take, Option, None, Some, Result, Ok, Err, refl, sym, ap, subst, ◌∙◌, arith, append_assoc, append-nil, encode_utf8_all}
use Rattle.std.specs.Io.KnownBytes.{Appends, IsAtEnd}
use Rattle.std.specs.Prelude.{IfSome, IsUtf8}
use Rattle.std.specs.Str.{chars}
use Rattle.std.specs.List.{AllByRecursion}
use Rattle.std.proofs.KnownBytes.{Consumes-whole}
use Rattle.std.proofs.Math.Seq.{take-append-add}
use Rattle.std.proofs.lemmas.Bool.{false≢true}
use Rattle.lbk_feed.specs.Devices.{Reads}
use Rattle.lbk_feed.specs.Runs.{Ran}
use Rattle.lbk_feed.specs.Text.{longest_text}
use Rattle.lbk_rules.specs.declared.Cell.{Cell}
use Rattle.lbk_values.specs.declared.profile.Profile.{Profile}
use Rattle.lbk_passage.specs.Marks.{Marked}
use Rattle.lbk_passage.specs.Next.{AfterNext, Lends, failures_with, fault_in}
use Rattle.lbk_passage.specs.Passages.{passages}
use Rattle.lbk_passage.specs.State.{State, new_state}
use Rattle.lbk_passage.specs.declared.faults.PassageFault.{PassageFault}
use Rattle.lbk_passage.specs.declared.faults.PassageFault.TheVariants as fault
use Rattle.lbk_passage.specs.declared.passage.Passage.{Passage}
use Rattle.lbk_chunks.specs.declared.chunk.Chunk.{Chunk}
use Rattle.lbk_chunks.specs.declared.chunk.Limits.{Limits}
use Rattle.lbk_chunks.specs.Cuts.{AreCutsPast}
use Rattle.lbk_chunks.specs.Chunks.{text_start}
use Rattle.lbk_chunk_reader.specs.Cuts.{cuts_of_passages}
use Rattle.lbk_chunk_reader.specs.Settled.{IsOpen, Settle, SettleAll}
use Rattle.lbk_chunk_reader.specs.Standing.{Stands}
use Rattle.lbk_chunk_reader.specs.Taking.{Takes, TakesNext}
use Rattle.lbk_chunk_reader.specs.Window.{Holds, IsNewWindow, IsTaken, cuts_in, here_in, keeps_text, limits_in}
use Rattle.lbk_chunk_reader.specs.declared.window.Window.{Window}
use Rattle.lbk_chunk_reader.proofs.BetweenLemmas.{between-past}
use Rattle.lbk_chunk_reader.proofs.SettledLemmas.{settle-all}
use Rattle.lbk_cmd.specs.Chunk.{Wanted, AreLinesOf, chunk_lines, chunking}
use Rattle.lbk_cmd.specs.Chunking.{BreaksOff, Gave, IsIn, Rests, StandsIn, WritesAll}
use Rattle.lbk_cmd.specs.Gathering.{HasWritten}
use Rattle.lbk_cmd.specs.Run.{IsRun, IsWhole, Writing, failed_reads_with, is_failed_read}
use Rattle.lbk_cmd.specs.declared.faults.CmdFault.{CmdFault}
use Rattle.lbk_cmd.specs.declared.faults.CmdFault.TheVariants as cmd
use Rattle.lbk_cmd.proofs.Chunking.{Chunked, all-settled, all-whole, bytes_of_passages, chunked-gave, chunked-new, chunked-taken, chunks_finish, new-open, settled-text, stands-in, text-given, text_given, words_of_passages}
use Rattle.lbk_cmd.proofs.Gathering.{failed_alike}
use Rattle.lbk_cmd.proofs.Looping.{Appends-trans, Going, Going-lined, Going-new, Going-new-given, Going-new-out, Going-put, Going-put-is, Wait, at_the_end, due, lined-given, lined-out, most_reads, ran_cut_off, ran_fault, ran_held_back, ran_memory, ran_unwritten, ran_whole, whole_run}
use Rattle.lbk_cmd.proofs.Running.{given_now, passage_now, some_bytes_of, start_now}

-- want of memory for cuts is that for a passage
memory_alike : {u v w w' : Option (List ℕ)} {e : Writing} {from to : Reads} {ended : Bool}
    → Ran false u v w w' (IsRun {X = Unit {0}} e from to ended (Err cmd.Memory)) → Ran false u v w w' (IsRun {X = Unit {0}} e from to ended (Err (cmd.Passage fault.Memory)))
memory_alike ran = record {
  read = ran.read;
  out = ran.out;
  took = ran.took;
  put = ran.put;
  so = record { comes = inr ran.so.comes; keeps_up = ran.so.keeps_up };
}

-- a run over a reader that tells its bytes
pub known_chunks : (asked : Wanted) (l : Limits) (cell : ℕ → Cell) (profile : Profile) (limit : ℕ) (from to : Reads) (ended : Bool) (u u' w w' : Option (List ℕ))
    → Ran false u u' w w' (IsRun (chunking asked l cell profile limit) from to ended (Ok (tt {0}))) → IsAtEnd u'
    → IfSome u (λ input. IsUtf8 input × ((out : List ℕ) × AreLinesOf asked l cell (passages profile cell (chars input)) out × Appends w w' out))
known_chunks asked l cell profile limit from to ended u u' w w' ran at_end =
    let whole : IsWhole (chunking asked l cell profile limit) ran.read ran.out = ran.so.comes in
    Consumes-whole u u' ran.read (λ input. IsUtf8 input × ((out : List ℕ) × AreLinesOf asked l cell (passages profile cell (chars input)) out × Appends w w' out)) ran.took at_end
    (whole.utf8, (ran.out, whole.is, ran.put))

-- an answer that is another one
pub ok-no-limit : (answer : Result (Unit {0}) CmdFault) → answer ≡ Ok (tt {0}) → ¬ (answer ≡ Err (cmd.Passage fault.Limit))
ok-no-limit answer is limit = let both : Ok (tt {0}) ≡ Err (cmd.Passage fault.Limit) = sym is ∙ limit in cc

-- all chunks that a window gave, where it gives no more
pub gave-all : (asked : Wanted) (text : List ℕ) (is_whole : Bool) (w w' : Window) (u v : Option (List ℕ)) (waiting waiting' : List ℕ) (g : Gave asked text is_whole w w' u v waiting waiting')
    → Rests is_whole w' → AreCutsPast (here_in w).start (cuts_in w) → (here_in w).start ≤ (here_in w).told
    → SettleAll (limits_in w) is_whole (here_in w) (cuts_in w) g.chunks
gave-all asked text true w w' u v waiting waiting' g rests rising told =
    subst (SettleAll (limits_in w) true (here_in w) (cuts_in w)) (append-nil g.chunks)
    (settle-all (limits_in w) true (here_in w) (cuts_in w) g.chunks (here_in w') (cuts_in w') [] rising told g.settle rests)
gave-all asked text false w w' u v waiting waiting' g rests rising told =
    (here_in w', cuts_in w', g.settle, subst (λ (x : Limits). IsOpen x (here_in w') (cuts_in w')) g.limits rests)

-- the last lines were written, or only their front
module _ (asked : Wanted) (text : List ℕ) (w w' : Window) (u v : Option (List ℕ)) (waiting waiting' : List ℕ) (g : Gave asked text true w w' u v waiting waiting') (rests : Rests true w')
    (rising : AreCutsPast (here_in w).start (cuts_in w)) (told : (here_in w).start ≤ (here_in w).told) where
  pub last-lines : (v' : Option (List ℕ)) → Appends v v' waiting' → WritesAll asked text w u v' waiting
  last-lines v' wrote = record {
    chunks = g.chunks;
    all = gave-all asked text true w w' u v waiting waiting' g rests rising told;
    wrote = subst (Appends u v') g.passes.is (Appends-trans u v v' g.passes.put waiting' g.passes.wrote wrote);
  }

  pub last-front : (v' : Option (List ℕ)) (n : ℕ) → Appends v v' (take n waiting') → BreaksOff asked text true w u v' waiting
  last-front v' n wrote = record {
    chunks = g.chunks;
    all = gave-all asked text true w w' u v waiting waiting' g rests rising told;
    count = length g.passes.put + n;
    wrote = subst (Appends u v') (sym (take-append-add g.passes.put waiting' n) ∙ ap (take (length g.passes.put + n)) g.passes.is)
        (Appends-trans u v v' g.passes.put (take n waiting') g.passes.wrote wrote);
  }

-- where no line waits, no write fails
pub waited : {F : Type 0} (s : State) (lines : List ℕ) → (lines ≡ []) ⊎ (s.is_settled ≡ true) → (written : Result (Unit {0}) F) (why : F) → written ≡ Err why
    → (lines ≡ [] → written ≡ Ok (tt {0})) → s.is_settled ≡ true
waited s lines wait written why was nothing = ⊎_elim
    (λ (none : lines ≡ []). absurd (let both : Ok (tt {0}) ≡ Err why = sym (nothing none) ∙ was in cc))
    (λ (settled : s.is_settled ≡ true). settled)
    wait

-- cuts that stand in a window rise
pub window-rising : (w : Window) (s : State) (is_whole : Bool) → Stands w s is_whole → AreCutsPast (here_in w).start (cuts_in w)
window-rising w s is_whole st =
    subst (AreCutsPast (here_in w).start) (append-nil (cuts_in w)) (between-past (here_in w).start (cuts_in w) s.start [] st.between tt)

module _ (asked : Wanted) (l : Limits) (cell : ℕ → Cell) (profile : Profile) (limit : ℕ) (u0 w0 : Option (List ℕ)) (reads0 : Reads) where
  abbrev pub e : Writing
  e = chunking asked l cell profile limit

  abbrev pub Runs : State → Option (List ℕ) → Option (List ℕ) → Bool → Reads → List ℕ → Type 0
  Runs s u w ended reads lines = Going e u0 w0 reads0 s u w ended reads lines

  -- a run that goes on: what it read and wrote, and the window, which gives no chunk
  pub record Cuts (s : State) (u w : Option (List ℕ)) (ended : Bool) (reads : Reads) (lines : List ℕ) (window : Window) : Type 0 where
    pub going : Runs s u w ended reads lines
    pub chunked : Chunked asked l cell profile limit window s going.standing.given (going.out ++ lines)
    pub rests : Rests false window

  pub cuts-new : (s : State) (ended : Bool) (window : Window) → IsNewWindow l window → keeps_text window ≡ asked.texts → s ≡ new_state cell profile limit → Cuts s u0 w0 ended reads0 [] window
  cuts-new s ended window new keeps is =
      let none = settled-text asked l cell profile limit window s [] [] (chunked-new asked l cell profile limit window s new keeps is) (new-open asked l cell profile limit window new) in
      let going = Going-new e u0 w0 reads0 s ended is none in
      record {
        going = going;
        chunked = subst (λ (g : List (List Marked)). Chunked asked l cell profile limit window s g (going.out ++ [])) (sym (Going-new-given e u0 w0 reads0 s ended is none))
            (subst (λ (x : List ℕ). Chunked asked l cell profile limit window s [] (x ++ [])) (sym (Going-new-out e u0 w0 reads0 s ended is none))
            (chunked-new asked l cell profile limit window s new keeps is));
        rests = new-open asked l cell profile limit window new;
      }

  -- the next passage was looked for, and lines were written where a read may be due
  pub record CutsDue (s t : State) (u w w' : Option (List ℕ)) (ended : Bool) (reads : Reads) (lines' : List ℕ) (window : Window) : Type 0 where
    pub cuts : Cuts t u w' ended reads lines' window
    pub wait : Wait e u0 w0 reads0 t lines'
    pub start : t.start ≡ s.start

  settled-stands : (w : Window) (s t : State) → t ≡ record s { is_settled = t.is_settled } → Stands w s false → Stands w t false
  settled-stands w s t is st = subst (λ (x : State). Stands w x false) (sym is) (record {
    unspent = st.unspent;
    whole = λ never. absurd (false≢true never);
    between = st.between;
    told = st.told;
    words = st.words;
  })

  pub cuts-due : (s t : State) (u w w' : Option (List ℕ)) (ended : Bool) (reads : Reads) (lines lines' : List ℕ) (window : Window) → Cuts s u w ended reads lines window
      → t ≡ record s { is_settled = t.is_settled } → HasWritten w w' lines lines' ⊎ ((lines' ≡ lines) × (w' ≡ w) × (t.is_settled ≡ true))
      → CutsDue s t u w w' ended reads lines' window
  cuts-due s t u w w' ended reads lines lines' window c is by =
      let d = due e u0 w0 reads0 s t u w w' ended reads lines lines' c.going is by in
      let old = c.chunked in
      record {
        cuts = record {
          going = d.going;
          chunked = record {
            limits = old.limits;
            stands = settled-stands window s t is old.stands;
            words = old.words ∙ ap (λ g. words_of_passages cell 0 g) (sym d.given);
            chunks = old.chunks;
            settle = subst (λ g. Settle l false text_start (cuts_of_passages cell 0 0 g) old.chunks (here_in window) (cuts_in window)) (sym d.given) old.settle;
            start = d.start ∙ old.start ∙ ap (λ g. length (text_given g)) (sym d.given);
            within = subst (λ g. AllByRecursion (IsIn (text_given g)) old.chunks) (sym d.given) old.within;
            keeps = old.keeps;
            holds = subst (λ g. Holds (text_given g) window) (sym d.given) old.holds;
            is = d.text ∙ old.is ∙ ap (λ g. chunk_lines asked (text_given g) old.chunks) (sym d.given);
          };
          rests = c.rests;
        };
        wait = d.wait;
        start = d.start;
      }

  module _ (s t : State) (u v w : Option (List ℕ)) (e1 e2 : Bool) (r1 r2 : Reads) (f1 f2 : ℕ) (lines : List ℕ) (window window' : Window)
      (c : Cuts s u w e1 r1 lines window) (wait : Wait e u0 w0 reads0 s lines) where
    pub most : (r : Result Bool PassageFault) → TakesNext s t u v e1 e2 r1 r2 f1 f2 window window' r → r2.count ≤ reads0.count + (longest_text + 1)
    most r n = most_reads e u0 w0 reads0 s t u v w e1 e2 r1 r2 lines c.going wait n.lent n.after

    -- a passage came, and its cuts
    pub record Came : Type 0 where
      pub passage : Passage
      pub after : AfterNext s t u v e1 e2 r1 r2 (Ok (Some passage))
      pub taken : IsTaken passage window window'
      pub none_failed : f2 ≡ f1

    pub came : TakesNext s t u v e1 e2 r1 r2 f1 f2 window window' (Ok true) → Came
    came n = by n.lent n.after n.failed n.takes
      where
        by : (lent : Result (Option Passage) PassageFault) → AfterNext s t u v e1 e2 r1 r2 lent → f2 ≡ failures_with f1 (fault_in lent) → Takes lent window window' (Ok true) → Came
        by (Ok (Some p)) a failed takes = record { passage = p; after = a; taken = takes.1; none_failed = failed }
        by (Ok None) a failed takes = absurd (let no : ⊥ = cc in no)
        by (Err why) a failed takes = absurd (let no : ⊥ = cc in no)

    -- none came
    pub ended-so : TakesNext s t u v e1 e2 r1 r2 f1 f2 window window' (Ok false) → AfterNext s t u v e1 e2 r1 r2 (Ok None) × (window' ≡ window) × (f2 ≡ f1)
    ended-so n = by n.lent n.after n.failed n.takes
      where
        by : (lent : Result (Option Passage) PassageFault) → AfterNext s t u v e1 e2 r1 r2 lent → f2 ≡ failures_with f1 (fault_in lent) → Takes lent window window' (Ok false)
            → AfterNext s t u v e1 e2 r1 r2 (Ok None) × (window' ≡ window) × (f2 ≡ f1)
        by (Ok (Some p)) a failed takes = absurd (false≢true takes.0)
        by (Ok None) a failed takes = (a, takes.1, failed)
        by (Err why) a failed takes = absurd (let no : ⊥ = cc in no)

    module _ (k : Came) where
      abbrev text_now : List ℕ
      text_now = text_given (c.going.standing.given ++ given_now e s c.going.bytes (c.going.out ++ lines) c.going.standing t u v e1 e2 r1 r2 k.passage k.after ∷ [])

      pub chunked-now : Chunked asked l cell profile limit window' t (c.going.standing.given ++ given_now e s c.going.bytes (c.going.out ++ lines) c.going.standing t u v e1 e2 r1 r2 k.passage k.after ∷ []) (c.going.out ++ lines)
      chunked-now =
          let st = c.going.standing in
          let place : k.passage.start ≡ bytes_of_passages st.given =
          start_now e s c.going.bytes (c.going.out ++ lines) st t u v e1 e2 r1 r2 k.passage k.after ∙ st.start
          ∙ ap (λ x. length (encode_utf8_all x)) (sym st.joined) ∙ ap length (text-given st.given) in
          chunked-taken asked l cell profile limit window s st.given (c.going.out ++ lines) c.chunked window' t u v e1 e2 r1 r2 k.passage k.after k.taken
          (given_now e s c.going.bytes (c.going.out ++ lines) st t u v e1 e2 r1 r2 k.passage k.after)
          (passage_now e s c.going.bytes (c.going.out ++ lines) st t u v e1 e2 r1 r2 k.passage k.after) st.cell place

      -- the window gave what its cuts settle
      pub goes-on : (window'' : Window) (w' : Option (List ℕ)) (lines' : List ℕ) → (gave : Gave asked text_now false window' window'' w w' lines lines') → Rests false window''
          → Cuts t v w' e2 r2 lines' window''
      goes-on window'' w' lines' gave rests =
          let line = chunk_lines asked text_now gave.chunks in
          let now = chunked-gave asked l cell profile limit window' t _ (c.going.out ++ lines) chunked-now window'' w w' lines lines' gave in
          let next = settled-text asked l cell profile limit window'' t _ ((c.going.out ++ lines) ++ line) now rests in
          let lined = Going-lined e u0 w0 reads0 s t u v w e1 e2 r1 r2 lines c.going wait k.passage k.after line next in
          let same = lined-given e u0 w0 reads0 s t u v w e1 e2 r1 r2 lines c.going wait k.passage k.after line next in
          let out = lined-out e u0 w0 reads0 s t u v w e1 e2 r1 r2 lines c.going wait k.passage k.after line next in
          let put = gave.passes.put in
          let is = Going-put-is e u0 w0 reads0 t v w e2 r2 (lines ++ line) lined w' put lines' gave.passes.is gave.passes.wrote in
          let final = Going-put e u0 w0 reads0 t v w e2 r2 (lines ++ line) lined w' put lines' gave.passes.is gave.passes.wrote in
          record {
            going = final;
            chunked = subst (λ (x : List (List Marked)). Chunked asked l cell profile limit window'' t x (final.out ++ lines')) (sym (is.0 ∙ same))
                (subst (λ (x : List ℕ). Chunked asked l cell profile limit window'' t
                (c.going.standing.given ++ given_now e s c.going.bytes (c.going.out ++ lines) c.going.standing t u v e1 e2 r1 r2 k.passage k.after ∷ []) x)
                (append_assoc c.going.out lines line ∙ ap (λ x. c.going.out ++ x) (sym gave.passes.is) ∙ sym (append_assoc c.going.out put lines')
                ∙ ap (λ x. (x ++ put) ++ lines') (sym out) ∙ ap (λ x. x ++ lines') (sym is.1)) now);
            rests = rests;
          }

      pub onward : (s.start < t.start) × (t.start ≤ longest_text)
      onward =
          let lends : Lends s t k.passage = k.after.answer in
          let a = k.after in (
            omega (arith, a.start, some_bytes_of lends.marks lends.passage.some, ap length lends.passage.text),
            omega (arith, a.start, lends.counted),
          )

      pub then-rising : AreCutsPast (here_in window').start (cuts_in window')
      then-rising = window-rising window' t false chunked-now.stands

      pub then-told : (here_in window').start ≤ (here_in window').told
      then-told = chunked-now.stands.told

      pub then-in : StandsIn asked text_now window'
      then-in = stands-in asked l cell profile limit window' t _ (c.going.out ++ lines) chunked-now

      -- a write failed of its chunks
      pub broken-off : (w' : Option (List ℕ)) → BreaksOff asked text_now false window' w w' lines
          → Ran false u0 v w0 w' (IsRun {X = Unit {0}} e reads0 r2 e2 (Err cmd.Write))
      broken-off w' b =
          let line = chunk_lines asked text_now b.chunks in
          let next = all-settled asked l cell profile limit window' t _ (c.going.out ++ lines) chunked-now b.chunks b.all in
          let lined = Going-lined e u0 w0 reads0 s t u v w e1 e2 r1 r2 lines c.going wait k.passage k.after line next in
          whole_run (ran_unwritten e u0 w0 reads0 t v w e2 r2 (lines ++ line) lined (chunks_finish asked l cell profile limit) (Unit {0}) w' b.count b.wrote)

    -- the text was read to its end
    module _ (a : AfterNext s t u v e1 e2 r1 r2 (Ok None)) where
      abbrev text_then : List ℕ
      text_then = text_given c.going.standing.given

      pub last-in : StandsIn asked text_then window
      last-in = stands-in asked l cell profile limit window s c.going.standing.given (c.going.out ++ lines) c.chunked

      whole-text : (ds : List Chunk) → SettleAll (limits_in window) true (here_in window) (cuts_in window) ds → e.Whole c.going.standing.given ((c.going.out ++ lines) ++ chunk_lines asked text_then ds)
      whole-text ds all = all-whole asked l cell profile limit window s c.going.standing.given (c.going.out ++ lines) c.chunked ds all

      pub last-rising : AreCutsPast (here_in window).start (cuts_in window)
      last-rising = window-rising window s false c.chunked.stands

      pub last-told : (here_in window).start ≤ (here_in window).told
      last-told = c.chunked.stands.told

      pub last-broken-off : (w' : Option (List ℕ)) → BreaksOff asked text_then true window w w' lines → Ran false u0 v w0 w' (IsRun {X = Unit {0}} e reads0 r2 e2 (Err cmd.Write))
      last-broken-off w' b =
          let line = chunk_lines asked text_then b.chunks in
          whole_run (ran_cut_off e u0 w0 reads0 s t u v w e1 e2 r1 r2 lines c.going wait (Unit {0}) ((c.going.out ++ lines) ++ line) (whole-text b.chunks b.all) a w' (take b.count (lines ++ line))
          (length c.going.out + b.count) b.wrote
          (sym (take-append-add c.going.out (lines ++ line) b.count) ∙ ap (take (length c.going.out + b.count)) (sym (append_assoc c.going.out lines line))))

      pub all-written : (w' : Option (List ℕ)) → WritesAll asked text_then window w w' lines → Ran false u0 v w0 w' (IsRun {X = Unit {0}} e reads0 r2 e2 (Ok (tt {0})))
      all-written w' b =
          let line = chunk_lines asked text_then b.chunks in
          whole_run (ran_whole e u0 w0 reads0 s t u v w e1 e2 r1 r2 lines c.going wait (λ from. Unit {0}) (tt {0}) w' (lines ++ line) b.wrote
          (subst (e.Whole c.going.standing.given) (append_assoc c.going.out lines line) (whole-text b.chunks b.all)) a)

      pub end-met : (e2 ≡ true) × IsAtEnd v
      end-met = at_the_end e u0 w0 reads0 s t u v w e1 e2 r1 r2 lines c.going wait a

    -- a call was refused, and the lines that waited were written
    abbrev pub Refused : Option (List ℕ) → PassageFault → Type 0
    Refused w' f = Ran (is_failed_read {X = Unit {0}} (Err (cmd.Passage f))) u0 v w0 w' (IsRun {X = Unit {0}} e reads0 r2 e2 (Err (cmd.Passage f)))

    pub refused : (why : PassageFault) → TakesNext s t u v e1 e2 r1 r2 f1 f2 window window' (Err why) → (w' : Option (List ℕ)) → Appends w w' lines → Refused w' why
    refused why n w' wrote = by n.lent n.after n.takes
      where
        by : (lent : Result (Option Passage) PassageFault) → AfterNext s t u v e1 e2 r1 r2 lent → Takes lent window window' (Err why) → Refused w' why
        by (Ok (Some p)) a takes =
            subst (Refused w') (sym takes) (memory_alike (whole_run (ran_memory e u0 w0 reads0 s t u v w e1 e2 r1 r2 lines c.going wait p a (Unit {0}) (λ from. from ≤ s.start) (λ from late. late) w' wrote)))
        by (Ok None) a takes = absurd (let no : ⊥ = cc in no)
        by (Err f) a takes =
            subst (Refused w') (let same : f ≡ why = cc in same)
            (whole_run (ran_fault e u0 w0 reads0 s t u v w e1 e2 r1 r2 lines c.going wait (Unit {0}) (λ from. from ≤ s.start) f (λ from late _. late) w' wrote a))

    pub refused-failures : (why : PassageFault) → TakesNext s t u v e1 e2 r1 r2 f1 f2 window window' (Err why) → f2 ≡ failed_reads_with {X = Unit {0}} f1 (Err (cmd.Passage why))
    refused-failures why n = by n.lent n.failed n.takes
      where
        by : (lent : Result (Option Passage) PassageFault) → f2 ≡ failures_with f1 (fault_in lent) → Takes lent window window' (Err why)
            → f2 ≡ failed_reads_with {X = Unit {0}} f1 (Err (cmd.Passage why))
        by (Ok (Some p)) failed takes = failed ∙ ap (λ f. failed_reads_with {X = Unit {0}} f1 (Err (cmd.Passage f))) (sym takes)
        by (Ok None) failed takes = absurd (let no : ⊥ = cc in no)
        by (Err f) failed takes =
            failed ∙ failed_alike f1 f ∙ ap (λ x. failed_reads_with {X = Unit {0}} f1 (Err (cmd.Passage x))) (let same : f ≡ why = cc in same)

    -- or they were not: then no read was made
    pub unwritten-lines : (why : PassageFault) (n : TakesNext s t u v e1 e2 r1 r2 f1 f2 window window' (Err why)) → s.is_settled ≡ true → (w' : Option (List ℕ)) (k : ℕ) → Appends w w' (take k lines)
        → Ran false u0 v w0 w' (IsRun {X = Unit {0}} e reads0 r2 e2 (Err cmd.Write))
    unwritten-lines why n settled w' k wrote =
        whole_run (ran_held_back e u0 w0 reads0 s t u v w e1 e2 r1 r2 lines c.going wait (chunks_finish asked l cell profile limit) (Unit {0}) n.lent n.after (n.after.still settled).1 w' k wrote)

    pub still-failures : (why : PassageFault) (n : TakesNext s t u v e1 e2 r1 r2 f1 f2 window window' (Err why)) → s.is_settled ≡ true → f2 ≡ f1
    still-failures why n settled = n.failed ∙ none-read (fault_in n.lent) (n.after.still settled).1
      where
        none-read : (f : Option PassageFault) → ¬ (f ≡ Some fault.Read) → failures_with f1 f ≡ f1
        none-read None calm = refl
        none-read (Some fault.Limit) calm = refl
        none-read (Some fault.Memory) calm = refl
        none-read (Some fault.Read) calm = absurd (calm refl)
        none-read (Some (fault.NotUtf8 at)) calm = refl
        none-read (Some fault.TextTooLong) calm = refl
        none-read (Some (fault.ParagraphTooLong start)) calm = refl
        none-read (Some fault.Spent) calm = refl

    -- a call is not refused for its limit
    pub no-limit : (answer : Result (Unit {0}) CmdFault) (why : PassageFault) → answer ≡ Err (cmd.Passage why) → TakesNext s t u v e1 e2 r1 r2 f1 f2 window window' (Err why)
        → ¬ (answer ≡ Err (cmd.Passage fault.Limit))
    no-limit answer why is n limit = by n.lent n.after n.takes
      where
        limit-lies : AfterNext s t u v e1 e2 r1 r2 (Err fault.Limit) → ⊥
        limit-lies a = a.answer.lies

        alike : why ≡ fault.Limit
        alike = let both : Err (cmd.Passage why) ≡ Err (cmd.Passage fault.Limit) = sym is ∙ limit in cc

        by : (lent : Result (Option Passage) PassageFault) → AfterNext s t u v e1 e2 r1 r2 lent → Takes lent window window' (Err why) → ⊥
        by (Ok (Some p)) a takes = (let both : fault.Limit ≡ fault.Memory = sym alike ∙ takes in cc)
        by (Ok None) a takes = (let both : Err why ≡ Ok false = takes.0 in cc)
        by (Err f) a takes = limit-lies (subst (λ x. AfterNext s t u v e1 e2 r1 r2 (Err x)) (let same : f ≡ why = cc in same ∙ alike) a)
