-- The passages that begin in a range: what ranges one after another write, and what a run that stops behind one wrote.
use Rattle.std.proofs.Common.{◌≡◌, ℕ, ◌+◌, ◌<◌, ◌≤◌, Bool, true, false, ◌&&◌, not, List, [], ◌∷◌, ◌++◌, length, Option, None, Some, Result, Ok, Err, OnOk, IfSome, IsTrue, IsUtf8, chars, encode_utf8_all, nat_lt, refl, sym, ap, ap₂, subst, ◌∙◌, arith, inl, inr, ⊎_elim, length-append, append_assoc, append-nil}
use Rattle.std.specs.Prelude.{if◌then◌else◌}
use Rattle.std.specs.List.{AllByRecursion, flat_map}
use Rattle.std.specs.Io.KnownBytes.{Appends, IsAtEnd}
use Rattle.std.proofs.lemmas.Bool.{le-ltb, lt-ltb, ltb-false, ltb-true}
use Rattle.std.proofs.lemmas.Str.{chars-append, chars_from_encodes, encodes-append}
use Rattle.lbk_feed.specs.Devices.{Reads}
use Rattle.lbk_feed.specs.Runs.{Ran}
use Rattle.lbk_rules.specs.declared.Cell.{Cell}
use Rattle.lbk_values.specs.declared.profile.Profile.{Profile}
use Rattle.lbk_passage.specs.Laws.{EndsOnce}
use Rattle.lbk_passage.specs.Marks.{Marked, scalars_of, text_of}
use Rattle.lbk_passage.specs.Passages.{passages}
use Rattle.lbk_passage.specs.State.{State}
use Rattle.lbk_passage.specs.Next.{AfterNext, IsPassage, fault_in}
use Rattle.lbk_passage.specs.Passing.{end_of}
use Rattle.lbk_passage.specs.declared.faults.PassageFault.{PassageFault}
use Rattle.lbk_passage.specs.declared.passage.Passage.{Passage}
use Rattle.lbk_passage.proofs.Together.{passages-end}
use Rattle.lbk_args.specs.declared.order.Part.{Part}
use Rattle.lbk_cmd.specs.Engines.{engine_of}
use Rattle.lbk_cmd.specs.declared.engine.Lines.{Lines}
use Rattle.lbk_cmd.specs.Ranges.{AreRanges, HasPassed, IsRangeRun, ReadsBefore, end_of_ranges, lines_within, text_by_ranges, text_within, within}
use Rattle.lbk_cmd.specs.Run.{Engine, IsWhole, by_passage, is_failed_read, passages_by}
use Rattle.lbk_cmd.specs.Texts.{lines_from}
use Rattle.lbk_cmd.specs.declared.faults.CmdFault.{CmdFault}
use Rattle.lbk_cmd.specs.Gathering.{Puts}
use Rattle.lbk_cmd.specs.declared.faults.CmdFault.TheVariants.{Memory, Passage as PassageRefused}
use Rattle.lbk_cmd.proofs.KeepingUp.{before_written, keeps_written}
use Rattle.lbk_cmd.proofs.Looping.{Appends-trans, Going}
use Rattle.lbk_cmd.proofs.Running.{some_bytes_of}
use Rattle.lbk_cmd.proofs.Stopping.{passed}

abbrev range : ℕ → ℕ → Part
range from to = record { from = from; to = to }

some_text : (ms : List Marked) → EndsOnce ms → 1 ≤ length (text_of ms)
some_text [] ends = absurd ends
some_text (m ∷ ms) ends = some_bytes_of (m ∷ ms) (omega arith)

module _ (lines : ℕ → List Marked → List ℕ) where
  abbrev put : ℕ → ℕ → ℕ → List (List Marked) → List ℕ
  put from to start given = lines_from (lines_within (range from to) lines) start given

  -- a passage at or behind the end of the range, and all behind it
  behind : (from to start : ℕ) (ms : List Marked) → to ≤ start → lines_within (range from to) lines start ms ≡ []
  behind from to start ms past = rw (le-ltb start to past) (by (nat_lt start from))
    where
      by : (b : Bool) → (if not b && false then lines start ms else []) ≡ []
      by true = refl
      by false = refl

  pub all-behind : (from to start : ℕ) (given : List (List Marked)) → to ≤ start → put from to start given ≡ []
  all-behind from to start [] past = refl
  all-behind from to start (ms ∷ given) past =
      ap₂ (λ l m. l ++ m) (behind from to start ms past) (all-behind from to (start + length (text_of ms)) given (omega (arith, past)))

  -- before the second range begins, both are as the first
  one-before : (from mid to start : ℕ) (ms : List Marked) → start < mid → mid ≤ to → lines_within (range from mid) lines start ms ≡ lines_within (range from to) lines start ms
  one-before from mid to start ms early near =
      rw (lt-ltb start mid early, lt-ltb start to (omega (arith, early, near))) refl

  none-before : (mid to start : ℕ) (ms : List Marked) → start < mid → lines_within (range mid to) lines start ms ≡ []
  none-before mid to start ms early = rw (lt-ltb start mid early) refl

  -- from there on, both are as the second
  one-from : (from mid to start : ℕ) (ms : List Marked) → from ≤ mid → mid ≤ start → lines_within (range mid to) lines start ms ≡ lines_within (range from to) lines start ms
  one-from from mid to start ms near late =
      rw (le-ltb start mid late, le-ltb start from (omega (arith, near, late))) refl

  all-from : (from mid to start : ℕ) (given : List (List Marked)) → from ≤ mid → mid ≤ start → put mid to start given ≡ put from to start given
  all-from from mid to start [] near late = refl
  all-from from mid to start (ms ∷ given) near late =
      ap₂ (λ l m. l ++ m) (one-from from mid to start ms near late) (all-from from mid to (start + length (text_of ms)) given near (omega (arith, late)))

  two-ranges : (from mid to start : ℕ) (given : List (List Marked)) → from ≤ mid → mid ≤ to → put from mid start given ++ put mid to start given ≡ put from to start given
  two-ranges from mid to start [] near far = refl
  two-ranges from mid to start (ms ∷ given) near far =
      by (nat_lt start mid) refl (two-ranges from mid to (start + length (text_of ms)) given near far)
    where
      by : (b : Bool) → nat_lt start mid ≡ b
          → put from mid (start + length (text_of ms)) given ++ put mid to (start + length (text_of ms)) given ≡ put from to (start + length (text_of ms)) given
          → put from mid start (ms ∷ given) ++ put mid to start (ms ∷ given) ≡ put from to start (ms ∷ given)
      by true is rest =
          let early = ltb-true start mid is in
          let further = start + length (text_of ms) in
          ap (λ l. put from mid start (ms ∷ given) ++ (l ++ put mid to further given)) (none-before mid to start ms early)
          ∙ append_assoc (lines_within (range from mid) lines start ms) (put from mid further given) (put mid to further given)
          ∙ ap₂ (λ l m. l ++ m) (one-before from mid to start ms early far) rest
      by false is rest =
          let late = ltb-false start mid is in
          ap (λ l. l ++ put mid to start (ms ∷ given)) (all-behind from mid start (ms ∷ given) late)
          ∙ all-from from mid to start (ms ∷ given) near late

  rises : (from : ℕ) (tos : List ℕ) → AreRanges from tos → from ≤ end_of_ranges from tos
  rises from [] are = omega arith
  rises from (to ∷ tos) are = omega (arith, are.0, rises to tos are.1)

  none-within : (from : ℕ) (start : ℕ) (given : List (List Marked)) → put from from start given ≡ []
  none-within from start [] = refl
  none-within from start (ms ∷ given) =
      ap₂ (λ l m. l ++ m) (by (nat_lt start from)) (none-within from (start + length (text_of ms)) given)
    where
      by : (b : Bool) → (if not b && b then lines start ms else []) ≡ []
      by true = refl
      by false = refl

  pub ranges-joined : (from : ℕ) (tos : List ℕ) (given : List (List Marked)) → AreRanges from tos
      → text_by_ranges lines from tos given ≡ text_within lines from (end_of_ranges from tos) given
  ranges-joined from [] given are = sym (none-within from 0 given)
  ranges-joined from (to ∷ tos) given are =
      ap (λ l. put from to 0 given ++ l) (ranges-joined to tos given are.1)
      ∙ two-ranges from to (end_of_ranges to tos) 0 given are.0 (rises to tos are.1)

  -- all passages begin before the end of the text
  all-within : (to start : ℕ) (given : List (List Marked)) → AllByRecursion EndsOnce given
      → start + length (encode_utf8_all (flat_map scalars_of given)) ≤ to → put 0 to start given ≡ lines_from lines start given
  all-within to start [] ends short = refl
  all-within to start (ms ∷ given) ends short =
      let long = ap length (encodes-append (scalars_of ms) (flat_map scalars_of given))
      ∙ length-append (text_of ms) (encode_utf8_all (flat_map scalars_of given)) in
      ap₂ (λ l m. l ++ m)
      (rw (le-ltb start 0 (omega arith), lt-ltb start to (omega (arith, long, short, some_text ms ends.0))) refl)
      (all-within to (start + length (text_of ms)) given ends.1 (omega (arith, long, short)))

  pub ranges-whole : (profile : Profile) (cell : ℕ → Cell) (text tos : List ℕ) → flat_map scalars_of (passages profile cell text) ≡ text
      → AreRanges 0 tos → length (encode_utf8_all text) ≤ end_of_ranges 0 tos
      → text_by_ranges lines 0 tos (passages profile cell text) ≡ lines_from lines 0 (passages profile cell text)
  ranges-whole profile cell text tos joined are short =
      ranges-joined 0 tos (passages profile cell text) are
      ∙ all-within (end_of_ranges 0 tos) 0 (passages profile cell text) (passages-end profile cell text)
      (omega (arith, short, ap (λ l. length (encode_utf8_all l)) joined))

  -- the lines of passages behind others
  lines-append : (start : ℕ) (given more : List (List Marked))
      → lines_from lines start (given ++ more) ≡ lines_from lines start given ++ lines_from lines (start + length (encode_utf8_all (flat_map scalars_of given))) more
  lines-append start [] more = ap (λ n. lines_from lines n more) (let e : start ≡ start + 0 = omega arith in e)
  lines-append start (ms ∷ given) more =
      let long = ap length (encodes-append (scalars_of ms) (flat_map scalars_of given))
      ∙ length-append (text_of ms) (encode_utf8_all (flat_map scalars_of given)) in
      let place : start + length (text_of ms) + length (encode_utf8_all (flat_map scalars_of given)) ≡ start + length (encode_utf8_all (flat_map scalars_of (ms ∷ given))) =
      omega (arith, long) in
      ap (λ l. lines start ms ++ l) (lines-append (start + length (text_of ms)) given more
      ∙ ap (λ n. lines_from lines (start + length (text_of ms)) given ++ lines_from lines n more) place)
      ∙ sym (append_assoc (lines start ms) (lines_from lines (start + length (text_of ms)) given) (lines_from lines (start + length (encode_utf8_all (flat_map scalars_of (ms ∷ given)))) more))

-- what a run that passed its range wrote is written of any text that goes on from the bytes read
module _ (part : Part) (e : Engine) (bytes out : List ℕ) (passed : HasPassed (by_passage (within part e)) part.to bytes out) where
  pub passed-all : (more : List ℕ) → out ≡ text_within e.lines part.from part.to (passages_by (by_passage e) (chars (bytes ++ more)))
  passed-all more =
      let settled = passed.settled in
      let given = settled.given in
      let later = passages_by (by_passage e) (settled.are.behind ++ chars (settled.rest ++ more)) in
      let all : chars (bytes ++ more) ≡ settled.scalars ++ chars (settled.rest ++ more) =
      ap (λ l. chars (l ++ more)) settled.begins
      ∙ ap chars (append_assoc (encode_utf8_all settled.scalars) settled.rest more)
      ∙ chars-append (encode_utf8_all settled.scalars) (settled.rest ++ more) settled.utf8
      ∙ ap (λ l. l ++ chars (settled.rest ++ more)) (sym (chars_from_encodes settled.scalars (encode_utf8_all settled.scalars) settled.utf8 refl)) in
      settled.is
      ∙ sym (append-nil (lines_from (lines_within part e.lines) 0 given))
      ∙ ap (λ l. lines_from (lines_within part e.lines) 0 given ++ l)
      (sym (all-behind e.lines part.from part.to (0 + length (encode_utf8_all (flat_map scalars_of given))) later (let far = passed.reaches in omega (arith, far))))
      ∙ sym (lines-append (lines_within part e.lines) 0 given later)
      ∙ ap (λ l. lines_from (lines_within part e.lines) 0 l) (sym (settled.are.first (chars (settled.rest ++ more))) ∙ ap (passages_by (by_passage e)) (sym all))

-- what is known of a run over a reader that tells its bytes
pub known_range : (part : Part) (e : Engine) (reads reads' : Reads) (has_ended : Bool) (answer : Result (Unit {0}) CmdFault) (u u' w w' : Option (List ℕ))
    → Ran (is_failed_read answer) u u' w w' (IsRangeRun (by_passage (within part e)) part.from part.to reads reads' has_ended (IsTrue has_ended × IsAtEnd u') answer)
    → OnOk answer (IfSome u (λ input. IsUtf8 input → Appends w w' (text_within e.lines part.from part.to (passages_by (by_passage e) (chars input)))))
known_range part e reads reads' has_ended (Err why) u u' w w' ran = tt
known_range part e reads reads' has_ended (Ok x) None u' w w' ran = tt
known_range part e reads reads' has_ended (Ok x) (Some input) None w w' ran = absurd ran.took
known_range part e reads reads' has_ended (Ok x) (Some input) (Some left) w w' ran = λ utf8. subst (Appends w w') is ran.put
  where
    is : ran.out ≡ text_within e.lines part.from part.to (passages_by (by_passage e) (chars input))
    is = ⊎_elim
        (λ (whole : (IsTrue has_ended × IsAtEnd (Some left)) × IsWhole (by_passage (within part e)) ran.read ran.out).
        whole.1.is ∙ ap (λ l. text_within e.lines part.from part.to (passages_by (by_passage e) (chars l)))
        (sym (append-nil ran.read) ∙ ap (λ l. ran.read ++ l) (sym whole.0.1) ∙ sym ran.took))
        (λ (passed : HasPassed (by_passage (within part e)) part.to ran.read ran.out).
        passed-all part e ran.read ran.out passed left ∙ ap (λ l. text_within e.lines part.from part.to (passages_by (by_passage e) (chars l))) (sym ran.took))
        ran.so.comes

-- the engine of these lines, for a range
abbrev pub engine_in : Part → Lines → (ℕ → Cell) → Profile → ℕ → Engine
engine_in part lines cell profile limit = within part (engine_of lines cell profile limit)

-- a run that stops where the passages given reach the end of its range, once the lines that waited were written
pub range_passed : (e : Engine) (u0 w0 : Option (List ℕ)) (reads0 : Reads) (s : State) (u w : Option (List ℕ)) (has_ended : Bool) (reads : Reads)
    (lines : List ℕ) (from to : ℕ) → (g : Going (by_passage e) u0 w0 reads0 s u w has_ended reads lines) → ReadsBefore to g.keeps_up → to ≤ s.start
    → (w' : Option (List ℕ)) → Appends w w' lines
    → Ran false u0 u w0 w' (IsRangeRun {X = Unit {0}} (by_passage e) from to reads0 reads has_ended (IsTrue has_ended × IsAtEnd u) (Ok (tt {0})))
range_passed e u0 w0 reads0 s u w has_ended reads lines from to g before past w' wrote = record {
  read = g.bytes;
  out = g.out ++ lines;
  took = g.took;
  put = Appends-trans w0 w w' g.out lines g.put wrote;
  so = record {
    comes = ⊎_elim
        (λ (ended : (s.is_ended ≡ true) × IsWhole (by_passage e) g.bytes (g.out ++ lines)). inl (g.agrees ended.0, ended.1))
        (λ (settled : HasPassed (by_passage e) to g.bytes (g.out ++ lines)). inr settled)
        (passed (by_passage e) s g.bytes (g.out ++ lines) g.standing to g.standing.is past);
    keeps_up = keeps_written (by_passage e) reads0 reads g.bytes g.out lines g.keeps_up;
    no_further = before_written (by_passage e) reads0 reads g.bytes g.out lines g.keeps_up to before;
  };
}

-- a passage that begins in the range has its lines, and one before it none
pub lines-here : (part : Part) (lines : ℕ → List Marked → List ℕ) (start : ℕ) (ms : List Marked) → part.from ≤ start → start < part.to
    → lines start ms ≡ lines_within part lines start ms
lines-here part lines start ms late early = rw (le-ltb start part.from late, lt-ltb start part.to early) refl

lines-before : (part : Part) (lines : ℕ → List Marked → List ℕ) (start : ℕ) (ms : List Marked) → start < part.from
    → [] ≡ lines_within part lines start ms
lines-before part lines start ms early = rw (lt-ltb start part.from early) refl

-- what a call that passes over a passage would have lent
pub lent_fault : (lent : Result (Option Passage) PassageFault) (why : PassageFault) → Err why ≡ end_of lent → lent ≡ Err why
lent_fault (Ok None) why is = absurd (cc is)
lent_fault (Ok (Some p)) why is = absurd (cc is)
lent_fault (Err other) why is = cc

pub lent_none : (lent : Result (Option Passage) PassageFault) → Ok None ≡ end_of lent → lent ≡ Ok None
lent_none (Ok None) is = refl
lent_none (Ok (Some p)) is = absurd (cc is)
lent_none (Err why) is = absurd (cc is)

pub lent_some : (lent : Result (Option Passage) PassageFault) (end : ℕ) → Ok (Some end) ≡ end_of lent → fault_in lent ≡ None
lent_some (Ok None) end is = absurd (cc is)
lent_some (Ok (Some p)) end is = refl
lent_some (Err why) end is = absurd (cc is)

-- a passage before the range that was passed over has no lines
pub puts_none : (part : Part) (lines : ℕ → List Marked → List ℕ) (cell : ℕ → Cell) (profile : Profile) (limit : ℕ) (s t : State) (u v : Option (List ℕ))
    (e1 e2 : Bool) (r1 r2 : Reads) (lent : Result (Option Passage) PassageFault) (end : ℕ) (before : List ℕ) → AfterNext s t u v e1 e2 r1 r2 lent
    → Ok (Some end) ≡ end_of lent → s.start < part.from
    → Puts (within part (record { lines = lines; cell = cell; profile = profile; limit = limit })) s lent before before end (Ok true)
puts_none part lines cell profile limit s t u v e1 e2 r1 r2 (Ok None) end before a is early = absurd (cc is)
puts_none part lines cell profile limit s t u v e1 e2 r1 r2 (Err why) end before a is early = absurd (cc is)
puts_none part lines cell profile limit s t u v e1 e2 r1 r2 (Ok (Some p)) end before a is early =
    let begins : p.start ≡ s.start = a.answer.start in
    let ends : end ≡ p.start + length p.text.now = cc in
    inl (
      refl,
      ends,
      λ ms cell_is profile_is of.
          sym (append-nil before) ∙ ap (λ l. before ++ l) (lines-before part lines p.start ms (omega (arith, begins, early))),
    )

-- a passage in the range has its lines
pub puts_here : (part : Part) (lines : ℕ → List Marked → List ℕ) (cell : ℕ → Cell) (profile : Profile) (limit : ℕ) (s t : State) (u v : Option (List ℕ))
    (e1 e2 : Bool) (r1 r2 : Reads) (lent : Result (Option Passage) PassageFault) (before after : List ℕ) (at : ℕ) (answer : Result Bool CmdFault)
    → AfterNext s t u v e1 e2 r1 r2 lent → part.from ≤ s.start → s.start < part.to
    → Puts (record { lines = lines; cell = cell; profile = profile; limit = limit }) s lent before after at answer
    → Puts (within part (record { lines = lines; cell = cell; profile = profile; limit = limit })) s lent before after at answer
puts_here part lines cell profile limit s t u v e1 e2 r1 r2 (Ok None) before after at answer a late early puts = puts
puts_here part lines cell profile limit s t u v e1 e2 r1 r2 (Err why) before after at answer a late early puts = puts
puts_here part lines cell profile limit s t u v e1 e2 r1 r2 (Ok (Some p)) before after at answer a late early puts =
    let begins : p.start ≡ s.start = a.answer.start in
    ⊎_elim
    (λ (put : (answer ≡ Ok true) × (at ≡ p.start + length p.text.now)
    × ((ms : List Marked) → s.cell ≡ cell → s.profile ≡ profile → IsPassage s ms p → after ≡ before ++ lines p.start ms)).
    inl (
      put.0,
      put.1,
      λ ms cell_is profile_is of.
          put.2 ms cell_is profile_is of ∙ ap (λ l. before ++ l) (lines-here part lines p.start ms (omega (arith, begins, late)) (omega (arith, begins, early))),
    ))
    (λ (refused : (answer ≡ Err Memory) × (after ≡ before)). inr refused)
    puts

-- after a fault no line more stands there
pub puts_fault : (e : Engine) (s : State) (lent : Result (Option Passage) PassageFault) (before : List ℕ) (at : ℕ) (why : PassageFault) → lent ≡ Err why
    → (answer : Result Bool CmdFault) → answer ≡ Err (PassageRefused why) → Puts e s lent before before at answer
puts_fault e s lent before at why same answer is = rw same (is, refl)
