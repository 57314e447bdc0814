-- How the steps of a replay make up a run.
use Rattle.std.proofs.Common.{◌≡◌, ℕ, ◌+◌, ◌-◌, ◌<◌, ◌≤◌, ◌⊎◌, inl, inr, Bool, true, false, List, [], ◌∷◌, ◌++◌, length, take, drop, Option, Some, None, IfSome, Result, Ok, Err, IfOk, IfErr, OnOk, MatchResult, refl, sym, ap, subst, ◌∙◌, arith, append_assoc, append-nil, length-append, take-append-drop}
use Rattle.std.specs.Io.KnownBytes.{Appends, Consumes, IsAtEnd}
use Rattle.std.proofs.KnownBytes.{Appends-nil, Appends-trans, Consumes-nil, Consumes-trans, Consumes-whole}
use Rattle.std.proofs.lemmas.List.{length-drop, length-take-le, take-take, take_all}
use Rattle.std.proofs.Math.Seq.{take-append-add, take-append_seam}
use Rattle.lbk_feed.specs.Devices.{KeepsIfTold, Reads}
use Rattle.lbk_feed.specs.Runs.{Ran, Took}
use Rattle.lbk_feed.specs.Runs.IsStopped.{midway, at_end}
use Rattle.lbk_rules.specs.declared.Cell.{Cell}
use Rattle.lbk_values.specs.declared.profile.Profile.{Profile}
use Rattle.lbk_notation.specs.declared.findings.Report.{Report}
use Rattle.lbk_notation.specs.declared.findings.ReplayFault.{ReplayFault}
use Rattle.lbk_notation.specs.declared.findings.ReplayFault.TheVariants.{Read, Write, Memory, StreamTooLong}
use Rattle.lbk_notation.specs.declared.marks.Form.{Form}
use Rattle.lbk_notation.specs.declared.replay_state.ReplayState.{ReplayState}
use Rattle.lbk_notation.specs.ReplayState.{Ends, HasRead, IsStoppedBy, Stands, StandsAtEnd, Uses, is_read_fault_of}
use Rattle.lbk_notation.specs.Replay.{IsEndedText, IsOutOfMemory, IsReplay, IsReplayRun, IsReplayText, IsReplayed, IsStoppedReplay, KeepsUp, is_read_fault}
use Rattle.lbk_notation.specs.Replay.IsOutOfMemory.{between_lines, uncounted}
use Rattle.lbk_notation.specs.ReplayText.{total_text}
use Rattle.lbk_notation.specs.Stream.{longest_stream}

-- what was written of the lines ended
pub Stands-text : (cell : ℕ → Cell) (form : Form) (profile : Profile) (progress : ReplayState) (used out : List ℕ)
    → Stands cell form profile progress used out → IsEndedText cell form profile used out
Stands-text cell form profile progress used out stands = record { findings = stands.findings; are = stands.are; text = stands.text }

-- stopped within a line that is written
pub stopped-writing : (cell : ℕ → Cell) (form : Form) (profile : Profile) (ended : Type 0) (first later read out line : List ℕ) (n : ℕ)
    → read ≡ first ++ later → IsEndedText cell form profile first (out ++ line) → IsStoppedReplay cell form profile ended read (out ++ take n line)
stopped-writing cell form profile ended first later read out line n split text =
    midway first later (out ++ line) (length out + n) split text (sym (take-append-add out line n))

-- stopped at the same place of a longer list
stopped-longer : (cell : ℕ → Cell) (form : Form) (profile : Profile) (ended : Type 0) (read more out : List ℕ)
    → IsStoppedReplay cell form profile ⊥ read out → IsStoppedReplay cell form profile ended (read ++ more) out
stopped-longer cell form profile ended read more out (midway first later all n split text put) =
    midway first (later ++ more) all n (ap (λ r. r ++ more) split ∙ append_assoc first later more) text put
stopped-longer cell form profile ended read more out (at_end all n never text put) = absurd never

unwritten-longer : (cell : ℕ → Cell) (form : Form) (profile : Profile) (ended : Type 0) (read more out : List ℕ)
    → IsOutOfMemory cell form profile ⊥ read out → IsOutOfMemory cell form profile ended (read ++ more) out
unwritten-longer cell form profile ended read more out (between_lines first later split text) =
    between_lines first (later ++ more) (ap (λ r. r ++ more) split ∙ append_assoc first later more) text
unwritten-longer cell form profile ended read more out (uncounted report never text) = absurd never

stopped_by-longer : (cell : ℕ → Cell) (form : Form) (profile : Profile) (ended : Type 0) (fault : ReplayFault) (read more out : List ℕ)
    → IsStoppedBy cell form profile ⊥ fault read out → IsStoppedBy cell form profile ended fault (read ++ more) out
stopped_by-longer cell form profile ended Memory read more out is = unwritten-longer cell form profile ended read more out is
stopped_by-longer cell form profile ended Write read more out is = stopped-longer cell form profile ended read more out is
stopped_by-longer cell form profile ended Read read more out is = stopped-longer cell form profile ended read more out is
stopped_by-longer cell form profile ended StreamTooLong read more out is = stopped-longer cell form profile ended read more out is

-- Bytes used one after another

pub record UsesSoFar (cell : ℕ → Cell) (form : Form) (profile : Profile) (old new : ReplayState) (bytes : List ℕ) (written written' : Option (List ℕ)) : Type 0 where
  pub text : List ℕ
  pub put : Appends written written' text
  pub so : (used out : List ℕ) → Stands cell form profile old used out → Stands cell form profile new (used ++ bytes) (out ++ text)

pub Uses-start : (cell : ℕ → Cell) (form : Form) (profile : Profile) (old : ReplayState) (written : Option (List ℕ))
    → UsesSoFar cell form profile old old [] written written
Uses-start cell form profile old written = record {
  text = [];
  put = Appends-nil written;
  so = λ used out stands.
      subst (λ (o : List ℕ). Stands cell form profile old (used ++ []) o) (sym (append-nil out))
      (subst (λ (u : List ℕ). Stands cell form profile old u out) (sym (append-nil used)) stands);
}

-- one more byte
pub Uses-more : (cell : ℕ → Cell) (form : Form) (profile : Profile) (old middle new : ReplayState) (bytes next : List ℕ) (byte : ℕ)
    (written between written' : Option (List ℕ)) (done : Unit {0}) → bytes ++ byte ∷ [] ≡ next
    → UsesSoFar cell form profile old middle bytes written between → Uses cell form profile middle new (byte ∷ []) between written' (Ok done)
    → UsesSoFar cell form profile old new next written written'
Uses-more cell form profile old middle new bytes next byte written between written' done one_more uses last = record {
  text = uses.text ++ last.text;
  put = Appends-trans written between written' uses.text last.text uses.put last.put;
  so = λ used out stands.
      subst (λ (u : List ℕ). Stands cell form profile new u (out ++ (uses.text ++ last.text))) (append_assoc used bytes (byte ∷ []) ∙ ap (λ b. used ++ b) one_more)
      (subst (λ (o : List ℕ). Stands cell form profile new ((used ++ bytes) ++ byte ∷ []) o) (append_assoc out uses.text last.text)
      (last.so (used ++ bytes) (out ++ uses.text) (uses.so used out stands)));
}

pub Uses-all : (cell : ℕ → Cell) (form : Form) (profile : Profile) (old new : ReplayState) (bytes all : List ℕ) (written written' : Option (List ℕ))
    (done : Unit {0}) → bytes ≡ all → UsesSoFar cell form profile old new bytes written written' → Uses cell form profile old new all written written' (Ok done)
Uses-all cell form profile old new bytes all written written' done whole uses = record {
  text = uses.text;
  put = uses.put;
  so = λ used out stands. subst (λ (b : List ℕ). Stands cell form profile new (used ++ b) (out ++ uses.text)) whole (uses.so used out stands);
}

-- a byte at which it stopped
pub Uses-stopped : (cell : ℕ → Cell) (form : Form) (profile : Profile) (old middle new : ReplayState) (bytes later all : List ℕ) (byte : ℕ)
    (written between written' : Option (List ℕ)) (fault : ReplayFault) → all ≡ (bytes ++ byte ∷ []) ++ later
    → UsesSoFar cell form profile old middle bytes written between → Uses cell form profile middle new (byte ∷ []) between written' (Err fault)
    → Uses cell form profile old new all written written' (Err fault)
Uses-stopped cell form profile old middle new bytes later all byte written between written' fault split uses last = record {
  text = uses.text ++ last.text;
  put = Appends-trans written between written' uses.text last.text uses.put last.put;
  so = λ used out stands.
      (let there = stopped_by-longer cell form profile ⊥ fault ((used ++ bytes) ++ byte ∷ []) later ((out ++ uses.text) ++ last.text)
      (last.so (used ++ bytes) (out ++ uses.text) (uses.so used out stands)) in
      let joined : ((used ++ bytes) ++ byte ∷ []) ++ later ≡ used ++ all =
      ap (λ u. u ++ later) (append_assoc used bytes (byte ∷ [])) ∙ append_assoc used (bytes ++ byte ∷ []) later ∙ ap (λ b. used ++ b) (sym split) in
      subst (λ (u : List ℕ). IsStoppedBy cell form profile ⊥ fault u (out ++ (uses.text ++ last.text))) joined
      (subst (λ (o : List ℕ). IsStoppedBy cell form profile ⊥ fault (((used ++ bytes) ++ byte ∷ []) ++ later) o) (append_assoc out uses.text last.text) there));
}

-- One byte

-- a refused growth: nothing was written
pub Uses-refused : (cell : ℕ → Cell) (form : Form) (profile : Profile) (old new : ReplayState) (bytes : List ℕ) (written : Option (List ℕ)) (fault : ReplayFault)
    → fault ≡ Memory → Uses cell form profile old new bytes written written (Err fault)
Uses-refused cell form profile old new bytes written fault memory = record {
  text = [];
  put = Appends-nil written;
  so = λ used out stands.
      subst (λ (f : ReplayFault). IsStoppedBy cell form profile ⊥ f (used ++ bytes) (out ++ [])) (sym memory)
      (between_lines used bytes refl
      (subst (λ (o : List ℕ). IsEndedText cell form profile used o) (sym (append-nil out)) (Stands-text cell form profile old used out stands)));
}

-- a byte that ends no line
pub Uses-silent : (cell : ℕ → Cell) (form : Form) (profile : Profile) (old new : ReplayState) (byte : ℕ) (written : Option (List ℕ)) (done : Unit {0})
    → ((used out : List ℕ) → Stands cell form profile old used out → Stands cell form profile new (used ++ byte ∷ []) out)
    → Uses cell form profile old new (byte ∷ []) written written (Ok done)
Uses-silent cell form profile old new byte written done step = record {
  text = [];
  put = Appends-nil written;
  so = λ used out stands. subst (λ (o : List ℕ). Stands cell form profile new (used ++ byte ∷ []) o) (sym (append-nil out)) (step used out stands);
}

-- a byte that ended a line, which was written, or the front of which was
pub Uses-put : (cell : ℕ → Cell) (form : Form) (profile : Profile) (old new : ReplayState) (byte : ℕ) (line : List ℕ) (written written' : Option (List ℕ))
    (result : Result (Unit {0}) ReplayFault)
    → ((used out : List ℕ) → Stands cell form profile old used out → Stands cell form profile new (used ++ byte ∷ []) (out ++ line))
    → OnOk result (Appends written written' line) → (n : ℕ) × Appends written written' (take n line) → IfErr result (λ fault. fault ≡ Write)
    → Uses cell form profile old new (byte ∷ []) written written' result
Uses-put cell form profile old new byte line written written' (Ok done) step put front only = record { text = line; put = put; so = step }
Uses-put cell form profile old new byte line written written' (Err fault) step put front only = record {
  text = take front.0 line;
  put = front.1;
  so = λ used out stands.
      subst (λ (f : ReplayFault). IsStoppedBy cell form profile ⊥ f (used ++ byte ∷ []) (out ++ take front.0 line)) (sym only)
      (stopped-writing cell form profile ⊥ (used ++ byte ∷ []) [] (used ++ byte ∷ []) out line front.0 (sym (append-nil (used ++ byte ∷ [])))
      (Stands-text cell form profile new (used ++ byte ∷ []) (out ++ line) (step used out stands)));
}

-- The end of the file

-- nothing was written of the last line
pub Ends-refused : (cell : ℕ → Cell) (form : Form) (profile : Profile) (old : ReplayState) (written : Option (List ℕ)) (fault : ReplayFault)
    → fault ≡ Memory → Ends cell form profile old written written (Err fault)
Ends-refused cell form profile old written fault memory = record {
  text = [];
  put = Appends-nil written;
  so = λ used out stands.
      subst (λ (f : ReplayFault). IsStoppedBy cell form profile (Unit {0}) f used (out ++ [])) (sym memory)
      (between_lines used [] (sym (append-nil used))
      (subst (λ (o : List ℕ). IsEndedText cell form profile used o) (sym (append-nil out)) (Stands-text cell form profile old used out stands)));
}

-- what is told at the end, with the line of the counts
told : (cell : ℕ → Cell) (form : Form) (profile : Profile) (progress : ReplayState) (used out : List ℕ)
    → StandsAtEnd cell form profile progress used out → IsReplayText cell form profile used progress.report (out ++ total_text progress.report)
told cell form profile progress used out stands = record {
  findings = stands.findings;
  are = stands.are;
  counts = stands.counts;
  text = ap (λ o. o ++ total_text progress.report) stands.text;
}

-- `n` bytes of what the last line and the counts write
stopped-at_end : (cell : ℕ → Cell) (form : Form) (profile : Profile) (progress : ReplayState) (used out text : List ℕ) (n : ℕ)
    → StandsAtEnd cell form profile progress used (out ++ text)
    → IsStoppedReplay cell form profile (Unit {0}) used (out ++ take n (text ++ total_text progress.report))
stopped-at_end cell form profile progress used out text n stands =
    at_end ((out ++ text) ++ total_text progress.report) (length out + n) tt
    (progress.report, told cell form profile progress used (out ++ text) stands)
    (sym (ap (take (length out + n)) (append_assoc out text (total_text progress.report)) ∙ take-append-add out (text ++ total_text progress.report) n))

-- a front of a list, as a front of a longer one
take-front : (n : ℕ) (xs ys : List ℕ) → take (length (take n xs)) (xs ++ ys) ≡ take n xs
take-front n xs ys =
    ap (λ l. take (length (take n xs)) (l ++ ys)) (sym (take-append-drop n xs))
    ∙ ap (take (length (take n xs))) (append_assoc (take n xs) (drop n xs) ys) ∙ take-append_seam (take n xs) (drop n xs ++ ys)

-- a write of the last line failed: n bytes of it went out
pub Ends-at_line : (cell : ℕ → Cell) (form : Form) (profile : Profile) (old new : ReplayState) (text : List ℕ) (n : ℕ) (written written' : Option (List ℕ))
    (fault : ReplayFault) → fault ≡ Write → Appends written written' (take n text)
    → ((used out : List ℕ) → Stands cell form profile old used out → StandsAtEnd cell form profile new used (out ++ text))
    → Ends cell form profile old written written' (Err fault)
Ends-at_line cell form profile old new text n written written' fault write put step = record {
  text = take n text;
  put = put;
  so = λ used out stands.
      subst (λ (f : ReplayFault). IsStoppedBy cell form profile (Unit {0}) f used (out ++ take n text)) (sym write)
      (subst (λ (t : List ℕ). IsStoppedReplay cell form profile (Unit {0}) used (out ++ t)) (take-front n text (total_text new.report))
      (stopped-at_end cell form profile new used out text (length (take n text)) (step used out stands)));
}

-- the last line was written, and the growth for the counts was refused
pub Ends-uncounted : (cell : ℕ → Cell) (form : Form) (profile : Profile) (old new : ReplayState) (text : List ℕ) (written written' : Option (List ℕ))
    (fault : ReplayFault) → fault ≡ Memory → Appends written written' text
    → ((used out : List ℕ) → Stands cell form profile old used out → StandsAtEnd cell form profile new used (out ++ text))
    → Ends cell form profile old written written' (Err fault)
Ends-uncounted cell form profile old new text written written' fault memory put step = record {
  text = text;
  put = put;
  so = λ used out stands.
      subst (λ (f : ReplayFault). IsStoppedBy cell form profile (Unit {0}) f used (out ++ text)) (sym memory)
      (uncounted new.report tt (told cell form profile new used (out ++ text) (step used out stands)));
}

-- a write of the counts failed: n bytes of it went out
pub Ends-at_counts : (cell : ℕ → Cell) (form : Form) (profile : Profile) (old new : ReplayState) (text : List ℕ) (n : ℕ) (written between written' : Option (List ℕ))
    (fault : ReplayFault) → fault ≡ Write → Appends written between text → Appends between written' (take n (total_text new.report))
    → ((used out : List ℕ) → Stands cell form profile old used out → StandsAtEnd cell form profile new used (out ++ text))
    → Ends cell form profile old written written' (Err fault)
Ends-at_counts cell form profile old new text n written between written' fault write first put step = record {
  text = text ++ take n (total_text new.report);
  put = Appends-trans written between written' text (take n (total_text new.report)) first put;
  so = λ used out stands.
      subst (λ (f : ReplayFault). IsStoppedBy cell form profile (Unit {0}) f used (out ++ (text ++ take n (total_text new.report)))) (sym write)
      (subst (λ (t : List ℕ). IsStoppedReplay cell form profile (Unit {0}) used (out ++ t)) (take-append-add text (total_text new.report) n)
      (stopped-at_end cell form profile new used out text (length text + n) (step used out stands)));
}

-- all went out
pub Ends-all : (cell : ℕ → Cell) (form : Form) (profile : Profile) (old new : ReplayState) (text : List ℕ) (report : Report) (written between written' : Option (List ℕ))
    → report ≡ new.report → Appends written between text → Appends between written' (total_text new.report)
    → ((used out : List ℕ) → Stands cell form profile old used out → StandsAtEnd cell form profile new used (out ++ text))
    → Ends cell form profile old written written' (Ok report)
Ends-all cell form profile old new text report written between written' same first put step = record {
  text = text ++ total_text new.report;
  put = Appends-trans written between written' text (total_text new.report) first put;
  so = λ used out stands.
      subst (λ (r : Report). IsReplayText cell form profile used r (out ++ (text ++ total_text new.report))) (sym same)
      (subst (λ (o : List ℕ). IsReplayText cell form profile used new.report o) (append_assoc out text (total_text new.report))
      (told cell form profile new used (out ++ text) (step used out stands)));
}

-- What is read

stopped-ended : (cell : ℕ → Cell) (form : Form) (profile : Profile) (before after : Type 0) (read out : List ℕ) → (before → after)
    → IsStoppedReplay cell form profile before read out → IsStoppedReplay cell form profile after read out
stopped-ended cell form profile before after read out then (midway first later all n split text put) = midway first later all n split text put
stopped-ended cell form profile before after read out then (at_end all n ended text put) = at_end all n (then ended) text put

unwritten-ended : (cell : ℕ → Cell) (form : Form) (profile : Profile) (before after : Type 0) (read out : List ℕ) → (before → after)
    → IsOutOfMemory cell form profile before read out → IsOutOfMemory cell form profile after read out
unwritten-ended cell form profile before after read out then (between_lines first later split text) = between_lines first later split text
unwritten-ended cell form profile before after read out then (uncounted report ended text) = uncounted report (then ended) text

stopped_by-ended : (cell : ℕ → Cell) (form : Form) (profile : Profile) (before after : Type 0) (fault : ReplayFault) (read out : List ℕ) → (before → after)
    → IsStoppedBy cell form profile before fault read out → IsStoppedBy cell form profile after fault read out
stopped_by-ended cell form profile before after Memory read out then is = unwritten-ended cell form profile before after read out then is
stopped_by-ended cell form profile before after Write read out then is = stopped-ended cell form profile before after read out then is
stopped_by-ended cell form profile before after Read read out then is = stopped-ended cell form profile before after read out then is
stopped_by-ended cell form profile before after StreamTooLong read out then is = stopped-ended cell form profile before after read out then is

pub IsReplay-ended : (cell : ℕ → Cell) (form : Form) (profile : Profile) (ended : Type 0) (fault : ReplayFault) (read out : List ℕ)
    → IsReplay cell form profile ⊥ (Err fault) read out → IsReplay cell form profile ended (Err fault) read out
IsReplay-ended cell form profile ended Read read out is = is
IsReplay-ended cell form profile ended StreamTooLong read out is = is
IsReplay-ended cell form profile ended Write read out is = stopped-ended cell form profile ⊥ ended _ out (λ never. absurd never) is
IsReplay-ended cell form profile ended Memory read out is = unwritten-ended cell form profile ⊥ ended _ out (λ never. absurd never) is

-- before a read, all was written of the lines ended
keeps_up : (cell : ℕ → Cell) (form : Form) (profile : Profile) (progress : ReplayState) (from to : Reads) (before last read out later all : List ℕ)
    → Stands cell form profile progress before out → read ≡ before ++ last → all ≡ out ++ later → length last ≡ to.gave
    → to.count ≤ from.count + (length before + 1) → KeepsUp cell form profile from to read all
keeps_up cell form profile progress from to before last read out later all stands split is gave each =
    let settled = Stands-text cell form profile progress before out stands in
    record { before = before; last = last; split = split; is_last = gave; each_gave = each; written = out; later = later; is = is; settled = settled }

pub record ReadsSoFar (cell : ℕ → Cell) (form : Form) (profile : Profile) (progress : ReplayState) (unread unread' written written' : Option (List ℕ)) : Type 0 where
  pub read : List ℕ
  pub out : List ℕ
  pub took : Consumes unread unread' read
  pub put : Appends written written' out
  pub stands : Stands cell form profile progress read out

pub Reads-start : (cell : ℕ → Cell) (form : Form) (profile : Profile) (progress : ReplayState) (unread written : Option (List ℕ))
    → Stands cell form profile progress [] [] → ReadsSoFar cell form profile progress unread unread written written
Reads-start cell form profile progress unread written stands =
    record { read = []; out = []; took = Consumes-nil unread; put = Appends-nil written; stands = stands }

pub Reads-more : (cell : ℕ → Cell) (form : Form) (profile : Profile) (middle new : ReplayState) (bytes : List ℕ)
    (unread between unread' written between' written' : Option (List ℕ)) (done : Unit {0})
    → ReadsSoFar cell form profile middle unread between written between' → Consumes between unread' bytes
    → Uses cell form profile middle new bytes between' written' (Ok done) → ReadsSoFar cell form profile new unread unread' written written'
Reads-more cell form profile middle new bytes unread between unread' written between' written' done reads consumed uses = record {
  read = reads.read ++ bytes;
  out = reads.out ++ uses.text;
  took = Consumes-trans unread between unread' reads.read bytes reads.took consumed;
  put = Appends-trans written between' written' reads.out uses.text reads.put uses.put;
  stands = uses.so reads.read reads.out reads.stands;
}

Took-failed : (before between after : Option (List ℕ)) (read : List ℕ) → Consumes before between read → KeepsIfTold between after → Took true before after read
Took-failed None between after read consumed kept = (tt, tt)
Took-failed (Some all) None after read consumed kept = absurd consumed
Took-failed (Some all) (Some rest) None read consumed kept = ((rest, consumed), tt)
Took-failed (Some all) (Some rest) (Some left) read consumed kept = ((rest, consumed), ap (λ l. read ++ l) kept ∙ sym consumed)

-- a read failed
pub Ran-failed : (cell : ℕ → Cell) (form : Form) (profile : Profile) (progress : ReplayState) (unread between unread' written written' : Option (List ℕ))
    (from to : Reads) → ReadsSoFar cell form profile progress unread between written written' → KeepsIfTold between unread' → progress.taken ≤ longest_stream
    → to.gave ≡ 0 → to.count ≤ from.count + (progress.taken + 1) → Ran true unread unread' written written' (HasRead cell form profile from to (Err Read))
Ran-failed cell form profile progress unread between unread' written written' from to reads kept few gave each = record {
  read = reads.read;
  out = reads.out;
  took = Took-failed unread between unread' reads.read reads.took kept;
  put = reads.put;
  so = record {
    comes = (omega (arith, reads.stands.taken), Stands-text cell form profile progress reads.read reads.out reads.stands);
    keeps_up = keeps_up cell form profile progress from to reads.read [] reads.read reads.out [] reads.out reads.stands
        (sym (append-nil reads.read)) (sym (append-nil reads.out)) (sym gave) (omega (arith, reads.stands.taken));
  };
}

-- a read gave no byte
pub Ran-ended : (cell : ℕ → Cell) (form : Form) (profile : Profile) (progress : ReplayState) (none : List ℕ) (unread between unread' written written' : Option (List ℕ))
    (from to : Reads) → ReadsSoFar cell form profile progress unread between written written' → Consumes between unread' none → none ≡ [] → to.gave ≡ 0
    → to.count ≤ from.count + (progress.taken + 1) → Ran false unread unread' written written' (HasRead cell form profile from to (Ok progress))
Ran-ended cell form profile progress none unread between unread' written written' from to reads consumed empty gave each = record {
  read = reads.read;
  out = reads.out;
  took =
      subst (λ (r : List ℕ). Consumes unread unread' r) (ap (λ l. reads.read ++ l) empty ∙ append-nil reads.read)
      (Consumes-trans unread between unread' reads.read none reads.took consumed);
  put = reads.put;
  so = (gave, omega (arith, reads.stands.taken), reads.stands);
}

-- the front of what was read that counts
take-past : (n : ℕ) (xs ys : List ℕ) → length xs ≤ n → take n (xs ++ ys) ≡ xs ++ take (n - length xs) ys
take-past n xs ys within =
    ap (λ m. take m (xs ++ ys)) (let e : n ≡ length xs + (n - length xs) = omega arith in e) ∙ take-append-add xs ys (n - length xs)

-- more bytes were read than a file may have
pub Ran-long : (cell : ℕ → Cell) (form : Form) (profile : Profile) (middle new : ReplayState) (bytes counted rest : List ℕ)
    (unread between unread' written between' written' : Option (List ℕ)) (done : Unit {0}) (from to : Reads)
    → ReadsSoFar cell form profile middle unread between written between' → Consumes between unread' bytes
    → Uses cell form profile middle new counted between' written' (Ok done) → bytes ≡ counted ++ rest → 0 < length rest
    → middle.taken + length counted ≡ longest_stream → length bytes ≡ to.gave → to.count ≤ from.count + (middle.taken + 1)
    → Ran false unread unread' written written' (HasRead cell form profile from to (Err StreamTooLong))
Ran-long cell form profile middle new bytes counted rest unread between unread' written between' written' done from to reads consumed uses split some full gave each =
    let taken = reads.stands.taken in
    let size : length (reads.read ++ counted) ≡ longest_stream = omega (arith, length-append reads.read counted) in
    let whole : reads.read ++ bytes ≡ (reads.read ++ counted) ++ rest = ap (λ b. reads.read ++ b) split ∙ sym (append_assoc reads.read counted rest) in
    let front : take longest_stream (reads.read ++ bytes) ≡ reads.read ++ counted =
    ap (take longest_stream) whole ∙ ap (λ n. take n ((reads.read ++ counted) ++ rest)) (sym size) ∙ take-append_seam (reads.read ++ counted) rest in
    let many : length (reads.read ++ bytes) ≡ length (reads.read ++ counted) + length rest = ap length whole ∙ length-append (reads.read ++ counted) rest in
    record {
      read = reads.read ++ bytes;
      out = reads.out ++ uses.text;
      took = Consumes-trans unread between unread' reads.read bytes reads.took consumed;
      put = Appends-trans written between' written' reads.out uses.text reads.put uses.put;
      so = record {
        comes = (
          omega arith,
          subst (λ (r : List ℕ). IsEndedText cell form profile r (reads.out ++ uses.text)) (sym front)
              (Stands-text cell form profile new (reads.read ++ counted) (reads.out ++ uses.text) (uses.so reads.read reads.out reads.stands)),
        );
        keeps_up = keeps_up cell form profile middle from to reads.read bytes (reads.read ++ bytes) reads.out uses.text (reads.out ++ uses.text) reads.stands refl refl gave
            (omega (arith, taken));
      };
    }

stopped-fault : (cell : ℕ → Cell) (form : Form) (profile : Profile) (ended : Type 0) (fault : ReplayFault) (read out : List ℕ) → (fault ≡ Memory) ⊎ (fault ≡ Write)
    → IsStoppedBy cell form profile ended fault (take longest_stream read) out → IsReplay cell form profile ended (Err fault) read out
stopped-fault cell form profile ended fault read out (inl memory) is =
    subst (λ (f : ReplayFault). IsReplay cell form profile ended (Err f) read out) (sym memory)
    (subst (λ (f : ReplayFault). IsStoppedBy cell form profile ended f (take longest_stream read) out) memory is)
stopped-fault cell form profile ended fault read out (inr write) is =
    subst (λ (f : ReplayFault). IsReplay cell form profile ended (Err f) read out) (sym write)
    (subst (λ (f : ReplayFault). IsStoppedBy cell form profile ended f (take longest_stream read) out) write is)

no_read : (fault : ReplayFault) → (fault ≡ Memory) ⊎ (fault ≡ Write) → is_read_fault_of (Err fault) ≡ false
no_read fault (inl memory) = ap (λ f. is_read_fault_of (Err f)) memory
no_read fault (inr write) = ap (λ f. is_read_fault_of (Err f)) write

-- memory or the writer stopped the run
pub Ran-stopped : (cell : ℕ → Cell) (form : Form) (profile : Profile) (middle new : ReplayState) (bytes counted rest : List ℕ)
    (unread between unread' written between' written' : Option (List ℕ)) (fault : ReplayFault) (from to : Reads)
    → ReadsSoFar cell form profile middle unread between written between' → Consumes between unread' bytes
    → Uses cell form profile middle new counted between' written' (Err fault) → bytes ≡ counted ++ rest
    → middle.taken + length counted ≤ longest_stream → (fault ≡ Memory) ⊎ (fault ≡ Write) → length bytes ≡ to.gave
    → to.count ≤ from.count + (middle.taken + 1)
    → Ran (is_read_fault_of (Err fault)) unread unread' written written' (HasRead cell form profile from to (Err fault))
Ran-stopped cell form profile middle new bytes counted rest unread between unread' written between' written' fault from to reads consumed uses split few only gave each =
    let taken = reads.stands.taken in
    let size : length (reads.read ++ counted) ≤ longest_stream = omega (arith, length-append reads.read counted) in
    let whole : reads.read ++ bytes ≡ (reads.read ++ counted) ++ rest = ap (λ b. reads.read ++ b) split ∙ sym (append_assoc reads.read counted rest) in
    let front = ap (take longest_stream) whole ∙ take-past longest_stream (reads.read ++ counted) rest size in
    subst (λ (failed : Bool). Ran failed unread unread' written written' (HasRead cell form profile from to (Err fault))) (sym (no_read fault only)) (record {
      read = reads.read ++ bytes;
      out = reads.out ++ uses.text;
      took = Consumes-trans unread between unread' reads.read bytes reads.took consumed;
      put = Appends-trans written between' written' reads.out uses.text reads.put uses.put;
      so = record {
        comes = stopped-fault cell form profile ⊥ fault (reads.read ++ bytes) (reads.out ++ uses.text) only
            (subst (λ (r : List ℕ). IsStoppedBy cell form profile ⊥ fault r (reads.out ++ uses.text)) (sym front)
            (stopped_by-longer cell form profile ⊥ fault (reads.read ++ counted) (take (longest_stream - length (reads.read ++ counted)) rest) (reads.out ++ uses.text)
            (uses.so reads.read reads.out reads.stands)));
        keeps_up = keeps_up cell form profile middle from to reads.read bytes (reads.read ++ bytes) reads.out uses.text (reads.out ++ uses.text) reads.stands refl refl gave
            (omega (arith, taken));
      };
    })

-- The whole run

same_fault : (fault : ReplayFault) → is_read_fault_of (Err fault) ≡ is_read_fault (Err fault)
same_fault Read = refl
same_fault Write = refl
same_fault Memory = refl
same_fault StreamTooLong = refl

-- a fault while the file was read
pub Ran-fault : (cell : ℕ → Cell) (form : Form) (profile : Profile) (ended : Type 0) (fault : ReplayFault) (unread unread' written written' : Option (List ℕ))
    (from to : Reads) → Ran (is_read_fault_of (Err fault)) unread unread' written written' (HasRead cell form profile from to (Err fault))
    → Ran (is_read_fault (Err fault)) unread unread' written written' (IsReplayRun cell form profile from to ended (Err fault))
Ran-fault cell form profile ended fault unread unread' written written' from to ran = record {
  read = ran.read;
  out = ran.out;
  took = subst (λ (failed : Bool). Took failed unread unread' ran.read) (same_fault fault) ran.took;
  put = ran.put;
  so = record { comes = IsReplay-ended cell form profile ended fault ran.read ran.out ran.so.comes; keeps_up = ran.so.keeps_up };
}

end_of : (cell : ℕ → Cell) (form : Form) (profile : Profile) (ended : Type 0) (progress : ReplayState) (result : Result Report ReplayFault) (read out : List ℕ)
    → ended → length read ≤ longest_stream → IfErr result (λ fault. (fault ≡ Memory) ⊎ (fault ≡ Write))
    → MatchResult result (λ report. IsReplayText cell form profile read report out) (λ fault. IsStoppedBy cell form profile (Unit {0}) fault read out)
    → (is_read_fault result ≡ false) × IsReplay cell form profile ended result read out
end_of cell form profile ended progress (Ok report) read out is few only text = (refl, (few, text))
end_of cell form profile ended progress (Err fault) read out is few only stopped =
    let whole : take longest_stream read ≡ read = take_all longest_stream read few in (
      sym (same_fault fault) ∙ no_read fault only,
      stopped-fault cell form profile ended fault read out only
          (subst (λ (r : List ℕ). IsStoppedBy cell form profile ended fault r out) (sym whole)
          (stopped_by-ended cell form profile (Unit {0}) ended fault read out (λ _. is) stopped)),
    )

-- the file was read to its end
pub Ran-finished : (cell : ℕ → Cell) (form : Form) (profile : Profile) (ended : Type 0) (progress : ReplayState) (result : Result Report ReplayFault)
    (unread unread' written between written' : Option (List ℕ)) (from to : Reads) → ended → progress.taken ≤ longest_stream
    → IfErr result (λ fault. (fault ≡ Memory) ⊎ (fault ≡ Write))
    → Ran false unread unread' written between (HasRead cell form profile from to (Ok progress)) → Ends cell form profile progress between written' result
    → Ran (is_read_fault result) unread unread' written written' (IsReplayRun cell form profile from to ended result)
Ran-finished cell form profile ended progress result unread unread' written between written' from to is few only ran ends =
    let stands = ran.so.2 in
    let short : length ran.read ≤ longest_stream = omega (arith, stands.taken) in
    let end = end_of cell form profile ended progress result ran.read (ran.out ++ ends.text) is short only (ends.so ran.read ran.out stands) in
    subst (λ (failed : Bool). Ran failed unread unread' written written' (IsReplayRun cell form profile from to ended result)) (sym end.0) (record {
      read = ran.read;
      out = ran.out ++ ends.text;
      took = ran.took;
      put = Appends-trans written between written' ran.out ends.text ran.put ends.put;
      so = record {
        comes = end.1;
        keeps_up = keeps_up cell form profile progress from to ran.read [] ran.read ran.out ends.text (ran.out ++ ends.text) stands (sym (append-nil ran.read)) refl
            (sym ran.so.0) ran.so.1;
      };
    })

-- what it says of an input that the reader tells
pub IsReplayed-ran : (cell : ℕ → Cell) (form : Form) (profile : Profile) (ended : Type 0) (report : Report) (unread unread' written written' : Option (List ℕ))
    (from to : Reads) → IsAtEnd unread' → Ran false unread unread' written written' (IsReplayRun cell form profile from to ended (Ok report))
    → IfSome unread (λ input. IsReplayed cell form profile input report written written')
IsReplayed-ran cell form profile ended report unread unread' written written' from to at ran =
    Consumes-whole unread unread' ran.read (λ input. IsReplayed cell form profile input report written written') ran.took at
    (record { fits = ran.so.comes.0; out = ran.out; text = ran.so.comes.1; put = ran.put })

pub IfOk-replayed : (cell : ℕ → Cell) (form : Form) (profile : Profile) (ended : Type 0) (result : Result Report ReplayFault) (unread unread' written written' : Option (List ℕ))
    (from to : Reads) → IsAtEnd unread' → Ran (is_read_fault result) unread unread' written written' (IsReplayRun cell form profile from to ended result)
    → IfOk result (λ report. IfSome unread (λ input. IsReplayed cell form profile input report written written'))
IfOk-replayed cell form profile ended (Ok report) unread unread' written written' from to at ran =
    IsReplayed-ran cell form profile ended report unread unread' written written' from to at ran
IfOk-replayed cell form profile ended (Err fault) unread unread' written written' from to at ran = tt

-- the bytes of a block that count, and those that do not
pub front-split : (counted count : ℕ) (block : List ℕ) → counted ≤ count
    → take count block ≡ take counted block ++ drop counted (take count block)
front-split counted count block within =
    sym (take-append-drop counted (take count block)) ∙ ap (λ l. l ++ drop counted (take count block)) (take-take counted count block within)

pub length-past : (counted count : ℕ) (block : List ℕ) → counted < count → count ≤ length block → 0 < length (drop counted (take count block))
length-past counted count block below within = rw (length-drop, length-take-le count block within) (omega arith)
