-- A call that reads the next passage.
use Rattle.std.proofs.Common.{◌≡◌, ℕ, ◌+◌, ◌<◌, ◌≤◌, ◌⊎◌, ◌^◌, ◌-◌, cond, inl, inr, not, Bool, true, false, List, []}
use Rattle.std.proofs.Common.{is_some, length, map, ◌++◌, ◌||◌, ◌∙◌, if◌then◌else◌, Option, None, Some, Result, Ok, Err, IsUtf8, refl, sym, ap, subst, arith}
use Rattle.std.proofs.Common.{length-append, true≢false}
use Rattle.std.proofs.lemmas.Bool.{false≢true}
use Rattle.lbk_feed.specs.Devices.{Reads}
use Rattle.lbk_feed.specs.Text.{longest_text}
use Rattle.lbk_chunks.specs.Coming.{AreBreaksPast}
use Rattle.lbk_passage.specs.Laws.{break_at}
use Rattle.lbk_passage.specs.Marks.{Marked, text_of}
use Rattle.lbk_passage.specs.Next.{AfterNext, IsPassage, Lends, ends_run, fault_in, lent_text}
use Rattle.lbk_passage.specs.Segments.{segments_of}
use Rattle.lbk_passage.specs.State.{State}
use Rattle.lbk_passage.specs.declared.faults.PassageFault.{PassageFault}
use Rattle.lbk_passage.specs.declared.passage.Passage.{Passage}
use Rattle.lbk_chunk_reader.specs.PassageWords.{words_in_pieces}
use Rattle.lbk_chunk_reader.specs.declared.window.Window.{Window}
use Rattle.lbk_chunk_reader.specs.Pieces.{AreJoined, IsRegular}
use Rattle.lbk_chunk_reader.specs.Reader.{Goes, IsStopped, Progresses, ReadsEach}
use Rattle.lbk_chunk_reader.specs.Standing.{Stands, view_with}
use Rattle.lbk_chunk_reader.specs.Taking.{Takes, TakesNext}
use Rattle.lbk_chunk_reader.specs.Window.{IsTaken}
use Rattle.lbk_chunk_reader.proofs.BetweenLemmas.{breaks-past-from, passage-breaks}
use Rattle.lbk_chunk_reader.proofs.ReaderLemmas.{ended-start, goes-ended, goes-stopped, goes-taken, rises, stands-ended}
use Rattle.lbk_chunk_reader.proofs.ReaderLemmas.{stands-taken}
use Rattle.lbk_chunk_reader.proofs.WordLemmas.{text-joined, text-words-few}

-- the passage that a segmenter lends
pub regular : (s : State) (ms : List Marked) (p : Passage) (words : ℕ) → IsPassage s ms p → words ≤ p.start
    → p.start + length p.text.now ≤ longest_text
    → IsRegular p.start words p.segments.now p.pieces.now
regular s ms p words is below counted =
    let few = text-words-few s.cell p.start (text_of ms) (subst IsUtf8 is.text is.utf8) in
    let size = ap length is.text in
    record {
      few = subst (λ ps. words + length (words_in_pieces p.start ps) < 2 ^ 64) (sym is.pieces)
          (omega (arith, few, size, below, counted));
      joined = subst (AreJoined 0) (sym is.pieces) (text-joined s.cell (text_of ms));
      rising = subst (λ l. AreBreaksPast p.start (map (break_at p.start) l)) (sym is.segments)
          (breaks-past-from p.start (map (break_at p.start) (segments_of ms)) (p.start + length (text_of ms))
          (passage-breaks p.start ms));
    }

pub takes-some : (s t : State) (u v : Option (List ℕ)) (e1 e2 : Bool) (r1 r2 : Reads) (f1 f2 : ℕ) (w w' : Window)
    (p : Passage) → AfterNext s t u v e1 e2 r1 r2 (Ok (Some p))
    → f2 ≡ f1 → w.words ≤ s.start → (IsRegular p.start w.words p.segments.now p.pieces.now → IsTaken p w w')
    → TakesNext s t u v e1 e2 r1 r2 f1 f2 w w' (Ok true)
takes-some s t u v e1 e2 r1 r2 f1 f2 w w' p a failed few taken =
    let lent : Lends s t p = a.answer in
    let start = lent.start in
    let counted = lent.counted in
    record {
      lent = Ok (Some p);
      after = a;
      failed = failed;
      takes = (
        refl,
        taken (regular s lent.marks p w.words lent.passage (omega (arith, few, start))
            (omega (arith, counted, start))),
      );
    }

module _ (s t : State) (u v : Option (List ℕ)) (e1 e2 : Bool) (r1 r2 : Reads) (f1 f2 : ℕ) (w w' : Window)
    (st : Stands w s false) where
  -- what a call comes to that does not fail
  abbrev pub Came : Bool → Type 0
  Came came = Goes (view_with w s) (view_with w' t) false u v []
      × Progresses (view_with w s) (view_with w' t) (not came) × Stands w' t (not came)

  pub read-came : (came : Bool) → TakesNext s t u v e1 e2 r1 r2 f1 f2 w w' (Ok came) → Came came
  read-came came k = by k.lent k.after k.takes
    where
      none : w' ≡ w → AfterNext s t u v e1 e2 r1 r2 (Ok None) → Came false
      none same a =
          subst (λ x. Goes (view_with w s) (view_with x t) false u v []
          × Progresses (view_with w s) (view_with x t) true × Stands x t true) (sym same) (
            goes-ended s t u v e1 e2 r1 r2 w a,
            inl (refl, ended-start s t u v e1 e2 r1 r2 w a),
            stands-ended s t u v e1 e2 r1 r2 w a st,
          )

      some : (p : Passage) → AfterNext s t u v e1 e2 r1 r2 (Ok (Some p)) → IsTaken p w w' → Came true
      some p a taken =
          let rise = rises s t u v e1 e2 r1 r2 w w' p a taken in (
            goes-taken s t u v e1 e2 r1 r2 w w' p a taken,
            inr (refl, rise.0, rise.1),
            stands-taken s t u v e1 e2 r1 r2 w w' p a taken st,
          )

      by : (lent : Result (Option Passage) PassageFault) → AfterNext s t u v e1 e2 r1 r2 lent
          → Takes lent w w' (Ok came) → Came came
      by (Ok (Some p)) a takes = subst Came (sym takes.0) (some p a takes.1)
      by (Ok None) a takes = subst Came (let same : false ≡ came = cc in same) (none takes.1 a)
      by (Err why) a takes = absurd (let no : ⊥ = cc in no)

  pub read-stopped : (why : PassageFault) → TakesNext s t u v e1 e2 r1 r2 f1 f2 w w' (Err why)
      → IsStopped (view_with w s) (view_with w' t) u v false why
  read-stopped why k = by k.lent k.after k.takes
    where
      by : (lent : Result (Option Passage) PassageFault) → AfterNext s t u v e1 e2 r1 r2 lent
          → Takes lent w w' (Err why)
          → IsStopped (view_with w s) (view_with w' t) u v false why
      by (Ok (Some p)) a takes = subst (IsStopped (view_with w s) (view_with w' t) u v false) (sym takes) tt
      by (Ok None) a takes = absurd (let no : ⊥ = cc in no)
      by (Err f) a takes =
          subst (λ x. IsStopped (view_with w s) (view_with x t) u v false why) (sym takes.1)
          (subst (IsStopped (view_with w s) (view_with w t) u v false) (let same : f ≡ why = cc in same)
          (goes-stopped s t u v e1 e2 r1 r2 w f a st.unspent))

-- The reads of a call

each-read : (stops ends was : Bool) (made made' from held to held' : ℕ)
    → (was ≡ true → (made' ≡ made) × (from + held ≡ to + held') × (ends ≡ true))
    → made' + (from + held) ≤ made + (to + held') + 1
    → (stops ≡ false → ends ≡ false → made' + (from + held) ≤ made + (to + held'))
    → made' + (from + held) + (if stops || ends then 0 else 1) ≤ made + (to + held') + (if was then 0 else 1)
each-read true ends false made made' from held to held' quiet one each = omega (arith, one)
each-read false true false made made' from held to held' quiet one each = omega (arith, one)
each-read false false false made made' from held to held' quiet one each = omega (arith, each refl refl)
each-read true ends true made made' from held to held' quiet one each = omega (arith, (quiet refl).0, (quiet refl).1)
each-read false true true made made' from held to held' quiet one each = omega (arith, (quiet refl).0, (quiet refl).1)
each-read false false true made made' from held to held' quiet one each = absurd (false≢true (quiet refl).2)

pub reads-each : (s t : State) (u v : Option (List ℕ)) (e1 e2 : Bool) (r1 r2 : Reads) (f1 f2 : ℕ) (w w' : Window)
    (r : Result Bool PassageFault) → TakesNext s t u v e1 e2 r1 r2 f1 f2 w w' r
    → ReadsEach s t (is_some (fault_in r)) r1.count r2.count
reads-each s t u v e1 e2 r1 r2 f1 f2 w w' r k =
    each-read (is_some (fault_in r)) t.is_ended s.is_ended r1.count r2.count s.start (length s.held) t.start
    (length t.held)
    (λ ended. (let q = k.after.quiet ended in (
      ap (λ (n : Reads). n.count) q.2,
      omega (arith, start, size, ap length q.0),
      q.1,
    )))
    (omega (arith, k.after.costs.but_one, start, size))
    (λ goes unended. omega (arith, k.after.costs.each_gave (goes-on k.lent r k.takes goes unended), start, size))
  where
    start : t.start ≡ s.start + length (lent_text k.lent)
    start = k.after.start

    size : length (lent_text k.lent ++ t.held) ≡ length (lent_text k.lent) + length t.held
    size = length-append (lent_text k.lent) t.held

    goes-on : (lent : Result (Option Passage) PassageFault) (r : Result Bool PassageFault) → Takes lent w w' r
        → is_some (fault_in r) ≡ false → t.is_ended ≡ false → (ends_run (fault_in lent) || t.is_ended) ≡ false
    goes-on (Ok p) r takes goes unended = unended
    goes-on (Err why) r takes goes unended = absurd (true≢false (sym (ap (λ x. is_some (fault_in x)) takes.0) ∙ goes))

-- one call after another
pub reads-then : (a b c : State) (stops : Bool) (m n k : ℕ) → ReadsEach a b false m n → ReadsEach b c stops n k
    → ReadsEach a c stops m k
reads-then a b c stops m n k first second = omega (arith, first, second)

-- a call makes the measure of a run smaller
pub progress : (old new : ℕ) (was is : Bool) → was ≡ false → ((is ≡ true) × (new ≡ old))
    ⊎ ((is ≡ false) × (old < new) × (new ≤ longest_text))
    → cond is 0 1 + (longest_text + 1 - new) < cond was 0 1 + (longest_text + 1 - old)
progress old new was is going (inl (whole, same)) =
    let before = ap {B = ℕ} (λ (b : Bool). cond b 0 1) going in
    let after = ap {B = ℕ} (λ (b : Bool). cond b 0 1) whole in
    omega (arith, before, after, same)
progress old new was is going (inr (came, rises, few)) =
    let before = ap {B = ℕ} (λ (b : Bool). cond b 0 1) going in
    let after = ap {B = ℕ} (λ (b : Bool). cond b 0 1) came in
    omega (arith, before, after, rises, few)
