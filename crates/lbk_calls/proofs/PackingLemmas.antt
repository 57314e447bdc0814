-- Records one after another.
use Rattle.std.proofs.Common.{◌≡◌, ℕ, ◌+◌, ◌-◌, ◌*◌, ◌≤◌, List, [], ◌∷◌, ◌++◌, refl, ap, sym, ◌∙◌, arith, length, take, drop, subst}
use Rattle.std.specs.List.{flat_map}
use borrow.Rule.Slice.PartMut.{post_of, put_mid}
use Rattle.std.proofs.Math.ListN.{drop_of_length-le}
use Rattle.std.proofs.Math.Seq.{drop-append_seam, take-append-add, take-append_seam}
use Rattle.std.proofs.lemmas.List.{append-nil, append_assoc, append_cancel_left, length-append, length-drop, length-take, length-take-le, take-append-drop}
use Rattle.std.proofs.lemmas.List.Concat.{flat_map-cons}
use Rattle.std.proofs.lemmas.Slice.{drop-append-drop}
use Rattle.lbk_calls.specs.declared.runs.Run.{Run}
use Rattle.lbk_calls.specs.Packing.{record_of, records_of}
use Rattle.lbk_calls.specs.Runs.{IsNext, runs_of}

-- what a part written at a place leaves
abbrev pub put_at : List ℕ → ℕ → List ℕ → List ℕ
put_at bytes at part = take at bytes ++ (part ++ drop (at + length part) bytes)

pub take-put_at : (bytes : List ℕ) (at : ℕ) (part : List ℕ) → at ≤ length bytes
    → take (at + length part) (put_at bytes at part) ≡ take at bytes ++ part
take-put_at bytes at part room =
    let size : length (take at bytes) ≡ at = length-take at bytes ∙ omega arith in
    let back = part ++ drop (at + length part) bytes in
    ap (λ n. take (n + length part) (take at bytes ++ back)) (sym size)
    ∙ take-append-add (take at bytes) back (length part)
    ∙ ap (λ l. take at bytes ++ l) (take-append_seam part (drop (at + length part) bytes))

pub drop-put_at : (bytes : List ℕ) (at n : ℕ) (part : List ℕ) → at ≤ length bytes → at + length part ≤ n
    → drop n (put_at bytes at part) ≡ drop n bytes
drop-put_at bytes at n part room past =
    let size : length (take at bytes ++ part) ≡ at + length part = length-append (take at bytes) part ∙ ap (λ k. k + length part) (length-take at bytes ∙ omega arith) in
    ap (drop n) (sym (append_assoc (take at bytes) part (drop (at + length part) bytes))) ∙ drop-append-drop (at + length part) bytes (take at bytes ++ part) n past size

-- the records of so many kinds stand in front where there is room for all
pub record IsPutting (kinds start : List ℕ) (at size : ℕ) (bytes : List ℕ) : Type 0 where
  pub within : at ≤ length kinds
  pub few : size ≤ 4 * at
  pub count : size + length (records_of (drop at kinds)) ≡ length (records_of kinds)
  pub records : length (records_of kinds) ≤ length start → take size bytes ++ records_of (drop at kinds) ≡ records_of kinds
  pub after : length (records_of kinds) ≤ length start → drop (length (records_of kinds)) bytes ≡ drop (length (records_of kinds)) start

pub records_of-next : (kinds : List ℕ) (at : ℕ) (run : Run) → IsNext kinds at run
    → records_of (drop at kinds) ≡ record_of run ++ records_of (drop (at + run.length) kinds)
records_of-next kinds at run next = ap (flat_map record_of) next.first ∙ flat_map-cons record_of run (runs_of (drop (at + run.length) kinds))

pub putting-none : (kinds start : List ℕ) → IsPutting kinds start 0 0 start
putting-none kinds start = record { within = omega arith; few = omega arith; count = omega arith; records = λ room. refl; after = λ room. refl }

putting-part : (kinds start bytes after part : List ℕ) (at size : ℕ) (run : Run) → IsPutting kinds start at size bytes → IsNext kinds at run
    → length bytes ≡ length start → part ≡ record_of run → length part ≤ 4 → (size + length part ≤ length bytes → after ≡ put_at bytes size part)
    → IsPutting kinds start (at + run.length) (size + length part) after
putting-part kinds start bytes after part at size run is next same of few written =
    let records : records_of (drop at kinds) ≡ part ++ records_of (drop (at + run.length) kinds) =
    records_of-next kinds at run next ∙ ap (λ l. l ++ records_of (drop (at + run.length) kinds)) (sym of) in
    let counted : length (records_of (drop at kinds)) ≡ length part + length (records_of (drop (at + run.length) kinds)) =
    ap length records ∙ length-append part (records_of (drop (at + run.length) kinds)) in
    record {
      within = next.within;
      few = let some = next.some in let f = is.few in omega arith;
      count = let c = is.count in omega arith;
      records = λ room.
          let c = is.count in
          let there : after ≡ put_at bytes size part = written (omega arith) in
          ap (λ l. take (size + length part) l ++ records_of (drop (at + run.length) kinds)) there
          ∙ ap (λ l. l ++ records_of (drop (at + run.length) kinds)) (take-put_at bytes size part (omega arith))
          ∙ append_assoc (take size bytes) part (records_of (drop (at + run.length) kinds))
          ∙ ap (λ l. take size bytes ++ l) (sym records) ∙ is.records room;
      after = λ room.
          let c = is.count in
          let there : after ≡ put_at bytes size part = written (omega arith) in
          ap (drop (length (records_of kinds))) there ∙ drop-put_at bytes size (length (records_of kinds)) part (omega arith) (omega arith) ∙ is.after room;
    }

pub putting-on : (kinds start bytes after part : List ℕ) (at size end : ℕ) (run : Run) → IsPutting kinds start at size bytes → IsNext kinds at run
    → length bytes ≡ length start → part ≡ record_of run → length part ≤ 4 → end ≡ size + length part
    → (end ≤ length bytes → after ≡ take size bytes ++ (part ++ drop end bytes)) → IsPutting kinds start (at + run.length) end after
putting-on kinds start bytes after part at size end run is next same of few ends written =
    let P : ℕ → Type 0 = λ n. IsPutting kinds start (at + run.length) n after in
    subst P (sym ends) (putting-part kinds start bytes after part at size run is next same of few
    (λ room. written (omega arith) ∙ ap (λ n. take size bytes ++ (part ++ drop n bytes)) ends))

pub records_of-none : (kinds : List ℕ) (at : ℕ) → length kinds ≤ at → records_of (drop at kinds) ≡ []
unfolding runs_of
records_of-none kinds at past = ap records_of (drop_of_length-le kinds past)

pub putting-size : (kinds start : List ℕ) (at size : ℕ) (bytes : List ℕ) → IsPutting kinds start at size bytes → length kinds ≤ at
    → size ≡ length (records_of kinds)
putting-size kinds start at size bytes is past =
    let none : length (records_of (drop at kinds)) ≡ 0 = ap length (records_of-none kinds at past) in let c = is.count in omega arith

pub putting-all : (kinds start : List ℕ) (at size : ℕ) (bytes : List ℕ) → IsPutting kinds start at size bytes → length kinds ≤ at
    → size ≤ length start → bytes ≡ records_of kinds ++ drop size start
putting-all kinds start at size bytes is past room =
    let counted : size ≡ length (records_of kinds) = putting-size kinds start at size bytes is past in
    let front : take size bytes ≡ records_of kinds =
    sym (append-nil (take size bytes)) ∙ ap (λ l. take size bytes ++ l) (sym (records_of-none kinds at past)) ∙ is.records (omega arith) in
    let back : drop size bytes ≡ drop size start = ap (λ n. drop n bytes) counted ∙ is.after (omega arith) ∙ ap (λ n. drop n start) (sym counted) in
    sym (take-append-drop size bytes) ∙ ap (λ l. l ++ drop size bytes) front ∙ ap (λ l. records_of kinds ++ l) back

-- what stands behind a place after a write to all of it
pub back-put_mid : (at : ℕ) (bytes part : List ℕ) → at ≤ length bytes → drop at (put_mid at (length bytes - at) bytes part) ≡ part
back-put_mid at bytes part within =
    let rest = part ++ post_of at (length bytes - at) bytes in
    ap (λ n. drop n (take at bytes ++ rest)) (sym (length-take-le at bytes within)) ∙ drop-append_seam (take at bytes) rest
    ∙ ap (λ l. part ++ l) (drop_of_length-le (drop at bytes) (omega (arith, length-drop at bytes))) ∙ append-nil part

-- some bytes are the records of the kinds where those that are left are the records of the kinds that are left
pub record IsMatching (kinds bytes : List ℕ) (at : ℕ) (left : List ℕ) : Type 0 where
  pub within : at ≤ length kinds
  pub from : left ≡ records_of (drop at kinds) → bytes ≡ records_of kinds
  pub to : bytes ≡ records_of kinds → left ≡ records_of (drop at kinds)

pub matching-none : (kinds bytes : List ℕ) → IsMatching kinds bytes 0 bytes
matching-none kinds bytes = record { within = omega arith; from = λ is. is; to = λ is. is }

pub matching-on : (kinds bytes left after part : List ℕ) (at : ℕ) (run : Run) → IsMatching kinds bytes at left → IsNext kinds at run
    → part ≡ record_of run → left ≡ part ++ after → IsMatching kinds bytes (at + run.length) after
matching-on kinds bytes left after part at run is next of split =
    let records : records_of (drop at kinds) ≡ part ++ records_of (drop (at + run.length) kinds) =
    records_of-next kinds at run next ∙ ap (λ l. l ++ records_of (drop (at + run.length) kinds)) (sym of) in
    record {
      within = next.within;
      from = λ same. is.from (split ∙ ap (λ l. part ++ l) same ∙ sym records);
      to = λ same. append_cancel_left part after (records_of (drop (at + run.length) kinds)) (sym split ∙ is.to same ∙ records);
    }

nothing : (bytes : List ℕ) → length bytes ≡ 0 → bytes ≡ []
nothing [] none = refl
nothing (byte ∷ rest) none = absurd (omega arith)

pub matching-all : (kinds bytes left : List ℕ) (at : ℕ) → IsMatching kinds bytes at left → length kinds ≤ at
    → (length left ≡ 0 → bytes ≡ records_of kinds) × (bytes ≡ records_of kinds → length left ≡ 0)
matching-all kinds bytes left at is past =
    let none = records_of-none kinds at past in
    (λ empty. is.from (nothing left empty ∙ sym none), λ same. ap length (is.to same ∙ none))
