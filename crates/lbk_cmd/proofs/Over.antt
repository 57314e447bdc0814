-- The texts that are read, from the first to the last.
use Rattle.std.proofs.Common.{◌≡◌, ◌+◌, ◌<◌, ◌≤◌, ℕ, true, false, suc, List, [], ◌∷◌, Option, inl, inr, map, length, drop, drop-cons, drop_of_length-le, sym, subst, refl, codes, eqb-true, true≢false, arith}
use Rattle.std.specs.Prelude.{◌==◌}
use Rattle.std.specs.Borrow.{Bor}
use Rattle.std.specs.List.{slice_index_or}
use Rattle.lbk_feed.specs.declared.traits.Source.{Ghosts as SourceMembers}
use Rattle.lbk_cmd.specs.declared.ending.Ending.{Ending}
use Rattle.lbk_cmd.specs.Devices.{Devices}
use Rattle.lbk_cmd.specs.Ending.{ending_after, is_last}
use Rattle.lbk_cmd.specs.Operands.{Reads, ReadsText, ReadsTexts, Refusals, Standing, refused_after, standing}

module _ {F : Type 0} (source : SourceMembers F) (told : List ℕ → Option (Option (List ℕ))) (Runs : List ℕ → Devices → Devices → Ending → Type 0) where
  -- a text that is the last
  pub last_read : (names : List (Bor (List ℕ))) (i : ℕ) (d : Bor (List ℕ)) → i < length names → (before : Standing) (devices : Devices) (ending : Ending)
      (here : List ℕ → Option (Option (List ℕ))) → here ≡ told → ReadsText source here Runs (slice_index_or names i d).now before.devices devices ending
      → true ≡ is_last ending → ReadsTexts source told Runs (map (λ name. name.now) (drop i names)) before (standing devices before.refused ending)
  last_read names i d lt before devices ending here same reads last =
      let reads_told = subst (λ (t : List ℕ → Option (Option (List ℕ))). ReadsText source t Runs (slice_index_or names i d).now before.devices devices ending) same reads in
      rw (drop-cons names i d lt) (devices, ending, reads_told, inl (sym last, refl))

  -- a text behind which others are read
  pub next_read : (names : List (Bor (List ℕ))) (i : ℕ) (d : Bor (List ℕ)) → i < length names → (before : Standing) (devices : Devices) (ending : Ending)
      (here : List ℕ → Option (Option (List ℕ))) → here ≡ told → ReadsText source here Runs (slice_index_or names i d).now before.devices devices ending
      → false ≡ is_last ending → (refused : Refusals) (next : Ending) → refused ≡ refused_after before.refused (slice_index_or names i d).now ending
      → next ≡ ending_after before.ending ending → (after : Standing)
      → ReadsTexts source told Runs (map (λ name. name.now) (drop (i + 1) names)) (standing devices refused next) after
      → ReadsTexts source told Runs (map (λ name. name.now) (drop i names)) before after
  next_read names i d lt before devices ending here same reads goes_on refused next is_refused is_next after further =
      let one : i + 1 ≡ suc i = omega arith in
      let reads_told = subst (λ (t : List ℕ → Option (Option (List ℕ))). ReadsText source t Runs (slice_index_or names i d).now before.devices devices ending) same reads in
      let behind = subst (λ (k : ℕ). ReadsTexts source told Runs (map (λ name. name.now) (drop k names)) (standing devices refused next) after) one further in
      let told_too = subst (λ (r : Refusals). ReadsTexts source told Runs (map (λ name. name.now) (drop (suc i) names)) (standing devices r next) after) is_refused behind in
      let ended_too = subst (λ (e : Ending). ReadsTexts source told Runs (map (λ name. name.now) (drop (suc i) names))
      (standing devices (refused_after before.refused (slice_index_or names i d).now ending) e) after) is_next told_too in
      rw (drop-cons names i d lt) (devices, ending, reads_told, inr (sym goes_on, ended_too))

  pub all_read : (names : List (Bor (List ℕ))) (i : ℕ) (stands : Standing) → length names ≤ i
      → ReadsTexts source told Runs (map (λ name. name.now) (drop i names)) stands stands
  all_read names i stands end = rw (drop_of_length-le names end) refl

  -- no text is named, or some are
  pub reader_read : (names all : List (Bor (List ℕ))) (before after : Standing) → names ≡ all → (length names == 0) ≡ true
      → Runs (codes "-") before.devices after.devices after.ending → after.refused ≡ before.refused → Reads source told Runs (map (λ name. name.now) all) before after
  reader_read [] all before after are none runs same =
      subst (λ (ns : List (Bor (List ℕ))). Reads source told Runs (map (λ name. name.now) ns) before after) are (runs, same)
  reader_read (name ∷ names) all before after are none runs same =
      let long : suc (length names) ≡ 0 = eqb-true _ _ none in
      absurd (omega arith)

  pub texts_read : (names all : List (Bor (List ℕ))) (before after : Standing) → names ≡ all → (length names == 0) ≡ false
      → ReadsTexts source told Runs (map (λ name. name.now) names) before after → Reads source told Runs (map (λ name. name.now) all) before after
  texts_read [] all before after are some reads = absurd (true≢false some)
  texts_read (name ∷ names) all before after are some reads =
      subst (λ (ns : List (Bor (List ℕ))). Reads source told Runs (map (λ name. name.now) ns) before after) are reads
