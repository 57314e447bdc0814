-- A run without files of text is one over texts of which none can be opened.
use Rattle.std.proofs.Common.{◌≡◌, ℕ, List, [], ◌∷◌, Option, Some, None, inl, inr, sym, subst}
use Rattle.std.specs.Prelude.{◌↔◌}
use Rattle.lbk_feed.specs.declared.traits.Source.{Ghosts as SourceMembers}
use Rattle.lbk_args.specs.Task.{Task}
use Rattle.lbk_files.specs.Store.{LoadCounts}
use Rattle.lbk_cmd.specs.Acts.{Performs, PerformsAlone, RunsTask}
use Rattle.lbk_cmd.specs.Devices.{Devices}
use Rattle.lbk_cmd.specs.Operands.{Reads, ReadsAlone, ReadsEach, ReadsNoFile, ReadsText, Standing, standing}
use Rattle.lbk_cmd.specs.declared.ending.Ending.{Ending}
use Rattle.lbk_cmd.specs.declared.ending.Ending.TheVariants.{Done}

-- what is read of one text may be read of each
each_by : (One Other : List ℕ → Devices → Devices → Ending → Type 0)
    → ((name : List ℕ) (before after : Devices) (ending : Ending) → One name before after ending → Other name before after ending)
    → (names : List (List ℕ)) (before after : Standing) → ReadsEach One names before after → ReadsEach Other names before after
each_by One Other by [] before after same = same
each_by One Other by (name ∷ names) before after (devices, ending, one, inl last) =
    (devices, ending, by name before.devices devices ending one, inl last)
each_by One Other by (name ∷ names) before after (devices, ending, one, inr (goes_on, further)) =
    (devices, ending, by name before.devices devices ending one, inr (goes_on, each_by One Other by names _ after further))

module _ {F : Type 0} (source : SourceMembers F) where
  no_file : (Runs : List ℕ → Devices → Devices → Ending → Type 0) (name : List ℕ) (before after : Devices) (ending : Ending)
      → ReadsText source (λ _. Some None) Runs name before after ending → ReadsNoFile Runs name before after ending
  no_file Runs name before after ending (inl reader) = inl reader
  no_file Runs name before after ending (inr (other, inl unopened)) = inr (other, unopened)
  no_file Runs name before after ending (inr (other, inr reads)) = absurd reads.whole

  reads_alone : (Runs : List ℕ → Devices → Devices → Ending → Type 0) (names : List (List ℕ)) (before after : Devices) (ending : Ending)
      → Reads source (λ _. Some None) Runs names (standing before None Done) (standing after None ending)
      → ReadsAlone Runs names before after ending
  reads_alone Runs [] before after ending reads = reads.0
  reads_alone Runs (name ∷ names) before after ending reads =
      each_by (ReadsText source (λ _. Some None) Runs) (ReadsNoFile Runs) (no_file Runs) (name ∷ names)
      (standing before None Done) (standing after None ending) reads

  pub performs_alone : (file : List ℕ → Option (Option (List ℕ))) (task : Task) (counts counts' : LoadCounts) (before after : Devices) (ending : Ending)
      → Performs source file (λ _. Some None) task counts counts' (standing before None Done) (standing after None ending)
      → PerformsAlone file task counts counts' before after ending
  performs_alone file task counts counts' before after ending (inl stops) = inl stops.0
  performs_alone file task counts counts' before after ending (inr (cell, cells, reads)) =
      inr (cell, cells, reads_alone (RunsTask task cell) task.texts before after ending reads)

  by_reader : (told file : List ℕ → Option (Option (List ℕ))) (task : Task) (counts counts' : LoadCounts) (before after : Standing)
      → task.texts ≡ [] → Performs source file told task counts counts' before after
      → (after.refused ≡ before.refused) × PerformsAlone file task counts counts' before.devices after.devices after.ending
  by_reader told file task counts counts' before after none (inl (stops, same)) = (same, inl stops)
  by_reader told file task counts counts' before after none (inr (cell, cells, reads)) =
      let whole = subst (λ (names : List (List ℕ)). Reads source told (RunsTask task cell) names before after) none reads in
      let alone = subst (λ (names : List (List ℕ)). ReadsAlone (RunsTask task cell) names before.devices after.devices after.ending)
      (sym none) whole.0 in
      (whole.1, inr (cell, cells, alone))

  over_texts : (told file : List ℕ → Option (Option (List ℕ))) (task : Task) (counts counts' : LoadCounts) (before after : Standing)
      → task.texts ≡ []
      → ((after.refused ≡ before.refused) × PerformsAlone file task counts counts' before.devices after.devices after.ending)
      → Performs source file told task counts counts' before after
  over_texts told file task counts counts' before after none (same, inl stops) = inl (stops, same)
  over_texts told file task counts counts' before after none (same, inr (cell, cells, alone)) =
      let whole = subst (λ (names : List (List ℕ)). ReadsAlone (RunsTask task cell) names before.devices after.devices after.ending)
      none alone in
      let reads = subst (λ (names : List (List ℕ)). Reads source told (RunsTask task cell) names before after)
      (sym none) (whole, same) in
      inr (cell, cells, reads)

  -- a task that names no text
  pub performs_by_reader : (told file : List ℕ → Option (Option (List ℕ))) (task : Task) (counts counts' : LoadCounts) (before after : Standing)
      → task.texts ≡ []
      → Performs source file told task counts counts' before after
      ↔ ((after.refused ≡ before.refused) × PerformsAlone file task counts counts' before.devices after.devices after.ending)
  performs_by_reader told file task counts counts' before after none =
      (by_reader told file task counts counts' before after none, over_texts told file task counts counts' before after none)
