-- From what is ready to what a task performs.
use Rattle.std.proofs.Common.{◌≡◌, ℕ, Bool, true, false, suc, List, [], ◌∷◌, Option, Result, Err, map, length, inl, inr, sym, subst, refl, true≢false, eqb-true, arith}
use Rattle.std.specs.Prelude.{◌==◌}
use Rattle.std.specs.Borrow.{Bor}
use Rattle.lbk_feed.specs.declared.traits.Source.{Ghosts as SourceMembers}
use Rattle.lbk_files.specs.TaskCells.{cell_of_task}
use Rattle.lbk_values.specs.declared.profile.Profile.{Profile}
use Rattle.lbk_args.specs.declared.order.Engine.{Engine}
use Rattle.lbk_args.specs.declared.order.Part.{Part}
use Rattle.lbk_args.specs.Task.{Task}
use Rattle.lbk_files.specs.declared.faults.CellsFault.{CellsFault}
use Rattle.lbk_files.specs.declared.faults.CellsFault.TheVariants.{Memory as FilesMemory}
use Rattle.lbk_files.specs.declared.faults.NotReady.{NotReady}
use Rattle.lbk_files.specs.declared.faults.NotReady.TheVariants.{Refused as StopRefused}
use Rattle.lbk_files.specs.declared.readiness.Ready.{Ready}
use Rattle.lbk_files.specs.Store.{LoadCounts}
use Rattle.lbk_files.specs.Ready.{IsReadyFor, IsStoppedAt}
use Rattle.lbk_cmd.specs.Devices.{Devices}
use Rattle.lbk_cmd.specs.Operands.{Reads, Refusals, Standing, standing}
use Rattle.lbk_cmd.specs.declared.ending.Ending.TheVariants.{Done}
use Rattle.lbk_cmd.specs.Acts.{Performs, RunsOver, RunsReady}
use Rattle.lbk_cmd.specs.Titles.{RunsNamed, file_of, has_title}

-- an engine that runs on what is ready for a task performs it
pub ready_performs : {F : Type 0} (source : SourceMembers F) (file text : List ℕ → Option (Option (List ℕ))) (task : Task) (counts counts' : LoadCounts) (ready : Ready)
    (before after : Standing) → IsReadyFor file task counts counts' ready
    → Reads source text (RunsReady ready) (map (λ name. name.now) ready.texts.items) before after
    → Performs source file text task counts counts' before after
ready_performs source file text task counts counts' ready before after is reads = inr (
  cell_of_task ready.cells,
  is.cells,
  subst (λ (part : Option Part). By task.names part task.engine task.sign task.profile) is.part
      (subst (λ (engine : Engine). By task.names ready.part engine task.sign task.profile) is.engine
      (subst (λ (mark : List ℕ). By task.names ready.part ready.engine mark task.profile) is.sign
      (subst (λ (profile : Profile). By task.names ready.part ready.engine ready.sign.now profile) is.profile
      (subst (λ (names : Bool). By names ready.part ready.engine ready.sign.now ready.profile) is.names
      (subst (λ (texts : List (List ℕ)). Reads source text (RunsReady ready) texts before after) is.texts reads))))),
)
  where
    By : Bool → Option Part → Engine → List ℕ → Profile → Type 0
    By names part engine mark profile = Reads source text (λ name. RunsNamed (has_title names engine) (RunsOver part engine mark (file_of names name) profile (cell_of_task ready.cells)) name) task.texts before after

-- what is performed, by what the texts told before they heard what is asked for
pub performs_told : {F : Type 0} (source : SourceMembers F) (file text told : List ℕ → Option (Option (List ℕ))) (other task : Task) (counts counts' : LoadCounts)
    (devices : Devices) (heard refused : Refusals) (after : Standing) → text ≡ told → heard ≡ refused → other ≡ task
    → Performs source file text other counts counts' (standing devices heard Done) after
    → Performs source file told task counts counts' (standing devices refused Done) after
performs_told source file text told other task counts counts' devices heard refused after is_told is_refused is_task performs =
    let by_task = subst (λ (t : Task). Performs source file text t counts counts' (standing devices heard Done) after) is_task performs in
    let by_texts = subst (λ (t : List ℕ → Option (Option (List ℕ))). Performs source file t task counts counts' (standing devices heard Done) after) is_told by_task in
    subst (λ (r : Refusals). Performs source file told task counts counts' (standing devices r Done) after) is_refused by_texts

-- a task that is stopped for want of memory, before any load
pub stops_for_memory : (file : List ℕ → Option (Option (List ℕ))) (task : Task) (counts : LoadCounts) (stop : NotReady) → stop ≡ StopRefused FilesMemory
    → IsStoppedAt file task counts counts stop
stops_for_memory file task counts stop is =
    subst (λ (s : NotReady). IsStoppedAt file task counts counts s) (sym is) (inl (refl, refl))

-- one fault
pub same_fault : (answer : Result Ready CellsFault) (one other : CellsFault) → answer ≡ Err one → answer ≡ Err other → one ≡ other
same_fault answer one other e f = cc

-- a list of no words
pub no_words : (words : List (Bor (List ℕ))) → (length words == 0) ≡ true → map (λ w. w.now) words ≡ []
no_words [] e = refl
no_words (word ∷ words) e =
    let long : suc (length words) ≡ 0 = eqb-true _ _ e in
    absurd (omega arith)

pub some_words : (words : List (Bor (List ℕ))) → (length words == 0) ≡ false → map (λ w. w.now) words ≡ [] → ⊥
some_words [] e f = true≢false e
some_words (word ∷ words) e f = cc

pub no_first : (words : List (Bor (List ℕ))) (first : List ℕ) (rest : List (List ℕ)) → (length words == 0) ≡ true → map (λ w. w.now) words ≡ first ∷ rest → ⊥
no_first [] first rest e f = cc
no_first (word ∷ words) first rest e f =
    let long : suc (length words) ≡ 0 = eqb-true _ _ e in
    omega arith
