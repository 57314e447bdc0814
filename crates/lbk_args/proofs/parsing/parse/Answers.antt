use Rattle.std.proofs.Common.{◌≡◌, ◌∙◌, ℕ, List, [], Option, Some, Result, Ok, Err, IfOk, IfErr, OnOk, MatchResult}
use Rattle.std.proofs.Common.{true, map, ap, sym, subst, refl}
use Rattle.std.specs.Prelude.{option_map}
use Rattle.std.specs.Borrow.{Bor}
use Rattle.clap.specs.Words.{App, Text, app_of, fault_of, found_of, is_simple, is_simple_and_free, kind_of, rows_of}
use Rattle.clap.specs.Words.{subcommand_of}
use Rattle.lbk_args.specs.Command.{lbk_app}
use Rattle.lbk_args.specs.Refusal.{IsRefusalBy}
use Rattle.lbk_args.specs.Accepted.{AreAccepted, faults_of, task_fault}
use Rattle.lbk_args.specs.Task.{Task, task_by, task_of}
use Rattle.lbk_args.specs.declared.order.Order.{Order}
use Rattle.lbk_args.specs.declared.order.WordsFault.{WordsFault}
use Rattle.lbk_args.specs.declared.order.WordsFault.TheVariants.{Memory}
use Rattle.lbk_args.proofs.Found.{asked, faults_are, found_pair, only_memory, refused_by, some_same, widened}
use Rattle.lbk_args.proofs.Plain.{Performs, plain_performs}
use Rattle.lbk_args.proofs.parsing.parse.Goals as goal
use Rattle.lbk_args.proofs.parsing.parse.Goals.{Joined-matches-2}

-- the command line is one of clap's simple ones
simple : is_simple lbk_app ≡ true
simple = refl

free : is_simple_and_free lbk_app ≡ true
free = refl

-- words that `clap` takes, with the order that was made of them, if any, and what came of that
module _ (words : List Text) (order : Option Order) (r : Result Order WordsFault)
    (asks : task_by words ≡ option_map task_of order)
    (faults : faults_of words ≡ task_fault (option_map task_of order)) where
  are_accepted : OnOk r (task_fault (option_map task_of order) ≡ []) → IfOk r (λ made. AreAccepted words)
  are_accepted = by r
    where
      by : (s : Result Order WordsFault) → OnOk s (task_fault (option_map task_of order) ≡ [])
          → IfOk s (λ made. AreAccepted words)
      by (Ok made) clean = faults ∙ clean
      by (Err fault) clean = tt

  ask_for : IfOk r (λ made. order ≡ Some made) → IfOk r (λ made. task_by words ≡ Some (task_of made))
  ask_for = by r
    where
      by : (s : Result Order WordsFault) → IfOk s (λ made. order ≡ Some made)
          → IfOk s (λ made. task_by words ≡ Some (task_of made))
      by (Ok made) is = asks ∙ ap (option_map task_of) is
      by (Err fault) is = tt

  are_refused : IfErr r (IsRefusalBy (task_fault (option_map task_of order))) → IfErr r (IsRefusalBy (faults_of words))
  are_refused = by r
    where
      by : (s : Result Order WordsFault) → IfErr s (IsRefusalBy (task_fault (option_map task_of order)))
          → IfErr s (IsRefusalBy (faults_of words))
      by (Ok made) refused = tt
      by (Err fault) refused = subst (λ ks. IsRefusalBy ks fault) (sym faults) refused

  are_plain : (task : Task) → Performs words task → IfOk r (λ made. order ≡ Some made)
      → IfErr r (IsRefusalBy (task_fault (option_map task_of order)))
      → MatchResult r (λ made. task_of made ≡ task) (λ fault. fault ≡ Memory)
  are_plain task plain = by r
    where
      by : (s : Result Order WordsFault) → IfOk s (λ made. order ≡ Some made)
          → IfErr s (IsRefusalBy (task_fault (option_map task_of order)))
          → MatchResult s (λ made. task_of made ≡ task) (λ fault. fault ≡ Memory)
      by (Ok made) is refused = some_same _ _ (sym (asks ∙ ap (option_map task_of) is) ∙ plain.asks)
      by (Err fault) is refused = only_memory fault
          (subst (λ ks. IsRefusalBy ks fault) (sym faults ∙ plain.accepted) refused)

-- what the order is made of is what the words ask for
asks_for : (c : Joined-matches-2) → task_by (map (λ w. w.now) c.args.words.now) ≡ option_map task_of c.order.result
asks_for c =
    let app = c.in-Ok.ensures.is_app in
    let words = map (λ (w : Bor (List ℕ)). w.now) c.args.words.now in
    let found = c.in-Ok-try_get_matches_from.ensures.matches (ap is_simple app ∙ simple) in
    let pair = found_pair _ c.unwrap.result.0.now (rows_of (found_of c.unwrap.result.1.now))
    (sym (ap (option_map (λ p. p.0.now)) c.unwrap.ensures) ∙ c.subcommand.ensures.name)
    (sym (ap (option_map (λ p. rows_of (found_of p.1.now))) c.unwrap.ensures) ∙ c.subcommand.ensures.rows) in
    asked words _ _ _ (found.1 ∙ ap (λ (a : App). subcommand_of a words) app) pair ∙ sym c.order.ensures

faults_for : (c : Joined-matches-2) → faults_of (map (λ w. w.now) c.args.words.now)
    ≡ task_fault (option_map task_of c.order.result)
faults_for c =
    let app = c.in-Ok.ensures.is_app in
    let words = map (λ (w : Bor (List ℕ)). w.now) c.args.words.now in
    let clean = sym (ap (λ (a : App). fault_of a words) app)
    ∙ c.in-Ok-try_get_matches_from.ensures.kinds (ap is_simple_and_free app ∙ free) in
    faults_are words _ clean (asks_for c)

pub returns-in-Ok-texts-clause-accepted : goal.returns-in-Ok-texts-clause-accepted
returns-in-Ok-texts-clause-accepted c = are_accepted _ c.order.result c.accepted.result (asks_for c) (faults_for c)
    c.accepted.ensures.clean

pub returns-in-Ok-texts-clause-task : goal.returns-in-Ok-texts-clause-task
returns-in-Ok-texts-clause-task c = ask_for _ c.order.result c.accepted.result (asks_for c) (faults_for c)
    c.accepted.ensures.order

pub returns-in-Ok-texts-clause-refused : goal.returns-in-Ok-texts-clause-refused
returns-in-Ok-texts-clause-refused c = are_refused _ c.order.result c.accepted.result (asks_for c) (faults_for c)
    c.accepted.ensures.refused

pub returns-in-Ok-texts-clause-plain : goal.returns-in-Ok-texts-clause-plain
returns-in-Ok-texts-clause-plain c task plain =
    are_plain _ c.order.result c.accepted.result (asks_for c) (faults_for c) task
    (plain_performs task (map (λ w. w.now) c.args.words.now) plain)
    c.accepted.ensures.order c.accepted.ensures.refused

pub returns-in-Err-clause-refused : goal.returns-in-Err-clause-refused
returns-in-Err-clause-refused c =
    let app = c.in-Ok.ensures.is_app in
    let words = map (λ (w : Bor (List ℕ)). w.now) c.args.words.now in
    let fails = c.in-Err.ensures.kinds (ap is_simple_and_free app ∙ free) in
    widened (fault_of lbk_app words) (task_fault (task_by words)) c.refusal.result
    (subst (λ (a : App). IsRefusalBy (fault_of a words) c.refusal.result) app
    (refused_by (fault_of (app_of c.in-Ok.command) words) (kind_of c.in-Err.error) c.refusal.result fails
    c.refusal.ensures))

pub returns-in-Err-clause-plain : goal.returns-in-Err-clause-plain
returns-in-Err-clause-plain c task plain =
    only_memory c.refusal.result (subst (λ ks. IsRefusalBy ks c.refusal.result)
    (plain_performs task (map (λ w. w.now) c.args.words.now) plain).accepted (returns-in-Err-clause-refused c))
