-- From what `clap` answers to what the contract of `parse` says.
use Rattle.std.proofs.Common.{◌≡◌, ◌∙◌, List, [], ◌∷◌, Option, Some, None, inl, inr, refl, sym, subst, ap, ap₂}
use Rattle.std.proofs.Common.{true≢false}
use Rattle.std.specs.Prelude.{◌⊎◌, Box, is_some, option_and_then, option_map}
use Rattle.std.specs.Box.{box_value}
use Rattle.clap.specs.Kinds.{or_else}
use Rattle.clap.specs.Words.{IsAmong, Kinds, Row, Text, fault_of, subcommand_of, subcommand_rows}
use Rattle.clap.specs.declared.error.kind.ErrorKind.{ErrorKind}
use Rattle.clap.specs.declared.error.kind.ErrorKind.TheVariants.{OutOfMemory}
use Rattle.clap.specs.declared.parser.matches.ArgMatches.TheViews.{out-SubCommand}
use Rattle.clap.specs.declared.parser.matches.SubCommand.{SubCommand}
use Rattle.lbk_args.specs.declared.order.WordsFault.{WordsFault}
use Rattle.lbk_args.specs.declared.order.WordsFault.TheVariants.{Help, Usage, Memory}
use Rattle.lbk_args.specs.Accepted.{faults_of, task_fault}
use Rattle.lbk_args.specs.Command.{lbk_app}
use Rattle.lbk_args.specs.Task.{Task, task_by, task_in}
use Rattle.lbk_args.specs.Refusal.{HasFault, IsCallForHelp, IsMistake, IsRefusalBy}

-- the name of a subcommand stands before its rows
name_first : {Z : Type 0} (o : Option (Box SubCommand Z)) → option_map (λ b. (out-SubCommand (box_value b)).name.now) o
    ≡ option_map (λ p. p.0) (subcommand_rows o)
name_first None = refl
name_first (Some b) = refl

-- a subcommand whose name and rows are known
pub found_pair : {Z : Type 0} (o : Option (Box SubCommand Z)) (name : Text) (rows : List Row)
    → Some name ≡ option_map (λ b. (out-SubCommand (box_value b)).name.now) o
    → Some rows ≡ option_map (λ p. p.1) (subcommand_rows o)
    → subcommand_rows o ≡ Some (name, rows)
found_pair None name rows e f = absurd (true≢false (ap is_some e))
found_pair (Some b) name rows e f = cc

-- what two values hold is the same where they are
pub some_same : {X : Type 0} (x y : X) → Some x ≡ Some y → x ≡ y
some_same x y e = cc

alone : (P : ErrorKind → Type 0) (k : ErrorKind) → HasFault P (k ∷ []) → P k
alone P k h = elim h.1 [ inl e ↦ subst P e h.2 | inr none ↦ absurd none ]

-- an answer to one kind among the faults is one to the faults
pub refused_by : (ks : Kinds) (k : ErrorKind) (fault : WordsFault) → ((k ≡ OutOfMemory) ⊎ IsAmong k ks)
    → IsRefusalBy (k ∷ []) fault → IsRefusalBy ks fault
refused_by ks k (Help text) (inl e) h = elim (subst IsCallForHelp e (alone IsCallForHelp k h))
    [ inl f ↦ absurd (cc) | inr f ↦ absurd (cc) ]
refused_by ks k (Help text) (inr a) h = (k, a, alone IsCallForHelp k h)
refused_by ks k (Usage text) (inl e) h = absurd ((alone IsMistake k h).2 e)
refused_by ks k (Usage text) (inr a) h = (k, a, alone IsMistake k h)
refused_by ks k Memory a h = tt

-- words with no fault are refused for want of memory alone
pub only_memory : (fault : WordsFault) → IsRefusalBy [] fault → fault ≡ Memory
only_memory (Help text) h = absurd h.1
only_memory (Usage text) h = absurd h.1
only_memory Memory h = refl

-- an answer to the faults is one to them and to what would come behind them
pub widened : (ks more : Kinds) (fault : WordsFault) → IsRefusalBy ks fault → IsRefusalBy (or_else ks more) fault
widened [] more (Help text) h = absurd h.1
widened [] more (Usage text) h = absurd h.1
widened [] more Memory h = tt
widened (k ∷ ks) more fault h = h

-- what the words ask for, by the subcommand that was found in them
pub asked : (words : List Text) (found : Option (Text × List Row)) (name : Text) (rows : List Row)
    → found ≡ subcommand_of lbk_app words
    → found ≡ Some (name, rows) → task_by words ≡ task_in (name, rows)
asked words found name rows of pair = ap (option_and_then task_in) (sym of ∙ pair)

-- words that `clap` takes have the faults of their task
pub faults_are : (words : List Text) (found : Option Task) → fault_of lbk_app words ≡ [] → task_by words ≡ found
    → faults_of words ≡ task_fault found
faults_are words found clean asks = ap₂ (λ (ks : Kinds) (t : Option Task). or_else ks (task_fault t)) clean asks

-- a kind that is a mistake is one by itself
pub one_mistake : (kind : ErrorKind) → IsMistake kind → HasFault IsMistake (kind ∷ [])
one_mistake kind is = (kind, inl refl, is)
