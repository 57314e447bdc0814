use Rattle.std.proofs.Common.{◌∙◌, List, [], Option, Result, Ok, Err, codes, map, ap, sym}
use Rattle.std.specs.Prelude.{IfOk, option_map, unwrap_or}
use Rattle.std.specs.Borrow.{Bor}
use Rattle.clap.specs.Words.{Text, found_of}
use Rattle.clap.proofs.WalkLemmas.{raw_values-rows}
use Rattle.lbk_args.proofs.parsing.texts.Goals as goal

if_ok : {V E : Type 0} (r : Result V E) (P Q : V → Type 0) → IfOk r P → ((v : V) → P v → Q v) → IfOk r Q
if_ok (Ok v) P Q holds implies = implies v holds
if_ok (Err e) P Q holds implies = tt

-- the texts behind a list of words, none where there is no list
abbrev texts_behind : Option (Bor (List (Bor Text))) → List Text
texts_behind found = unwrap_or (option_map (λ s. map (λ v. v.now) s.now) found) []

pub returns-in-Some : goal.returns-in-Some
returns-in-Some c =
    let read = c.get_strs.ensures ∙ raw_values-rows (found_of c.args.given.now) (codes "text") in
    if_ok c.from_slice.result _ _ c.from_slice.ensures.items
    (λ v e. ap (λ (names : List (Bor Text)). map (λ name. name.now) names) e ∙ ap texts_behind (sym c.in-Some.is)
    ∙ ap (λ (found : Option (List Text)). unwrap_or found []) read)

pub returns-in-None : goal.returns-in-None
returns-in-None c =
    let read = c.get_strs.ensures ∙ raw_values-rows (found_of c.args.given.now) (codes "text") in
    ap (λ (names : List (Bor Text)). map (λ name. name.now) names) c.new.ensures.items
    ∙ ap texts_behind (sym c.in-None.is)
    ∙ ap (λ (found : Option (List Text)). unwrap_or found []) read
