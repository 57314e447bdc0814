-- The walk over the words of a subcommand, step by step.
use Rattle.std.proofs.Common.{◌≡◌, ◌∙◌, ◌≢◌, ℕ, Bool, true, false, List, [], ◌∷◌, ◌++◌, Some, None, refl, sym, ap, ap₂}
use Rattle.std.proofs.Common.{eqb-true}
use Rattle.std.specs.Prelude.{◌==◌, is_some}
use Rattle.std.specs.List.{fold}
use Rattle.clap.specs.Walk.{Held, Names, Row, Rule, Step, Text, Waiting, Walk, after_step, arg_by_id, finished, idle}
use Rattle.clap.specs.Walk.{nothing_held, option, option_word, plain_word, rows_after, settled, stop_after, walk}
use Rattle.clap.specs.Walk.{walk_from, walked, word_met}
use Rattle.clap.specs.Simple.{App, Shape, entered, names_of}
use Rattle.clap.specs.Kinds.{Kinds, or_else}
use Rattle.clap.specs.Faults.{built_fault, check_fault, defaults_fault, entered_fault, level_fault, settle_fault}
use Rattle.clap.specs.Faults.{step_fault, turn_fault, walk_fault, word_fault}
use Rattle.clap.proofs.WalkLemmas.{walk_stopped}
use Rattle.lbk_args.specs.PlainWords.{IsPlainName}

-- ---- a name behind an option

no_hyphen : (first : ℕ) → first ≢ 45 → (first == 45) ≡ false
no_hyphen first other = go (first == 45) refl
  where
    go : (b : Bool) → (first == 45) ≡ b → (first == 45) ≡ false
    go false e = e
    go true e = absurd (other (eqb-true _ _ e))

name_met : (c : List Rule) (id : Text) (position : ℕ) (name : Text) (h : Held) → IsPlainName name
    → word_met c [] false (option id) position name h ≡ plain_word c (option id) name h
name_met c id position [] h plain = absurd plain
name_met c id position (first ∷ rest) h plain = let no : (first == 45) ≡ false = no_hyphen first plain in simp no

name_fault : (s : Shape) (id name : Text) (h : Held) → IsPlainName name → word_fault s [] false (option id) name h ≡ []
name_fault s id [] h plain = absurd plain
name_fault s id (first ∷ rest) h plain = let no : (first == 45) ≡ false = no_hyphen first plain in simp no

-- the walk between two words of a subcommand that has no positional
abbrev pub between : Held → Waiting → Walk
between h waiting = record { held = h; waiting = waiting; position = 1; is_trailing = false; stopped = None }

pub name_walked : (c : List Rule) (id name : Text) (h : Held) → IsPlainName name
    → walked c [] (between h (option id)) name ≡ between (option_word (arg_by_id c id) id name h).0
    (option_word (arg_by_id c id) id name h).1
unfolding walked
name_walked c id name h plain = ap (λ (m : Held × Step). after_step c name (between h (option id)) m.0 m.1)
    (name_met c id 1 name h plain)

pub name_turn : (s : Shape) (id name : Text) (h : Held) → IsPlainName name
    → turn_fault s [] (between h (option id)) name ≡ []
name_turn s id name h plain =
    ap₂ (λ (ks : Kinds) (m : Held × Step). or_else ks (step_fault s 1 m.0 m.1)) (name_fault s id name h plain)
    (name_met s.rules id 1 name h plain)

-- ---- the whole walk

-- the walk goes over the words to its end, and no word has a fault
pub record Walks (s : Shape) (w : Walk) (words : List Text) (end : Walk) : Type 0 where
  pub walks : fold (walked s.rules []) w words ≡ end
  pub clean : walk_fault s [] w words ≡ []

pub done : (s : Shape) (w : Walk) → Walks s w [] w
unfolding walk_fault
done s w = record { walks = refl; clean = refl }

pub step : (s : Shape) (w after end : Walk) (word : Text) (rest : List Text) → walked s.rules [] w word ≡ after
    → turn_fault s [] w word ≡ []
    → Walks s after rest end → Walks s w (word ∷ rest) end
unfolding walk_fault
step s w after end word rest goes clean further = record {
  walks = ap (λ (v : Walk). fold (walked s.rules []) v rest) goes ∙ further.walks;
  clean = ap₂ (λ (ks : Kinds) (v : Walk). or_else ks (walk_fault s [] v rest)) clean goes ∙ further.clean;
}

-- an option and the name behind it
pub pair : (s : Shape) (h opened held : Held) (id word name : Text) (rest : List Text) (end : Walk)
    → walked s.rules [] (between h idle) word ≡ between opened (option id) → turn_fault s [] (between h idle) word ≡ []
    → IsPlainName name
    → ◌≡◌ {A = Held × Waiting} (option_word (arg_by_id s.rules id) id name opened) (held, idle)
    → Walks s (between held idle) rest end
    → Walks s (between h idle) (word ∷ name ∷ rest) end
pair s h opened held id word name rest end goes clean plain takes further =
    step s (between h idle) (between opened (option id)) end word (name ∷ rest) goes clean
    (step s (between opened (option id)) (between held idle) end name rest
    (name_walked s.rules id name opened plain ∙ ap (λ (p : Held × Waiting). between p.0 p.1) takes)
    (name_turn s id name opened plain) further)

-- a subcommand takes the words, and has these rows
pub record Takes (s : Shape) (words : List Text) (rows : List Row) : Type 0 where
  pub clean : level_fault s [] nothing_held words false [] ≡ []
  pub rows_are : rows_after s.rules [] words ≡ rows

pub taken : (s : Shape) (words : List Text) (end : Walk) → Walks s (walk_from nothing_held) words end
    → settle_fault s.rules s.args_override_self end.held ≡ [] → defaults_fault (settled s.rules end.held).rows s.rules
    ≡ []
    → check_fault s (finished s.rules end.held) false ≡ [] → Takes s words (finished s.rules end.held)
taken s words end walks settles defaults checks = record {
  clean = ap₂ (λ (ks : Kinds) (v : Walk). or_else ks (or_else (settle_fault s.rules s.args_override_self v.held)
      (or_else (defaults_fault (settled s.rules v.held).rows s.rules) (check_fault s (finished s.rules v.held) false))))
      walks.clean walks.walks
      ∙ ap (λ (ks : Kinds). or_else ks (or_else (defaults_fault (settled s.rules end.held).rows s.rules)
      (check_fault s (finished s.rules end.held) false))) settles
      ∙ ap (λ (ks : Kinds). or_else ks (check_fault s (finished s.rules end.held) false)) defaults ∙ checks;
  rows_are = ap (λ (v : Walk). finished s.rules v.held) walks.walks;
}

-- ---- the subcommand

abbrev stopped_at : Text → List Text → Walk
stopped_at name words = record (walk_from nothing_held) { stopped = Some (name, words) }

-- words behind the subcommand are left to it
left_alone : (s : Shape) (names : Names) (w : Walk) (name : Text) (seen words : List Text)
    → walk_fault s names (record w { stopped = Some (name, seen) }) words ≡ []
unfolding walk_fault walked
left_alone s names w name seen [] = refl
left_alone s names w name seen (word ∷ words) = left_alone s names w name (seen ++ word ∷ []) words

-- what the first word does where it names a subcommand
pub record Enters (a : App) (name : Text) : Type 0 where
  pub walks : walked a.top.rules (names_of a) (walk_from nothing_held) name ≡ stopped_at name []
  pub clean : turn_fault a.top (names_of a) (walk_from nothing_held) name ≡ []
  pub defaults : defaults_fault [] a.top.rules ≡ []

top_walk : (a : App) (name : Text) (words : List Text) → Enters a name
    → walk a.top.rules (names_of a) nothing_held (name ∷ words) ≡ stopped_at name words
top_walk a name words enters =
    ap (λ (v : Walk). fold (walked a.top.rules (names_of a)) v words) enters.walks
    ∙ sym (walk_stopped a.top.rules (names_of a) (walk_from nothing_held) name [] words)

pub entered_rows : (a : App) (name : Text) (words : List Text) → Enters a name
    → entered a (stop_after a.top.rules (names_of a) (name ∷ words)) ≡ entered a (Some (name, words))
entered_rows a name words enters = ap (λ (v : Walk). entered a v.stopped) (top_walk a name words enters)

pub entered_clean : (a : App) (name : Text) (words : List Text) → Enters a name
    → entered_fault a (Some (name, words)) ≡ []
    → check_fault a.top (finished a.top.rules nothing_held) (is_some (entered a (Some (name, words)))) ≡ []
    → built_fault a nothing_held (name ∷ words) ≡ []
unfolding walk_fault
entered_clean a name words enters below checks =
    let over = λ (v : Walk) (ks : Kinds). or_else ks (or_else (entered_fault a v.stopped)
    (or_else (settle_fault a.top.rules a.top.args_override_self v.held)
    (or_else (defaults_fault (settled a.top.rules v.held).rows a.top.rules)
    (check_fault a.top (finished a.top.rules v.held) (is_some (entered a v.stopped)))))) in
    let clean : walk_fault a.top (names_of a) (walk_from nothing_held) (name ∷ words) ≡ [] =
    ap₂ (λ (ks : Kinds) (v : Walk). or_else ks (walk_fault a.top (names_of a) v words)) enters.clean enters.walks
    ∙ left_alone a.top (names_of a) (walk_from nothing_held) name [] words in
    ap₂ over (top_walk a name words enters) clean
    ∙ ap (λ (ks : Kinds). or_else ks (or_else (defaults_fault [] a.top.rules)
    (check_fault a.top (finished a.top.rules nothing_held) (is_some (entered a (Some (name, words))))))) below
    ∙ ap (λ (ks : Kinds). or_else ks (check_fault a.top (finished a.top.rules nothing_held)
    (is_some (entered a (Some (name, words)))))) enters.defaults
    ∙ checks
