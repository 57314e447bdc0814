-- One more scalar of a stream.
use Rattle.std.proofs.Common.{◌≡◌, ℕ, ◌==◌, ◌+◌, ◌%◌, ◌^◌, ◌<◌, ◌||◌, ◌&&◌, Bool, true, false, cond, not, Some, None, List, [], ◌∷◌, ◌++◌, get_or, map, reverse, append_assoc, refl, sym, ap, subst, ◌∙◌, arith}
use Rattle.std.specs.Char.{IsScalar}
use Rattle.std.proofs.lemmas.Bool.{and_parts, false≢true}
use Rattle.std.proofs.lemmas.Bool.Decides.{nat_tests}
use Rattle.std.proofs.lemmas.List.{length-append, map-append}
use Rattle.bstr.specs.Utf8.{Decoded, or_replacement}
use Rattle.lbk_rules.specs.declared.Break.{Break}
use Rattle.lbk_rules.specs.declared.Cell.{Cell}
use Rattle.lbk_rules.specs.declared.Class.{Class}
use Rattle.lbk_rules.specs.declared.Class.TheVariants.{CombiningMark, Quotation, ZWJ}
use Rattle.lbk_values.specs.declared.profile.Profile.{Profile}
use Rattle.lbk_values.specs.declared.profile.Profile.TheVariants.{First, Second}
use Rattle.lbk_rules.specs.declared.Verdict.{Verdict}
use Rattle.lbk_rules.specs.Breaks.{break_by, is_no}
use Rattle.lbk_rules.specs.Classes.{QU, closes_before, hard, is, mark}
use Rattle.lbk_rules.specs.Held.{is_15b, is_held}
use Rattle.lbk_rules.specs.Normal.{normal}
use Rattle.lbk_rules.specs.Sides.{leaves_closed}
use Rattle.lbk_rules.specs.Units.{heads, unit, units_after}
use Rattle.lbk_rules.specs.Verdict.{verdict_between_in}
use Rattle.lbk_rules.proofs.EndLemmas.{heads-joins, joins_no_break}
use Rattle.lbk_rules.proofs.HeldLemmas.{is_held-chain}
use Rattle.lbk_rules.specs.declared.steps.Step.{Step}
use Rattle.lbk_rules.specs.declared.neighbours.Neighbours.{Neighbours}
use Rattle.lbk_rules.specs.declared.steps.TheConstants.{HELD}
use Rattle.lbk_rules.specs.FlatTable.{IsFlatBy, KnowsTaken}
use Rattle.lbk_rules.specs.Kinds.{kind_cell, real_kind}
use Rattle.lbk_rules.specs.RowMachineFits.{normals}
use Rattle.lbk_rules.specs.Rows.{IsPlace, IsShown, step_by, steps_in, verdict_shown}
use Rattle.lbk_streams.specs.declared.stream.StreamPosition.{StreamPosition}
use Rattle.lbk_bytes.specs.Bytes.{with_break}
use Rattle.lbk_bytes.specs.Reached.{scalars_of}
use Rattle.lbk_streams.specs.Stands.{Ahead, Stands, Waits, onward_of}
use Rattle.lbk_streams.specs.Streams.{cells_of, late_break}
use Rattle.lbk_bytes.proofs.AheadLemmas.{heads-tells, joins-leaves, told_by}
use Rattle.lbk_bytes.proofs.ReachedLemmas.{with_break-more}
use Rattle.lbk_bytes.proofs.StepLemmas.{decides-apart, decides-closed, decides-first, decides-open, knows-more, steps-here}
use Rattle.lbk_rules.proofs.FlatLemmas.{held-15b}

-- What stands before a position that waits

QU-soft : (class : Class) → QU class ≡ true → hard class ≡ false
unfolding is
QU-soft Quotation _ = refl
QU-soft _ h = absurd (false≢true h)

mark-soft : (class : Class) → mark class ≡ true → hard class ≡ false
unfolding is
mark-soft CombiningMark _ = refl
mark-soft ZWJ _ = refl
mark-soft _ h = absurd (false≢true h)

-- a position that rule 15b decides stands before a quotation mark
held-soft : (cell : ℕ → Cell) (kinds : List ℕ) (pairs : Neighbours) (taken : List ℕ) (row c : ℕ) (other : Step)
    → IsFlatBy kinds pairs cell → KnowsTaken cell row taken → IsScalar c
    → (IsPlace row → other ≡ step_by (steps_in Second) row (get_or kinds c 0)) → other.shown ≡ HELD
    → hard (normal (cell c)).class ≡ false
unfolding is_held
held-soft cell kinds pairs taken row c other flat known scalar is_other held =
    let number = get_or kinds c 0 in
    let kind = real_kind number in
    let same = flat.kinds c scalar in
    let step = steps-here row number (step_by (steps_in First) row number) other known.0 refl (is_other known.0) in
    let left = normals cell taken in
    let at_15b : is_held Second left (kind_cell kind ∷ []) ≡ true =
    is_held-chain Second left (kind_cell kind) []
    ∙ ap (λ (v : Verdict). is_15b v.rule) (sym (step.closes (reverse left) [] (sym known.1) refl))
    ∙ ap (λ n. is_15b (verdict_shown n).rule) held ∙ held-15b in
    let quotes = (and_parts _ _ (and_parts _ _ at_15b).0).0 in
    ap (λ (x : Cell). hard x.class) (sym same) ∙ QU-soft (kind_cell kind).class quotes

-- before a mark that joins a line does not break
mark-no : (profile : Profile) (cell : ℕ → Cell) (taken front : List ℕ) (last c : ℕ) (right : List Cell)
    → taken ≡ front ++ last ∷ [] → hard (normal (cell last)).class ≡ false → mark (normal (cell c)).class ≡ true
    → is_no (verdict_between_in profile (map cell taken) (cell c ∷ right)).kind ≡ true
unfolding normal
mark-no profile cell taken front last c right joined soft is_mark =
    let left = map cell front in
    let split : map cell taken ≡ left ++ cell last ∷ [] = ap (map cell) joined ∙ map-append cell front (last ∷ []) in
    let both : (not (hard (cell last).class) && mark (cell c).class) ≡ true =
    ap (λ b. not b && mark (cell c).class) soft ∙ is_mark in
    let headless : heads (reverse (left ++ cell last ∷ [])) (cell c) ≡ false =
    heads-joins left (cell last) (cell c) ∙ ap not both in
    ap (λ l. is_no (verdict_between_in profile l (cell c ∷ right)).kind) split
    ∙ ap is_no (joins_no_break profile (left ++ cell last ∷ []) (cell c) right headless)

-- The first scalar of some pieces

pub cells-first : (cell : ℕ → Cell) (p : Decoded) (ps : List Decoded) (c : ℕ) → c ≡ or_replacement p.char
    → cells_of cell (p ∷ ps) ≡ normal (cell c) ∷ cells_of cell ps
cells-first cell p ps c is_char = ap (λ x. normal (cell x) ∷ cells_of cell ps) (sym is_char)

onward-first : (all : Ahead) (profile : Profile) (cell : ℕ → Cell) (taken : List ℕ) (at : ℕ) (p : Decoded) (ps : List Decoded) (c size : ℕ)
    → c ≡ or_replacement p.char → size ≡ p.size
    → onward_of all profile cell taken at (p ∷ ps)
    ≡ with_break at (verdict_between_in profile (map cell taken) (cell c ∷ map cell (scalars_of ps)))
    (onward_of all profile cell (taken ++ c ∷ []) (at + size) ps)
onward-first all profile cell taken at p ps c size is_char is_size =
    ap (λ x. with_break at (verdict_between_in profile (map cell taken) (cell x ∷ map cell (scalars_of ps)))
    (onward_of all profile cell (taken ++ x ∷ []) (at + p.size) ps)) (sym is_char)
    ∙ ap (λ n. with_break at (verdict_between_in profile (map cell taken) (cell c ∷ map cell (scalars_of ps)))
    (onward_of all profile cell (taken ++ c ∷ []) (at + n) ps)) (sym is_size)

-- The position that waits

pub late-none : (cell : ℕ → Cell) (place : StreamPosition) (ps : List Decoded) → place.held_code ≡ 0 → late_break cell place ps ≡ []
late-none cell place ps zero =
    ap (λ n. cond (n == 0 || leaves_closed (units_after false (cells_of cell ps))) [] (with_break place.held_at (verdict_shown n) [])) zero

late-some : (cell : ℕ → Cell) (place : StreamPosition) (ps : List Decoded) (closes : Bool) → (place.held_code == 0) ≡ false
    → leaves_closed (units_after false (cells_of cell ps)) ≡ closes
    → late_break cell place ps ≡ cond closes [] (with_break place.held_at (verdict_shown place.held_code) [])
late-some cell place ps closes held is =
    let late = with_break place.held_at (verdict_shown place.held_code) [] in
    ap (λ b. cond (b || leaves_closed (units_after false (cells_of cell ps))) [] late) held ∙ ap (λ b. cond b [] late) is

-- the next scalar decides it
pub Stands-settle : (profile : Profile) (cell : ℕ → Cell) (place : StreamPosition) (p : Decoded) (ps : List Decoded) (all : Ahead) (given after : List Break)
    (c : ℕ) (closes : Bool)
    → c ≡ or_replacement p.char → (place.held_code == 0) ≡ false
    → told_by false (normal (cell c)) ≡ Some closes
    → after ≡ given ++ cond closes [] (with_break place.held_at (verdict_shown place.held_code) [])
    → Stands profile cell place (p ∷ ps) all given
    → Stands profile cell (record { at = place.at; held_at = place.held_at; row = place.row; held_code = 0 }) (p ∷ ps) all after
Stands-settle profile cell place p ps all given after c closes is_char held told grown s =
    let on = onward_of all profile cell s.taken place.at (p ∷ ps) in
    let front = cond closes [] (with_break place.held_at (verdict_shown place.held_code) []) in
    let is : leaves_closed (units_after false (cells_of cell (p ∷ ps))) ≡ closes =
    ap (λ cs. leaves_closed (units_after false cs)) (cells-first cell p ps c is_char)
    ∙ heads-tells false (normal (cell c)) (cells_of cell ps) closes told in
    record {
      taken = s.taken;
      knows = s.knows;
      some = s.some;
      waits = λ more. absurd (omega arith);
      joined =
          s.joined
          ∙ ap (λ l. given ++ (l ++ on)) (late-some cell place (p ∷ ps) closes held is)
          ∙ sym (append_assoc given front on)
          ∙ ap (λ g. g ++ on) (sym grown);
    }

-- a mark that joins leaves it waiting
pub Stands-join : (profile : Profile) (cell : ℕ → Cell) (place next : StreamPosition) (p : Decoded) (ps : List Decoded) (all : Ahead) (given : List Break)
    (c size : ℕ)
    → c ≡ or_replacement p.char → size ≡ p.size → place.at + size < 2 ^ 64
    → 0 < place.held_code → mark (normal (cell c)).class ≡ true
    → next.at ≡ (place.at + size) % 2 ^ 64 → next.held_at ≡ place.held_at → next.held_code ≡ place.held_code
    → ((taken : List ℕ) → KnowsTaken cell place.row taken → KnowsTaken cell next.row (taken ++ c ∷ []))
    → Stands profile cell place (p ∷ ps) all given
    → Stands profile cell next ps all given
Stands-join profile cell place next p ps all given c size is_char is_size fits held is_mark moved held_same code_same knows s =
    let w = s.waits held in
    let at_same : next.at ≡ place.at + size = omega arith in
    let x = normal (cell c) in
    let soft = mark-soft x.class is_mark in
    let told : told_by false x ≡ None = ap (λ b. cond (false || not b) (Some (closes_before (unit x).class)) None) is_mark in
    let closes : leaves_closed (units_after false (cells_of cell (p ∷ ps))) ≡ leaves_closed (units_after false (cells_of cell ps)) =
    ap (λ cs. leaves_closed (units_after false cs)) (cells-first cell p ps c is_char)
    ∙ joins-leaves false x (cells_of cell ps) told
    ∙ ap (λ b. leaves_closed (units_after b (cells_of cell ps))) soft in
    let late : late_break cell place (p ∷ ps) ≡ late_break cell next ps =
    ap (λ b. cond (place.held_code == 0 || b) [] (with_break place.held_at (verdict_shown place.held_code) [])) closes
    ∙ ap (λ n. cond (n == 0 || leaves_closed (units_after false (cells_of cell ps))) [] (with_break place.held_at (verdict_shown n) [])) (sym code_same)
    ∙ ap (λ n. cond (next.held_code == 0 || leaves_closed (units_after false (cells_of cell ps))) [] (with_break n (verdict_shown next.held_code) [])) (sym held_same) in
    let right = map cell (scalars_of ps) in
    let verdict = verdict_between_in profile (map cell s.taken) (cell c ∷ right) in
    let on = onward_of all profile cell (s.taken ++ c ∷ []) (place.at + size) ps in
    let silent : with_break place.at verdict on ≡ on =
    ap (λ b. cond b on (break_by place.at verdict ∷ on)) (mark-no profile cell s.taken w.front w.last c right w.joined w.soft is_mark) in
    record {
      taken = s.taken ++ c ∷ [];
      knows = knows s.taken s.knows;
      some = λ _. omega (arith, length-append s.taken (c ∷ []));
      waits = λ _. record {
        second = w.second;
        coded = subst IsShown (sym code_same) w.coded;
        breaks = ap (λ n. is_no (verdict_shown n).kind) code_same ∙ w.breaks;
        before = (let before = w.before in omega arith);
        front = s.taken;
        last = c;
        joined = refl;
        soft = soft;
      };
      joined =
          s.joined
          ∙ ap (λ l. given ++ (late_break cell place (p ∷ ps) ++ l)) (onward-first all profile cell s.taken place.at p ps c size is_char is_size ∙ silent)
          ∙ ap (λ l. given ++ (l ++ on)) late
          ∙ ap (λ n. given ++ (late_break cell next ps ++ onward_of all profile cell (s.taken ++ c ∷ []) n ps)) (sym at_same);
    }

-- The position before a scalar

same-test : (a b : ℕ) → a ≡ b → (a == b) ≡ true
same-test a b same = grind (arith, nat_tests)

-- a scalar is taken where none waits: of its position this comes now, and this waits
pub Stands-on : (profile : Profile) (cell : ℕ → Cell) (place next : StreamPosition) (p : Decoded) (ps : List Decoded) (all : Ahead) (given front after : List Break)
    (c size : ℕ)
    → c ≡ or_replacement p.char → size ≡ p.size → 0 < size → place.at + size < 2 ^ 64
    → place.held_code ≡ 0 → next.at ≡ (place.at + size) % 2 ^ 64
    → ((taken : List ℕ) → KnowsTaken cell place.row taken → KnowsTaken cell next.row (taken ++ c ∷ []))
    → ((taken : List ℕ) → KnowsTaken cell place.row taken
    → front ++ late_break cell next ps
    ≡ with_break place.at (verdict_between_in profile (map cell taken) (cell c ∷ map cell (scalars_of ps))) [])
    → ((taken : List ℕ) → KnowsTaken cell place.row taken → place.at < next.at → 0 < next.held_code → Waits profile cell (taken ++ c ∷ []) next)
    → after ≡ given ++ front
    → Stands profile cell place (p ∷ ps) all given
    → Stands profile cell next ps all after
Stands-on profile cell place next p ps all given front after c size is_char is_size some fits none_waits moved knows decides waits grown s =
    let at_same : next.at ≡ place.at + size = omega arith in
    let verdict = verdict_between_in profile (map cell s.taken) (cell c ∷ map cell (scalars_of ps)) in
    let late = late_break cell next ps in
    let on = onward_of all profile cell (s.taken ++ c ∷ []) (place.at + size) ps in
    record {
      taken = s.taken ++ c ∷ [];
      knows = knows s.taken s.knows;
      some = λ _. omega (arith, length-append s.taken (c ∷ []));
      waits = waits s.taken s.knows (omega arith);
      joined =
          s.joined
          ∙ ap (λ l. given ++ (l ++ onward_of all profile cell s.taken place.at (p ∷ ps))) (late-none cell place (p ∷ ps) none_waits)
          ∙ ap (λ l. given ++ l) (onward-first all profile cell s.taken place.at p ps c size is_char is_size ∙ with_break-more place.at verdict on
          ∙ ap (λ l. l ++ on) (sym (decides s.taken s.knows)) ∙ append_assoc front late on)
          ∙ sym (append_assoc given front (late ++ on))
          ∙ ap (λ g. g ++ (late ++ on)) (sym grown)
          ∙ ap (λ n. after ++ (late ++ onward_of all profile cell (s.taken ++ c ∷ []) n ps)) (sym at_same);
    }

-- the row that a step leads to
pub knows-next : (cell : ℕ → Cell) (kinds : List ℕ) (pairs : Neighbours) (row c : ℕ) (one : Step) → IsFlatBy kinds pairs cell → IsScalar c
    → (IsPlace row → one ≡ step_by (steps_in First) row (get_or kinds c 0))
    → (taken : List ℕ) → KnowsTaken cell row taken → KnowsTaken cell one.next (taken ++ c ∷ [])
knows-next cell kinds pairs row c one flat scalar is_one taken known =
    let number = get_or kinds c 0 in
    let step = steps-here row number one (step_by (steps_in Second) row number) known.0 (is_one known.0) refl in
    knows-more cell row one.next c (real_kind number) (flat.kinds c scalar) step.begins step.leads taken known

-- the number of a verdict by which no line breaks
silent-code : (at code : ℕ) → is_no (verdict_shown code).kind ≡ true → with_break at (verdict_shown code) [] ≡ []
silent-code at code none = ap (λ b. cond b [] (break_by at (verdict_shown code) ∷ [])) none

-- so it is by rule 15b
silent-held : (at code : ℕ) → code ≡ HELD → with_break at (verdict_shown code) [] ≡ []
unfolding verdict_shown
silent-held at code held = silent-code at code (ap (λ n. is_no (verdict_shown n).kind) held)

-- the number of a verdict by which a line breaks is not 0
loud-code : (code : ℕ) → is_no (verdict_shown code).kind ≡ false → (code == 0) ≡ false
unfolding verdict_shown
loud-code code loud =
    elim (code == 0) as (λ b. (code == 0) ≡ b → b ≡ false) [
      | true ↦ λ same.
          let first : code ≡ 0 = grind (arith, nat_tests) in
          absurd (false≢true (sym loud ∙ ap (λ n. is_no (verdict_shown n).kind) first))
      | false ↦ λ apart. refl
    ] refl

-- what a number decides that waits for nothing
pub decides-now : (profile : Profile) (cell : ℕ → Cell) (kinds : List ℕ) (pairs : Neighbours) (taken : List ℕ) (at row c : ℕ) (one other : Step)
    (right : List Cell)
    → IsFlatBy kinds pairs cell → KnowsTaken cell row taken → IsScalar c
    → (IsPlace row → one ≡ step_by (steps_in First) row (get_or kinds c 0))
    → (IsPlace row → other ≡ step_by (steps_in profile) row (get_or kinds c 0))
    → (profile ≡ Second → other.shown ≡ HELD → is_no (verdict_shown one.shown).kind ≡ true)
    → with_break at (verdict_shown other.shown) [] ≡ with_break at (verdict_between_in profile (map cell taken) (cell c ∷ right)) []
decides-now First cell kinds pairs taken at row c one other right flat known scalar is_one is_other quiet =
    ap (λ (v : Verdict). with_break at v []) (decides-first kinds cell taken row c other right flat.kinds known scalar (is_other known.0))
decides-now Second cell kinds pairs taken at row c one other right flat known scalar is_one is_other quiet =
    (elim (other.shown == HELD)
    as (λ b. (other.shown == HELD) ≡ b
    → with_break at (verdict_shown other.shown) [] ≡ with_break at (verdict_between_in Second (map cell taken) (cell c ∷ right)) []) [
      | true ↦ λ same.
          let held : other.shown ≡ HELD = grind (arith, nat_tests) in
          let none : with_break at (verdict_shown other.shown) [] ≡ [] = silent-held at other.shown held in
          (elim (leaves_closed (units_after (hard (normal (cell c)).class) (map normal right)))
          as (λ b. leaves_closed (units_after (hard (normal (cell c)).class) (map normal right)) ≡ b
          → with_break at (verdict_shown other.shown) [] ≡ with_break at (verdict_between_in Second (map cell taken) (cell c ∷ right)) []) [
            | true ↦ λ closed.
                ap (λ (v : Verdict). with_break at v [])
                (decides-closed kinds cell taken row c other right flat.kinds known scalar (is_other known.0) closed)
            | false ↦ λ stays.
                none ∙ sym (silent-code at one.shown (quiet refl held))
                ∙ ap (λ (v : Verdict). with_break at v [])
                (decides-open kinds cell taken row c one other right flat.kinds known scalar (is_one known.0) (is_other known.0) held stays)
          ]) refl
      | false ↦ λ apart.
          let unheld : ¬ (other.shown ≡ HELD) = λ held. absurd (false≢true (sym apart ∙ same-test other.shown HELD held)) in
          ap (λ (v : Verdict). with_break at v [])
          (decides-apart kinds cell taken row c other right flat.kinds known scalar (is_other known.0) unheld)
    ]) refl

-- what waits where rule 15b decides
pub decides-late : (cell : ℕ → Cell) (kinds : List ℕ) (pairs : Neighbours) (taken : List ℕ) (place next : StreamPosition) (ps : List Decoded) (c : ℕ) (one other : Step)
    → IsFlatBy kinds pairs cell → KnowsTaken cell place.row taken → IsScalar c
    → (IsPlace place.row → one ≡ step_by (steps_in First) place.row (get_or kinds c 0))
    → (IsPlace place.row → other ≡ step_by (steps_in Second) place.row (get_or kinds c 0))
    → other.shown ≡ HELD → is_no (verdict_shown one.shown).kind ≡ false → next.held_at ≡ place.at → next.held_code ≡ one.shown
    → late_break cell next ps
    ≡ with_break place.at (verdict_between_in Second (map cell taken) (cell c ∷ map cell (scalars_of ps))) []
decides-late cell kinds pairs taken place next ps c one other flat known scalar is_one is_other held breaks held_same code_same =
    let right = map cell (scalars_of ps) in
    let soft = held-soft cell kinds pairs taken place.row c other flat known scalar is_other held in
    let some : (next.held_code == 0) ≡ false = ap (λ n. n == 0) code_same ∙ loud-code one.shown breaks in
    let same : with_break next.held_at (verdict_shown next.held_code) [] ≡ with_break place.at (verdict_shown one.shown) [] =
    ap (λ n. with_break n (verdict_shown next.held_code) []) held_same ∙ ap (λ n. with_break place.at (verdict_shown n) []) code_same in
    (elim (leaves_closed (units_after false (cells_of cell ps)))
    as (λ b. leaves_closed (units_after false (cells_of cell ps)) ≡ b
    → late_break cell next ps ≡ with_break place.at (verdict_between_in Second (map cell taken) (cell c ∷ right)) []) [
      | true ↦ λ is.
          let closed = ap (λ b. leaves_closed (units_after b (cells_of cell ps))) soft ∙ is in
          let decided = decides-closed kinds cell taken place.row c other right flat.kinds known scalar (is_other known.0) closed in
          late-some cell next ps true some is ∙ sym (silent-held place.at other.shown held)
          ∙ ap (λ (v : Verdict). with_break place.at v []) decided
      | false ↦ λ is.
          let stays = ap (λ b. leaves_closed (units_after b (cells_of cell ps))) soft ∙ is in
          let decided = decides-open kinds cell taken place.row c one other right flat.kinds known scalar (is_one known.0) (is_other known.0) held stays in
          late-some cell next ps false some is ∙ same ∙ ap (λ (v : Verdict). with_break place.at v []) decided
    ]) refl

-- that it waits
pub waits-now : (cell : ℕ → Cell) (kinds : List ℕ) (pairs : Neighbours) (taken : List ℕ) (place next : StreamPosition) (c : ℕ) (one other : Step)
    → IsFlatBy kinds pairs cell → KnowsTaken cell place.row taken → IsScalar c
    → (IsPlace place.row → one ≡ step_by (steps_in First) place.row (get_or kinds c 0))
    → (IsPlace place.row → other ≡ step_by (steps_in Second) place.row (get_or kinds c 0))
    → other.shown ≡ HELD → is_no (verdict_shown one.shown).kind ≡ false → next.held_at ≡ place.at → next.held_code ≡ one.shown → place.at < next.at
    → Waits Second cell (taken ++ c ∷ []) next
waits-now cell kinds pairs taken place next c one other flat known scalar is_one is_other held shows_break held_same code_same onward = record {
  second = refl;
  breaks = ap (λ n. is_no (verdict_shown n).kind) code_same ∙ shows_break;
  coded = subst IsShown (sym code_same) (steps-here place.row (get_or kinds c 0) one other known.0 (is_one known.0) (is_other known.0)).shows.0;
  before = omega arith;
  front = taken;
  last = c;
  joined = refl;
  soft = held-soft cell kinds pairs taken place.row c other flat known scalar is_other held;
}
