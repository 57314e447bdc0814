-- The breaks of a block of bytes, all at once.
use Rattle.std.proofs.Common.{◌≡◌, ◌⊎◌, ℕ, zero, suc, ◌+◌, ◌-◌, ◌^◌, ◌<◌, ◌≤◌, ◌&&◌, ◌||◌, true, false, cond, not, leb, List, [], ◌∷◌, ◌++◌, length, map, append-nil, refl, sym, ap, ap₂, subst, ◌∙◌, ⊎_elim, arith}
use Rattle.std.proofs.lemmas.Bool.{and_left, cases_lt, eq-eqb, le-leb, lt-leb}
use Rattle.std.proofs.lemmas.List.{length-map, take_all}
use Rattle.lbk_masks.specs.Sets.{is_set}
use Rattle.lbk_rules.specs.declared.Break.{Break}
use Rattle.lbk_rules.specs.declared.Cell.{Cell}
use Rattle.lbk_rules.specs.declared.Verdict.{Verdict}
use Rattle.lbk_rules.specs.declared.steps.Step.{Step}
use Rattle.lbk_rules.specs.declared.neighbours.Neighbours.{Neighbours}
use Rattle.lbk_values.specs.declared.profile.Profile.{Profile}
use Rattle.lbk_rules.specs.Breaks.{break_by, is_no}
use Rattle.lbk_rules.specs.FlatTable.{AreFlatKinds}
use Rattle.lbk_rules.specs.Neighbours.{AreTold, step_behind}
use Rattle.lbk_rules.specs.Rows.{IsPlace, steps_in, verdict_shown}
use Rattle.lbk_bytes.specs.declared.fill_state.FillState.{FillState}
use Rattle.lbk_masks.specs.Bits.{AreKeptBelow, AreKeptFrom}
use Rattle.lbk_bytes.specs.declared.block_marks.Marks.{Marks}
use Rattle.lbk_bytes.specs.Blocks.{AreMarks, IsBlock, IsByteTold, byte_at, place_at, row_before, stands_at}
use Rattle.lbk_bytes.specs.Bytes.{with_break}
use Rattle.lbk_bytes.specs.Marking.{AreBelow, AreClear, AreFrom, Marked, MarksOn}
use Rattle.lbk_bytes.specs.Marks.{is_marked, stands_among}
use Rattle.lbk_bytes.specs.Reached.{Ahead, Reached}
use Rattle.lbk_bytes.specs.Shown.{given_in, raw_of, shown}
use Rattle.lbk_bytes.proofs.BlockScalarLemmas.{arrive, begins-or, depart, end-low, scalar-more, stay}
use Rattle.lbk_bytes.proofs.MarkBitLemmas.{none-past}
use Rattle.lbk_bytes.proofs.MarkLemmas.{among-append, below-append, below-none, below-wider, break-below, or-false}
use Rattle.lbk_bytes.proofs.MarkPlaceLemmas.{break-from, from-none, from-wider}
use Rattle.lbk_bytes.proofs.ShownLemmas.{shown-raw}
use Rattle.lbk_bytes.proofs.StepLemmas.{told-as}

-- A list of breaks as the front of a block

shown-all : (given : List Break) → map shown (map raw_of given) ≡ given
shown-all [] = refl
shown-all (b ∷ bs) = ap₂ ◌∷◌ (shown-raw b) (shown-all bs)

as-given : (given : List Break) → given_in (map raw_of given) (length given) ≡ given
as-given given =
    ap (map shown) (take_all (length given) (map raw_of given) (let same = length-map given raw_of in omega arith)) ∙ shown-all given

-- a state counts what it will
pub recount : (profile : Profile) (cell : ℕ → Cell) (text : List ℕ) (all : Ahead) (here there : FillState) (given same : List Break)
    → there.row ≡ here.row → there.at ≡ here.at → given ≡ same
    → Reached profile cell text all here given → Reached profile cell text all there same
recount profile cell text all here there given same is_row is_at is r =
    subst (λ g. Reached profile cell text all there g) is
    (subst (λ n. Reached profile cell text all (record { count = there.count; row = n; at = there.at }) given) (sym is_row)
    (subst (λ n. Reached profile cell text all (record { count = there.count; row = here.row; at = n }) given) (sym is_at)
    (record { taken = r.taken; knows = r.knows; some = r.some; joined = r.joined })))

-- the break of one place
among-one : (at : ℕ) (verdict : Verdict) → stands_among at (with_break at verdict []) ≡ not (is_no verdict.kind)
among-one at verdict =
    elim (is_no verdict.kind)
    as (λ no. stands_among at (cond no [] (break_by at verdict ∷ [])) ≡ not no)
    [ true ↦ refl | false ↦ ap (λ b. b || false) (eq-eqb at at refl) ]

from-append : (place : ℕ) (xs ys : List Break) → AreFrom place xs → AreFrom place ys → AreFrom place (xs ++ ys)
from-append place [] ys from also = also
from-append place (b ∷ bs) ys from also = (from.0, from-append place bs ys from.1 also)

-- the first bytes of a block were taken, and these are their breaks
pub record Taken (profile : Profile) (cell : ℕ → Cell) (text : List ℕ) (all : Ahead) (pairs : Neighbours) (front : List ℕ) (at n : ℕ) : Type 0 where
  pub given : List Break
  pub reached : Reached profile cell text all (place_at pairs front 0 (at + n)) given
  pub from : AreFrom at given
  pub below : AreBelow (at + n) given
  pub told : (i : ℕ) → i < n → stands_among (at + i) given ≡ stands_at pairs front (at + i)

none-taken : (profile : Profile) (cell : ℕ → Cell) (text more : List ℕ) (all : Ahead) (pairs : Neighbours) (at : ℕ)
    → Reached profile cell (text ++ more) all (place_at pairs text 0 at) [] → Taken profile cell (text ++ more) all pairs text at 0
none-taken profile cell text more all pairs at r = record {
  given = [];
  reached = subst (λ n. Reached profile cell (text ++ more) all (place_at pairs text 0 n) []) (let e : at ≡ at + 0 = omega arith in e) r;
  from = tt;
  below = tt;
  told = λ i h. absurd (omega arith);
}

-- a byte more, of which these are the breaks before it
byte-taken : (profile : Profile) (cell : ℕ → Cell) (text : List ℕ) (all : Ahead) (pairs : Neighbours) (front : List ℕ) (at n : ℕ) (more : List Break)
    → (t : Taken profile cell text all pairs front at n)
    → Reached profile cell text all (place_at pairs front 0 (at + n + 1)) (t.given ++ more)
    → AreFrom (at + n) more → AreBelow (at + n + 1) more → stands_among (at + n) more ≡ stands_at pairs front (at + n)
    → Taken profile cell text all pairs front at (suc n)
byte-taken profile cell text all pairs front at n more t r from below told =
    let next : at + n + 1 ≡ at + suc n = omega arith in
    record {
      given = t.given ++ more;
      reached = subst (λ p. Reached profile cell text all (place_at pairs front 0 p) (t.given ++ more)) next r;
      from = from-append at t.given more t.from (from-wider at (at + n) more (omega arith) from);
      below = subst (λ p. AreBelow p (t.given ++ more)) next
          (below-append (at + n + 1) t.given more (below-wider (at + n) (at + n + 1) t.given (omega arith) t.below) below);
      told = λ i h.
          among-append (at + i) t.given more
          ∙ ⊎_elim
          (λ (before : i < n).
          or-false (stands_among (at + i) t.given) (stands_among (at + i) more) (from-none (at + n) (at + i) more from (omega arith)) ∙ t.told i before)
          (λ (last : n ≤ i).
          let same : n ≡ i = omega arith in
          subst (λ j. (stands_among (at + j) t.given || stands_among (at + j) more) ≡ stands_at pairs front (at + j)) same
          (ap (λ b. b || stands_among (at + n) more) (below-none (at + n) (at + n) t.given t.below (omega arith)) ∙ told))
          (cases_lt i n);
    }

-- the next byte of a block: it begins a scalar, whose break is the one that its sets tell, or goes on with one
one-taken : (profile : Profile) (cell : ℕ → Cell) (text more : List ℕ) (all : Ahead) (steps : List (List Step)) (kinds : List ℕ) (pairs : Neighbours) (at taken n : ℕ)
    → at + taken ≤ length text → IsBlock profile cell steps kinds pairs text at 0 taken → n < taken
    → Taken profile cell (text ++ more) all pairs text at n → Taken profile cell (text ++ more) all pairs text at (suc n)
one-taken profile cell text more all steps kinds pairs at taken n room block inside t =
    let place = at + n in
    let whole = text ++ more in
    let told = block.told n (omega arith) inside in
    let few = block.few in
    ⊎_elim
    (λ (begins : (byte_at text place < 128) ⊎ (192 ≤ byte_at text place)).
    let step = step_behind steps kinds pairs (byte_at text (place - 1)) (byte_at text place) in
    let verdict = verdict_shown step.shown in
    let given = t.given ++ with_break place verdict [] in
    let start = recount profile cell whole all (place_at pairs text 0 place) (place_at pairs text (length t.given) place) t.given (given_in (map raw_of t.given) (length t.given))
    refl refl (sym (as-given t.given)) t.reached in
    let next = scalar-more profile cell text more all steps kinds pairs (map raw_of t.given) (map raw_of given) (length t.given) (length given) place
    block.steps_are block.kinds_are (omega arith) begins told
    (as-given given ∙ ap (λ l. l ++ with_break place verdict []) (sym (as-given t.given))) start in
    byte-taken profile cell whole all pairs text at n (with_break place verdict []) t
    (recount profile cell whole all (place_at pairs text (length given) (place + 1)) (place_at pairs text 0 (place + 1)) (given_in (map raw_of given) (length given)) given refl refl (as-given given) next)
    (break-from place place verdict [] (omega arith) tt) (break-below (place + 1) place verdict (omega arith))
    (among-one place verdict ∙ sym (told.settled begins).1.breaks))
    (λ (last : (128 ≤ byte_at text place) × (byte_at text place < 192)).
    let quiet = told.quiet last.0 last.1 in
    let start = recount profile cell whole all (place_at pairs text 0 place) (place_at pairs text (length t.given) place) t.given (given_in (map raw_of t.given) (length t.given))
    refl refl (sym (as-given t.given)) t.reached in
    let next = stay profile cell text more all pairs (map raw_of t.given) (length t.given) place quiet.0 last.1 start in
    byte-taken profile cell whole all pairs text at n [] t
    (recount profile cell whole all (place_at pairs text (length t.given) (place + 1)) (place_at pairs text 0 (place + 1)) (given_in (map raw_of t.given) (length t.given)) (t.given ++ []) refl refl
    (as-given t.given ∙ sym (append-nil t.given)) next)
    tt tt (sym quiet.1))
    (begins-or (byte_at text place))

many-taken : (profile : Profile) (cell : ℕ → Cell) (text more : List ℕ) (all : Ahead) (steps : List (List Step)) (kinds : List ℕ) (pairs : Neighbours) (at taken n : ℕ)
    → at + taken ≤ length text → IsBlock profile cell steps kinds pairs text at 0 taken → n ≤ taken
    → Reached profile cell (text ++ more) all (place_at pairs text 0 at) []
    → Taken profile cell (text ++ more) all pairs text at n
many-taken profile cell text more all steps kinds pairs at taken zero room block inside r = none-taken profile cell text more all pairs at r
many-taken profile cell text more all steps kinds pairs at taken (suc n) room block inside r =
    one-taken profile cell text more all steps kinds pairs at taken n room block (omega arith)
    (many-taken profile cell text more all steps kinds pairs at taken n room block (omega arith) r)

-- the bytes of a block from one on are a block, too
pub block-from : (profile : Profile) (cell : ℕ → Cell) (steps : List (List Step)) (kinds : List ℕ) (pairs : Neighbours) (text : List ℕ) (at begin taken : ℕ)
    → begin ≤ taken → IsBlock profile cell steps kinds pairs text at begin taken → IsBlock profile cell steps kinds pairs text (at + begin) 0 (taken - begin)
block-from profile cell steps kinds pairs text at begin taken some block =
    let same : at + taken ≡ at + begin + (taken - begin) = omega arith in
    record {
      steps_are = block.steps_are;
      kinds_are = block.kinds_are;
      few = (let few = block.few in omega arith);
      within = (let within = block.within in omega arith);
      told = λ i after h.
          subst (IsByteTold steps kinds pairs text) (let e : at + (begin + i) ≡ at + begin + i = omega arith in e) (block.told (begin + i) (omega arith) (omega arith));
      ends = subst (λ p. byte_at text (p - 1) < 192) same block.ends;
    }

-- the bits of a block from one on are those of its breaks
pub record BlockTaken (profile : Profile) (cell : ℕ → Cell) (text : List ℕ) (all : Ahead) (pairs : Neighbours) (front : List ℕ) (at taken kept : ℕ) : Type 0 where
  pub given : List Break
  pub reached : Reached profile cell text all (record { count = 0; row = row_before pairs front (at + taken); at = at + taken }) given
  pub below : AreBelow (at + taken) given
  pub bits : (from i : ℕ) → from ≤ at → kept < 2 ^ 64 → (leb (at - from) i && is_set kept (i - (at - from))) ≡ stands_among (from + i) given

pub block-taken : (profile : Profile) (cell : ℕ → Cell) (text more : List ℕ) (all : Ahead) (steps : List (List Step)) (kinds : List ℕ) (pairs : Neighbours) (row at begin taken standing since kept : ℕ)
    → begin ≤ taken → IsBlock profile cell steps kinds pairs text at begin taken
    → ((i : ℕ) → i < taken → is_set standing i ≡ stands_at pairs text (at + i)) → AreKeptFrom begin standing since → AreKeptBelow taken since kept
    → row ≡ row_before pairs text (at + begin) → byte_at text (at + begin - 1) < 192
    → Reached profile cell (text ++ more) all (record { count = 0; row = row; at = at + begin }) []
    → BlockTaken profile cell (text ++ more) all pairs text at taken kept
block-taken profile cell text more all steps kinds pairs row at begin taken standing since kept some block stands are_since are_kept is_row low r =
    let here = at + begin in
    let left = taken - begin in
    let room = block.within in
    let begun = arrive profile cell text more all pairs [] 0 row here here is_row (end-low text here low) r in
    let t = many-taken profile cell text more all steps kinds pairs here left left (omega arith)
    (block-from profile cell steps kinds pairs text at begin taken some block) (omega arith) begun in
    let few = block.few in
    let place = at + taken in
    let whole : here + left ≡ place = omega arith in
    let reached = subst (λ n. Reached profile cell (text ++ more) all (place_at pairs text 0 n) t.given) whole t.reached in
    let below = subst (λ n. AreBelow n t.given) whole t.below in
    let start = recount profile cell (text ++ more) all (place_at pairs text 0 place) (place_at pairs text (length t.given) place) t.given (given_in (map raw_of t.given) (length t.given))
    refl refl (sym (as-given t.given)) reached in
    let gone = depart profile cell text more all pairs (map raw_of t.given) (length t.given) place place (end-low text place block.ends) start in
    record {
      given = t.given;
      reached = recount profile cell (text ++ more) all (record { count = length t.given; row = row_before pairs text place; at = place }) (record { count = 0; row = row_before pairs text place; at = place })
          (given_in (map raw_of t.given) (length t.given)) t.given refl refl (as-given t.given) gone;
      below = below;
      bits = λ from i after fits.
          ⊎_elim
          (λ (before : i < at - from).
          and_left (leb (at - from) i) (is_set kept (i - (at - from))) (lt-leb (at - from) i before) ∙ sym (from-none here (from + i) t.given t.from (omega arith)))
          (λ (behind : at - from ≤ i).
          let k = i - (at - from) in
          let same : at + k ≡ from + i = omega arith in
          ap (λ b. b && is_set kept k) (le-leb (at - from) i behind)
          ∙ ⊎_elim
          (λ (inside : k < taken).
          are_kept.same k inside
          ∙ ⊎_elim
          (λ (earlier : k < begin). are_since.none k earlier ∙ sym (from-none here (from + i) t.given t.from (omega arith)))
          (λ (later : begin ≤ k).
          let on : here + (k - begin) ≡ at + k = omega arith in
          are_since.same k later (omega arith) ∙ stands k inside
          ∙ sym (subst (λ p. stands_among p t.given ≡ stands_at pairs text p) on (t.told (k - begin) (omega arith)))
          ∙ ap (λ p. stands_among p t.given) same)
          (cases_lt k begin))
          (λ (outside : taken ≤ k).
          none-from kept taken k fits are_kept.none outside ∙ sym (below-none place (from + i) t.given below (omega arith)))
          (cases_lt k taken))
          (cases_lt i (at - from));
    }
  where
    none-from : (kept taken k : ℕ) → kept < 2 ^ 64 → ((i : ℕ) → taken ≤ i → i < 64 → is_set kept i ≡ false) → taken ≤ k → is_set kept k ≡ false
    none-from kept taken k fits none outside = ⊎_elim (λ (few : k < 64). none k outside few) (λ (past : 64 ≤ k). none-past kept k fits past) (cases_lt k 64)

-- Some bytes after others

pub marks-on : {kinds : List ℕ} {pairs : Neighbours} {steps : List (List Step)} {text : List ℕ} {from : ℕ} {old mid new : List ℕ} {start here there : FillState}
    → MarksOn kinds pairs steps text from old start mid here → MarksOn kinds pairs steps text from mid here new there
    → MarksOn kinds pairs steps text from old start new there
marks-on first next = record {
  within = (next.within.0, omega (arith, first.within.1, next.within.1), next.within.2);
  none = λ clear. next.none (first.none clear);
  marked = λ profile cell more all swift flat begun. next.marked profile cell more all swift flat (first.marked profile cell more all swift flat begun);
}

-- bytes of a block that are taken by its marks
pub masked-on : (kinds : List ℕ) (pairs told : Neighbours) (steps : List (List Step)) (text : List ℕ) (from at : ℕ) (marks : Marks) (old new : List ℕ) (here there : FillState)
    → told ≡ pairs → IsPlace there.row × (here.at ≤ there.at) × (there.at ≤ length text)
    → ((i : ℕ) → there.at ≤ from + i → is_marked new i ≡ is_marked old i)
    → AreMarks told text at marks
    → ((profile : Profile) (cell : ℕ → Cell) (steps : List (List Step)) (kinds : List ℕ) (more : List ℕ) (all : Ahead) → steps ≡ steps_in profile
    → AreFlatKinds kinds cell → AreTold steps kinds told → AreMarks told text at marks
    → Marked profile cell (text ++ more) all from (length text) here old
    → Marked profile cell (text ++ more) all from (length text) there new)
    → MarksOn kinds pairs steps text from old here new there
masked-on kinds pairs told steps text from at marks old new here there same within after are_marks marked = record {
  within = within;
  none = λ clear i past. after i past ∙ clear i (omega (arith, within.1));
  marked = λ profile cell more all swift flat.
      marked profile cell steps kinds more all swift flat.kinds (told-as profile kinds pairs told cell steps flat same swift) are_marks;
}

-- bytes that are taken by steps
pub stepped-on : (kinds : List ℕ) (pairs : Neighbours) (steps : List (List Step)) (text : List ℕ) (from : ℕ) (old new : List ℕ) (here there : FillState)
    → IsPlace there.row × (here.at ≤ there.at) × (there.at ≤ length text)
    → (AreClear from here.at old → AreClear from there.at new)
    → ((profile : Profile) (cell : ℕ → Cell) (more : List ℕ) (all : Ahead) → steps ≡ steps_in profile → AreFlatKinds kinds cell
    → Marked profile cell (text ++ more) all from (length text) here old
    → Marked profile cell (text ++ more) all from (length text) there new)
    → MarksOn kinds pairs steps text from old here new there
stepped-on kinds pairs steps text from old new here there within none marked = record {
  within = within;
  none = none;
  marked = λ profile cell more all swift flat. marked profile cell more all swift flat.kinds;
}
