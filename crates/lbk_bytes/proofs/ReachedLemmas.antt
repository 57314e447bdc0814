-- How far a call has come, scalar by scalar.
use Rattle.std.proofs.Common.{◌≡◌, ℕ, ◌+◌, ◌<◌, ◌≤◌, true, false, cond, not, Some, List, [], ◌∷◌, ◌++◌, length, map, drop, take, append_assoc, refl, sym, ap, subst, ◌∙◌, arith}
use Rattle.std.specs.Int.{from_bool}
use Rattle.std.proofs.Math.ListN.{set}
use Rattle.std.proofs.lemmas.List.{append-nil, length-append, length-map, length-take-le, map-append, take-set, take_more_set}
use Rattle.bstr.specs.Utf8.{Decoded, decoded, lossy_chars, or_replacement, pieces}
use Rattle.lbk_rules.specs.declared.Break.{Break}
use Rattle.lbk_rules.specs.declared.Cell.{Cell}
use Rattle.lbk_values.specs.declared.profile.Profile.{Profile}
use Rattle.lbk_values.specs.declared.profile.Profile.TheVariants.{First, Second}
use Rattle.lbk_rules.specs.declared.Verdict.{Verdict}
use Rattle.lbk_rules.specs.Breaks.{break_by, is_no}
use Rattle.lbk_rules.specs.FlatTable.{KnowsTaken}
use Rattle.lbk_rules.specs.Marks.{marks, marks_behind}
use Rattle.lbk_rules.specs.Verdict.{verdict_between_in}
use Rattle.lbk_rules.proofs.EndLemmas.{start_of_text}
use Rattle.lbk_bytes.specs.declared.raw_break.RawBreak.{RawBreak}
use Rattle.lbk_bytes.specs.declared.fill_state.FillState.{FillState}
use Rattle.lbk_bytes.specs.Bytes.{breaks_after, with_break}
use Rattle.lbk_bytes.specs.Profiles.{profile_number, profile_numbered}
use Rattle.lbk_bytes.specs.Reached.{Ahead, Reached, onward, onward_to, scalars_of}
use Rattle.lbk_bytes.specs.Shown.{given_in, shown}
use Rattle.lbk_bytes.proofs.PieceLemmas.{piece-within, pieces-on}

pub with_break-more : (at : ℕ) (verdict : Verdict) (more : List Break) → with_break at verdict more ≡ with_break at verdict [] ++ more
with_break-more at verdict more =
    elim (is_no verdict.kind)
    as (λ k. cond k more (break_by at verdict ∷ more) ≡ cond k [] (break_by at verdict ∷ []) ++ more)
    [ true ↦ refl | false ↦ refl ]

-- one more scalar
pub Reached-step : (profile : Profile) (cell : ℕ → Cell) (text : List ℕ) (all : Ahead) (here there : FillState) (given after : List Break)
    (p : Decoded) (verdict : Verdict)
    → decoded (drop here.at text) ≡ p → here.at < length text → there.at ≡ here.at + p.size
    → ((taken : List ℕ) → KnowsTaken cell here.row taken → KnowsTaken cell there.row (taken ++ or_replacement p.char ∷ []))
    → ((taken : List ℕ) → KnowsTaken cell here.row taken
    → verdict ≡ verdict_between_in profile (map cell taken) (cell (or_replacement p.char) ∷ map cell (lossy_chars (drop there.at text))))
    → after ≡ given ++ with_break here.at verdict []
    → Reached profile cell text all here given → Reached profile cell text all there after
Reached-step profile cell text all here there given after p verdict is within moved knows decides grown r =
    let c = or_replacement p.char in
    let rest = pieces (drop there.at text) in
    let on = r.taken ++ c ∷ [] in
    let bounds = piece-within text here.at within in
    let size : (decoded (drop here.at text)).size ≡ p.size = ap (λ (q : Decoded). q.size) is in
    let place : here.at + (decoded (drop here.at text)).size ≡ there.at = ap (λ n. here.at + n) size ∙ sym moved in
    let begins : pieces (drop here.at text) ≡ p ∷ rest =
    pieces-on text here.at within ∙ ap (λ n. decoded (drop here.at text) ∷ pieces (drop n text)) place ∙ ap (λ q. q ∷ rest) is in
    let further = onward_to all.end profile cell on there.at rest in
    let stepped : onward_to all.end profile cell r.taken here.at (p ∷ rest) ≡ with_break here.at verdict further =
    ap (λ v. with_break here.at v (onward_to all.end profile cell on (here.at + p.size) rest)) (sym (decides r.taken r.knows))
    ∙ ap (λ n. with_break here.at verdict (onward_to all.end profile cell on n rest)) (sym moved) in
    let some : 0 < there.at = omega (arith, bounds.0) in
    let longer = length-append r.taken (c ∷ []) in
    record {
      taken = on;
      knows = knows r.taken r.knows;
      some = λ _. omega arith;
      joined =
          r.joined
          ∙ ap (λ ps. given ++ onward_to all.end profile cell r.taken here.at ps) begins
          ∙ ap (λ l. given ++ l) (stepped ∙ with_break-more here.at verdict further)
          ∙ sym (append_assoc given (with_break here.at verdict []) further)
          ∙ ap (λ g. g ++ further) (sym grown);
    }

-- where nothing follows a text
pub Reached-alone : (profile : Profile) (cell : ℕ → Cell) (text : List ℕ) (all : Ahead) (here : FillState) (given : List Break)
    → Reached profile cell (text ++ []) all here given → Reached profile cell text all here given
Reached-alone profile cell text all here given r = subst (λ t. Reached profile cell t all here given) (append-nil text) r

pub Reached-nothing : (profile : Profile) (cell : ℕ → Cell) (text : List ℕ) (all : Ahead) (here : FillState) (given : List Break)
    → Reached profile cell text all here given → Reached profile cell (text ++ []) all here given
Reached-nothing profile cell text all here given r = subst (λ t. Reached profile cell t all here given) (sym (append-nil text)) r

-- a break written behind the others counts where it is one
pub written-more : (block : List RawBreak) (count : ℕ) (found : RawBreak) (at : ℕ) (verdict : Verdict) → count < length block
    → shown found ≡ break_by at verdict
    → given_in (set block count found) (count + from_bool (not (is_no verdict.kind))) ≡ given_in block count ++ with_break at verdict []
written-more block count found at verdict within same =
    elim (is_no verdict.kind)
    as (λ k. given_in (set block count found) (count + from_bool (not k)) ≡ given_in block count ++ cond k [] (break_by at verdict ∷ [])) [
      | true ↦
          ap (λ n. given_in (set block count found) n) (let e : count + 0 ≡ count = omega arith in e)
          ∙ ap (map shown) (take-set block count found) ∙ sym (append-nil (given_in block count))
      | false ↦
          ap (map shown) (take_more_set block count found within)
          ∙ map-append shown (take count block) (found ∷ [])
          ∙ ap (λ b. given_in block count ++ b ∷ []) same
    ]

-- as many breaks were given as were counted
pub given-many : (block : List RawBreak) (count : ℕ) → count ≤ length block → length (given_in block count) ≡ count
given-many block count within = length-map (take count block) shown ∙ length-take-le count block within

-- From the start on

onward-marks : (profile : Profile) (cell : ℕ → Cell) (before : List ℕ) (at : ℕ) (p : Decoded) (ps : List Decoded)
    → breaks_after at (p ∷ ps) (marks_behind profile cell before (scalars_of (p ∷ ps))) ≡ onward profile cell (before ++ or_replacement p.char ∷ []) (at + p.size) ps
onward-marks profile cell before at p [] = refl
onward-marks profile cell before at p (q ∷ qs) =
    let on = before ++ or_replacement p.char ∷ [] in
    let next = at + p.size in
    ap (with_break next (verdict_between_in profile (map cell on) (map cell (scalars_of (q ∷ qs))))) (onward-marks profile cell on next q qs)

pub onward-start : (profile : Profile) (cell : ℕ → Cell) (ps : List Decoded) → breaks_after 0 ps (marks profile cell (scalars_of ps)) ≡ onward profile cell [] 0 ps
onward-start profile cell [] = sym (ap (λ (v : Verdict). with_break 0 v []) (start_of_text profile []))
onward-start profile cell (p ∷ ps) =
    onward-marks profile cell [] 0 p ps
    ∙ sym (ap (λ (v : Verdict). with_break 0 v (onward profile cell (or_replacement p.char ∷ []) (0 + p.size) ps)) (start_of_text profile (map cell (scalars_of (p ∷ ps)))))

pub profile-same : (profile : Profile) → profile_numbered (profile_number profile) ≡ Some profile
profile-same First = refl
profile-same Second = refl
