-- Where the last line of a text begins, as a call finds it from a cut on.
use Rattle.std.proofs.Common.{◌≡◌, ◌⊎◌, inl, inr, ℕ, zero, suc, ◌+◌, ◌-◌, ◌<◌, ◌≤◌, false, true, ◌&&◌, not, true≢false, lit<, Some, List, [], ◌∷◌, ◌++◌, if◌then◌else◌, length, drop, take, map, refl, sym, ap, ap₂, subst, ◌∙◌, arith}
use Rattle.std.proofs.lemmas.Bool.{false≢true}
use Rattle.std.proofs.lemmas.List.{append_assoc, drop_all, map-append}
use Rattle.std.proofs.Math.Logic.{⊎_elim}
use Rattle.bstr.specs.Utf8.{Decoded, decoded, or_replacement, pieces}
use Rattle.bstr.proofs.lemmas.PieceLemmas.{pieces-nil}
use Rattle.lbk_rules.specs.declared.Break.{Break}
use Rattle.lbk_rules.specs.declared.Cell.{Cell}
use Rattle.lbk_rules.specs.declared.Verdict.{Verdict}
use Rattle.lbk_values.specs.declared.profile.Profile.{Profile}
use Rattle.lbk_rules.specs.Breaks.{break_by, is_no}
use Rattle.lbk_rules.specs.Classes.{CR, LF}
use Rattle.lbk_rules.specs.Ends.{end_after, ends_line}
use Rattle.lbk_rules.specs.FlatTable.{KnowsTaken}
use Rattle.lbk_rules.specs.Joins.{moved, must_end_between}
use Rattle.lbk_rules.specs.Rows.{verdict_shown}
use Rattle.lbk_rules.specs.Verdict.{verdict_between_in}
use Rattle.lbk_rules.proofs.EndLemmas.{must_at_end}
use Rattle.lbk_rules.proofs.FlatLemmas.{left-start}
use Rattle.lbk_rules.proofs.JoinLemmas.{map-moved-none}
use Rattle.lbk_bytes.specs.declared.deciding.Decided.{Decided}
use Rattle.lbk_bytes.specs.Bytes.{breaks_of_bytes, open_end, with_break}
use Rattle.lbk_bytes.specs.Decided.{IsUnitDecided, on_from}
use Rattle.lbk_bytes.specs.Profiles.{profile_number, profile_numbered}
use Rattle.lbk_bytes.specs.Reached.{onward, scalars_of}
use Rattle.lbk_bytes.proofs.BlockLemmas.{order}
use Rattle.lbk_bytes.proofs.PartLemmas.{part-onward}
use Rattle.lbk_bytes.proofs.PieceLemmas.{pieces-on}
use Rattle.lbk_bytes.proofs.ReachedLemmas.{profile-same}
use Rattle.lbk_units.specs.Units.{breaks_of_pieces, units_of}
use Rattle.lbk_units.proofs.UnitLemmas.{units-sizes}
use Rattle.lbk_streams.specs.Cuts.{EndsBefore, IsCutBefore, IsSafeCut, JoinsAt}
use Rattle.lbk_streams.proofs.PieceStartLemmas.{sizes-front}
use Rattle.lbk_c.specs.SafeBreaks.{IsSafeBreak, last_line}
use Rattle.lbk_c.proofs.AfterLemmas.{after-break, onward-first}

-- Lines of a list of breaks

last-more : (at : ℕ) (here : Break) (more : List Break) → 0 < length more → last_line at (here ∷ more) ≡ last_line here.at more
last-more at here [] some = absurd (omega arith)
last-more at here (end ∷ more) some = refl

last-behind : (at : ℕ) (front : List Break) (here : Break) (more : List Break) → 0 < length more → last_line at (front ++ here ∷ more) ≡ last_line here.at more
last-behind at [] here more some = last-more at here more some
last-behind at (b ∷ []) here more some = last-more b.at here more some
last-behind at (b ∷ c ∷ front) here more some = last-behind b.at (c ∷ front) here more some

-- the last line begins at one of the breaks
record BeginsAt (at : ℕ) (breaks : List Break) : Type 0 where
  front : List Break
  here : Break
  back : List Break
  are : breaks ≡ front ++ here ∷ back
  begins : last_line at breaks ≡ here.at

begins-at : (at : ℕ) (breaks : List Break) → (last_line at breaks ≡ at) ⊎ BeginsAt at breaks
begins-at at [] = inl refl
begins-at at (end ∷ []) = inl refl
begins-at at (b ∷ c ∷ breaks) =
    ⊎_elim (λ (first : last_line b.at (c ∷ breaks) ≡ b.at).
    (let there : BeginsAt at (b ∷ c ∷ breaks) = record { front = []; here = b; back = c ∷ breaks; are = refl; begins = first } in
    let either : (last_line at (b ∷ c ∷ breaks) ≡ at) ⊎ BeginsAt at (b ∷ c ∷ breaks) = inr there in either))
    (λ (later : BeginsAt b.at (c ∷ breaks)).
    (let there : BeginsAt at (b ∷ c ∷ breaks) = record {
      front = b ∷ later.front;
      here = later.here;
      back = later.back;
      are = ap (λ l. b ∷ l) later.are;
      begins = later.begins;
    } in
    let either : (last_line at (b ∷ c ∷ breaks) ≡ at) ⊎ BeginsAt at (b ∷ c ∷ breaks) = inr there in either))
    (begins-at b.at (c ∷ breaks))

-- the breaks behind where it begins are those of the text from there on
pub last-safe : (rules : Profile) (cell : ℕ → Cell) (text : List ℕ) → IsSafeBreak rules cell text (last_line 0 (breaks_of_bytes rules cell text))
last-safe rules cell text =
    let all = breaks_of_bytes rules cell text in
    ⊎_elim (λ (start : last_line 0 all ≡ 0). subst (λ n. IsSafeBreak rules cell text n) (sym start) ([], sym (map-moved-none all)))
    (λ (b : BeginsAt 0 all). subst (λ n. IsSafeBreak rules cell text n) (sym b.begins) (
      b.front ++ b.here ∷ [],
      b.are ∙ ap (λ l. b.front ++ b.here ∷ l) (after-break rules cell text b.front b.back b.here b.are)
          ∙ sym (append_assoc b.front (b.here ∷ []) (map (moved b.here.at) (breaks_of_bytes rules cell (drop b.here.at text)))),
    ))
    (begins-at 0 all)

-- A cut is a break

record EndsThere (rules : Profile) (cell : ℕ → Cell) (front : List ℕ) (at : ℕ) : Type 0 where
  end : Break
  opens : open_end rules cell front at ≡ end ∷ []
  place : end.at ≡ at

ends-there : (rules : Profile) (cell : ℕ → Cell) (front second : List ℕ) (at : ℕ) → must_end_between cell front second ≡ true → EndsThere rules cell front at
ends-there rules cell [] second at must = absurd (false≢true must)
ends-there rules cell (c ∷ []) [] at must = absurd (false≢true must)
ends-there rules cell (c ∷ []) (d ∷ ds) at must =
    elim (ends_line (cell c).class) as (λ b. ends_line (cell c).class ≡ b → EndsThere rules cell (c ∷ []) at) [
      | true ↦ λ is. record {
        end = break_by at (end_after (cell c).class);
        opens = ap (λ b. if b then break_by at (end_after (cell c).class) ∷ [] else []) is;
        place = refl;
      }
      | false ↦ λ none. absurd (false≢true (sym (ap (λ b. b && not (CR (cell c).class && LF (cell d).class)) none) ∙ must))
    ] refl
ends-there rules cell (c ∷ e ∷ front) second at must =
    let later = ends-there rules cell (e ∷ front) second at must in
    record { end = later.end; opens = later.opens; place = later.place }

module _ (rules : Profile) (cell : ℕ → Cell) where
  -- behind a scalar a text has the break at its end (rule LB3)
  some-behind : (ps : List Decoded) (before : List ℕ) (c at : ℕ) → 0 < length (onward rules cell (before ++ c ∷ []) at ps)
  some-behind [] before c at =
      let one : length (onward rules cell (before ++ c ∷ []) at []) ≡ 1 =
      ap (λ l. length (with_break at (verdict_between_in rules l []) [])) (map-append cell before (c ∷ []))
      ∙ ap (λ (v : Verdict). length (with_break at v [])) (must_at_end rules (map cell before) (cell c)) in
      omega (arith, one)
  some-behind (p ∷ ps) before c at =
      let v = verdict_between_in rules (map cell (before ++ c ∷ [])) (map cell (scalars_of (p ∷ ps))) in
      let more = onward rules cell ((before ++ c ∷ []) ++ or_replacement p.char ∷ []) (at + p.size) ps in
      elim (is_no v.kind) as (λ b. 0 < length (if b then more else break_by at v ∷ more)) [
        | true ↦ some-behind ps (before ++ c ∷ []) (or_replacement p.char) (at + p.size)
        | false ↦ omega arith
      ]

  module _ (text : List ℕ) where
    some-from : (at : ℕ) → at < length text → 0 < length (onward rules cell [] at (pieces (drop at text)))
    some-from at inside =
        let p = decoded (drop at text) in
        let ps = pieces (drop (at + p.size) text) in
        subst (λ qs. 0 < length (onward rules cell [] at qs)) (sym (pieces-on text at inside))
        (subst (λ l. 0 < length l) (sym (onward-first rules cell at p ps)) (some-behind ps [] (or_replacement p.char) (at + p.size)))

    -- the last line of a text is that of the part from a cut on
    pub last-from : (cut : ℕ) → (0 < length text → cut < length text) → cut ≤ length text → IsSafeCut cell text cut
        → (0 < cut → cut < length text → JoinsAt rules cell text cut)
        → last_line 0 (breaks_of_bytes rules cell text) ≡ last_line cut (onward rules cell [] cut (pieces (drop cut text)))
    last-from zero before within safe joins =
        ap (last_line 0) (sym (map-moved-none (breaks_of_bytes rules cell text)) ∙ part-onward false rules cell 0 text)
    last-from (suc n) before within safe joins =
        let cut = suc n in
        let inside : cut < length text = before (omega (arith, within)) in
        let front = pieces (take cut text) in
        let alone = breaks_of_pieces rules cell front in
        let rest = onward rules cell [] cut (pieces (drop cut text)) in
        let ends : EndsBefore cell text cut =
        ⊎_elim (λ (start : cut ≡ 0). absurd (omega (arith, start)))
        (⊎_elim (λ (end : cut ≡ length text). absurd (omega (arith, end, inside))) (λ (e : EndsBefore cell text cut). e)) safe in
        let there = ends-there rules cell (scalars_of front) (scalars_of (pieces (drop cut text))) (units_of front) ends.1 in
        let kept = take (length alone - 1) alone in
        ap (last_line 0)
        ((joins (omega arith) inside).breaks
        ∙ ap₂ (λ (xs ys : List Break). (kept ++ xs) ++ ys) there.opens (part-onward false rules cell cut (drop cut text))
        ∙ append_assoc kept (there.end ∷ []) rest)
        ∙ last-behind 0 kept there.end rest (some-from cut inside)
        ∙ ap (λ n. last_line n rest) (there.place ∙ units-sizes front ∙ sizes-front text cut within)

-- How a call goes on

-- the last line of the part from a cut on is that of what comes from here on, if the one before it begins at `last`
pub record Goes (rules : Profile) (cell : ℕ → Cell) (text : List ℕ) (cut last row at : ℕ) : Type 0 where
  pub taken : List ℕ
  pub knows : KnowsTaken cell row taken
  pub same : last_line cut (onward rules cell [] cut (pieces (drop cut text))) ≡ last_line last (onward rules cell taken at (pieces (drop at text)))

pub goes-start : (rules : Profile) (cell : ℕ → Cell) (text : List ℕ) (cut : ℕ) → Goes rules cell text cut cut 0 cut
goes-start rules cell text cut = record { taken = []; knows = ((refl, lit< tt), left-start); same = refl }

module _ (rules : Profile) (cell : ℕ → Cell) (text : List ℕ) (cut last row at : ℕ) (g : Goes rules cell text cut last row at) where
  module _ (found : Decided) (d : IsUnitDecided rules cell (on_from pieces text) at g.taken found) where
    abbrev verdict : Verdict
    verdict = verdict_shown found.shown

    abbrev with_here : List ℕ
    with_here = g.taken ++ or_replacement d.piece.char ∷ []

    abbrev more : List Break
    more = onward rules cell with_here found.at (pieces (drop found.at text))

    here : onward rules cell g.taken at (pieces (drop at text)) ≡ with_break at verdict more
    here = ap (λ ps. onward rules cell g.taken at ps) d.begins
        ∙ ap₂ (λ (v : Verdict) (n : ℕ). with_break at v (onward rules cell with_here n (pieces (drop found.at text)))) (sym d.decides) (sym d.moved)

    goes-to : (to : ℕ) → last_line last (with_break at verdict more) ≡ last_line to more → Goes rules cell text cut to found.row found.at
    goes-to to is = record { taken = with_here; knows = d.knows; same = g.same ∙ ap (last_line last) here ∙ is }

    pub goes-past : not (is_no verdict.kind) ≡ false → Goes rules cell text cut last found.row found.at
    goes-past none = goes-to last (
        elim (is_no verdict.kind) as (λ b. not b ≡ false → last_line last (if b then more else break_by at verdict ∷ more) ≡ last_line last more) [
          | true ↦ λ _. refl
          | false ↦ λ is. absurd (true≢false is)
        ] none)

    pub goes-break : not (is_no verdict.kind) ≡ true → Goes rules cell text cut at found.row found.at
    goes-break shows = goes-to at (
        elim (is_no verdict.kind) as (λ b. not b ≡ true → last_line last (if b then more else break_by at verdict ∷ more) ≡ last_line at more) [
          | true ↦ λ is. absurd (false≢true is)
          | false ↦ λ _. last-more last (break_by at verdict) more (some-behind rules cell (pieces (drop found.at text)) g.taken (or_replacement d.piece.char) found.at)
        ] shows)

  -- behind the last scalar is no other break than the end
  pub goes-end : length text ≤ at → last ≡ last_line cut (onward rules cell [] cut (pieces (drop cut text)))
  goes-end past =
      let none : pieces (drop at text) ≡ [] = ap pieces (drop_all at text past) ∙ pieces-nil in
      let v = verdict_between_in rules (map cell g.taken) [] in
      sym (g.same ∙ ap (λ ps. last_line last (onward rules cell g.taken at ps)) none
      ∙ (elim (is_no v.kind) as (λ b. last_line last (if b then [] else break_by at v ∷ []) ≡ last) [ true ↦ refl | false ↦ refl ]))

-- The answer

-- a number names one profile
pub same-rules : (one other : Profile) (number : ℕ) → profile_numbered number ≡ Some one → number ≡ profile_number other → one ≡ other
same-rules one other number is named =
    let both : Some one ≡ Some other = sym is ∙ ap profile_numbered named ∙ profile-same other in
    cc

pub behind-cut : (cell : ℕ → Cell) (text : List ℕ) (at cut place : ℕ) → IsCutBefore cell text at cut → IsSafeCut cell text place → place < length text → place ≤ at → place ≤ cut
behind-cut cell text at cut place before safe inside low =
    ⊎_elim (λ (behind : place ≤ cut). behind) (λ (past : cut < place). absurd (before.greatest place past low (omega (arith, inside)) safe)) (order cut place)
