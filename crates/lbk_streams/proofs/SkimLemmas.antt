-- Places that count from the start of a stream.
use Rattle.std.proofs.Common.{◌≡◌, ℕ, ◌+◌, ◌-◌, ◌%◌, ◌^◌, ◌<◌, ◌≤◌, List, [], ◌++◌, length, map, drop, refl, sym, ap, subst, ◌∙◌, append_assoc, length-append, length-drop, arith}
use Rattle.std.proofs.lemmas.List.{drop-append-le, map-append}
use Rattle.bstr.specs.Utf8.{Decoded}
use Rattle.lbk_rules.specs.declared.Break.{Break}
use Rattle.lbk_rules.specs.declared.Cell.{Cell}
use Rattle.lbk_values.specs.declared.profile.Profile.{Profile}
use Rattle.lbk_rules.specs.FlatTable.{KnowsTaken}
use Rattle.lbk_rules.specs.Joins.{moved}
use Rattle.lbk_bytes.specs.declared.fill_state.FillState.{FillState}
use Rattle.lbk_streams.specs.declared.stream.Feeding.{Feeding}
use Rattle.lbk_streams.specs.declared.stream.StreamPosition.{StreamPosition}
use Rattle.lbk_units.specs.Reached.{UnitsReachedBy, on_from}
use Rattle.lbk_bytes.proofs.PartLemmas.{onward-moved}
use Rattle.lbk_streams.specs.Stands.{Ahead, Feeds, Stands, front_of, onward_of}
use Rattle.lbk_streams.specs.Streams.{late_break}
use Rattle.lbk_streams.proofs.FeedLemmas.{none-cut}
use Rattle.lbk_streams.proofs.StandsLemmas.{late-none}

module _ {A : Type 0} (pieces_of : List A → List Decoded) (profile : Profile) (cell : ℕ → Cell) where
  -- a run over a piece is one over the stream
  pub Stands-skim : (piece more : List A) (all : Ahead) (given front : List Break) (place next : StreamPosition) (from : ℕ) (end : FillState)
      → from ≤ end.at → end.at ≤ length piece → place.held_code ≡ 0 → from ≤ place.at
      → next.at ≡ place.at + (end.at - from) → next.row ≡ end.row → next.held_code ≡ 0
      → ((breaks : List Break) → UnitsReachedBy (onward_of all) profile cell (on_from pieces_of (piece ++ more)) breaks (record { count = 0; row = place.row; at = from }) []
      → UnitsReachedBy (onward_of all) profile cell (on_from pieces_of (piece ++ more)) breaks end given)
      → front ≡ map (moved (place.at - from)) given
      → Stands profile cell place (pieces_of (drop from piece ++ more)) all []
      → Stands profile cell next (pieces_of (drop end.at piece ++ more)) all front
  Stands-skim piece more all given front place next from end on within free behind at_same row_same none_waits reached shown s =
      let by = place.at - from in
      let ps = pieces_of (drop from piece ++ more) in
      let rest = pieces_of (drop end.at piece ++ more) in
      let from_same : by + from ≡ place.at = omega arith in
      let end_same : by + end.at ≡ next.at = omega arith in
      let split_from : pieces_of (drop from (piece ++ more)) ≡ ps = ap pieces_of (drop-append-le from piece more (omega arith)) in
      let split_end : pieces_of (drop end.at (piece ++ more)) ≡ rest = ap pieces_of (drop-append-le end.at piece more within) in
      let r = reached (onward_of all profile cell s.taken from (pieces_of (drop from (piece ++ more)))) (record {
        taken = s.taken;
        knows = s.knows;
        some = s.some;
        joined = refl;
      }) in
      record {
        taken = r.taken;
        knows = subst (λ n. KnowsTaken cell n r.taken) (sym row_same) r.knows;
        some = λ more. r.some (omega arith);
        waits = λ waits. absurd (omega arith);
        joined =
            s.joined
            ∙ ap (λ l. l ++ onward_of all profile cell s.taken place.at ps) (late-none cell place ps free)
            ∙ ap (λ n. onward_of all profile cell s.taken n ps) (sym from_same)
            ∙ sym (onward-moved all.goes_on profile cell s.taken by from ps)
            ∙ ap (λ l. map (moved by) (onward_of all profile cell s.taken from l)) (sym split_from)
            ∙ ap (map (moved by)) r.joined
            ∙ map-append (moved by) given (onward_of all profile cell r.taken end.at (pieces_of (drop end.at (piece ++ more))))
            ∙ ap (λ l. map (moved by) given ++ map (moved by) (onward_of all profile cell r.taken end.at l)) split_end
            ∙ ap (λ l. map (moved by) given ++ l) (onward-moved all.goes_on profile cell r.taken by end.at rest)
            ∙ ap (λ l. l ++ onward_of all profile cell r.taken (by + end.at) rest) (sym shown)
            ∙ ap (λ n. front ++ onward_of all profile cell r.taken n rest) end_same
            ∙ ap (λ l. front ++ (l ++ onward_of all profile cell r.taken next.at rest)) (sym (late-none cell next rest none_waits));
      }

  -- the breaks of a call, and those before it
  Stands-behind : (place next : StreamPosition) (ps rest : List Decoded) (all : Ahead) (given front after : List Break)
      → ((all : Ahead) → Stands profile cell place ps all [] → Stands profile cell next rest all front)
      → after ≡ given ++ front
      → Stands profile cell place ps all given → Stands profile cell next rest all after
  Stands-behind place next ps rest all given front after step grown s =
      let coming = late_break cell place ps ++ onward_of all profile cell s.taken place.at ps in
      let on = step (record { breaks = coming; goes_on = all.goes_on }) (record { taken = s.taken; knows = s.knows; some = s.some; waits = s.waits; joined = refl }) in
      let more = late_break cell next rest ++ onward_of all profile cell on.taken next.at rest in
      record {
        taken = on.taken;
        knows = on.knows;
        some = on.some;
        waits = on.waits;
        joined =
            s.joined ∙ ap (λ l. given ++ l) on.joined ∙ sym (append_assoc given front more) ∙ ap (λ l. l ++ more) (sym grown);
      }

  -- a run over a piece, in the place behind the breaks that were given
  pub Feeds-skim : (base : ℕ) (piece more : List A) (here : Feeding A) (next : StreamPosition) (end : FillState) (count : ℕ)
      (all : Ahead) (given front after : List Break)
      → here.cut.size ≡ 0 → here.taken ≤ end.at → end.at ≤ length piece → next.at ≡ (here.place.at + (end.at - here.taken)) % 2 ^ 64
      → ((all : Ahead) → next.at ≡ here.place.at + (end.at - here.taken) → here.taken ≤ here.place.at → here.place.at + (end.at - here.taken) < 2 ^ 64
      → Stands profile cell here.place (pieces_of (drop here.taken piece ++ more)) all [] → Stands profile cell next (pieces_of (drop end.at piece ++ more)) all front)
      → after ≡ given ++ front
      → Feeds pieces_of profile cell base piece more here all given
      → Feeds pieces_of profile cell base piece more (record { place = next; cut = here.cut; taken = end.at; count = count }) all after
  Feeds-skim base piece more here next end count all given front after none on within moved step grown f =
      let units = drop here.taken piece ++ more in
      let rest = drop end.at piece ++ more in
      let long : length (front_of here.cut ++ units) ≡ length units = ap length (none-cut here.cut units none) in
      let long_after : length (front_of here.cut ++ rest) ≡ length rest = ap length (none-cut here.cut rest none) in
      let longer = length-append (drop here.taken piece) more in
      let longer_after = length-append (drop end.at piece) more in
      let left = length-drop here.taken piece in
      let left_after = length-drop end.at piece in
      let fits = f.fits in
      let seen = f.seen in
      let at : next.at ≡ here.place.at + (end.at - here.taken) = omega arith in
      let stands = subst (λ l. Stands profile cell here.place (pieces_of l) all given) (none-cut here.cut units none) f.stands in
      record {
        stands =
            subst (λ l. Stands profile cell next (pieces_of l) all after) (sym (none-cut here.cut rest none))
            (Stands-behind here.place next (pieces_of units) (pieces_of rest) all given front after (λ (coming : Ahead). step coming at (omega arith) (omega arith)) grown stands);
        fits = omega arith;
        seen = omega arith;
      }
