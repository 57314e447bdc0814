-- A block that is filled in two turns.
use Rattle.std.proofs.Common.{◌≡◌, ℕ, ◌<◌, List, [], length, arith}
use Rattle.lbk_rules.specs.declared.neighbours.Neighbours.{Neighbours}
use Rattle.lbk_bytes.specs.declared.fill_state.FillState.{FillState}
use Rattle.lbk_bytes.specs.declared.raw_break.RawBreak.{RawBreak}
use Rattle.lbk_bytes.specs.Terms.{Profile}
use Rattle.lbk_bytes.specs.Shown.{given_in}
use Rattle.lbk_bytes.specs.Steps.{Fills, FillsIn}
use Rattle.lbk_bytes.proofs.ReachedLemmas.{Reached-alone, Reached-nothing}

module _ {profile : Profile} {kinds : List ℕ} {pairs : Neighbours} {text : List ℕ} {old mid : List RawBreak} {start begun : FillState} where
  -- the first turn fills it, or takes all
  pub fills-once : 0 < length old → (begun.count < length old → begun.at ≡ length text) → FillsIn profile kinds pairs text old start mid begun
      → Fills profile kinds pairs text old start mid begun
  fills-once some stops first = record {
    within = first.within;
    stops = stops;
    no_room = λ none. absurd (omega (arith, none, some));
    in_order = first.in_order;
    reached = λ cell all flat here.
        Reached-alone profile cell text all begun (given_in mid begun.count)
        (first.reached cell [] all flat (Reached-nothing profile cell text all start (given_in old start.count) here));
  }

  -- the second goes on, and may leave some
  pub takes-twice : {new : List RawBreak} {here : FillState} → length mid ≡ length old → FillsIn profile kinds pairs text old start mid begun
      → FillsIn profile kinds pairs text mid begun new here → FillsIn profile kinds pairs text old start new here
  takes-twice {new} {here} same first last = record {
    within = (omega (arith, last.within.0, same), last.within.1, last.within.2);
    onward = (omega (arith, first.onward.0, last.onward.0), omega (arith, first.onward.1, last.onward.1));
    in_order = λ from order. last.in_order from (first.in_order from order);
    reached = λ cell more all flat before. last.reached cell more all flat (first.reached cell more all flat before);
  }

  -- the second goes on
  pub fills-twice : {new : List RawBreak} {here : FillState} → 0 < length old → length mid ≡ length old → FillsIn profile kinds pairs text old start mid begun
      → Fills profile kinds pairs text mid begun new here → Fills profile kinds pairs text old start new here
  fills-twice {new} {here} some same first last = record {
    within = (omega (arith, last.within.0, same), last.within.1, last.within.2);
    stops = λ room. last.stops (omega (arith, room, same));
    no_room = λ none. absurd (omega (arith, none, some));
    in_order = λ from order. last.in_order from (first.in_order from order);
    reached = λ cell all flat before.
        last.reached cell all flat
        (Reached-alone profile cell text all begun (given_in mid begun.count)
        (first.reached cell [] all flat (Reached-nothing profile cell text all start (given_in old start.count) before)));
  }
