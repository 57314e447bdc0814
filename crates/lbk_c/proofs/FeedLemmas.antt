-- What a call gives of the breaks to come of a stream, clause by clause.
use Rattle.std.proofs.Common.{◌≡◌, ℕ, ◌+◌, ◌<◌, Bool, true, false, List, [], ◌++◌, drop, length, take}
use Rattle.bstr.specs.Utf8.{Decoded}
use Rattle.lbk_rules.specs.declared.Break.{Break}
use Rattle.lbk_rules.specs.declared.Cell.{Cell}
use Rattle.lbk_rules.specs.declared.neighbours.Neighbours.{Neighbours}
use Rattle.lbk_bytes.specs.declared.raw_break.RawBreak.{RawBreak}
use Rattle.lbk_bytes.specs.Shown.{given_in}
use Rattle.lbk_streams.specs.declared.stream.Fed.{Fed}
use Rattle.lbk_streams.specs.declared.stream.Stream.{Stream}
use Rattle.lbk_streams.specs.Stands.{StreamsIn}
use Rattle.lbk_streams.specs.Streams.{AreUnsettledIn, cut_units}
use Rattle.lbk_c.specs.Feeds.{FeedsNext}

-- this holds of all that may come of a stream
abbrev OfEach : {A : Type 0} → (List A → List Decoded) → (List ℕ → List A) → List ℕ → Neighbours → Stream → List A
    → ((ℕ → Cell) → List A → List Break → Type 0) → Type 0
OfEach {A} pieces_of carried kinds pairs old piece Holds =
    (cell : ℕ → Cell) (more : List A) (to_come : List Break) → StreamsIn pieces_of carried cell kinds pairs old (piece ++ more) to_come → Holds cell more to_come

pub feeds-next : {A : Type 0} (pieces_of : List A → List Decoded) (carried : List ℕ → List A) (could_go_on : List A → Bool)
    (kinds : List ℕ) (pairs : Neighbours) (old new : Stream) (piece : List A) (last : Bool) (room : ℕ) (out : List RawBreak) (fed : Fed)
    → OfEach pieces_of carried kinds pairs old piece (λ cell more to_come. (last ≡ true → more ≡ []) → given_in out fed.count ≡ take fed.count to_come)
    → OfEach pieces_of carried kinds pairs old piece (λ cell more to_come.
    (last ≡ true → more ≡ []) → StreamsIn pieces_of carried cell kinds pairs new (drop fed.taken piece ++ more) (drop fed.count to_come))
    → OfEach pieces_of carried kinds pairs old piece (λ cell more to_come.
    last ≡ false → old.ended ≡ 0 → fed.count < room → AreUnsettledIn pieces_of carried could_go_on cell new more (drop fed.count to_come))
    → OfEach pieces_of carried kinds pairs old piece (λ cell more to_come.
    (last ≡ true → more ≡ []) → old.ended ≡ 0 → new.at + length (cut_units carried new) ≡ old.at + length (cut_units carried old) + fed.taken)
    → OfEach pieces_of carried kinds pairs old piece (λ cell more to_come.
    FeedsNext pieces_of carried could_go_on cell kinds pairs old new piece more last room out fed to_come)
feeds-next pieces_of carried could_go_on kinds pairs old new piece last room out fed front rest settled seen = λ cell more to_come comes. record {
  front = front cell more to_come comes;
  rest = rest cell more to_come comes;
  settled = settled cell more to_come comes;
  seen = seen cell more to_come comes;
}
