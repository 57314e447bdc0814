use Rattle.std.proofs.Common.{◌≡◌, ℕ, suc, ◌+◌, ◌^◌, ◌<◌, ◌≤◌, ◌++◌, Bool, false, List, [], map, drop, length, refl, sym, ap, subst, ◌∙◌, ⊎_elim, arith}
use Rattle.std.proofs.lemmas.Bool.{cases_lt, false≢true}
use Rattle.std.proofs.lemmas.List.{append-nil}
use Rattle.std.proofs.Math.Seq.{drop-length}
use Rattle.lbk_rules.specs.declared.Break.{Break}
use Rattle.lbk_rules.specs.declared.Cell.{Cell}
use Rattle.lbk_values.specs.declared.profile.Profile.{Profile}
use Rattle.lbk_rules.specs.Joins.{moved}
use Rattle.lbk_rules.specs.FlatTable.{IsFlatBy}
use Rattle.lbk_bytes.specs.Order.{AreInOrder}
use Rattle.lbk_bytes.specs.Shown.{given_in}
use Rattle.lbk_bytes.proofs.OrderLemmas.{AreInOrder-none, AreInOrder-wider}
use Rattle.lbk_bytes.proofs.PartLemmas.{pieces-onward}
use Rattle.lbk_bytes.proofs.ReachedLemmas.{given-many, onward-start}
use Rattle.lbk_units.specs.Units.{breaks_of_part_of, breaks_of_pieces, units_of}
use Rattle.lbk_units.proofs.UnitLemmas.{units-sizes}
use Rattle.lbk_streams.specs.declared.stream.Feeding.{Feeding}
use Rattle.lbk_streams.specs.declared.stream.StreamPosition.{StreamPosition}
use Rattle.lbk_streams.specs.declared.stream.Stream.{Stream}
use Rattle.lbk_streams.specs.Stands.{Feeds, Gives, IsOrdered, StreamsIn, ahead}
use Rattle.lbk_streams.specs.Streams.{IsSoundIn, cut_units, next_place, part_stream, place_of, stream_start}
use Rattle.lbk_streams.proofs.PlaceLemmas.{IsOrdered-start, next-within}
use Rattle.lbk_streams.proofs.StreamLemmas.{Feeds-closed, Feeds-front, Feeds-streams, Feeds-unsettled, Streams-next, Streams-part, ended-none}
use Rattle.lbk_streams.proofs.streaming.feed.Given.{Over}
use Rattle.lbk_streams.proofs.streaming.feed.Goals as goal
use Rattle.lbk_streams.proofs.streaming.feed.Goals.{After-close, After-keep, After-take_piece-here, Start}

-- a stream at the start of a text
from-start : (g : Over) (c : Start g) → (cell : ℕ → Cell) (profile : Profile) (text : List g.row.U.Denot) → IsFlatBy (g.K.KindSource.kinds_of c.args.table.now) (g.K.KindSource.pairs_of c.args.table.now) cell → length text < 2 ^ 64
    → c.args.stream.now ≡ stream_start profile
    → StreamsIn g.U.Unit.pieces_of g.U.StreamUnit.carried cell (g.K.KindSource.kinds_of c.args.table.now) (g.K.KindSource.pairs_of c.args.table.now) c.args.stream.now text (breaks_of_pieces profile cell (g.U.Unit.pieces_of text))
from-start g c cell profile text flat short starts =
    Streams-part g.U.Unit.pieces_of g.U.StreamUnit.carried cell (g.K.KindSource.kinds_of c.args.table.now) (g.K.KindSource.pairs_of c.args.table.now) false profile 0 text c.args.stream.now _ flat (omega (arith, short)) starts (onward-start profile cell (g.U.Unit.pieces_of text))

-- and at that of a part of one
from-part : (g : Over) (c : Start g) → (cell : ℕ → Cell) (profile : Profile) (goes_on : Bool) (at : ℕ) (text : List g.row.U.Denot)
    → IsFlatBy (g.K.KindSource.kinds_of c.args.table.now) (g.K.KindSource.pairs_of c.args.table.now) cell → at + length text < 2 ^ 64 → c.args.stream.now ≡ part_stream goes_on profile at
    → StreamsIn g.U.Unit.pieces_of g.U.StreamUnit.carried cell (g.K.KindSource.kinds_of c.args.table.now) (g.K.KindSource.pairs_of c.args.table.now) c.args.stream.now text
    (map (moved at) (breaks_of_part_of goes_on profile cell (g.U.Unit.pieces_of text)))
from-part g c cell profile goes_on at text flat short starts =
    let ps = g.U.Unit.pieces_of text in
    Streams-part g.U.Unit.pieces_of g.U.StreamUnit.carried cell (g.K.KindSource.kinds_of c.args.table.now) (g.K.KindSource.pairs_of c.args.table.now) goes_on profile at text c.args.stream.now _ flat short starts
    (pieces-onward goes_on profile cell at ps (units_of ps) (units-sizes ps))

-- where the units that came end
abbrev base : {A : Type 0} → (List ℕ → List A) → Stream → ℕ
base carried stream = stream.at + length (cut_units carried stream)

-- the piece was taken in order
ordered : (g : Over) (c : After-take_piece-here g) → let old = c.args.stream.now in
    IsSoundIn g.U.StreamUnit.carried old (length c.args.piece.now)
    → IsOrdered c.take_piece-here.new.out (base g.U.StreamUnit.carried c.args.stream.now) (next_place (place_of old)) c.take_piece-here.result
ordered g c sound =
    let old = c.args.stream.now in
    let start = c.start_of-start in
    let fits = sound.fits in
    c.take_piece-here.ensures.takes.takes.ordered (base g.U.StreamUnit.carried c.args.stream.now) (next_place (place_of old)) (omega arith)
    (IsOrdered-start c.args.out.now g.U.StreamUnit.carried old start.result start.ensures.place start.ensures.cut.size start.ensures.fresh.0 start.ensures.fresh.1 sound.waits)

-- and so were the units left at the end
ordered-last : (g : Over) (c : After-close g) → let old = c.args.stream.now in
    IsSoundIn g.U.StreamUnit.carried old (length c.args.piece.now)
    → IsOrdered c.take_piece-here.new.out (base g.U.StreamUnit.carried old) (next_place (place_of old)) c.take_piece-here.result
    → IsOrdered c.drain-done.new.out (base g.U.StreamUnit.carried c.args.stream.now) (next_place (place_of old)) c.drain-done.result
ordered-last g c sound o =
    let fits = sound.fits in
    c.drain-done.ensures.takes.ordered (base g.U.StreamUnit.carried c.args.stream.now) (next_place (place_of c.args.stream.now)) (omega (arith, c.take_piece-here.ensures.takes.within.1)) o

-- of the breaks to come, those after the piece was taken
fed : (g : Over) (c : After-take_piece-here g) → let old = c.args.stream.now in let piece = c.args.piece.now in
    (cell : ℕ → Cell) (more : List g.row.U.Denot) (to_come : List Break)
    → StreamsIn g.U.Unit.pieces_of g.U.StreamUnit.carried cell (g.K.KindSource.kinds_of c.args.table.now) (g.K.KindSource.pairs_of c.args.table.now) old (piece ++ more) to_come
    → Feeds g.U.Unit.pieces_of c.in-Some.profile cell (base g.U.StreamUnit.carried c.args.stream.now) piece more c.take_piece-here.result (ahead old.profile to_come)
    (given_in c.take_piece-here.new.out c.take_piece-here.result.count)
fed g c cell more to_come s =
    let old = c.args.stream.now in
    let start = c.start_of-start in
    let live = c.in-Some.ensures in
    c.take_piece-here.ensures.takes.feeds cell more s.flat (base g.U.StreamUnit.carried c.args.stream.now) (ahead old.profile to_come)
    (Feeds-streams g.U.Unit.pieces_of g.U.StreamUnit.carried c.in-Some.profile cell (g.K.KindSource.kinds_of c.args.table.now) (g.K.KindSource.pairs_of c.args.table.now) old c.args.piece.now more to_come (given_in c.args.out.now start.result.count) start.result
    live.1 live.0 start.ensures.place start.ensures.cut.units start.ensures.fresh.0 start.ensures.cut.size (ap (given_in c.args.out.now) start.ensures.fresh.1) s)

-- what a call gives that goes on
gives : (g : Over) (c : After-keep g) → let here = c.take_piece-here.result in
    (cell : ℕ → Cell) (more : List g.row.U.Denot) (to_come : List Break)
    → StreamsIn g.U.Unit.pieces_of g.U.StreamUnit.carried cell (g.K.KindSource.kinds_of c.args.table.now) (g.K.KindSource.pairs_of c.args.table.now) c.args.stream.now (c.args.piece.now ++ more) to_come
    → Feeds g.U.Unit.pieces_of c.in-Some.profile cell (base g.U.StreamUnit.carried c.args.stream.now) c.args.piece.now more here (ahead c.args.stream.now.profile to_come)
    (given_in c.take_piece-here.new.out here.count)
    → Gives g.U.Unit.pieces_of g.U.StreamUnit.carried g.U.StreamUnit.could_go_on cell (g.K.KindSource.kinds_of c.args.table.now) (g.K.KindSource.pairs_of c.args.table.now) c.args.stream.now c.keep.new.stream c.args.piece.now more c.args.last to_come
    (record { taken = here.taken; count = here.count }) (given_in c.take_piece-here.new.out here.count) (length c.args.out.now)
gives g c cell more to_come s feeds =
    let of = g.U.Unit.pieces_of in
    let carried = g.U.StreamUnit.carried in
    let profile = c.in-Some.profile in
    let live = c.in-Some.ensures in
    let old = c.args.stream.now in
    let new = c.keep.new.stream in
    let piece = c.args.piece.now in
    let take = c.take_piece-here in
    let here = take.result in
    let at_base = base g.U.StreamUnit.carried c.args.stream.now in
    let given = given_in take.new.out here.count in
    let many : length given ≡ here.count = given-many take.new.out here.count (omega (arith, take.ensures.takes.takes.room)) in
    let kept = c.keep.ensures in
    let at : new.at ≡ here.place.at = ap (λ (p : StreamPosition). p.at) kept.place in
    record {
      front = Feeds-front of carried profile cell old.profile at_base piece more to_come given here here.count many feeds;
      rest =
          Streams-next of carried profile cell (g.K.KindSource.kinds_of c.args.table.now) (g.K.KindSource.pairs_of c.args.table.now) at_base old new piece more to_come given here here.count live.1 live.0 s.flat kept.place kept.cut.0
          kept.same.0 kept.same.1 many feeds;
      settled = λ _ free.
          Feeds-unsettled of carried profile cell g.U.StreamUnit.could_go_on old.profile at_base new piece more to_come given here here.count kept.place kept.cut.0
          (take.ensures.settled (omega arith)).1.unfinished (take.ensures.settled (omega arith)).0 many feeds;
      seen = (let seen = feeds.seen in let size = kept.cut.1 in omega arith);
      end = λ is_last free. absurd (false≢true (sym c.if-last.false ∙ is_last));
    }

-- what the last call gives
gives-last : (g : Over) (c : After-close g) → let here = c.take_piece-here.result in
    (cell : ℕ → Cell) (more : List g.row.U.Denot) (to_come : List Break) → more ≡ []
    → StreamsIn g.U.Unit.pieces_of g.U.StreamUnit.carried cell (g.K.KindSource.kinds_of c.args.table.now) (g.K.KindSource.pairs_of c.args.table.now) c.args.stream.now (c.args.piece.now ++ more) to_come
    → Feeds g.U.Unit.pieces_of c.in-Some.profile cell (base g.U.StreamUnit.carried c.args.stream.now) c.args.piece.now more here (ahead c.args.stream.now.profile to_come)
    (given_in c.take_piece-here.new.out here.count)
    → Gives g.U.Unit.pieces_of g.U.StreamUnit.carried g.U.StreamUnit.could_go_on cell (g.K.KindSource.kinds_of c.args.table.now) (g.K.KindSource.pairs_of c.args.table.now) c.args.stream.now c.close.new.stream c.args.piece.now more c.args.last to_come
    c.close.result (given_in c.close.new.out c.close.result.count) (length c.args.out.now)
gives-last g c cell more to_come none s feeds =
    let of = g.U.Unit.pieces_of in
    let carried = g.U.StreamUnit.carried in
    let kinds = g.K.KindSource.kinds_of c.args.table.now in
    let pairs = g.K.KindSource.pairs_of c.args.table.now in
    let profile = c.in-Some.profile in
    let live = c.in-Some.ensures in
    let old = c.args.stream.now in
    let new = c.close.new.stream in
    let piece = c.args.piece.now in
    let take = c.take_piece-here in
    let here = take.result in
    let drain = c.drain-done in
    let done = drain.result in
    let close = c.close in
    let room = length c.args.out.now in
    let given = given_in drain.new.out done.count in
    let after = given_in close.new.out close.result.count in
    let nothing : here.count < length take.new.out → drop here.taken piece ++ more ≡ [] =
    λ free. ap (λ n. drop n piece ++ more) (take.ensures.settled (omega arith)).0 ∙ ap (λ l. l ++ more) (drop-length piece) ∙ none in
    let ends = drain.ensures.feeds cell piece more s.flat (λ _. nothing) (base carried old) (ahead old.profile to_come) feeds in
    let taken : close.result.taken ≡ done.taken = close.ensures.within.1 in
    let closed = Feeds-closed of carried profile cell kinds pairs (base g.U.StreamUnit.carried c.args.stream.now) old new piece to_come given after done close.result.count room g.met.U.Unit.ends live.1 live.0 s.flat
    (record {
      within = omega (arith, drain.ensures.takes.room);
      many = given-many drain.new.out done.count (omega (arith, drain.ensures.takes.room));
      counted = given-many close.new.out close.result.count (omega (arith, close.ensures.within.0));
      kept = close.ensures.profile_same;
      full = λ full.
          (let f = close.ensures.full (omega arith) in
          (ap (λ b. given_in b close.result.count) f.1 ∙ ap (given_in drain.new.out) f.0, f.2, f.3, f.4));
      taken = λ free.
          ⊎_elim (λ (less : here.count < room). drain.ensures.taken ∙ (take.ensures.settled less).0)
          (λ (full : room ≤ here.count).
          let same = ap (λ (h : Feeding g.row.U.Denot). h.count) (drain.ensures.full (omega (arith, take.ensures.takes.takes.room))).0 in absurd (omega arith))
          (cases_lt here.count room);
      cut = λ free. drain.ensures.done refl (omega arith);
      ended = λ free. (close.ensures.ended (omega arith)).0;
      end = λ free taken. close.ensures.end (omega arith) profile cell taken;
    }) (subst (λ m. Feeds of profile cell (base carried old) piece m done (ahead old.profile to_come) given) none ends) in
    record {
      front = closed.front;
      rest =
          subst (λ m. StreamsIn of carried cell kinds pairs new (drop close.result.taken piece ++ m) (drop close.result.count to_come)) (sym none)
          (subst (λ n. StreamsIn of carried cell kinds pairs new (drop n piece ++ []) (drop close.result.count to_come)) (sym taken) closed.rest);
      settled = λ unfinished. absurd (false≢true (sym unfinished ∙ c.if-last.true));
      seen = (let seen = ends.seen in let put = close.ensures.seen in omega (arith, put.0, put.1));
      end = λ _ free. closed.end (omega arith);
    }

pub returns-then-is_empty-clause-start : goal.returns-then-is_empty-clause-start
returns-then-is_empty-clause-start g c = from-start g (goal.at.returns-then-is_empty-clause-start g c).Start

pub returns-in_default-clause-start : goal.returns-in_default-clause-start
returns-in_default-clause-start g c = from-start g (goal.at.returns-in_default-clause-start g c).Start

pub returns-in_default-clause-settled : goal.returns-in_default-clause-settled
returns-in_default-clause-settled g c = λ cell more to_come s unfinished unended free.
    absurd (let ended = (ended-none g.U.Unit.pieces_of g.U.StreamUnit.carried cell (g.K.KindSource.kinds_of c.args.table.now) (g.K.KindSource.pairs_of c.args.table.now) c.args.stream.now (c.args.piece.now ++ more) to_come c.in_default.ensures s).1 in omega arith)

pub returns-clause-start : goal.returns-clause-start
returns-clause-start g c = from-start g (goal.at.returns-clause-start g c).Start

pub returns-then-is_empty-clause-part : goal.returns-then-is_empty-clause-part
returns-then-is_empty-clause-part g c = from-part g (goal.at.returns-then-is_empty-clause-part g c).Start

pub returns-in_default-clause-part : goal.returns-in_default-clause-part
returns-in_default-clause-part g c = from-part g (goal.at.returns-in_default-clause-part g c).Start

pub returns-clause-part : goal.returns-clause-part
returns-clause-part g c = from-part g (goal.at.returns-clause-part g c).Start

pub returns-clause-front : goal.returns-clause-front
returns-clause-front g c = λ cell more to_come s lasts.
    let at = goal.at.returns-clause-front g c in (gives g at.After-keep cell more to_come s (fed g at.After-take_piece-here cell more to_come s)).front

pub returns-clause-rest : goal.returns-clause-rest
returns-clause-rest g c = λ cell more to_come s lasts.
    let at = goal.at.returns-clause-rest g c in (gives g at.After-keep cell more to_come s (fed g at.After-take_piece-here cell more to_come s)).rest

pub returns-clause-seen : goal.returns-clause-seen
returns-clause-seen g c = λ cell more to_come s lasts unended.
    let at = goal.at.returns-clause-seen g c in (gives g at.After-keep cell more to_come s (fed g at.After-take_piece-here cell more to_come s)).seen

pub returns-then-last-clause-front : goal.returns-then-last-clause-front
returns-then-last-clause-front g c = λ cell more to_come s lasts.
    let at = goal.at.returns-then-last-clause-front g c in (gives-last g at.After-close cell more to_come (lasts c.if-last.true) s (fed g at.After-take_piece-here cell more to_come s)).front

pub returns-then-last-clause-rest : goal.returns-then-last-clause-rest
returns-then-last-clause-rest g c = λ cell more to_come s lasts.
    let at = goal.at.returns-then-last-clause-rest g c in (gives-last g at.After-close cell more to_come (lasts c.if-last.true) s (fed g at.After-take_piece-here cell more to_come s)).rest

pub returns-then-last-clause-seen : goal.returns-then-last-clause-seen
returns-then-last-clause-seen g c = λ cell more to_come s lasts unended.
    let at = goal.at.returns-then-last-clause-seen g c in (gives-last g at.After-close cell more to_come (lasts c.if-last.true) s (fed g at.After-take_piece-here cell more to_come s)).seen

pub returns-clause-settled : goal.returns-clause-settled
returns-clause-settled g c = λ cell more to_come s unfinished unended free.
    let at = goal.at.returns-clause-settled g c in (gives g at.After-keep cell more to_come s (fed g at.After-take_piece-here cell more to_come s)).settled unfinished free

pub returns-then-last-clause-settled : goal.returns-then-last-clause-settled
returns-then-last-clause-settled g c = λ cell more to_come s unfinished. absurd (false≢true (sym unfinished ∙ c.if-last.true))

pub returns-clause-end : goal.returns-clause-end
returns-clause-end g c = λ cell to_come s is_last. absurd (false≢true (sym c.if-last.false ∙ is_last))

pub returns-then-last-clause-end : goal.returns-then-last-clause-end
returns-then-last-clause-end g c = λ cell to_come s is_last free.
    let whole = subst (λ units. StreamsIn g.U.Unit.pieces_of g.U.StreamUnit.carried cell (g.K.KindSource.kinds_of c.args.table.now) (g.K.KindSource.pairs_of c.args.table.now) c.args.stream.now units to_come) (sym (append-nil c.args.piece.now)) s in
    let at = goal.at.returns-then-last-clause-end g c in
    (gives-last g at.After-close cell [] to_come refl whole (fed g at.After-take_piece-here cell [] to_come whole)).end is_last free

pub returns-then-last-clause-breaks : goal.returns-then-last-clause-breaks
returns-then-last-clause-breaks g c =
    c.close.ensures.breaks (c.drain-done.ensures.takes.breaks (c.take_piece-here.ensures.takes.takes.breaks (λ k few. absurd (omega (arith, c.start_of-start.ensures.fresh.1)))))

pub returns-clause-breaks : goal.returns-clause-breaks
returns-clause-breaks g c = c.take_piece-here.ensures.takes.takes.breaks (λ k few. absurd (omega (arith, c.start_of-start.ensures.fresh.1)))

pub returns-clause-in_order : goal.returns-clause-in_order
returns-clause-in_order g c = λ sound.
    let take = c.take_piece-here in
    let o = ordered g (goal.at.returns-clause-in_order g c).After-take_piece-here sound in
    let at = ap (λ (p : StreamPosition). p.at) c.keep.ensures.place in
    AreInOrder-wider take.new.out take.result.count (next_place (place_of c.args.stream.now)) (next_place take.result.place) (suc c.keep.new.stream.at)
    (omega (arith, at, next-within take.result.place o.placed.waits)) o.placed.order.1

pub returns-clause-before_stream : goal.returns-clause-before_stream
returns-clause-before_stream g c = λ sound unended.
    let from = next_place (place_of c.args.stream.now) in
    let take = c.take_piece-here in
    let o = ordered g (goal.at.returns-clause-before_stream g c).After-take_piece-here sound in
    subst (λ (p : StreamPosition). (from ≤ next_place p) × AreInOrder take.new.out take.result.count from (next_place p)) (sym c.keep.ensures.place) o.placed.order

pub returns-clause-sound : goal.returns-clause-sound
returns-clause-sound g c = λ sound.
    let o = ordered g (goal.at.returns-clause-sound g c).After-take_piece-here sound in
    let at = ap (λ (p : StreamPosition). p.at) c.keep.ensures.place in
    let seen = o.seen in
    record {
      waits = subst (λ (p : StreamPosition). 0 < p.held_code → p.held_at < p.at) (sym c.keep.ensures.place) o.placed.waits;
      fits = (let fits = sound.fits in omega (arith, at, c.keep.ensures.cut.1, c.take_piece-here.ensures.takes.within.1));
    }

pub returns-then-last-clause-in_order : goal.returns-then-last-clause-in_order
returns-then-last-clause-in_order g c = λ sound.
    let from = next_place (place_of c.args.stream.now) in
    subst (λ n. AreInOrder c.close.new.out c.close.result.count from (suc n)) (sym c.close.ensures.seen.0)
    (c.close.ensures.in_order (base g.U.StreamUnit.carried c.args.stream.now) from (ordered-last g (goal.at.returns-then-last-clause-in_order g c).After-close sound (ordered g (goal.at.returns-then-last-clause-in_order g c).After-take_piece-here sound)))

pub returns-then-last-clause-before_stream : goal.returns-then-last-clause-before_stream
returns-then-last-clause-before_stream g c = λ sound unended.
    (c.close.ensures.placed (base g.U.StreamUnit.carried c.args.stream.now) (next_place (place_of c.args.stream.now)) (ordered-last g (goal.at.returns-then-last-clause-before_stream g c).After-close sound (ordered g (goal.at.returns-then-last-clause-before_stream g c).After-take_piece-here sound)) unended).order

pub returns-then-last-clause-sound : goal.returns-then-last-clause-sound
returns-then-last-clause-sound g c = λ sound.
    let done = ordered-last g (goal.at.returns-then-last-clause-sound g c).After-close sound (ordered g (goal.at.returns-then-last-clause-sound g c).After-take_piece-here sound) in
    let seen = done.seen in
    let put = c.close.ensures.seen in
    record {
      waits = c.close.ensures.waits (base g.U.StreamUnit.carried c.args.stream.now) (next_place (place_of c.args.stream.now)) done;
      fits = (let fits = sound.fits in omega (arith, put.0, put.1, c.close.ensures.within.1, c.drain-done.ensures.taken, c.take_piece-here.ensures.takes.within.1));
    }

pub returns-clause-place : goal.returns-clause-place
returns-clause-place g c = λ sound _ _.
    let at = ap (λ (p : StreamPosition). p.at) c.keep.ensures.place in
    let seen = (ordered g (goal.at.returns-clause-place g c).After-take_piece-here sound).seen in
    omega (arith, at, c.keep.ensures.cut.1)

pub returns-then-last-clause-place : goal.returns-then-last-clause-place
returns-then-last-clause-place g c = λ sound _ _.
    let seen = (ordered-last g (goal.at.returns-then-last-clause-place g c).After-close sound (ordered g (goal.at.returns-then-last-clause-place g c).After-take_piece-here sound)).seen in
    let put = c.close.ensures.seen in
    omega (arith, put.0, put.1, c.close.ensures.within.1)

pub returns-then-last-clause-only_last : goal.returns-then-last-clause-only_last
returns-then-last-clause-only_last g c = λ unfinished. absurd (false≢true (sym unfinished ∙ c.if-last.true))

pub returns-then-is_empty-clause-in_order : goal.returns-then-is_empty-clause-in_order
returns-then-is_empty-clause-in_order g c = λ sound. AreInOrder-none _ _ _

pub returns-then-is_empty-clause-before_stream : goal.returns-then-is_empty-clause-before_stream
returns-then-is_empty-clause-before_stream g c = λ sound unended. (omega arith, AreInOrder-none _ _ _)

pub returns-then-is_empty-clause-sound : goal.returns-then-is_empty-clause-sound
returns-then-is_empty-clause-sound g c = λ sound. record { waits = sound.waits; fits = omega (arith, sound.fits) }

pub returns-in_default-clause-in_order : goal.returns-in_default-clause-in_order
returns-in_default-clause-in_order g c = λ sound. AreInOrder-none _ _ _

pub returns-in_default-clause-before_stream : goal.returns-in_default-clause-before_stream
returns-in_default-clause-before_stream g c = λ sound unended. (omega arith, AreInOrder-none _ _ _)

pub returns-in_default-clause-sound : goal.returns-in_default-clause-sound
returns-in_default-clause-sound g c = λ sound. record { waits = sound.waits; fits = omega (arith, sound.fits) }

pub returns-then-last-clause-start : goal.returns-then-last-clause-start
returns-then-last-clause-start g c = from-start g (goal.at.returns-then-last-clause-start g c).Start

pub returns-then-last-clause-part : goal.returns-then-last-clause-part
returns-then-last-clause-part g c = from-part g (goal.at.returns-then-last-clause-part g c).Start
