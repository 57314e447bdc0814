use Rattle.std.proofs.Common.{rules, ◌≡◌, ℕ, ◌<◌, List, Some, arith, drop, length, min}
use Rattle.lbk_rules.specs.declared.Cell.{Cell}
use Rattle.lbk_values.specs.declared.profile.Profile.{Profile}
use Rattle.lbk_bytes.specs.Profiles.{plain_number, profile_numbered}
use Rattle.lbk_chunks.specs.declared.chunk.Chunk.{Chunk}
use Rattle.lbk_chunks.specs.Coming.{AreGiven, ChunksCome}
use Rattle.lbk_chunks.proofs.GivenLemmas.{come-on, knows-first}
use Rattle.lbk_chunks.proofs.TextLemmas.{chunks-start}
use Rattle.lbk_chunks.proofs.chunking.chunks.Given.{Over}
use Rattle.lbk_chunks.proofs.chunking.chunks.Goals as goal
use Rattle.lbk_chunks.proofs.chunking.chunks.Goals.{After-give_chunks-count}

-- a number above 3 names no profile
unnamed : (number : ℕ) (profile : Profile) → 3 < number → profile_numbered (plain_number number) ≡ Some profile → ⊥
unnamed number profile more named = search rules

-- where chunks come from the state on, the call gave the first of them
given : (g : Over) (c : After-give_chunks-count g) → let call = c.give_chunks-count in
    (cell : ℕ → Cell) (to_come : List Chunk) (come : ChunksCome cell (g.K.KindSource.kinds_of c.args.table.now) (g.K.KindSource.pairs_of c.args.table.now) c.args.text.now c.args.limits.now c.args.state.now to_come)
    → AreGiven cell (g.K.KindSource.kinds_of c.args.table.now) (g.K.KindSource.pairs_of c.args.table.now) c.args.text.now c.args.limits.now come.cuts to_come call.result call.new.out call.new.window call.new.here
    × (call.result ≡ min (length c.args.out.now) (length to_come))
given g c cell to_come come =
    c.give_chunks-count.ensures.given cell come.cuts to_come
    (knows-first cell (g.K.KindSource.kinds_of c.args.table.now) (g.K.KindSource.pairs_of c.args.table.now) c.args.text.now c.args.limits.now c.args.state.now to_come c.new-window.result come c.new-window.ensures.home
    (λ cuts rising is. c.new-window.ensures.are cell cuts rising is)) come.chunks

pub returns-then-not-are_limits : goal.returns-then-not-are_limits
returns-then-not-are_limits g c = record {
  within = search rules;
  start = λ cell profile to_come. chunks-start cell (g.K.KindSource.kinds_of c.args.table.now) (g.K.KindSource.pairs_of c.args.table.now) c.args.text.now c.args.limits.now profile c.args.state.now to_come;
  gives = search rules;
  told = search rules;
  none = search rules;
  out_of_range = search rules;
  unknown = search rules;
}

pub returns-then-state-gt-GREATEST_PROFILE : goal.returns-then-state-gt-GREATEST_PROFILE
returns-then-state-gt-GREATEST_PROFILE g c = record {
  within = search rules;
  start = λ cell profile to_come. chunks-start cell (g.K.KindSource.kinds_of c.args.table.now) (g.K.KindSource.pairs_of c.args.table.now) c.args.text.now c.args.limits.now profile c.args.state.now to_come;
  gives = λ cell to_come come.
      let comes = come.stands.ahead.comes in
      absurd (unnamed c.args.state.now.place.breaks.profile comes.profile (omega (arith, c.if-state-gt-GREATEST_PROFILE.true)) comes.named);
  told = search rules;
  none = search rules;
  out_of_range = search rules;
  unknown = search rules;
}

pub returns-then-count-eq0 : goal.returns-then-count-eq0
returns-then-count-eq0 g c = record {
  within = search rules;
  start = λ cell profile to_come. chunks-start cell (g.K.KindSource.kinds_of c.args.table.now) (g.K.KindSource.pairs_of c.args.table.now) c.args.text.now c.args.limits.now profile c.args.state.now to_come;
  gives = λ cell to_come come.
      let first = given g (goal.at.returns-then-count-eq0 g c).After-give_chunks-count cell to_come come in
      record { count = omega (arith, first.1, c.if-count-eq0.true); front = search rules; rest = search rules };
  told = search rules;
  none = search rules;
  out_of_range = search rules;
  unknown = search rules;
}

pub returns : goal.returns
returns g c = record {
  within = search rules;
  start = λ cell profile to_come. chunks-start cell (g.K.KindSource.kinds_of c.args.table.now) (g.K.KindSource.pairs_of c.args.table.now) c.args.text.now c.args.limits.now profile c.args.state.now to_come;
  gives = λ cell to_come come.
      let all = given g (goal.at.returns g c).After-give_chunks-count cell to_come come in
      let first = all.0 in
      let here = c.give_chunks-count.new.here in
      let stands = first.stands (omega (arith, c.if-count-eq0.false)) in
      let p = c.place_of.ensures cell come.cuts here.words first.knows.rising first.knows.kept first.knows.home stands in
      record {
        count = all.1;
        front = first.front;
        rest =
            come-on cell (g.K.KindSource.kinds_of c.args.table.now) (g.K.KindSource.pairs_of c.args.table.now) c.args.text.now c.args.limits.now come.cuts here c.place_of.result (drop c.give_chunks-count.result to_come)
            come.in_range first.knows.rising first.knows.told stands p.0 p.1 first.rest;
      };
  told = search rules;
  none = search rules;
  out_of_range = search rules;
  unknown = search rules;
}
