use Rattle.std.proofs.Common.{◌≡◌, ◌++◌, ◌-◌, ◌<◌, ◌≤◌, false, drop, take, encode_utf8, chars, slice_index_or, rules, ap, sym, subst, ◌∙◌, arith}
use Rattle.std.specs.Char.{IsScalar}
use Rattle.std.proofs.lemmas.Str.{IsUtf8-drop, scalars-chars, encodes-chars}
use Rattle.lbk_passage.specs.Flags.{ArePassed, is_end}
use Rattle.lbk_passage.proofs.Passing.{Passes-calm, Passes-last, calm-joined, calm-passed, place-passed}
use Rattle.lbk_passage.proofs.reach.pass_quiet.Goals as goal

pub range-requires-clause-end_boundary : goal.range-requires-clause-end_boundary
range-requires-clause-end_boundary g c =
    place-passed (g.C.CellSource.cell_of c.args.known.now.cells.now) c.args.known.now.flags.is_quiet c.args.piece.now c.past_quiet-len.result c.args.most c.args.known.now.quiet c.requires.most
    c.past_quiet-len.ensures.within.1
    (subst (λ l. c.past_quiet-len.result < c.args.most → slice_index_or c.args.known.now.flags.is_quiet (slice_index_or l c.past_quiet-len.result 0) false ≡ false)
    c.as_bytes.ensures.value c.past_quiet-len.ensures.stops)

pub returns-clause-passes : goal.returns-clause-passes
returns-clause-passes g c = λ first room enough passes.
    let cell = g.C.CellSource.cell_of c.args.known.now.cells.now in
    let is_quiet = c.args.known.now.flags.is_quiet in
    let piece = c.args.piece.now in
    let here = c.args.here in
    let len = c.past_quiet-len.result in
    let within = c.past_quiet-len.ensures.within in
    let place = place-passed cell is_quiet piece len c.args.most c.args.known.now.quiet c.requires.most within.1
    (subst (λ l. len < c.args.most → slice_index_or is_quiet (slice_index_or l len 0) false ≡ false) c.as_bytes.ensures.value c.past_quiet-len.ensures.stops) in
    let text = IsUtf8-drop piece here.len c.utf8.piece passes.place in
    let calm : is_end here.last ≡ false = sym c.is_end.ensures ∙ c.if-is_end.false in
    let passed = subst (λ l. ArePassed is_quiet l c.past_calm-calm.result len) c.as_bytes.ensures.value c.past_quiet-len.ensures.passed in
    let behind = calm-joined cell piece here.len c.past_calm-calm.result len c.past_calm-calm.ensures.calm
    (calm-passed cell is_quiet piece c.past_calm-calm.result len c.args.known.now.quiet passed) in
    let before : here.len ≤ len = omega (arith, c.past_calm-calm.ensures.within.0, within.0) in
    let all = Passes-calm c.utf8.piece len place (omega (arith, within.1, enough))
    (chars (drop here.len piece)) here.len here.last passes calm (scalars-chars (drop here.len piece) text)
    (sym (encodes-chars (drop here.len piece) text)) before behind in
    let is_scalar : IsScalar c.in-Some.last = search rules in
    let rest = c.next_back.new.self.rest.now in
    let from_start : len - 0 ≡ len = omega arith in
    let splits : take len piece ≡ rest ++ encode_utf8 c.in-Some.last =
    ap (λ n. take n piece) (sym from_start) ∙ sym (c.chars.ensures.rest ∙ c.range.ensures.value) ∙ c.in-Some.ensures.steps in
    rw c.cell.ensures (Passes-last c.utf8.piece len all.0 rest c.in-Some.last all.1 is_scalar splits)
