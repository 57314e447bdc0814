use Rattle.std.proofs.Common.{◌≡◌, ◌+◌, ◌++◌, ◌<◌, [], length, drop, encode_utf8, chars, inl, inr, sym, ap, ◌∙◌, arith}
use Rattle.std.proofs.lemmas.Bool.{cases_lt}
use Rattle.std.proofs.lemmas.List.{nil_from_length}
use Rattle.std.proofs.lemmas.Str.{chars-nil}
use Rattle.lbk_rules.specs.declared.Cell.{Cell}
use Rattle.lbk_passage.proofs.ReadLemmas.{next-splits, reads}
use Rattle.lbk_passage.specs.Stays.{ends_at}
use Rattle.lbk_passage.proofs.Passing.{Passes-none, Passes-more, Passes-stops}
use Rattle.lbk_passage.proofs.reach.reach_in.Goals as goal

pub loop-c-init : goal.loop-c-init
loop-c-init g c = Passes-none c.utf8.piece

pub pass_quiet-quiet-requires-clause-order : goal.pass_quiet-quiet-requires-clause-order
pass_quiet-quiet-requires-clause-order g c = elim (cases_lt c.floor_char_boundary-most.result c.loop-c.here.len) [
  | inl less ↦ absurd (c.floor_char_boundary-most.ensures.nearest c.loop-c.here.len less c.loop-c.invariant.within c.loop-c.invariant.place)
  | inr within ↦ within
]

pub range_from-requires : goal.range_from-requires
range_from-requires g c = λ _. (c.pass_quiet-quiet.ensures.passes c.args.last c.args.room c.floor_char_boundary-most.ensures.bound c.loop-c.invariant).place

pub returns-in_default : goal.returns-in_default
returns-in_default g c =
    let behind = drop c.pass_quiet-quiet.result.len c.args.piece.now in
    let empty : length behind ≡ 0 =
    ap length (sym (c.chars-scalars.ensures.rest ∙ c.range_from.ensures.value)) ∙ c.in_default.ensures.steps.0.0 in
    let none : chars behind ≡ [] = ap chars (nil_from_length behind empty) ∙ chars-nil in
    Passes-stops c.utf8.piece c.stops.result
    (c.pass_quiet-quiet.ensures.passes c.args.last c.args.room c.floor_char_boundary-most.ensures.bound c.loop-c.invariant) (c.stops.ensures.0, c.stops.ensures.1)
    (rw c.stops.ensures.2 none)

pub returns-then-ends_at : goal.returns-then-ends_at
returns-then-ends_at g c =
    let quiet = c.pass_quiet-quiet.result in
    let passes = c.pass_quiet-quiet.ensures.passes c.args.last c.args.room c.floor_char_boundary-most.ensures.bound c.loop-c.invariant in
    let more = c.next.new.self.rest.now in
    let splits : drop quiet.len c.args.piece.now ≡ encode_utf8 c.in-Some.c ++ more =
    sym (c.chars-scalars.ensures.rest ∙ c.range_from.ensures.value) ∙ c.in-Some.ensures.steps.0 in
    let r = reads c.args.piece.now more quiet.len c.in-Some.c c.utf8.piece passes.place splits in
    let ends = ap (λ (k : Cell). ends_at quiet.last k.class) (sym c.cell-class.ensures) ∙ sym c.ends_at.ensures ∙ c.if-ends_at.true in
    Passes-stops c.utf8.piece c.stops-then-ends_at.result passes
    (c.stops-then-ends_at.ensures.0, c.stops-then-ends_at.ensures.1) (rw c.stops-then-ends_at.ensures.2 (c.in-Some.c, chars more, r.begins, ends))

pub returns-then-next-room : goal.returns-then-next-room
returns-then-next-room g c =
    let quiet = c.pass_quiet-quiet.result in
    let passes = c.pass_quiet-quiet.ensures.passes c.args.last c.args.room c.floor_char_boundary-most.ensures.bound c.loop-c.invariant in
    let splits = next-splits c.in-Some.c (c.chars-scalars.ensures.rest ∙ c.range_from.ensures.value) c.in-Some.ensures.steps.0 c.as_str.ensures in
    let r = reads c.args.piece.now c.as_str.result.now quiet.len c.in-Some.c c.utf8.piece passes.place splits in
    let none = ap (λ (k : Cell). ends_at quiet.last k.class) (sym c.cell-class.ensures) ∙ sym c.ends_at.ensures ∙ c.if-ends_at.false in
    let long : c.args.room < quiet.len + length (encode_utf8 c.in-Some.c) = omega (arith, r.next_is, c.if-next-room.true) in
    Passes-stops c.utf8.piece c.stops-then-next-room.result passes
    (c.stops-then-next-room.ensures.0, c.stops-then-next-room.ensures.1)
    (rw c.stops-then-next-room.ensures.2 (c.in-Some.c, chars c.as_str.result.now, r.begins, none, long))

pub loop-c-preserved : goal.loop-c-preserved
loop-c-preserved g c =
    let passes = c.pass_quiet-quiet.ensures.passes c.args.last c.args.room c.floor_char_boundary-most.ensures.bound c.loop-c.invariant in
    let splits = next-splits c.in-Some.c (c.chars-scalars.ensures.rest ∙ c.range_from.ensures.value) c.in-Some.ensures.steps.0 c.as_str.ensures in
    let none = ap (λ (k : Cell). ends_at c.pass_quiet-quiet.result.last k.class) (sym c.cell-class.ensures) ∙ sym c.ends_at.ensures ∙ c.if-ends_at.false in
    rw c.cell-class.ensures (Passes-more c.utf8.piece c.as_str.result.now passes splits none (omega (arith, c.if-next-room.false)))
