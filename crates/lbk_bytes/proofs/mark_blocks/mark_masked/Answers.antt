use Rattle.std.proofs.Common.{◌≡◌, [], ◌<◌, ◌≤◌, ◌+◌, ◌-◌, ◌*◌, ◌&&◌, ◌||◌, ◌++◌, false, leb, length, refl, sym, ap, subst, ◌∙◌, ⊎_elim, arith}
use Rattle.std.proofs.lemmas.Bool.{and_right, cases_lt}
use Rattle.lbk_masks.specs.Sets.{is_set}
use Rattle.lbk_bytes.specs.Blocks.{Rests, byte_at, end_at, row_before}
use Rattle.lbk_bytes.specs.Marking.{uncounted}
use Rattle.lbk_bytes.specs.Marks.{boundary_from, is_marked}
use Rattle.lbk_bytes.specs.Reached.{Reached}
use Rattle.lbk_bytes.proofs.BlockBeginLemmas.{is-block}
use Rattle.lbk_bytes.proofs.BlockScalarLemmas.{end-low, rest-row}
use Rattle.lbk_bytes.proofs.BoundaryLemmas.{block-boundary}
use Rattle.lbk_bytes.proofs.MarkBitLemmas.{none-past}
use Rattle.lbk_bytes.proofs.MarkBlockLemmas.{block-from, block-taken, recount}
use Rattle.lbk_bytes.proofs.MarkLemmas.{Marked-more, below-wider, marked-past, or-false}
use Rattle.lbk_bytes.proofs.mark_blocks.mark_masked.Goals as goal

pub behind_byte-requires : goal.behind_byte-requires
behind_byte-requires c = (
  omega arith,
  c.taken_from-taken.ensures.inside c.args.text.now c.args.at (omega arith) c.requires.ends,
)

pub returns-clause-within : goal.returns-clause-within
returns-clause-within c =
    let taken = c.taken_from-taken.ensures in
    let inside = taken.inside c.args.text.now c.args.at (omega arith) c.requires.ends in
    let place = c.behind_byte.ensures.place.1 in
    (omega arith, omega (arith, taken.within.0, place), omega (arith, inside, place))

pub returns-clause-after : goal.returns-clause-after
returns-clause-after c = λ i past.
    let index = c.args.at - c.args.from in
    let kept = c.kept_up_to.result in
    let is_at = c.behind_byte.ensures.place.1 in
    let none : is_set kept (i - index) ≡ false =
    ⊎_elim (λ (few : i - index < 64). c.kept_up_to.ensures.none (i - index) (omega arith) few) (λ (far : 64 ≤ i - index). none-past kept (i - index) (omega arith) far) (cases_lt (i - index) 64) in
    ⊎_elim
    (λ (within : i < 64 * length c.args.words.now).
    c.mark_bits.ensures i within
    ∙ or-false (is_marked c.args.words.now i) (leb index i && is_set kept (i - index)) (and_right (leb index i) (is_set kept (i - index)) none))
    (λ (behind : 64 * length c.args.words.now ≤ i).
    marked-past c.mark_bits.new.words i (omega arith) ∙ sym (marked-past c.args.words.now i behind))
    (cases_lt i (64 * length c.args.words.now))

pub returns-clause-marked : goal.returns-clause-marked
returns-clause-marked c = λ profile cell steps kinds more all swift are_kinds told are_marks m.
    let text = c.args.text.now in
    let pairs = c.args.pairs.now in
    let at = c.args.at in
    let here = c.args.here in
    let there = c.behind_byte.result in
    let marks = c.args.marks in
    let begin = here.at - at in
    let is_at : here.at ≡ at + begin = omega arith in
    let taken = c.taken_from-taken.result in
    let tells = c.taken_from-taken.ensures in
    let some = tells.within.0 in
    let kept = c.kept_up_to.result in
    let room : at + taken ≤ length text = tells.inside text at (omega arith) c.requires.ends in
    let rests : Rests pairs here text = c.is_told_behind.ensures c.if-not-is_told_behind.false in
    Marked-more profile cell (text ++ more) all c.args.from (length text) here there c.args.words.now c.mark_bits.new.words (omega arith)
    (λ rest start.
    let block = is-block profile cell steps kinds pairs text at begin taken marks here swift are_kinds told (λ i. (c.type_inv.text i).fits)
    are_marks rests is_at some tells.within.1 room start.knows.0 tells.told tells.stops in
    let low : byte_at text (at + begin - 1) < 192 = subst (λ n. byte_at text (n - 1) < 192) is_at rests.below in
    let is_row : here.row ≡ row_before pairs text (at + begin) = subst (λ n. here.row ≡ row_before pairs text n) is_at (rest-row pairs here text start.knows.0 rests) in
    let begun = subst (λ n. Reached profile cell (text ++ more) rest (record { count = 0; row = here.row; at = n }) []) is_at start in
    let all_taken = block-taken profile cell text more rest steps kinds pairs here.row at begin taken marks.standing c.kept_from.result kept some block
    (λ i h. are_marks.standing i (omega arith) (omega arith)) c.kept_from.ensures c.kept_up_to.ensures is_row low begun in
    let place = c.behind_byte.ensures.place.1 in
    let left = taken - begin in
    let whole : at + taken ≡ at + begin + left = omega arith in
    let further = block-from profile cell steps kinds pairs text at begin taken some block in
    record {
      given = all_taken.given;
      reached = recount profile cell (text ++ more) rest _ (uncounted there) all_taken.given all_taken.given
          (c.behind_byte.ensures.row) place refl all_taken.reached;
      below = below-wider (at + taken) (length text) all_taken.given (omega arith) all_taken.below;
      marked = λ i h. c.mark_bits.ensures i h ∙ ap (λ b. is_marked c.args.words.now i || b) (all_taken.bits c.args.from i (omega arith) (omega arith));
      boundary =
          ap (λ n. boundary_from (text ++ more) n (length text)) (place ∙ sym (end-low text (at + taken) block.ends))
          ∙ ap (λ n. boundary_from (text ++ more) (end_at text n) (length text)) whole
          ∙ block-boundary profile cell text more steps kinds pairs (at + begin) left left (length text) (omega arith) further low (omega arith) (omega arith)
          ∙ ap (λ n. boundary_from (text ++ more) n (length text)) (sym is_at);
    }) m
