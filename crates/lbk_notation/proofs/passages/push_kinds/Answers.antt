use Rattle.std.proofs.Common.{◌≡◌, ◌+◌, ◌≤◌, ◌++◌, append_assoc, chars, length, sym, ap, ◌∙◌, arith, length-append, rules, take}
use Rattle.std.specs.Slice.Iter.{chunks_rest}
use Rattle.std.specs.Str.Iter.{chars_rest}
use Rattle.std.proofs.lemmas.List.{length-drop, take_at}
use Rattle.lbk_feed.proofs.Appended.{HasPut-before, on_err}
use Rattle.lbk_notation.specs.Shown.{marks_of, passage_marks}
use Rattle.lbk_notation.specs.Written.{written_after, written_line}
use Rattle.lbk_notation.specs.declared.marks.Form.TheVariants.{Kinds}
use Rattle.lbk_notation.proofs.LineWriting.{written-verdicts}
use Rattle.lbk_notation.proofs.passages.push_kinds.Goals as goal

pub loop-some-preserved : goal.loop-some-preserved
loop-some-preserved c =
    let l = c.loop-some in
    let out = l.out.items in
    let cs = chars (chars_rest l.scalars) in
    let some = c.in-Some.some.now in
    let left = chunks_rest c.next.new.self in
    let steps = c.in-Some.ensures.steps in
    let further = chars (chars_rest c.place_scalars-behind.new.scalars) in
    let parts : length (chunks_rest l.some-iterator) ≡ length some + length left = ap length steps.1.0 ∙ length-append some left in
    let few : length some ≤ length cs = omega (arith, parts, l.invariant.many) in
    let here : length out ≡ c.len-at.result = search rules in
    let back : length c.place_scalars-behind.new.buf ≡ c.extend_from_slice.new.self.len =
    c.place_scalars-behind.ensures.placed.len ∙ c.as_mut_slice.ensures.len in
    let appended : c.truncate.new.self.items ≡ out ++ written_after Kinds cs (marks_of some) =
    c.truncate.ensures.items ∙ ap (take c.place_scalars-behind.result) (take_at c.place_scalars-behind.new.buf _ c.extend_from_slice.new.self.len back)
    ∙ c.place_scalars-behind.ensures.placed.bytes
    ∙ ap (λ b. take c.len-at.result b ++ written_after Kinds cs (marks_of some)) (c.as_mut_slice.ensures.value ∙ c.in_ok-extend_from_slice.ensures.items)
    ∙ ap (λ b. b ++ written_after Kinds cs (marks_of some)) (take_at out _ c.len-at.result here) in
    record {
      utf8 = c.place_scalars-behind.ensures.utf8;
      many = omega (arith, ap length c.place_scalars-behind.ensures.rest, length-drop (length some) cs, parts, l.invariant.many);
      joined = ap (λ t. t ++ written_after Kinds further (marks_of left)) appended
          ∙ append_assoc out (written_after Kinds cs (marks_of some)) (written_after Kinds further (marks_of left))
          ∙ ap (λ t. out ++ t) (ap (λ r. written_after Kinds cs (marks_of some) ++ written_after Kinds r (marks_of left)) c.place_scalars-behind.ensures.rest
          ∙ sym (written-verdicts cs some left few)
          ∙ ap (λ v. written_after Kinds cs (marks_of v)) (sym steps.1.0))
          ∙ l.invariant.joined;
      longer = omega (arith, l.invariant.longer, ap length appended, length-append out (written_after Kinds cs (marks_of some)));
      size = steps.0 ∙ l.invariant.size;
    }

-- the list is as it was before these scalars, which belong behind it with those after them
pub returns-in_err-extend_from_slice-clause-refused : goal.returns-in_err-extend_from_slice-clause-refused
returns-in_err-extend_from_slice-clause-refused c =
    let l = c.loop-some in
    let old = c.args.out.now.items in
    let later = written_after Kinds (chars (chars_rest l.scalars)) (marks_of (chunks_rest l.some-iterator)) in
    let new = c.extend_from_slice.new.self.items in
    let longer : length old ≤ length new = omega (arith, l.invariant.longer, ap length c.in_err-extend_from_slice.ensures.items) in
    on_err c.from_residual-in_err-extend_from_slice.result
    (HasPut-before old new (written_line Kinds (passage_marks (chars c.args.text.now) c.args.verdicts.now)) later
    (ap (λ is. is ++ later) c.in_err-extend_from_slice.ensures.items ∙ l.invariant.joined) longer)
