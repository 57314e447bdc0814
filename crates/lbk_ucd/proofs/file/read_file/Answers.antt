use Rattle.std.proofs.Common.{refl, ap, ◌∙◌, arith, inl, inr}
use Rattle.lbk_ucd.specs.Shown.{shown_format, lines_left}
use Rattle.lbk_ucd.proofs.FileLemmas.{few_lines, next_within, next_growth, grown_before, refused, read_more, read_all, read_value}
use Rattle.lbk_ucd.proofs.file.read_file.Goals as goal

pub overflow_add-line : goal.overflow_add-line
overflow_add-line g c =
    let to = c.loop-rest.invariant in
    let next = to.left_is ∙ (ap lines_left c.in-Some.is ∙ c.first_line.ensures) in
    omega (
      arith,
      few_lines c.args.bytes.now,
      next_within (shown_format c.args.format.now) c.args.bytes.now c.loop-rest.line c.first_line.result.0.now (lines_left c.first_line.result.1) c.loop-rest.gathered
          next to.lawful to.keeps,
    )

pub returns-in-Err : goal.returns-in-Err
returns-in-Err g c =
    let to = c.loop-rest.invariant in
    let next = to.left_is ∙ (ap lines_left c.in-Some.is ∙ c.first_line.ensures) in
    record {
      lawful = tt;
      properties = tt;
      file = refl;
      refused = refused (shown_format c.args.format.now) c.args.bytes.now c.loop-rest.line c.first_line.result.0.now (lines_left c.first_line.result.1) c.loop-rest.gathered
          next to.lawful to.keeps
          c.in-Err.cause (omega arith) c.in-Err.ensures.answered;
    }

pub loop-rest-preserved-then-count : goal.loop-rest-preserved-then-count
loop-rest-preserved-then-count g c =
    let to = rw (ap lines_left c.in-Some.is ∙ c.first_line.ensures) at c.loop-rest.invariant in
    let taken = c.in_default-take_line.ensures in
    read_more to taken.none taken.adds
    (inr (next_growth _ _ _ _ _ _ to.left_is to.lawful to.keeps _ (omega arith) taken.none taken.adds (omega (arith, c.if-count.true, c.count.ensures.count, c.count-count.ensures.count))))

pub loop-rest-preserved : goal.loop-rest-preserved
loop-rest-preserved g c =
    let to = rw (ap lines_left c.in-Some.is ∙ c.first_line.ensures) at c.loop-rest.invariant in
    read_more to c.in_default-take_line.ensures.none c.in_default-take_line.ensures.adds
    (grown_before _ _ c.loop-rest.gathered c.take_line.new.gathered _ (omega (arith, c.if-count.false, c.count.ensures.count, c.count-count.ensures.count)) to.grows)

pub returns-in-Ok : goal.returns-in-Ok
returns-in-Ok g c =
    let to = rw (ap lines_left c.in_default.is) at c.loop-rest.invariant in
    record {
      lawful = read_all (shown_format c.args.format.now) c.args.bytes.now c.loop-rest.line c.loop-rest.gathered c.loop-rest.grown (omega arith) to;
      properties = λ code. c.in-Ok.ensures.values code
          ∙ read_value (shown_format c.args.format.now) c.args.bytes.now c.loop-rest.line c.loop-rest.gathered c.loop-rest.grown code to;
      file = tt;
      refused = tt;
    }

pub returns-in-Err-assigned : goal.returns-in-Err-assigned
returns-in-Err-assigned g c = record {
  lawful = tt;
  properties = tt;
  file = refl;
  refused = inr (
    refl,
    elim c.loop-rest.invariant.grows [
      | inl none ↦ absurd (omega (arith, none, c.in-Err-assigned.ensures.refused))
      | inr growth ↦ growth
    ],
  );
}
