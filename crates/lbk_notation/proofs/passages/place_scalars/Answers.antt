use Rattle.std.proofs.Common.{◌<◌, ◌∷◌, ◌++◌, append-nil, length, refl, subst, sym, take, ap, ◌∙◌, arith, chars}
use Rattle.std.specs.Str.Iter.{chars_rest}
use Rattle.std.proofs.lemmas.Str.{IsUtf8-past_char}
use Rattle.lbk_notation.specs.Grammar.{mark_bytes}
use Rattle.lbk_notation.specs.Shown.{marks_of}
use Rattle.lbk_notation.specs.Written.{shown, token, written_after}
use Rattle.lbk_notation.specs.declared.marks.Form.TheVariants.{Kinds}
use Rattle.lbk_passage.specs.Placing.{Placed}
use Rattle.lbk_passage.proofs.Places.{Placed-then}
use Rattle.lbk_rules.specs.declared.Verdict.{Verdict}
use Rattle.lbk_rules.specs.declared.Kind.TheVariants.{No}
use Rattle.lbk_rules.specs.declared.Rule.TheVariants.{Lb2}
use Rattle.lbk_notation.proofs.LineWriting.{next-part, next-rest, no_end, written_after-none}
use Rattle.lbk_notation.proofs.passages.place_scalars.Goals as goal

abbrev none : Verdict
none = record { kind = No; rule = Lb2 }

pub loop-verdict-init : goal.loop-verdict-init
loop-verdict-init c =
    let before = take c.args.at c.args.buf.now in
    record {
      placed = record {
        bytes = sym (ap (λ l. before ++ l) (written_after-none Kinds (chars (chars_rest c.args.scalars.now))) ∙ append-nil before);
        moved = omega (arith, ap length (written_after-none Kinds (chars (chars_rest c.args.scalars.now))));
        len = refl;
      };
      short = omega arith;
      utf8 = c.requires.utf8;
      rest = refl;
    }

pub loop-verdict-preserved : goal.loop-verdict-preserved
loop-verdict-preserved c =
    let l = c.loop-verdict in
    let verdicts = c.args.verdicts.now in
    let all = chars (chars_rest c.args.scalars.now) in
    let rest = chars_rest l.scalars in
    let more = chars_rest c.next.new.self in
    let scalar = c.in-Some.scalar in
    let splits = c.in-Some.ensures.steps.0 in
    let here = c.loop-verdict-test.true in
    let within : l.verdict-index < length all = omega (arith, here, c.requires.some) in
    let mark = ap (λ m. 32 ∷ (token scalar ++ (32 ∷ mark_bytes (shown Kinds m)))) c.mark_of.ensures in
    let text = ap (λ t. written_after Kinds all (marks_of (take l.verdict-index verdicts)) ++ t) mark
    ∙ next-part all rest more verdicts l.verdict-index scalar none here c.requires.some l.invariant.utf8 splits l.invariant.rest in
    record {
      placed = subst (λ t. Placed c.args.buf.now c.place_scalar-behind.new.buf c.args.at t c.place_scalar-behind.result) text
          (Placed-then l.invariant.placed c.place_scalar-behind.ensures.placed);
      short = omega (arith, l.invariant.short, c.place_scalar-behind.ensures.short);
      utf8 = IsUtf8-past_char rest more scalar l.invariant.utf8 splits;
      rest = next-rest all rest more l.verdict-index scalar within l.invariant.utf8 splits l.invariant.rest;
    }

pub returns-in_default-clause-placed : goal.returns-in_default-clause-placed
returns-in_default-clause-placed c =
    let l = c.loop-verdict in
    absurd (no_end (chars (chars_rest c.args.scalars.now)) (chars_rest l.scalars) l.verdict-index (omega (arith, c.loop-verdict-test.true, c.requires.some))
    l.invariant.rest c.in_default.ensures.steps.0.0)

pub returns-in_default-clause-rest : goal.returns-in_default-clause-rest
returns-in_default-clause-rest c =
    let l = c.loop-verdict in
    absurd (no_end (chars (chars_rest c.args.scalars.now)) (chars_rest l.scalars) l.verdict-index (omega (arith, c.loop-verdict-test.true, c.requires.some))
    l.invariant.rest c.in_default.ensures.steps.0.0)
