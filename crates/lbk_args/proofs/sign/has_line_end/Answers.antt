use Rattle.std.proofs.Common.{◌≡◌, ℕ, Bool, true, false, List, ◌∷◌, chars, length, sym, ap, ◌∙◌}
use Rattle.std.specs.Prelude.{◌||◌}
use Rattle.std.proofs.lemmas.List.{nil_from_length}
use Rattle.std.proofs.lemmas.Str.{IsUtf8-past_char, chars-nil, chars_past_char}
use Rattle.lbk_args.specs.Sign.{ends_line, has_line_end}
use Rattle.lbk_args.proofs.sign.has_line_end.Goals as goal

ended : (rest more : List ℕ) (scalar : ℕ) (all : Bool) → has_line_end (chars rest) ≡ all
    → chars rest ≡ scalar ∷ chars more
    → ends_line scalar ≡ true → true ≡ all
ended rest more scalar all so_far first ends =
    sym (ap (λ b. b || has_line_end (chars more)) ends) ∙ sym (ap has_line_end first) ∙ so_far

further : (rest more : List ℕ) (scalar : ℕ) (all : Bool) → has_line_end (chars rest) ≡ all
    → chars rest ≡ scalar ∷ chars more
    → ends_line scalar ≡ false → has_line_end (chars more) ≡ all
further rest more scalar all so_far first goes =
    sym (ap (λ b. b || has_line_end (chars more)) goes) ∙ sym (ap has_line_end first) ∙ so_far

none_left : (rest : List ℕ) (all : Bool) → length rest ≡ 0 → has_line_end (chars rest) ≡ all → false ≡ all
none_left rest all none so_far = sym (ap has_line_end (ap chars (nil_from_length rest none) ∙ chars-nil)) ∙ so_far

pub loop-scalar-preserved : goal.loop-scalar-preserved
loop-scalar-preserved c = (
  IsUtf8-past_char _ _ c.in-Some.scalar c.loop-scalar.invariant.0 c.in-Some.ensures.steps.0,
  further _ _ c.in-Some.scalar _ c.loop-scalar.invariant.1
      (chars_past_char _ _ c.in-Some.scalar c.loop-scalar.invariant.0 c.in-Some.ensures.steps.0)
      (sym c.ends_line.ensures ∙ c.if-ends_line.false),
)

pub returns-then-ends_line : goal.returns-then-ends_line
returns-then-ends_line c =
    ended _ _ c.in-Some.scalar _ c.loop-scalar.invariant.1
    (chars_past_char _ _ c.in-Some.scalar c.loop-scalar.invariant.0 c.in-Some.ensures.steps.0) (sym c.ends_line.ensures
    ∙ c.if-ends_line.true)

pub returns : goal.returns
returns c = none_left _ _ c.in-None.ensures.steps.0.0 c.loop-scalar.invariant.1
