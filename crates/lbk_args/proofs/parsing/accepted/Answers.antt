use Rattle.std.proofs.Common.{◌≡◌, ◌∙◌, Bool, true, false, is_some, not, ap, refl, sym}
use Rattle.clap.specs.declared.error.kind.ErrorKind.TheVariants.{MissingRequiredArgument, ValueValidation}
use Rattle.lbk_args.specs.Refusal.{IsMistake}
use Rattle.lbk_args.proofs.parsing.accepted.Goals as goal

missing : IsMistake MissingRequiredArgument
missing = ((λ e. absurd (cc)), (λ e. absurd (cc)), λ e. absurd (cc))

unfit : IsMistake ValueValidation
unfit = ((λ e. absurd (cc)), (λ e. absurd (cc)), λ e. absurd (cc))

pub returns-in_default-clause-refused : goal.returns-in_default-clause-refused
returns-in_default-clause-refused c = rw c.in_default.is (c.mistake.ensures MissingRequiredArgument missing)

pub returns-then-not-is_range-clause-refused : goal.returns-then-not-is_range-clause-refused
returns-then-not-is_range-clause-refused c =
    rw (c.in-Some.is, sym c.is_range.ensures ∙ c.if-not-is_range.true)
    (c.mistake-then-not-is_range.ensures ValueValidation unfit)

pub returns-then-not-is_sign-clause-refused : goal.returns-then-not-is_sign-clause-refused
returns-then-not-is_sign-clause-refused c =
    rw (c.in-Some.is, sym c.is_range.ensures ∙ c.if-not-is_range.false, sym c.is_sign.ensures ∙ c.if-not-is_sign.true)
    (c.mistake-then-not-is_sign.ensures ValueValidation unfit)

-- what is none is not
none_of : (b : Bool) → true ≡ not b → b ≡ false
none_of true is = is
none_of false is = refl

pub returns-in-Some-wrong_bytes-clause-refused : goal.returns-in-Some-wrong_bytes-clause-refused
returns-in-Some-wrong_bytes-clause-refused c =
    rw (
      c.in-Some.is,
      sym c.is_range.ensures ∙ c.if-not-is_range.false,
      sym c.is_sign.ensures ∙ c.if-not-is_sign.false,
      none_of _ (sym (ap is_some c.in-Some-wrong_bytes.is) ∙ c.wrong_bytes.ensures),
    )
    (c.refused_bytes.ensures ValueValidation unfit)
