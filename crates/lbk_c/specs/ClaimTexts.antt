-- What a property file is that is not the published one, as its text crosses to C.
use Rattle.std.specs.Prelude.{◌≡◌, ℕ, List, [], Option, Some, None}
use Rattle.lbk_ucd.specs.declared.which.Which.{Which}
use Rattle.lbk_ucd.specs.declared.published.ClaimCause.{ClaimCause}
use Rattle.lbk_ucd.specs.ClaimTexts.{claim_text}
use Rattle.lbk_ucd.specs.Published.{IsNamedWrong}
use Rattle.lbk_calls.specs.Padding.{padded}

-- the 96 bytes of what a file of this name is, by what it says of itself; zeros where it is no file
abbrev pub IsClaimText : Option Which → List ℕ → List ℕ → Type 0
IsClaimText None contents text = text ≡ padded 96 []
IsClaimText (Some which) contents text = (cause : ClaimCause) × IsNamedWrong which contents cause
    × (text ≡ padded 96 (claim_text which cause))
