-- Empty property files.
use Rattle.std.proofs.Common.{◌≡◌, ℕ, zero, suc, ◌<◌, Bool, true, false, [], ◌∷◌, None, Some, ap, ap₂, refl, arith}
use Rattle.std.specs.List.{cons_option}
use Rattle.lbk_ucd.specs.File.{Format, IsLawful, cause_at, cause_beside, cause_of_meaning, default_meant, property_of, row_meant}
use Rattle.lbk_ucd.specs.PropertyLine.{default_of, meaning_of, nothing}
use Rattle.lbk_ucd.specs.Rows.{value_at}

-- an empty file has one line, which is blank
blank_says_nothing : (defaults : Bool) → meaning_of defaults [] ≡ Some nothing
unfolding meaning_of default_of
blank_says_nothing true = refl
blank_says_nothing false = refl

module _ {V : Type 0} where
  blank_in : (format : Format V) → cause_at format ([] ∷ []) 0 ≡ None
  unfolding cause_beside
  blank_in format = ap (cause_of_meaning format [] 0) (blank_says_nothing format.defaults)

  pub empty_lawful : (format : Format V) → IsLawful format []
  empty_lawful format = record { short = omega arith; lines = only }
    where
      only : (earlier : ℕ) → earlier < 1 → cause_at format ([] ∷ []) earlier ≡ None
      only zero lt = blank_in format
      only (suc n) lt = absurd (omega arith)

  pub empty_unlisted : (format : Format V) (code : ℕ) → property_of format [] code ≡ format.unlisted
  unfolding property_of
  empty_unlisted format code =
      ap₂ (λ row default. value_at (cons_option row []) (cons_option default []) format.unlisted code)
      (ap (row_meant format) (blank_says_nothing format.defaults))
      (ap (default_meant format) (blank_says_nothing format.defaults))
