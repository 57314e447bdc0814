-- The numbers of profiles.
use Rattle.std.specs.Prelude.{ℕ, ◌-◌, ◌==◌, ◌||◌, Bool, Option, Some, None, if◌then◌else◌}
use Rattle.lbk_values.specs.declared.profile.Profile.{Profile}
use Rattle.lbk_values.specs.declared.profile.Profile.TheVariants.{First, Second}

-- the number of a profile
abbrev pub profile_number : Profile → ℕ
profile_number First = 0
profile_number Second = 1

-- the profile that a number names
abbrev pub profile_numbered : ℕ → Option Profile
profile_numbered number = if number == 0 then Some First else (if number == 1 then Some Second else None)

-- whether a number of a profile says, too, that the text goes on after its end
abbrev pub goes_on : ℕ → Bool
goes_on number = number == 2 || number == 3

-- the number without that
abbrev pub plain_number : ℕ → ℕ
plain_number number = if goes_on number then number - 2 else number
