-- States.
use Rattle.std.specs.Prelude.{ℕ, ◌+◌, Bool, if◌then◌else◌}
use Rattle.lbk_values.specs.declared.profile.Profile.{Profile}
pub use Rattle.lbk_bytes.specs.Profiles.{goes_on, plain_number, profile_number, profile_numbered}
use Rattle.lbk_calls.specs.declared.interface.State.{State}

-- the state at the start of a text
abbrev pub start_in : Profile → State
start_in profile = record { at = 0; row = 0; profile = profile_number profile; ended = 0 }

-- the state with only the profile in its number
abbrev pub plain : State → State
plain state = record {
  at = state.at;
  row = state.row;
  profile = plain_number state.profile;
  ended = state.ended;
}

-- the state at the start of a part of a text, which begins at a byte of it, and after which the text goes on or ends
abbrev pub part_start : Bool → Profile → ℕ → State
part_start goes_on profile at =
    record {
      at = at;
      row = 0;
      profile = if goes_on then 2 + profile_number profile else profile_number profile;
      ended = 0;
    }
