-- The packed form of a list of kinds: a head, and a record for each run.
use Rattle.std.specs.Prelude.{ℕ, ◌+◌, ◌-◌, ◌/◌, ◌%◌, List, [], ◌∷◌, ◌++◌, codes, if◌then◌else◌, nat_lt}
use Rattle.std.specs.Int.{to_le_bytes, w64}
use Rattle.std.specs.List.{flat_map}
use Rattle.lbk_rules.specs.FlatTable.{digest_of_bytes}
use Rattle.lbk_calls.specs.declared.runs.Run.{Run}
use Rattle.lbk_calls.specs.Runs.{runs_of}

-- a run of up to 128 codes: its kind, and how many codes follow the first; of more codes this number has three bytes,
-- the low ones first, of which the first has the high bit
abbrev pub record_with : ℕ → ℕ → List ℕ
record_with kind more = if nat_lt more 128 then kind ∷ more ∷ []
    else kind ∷ (128 + more % 128) ∷ (more / 128 % 256) ∷ (more / 32768) ∷ []

abbrev pub record_of : Run → List ℕ
record_of run = record_with run.kind (run.length - 1)

-- the records of a list of kinds
abbrev pub records_of : List ℕ → List ℕ
records_of kinds = flat_map record_of (runs_of kinds)

-- what stands behind the version: the digest of the records, its low byte first, and these
abbrev pub body_of : List ℕ → List ℕ
body_of kinds = to_le_bytes w64 (digest_of_bytes (records_of kinds)) ++ records_of kinds

-- the packed form of a list of kinds: three letters, the version of the form, and its body
abbrev pub packed : ℕ → List ℕ → List ℕ
packed version kinds = codes "lbk" ++ (version ∷ body_of kinds)
