-- What the call promises that gives the next chunks of a text: each clause once.
use Rattle.std.specs.Prelude.{◌≡◌, ℕ, ◌<◌, ◌≤◌, false, true, List, drop, length, min, take}
use Rattle.lbk_rules.specs.declared.Cell.{Cell}
use Rattle.lbk_rules.specs.declared.neighbours.Neighbours.{Neighbours}
use Rattle.lbk_values.specs.declared.profile.Profile.{Profile}
use Rattle.lbk_rules.specs.FlatTable.{IsFlatBy}
use Rattle.lbk_chunks.specs.declared.chunk.Chunk.{Chunk}
use Rattle.lbk_chunks.specs.declared.chunk.ChunkState.{ChunkState}
use Rattle.lbk_chunks.specs.declared.chunk.Limits.{Limits}
use Rattle.lbk_chunks.specs.Chunks.{AreChunks, AreTold, are_limits, text_start}
use Rattle.lbk_chunks.specs.Coming.{ChunksCome, state_start}
use Rattle.lbk_chunks.specs.Cuts.{cuts_of}

-- if these are to come from a state on, the call gives as many of them as it has room for, and the others are to come
-- from the new state on
pub record ChunksNext (Come : ChunkState → List Chunk → Type 0) (new : ChunkState) (room : ℕ) (out : List Chunk)
    (result : ℕ) (to_come : List Chunk) : Type 0 where
  pub count : result ≡ min room (length to_come)
  pub front : take result out ≡ take result to_come
  pub rest : Come new (drop result to_come)

-- the call with these limits, over a text, with room for `room` chunks
pub record GivesChunks (kinds : List ℕ) (pairs : Neighbours) (limits : Limits) (text : List ℕ) (old new : ChunkState)
    (room : ℕ) (out : List Chunk) (result : ℕ) : Type 0 where
  pub within : result ≤ room
  pub start : (cell : ℕ → Cell) (profile : Profile) (to_come : List Chunk) → IsFlatBy kinds pairs cell
      → are_limits limits ≡ true
      → old ≡ state_start profile → AreChunks limits (cuts_of profile cell text) text_start to_come
      → ChunksCome cell kinds pairs text limits old to_come
  pub gives : (cell : ℕ → Cell) (to_come : List Chunk) → ChunksCome cell kinds pairs text limits old to_come
      → ChunksNext (ChunksCome cell kinds pairs text limits) new room out result to_come
  -- with any table and state
  pub told : AreTold old.told new.told (length text) (take result out)
  pub none : result ≡ 0 → new ≡ old
  pub out_of_range : are_limits limits ≡ false → result ≡ 0
  pub unknown : 3 < old.place.breaks.profile → result ≡ 0
