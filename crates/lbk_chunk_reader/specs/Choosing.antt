-- The choice of a chunk when only the first cuts are known.
use Rattle.std.specs.Prelude.{◌≡◌, Bool, true, List, [], ◌∷◌, ◌++◌, find}
use Rattle.lbk_chunks.specs.declared.chunk.Chunk.{Chunk}
use Rattle.lbk_chunks.specs.declared.chunk.Limits.{Limits}
use Rattle.lbk_chunks.specs.declared.cut.Cut.{Cut}
use Rattle.lbk_chunks.specs.declared.chunk.Here.{Here}
use Rattle.lbk_chunks.specs.Chunks.{after, chunk_to, cuts_past, end_of, may_start, start_among, start_at}

-- some cuts are known, and a chunk before them ends at this one, whatever follows them
pub record IsEndAmong (l : Limits) (here : Here) (ahead : List Cut) (is_whole : Bool) (end : Cut) : Type 0 where
  pub first : Cut
  pub known : List Cut
  pub are : ahead ≡ first ∷ known
  pub ends : (more : List Cut) → (is_whole ≡ true → more ≡ []) → end ≡ end_of l here first (known ++ more)

-- where the next chunk starts, by the known cuts past the end of this one and those up to it
abbrev pub start_among_known : Limits → Here → Cut → List Cut → List Cut → Here
start_among_known l here end [] told = start_at end end.at
start_among_known l here end (next ∷ _) told = start_among end (find (may_start l here end next) told)

-- the chunk from a start on, the start after it, and the cuts past that
pub record IsNextChunk (l : Limits) (here : Here) (cuts : List Cut) (chunk : Chunk) (next : Here) (left : List Cut) :
    Type 0 where
  pub first : Cut
  pub more : List Cut
  pub are : cuts_past here.told cuts ≡ first ∷ more
  pub is : chunk ≡ chunk_to l here (end_of l here first more)
  pub goes_on : next ≡ after l cuts here (end_of l here first more)
  pub leaves : left ≡ cuts_past next.start cuts
