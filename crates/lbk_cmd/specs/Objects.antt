-- The parts of the object of a chunk.
use Rattle.std.specs.Prelude.{ℕ, List, ◌++◌, Option, None, Some, codes, decimal}
use Rattle.json.specs.Print.{escape}
use Rattle.lbk_chunks.specs.declared.chunk.Chunk.{Chunk}

-- its first bytes, with the name of its file if it has one
abbrev pub opening : Option (List ℕ) → List ℕ
opening None = codes "{"
opening (Some name) = codes "{\"file\":\"" ++ (escape name ++ codes "\",")

-- the members behind, up to its text
abbrev pub front_of_object : Chunk → List ℕ
front_of_object c =
    codes "\"start\":" ++ (decimal c.start
    ++ (codes ",\"end\":" ++ (decimal c.end ++ (codes ",\"words\":" ++ (decimal c.words ++ codes ",\"text\":\"")))))
