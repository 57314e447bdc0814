-- What `chunk` writes: a line for each chunk, or a JSON object (RFC 8259) with its text. Numbers are decimal, and
-- offsets count bytes of the whole text.
use Rattle.std.specs.Prelude.{◌≡◌, ℕ, Bool, true, List, [], ◌∷◌, ◌++◌, codes, decimal, Option, None, Some}
use Rattle.std.specs.Prelude.{if◌then◌else◌, option_map}
use Rattle.std.specs.List.{flat_map}
use Rattle.json.specs.Print.{print}
use Rattle.json.specs.Token.{Token, begin_object, end_object, key, number, string}
use Rattle.lbk_rules.specs.Codes.{kind_numbered, rule_numbered}
use Rattle.lbk_rules.specs.Labels.{label_of}
use Rattle.lbk_rules.specs.declared.Cell.{Cell}
use Rattle.lbk_values.specs.declared.profile.Profile.{Profile}
use Rattle.lbk_passage.specs.Marks.{Marked, text_of}
use Rattle.lbk_passage.specs.Lines.{kind_name, part}
use Rattle.lbk_chunks.specs.declared.chunk.Chunk.{Chunk}
use Rattle.lbk_chunks.specs.declared.chunk.Limits.{Limits}
use Rattle.lbk_chunks.specs.Chunks.{AreChunks, text_start}
use Rattle.lbk_chunk_reader.specs.Cuts.{cuts_of_passages}
use Rattle.lbk_chunk_reader.specs.Held.{chunk_text}
use Rattle.lbk_chunk_reader.specs.Settled.{AreSettled}
use Rattle.lbk_args.specs.declared.order.Part.{Part}
use Rattle.lbk_args.specs.declared.order.Sizes.{Sizes}
use Rattle.lbk_cmd.specs.Ranges.{begins_in}
use Rattle.lbk_cmd.specs.Run.{Writing}
use Rattle.lbk_cmd.specs.declared.chunked.Asked.{Asked}

-- C, a chunk's start and end, its number of words, and the kind and the rule at its end
abbrev pub chunk_line : Chunk → List ℕ
chunk_line c = part (codes "C") c.start c.end
    ++ (32 ∷ (decimal c.words
    ++ (32 ∷ (kind_name (kind_numbered c.kind) ++ (32 ∷ (label_of (rule_numbered c.rule) ++ 10 ∷ []))))))

-- the member with the name of a file, if there is one
abbrev pub file_member : Option (List ℕ) → List Token
file_member None = []
file_member (Some name) = key (codes "file") ∷ string name ∷ []

-- an object with the name of a file, a chunk's start and end, its number of words, and this text
abbrev pub object_of : Option (List ℕ) → List ℕ → Chunk → List Token
object_of file text c =
    begin_object ∷ (file_member file
    ++ (key (codes "start") ∷ number (decimal c.start) ∷ key (codes "end") ∷ number (decimal c.end)
    ∷ key (codes "words") ∷ number (decimal c.words) ∷ key (codes "text") ∷ string text ∷ end_object ∷ []))

abbrev pub object_line : Option (List ℕ) → List ℕ → Chunk → List ℕ
object_line file text c = print (object_of file text c) ++ 10 ∷ []

-- the line of a chunk, or its object if it is given its text; only the object names the file
abbrev pub line_with : Option (List ℕ) → Option (List ℕ) → Chunk → List ℕ
line_with file None c = chunk_line c
line_with file (Some text) c = object_line file text c

-- which chunks to write, and how: those that begin in a range, or all; each as an object with its text, or as a line;
-- and the name of the file in each object, if there is one
pub record Wanted : Type 0 where
  pub range : Option Part
  pub texts : Bool
  pub file : Option (List ℕ)

abbrev pub wanted_of : Asked → Wanted
wanted_of asked = record {
  range = asked.range;
  texts = asked.texts;
  file = option_map (λ name. name.now) asked.file;
}

-- a chunk that begins at this byte is in the range, if there is one
abbrev pub is_asked : Option Part → ℕ → Bool
is_asked None start = true
is_asked (Some range) start = begins_in range start

abbrev pub line_in : Wanted → Option (List ℕ) → Chunk → List ℕ
line_in wanted text c = if is_asked wanted.range c.start then line_with wanted.file text c else []

-- that of a chunk of a text
abbrev pub asked_line : Wanted → List ℕ → Chunk → List ℕ
asked_line wanted text c = line_in wanted (if wanted.texts then Some (chunk_text text c) else None) c

abbrev pub chunk_lines : Wanted → List ℕ → List Chunk → List ℕ
chunk_lines wanted text chunks = flat_map (asked_line wanted text) chunks

-- those of the chunks that begin in adjacent ranges: the first from byte `from` on, each up to one of these bytes,
-- where the next begins
abbrev pub lines_by_ranges : Wanted → List ℕ → ℕ → List ℕ → List Chunk → List ℕ
lines_by_ranges wanted text from [] chunks = []
lines_by_ranges wanted text from (to ∷ tos) chunks =
    chunk_lines (record wanted { range = Some (record { from = from; to = to }) }) text chunks
    ++ lines_by_ranges wanted text to tos chunks

-- the lines of the chunks of a text with these passages, and of the chunks that its first passages settle
abbrev pub AreLinesOf : Wanted → Limits → (ℕ → Cell) → List (List Marked) → List ℕ → Type 0
AreLinesOf wanted limits cell passages out =
    (chunks : List Chunk) × AreChunks limits (cuts_of_passages cell 0 0 passages) text_start chunks
    × (out ≡ chunk_lines wanted (flat_map text_of passages) chunks)

abbrev pub AreSettledLinesOf : Wanted → Limits → (ℕ → Cell) → List (List Marked) → List ℕ → Type 0
AreSettledLinesOf wanted limits cell passages out =
    (chunks : List Chunk) × AreSettled limits (cuts_of_passages cell 0 0 passages) chunks
    × (out ≡ chunk_lines wanted (flat_map text_of passages) chunks)

-- that of `chunk`
abbrev pub chunking : Wanted → Limits → (ℕ → Cell) → Profile → ℕ → Writing
chunking wanted limits cell profile limit = record {
  Settled = AreSettledLinesOf wanted limits cell;
  Whole = AreLinesOf wanted limits cell;
  cell = cell;
  profile = profile;
  limit = limit;
}

-- the limits of chunks of these sizes
abbrev pub limits_of : Sizes → Limits
limits_of sizes = record { most = sizes.most; words = sizes.words; least = sizes.least; overlap = sizes.overlap }
