-- The clusters of a text.
use Rattle.std.proofs.Common.{◌≡◌, ℕ, ◌+◌, true, List, ◌∷◌, length, ap, ◌∙◌, length-append}
use Rattle.std.specs.List.{concat}
use Rattle.std.specs.Str.{IsUtf8}
use Rattle.unicode_segmentation.specs.Grapheme.{graphemes, is_grapheme_break}
use Rattle.unicode_segmentation.proofs.SegmentsLemmas.{concat-segments}
use Rattle.lbk_wrap.specs.Columns.{Cluster, size}

pub size-graphemes : (text : List ℕ) → IsUtf8 text → size (graphemes true text) ≡ length text
size-graphemes text utf8 = ap length (concat-segments (is_grapheme_break true) text utf8)

-- of the clusters that are left the first is taken
pub size-first : (left : List Cluster) (c : Cluster) (rest : List Cluster) → left ≡ c ∷ rest → size left ≡ length c + size rest
size-first left c rest e = ap size e ∙ length-append c (concat rest)
