-- What units spell, in a text.
use Rattle.std.proofs.Common.{◌≡◌, ◌+◌, List, [], ◌∷◌, refl, ap, ◌∙◌}
use Rattle.std.proofs.lemmas.List.{drop-drop}
use Rattle.bstr.specs.Utf8.{Decoded}
use Rattle.lbk_units.specs.Reached.{Follows, on_from}
pub use Rattle.lbk_words.proofs.WalkLemmas.{bytes-sizes as units-sizes}

-- a text has the scalars that it has
pub follows-text : {A : Type 0} (pieces_of : List A → List Decoded) (text : List A) → Follows pieces_of text (on_from pieces_of text)
follows-text pieces_of text at found inside front = record {
  piece = front.piece;
  begins = front.begins ∙ ap (λ us. front.piece ∷ pieces_of us) (drop-drop found.size at text);
  reads = front.reads;
  sized = front.sized;
}
