-- A position told by what stands before it.
use Rattle.std.proofs.Common.{◌≡◌, ℕ, ◌+◌, ◌<◌, get_or, List, [], ◌∷◌, ◌++◌, length, take, drop, reverse, sym, ap, ◌∙◌}
use Rattle.std.proofs.lemmas.List.{reverse-append, drop_more, take-append-drop}
use Rattle.std.proofs.Math.Seq.{take-length, drop-length, take-append_seam, drop-append_seam}
use Rattle.lbk_uax14.specs.declared.cells.Cell.{Cell}
use Rattle.lbk_values.specs.declared.profile.Profile.{Profile}
use Rattle.lbk_uax14.specs.Chain.{from_cells}
use Rattle.lbk_uax14.specs.Verdict.{verdict_in, verdict_between_in}
use Rattle.lbk_uax14.proofs.ChainLemmas.{verdict_between-chain}

pub reverse-snoc : (cells : List Cell) (cell : Cell) → reverse (cells ++ cell ∷ []) ≡ cell ∷ reverse cells
reverse-snoc cells cell = reverse-append cells (cell ∷ [])

-- the verdict between some cells and what follows them
pub verdict_in-append : (profile : Profile) (cells more : List Cell)
    → verdict_in profile (cells ++ more) (length cells) ≡ verdict_between_in profile cells more
verdict_in-append profile cells more =
    ap (λ l. verdict_between_in profile l (drop (length cells) (cells ++ more))) (take-append_seam cells more)
    ∙ ap (λ r. verdict_between_in profile cells r) (drop-append_seam cells more)

pub verdict_in-chain : (profile : Profile) (cells more : List Cell)
    → verdict_in profile (cells ++ more) (length cells) ≡ from_cells profile (reverse cells) more
verdict_in-chain profile cells more = verdict_in-append profile cells more ∙ verdict_between-chain profile cells more

pub verdict_in-end : (profile : Profile) (cells : List Cell)
    → verdict_in profile cells (length cells) ≡ from_cells profile (reverse cells) []
verdict_in-end profile cells =
    ap (λ l. verdict_between_in profile l (drop (length cells) cells)) (take-length cells)
    ∙ ap (λ r. verdict_between_in profile cells r) (drop-length cells)
    ∙ verdict_between-chain profile cells []

-- a list at one of its places
pub split-at : (cells : List Cell) (k : ℕ) (d : Cell) → k < length cells
    → take k cells ++ get_or cells k d ∷ drop (k + 1) cells ≡ cells
split-at cells k d within =
    ap (λ r. take k cells ++ r) (sym (drop_more cells k d within)) ∙ take-append-drop k cells
