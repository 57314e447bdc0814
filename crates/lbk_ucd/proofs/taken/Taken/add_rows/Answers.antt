use Rattle.std.proofs.Common.{◌∙◌, ◌≡◌, ◌%◌, ◌/◌, ap, arith, get_or, inl, inr, length, refl}
use Rattle.std.proofs.lemmas.Bool.{cases_lt}
use Rattle.std.proofs.lemmas.List.{get_or_past}
use Rattle.lbk_masks.specs.Sets.{is_set}
use Rattle.lbk_masks.proofs.BitLemmas.{set-none}
use Rattle.lbk_ucd.proofs.taken.Taken.add_rows.Goals as goal

pub mark_rows-requires-clause-unset : goal.mark_rows-requires-clause-unset
mark_rows-requires-clause-unset g c k =
    ap (λ words. is_set (get_or words (k / 64) 0) (k % 64)) c.deref_mut.ensures.value
    ∙ ap (λ word. is_set word (k % 64)) zero ∙ set-none (k % 64)
  where
    zero : get_or c.resize.new.self.items (k / 64) 0 ≡ 0
    zero = elim (cases_lt (k / 64) (length c.resize.new.self.items)) [
      | inl lt ↦ c.in_ok-resize.ensures.by_index.1 (k / 64) 0 refl (omega (arith, ap length c.requires.unused)) (omega (arith, c.in_ok-resize.ensures.len))
      | inr past ↦ get_or_past c.resize.new.self.items (k / 64) 0 past
    ]
