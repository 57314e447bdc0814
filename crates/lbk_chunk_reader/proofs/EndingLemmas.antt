-- Where a chunk ends, among cuts of which the first are known.
use Rattle.std.proofs.Common.{◌≡◌, not, ◌&&◌, Bool, true, false, cond, List, [], ◌∷◌, ◌++◌, Option, Some, None, refl}
use Rattle.std.proofs.Common.{sym, ap, ◌∙◌}
use Rattle.std.specs.List.{list_all}
use Rattle.std.specs.Option.{option_map, unwrap_or}
use Rattle.lbk_chunks.specs.declared.chunk.Limits.{Limits}
use Rattle.lbk_chunks.specs.declared.cut.Cut.{Cut}
use Rattle.lbk_chunks.specs.declared.chunk.Here.{Here}
use Rattle.lbk_chunks.specs.Chunks.{end_of, fits, fitting, is_early, last_early, last_of}
use Rattle.lbk_chunk_reader.specs.Choosing.{IsEndAmong}
use Rattle.lbk_chunk_reader.specs.Numbered.{numbered}
use Rattle.lbk_chunk_reader.specs.declared.cut.Cut as given

module _ (l : Limits) (h : Here) where
  -- where a chunk ends whose cuts fit up to this last one, and may end early where that was found
  abbrev ending : Cut → Option Cut → List Cut → Cut
  ending last early left = cond (list_all (fits l h) left) (last_of last left)
      (unwrap_or (last_early l h early (fitting l h left)) (last_of last (fitting l h left)))

  -- so the chunk from here ends, whatever follows the known cuts
  pub record IsEnding (ahead : List Cut) (last : Cut) (early : Option Cut) (left : List Cut) : Type 0 where
    pub first : Cut
    pub known : List Cut
    pub are : ahead ≡ first ∷ known
    pub ends : (more : List Cut) → end_of l h first (known ++ more) ≡ ending last early (left ++ more)

  pub ending-begins : (first : Cut) (known : List Cut) → fits l h first ≡ true
      → IsEnding (first ∷ known) first (cond (is_early l h first) (Some first) None) known
  ending-begins first known fit = record {
    first = first;
    known = known;
    are = refl;
    ends = λ more.
        ap (λ (b : Bool). cond (not b) first (ending first (cond (is_early l h first) (Some first) None)
        (known ++ more))) fit;
  }

  pub ending-goes : (ahead : List Cut) (last next : Cut) (early : Option Cut) (left : List Cut)
      → IsEnding ahead last early (next ∷ left) → fits l h next ≡ true
      → IsEnding ahead next (cond (is_early l h next) (Some next) early) left
  ending-goes ahead last next early left e fit = record {
    first = e.first;
    known = e.known;
    are = e.are;
    ends = λ more. e.ends more
        ∙ ap (λ (b : Bool). cond (b && list_all (fits l h) (left ++ more)) (last_of next (left ++ more))
        (unwrap_or (last_early l h early (cond b (next ∷ fitting l h (left ++ more)) []))
        (last_of last (cond b (next ∷ fitting l h (left ++ more)) [])))) fit;
  }

  pub ending-alone : (first : Cut) (known : List Cut) (is_whole : Bool) → fits l h first ≡ false
      → IsEndAmong l h (first ∷ known) is_whole first
  ending-alone first known is_whole fit = record {
    first = first;
    known = known;
    are = refl;
    ends = λ more whole. sym (ap (λ (b : Bool). cond (not b) first
        (ending first (cond (is_early l h first) (Some first) None) (known ++ more))) fit);
  }

  pub ending-full : (ahead : List Cut) (last next : Cut) (early : Option Cut) (left : List Cut) (is_whole : Bool)
      → IsEnding ahead last early (next ∷ left)
      → fits l h next ≡ false → IsEndAmong l h ahead is_whole (unwrap_or early last)
  ending-full ahead last next early left is_whole e fit = record {
    first = e.first;
    known = e.known;
    are = e.are;
    ends = λ more whole. sym (e.ends more
        ∙ ap (λ (b : Bool). cond (b && list_all (fits l h) (left ++ more)) (last_of next (left ++ more))
        (unwrap_or (last_early l h early (cond b (next ∷ fitting l h (left ++ more)) []))
        (last_of last (cond b (next ∷ fitting l h (left ++ more)) [])))) fit);
  }

  pub ending-whole : (ahead : List Cut) (last : Cut) (early : Option Cut) (is_whole : Bool)
      → IsEnding ahead last early [] → is_whole ≡ true → IsEndAmong l h ahead is_whole last
  ending-whole ahead last early is_whole e whole = record {
    first = e.first;
    known = e.known;
    are = e.are;
    ends = λ more none. sym (e.ends more ∙ ap (ending last early) (none whole));
  }

-- what was found, with numbers
pub numbered-or : (early : Option given.Cut) (last : given.Cut)
    → numbered (unwrap_or early last) ≡ unwrap_or (option_map numbered early) (numbered last)
numbered-or None last = refl
numbered-or (Some c) last = refl

pub numbered-early : (b : Bool) (c : given.Cut) (early : Option given.Cut)
    → option_map numbered (cond b (Some c) early) ≡ cond b (Some (numbered c)) (option_map numbered early)
numbered-early true c early = refl
numbered-early false c early = refl
