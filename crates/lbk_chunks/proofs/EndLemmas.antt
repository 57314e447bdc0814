-- Where a chunk ends.
use Rattle.std.proofs.Common.{◌≡◌, ℕ, ◌&&◌, not, Bool, true, false, cond, List, [], ◌∷◌, Option, Some, None, refl, sym, ap, ap₂, subst, ◌∙◌}
use Rattle.std.specs.List.{list_all}
use Rattle.std.specs.Option.{unwrap_or}
use Rattle.lbk_chunks.specs.declared.chunk.Limits.{Limits}
use Rattle.lbk_chunks.specs.declared.cut.Cut.{Cut}
use Rattle.lbk_chunks.specs.declared.chunk.Here.{Here}
use Rattle.lbk_chunks.specs.Chunks.{cuts_past, end_of, fits, fitting, is_early, last_early, last_of}
use Rattle.lbk_chunks.specs.Coming.{IsCutOf, IsEnd, IsEnding, StandsIn}

-- a cut that fits, and one that does not, before others
all-more : (l : Limits) (h : Here) (c : Cut) (cs : List Cut) → fits l h c ≡ true → list_all (fits l h) (c ∷ cs) ≡ list_all (fits l h) cs
all-more l h c cs is = ap (λ b. b && list_all (fits l h) cs) is

all-not : (l : Limits) (h : Here) (c : Cut) (cs : List Cut) → fits l h c ≡ false → list_all (fits l h) (c ∷ cs) ≡ false
all-not l h c cs is = ap (λ b. b && list_all (fits l h) cs) is

fitting-more : (l : Limits) (h : Here) (c : Cut) (cs : List Cut) → fits l h c ≡ true → fitting l h (c ∷ cs) ≡ c ∷ fitting l h cs
fitting-more l h c cs is = ap (λ b. cond b (c ∷ fitting l h cs) []) is

fitting-not : (l : Limits) (h : Here) (c : Cut) (cs : List Cut) → fits l h c ≡ false → fitting l h (c ∷ cs) ≡ []
fitting-not l h c cs is = ap (λ b. cond b (c ∷ fitting l h cs) []) is

-- where the chunk may end
pub early-placed : (at size : ℕ) (b : Bool) (next : Cut) (early : Option Cut) → StandsIn at size next → ((c : Cut) → early ≡ Some c → StandsIn at size c)
    → (c : Cut) → cond b (Some next) early ≡ Some c → StandsIn at size c
early-placed at size true next early placed before c is =
    let same : next ≡ c = cc in
    subst (StandsIn at size) same placed
early-placed at size false next early placed before c is = before c is

pub placed-on : (at size : ℕ) (b : Bool) (next last : Cut) (early new : Option Cut) → StandsIn at size next → ((c : Cut) → early ≡ Some c → StandsIn at size c)
    → last ≡ next → new ≡ cond b (Some next) early → StandsIn at size last × ((c : Cut) → new ≡ Some c → StandsIn at size c)
placed-on at size b next last early new placed before same is =
    (subst (StandsIn at size) (sym same) placed, λ c found. early-placed at size b next early placed before c (sym is ∙ found))

module _ (limits : Limits) (cuts : List Cut) (here : Here) where
  early-cut : (b : Bool) (next : Cut) (early : Option Cut) → IsCutOf cuts next → ((c : Cut) → early ≡ Some c → IsCutOf cuts c)
      → (c : Cut) → cond b (Some next) early ≡ Some c → IsCutOf cuts c
  early-cut true next early cut before c is = subst (IsCutOf cuts) (let same : next ≡ c = cc in same) cut
  early-cut false next early cut before c is = before c is

  -- the first cut that was not told fits
  pub end-begins : (first now : Cut) (new : Option Cut) → cuts_past here.told cuts ≡ first ∷ cuts_past first.at cuts → IsCutOf cuts first
      → fits limits here first ≡ true → now ≡ first
      → new ≡ cond (is_early limits here first) (Some first) None
      → IsEnding limits cuts here now new
  end-begins first now new joined cut fit same is = subst (λ d. IsEnding limits cuts here d new) (sym same) (record {
    first = first;
    joined = joined;
    fits_first = fit;
    all = refl;
    whole = refl;
    full = refl;
    early_end = ap (λ e. last_early limits here e (fitting limits here (cuts_past first.at cuts))) (sym is);
    cut = cut;
    early_cut = λ c found. early-cut (is_early limits here first) first None cut (λ g no. absurd (let wrong : ⊥ = cc in wrong)) c (sym is ∙ found);
  })

  -- and so does the next one
  pub end-goes : (last next now : Cut) (early new : Option Cut) → IsEnding limits cuts here last early
      → cuts_past last.at cuts ≡ next ∷ cuts_past next.at cuts → IsCutOf cuts next → fits limits here next ≡ true
      → now ≡ next → new ≡ cond (is_early limits here next) (Some next) early
      → IsEnding limits cuts here now new
  end-goes last next now early new e joined cut fit same is =
      let more = cuts_past next.at cuts in
      let fitted = ap (fitting limits here) joined ∙ fitting-more limits here next more fit in
      subst (λ d. IsEnding limits cuts here d new) (sym same) (record {
        first = e.first;
        joined = e.joined;
        fits_first = e.fits_first;
        all = e.all ∙ ap (list_all (fits limits here)) joined ∙ all-more limits here next more fit;
        whole = e.whole ∙ ap (last_of last) joined;
        full = e.full ∙ ap (last_of last) fitted;
        early_end = e.early_end ∙ ap (last_early limits here early) fitted ∙ ap (λ x. last_early limits here x (fitting limits here more)) (sym is);
        cut = cut;
        early_cut = λ c found. early-cut (is_early limits here next) next early cut e.early_cut c (sym is ∙ found);
      })

  end-by : (first : Cut) (more : List Cut) (fit all : Bool) → fits limits here first ≡ fit → list_all (fits limits here) more ≡ all
      → end_of limits here first more
      ≡ cond (not fit) first (cond all (last_of first more)
      (unwrap_or (last_early limits here None (first ∷ fitting limits here more)) (last_of first (fitting limits here more))))
  end-by first more fit all is every =
      ap₂ (λ (f a : Bool). cond (not f) first (cond a (last_of first more)
      (unwrap_or (last_early limits here None (first ∷ fitting limits here more)) (last_of first (fitting limits here more))))) is every

  -- what has no cut within the limits
  pub end-alone : (first : Cut) → cuts_past here.told cuts ≡ first ∷ cuts_past first.at cuts → fits limits here first ≡ false
      → IsEnd limits cuts here first
  end-alone first joined fit = record {
    first = first;
    joined = joined;
    is = sym (end-by first (cuts_past first.at cuts) false (list_all (fits limits here) (cuts_past first.at cuts)) fit refl);
  }

  -- all that is left
  pub end-whole : (last : Cut) (early : Option Cut) → IsEnding limits cuts here last early → cuts_past last.at cuts ≡ [] → IsEnd limits cuts here last
  end-whole last early e none = record {
    first = e.first;
    joined = e.joined;
    is = sym (end-by e.first (cuts_past e.first.at cuts) true true e.fits_first (e.all ∙ ap (list_all (fits limits here)) none) ∙ e.whole ∙ ap (last_of last) none);
  }

  or-cut : (last : Cut) (early : Option Cut) → IsCutOf cuts last → ((c : Cut) → early ≡ Some c → IsCutOf cuts c) → IsCutOf cuts (unwrap_or early last)
  or-cut last None cut before = cut
  or-cut last (Some c) cut before = before c refl

  -- the next cut does not fit
  pub end-full : (last next end : Cut) (early : Option Cut) → IsEnding limits cuts here last early
      → cuts_past last.at cuts ≡ next ∷ cuts_past next.at cuts → fits limits here next ≡ false
      → unwrap_or early last ≡ end → IsEnd limits cuts here end × IsCutOf cuts end
  end-full last next end early e joined fit is =
      let more = cuts_past e.first.at cuts in
      let fitted = ap (fitting limits here) joined ∙ fitting-not limits here next (cuts_past next.at cuts) fit in
      let every = e.all ∙ ap (list_all (fits limits here)) joined ∙ all-not limits here next (cuts_past next.at cuts) fit in (
        record {
          first = e.first;
          joined = e.joined;
          is = sym (end-by e.first more true false e.fits_first every
              ∙ ap₂ unwrap_or (e.early_end ∙ ap (last_early limits here early) fitted) (e.full ∙ ap (last_of last) fitted) ∙ is);
        },
        subst (IsCutOf cuts) is (or-cut last early e.cut e.early_cut),
      )
