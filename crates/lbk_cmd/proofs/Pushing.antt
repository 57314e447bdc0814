-- Lines that are put behind those that wait, part after part.
use Rattle.std.proofs.Common.{◌≡◌, ℕ, ◌+◌, List, [], ◌++◌, length, take, Option, sym, ap, subst, ◌∙◌, append_assoc}
use Rattle.std.specs.Io.KnownBytes.{Appends}
use Rattle.std.proofs.Math.Seq.{take-append-add}
use Rattle.lbk_cmd.specs.Chunking.{Breaks, Passes}
use Rattle.lbk_cmd.proofs.Looping.{Appends-nil, Appends-trans}
use Rattle.lbk_cmd.proofs.Stopping.{front_of}

-- a part was placed behind them
pub passes-placed : (u : Option (List ℕ)) (waiting waiting' part : List ℕ) → waiting' ≡ waiting ++ part → Passes u u waiting waiting' part
passes-placed u waiting waiting' part is = record { put = []; wrote = Appends-nil u; is = is }

-- those that waited were written
pub passes-written : (u v : Option (List ℕ)) (waiting waiting' : List ℕ) → waiting' ≡ [] → Appends u v waiting → Passes u v waiting waiting' []
passes-written u v waiting waiting' none wrote = record { put = waiting; wrote = wrote; is = ap (λ x. waiting ++ x) none }

module _ (u v : Option (List ℕ)) (waiting between first : List ℕ) (p : Passes u v waiting between first) where
  joined : (second : List ℕ) → p.put ++ (between ++ second) ≡ waiting ++ (first ++ second)
  joined second = sym (append_assoc p.put between second) ∙ ap (λ x. x ++ second) p.is ∙ append_assoc waiting first second

  pub passes-then : (w : Option (List ℕ)) (waiting' second : List ℕ) → Passes v w between waiting' second → Passes u w waiting waiting' (first ++ second)
  passes-then w waiting' second q = record {
    put = p.put ++ q.put;
    wrote = Appends-trans u v w p.put q.put p.wrote q.wrote;
    is = append_assoc p.put q.put waiting' ∙ ap (λ x. p.put ++ x) q.is ∙ joined second;
  }

  pub passes-breaks : (w : Option (List ℕ)) (second : List ℕ) → Breaks v w between second → Breaks u w waiting (first ++ second)
  passes-breaks w second b = (
    length p.put + b.0,
    subst (Appends u w) (sym (take-append-add p.put (between ++ second) b.0) ∙ ap (take (length p.put + b.0)) (joined second))
        (Appends-trans u v w p.put (take b.0 (between ++ second)) p.wrote b.1),
  )

-- the front of a part is one of the whole
pub breaks-more : (u v : Option (List ℕ)) (waiting first more : List ℕ) → Breaks u v waiting first → Breaks u v waiting (first ++ more)
breaks-more u v waiting first more b =
    let front = front_of b.0 (waiting ++ first) more in
    (front.0, subst (Appends u v) (front.1 ∙ ap (take front.0) (append_assoc waiting first more)) b.1)

pub breaks-of : (u v : Option (List ℕ)) (waiting part : List ℕ) (n : ℕ) → Appends u v (take n waiting) → Breaks u v waiting part
breaks-of u v waiting part n wrote =
    let front = front_of n waiting part in
    (front.0, subst (Appends u v) front.1 wrote)
