-- Cuts past a place.
use Rattle.std.proofs.Common.{◌≡◌, ℕ, ◌-◌, ◌++◌, ◌<◌, ◌≤◌, Bool, true, false, cond, nat_le, List, [], ◌∷◌, refl, sym, ap, subst, ◌∙◌, arith}
use Rattle.std.proofs.lemmas.Bool.Decides.{nat_tests}
use Rattle.lbk_chunks.specs.declared.cut.Cut.{Cut}
use Rattle.lbk_chunks.specs.Chunks.{cuts_past}
use Rattle.lbk_chunks.specs.Coming.{AreCutsPast, IsCutOf}

pub is-le : (a b : ℕ) → a ≤ b → nat_le a b ≡ true
is-le a b h = grind (arith, nat_tests)

pub is-past : (a b : ℕ) → b < a → nat_le a b ≡ false
is-past a b h = grind (arith, nat_tests)

-- a cut at the place or before it is not past it
pub past-before : (at : ℕ) (c : Cut) (cs : List Cut) → c.at ≤ at → cuts_past at (c ∷ cs) ≡ cuts_past at cs
past-before at c cs h = ap (λ b. cond b (cuts_past at cs) (c ∷ cs)) (is-le c.at at h)

pub past-behind : (at : ℕ) (c : Cut) (cs : List Cut) → at < c.at → cuts_past at (c ∷ cs) ≡ c ∷ cs
past-behind at c cs h = ap (λ b. cond b (cuts_past at cs) (c ∷ cs)) (is-past c.at at h)

-- all are past the place
pub past-all : (from at : ℕ) (cs : List Cut) → at ≤ from → AreCutsPast from cs → cuts_past at cs ≡ cs
past-all from at [] below past = refl
past-all from at (c ∷ cs) below past = past-behind at c cs (omega (arith, past.0))

pub cuts-from : (from to : ℕ) (cs : List Cut) → from ≤ to → AreCutsPast to cs → AreCutsPast from cs
cuts-from from to [] below past = past
cuts-from from to (c ∷ cs) below past = (omega (arith, past.0), past.1)

-- those past a place rise from there on
rising-by : (from at : ℕ) (c : Cut) (cs : List Cut) (b : Bool) → nat_le c.at at ≡ b → AreCutsPast at (cuts_past at cs) → AreCutsPast c.at cs
    → AreCutsPast at (cond b (cuts_past at cs) (c ∷ cs))
rising-by from at c cs true is more past = more
rising-by from at c cs false is more past = (let h : at < c.at = grind (arith, nat_tests) in h, past)

pub past-rising : (from at : ℕ) (cs : List Cut) → AreCutsPast from cs → AreCutsPast at (cuts_past at cs)
past-rising from at [] past = past
past-rising from at (c ∷ cs) past = rising-by from at c cs (nat_le c.at at) refl (past-rising c.at at cs past.1) past.1

-- past a place, and then past a later one
past-by : (at to : ℕ) (c : Cut) (cs : List Cut) (b : Bool) → nat_le c.at at ≡ b → at ≤ to → cuts_past to (cuts_past at cs) ≡ cuts_past to cs
    → cuts_past to (cond b (cuts_past at cs) (c ∷ cs)) ≡ cuts_past to (c ∷ cs)
past-by at to c cs true is below more = more ∙ sym (past-before to c cs (let h : c.at ≤ to = (let k : c.at ≤ at = grind (arith, nat_tests) in omega arith) in h))
past-by at to c cs false is below more = refl

pub past-past : (at to : ℕ) (cs : List Cut) → at ≤ to → cuts_past to (cuts_past at cs) ≡ cuts_past to cs
past-past at to [] below = refl
past-past at to (c ∷ cs) below = past-by at to c cs (nat_le c.at at) refl below (past-past at to cs below)

-- the first past a place, and what is behind it
pub first-split : (cuts : List Cut) (from : ℕ) (c : Cut) (rest : List Cut) → AreCutsPast 0 cuts → cuts_past from cuts ≡ c ∷ rest
    → (from < c.at) × (rest ≡ cuts_past c.at cuts)
first-split cuts from c rest rising joined =
    let past = subst (AreCutsPast from) joined (past-rising 0 from cuts rising) in (
      past.0,
      sym (sym (past-past from c.at cuts (omega (arith, past.0)))
          ∙ ap (cuts_past c.at) joined
          ∙ past-before c.at c rest (omega arith)
          ∙ past-all c.at c.at rest (omega arith) past.1),
    )

-- none is past it, and so past a later place
pub none-past : (cuts : List Cut) (at to : ℕ) → at ≤ to → cuts_past at cuts ≡ [] → cuts_past to cuts ≡ []
none-past cuts at to below none = sym (past-past at to cuts below) ∙ ap (cuts_past to) none

-- a cut among those past a place, and what is behind it
pub record IsSplit (cuts : List Cut) (from : ℕ) (c : Cut) (rest : List Cut) : Type 0 where
  pub past : from < c.at
  pub cut : IsCutOf cuts c
  pub behind : rest ≡ cuts_past c.at cuts

one-split : (cuts : List Cut) (from : ℕ) (c : Cut) (rest : List Cut) → AreCutsPast 0 cuts → cuts_past from cuts ≡ c ∷ rest → IsSplit cuts from c rest
one-split cuts from c rest rising joined =
    let s = first-split cuts from c rest rising joined in
    record {
      past = s.0;
      cut = record {
        some = omega (arith, s.0);
        joined = sym (past-past from (c.at - 1) cuts (omega (arith, s.0))) ∙ ap (cuts_past (c.at - 1)) joined
            ∙ past-behind (c.at - 1) c rest (omega (arith, s.0)) ∙ ap (λ l. c ∷ l) s.1;
      };
      behind = s.1;
    }

pub split : (front : List Cut) (cuts : List Cut) (from : ℕ) (c : Cut) (rest : List Cut) → AreCutsPast 0 cuts → cuts_past from cuts ≡ front ++ c ∷ rest
    → IsSplit cuts from c rest
split [] cuts from c rest rising joined = one-split cuts from c rest rising joined
split (d ∷ ds) cuts from c rest rising joined =
    let s = first-split cuts from d (ds ++ c ∷ rest) rising joined in
    let more = split ds cuts d.at c rest rising (sym s.1) in
    record { past = omega (arith, s.0, more.past); cut = more.cut; behind = more.behind }

-- the first past a place is that past a later one that it is behind
pub first-later : (cuts : List Cut) (from at : ℕ) (c : Cut) (rest : List Cut) → from ≤ at → at < c.at → cuts_past from cuts ≡ c ∷ rest → cuts_past at cuts ≡ c ∷ rest
first-later cuts from at c rest below behind joined = sym (past-past from at cuts below) ∙ ap (cuts_past at) joined ∙ past-behind at c rest behind

-- a cut of the text is the first past a place just before it
pub cut-past : (cuts : List Cut) (at : ℕ) (c : Cut) (rest : List Cut) → AreCutsPast 0 cuts → cuts_past at cuts ≡ c ∷ rest → IsCutOf cuts c
cut-past cuts at c rest rising joined = (one-split cuts at c rest rising joined).cut

-- two cuts at the same byte are one
pub cut-one : (cuts : List Cut) (c d : Cut) → IsCutOf cuts c → IsCutOf cuts d → c.at ≡ d.at → c ≡ d
cut-one cuts c d is_c is_d same =
    let both : c ∷ cuts_past c.at cuts ≡ d ∷ cuts_past d.at cuts = sym is_c.joined ∙ ap (λ n. cuts_past (n - 1) cuts) same ∙ is_d.joined in
    let one : c ≡ d = cc in one
