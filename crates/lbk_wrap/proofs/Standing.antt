-- A line as its clusters, and as its offsets and columns.
use Rattle.std.proofs.Common.{◌≡◌, ℕ, ◌+◌, ◌≤◌, Bool, true, false, List, [], ◌∷◌, ◌++◌, length, refl, ap, sym, ◌∙◌, arith, append_assoc, append-nil, length-append}
use Rattle.std.proofs.lemmas.List.Folds.{concat-append}
use Rattle.std.specs.List.{concat}
use Rattle.lbk_wrap.specs.declared.layout.Layout.{Layout}
use Rattle.lbk_wrap.specs.declared.open.Open.{Open}
use Rattle.lbk_wrap.specs.Layouts.{tab_of}
use Rattle.lbk_wrap.specs.Columns.{Cluster, after, after_all, ends_soft, is_blank, is_soft_hyphen, shown, size, with_shown}
use Rattle.lbk_wrap.specs.Lines.{columns}
use Rattle.lbk_wrap.specs.Steps.{grown, grown_all, open_at}

-- the line of these clusters, which begins at this byte
abbrev pub standing : Layout → ℕ → List Cluster → Open
standing layout start line =
    record {
      start = start;
      end = start + size (shown line);
      next = start + size line;
      columns = columns layout (shown line);
      column = columns layout line;
      soft = ends_soft (shown line);
    }

-- lines whose numbers are the same are one
same_open : (s e n c d s' e' n' c' d' : ℕ) (b b' : Bool) → s ≡ s' → e ≡ e' → n ≡ n' → c ≡ c' → d ≡ d' → b ≡ b'
    → (let x : Open = record { start = s; end = e; next = n; columns = c; column = d; soft = b } in x)
    ≡ record { start = s'; end = e'; next = n'; columns = c'; column = d'; soft = b' }
same_open s e n c d s' e' n' c' d' b b' p q r t u v = cc

pub size-append : (xs ys : List Cluster) → size (xs ++ ys) ≡ size xs + size ys
size-append xs ys = ap length (concat-append xs ys) ∙ length-append (concat xs) (concat ys)

pub size-one : (c : Cluster) → size (c ∷ []) ≡ length c
size-one c = ap length (append-nil c)

after_all-push : (tab column : ℕ) (xs : List Cluster) (c : Cluster)
    → after_all tab column (xs ++ c ∷ []) ≡ after tab (after_all tab column xs) c
after_all-push tab column [] c = refl
after_all-push tab column (x ∷ xs) c = after_all-push tab (after tab column x) xs c

with_shown-some : (x : Cluster) (xs : List Cluster) (c : Cluster) → with_shown x (xs ++ c ∷ []) ≡ x ∷ (xs ++ c ∷ [])
with_shown-some x [] c = refl
with_shown-some x (y ∷ ys) c = refl

pub shown-blank : (xs : List Cluster) (c : Cluster) → is_blank c ≡ true → shown (xs ++ c ∷ []) ≡ shown xs
shown-blank [] c h = rw h refl
shown-blank (x ∷ xs) c h = ap (with_shown x) (shown-blank xs c h)

pub shown-some : (xs : List Cluster) (c : Cluster) → is_blank c ≡ false → shown (xs ++ c ∷ []) ≡ xs ++ c ∷ []
shown-some [] c h = rw h refl
shown-some (x ∷ xs) c h = ap (with_shown x) (shown-some xs c h) ∙ with_shown-some x xs c

ends_soft-push : (xs : List Cluster) (c : Cluster) → ends_soft (xs ++ c ∷ []) ≡ is_soft_hyphen c
ends_soft-push [] c = refl
ends_soft-push (x ∷ []) c = refl
ends_soft-push (x ∷ y ∷ ys) c = ends_soft-push (y ∷ ys) c

next-push : (start : ℕ) (xs : List Cluster) (c : Cluster) → (start + size xs) + length c ≡ start + size (xs ++ c ∷ [])
next-push start xs c = omega (arith, size-append xs (c ∷ []), size-one c)

grown-by : (layout : Layout) (start : ℕ) (line : List Cluster) (c : Cluster) (b : Bool) → is_blank c ≡ b
    → grown (tab_of layout) (standing layout start line) c ≡ standing layout start (line ++ c ∷ [])
unfolding grown
grown-by layout start line c true h =
    rw h (same_open _ _ _ _ _ _ _ _ _ _ _ _ refl (ap (λ xs. start + size xs) (sym (shown-blank line c h))) (next-push start line c)
    (ap (columns layout) (sym (shown-blank line c h))) (sym (after_all-push (tab_of layout) 0 line c))
    (ap ends_soft (sym (shown-blank line c h))))
grown-by layout start line c false h =
    rw h (same_open _ _ _ _ _ _ _ _ _ _ _ _ refl (next-push start line c ∙ ap (λ xs. start + size xs) (sym (shown-some line c h))) (next-push start line c)
    (sym (after_all-push (tab_of layout) 0 line c) ∙ ap (columns layout) (sym (shown-some line c h)))
    (sym (after_all-push (tab_of layout) 0 line c))
    (sym (ends_soft-push line c) ∙ ap ends_soft (sym (shown-some line c h))))

pub grown-standing : (layout : Layout) (start : ℕ) (line : List Cluster) (c : Cluster)
    → grown (tab_of layout) (standing layout start line) c ≡ standing layout start (line ++ c ∷ [])
grown-standing layout start line c = grown-by layout start line c (is_blank c) refl

pub grown_all-standing : (layout : Layout) (start : ℕ) (line cs : List Cluster)
    → grown_all (tab_of layout) (standing layout start line) cs ≡ standing layout start (line ++ cs)
grown_all-standing layout start line [] = ap (standing layout start) (sym (append-nil line))
grown_all-standing layout start line (c ∷ cs) =
    ap (λ o. grown_all (tab_of layout) o cs) (grown-standing layout start line c)
    ∙ grown_all-standing layout start (line ++ c ∷ []) cs ∙ ap (standing layout start) (append_assoc line (c ∷ []) cs)

pub open_at-standing : (layout : Layout) (at : ℕ) → open_at at ≡ standing layout at []
open_at-standing layout at = same_open _ _ _ _ _ _ _ _ _ _ _ _ refl (omega arith) (omega arith) refl refl refl

-- what shows of a line and a segment
pub shown-append_none : (xs ys : List Cluster) → shown ys ≡ [] → shown (xs ++ ys) ≡ shown xs
shown-append_none [] ys h = h
shown-append_none (x ∷ xs) ys h = ap (with_shown x) (shown-append_none xs ys h)

with_shown-front : (x : Cluster) (xs : List Cluster) (d : Cluster) (ds : List Cluster)
    → with_shown x (xs ++ d ∷ ds) ≡ x ∷ (xs ++ d ∷ ds)
with_shown-front x [] d ds = refl
with_shown-front x (y ∷ ys) d ds = refl

pub shown-append_some : (xs ys : List Cluster) (d : Cluster) (ds : List Cluster) → shown ys ≡ d ∷ ds
    → shown (xs ++ ys) ≡ xs ++ d ∷ ds
shown-append_some [] ys d ds h = h
shown-append_some (x ∷ xs) ys d ds h = ap (with_shown x) (shown-append_some xs ys d ds h) ∙ with_shown-front x xs d ds

with_shown-size : (x : Cluster) (xs : List Cluster) → size (with_shown x xs) ≤ length x + size xs
with_shown-size x [] = with_shown-size-by x (is_blank x) refl where
  with_shown-size-by : (x : Cluster) (b : Bool) → is_blank x ≡ b → size (with_shown x []) ≤ length x + 0
  with_shown-size-by x true h = rw h (omega arith)
  with_shown-size-by x false h = rw h (omega (arith, size-one x))
with_shown-size x (y ∷ ys) = omega (arith, length-append x (concat (y ∷ ys)))

pub size-shown : (xs : List Cluster) → size (shown xs) ≤ size xs
size-shown [] = omega arith
size-shown (x ∷ xs) = omega (arith, with_shown-size x (shown xs), size-shown xs, length-append x (concat xs))
