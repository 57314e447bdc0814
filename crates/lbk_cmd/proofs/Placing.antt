-- The text that is written at the breaks of a block, one after another.
use Rattle.std.proofs.Common.{◌≡◌, ℕ, ◌+◌, ◌≤◌, ◌<◌, Option, None, Some, List, [], ◌∷◌, ◌++◌, append-nil, drop, get_or, length, map, take, refl, sym, ap, subst, ◌∙◌, arith}
use Rattle.std.specs.Prelude.{slice_range}
use Rattle.std.specs.Char.{IsScalar, encode_utf8}
use Rattle.std.specs.List.{last_or}
use Rattle.std.specs.Str.{IsUtf8, chars, encode_utf8_all}
use Rattle.std.proofs.Math.Seq.{take-append_seam}
use Rattle.std.proofs.lemmas.Str.{chars_from_encodes, encodes-append, encodes-chars, IsCharBoundary-at_seam, IsUtf8-encode, IsUtf8-take}
use Rattle.std.proofs.lemmas.List.{drop_more, get_or-map, get_or-take, length-map, length-take}
use Rattle.lbk_rules.specs.declared.Break.{Break}
use Rattle.lbk_bytes.specs.declared.raw_break.RawBreak.{RawBreak}
use Rattle.lbk_bytes.specs.Order.{AreBreaks, IsBreak, no_break}
use Rattle.lbk_bytes.specs.Shown.{shown}
use Rattle.lbk_bytes.proofs.ShownLemmas.{shown-raw}
use Rattle.lbk_cmd.specs.Mark.{sign}
use Rattle.lbk_cmd.specs.Signing.{IsCut, signed_from}

-- the first of the breaks of a text
cut-first : (at len end : ℕ) (all : List Break) (b : Break) (rest : List Break) → all ≡ b ∷ rest → b.at ≡ end → IsCut at len all
    → (at ≤ end) × (end ≤ len) × IsCut end len rest
cut-first at len end all b rest is place cut =
    subst (λ n. (at ≤ n) × (n ≤ len) × IsCut n len rest) place (subst (IsCut at len) is cut)

-- the break at an index of a block
module _ (block : List RawBreak) (i : ℕ) (here : i < length block) (known : IsBreak (get_or block i no_break)) where
  abbrev pub end_at : ℕ
  end_at = (get_or block i no_break).at

  place : known.0.at ≡ end_at
  place = sym (ap (λ (r : RawBreak). r.at) known.1)

  pub break-at : drop i (map shown block) ≡ known.0 ∷ drop (i + 1) (map shown block)
  break-at =
      let found = map shown block in
      let one : get_or found i (shown no_break) ≡ shown (get_or block i no_break) = get_or-map shown block i no_break (shown no_break) here in
      drop_more found i (shown no_break) (omega (arith, length-map block shown, here))
      ∙ ap (λ b. b ∷ drop (i + 1) found) (one ∙ ap shown known.1 ∙ shown-raw known.0)

  pub cut-at : (at len : ℕ) → IsCut at len (drop i (map shown block)) → (at ≤ end_at) × (end_at ≤ len) × IsCut end_at len (drop (i + 1) (map shown block))
  cut-at at len cut = cut-first at len end_at (drop i (map shown block)) known.0 (drop (i + 1) (map shown block)) break-at place cut

  pub cut-on : (at len : ℕ) (more : List Break) → IsCut at len (drop i (map shown block) ++ more) → IsCut end_at len (drop (i + 1) (map shown block) ++ more)
  cut-on at len more cut =
      (cut-first at len end_at (drop i (map shown block) ++ more) known.0 (drop (i + 1) (map shown block) ++ more) (ap (λ l. l ++ more) break-at) place cut).2

  pub signed-at : (mark text : List ℕ) (at : ℕ) (more : List Break) → signed_from mark text at (drop i (map shown block) ++ more)
      ≡ slice_range text at end_at ++ (sign mark known.0.kind ++ signed_from mark text end_at (drop (i + 1) (map shown block) ++ more))
  signed-at mark text at more =
      let rest = drop (i + 1) (map shown block) ++ more in
      ap (λ l. signed_from mark text at (l ++ more)) break-at
      ∙ ap (λ n. slice_range text at n ++ (sign mark known.0.kind ++ signed_from mark text n rest)) place

-- the same, where more breaks follow or none
pub cut-none : (at at' len : ℕ) (bs bs' : List Break) → ((more : List Break) → IsCut at len (bs ++ more) → IsCut at' len (bs' ++ more))
    → IsCut at len bs → IsCut at' len bs'
cut-none at at' len bs bs' on cut =
    subst (IsCut at' len) (append-nil bs') (on [] (subst (IsCut at len) (sym (append-nil bs)) cut))

-- the breaks in the front of a block
pub front-breaks : (block : List RawBreak) (count : ℕ) → AreBreaks block count → AreBreaks (take count block) (length (take count block))
front-breaks block count each k below =
    let here : k < count = omega (arith, below, length-take count block) in
    subst IsBreak (sym (get_or-take count block k no_break here)) (each k here)

-- the last scalar of a text, by its bytes

last-behind : (o : Option ℕ) (xs : List ℕ) (x : ℕ) → last_or o (xs ++ x ∷ []) ≡ Some x
last-behind o [] x = refl
last-behind o (y ∷ ys) x = last-behind (Some y) ys x

pub last-char : (text rest : List ℕ) (c : ℕ) → IsUtf8 text → IsScalar c → text ≡ rest ++ encode_utf8 c → last_or None (chars text) ≡ Some c
last-char text rest c utf8 is splits =
    let seam = IsCharBoundary-at_seam text rest (encode_utf8 c) splits (IsUtf8-encode c is) in
    let front = subst IsUtf8 (ap (take (length rest)) splits ∙ take-append_seam rest (encode_utf8 c)) (IsUtf8-take text (length rest) utf8 seam) in
    let spelt : encode_utf8_all (chars rest ++ c ∷ []) ≡ rest ++ encode_utf8 c =
    encodes-append (chars rest) (c ∷ []) ∙ ap (λ l. l ++ encode_utf8_all (c ∷ [])) (encodes-chars rest front) ∙ ap (λ l. rest ++ l) (append-nil (encode_utf8 c)) in
    let same : chars rest ++ c ∷ [] ≡ chars text = chars_from_encodes (chars rest ++ c ∷ []) text utf8 (spelt ∙ sym splits) in
    ap (last_or None) (sym same) ∙ last-behind None (chars rest) c
