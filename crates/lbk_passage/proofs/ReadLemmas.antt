-- Scalars of a text.
use Rattle.std.proofs.Common.{◌≡◌, ℕ, ◌+◌, ◌-◌, List, ◌∷◌, ◌++◌, length, drop, sym, ap, subst, ◌∙◌, arith}
use Rattle.std.specs.Char.{encode_utf8}
use Rattle.std.specs.Str.{IsCharBoundary, IsUtf8, chars}
use Rattle.std.proofs.Math.Seq.{drop-append_seam, drop-drop}
use Rattle.std.proofs.lemmas.List.{length-append, length-drop}
use Rattle.std.proofs.lemmas.Str.{IsCharBoundary-from_drop, IsUtf8-drop, IsUtf8-past_char, chars_past_char}

-- a scalar stands at the byte `at` of a text, and the text goes on at `next`
pub record Reads (text : List ℕ) (at c next : ℕ) (more : List ℕ) : Type 0 where
  pub next_is : next ≡ at + length (encode_utf8 c)
  pub rest : drop next text ≡ more
  pub begins : chars (drop at text) ≡ c ∷ chars more
  pub place : IsCharBoundary text next

pub reads : (text more : List ℕ) (at c : ℕ) → IsUtf8 text → IsCharBoundary text at → drop at text ≡ encode_utf8 c ++ more
    → Reads text at c (length text - length more) more
reads text more at c utf8 place splits =
    let here = IsUtf8-drop text at utf8 place in
    let within = place.0 in
    let size = length (encode_utf8 c) in
    let left : length text - at ≡ size + length more = sym (length-drop at text) ∙ ap length splits ∙ length-append (encode_utf8 c) more in
    let next_is : length text - length more ≡ at + size = omega arith in
    let rest : drop (length text - length more) text ≡ more =
    ap (λ n. drop n text) next_is ∙ sym (drop-drop size at text) ∙ ap (drop size) splits ∙ drop-append_seam (encode_utf8 c) more in
    record {
      next_is = next_is;
      rest = rest;
      begins = chars_past_char (drop at text) more c here splits;
      place = IsCharBoundary-from_drop text (length text - length more) (omega arith) (subst IsUtf8 (sym rest) (IsUtf8-past_char (drop at text) more c here splits));
    }

-- what is left of a text, and is read as a scalar and what an iterator has then, is that scalar and the text behind it
pub next-splits : {behind text left more : List ℕ} (c : ℕ) → left ≡ behind → left ≡ encode_utf8 c ++ more → text ≡ more → behind ≡ encode_utf8 c ++ text
next-splits c was splits is = sym was ∙ splits ∙ ap (λ bytes. encode_utf8 c ++ bytes) (sym is)
