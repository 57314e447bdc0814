use Rattle.std.proofs.Common.{◌≤◌, length, take, IsUtf8, sym, ap, subst, ◌∙◌, refl, arith, length-append, length-take-le}
use Rattle.std.specs.Str.Lossy.{utf8_valid_len}
use Rattle.std.proofs.lemmas.List.{take-append-drop, take_at}
use Rattle.std.proofs.lemmas.Str.{utf8_valid_len_le}
use Rattle.lbk_feed.specs.Text.{after_prefix}
use Rattle.lbk_feed.proofs.Front.{well_formed_prefix-IsUtf8, utf8_valid_len-longest}
use Rattle.lbk_feed.proofs.laws.prefix_is_longest_text.Goals as goal

pub returns : goal.returns
returns c bs = record {
  rest = after_prefix bs;
  begins = sym (take-append-drop (utf8_valid_len bs) bs);
  text = well_formed_prefix-IsUtf8 bs;
  longest = λ other more split text.
      let within : length other ≤ length bs = omega (arith, ap length split, length-append other more) in
      let front = subst IsUtf8 (sym (ap (take (length other)) split ∙ take_at other more (length other) refl)) text in
      omega (arith, utf8_valid_len-longest bs (length other) within front, length-take-le (utf8_valid_len bs) bs (utf8_valid_len_le bs));
}
