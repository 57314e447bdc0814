use Rattle.std.proofs.Common.{◌≡◌, ℕ, List, [], ◌∷◌, ◌++◌, flat_map, chars, length, sym, ap, subst, ◌∙◌, append_assoc}
use Rattle.std.proofs.Common.{append-nil, rules}
use Rattle.std.proofs.Output.{has_written_append, has_written_of_eq}
use Rattle.std.proofs.lemmas.List.{nil_from_length}
use Rattle.std.proofs.lemmas.Str.{IsUtf8-past_char, chars-nil, chars_past_char}
use Rattle.std.specs.Str.{IsUtf8}
use Rattle.std.specs.Str.Iter.{chars_rest}
use Rattle.lbk_args.specs.OneLine.{one_line, one_scalar}
use Rattle.lbk_args.proofs.one_line.write_name.Goals as goal

all_left : (rest name : List ℕ) → rest ≡ name → [] ++ flat_map one_scalar (chars rest) ≡ one_line name
all_left rest name same = ap (λ l. flat_map one_scalar (chars l)) same

left_utf8 : (rest name : List ℕ) → IsUtf8 name → rest ≡ name → IsUtf8 rest
left_utf8 rest name utf8 same = subst IsUtf8 (sym same) utf8

one_more : (rest more done name : List ℕ) (scalar : ℕ) → chars rest ≡ scalar ∷ chars more
    → done ++ flat_map one_scalar (chars rest) ≡ one_line name
    → (done ++ one_scalar scalar) ++ flat_map one_scalar (chars more) ≡ one_line name
one_more rest more done name scalar first so_far =
    append_assoc done (one_scalar scalar) (flat_map one_scalar (chars more))
    ∙ ap (λ l. done ++ flat_map one_scalar l) (sym first) ∙ so_far

none_left : (rest done name : List ℕ) → length rest ≡ 0 → done ++ flat_map one_scalar (chars rest) ≡ one_line name
    → done ≡ one_line name
none_left rest done name none so_far =
    let no_chars : chars rest ≡ [] = ap chars (nil_from_length rest none) ∙ chars-nil in
    sym (append-nil done) ∙ ap (λ l. done ++ flat_map one_scalar l) (sym no_chars) ∙ so_far

pub loop-scalar-init : goal.loop-scalar-init
loop-scalar-init g c =
    let items = c.into_iter-scalar-iterator.result in
    let same : chars_rest items ≡ c.args.name.now = ap chars_rest c.into_iter-scalar-iterator.ensures.into_iter_gives
    ∙ c.chars-scalar-items.ensures.rest in (
      left_utf8 _ c.args.name.now c.utf8.name same,
      λ plain. ([], search rules, all_left _ _ same),
    )

pub loop-scalar-preserved : goal.loop-scalar-preserved
loop-scalar-preserved g c = (
  IsUtf8-past_char _ _ c.in-Some.scalar c.loop-scalar.invariant.0 c.in-Some.ensures.steps.0,
  λ plain.
      let now = c.loop-scalar.invariant.1 plain in (
        now.0 ++ one_scalar c.in-Some.scalar,
        has_written_append _ _ _ _ _ _ now.1 (search rules),
        one_more _ _ now.0 c.args.name.now c.in-Some.scalar
            (chars_past_char _ _ c.in-Some.scalar c.loop-scalar.invariant.0 c.in-Some.ensures.steps.0) now.2,
      ),
)

pub returns : goal.returns
returns g c = λ plain _.
    let so_far = c.loop-scalar.invariant.1 plain in
    has_written_of_eq _ _ _ _ _ (none_left _ so_far.0 c.args.name.now c.in-None.ensures.steps.0.0 so_far.2) so_far.1
