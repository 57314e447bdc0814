use Rattle.std.proofs.Common.{◌≡◌, ◌+◌, ◌<◌, ◌^◌, ◌-◌, ℕ, List, length, take, drop, sym, ap, ◌∙◌, arith, length-drop, rules}
use Rattle.std.specs.Str.Lossy.{utf8_valid_len}
use Rattle.std.proofs.lemmas.List.{take_all}
use Rattle.std.proofs.lemmas.Str.{utf8_valid_len_le}
use Rattle.lbk_feed.specs.Text.{after_prefix}
use Rattle.lbk_feed.specs.Judge.{stop_of}
use Rattle.lbk_feed.proofs.Stops.{parts_len, parts_stop}
use Rattle.lbk_feed.proofs.judge.judge_by_parts.Goals as goal

-- the slice behind a place, as code writes it
behind : (bs : List ℕ) (cut : ℕ) → take (length bs - cut) (drop cut bs) ≡ drop cut bs
behind bs cut = take_all (length bs - cut) (drop cut bs) (omega (arith, length-drop cut bs))

pub overflow_add-result : goal.overflow_add-result
overflow_add-result c =
    let bs = c.args.bytes.now in
    let cut = c.last_scalar-cut.result in
    let bytes : length bs < 2 ^ 64 = search rules in
    omega (arith, c.judge_at_once-last.ensures.ready_len, ap utf8_valid_len (behind bs cut), utf8_valid_len_le (drop cut bs), length-drop cut bs, c.last_scalar-cut.ensures, bytes)

pub returns-in-Ok-clause-ready_len : goal.returns-in-Ok-clause-ready_len
returns-in-Ok-clause-ready_len c =
    let bs = c.args.bytes.now in
    let cut = c.last_scalar-cut.result in
    let last : c.judge_at_once-last.result.ready_len ≡ utf8_valid_len (drop cut bs) =
    c.judge_at_once-last.ensures.ready_len ∙ ap utf8_valid_len (behind bs cut) in
    ap (λ n. cut + n) last ∙ sym (parts_len bs cut c.last_scalar-cut.ensures c.in-Ok.ensures.cases.1)

pub returns-in-Ok-clause-stop : goal.returns-in-Ok-clause-stop
returns-in-Ok-clause-stop c =
    let bs = c.args.bytes.now in
    let cut = c.last_scalar-cut.result in
    let last : c.judge_at_once-last.result.stop ≡ stop_of (after_prefix (drop cut bs)) =
    c.judge_at_once-last.ensures.stop ∙ ap (λ l. stop_of (after_prefix l)) (behind bs cut) in
    last ∙ parts_stop bs cut c.in-Ok.ensures.cases.1
