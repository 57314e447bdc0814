use Rattle.std.proofs.Common.{◌≡◌, length, [], ◌∷◌, ◌++◌, ap, ◌∙◌, arith, append_assoc, length-append}
use Rattle.lbk_feed.proofs.Appended.{HasPut-before, on_err}
use Rattle.lbk_wrap.proofs.filling.push_with_end.Goals as goal

pub returns-in_err-push-clause-refused : goal.returns-in_err-push-clause-refused
returns-in_err-push-clause-refused c =
    let old = c.args.out.now.items in
    let bytes = c.args.bytes.now in
    let new = c.push.new.self.items in
    let same : new ≡ old ++ bytes = c.in_err-push.ensures.items ∙ c.in_ok-extend_from_slice.ensures.items in
    on_err c.from_residual-in_err-push.result
    (HasPut-before old new (bytes ++ 10 ∷ []) (10 ∷ []) (ap (λ l. l ++ 10 ∷ []) same ∙ append_assoc old bytes (10 ∷ []))
    (omega (arith, ap length same, length-append old bytes)))
