use Rattle.std.proofs.Common.{◌≤◌, length, decimal, rules}
use Rattle.std.proofs.lemmas.Fmt.{length-decimal-le}
use Rattle.lbk_passage.proofs.lines.offsets.digits_of.Goals as goal

pub write_digits-start-requires : goal.write_digits-start-requires
write_digits-start-requires c =
    let few : length (decimal c.args.number) ≤ 16 = search (rules, length-decimal-le 16) in
    search (rules, few)
