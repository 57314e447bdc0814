use borrow.Rule.Slice.PartMut.{put_mid}
use Rattle.std.proofs.Common.{◌≡◌, ◌+◌, ◌-◌, ◌∷◌, ◌++◌, length, take, drop, ap, sym, ◌∙◌, arith}
use Rattle.std.proofs.Math.Seq.{take-append_seam}
use Rattle.std.proofs.lemmas.List.{drop-drop, length-drop}
use Rattle.std.specs.Prelude.{codes}
use Rattle.std.specs.Int.{to_le_bytes, w64}
use Rattle.lbk_rules.specs.FlatTable.{digest_of_bytes}
use Rattle.lbk_calls.specs.Packing.{records_of}
use Rattle.lbk_calls.proofs.PackingLemmas.{back-put_mid}
use Rattle.lbk_calls.proofs.RunsLemmas.{tail}
use Rattle.lbk_calls.proofs.packing.pack.Goals as goal

pub returns-then-size-bytes-clause-form : goal.returns-then-size-bytes-clause-form
returns-then-size-bytes-clause-form c = λ room.
    let bytes = c.args.bytes.now in
    let version = c.args.version in
    let records = records_of c.args.kinds.now in
    let left = drop (12 + length records) bytes in
    let one = c.put_records-size.ensures.size in
    let count = c.put_records.ensures.size in
    let size : length (take (length bytes - 12) (drop 12 bytes)) ≡ length bytes - 12 = ap length (tail 12 bytes) ∙ length-drop 12 bytes in
    let back : drop 12 (put_mid 12 (length bytes - 12) bytes c.put_records.new.bytes) ≡ records ++ left =
    back-put_mid 12 bytes c.put_records.new.bytes (omega arith) ∙ c.put_records.ensures.records (omega arith)
    ∙ ap (λ l. records ++ drop c.put_records.result l) (tail 12 bytes) ∙ ap (λ n. records ++ drop n (drop 12 bytes)) count
    ∙ ap (λ l. records ++ l) (drop-drop (length records) 12 bytes) in
    let digest : c.digest_of_bytes-digest.result ≡ digest_of_bytes records =
    c.digest_of_bytes-digest.ensures ∙ ap (λ l. digest_of_bytes (take (12 + c.put_records-size.result - 12) l)) back
    ∙ ap (λ n. digest_of_bytes (take n (records ++ left))) (omega arith) ∙ ap digest_of_bytes (take-append_seam records left) in
    c.put_head.ensures
    ∙ ap (λ l. codes "lbk" ++ (version ∷ (to_le_bytes w64 c.digest_of_bytes-digest.result ++ l))) back
    ∙ ap (λ d. codes "lbk" ++ (version ∷ (to_le_bytes w64 d ++ (records ++ left)))) digest
    ∙ ap (λ n. codes "lbk" ++ (version ∷ (to_le_bytes w64 (digest_of_bytes records) ++ (records ++ drop (12 + n) bytes)))) (sym one)
