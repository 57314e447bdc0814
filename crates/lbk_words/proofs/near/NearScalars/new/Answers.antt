use Rattle.std.proofs.Common.{ℕ}
use Rattle.std.proofs.lemmas.List.{get_or-replicate, length-replicate}
use Rattle.lbk_words.proofs.near.NearScalars.new.Goals as goal

pub returns : goal.returns
returns c = λ letter. record {
  all = length-replicate {A = ℕ} 131072 0;
  right = λ code few some. absurd (some (get_or-replicate {A = ℕ} 131072 code 0 0 few));
}
