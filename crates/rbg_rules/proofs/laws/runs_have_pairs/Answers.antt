-- The proof of `laws::runs_have_pairs`.
use Rattle.rbg_rules.proofs.PlaceLemmas.{RunPairs-Runs, Runs-RunPairs}
use Rattle.rbg_rules.proofs.laws.runs_have_pairs.Goals as goal

pub returns : goal.returns
returns c = λ game w s t. (λ run. Runs-RunPairs run, λ pairs. RunPairs-Runs pairs.1)
