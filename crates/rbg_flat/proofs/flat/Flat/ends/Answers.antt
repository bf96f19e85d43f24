use Rattle.rbg_flat.specs.internal.Sets.{IsMarked, IsOpen}
use Rattle.rbg_flat.proofs.ChainLemmas.{chain_law}
use Rattle.rbg_flat.proofs.Steps.{ends_are_met}
use Rattle.rbg_flat.proofs.flat.Flat.ends.Goals as goal

pub returns : goal.returns
returns c = λ way game s f numbered is none.
    let met = ends_are_met way game s f (IsMarked c.args.self.now.sets) (IsOpen c.args.self.now.sets) c.args.self.now.ends is none in
    let law = (chain_law way game numbered s f).1 in
    ((λ told. law.0 (met.0 told)), (λ end. met.1 (law.1 end)))
