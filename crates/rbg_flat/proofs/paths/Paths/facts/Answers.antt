use Rattle.rbg_base.proofs.Common.{◌<◌, length, sym, ap, ◌∙◌, arith, Some, slice_get-get_or}
use Rattle.rbg_flat.proofs.paths.Paths.facts.Goals as goal

pub returns : goal.returns
returns c =
    let all = c.requires.paths.all in
    let there = c.requires.there in
    let below : c.args.position < length c.args.self.now.facts.items = omega (arith, all, there) in
    c.requires.paths.told c.args.position c.index.result.now (slice_get-get_or _ _ _ below ∙ ap Some (sym c.index.ensures))
