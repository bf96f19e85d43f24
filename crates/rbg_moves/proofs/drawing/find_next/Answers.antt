use Rattle.rbg_base.proofs.Common.{sym, subst, All}
use Rattle.rbg_rules.specs.Meaning.{point_of, IsStart}
use Rattle.rbg_search.specs.Start.{start_of}
use Rattle.rbg_search.proofs.Common.{Searching}
use Rattle.rbg_search.proofs.CallerLemmas.{place_start}
use Rattle.rbg_moves.specs.internal.Drawing.{ComesNext}
use Rattle.rbg_moves.proofs.Drawings.{all_come_next}
use Rattle.rbg_moves.proofs.Further.{has_come}
use Rattle.rbg_moves.proofs.drawing.find_next.Goals as goal

pub reach_into-requires-clause-stands : goal.reach_into-requires-clause-stands
reach_into-requires-clause-stands g c =
    let game = c.args.search.now.game in
    let stands = subst (IsStart game.rules) (sym c.origin_after.ensures) (place_start game.rules c.game-game.ensures.lawful.numbered c.args.after c.requires.place.last) in
    subst (λ (x : Searching). IsStart x.game.rules (start_of c.origin_after.result)) (sym c.take_list-pairs.ensures) stands

pub returns-clause-next : goal.returns-clause-next
returns-clause-next g c =
    let come = has_come c.take_list-pairs.ensures c.origin_after.ensures c.reach_into.ensures.answered c.in_ok-reach_into.was c.in_ok-reach_into.ensures.found in
    subst (All (ComesNext c.args.search.now.game c.args.state.now.state (point_of c.args.after))) (sym c.in_ok-written.ensures)
    (all_come_next c.args.search.now.game c.game-game.ensures.lawful.numbered c.args.state.now.state (point_of c.args.after) c.reach_into.new.pairs c.in_ok-reach_into.field-0 come.found.reached come.found.within)
