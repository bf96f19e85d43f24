-- One more place is added.
use Rattle.std.proofs.Common.{◌∙◌, ◌++◌, ◌∷◌, [], ap, replicate}
use Rattle.std.proofs.lemmas.List.{append_assoc, replicate_more}
use Rattle.rbg_hosting.proofs.seats.add_places.Goals as goal

pub loop-preserved : goal.loop-preserved
loop-preserved c =
    c.in_ok-push.ensures.items
    ∙ ap (λ places. places ++ c.args.place ∷ []) c.loop.invariant
    ∙ append_assoc c.args.places.now.items (replicate c.loop.counter c.args.place) (c.args.place ∷ [])
    ∙ ap (λ places. c.args.places.now.items ++ places) (replicate_more c.loop.counter c.args.place)
