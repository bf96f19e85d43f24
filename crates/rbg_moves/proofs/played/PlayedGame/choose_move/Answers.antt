-- A move is chosen from the list of all, or there is none.
use Rattle.std.proofs.Common.{◌≡◌, ◌∙◌, sym, subst, arith}
use Rattle.rbg_rules.specs.Meaning.{AbstractPlace, Finished, IsLegal}
use Rattle.rbg_moves.proofs.Choices.{legal_at, nothing_listed}
use Rattle.rbg_moves.proofs.played.PlayedGame.choose_move.Goals as goal

pub returns-then-count-eq0-clause-finished : goal.returns-then-count-eq0-clause-finished
returns-then-count-eq0-clause-finished c =
    subst (Finished c.args.self.now) c.draw_move.ensures.kept
    (nothing_listed _ _ _ _ _ (omega arith) c.in_ok-gathered.ensures.lists.lists (sym c.len-count.ensures.count ∙ c.if-count-eq0.true))

pub returns-clause-legal : goal.returns-clause-legal
returns-clause-legal c =
    let is : c.keep_moves-2.new.self.front.items ≡ c.get.result.now = c.keep_moves-2.ensures.front ∙ c.in_ok-copied.ensures.chosen in
    subst (IsLegal c.args.self.now c.args.place.now) (sym is)
    (subst (λ (p : AbstractPlace). IsLegal c.args.self.now p c.get.result.now) c.draw_move.ensures.kept
    (legal_at _ _ _ c.below-index.result _ c.in_ok-gathered.ensures.lists.lists.legal c.get.ensures.pairs))
