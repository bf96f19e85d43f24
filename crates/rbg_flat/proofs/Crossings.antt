-- Where a shift holds.
use Rattle.std.proofs.Common.{◌≡◌, ℕ, None, Some, refl, sym, ap, ◌∙◌}
use Rattle.rbg_board.specs.Graph.{next}
use Rattle.rbg_rules.specs.Meaning.{shift, HasAction, IsNumbered, AbstractGame, AbstractState}
use Rattle.rbg_rules.proofs.PositionLemmas.{one_action_at}
use Rattle.rbg_flat.proofs.Common.{Holds, at_vertex}
use Rattle.rbg_flat.proofs.ChainLemmas.{QuietStep, shifts, holds, quiet_step, shift_quiet}

module _ (game : AbstractGame) (numbered : IsNumbered game.rules) (s : AbstractState) (q d : ℕ) (stands : HasAction game.rules q (shift d)) (v : ℕ) where
  pub edge_holds : (u : ℕ) → next game.board v d ≡ Some u → Holds game s v q
  edge_holds u edge = record { to = u; quiet = shift_quiet game numbered q d stands; applies = record { action = shift d; stands = stands; acts = (u, edge, refl) } }

  pub holds_edge : next game.board v d ≡ None → ¬ Holds game s v q
  holds_edge edge is = by_step (quiet_step game numbered q (at_vertex s v) (at_vertex s is.to) is.quiet is.applies)
    where
      some_not_none : (u : ℕ) → Some u ≡ None → ⊥
      some_not_none u e = cc

      same_direction : (e : ℕ) → shift d ≡ shift e → d ≡ e
      same_direction e same = cc

      by_step : QuietStep game q (at_vertex s v) (at_vertex s is.to) → ⊥
      by_step (shifts e u other leads same) = some_not_none u (sym leads ∙ ap (λ (x : ℕ). next game.board v x) (sym (same_direction e (one_action_at game.rules numbered q (shift d) (shift e) stands other))) ∙ edge)
      by_step (holds plain same) = plain (record { direction = d; stands = stands })
