-- What a trial returns for an action, and for the position of the action.
use Rattle.std.proofs.Common.{◌≡◌, ℕ, ◌<◌, true, false, sym, refl, ap, subst, ◌∙◌, length, Option, Some, None, IfSome, IfNone}
use Rattle.rbg_base.specs.declared.relation.Relation.{Relation}
use Rattle.rbg_rules.specs.Meaning.{AbstractArithmetic, number, variable, piece_count, negated, sum, difference, product, quotient, AbstractAction, comparison, HasAction, IsPatternAt, is_modifier, AbstractGame, AbstractState, IsStateOf, Acts, value_of, IsGame, IsActionOf, shows_pattern, Shows, IsActionAt}
use Rattle.rbg_rules.specs.declared.rule.Action.{Action}
use Rattle.rbg_rules.specs.declared.rule.Action.TheVariants.{Shift, On, Off, Assign, Compare, Switch, Positive, Negative}
use Rattle.rbg_rules.proofs.MoveLemmas.{applied_acts}
use Rattle.rbg_rules.proofs.PositionLemmas.{one_action_at}
use Rattle.rbg_rules.proofs.StateLemmas.{state_law}
use Rattle.rbg_rules.proofs.TableLemmas.{pattern_stands}
use Rattle.rbg_state.specs.Trials.{at_vertex, IsTrialOf, IsTrial}
use Rattle.rbg_state.specs.declared.state.trials.Trial.{Trial}
use Rattle.rbg_state.specs.declared.state.trials.Trial.TheVariants.{Invalid, Modifies, LeadsTo}
use Rattle.rbg_state.proofs.Applying.{ShownAction, shown_action}

-- Arithmetic has the same value at every current vertex.
pub same_value : (e : AbstractArithmetic) (s : AbstractState) (v : ℕ) → value_of e (at_vertex s v) ≡ value_of e s
same_value (number n) s v = refl
same_value (variable x) s v = refl
same_value (piece_count p) s v = refl
same_value (negated e) s v = rw (same_value e s v) refl
same_value (sum e f) s v = rw (same_value e s v, same_value f s v) refl
same_value (difference e f) s v = rw (same_value e s v, same_value f s v) refl
same_value (product e f) s v = rw (same_value e s v, same_value f s v) refl
same_value (quotient e f) s v = rw (same_value e s v, same_value f s v) refl

-- A comparison has the same result at every current vertex.
pub compares_there : (game : AbstractGame) (e f : AbstractArithmetic) (r : Relation) (s : AbstractState) (v : ℕ) → Acts game (comparison e r f) s s → Acts game (comparison e r f) (at_vertex s v) (at_vertex s v)
compares_there game e f r s v (x, y, left, right, holds, same) = (x, y, same_value e s v ∙ left, same_value f s v ∙ right, holds, refl)

pub compares_here : (game : AbstractGame) (e f : AbstractArithmetic) (r : Relation) (s t : AbstractState) (v : ℕ) → Acts game (comparison e r f) (at_vertex s v) t → Acts game (comparison e r f) s s
compares_here game e f r s t v (x, y, left, right, holds, same) = (x, y, sym (same_value e s v) ∙ left, sym (same_value f s v) ∙ right, holds, refl)

true_not_false : true ≡ false → ⊥
true_not_false e = cc

module _ (game : AbstractGame) (lawful : IsGame game) (p : ℕ) (i : Action) (stands : IsActionAt game.rules p i) where
  tried_by : (s : AbstractState) (trial : Trial) (here : ShownAction game.rules p i) → IsTrialOf game here.action s trial → IsTrial game s p trial
  tried_by s Invalid here none = λ u applies. none u (applied_acts game lawful.numbered p here.action here.stands applies)
  tried_by s Modifies here (modifies, (t, acts)) = (record { action = here.action; stands = here.stands; modifies = modifies }, (t, record { action = here.action; stands = here.stands; acts = acts }))
  tried_by s (LeadsTo v) here (quiet, acts) = ((λ m. true_not_false (sym m.modifies ∙ ap is_modifier (one_action_at game.rules lawful.numbered p m.action here.action m.stands here.stands) ∙ quiet)), record { action = here.action; stands = here.stands; acts = acts })

  -- A trial that is right for the action at a position is right for the position.
  pub tried : (s : AbstractState) (told : Option Trial) → IfSome told (λ trial. (a : AbstractAction) → Shows a i → IsTrialOf game a s trial) → IfSome told (λ _. shows_pattern i ≡ false) → IfSome told (IsTrial game s p)
  tried s None tells plain = _
  tried s (Some trial) tells plain = let here = shown_action game.rules p i plain stands in tried_by s trial here (tells here.action here.shown)

  -- There is a trial exactly if the action is no pattern.
  pub tried_plain : (told : Option Trial) → IfSome told (λ _. shows_pattern i ≡ false) → IfSome told (λ _. ¬ IsPatternAt game.rules p)
  tried_plain None plain = _
  tried_plain (Some trial) plain = λ is. true_not_false (sym ((pattern_stands game.rules lawful.numbered p i stands).1 is) ∙ plain)

  pub tried_pattern : (told : Option Trial) → IfNone told (shows_pattern i ≡ true) → IfNone told (IsPatternAt game.rules p)
  tried_pattern None is = (pattern_stands game.rules lawful.numbered p i stands).0 is
  tried_pattern (Some trial) is = _

-- An action that is shown at a position is one of the game's.
pub named_here : (game : AbstractGame) → IsGame game → (p : ℕ) (i : Action) → IsActionAt game.rules p i → (a : AbstractAction) → Shows a i → IsActionOf game a
named_here game lawful p (Shift d) stands a shown = lawful.actions p a (subst (HasAction game.rules p) (sym shown) stands)
named_here game lawful p (On pieces) stands a shown = lawful.actions p a (subst (HasAction game.rules p) (sym shown) stands)
named_here game lawful p (Off x) stands a shown = lawful.actions p a (subst (HasAction game.rules p) (sym shown) stands)
named_here game lawful p (Assign v e) stands a shown = lawful.actions p a (subst (HasAction game.rules p) (sym shown) stands)
named_here game lawful p (Compare e r f) stands a shown = lawful.actions p a (subst (HasAction game.rules p) (sym shown) stands)
named_here game lawful p (Switch n) stands a shown = lawful.actions p a (subst (HasAction game.rules p) (sym shown) stands)
named_here game lawful p Positive stands a (x, shown) = subst (IsActionOf game) (sym shown) _
named_here game lawful p Negative stands a (x, shown) = subst (IsActionOf game) (sym shown) _

-- The vertex to which an action leads is one of the board.
pub leads_within : (game : AbstractGame) (lawful : IsGame game) (p : ℕ) (s : AbstractState) (v : ℕ) → IsStateOf game s → v < length s.pieces → (told : Option Trial) → IfSome told (IsTrial game (at_vertex s v) p) → IfSome told (λ trial. (u : ℕ) → trial ≡ LeadsTo u → u < length s.pieces)
leads_within game lawful p s v fits below None told = _
leads_within game lawful p s v fits below (Some trial) told = λ u is.
    let there : IsTrial game (at_vertex s v) p (LeadsTo u) = subst (IsTrial game (at_vertex s v) p) is told in
    let stands_there : IsStateOf game (at_vertex s v) = record { player = fits.player; vertices = fits.vertices; pieces = fits.pieces; variables = fits.variables; bounds = fits.bounds; vertex = below } in
    let fits_there : IsStateOf game (at_vertex s u) = (state_law game lawful).1 p (at_vertex s v) (at_vertex s u) stands_there there.1 in
    fits_there.vertex
