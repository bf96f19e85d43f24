use Rattle.rbg_base.proofs.Common.{◌≡◌, ℕ, ◌*◌, ◌<◌, ◌≤◌, [], length, ap, subst, Bool, Decides, refl}
use Rattle.rbg_rules.specs.Meaning.{positions_of, Start, Ends, AbstractGame}
use Rattle.rbg_search.proofs.Common.{Searching, Deep, Wide}
use Rattle.rbg_search.proofs.Along.{start_of}
use Rattle.rbg_search.proofs.Lone.{few, asked, found}
use Rattle.rbg_search.proofs.Fewness.{one_opened}
use Rattle.rbg_search.proofs.Takings.{not_ok}
use Rattle.rbg_search.proofs.Kept.{onward_rules, rules_before}
use Rattle.rbg_search.proofs.Asks.{answered, not_entered}
use Rattle.rbg_search.proofs.Counted.{ok_not_err}
use Rattle.rbg_search.proofs.Finding.{finds_none}
use Rattle.rbg_search.proofs.search.Search.reach_only.Goals as goal

-- Whether a word may end is told of the game.
decided : (h e : Searching) (f : Start) (ends : Bool) (inner : AbstractGame) → e ≡ record h { opened = e.opened; taken = e.taken } → inner ≡ e.game → Decides ends (Ends inner.rules f []) → Decides ends (Ends h.game.rules f [])
decided h e f ends inner kept game is = rules_before (λ x. Decides ends (Ends x.rules f [])) h e kept (subst (λ (x : AbstractGame). Decides ends (Ends x.rules f [])) game is)

pub count_pairs-requires-clause-few : goal.count_pairs-requires-clause-few
count_pairs-requires-clause-few g c =
    onward_rules (λ x. 1 ≤ length (positions_of x.rules) * length x.board.first) c.args.self.now c.enter.new.self c.enter.ensures.kept (few c.args.self.now c.args.state.now.state (start_of c.args.origin) c.args.position c.requires.fits c.enter.ensures.lawful.numbered c.requires.only)

pub count_pairs-requires-clause-one : goal.count_pairs-requires-clause-one
count_pairs-requires-clause-one g c = one_opened c.args.self.now c.enter.new.self c.enter.ensures.kept c.enter.ensures.none_taken c.enter.ensures.spent c.in_ok-enter.ensures.opened

pub returns-in_err-enter-clause-answered : goal.returns-in_err-enter-clause-answered
returns-in_err-enter-clause-answered g c =
    let some : 0 < c.args.self.now.modifiers = subst (λ (m : ℕ). 0 < m) (ap (λ (x : Searching). x.modifiers) c.self.view_is) c.self.invariant.3 in
    answered some
    (not_entered c.args.self.now c.enter.new.self c.args.state.now c.enter.new.state (start_of c.args.origin) c.enter.result c.from_residual.result c.in_err-enter.field-0.0 c.in_err-enter.was c.from_residual.ensures.1 c.enter.ensures.kept c.enter.ensures.given_back c.enter.ensures.room
    (c.enter.ensures.counts c.args.state.now.state (start_of c.args.origin) c.requires.stands) (c.in_err-enter.ensures.lost c.args.state.now.state (start_of c.args.origin)))
    (λ ok. absurd (not_ok c.from_residual.result c.in_err-enter.field-0.0 c.from_residual.ensures.1 ok))

pub returns-clause-answered : goal.returns-clause-answered
returns-clause-answered g c =
    let some : 0 < c.args.self.now.modifiers = subst (λ (m : ℕ). 0 < m) (ap (λ (x : Searching). x.modifiers) c.self.view_is) c.self.invariant.3 in
    let begun = finds_none c.args.self.now c.enter.new.self c.enter.new.self c.args.state.now c.enter.new.state (start_of c.args.origin) c.enter.ensures.lawful c.requires.stands c.enter.ensures.kept refl c.enter.ensures.given_back c.enter.ensures.room c.in_ok-enter.ensures.enough c.in_ok-enter.ensures.opened c.enter.ensures.none_taken c.enter.ensures.spent in
    let ends = decided c.args.self.now c.enter.new.self (start_of c.args.origin) c.may_end-ends.result c.self-2.inside.rules c.enter.ensures.kept (ap (λ (x : Searching). x.game) c.self-2.view_is) c.may_end-ends.ensures in
    answered some
    (asked begun c.requires.fits c.requires.only ends c.requires.modifies c.count_pairs.ensures.kept c.count_pairs.ensures.opened c.count_pairs.ensures.taken _ (ok_not_err c.may_end-ends.result Deep) (ok_not_err c.may_end-ends.result Wide))
    (λ _ cut. (found begun c.requires.fits c.requires.only ends c.requires.modifies c.count_pairs.ensures.kept c.count_pairs.ensures.opened c.count_pairs.ensures.taken).forced cut c.args.self.now.modifiers)

pub returns-clause-found : goal.returns-clause-found
returns-clause-found g c =
    let begun = finds_none c.args.self.now c.enter.new.self c.enter.new.self c.args.state.now c.enter.new.state (start_of c.args.origin) c.enter.ensures.lawful c.requires.stands c.enter.ensures.kept refl c.enter.ensures.given_back c.enter.ensures.room c.in_ok-enter.ensures.enough c.in_ok-enter.ensures.opened c.enter.ensures.none_taken c.enter.ensures.spent in
    let ends = decided c.args.self.now c.enter.new.self (start_of c.args.origin) c.may_end-ends.result c.self-2.inside.rules c.enter.ensures.kept (ap (λ (x : Searching). x.game) c.self-2.view_is) c.may_end-ends.ensures in
    found begun c.requires.fits c.requires.only ends c.requires.modifies c.count_pairs.ensures.kept c.count_pairs.ensures.opened c.count_pairs.ensures.taken
