use Rattle.rbg_base.proofs.Common.{◌≡◌, ℕ, ◌+◌, ◌≤◌, List, [], ◌∷◌, ◌++◌, None, Some, not, refl, sym, ap, ◌∙◌, subst, arith, length_push, append_assoc, append-nil}
use Rattle.rbg_rules.specs.Meaning.{AbstractGame, AbstractState, IsGame, IsStateOf, IsPlaceOf, IsModifierAt, Applies}
use Rattle.rbg_state.proofs.Histories.{after_nothing, after_both}
use Rattle.rbg_flat.specs.Onward.{IsOnward}
use Rattle.rbg_flat.specs.declared.onward.Onward.{Onward}
use Rattle.rbg_flat.specs.declared.onward.Onward.TheVariants.{Modifier, Switch}
use Rattle.rbg_search.specs.Searching.{Searching}
use Rattle.rbg_moves.specs.internal.Lines.{stays, FollowsLine}
use Rattle.rbg_moves.specs.internal.Stepping.{place_beyond}
use Rattle.rbg_moves.proofs.Lines.{line_more, line_followed, kept_further}
use Rattle.rbg_moves.proofs.Steps.{place_after}
use Rattle.rbg_moves.proofs.line.follow_line.Given as given
use Rattle.rbg_moves.proofs.line.follow_line.Goals as goal
use Rattle.rbg_moves.proofs.line.follow_line.Goals.{else-loop-many-test, then-loop-many-test+in-Modifier+in_ok-take_next-in-Modifier+then-not-branch, then-loop-many-test+in-Unknown}

pub loop-many-init : goal.loop-many-init
loop-many-init g c = record {
  pairs = [];
  search = refl;
  line = stays;
  front = sym (append-nil c.args.front.now.items);
  count = refl;
  within = omega arith;
  place = c.requires.place;
  after = after_nothing c.args.state.now;
  capacity = omega arith;
}

pub take_next-requires-clause-lawful : goal.take_next-requires-clause-lawful
take_next-requires-clause-lawful g c = subst IsGame (sym c.game-game.ensures.game) c.game-game.ensures.lawful

pub take_next-requires-clause-fits : goal.take_next-requires-clause-fits
take_next-requires-clause-fits g c =
    subst (λ (x : AbstractGame). IsStateOf x c.loop-many.state.state) (sym c.game-game.ensures.game) c.loop-many.invariant.place.state

-- What is told of the position is told in the game of the search.
told : (old now : Searching) → now ≡ old → (p : ℕ) (o o' : Onward) → o ≡ o' → IsOnward now.game.rules p o → IsOnward old.game.rules p o'
told old now same p o o' is onward = subst (IsOnward old.game.rules p) is (subst (λ (x : Searching). IsOnward x.game.rules p o) same onward)

pub take_next-requires-clause-modifies : goal.take_next-requires-clause-modifies
take_next-requires-clause-modifies g c =
    let onward = told c.args.search.now c.loop-many.search c.loop-many.invariant.search c.loop-many.last c.onward.result _ c.in-Modifier.is c.onward.ensures in
    subst (λ (x : AbstractGame). IsModifierAt x.rules c.in-Modifier.position) (sym c.game-game.ensures.game) onward.1

pub loop-many-preserved : goal.loop-many-preserved
loop-many-preserved g c =
    let old = c.args.search.now in
    let now = c.loop-many in
    let inv = c.loop-many.invariant in
    let next = c.take_next.new in
    let position = c.in-Modifier.position in
    let pair : ℕ × ℕ = (now.state.state.vertex, position) in
    let onward = told old now.search inv.search now.last c.onward.result (Modifier position) c.in-Modifier.is c.onward.ensures in
    let more = c.in_ok-take_next-in-Modifier.ensures in
    let applied : Applies old.game position now.state.state next.state.state = subst (λ (x : AbstractGame). Applies x position now.state.state next.state.state) c.game-game.ensures.game (more.taken c.if-not-branch.false) in
    let fits : IsStateOf old.game next.state.state = subst (λ (x : AbstractGame). IsStateOf x next.state.state) c.game-game.ensures.game c.take_next.ensures.fits in
    record {
      pairs = inv.pairs ++ pair ∷ [];
      search = inv.search;
      line = line_more inv.line inv.place.state onward applied;
      front = more.pushed c.if-not-branch.false ∙ ap (λ (ps : List (ℕ × ℕ)). ps ++ pair ∷ []) inv.front ∙ append_assoc c.args.front.now.items inv.pairs (pair ∷ []);
      count = length_push inv.pairs pair ∙ ap (λ (n : ℕ). n + 1) inv.count;
      within = omega (arith, c.loop-many-test.true);
      place = place_after old.game c.game-game.ensures.lawful.numbered next.state.state position onward.1 fits;
      after = after_both c.args.state.now now.state next.state inv.after c.take_next.ensures.after;
      capacity = (let had = inv.capacity in let has = more.capacity in omega (arith, had, has));
    }

-- The budget allows so many openings more.
allowed : (old now : Searching) (left n : ℕ) → now ≡ old → old.opened + left ≡ old.openings → n ≤ left → now.opened + n ≤ now.openings
allowed old now left n same all few =
    let opened : now.opened ≡ old.opened = ap (λ (x : Searching). x.opened) same in
    let openings : now.openings ≡ old.openings = ap (λ (x : Searching). x.openings) same in
    omega (arith, opened, openings, all, few)

pub take_line-requires-clause-left : goal.take_line-requires-clause-left
take_line-requires-clause-left g c =
    let many : c.loop-many.many + 1 ≤ c.left.result = omega (arith, c.loop-many-test.true, c.min-most.ensures) in
    allowed c.args.search.now c.loop-many.search c.left.result (c.loop-many.many + 1) c.loop-many.invariant.search c.left.ensures many

pub take_line-requires-2-clause-left : goal.take_line-requires-2-clause-left
take_line-requires-2-clause-left g c =
    let within = c.loop-many.invariant.within in
    let many : c.loop-many.many ≤ c.left.result = omega (arith, within, c.min-most.ensures) in
    allowed c.args.search.now c.loop-many.search c.left.result c.loop-many.many c.loop-many.invariant.search c.left.ensures many

-- ---- a switch ends the line

pub returns-in-Switch-clause-search : goal.returns-in-Switch-clause-search
returns-in-Switch-clause-search g c = kept_further c.args.search.now c.loop-many.search c.take_line.new.self (c.loop-many.many + 1) c.loop-many.invariant.search c.take_line.ensures.search

pub returns-in-Switch-clause-follows : goal.returns-in-Switch-clause-follows
returns-in-Switch-clause-follows g c =
    let inv = c.loop-many.invariant in
    let position = c.in-Switch.position in
    let onward = told c.args.search.now c.loop-many.search inv.search c.loop-many.last c.onward.result (Switch position) c.in-Switch.is c.onward.ensures in
    let line = c.take_line.ensures in
    line_followed (Some position) inv.search inv.line onward inv.front (omega (arith, inv.count)) line.search c.game-game.ensures.lawful line.some line.few

-- ---- it ends with none

-- The modifier that isn't valid has changed nothing.
unchanged : (g : given.Over) (c : goal.After-take_line-2 g) → (c.loop-many-test.state.state ≡ c.loop-many.state.state) × (c.loop-many-test.front.items ≡ c.loop-many.front.items)
unchanged g c = elim c.loop-many-test.branch [
  | else-loop-many-test w ↦ (ap (λ h. h.state) w.state-is, ap (λ f. f.items) w.front-is)
  | then-loop-many-test+in-Modifier+in_ok-take_next-in-Modifier+then-not-branch w ↦
      let left = w.in_ok-take_next-in-Modifier.ensures.left (ap not w.if-not-branch.true) in
      (ap (λ h. h.state) w.state-is ∙ left.0, ap (λ f. f.items) w.front-is ∙ left.1)
  | then-loop-many-test+in-Unknown w ↦ (ap (λ h. h.state) w.state-is, ap (λ f. f.items) w.front-is)
]

pub returns-clause-search : goal.returns-clause-search
returns-clause-search g c = kept_further c.args.search.now c.loop-many.search c.take_line-2.new.self c.loop-many.many c.loop-many.invariant.search c.take_line-2.ensures.search

pub returns-clause-follows : goal.returns-clause-follows
returns-clause-follows g c =
    let inv = c.loop-many.invariant in
    let still = unchanged g c in
    let line = c.take_line-2.ensures in
    subst (λ (s : AbstractState). FollowsLine c.args.search.now c.take_line-2.new.self c.args.state.now.state s c.args.front.now.items c.loop-many-test.front.items c.args.after c.loop-many.last None) (sym still.0)
    (line_followed None inv.search inv.line tt (still.1 ∙ inv.front) (omega (arith, inv.count)) line.search c.game-game.ensures.lawful line.some line.few)

pub returns-clause-place : goal.returns-clause-place
returns-clause-place g c =
    subst (λ (s : AbstractState). IsPlaceOf c.args.search.now.game (place_beyond s c.loop-many.last)) (sym (unchanged g c).0) c.loop-many.invariant.place
