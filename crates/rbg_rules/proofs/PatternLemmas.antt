-- A pattern anywhere in the rules asks for a run by the game's own actions: what the table of actions means for a
-- pattern's inside, read with the actions of that inside alone, is the same read with all actions of the rules.
use Rattle.std.proofs.Common.{◌≡◌, ℕ, List, [], ◌∷◌, refl, subst, inl, inr}
use Rattle.rbg_rules.specs.Expression.{AbstractAction, positive, negative, Expression, act, skip, sequence, fail, choice, star}
use Rattle.rbg_rules.specs.Positions.{HasAction, HasInside, HasOwnAction, IsNumbered}
use Rattle.rbg_rules.specs.Words.{Word, Repeats, done, again}
use Rattle.rbg_rules.specs.State.{AbstractGame, AbstractState}
use Rattle.rbg_rules.specs.Actions.{Runs, rest, step, Acts, ActsIn, Applies, Run}
use Rattle.rbg_rules.proofs.PositionLemmas.{Among, Among_cases, one_action_at}

-- An own action is an action, and what is in an inside is in the whole.
pub own_is_action : (x : Expression) (p : ℕ) (a : AbstractAction) → HasOwnAction x p a → HasAction x p a
own_is_action (act q b) p a h = inl h
own_is_action skip p a h = absurd h
own_is_action (sequence x y) p a (inl h) = inl (own_is_action x p a h)
own_is_action (sequence x y) p a (inr h) = inr (own_is_action y p a h)
own_is_action fail p a h = absurd h
own_is_action (choice x y) p a (inl h) = inl (own_is_action x p a h)
own_is_action (choice x y) p a (inr h) = inr (own_is_action y p a h)
own_is_action (star x) p a h = own_is_action x p a h

mutual
  pub inside_is_within : (x : Expression) (p : ℕ) (b : AbstractAction) → HasAction x p b → (q : ℕ) (a : AbstractAction) → HasInside b q a → HasAction x q a
  inside_is_within (act r c) p b (inl (_, e)) q a k = inr (subst (λ (d : AbstractAction). HasInside d q a) e k)
  inside_is_within (act r c) p b (inr h) q a k = inr (stays_inside c p b h q a k)
  inside_is_within skip p b h q a k = absurd h
  inside_is_within (sequence x y) p b (inl h) q a k = inl (inside_is_within x p b h q a k)
  inside_is_within (sequence x y) p b (inr h) q a k = inr (inside_is_within y p b h q a k)
  inside_is_within fail p b h q a k = absurd h
  inside_is_within (choice x y) p b (inl h) q a k = inl (inside_is_within x p b h q a k)
  inside_is_within (choice x y) p b (inr h) q a k = inr (inside_is_within y p b h q a k)
  inside_is_within (star x) p b h q a k = inside_is_within x p b h q a k

  pub stays_inside : (c : AbstractAction) (p : ℕ) (b : AbstractAction) → HasInside c p b → (q : ℕ) (a : AbstractAction) → HasInside b q a → HasInside c q a
  stays_inside (positive x) p b h q a k = inside_is_within x p b h q a k
  stays_inside (negative x) p b h q a k = inside_is_within x p b h q a k
  stays_inside _ p b h q a k = absurd h

-- What holds of each position of each repeated word holds of each position of their join.
pub repeats_each : {Language : List ℕ → Type 0} (P : ℕ → Type 0) → ((u : List ℕ) → Language u → (p : ℕ) → Among p u → P p) → {w : List ℕ} → Repeats Language w → (p : ℕ) → Among p w → P p
repeats_each P each done p h = absurd h
repeats_each P each (again {u} {v} word more) p h = elim (Among_cases p u v h) [
  | inl left ↦ each u word p left
  | inr right ↦ repeats_each P each more p right
]

pub only_one : (p q : ℕ) → Among p (q ∷ []) → p ≡ q
only_one p q (inl same) = same
only_one p q (inr none) = absurd none

-- The positions of a word are those of the expression's own actions.
pub word_own : (x : Expression) (w : List ℕ) → Word x w → (p : ℕ) → Among p w → (a : AbstractAction) × HasOwnAction x p a
word_own (act q b) w e p h = (b, (only_one p q (subst (Among p) e h), refl))
word_own skip w e p h = absurd (subst (Among p) e h)
word_own (sequence x y) w (u, v, in_x, in_y, e) p h = elim (Among_cases p u v (subst (Among p) e h)) [
  | inl left ↦ let own = word_own x u in_x p left in (own.0, inl own.1)
  | inr right ↦ let own = word_own y v in_y p right in (own.0, inr own.1)
]
word_own fail w e p h = absurd e
word_own (choice x y) w (inl in_x) p h = let own = word_own x w in_x p h in (own.0, inl own.1)
word_own (choice x y) w (inr in_y) p h = let own = word_own y w in_y p h in (own.0, inr own.1)
word_own (star x) w repeats p h = repeats_each (λ (q : ℕ). (a : AbstractAction) × HasOwnAction x q a) (word_own x) repeats p h

-- An own action of the expression that acts acts as `ActsIn` has it, and the other way round.
module _ (game : AbstractGame) (s t : AbstractState) where
  pub acts_in : (x : Expression) (p : ℕ) (a : AbstractAction) → HasOwnAction x p a → Acts game a s t → ActsIn game x p s t
  acts_in (act q b) p a (here, same) acts = (here, subst (λ (c : AbstractAction). Acts game c s t) same acts)
  acts_in skip p a h acts = absurd h
  acts_in (sequence x y) p a (inl h) acts = inl (acts_in x p a h acts)
  acts_in (sequence x y) p a (inr h) acts = inr (acts_in y p a h acts)
  acts_in fail p a h acts = absurd h
  acts_in (choice x y) p a (inl h) acts = inl (acts_in x p a h acts)
  acts_in (choice x y) p a (inr h) acts = inr (acts_in y p a h acts)
  acts_in (star x) p a h acts = acts_in x p a h acts

  pub acts_in_own : (x : Expression) (p : ℕ) → ActsIn game x p s t → (a : AbstractAction) × HasOwnAction x p a × Acts game a s t
  acts_in_own (act q b) p (here, acts) = (b, (here, refl), acts)
  acts_in_own skip p h = absurd h
  acts_in_own (sequence x y) p (inl h) = let own = acts_in_own x p h in (own.0, inl own.1, own.2)
  acts_in_own (sequence x y) p (inr h) = let own = acts_in_own y p h in (own.0, inr own.1, own.2)
  acts_in_own fail p h = absurd h
  acts_in_own (choice x y) p (inl h) = let own = acts_in_own x p h in (own.0, inl own.1, own.2)
  acts_in_own (choice x y) p (inr h) = let own = acts_in_own y p h in (own.0, inr own.1, own.2)
  acts_in_own (star x) p h = acts_in_own x p h

-- A run may be read by what another reading of its positions does.
pub runs_along : {Does Does' : ℕ → AbstractState → AbstractState → Type 0} {w : List ℕ} {s t : AbstractState} → ((p : ℕ) → Among p w → (s t : AbstractState) → Does p s t → Does' p s t) → Runs Does w s t → Runs Does' w s t
runs_along along rest = rest
runs_along along (step {p} {w} {s} {middle} does run) = step (along p (inl refl) s middle does) (runs_along (λ q h. along q (inr h)) run)

-- x is the inside of a pattern of the rules: its own actions are the game's.
pub IsInsideOf : Expression → Expression → Type 0
IsInsideOf rules x = (q : ℕ) (a : AbstractAction) → HasAction x q a → HasAction rules q a

pub inside_runs : (game : AbstractGame) (x : Expression) → IsInsideOf game.rules x → {w : List ℕ} {s t : AbstractState} → Runs (ActsIn game x) w s t → Run game w s t
unfolding IsInsideOf
inside_runs game x inside run = runs_along (λ q h s t does. let own = acts_in_own game s t x q does in record { action = own.0; stands = inside q own.0 (own_is_action x q own.0 own.1); acts = own.2 }) run

pub runs_inside : (game : AbstractGame) → IsNumbered game.rules → (x : Expression) → IsInsideOf game.rules x → {w : List ℕ} {s t : AbstractState} → Word x w → Run game w s t → Runs (ActsIn game x) w s t
unfolding IsInsideOf
runs_inside game numbered x inside {w} word run = runs_along (λ q h s t (applied : Applies game q s t).
    let own = word_own x w word q h in
    let stands : HasAction game.rules q own.0 = inside q own.0 (own_is_action x q own.0 own.1) in
    let same : applied.action ≡ own.0 = one_action_at game.rules numbered q applied.action own.0 applied.stands stands in
    acts_in game s t x q own.0 own.1 (subst (λ (a : AbstractAction). Acts game a s t) same applied.acts)) run

pub positive_inside : (rules : Expression) (p : ℕ) (x : Expression) → HasAction rules p (positive x) → IsInsideOf rules x
unfolding IsInsideOf
positive_inside rules p x h q a k = inside_is_within rules p (positive x) h q a k

pub negative_inside : (rules : Expression) (p : ℕ) (x : Expression) → HasAction rules p (negative x) → IsInsideOf rules x
unfolding IsInsideOf
negative_inside rules p x h q a k = inside_is_within rules p (negative x) h q a k
