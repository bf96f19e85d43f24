-- What is asked of a pattern that was taken, and of a modifier that is applied.
use Rattle.std.proofs.Common.{◌≡◌, ℕ, suc, ◌+◌, ◌<◌, ◌≤◌, List, take, length, Bool, true, false, refl, sym, ap, ◌∙◌, subst, inl, inr, arith, IsTrue, ◌↔◌}
use Rattle.rbg_rules.specs.Meaning.{positive, negative, Expression, IsNumbered, IsModifierAt, IsPatternAt, is_modifier, inside, IsLevel, Start, beginning, after, SomeWordRuns, AbstractGame, AbstractState, Applies}
use Rattle.rbg_rules.proofs.PositionLemmas.{one_action_at}
use Rattle.rbg_rules.proofs.MoveLemmas.{pattern_law}
use Rattle.rbg_state.specs.History.{History, states_of, capacity_of, IsAfter}
use Rattle.rbg_state.proofs.Histories.{no_shorter}
use Rattle.rbg_search.proofs.Along.{IsFlatPart, at_vertex, IsReached, IsPositionOf, IsTrialAt, NestsFrom}
use Rattle.rbg_search.specs.internal.Beyond.{IsReady, RunsAfterPair, SomeRunsAfter}
use Rattle.rbg_state.specs.declared.state.trials.Trial.TheVariants.{Invalid, LeadsTo}
use Rattle.rbg_search.proofs.Closures.{by_words}
use Rattle.rbg_search.proofs.Starts.{action_position}
use Rattle.rbg_search.proofs.Nesting.{nests_inside}
use Rattle.rbg_search.proofs.Afters.{runs_at_end, runs_after, only_after}

true_not_false : true ≡ false → ⊥
true_not_false e = cc

-- No modifier stands where a pattern does.
pub no_modifier : (rules : Expression) → IsNumbered rules → (p : ℕ) → IsPatternAt rules p → ¬ IsModifierAt rules p
no_modifier rules numbered p pattern other = by_sign pattern.stands
  where
    by_sign : IsLevel rules (inside p) pattern.inside_it → ⊥
    by_sign (inl has) = true_not_false (sym other.modifies ∙ ap is_modifier (one_action_at rules numbered p other.action (positive pattern.inside_it) other.stands has))
    by_sign (inr has) = true_not_false (sym other.modifies ∙ ap is_modifier (one_action_at rules numbered p other.action (negative pattern.inside_it) other.stands has))

pub pattern_position : (rules : Expression) → IsNumbered rules → (p : ℕ) → IsPatternAt rules p → IsPositionOf rules p
pattern_position rules numbered p pattern = by_sign pattern.stands
  where
    by_sign : IsLevel rules (inside p) pattern.inside_it → IsPositionOf rules p
    by_sign (inl has) = action_position rules numbered p (positive pattern.inside_it) has
    by_sign (inr has) = action_position rules numbered p (negative pattern.inside_it) has

-- A pattern that is valid leads to its own vertex, and one that is not leads nowhere.
pub pattern_leads : (game : AbstractGame) → IsNumbered game.rules → (s : AbstractState) (v p : ℕ) → IsPatternAt game.rules p → Applies game p (at_vertex s v) (at_vertex s v) → IsTrialAt game s v p (LeadsTo v)
pattern_leads game numbered s v p pattern applies = (
  record { quiet = no_modifier game.rules numbered p pattern; applies = applies },
  (λ w leads. ap (λ (t : AbstractState). t.vertex) (pattern_law game numbered p pattern.inside_it pattern.stands (at_vertex s v) (at_vertex s w) leads.applies)),
)

pub pattern_fails : (game : AbstractGame) → IsNumbered game.rules → (s : AbstractState) (v p : ℕ) → IsPatternAt game.rules p → ¬ Applies game p (at_vertex s v) (at_vertex s v) → IsTrialAt game s v p Invalid
pattern_fails game numbered s v p pattern fails = λ t applies.
    fails (subst (λ (u : AbstractState). Applies game p (at_vertex s v) u) (pattern_law game numbered p pattern.inside_it pattern.stands (at_vertex s v) t applies) applies)

-- In a pattern that is reached patterns nest one less deep.
pub reached_nests : (game : AbstractGame) → IsNumbered game.rules → (s : AbstractState) (f : Start) (n : ℕ) → NestsFrom game.rules n f → (v p : ℕ) → IsReached game s f v p → IsPatternAt game.rules p → (less : ℕ) × (n ≡ suc less) × NestsFrom game.rules less (beginning (inside p))
reached_nests game numbered s f n nests v p reached pattern =
    let words = by_words game numbered s f v p reached in
    nests_inside game.rules numbered n f nests words.before p words.follows pattern.inside_it pattern.stands

pub some_nested : (rules : Expression) (n p : ℕ) → ((less : ℕ) × (n ≡ suc less) × NestsFrom rules less (beginning (inside p))) → (0 < n) × ((k : ℕ) → n ≡ suc k → NestsFrom rules k (beginning (inside p)))
some_nested rules n p (less, is, nests) = (omega (arith, is), (λ k is'. subst (λ (i : ℕ). NestsFrom rules i (beginning (inside p))) (suc_same less k (sym is ∙ is')) nests))
  where
    suc_same : (i j : ℕ) → suc i ≡ suc j → i ≡ j
    suc_same i j e = omega (arith, e)

-- Room for more changes changes nothing of what came before.
pub after_room : (h k l : History) → IsAfter h k → l ≡ record k { room = l.room } → IsAfter h l
after_room h k l comes is = record { states = ap (λ (x : History). take (length h.past + 1) (states_of x)) is ∙ comes.states }

-- What is given back in two steps has as much room as before.
pub given_room : (h k l m : History) → capacity_of k ≡ capacity_of h → l ≡ record k { room = l.room } → k.room ≤ l.room → capacity_of m ≡ capacity_of l → m ≡ record h { room = m.room } → h.room ≤ m.room
given_room h k l m first is more last back =
    let past : length l.past ≡ length k.past = ap (λ (x : History). length x.past) is in
    let past' : length m.past ≡ length h.past = ap (λ (x : History). length x.past) back in
    omega (arith, first, more, last, past, past')

-- Two changes of room are one.
pub room_twice : (h k l : History) → k ≡ record h { room = k.room } → l ≡ record k { room = l.room } → l ≡ record h { room = l.room }
room_twice h k l first second = second ∙ ap (λ (x : History). let y : History = record x { room = l.room } in y) first

-- What is undone to a mark is given back, but for the room.
pub back : (h k l m : History) (mark : ℕ) → mark ≡ length h.past → IsAfter h k → l ≡ record k { room = l.room } → ((marked : History) → mark ≡ length marked.past → IsAfter marked l → m ≡ record marked { room = m.room }) → m ≡ record h { room = m.room }
back h k l m mark is comes kept given = given h is (after_room h k l comes kept)

pub mark_within : (h k l : History) (mark : ℕ) → mark ≡ length h.past → IsAfter h k → l ≡ record k { room = l.room } → mark ≤ length l.past
mark_within h k l mark is comes kept =
    let shorter = no_shorter h l (after_room h k l comes kept) in
    omega (arith, is, shorter)

-- After one pair some word runs exactly where one runs from where it leads.
pub runs_one : (game : AbstractGame) (s t : AbstractState) (limit v p : ℕ) (runs : Bool) → IsReady game s limit (v, p) → ((u : AbstractState) → Applies game p (at_vertex s v) u → u ≡ t) → IsTrue runs ↔ SomeWordRuns game t (after p) → IsTrue runs ↔ RunsAfterPair game s v p
runs_one game s t limit v p runs is only decides = (
  (λ yes. record { later = t; applies = subst (λ (u : AbstractState). Applies game p (at_vertex s v) u) (only is.later is.applies) is.applies; runs = decides.0 yes }),
  (λ beyond. decides.1 (subst (λ (u : AbstractState). SomeWordRuns game u (after p)) (only beyond.later beyond.applies) beyond.runs)),
)

-- Some word runs: in the flat part, or after its modifiers.
pub runs_here : (game : AbstractGame) → IsNumbered game.rules → (s : AbstractState) (f : Start) (found : List (ℕ × ℕ)) (ends : Bool) → IsFlatPart game s f found ends → ends ≡ true → IsTrue true ↔ SomeWordRuns game s f
runs_here game numbered s f found ends part is = ((λ _. runs_at_end game numbered s f found ends part is), (λ _. refl))

pub runs_there : (game : AbstractGame) → IsNumbered game.rules → (s : AbstractState) (f : Start) (found : List (ℕ × ℕ)) (ends runs : Bool) → IsFlatPart game s f found ends → ends ≡ false → IsTrue runs ↔ SomeRunsAfter game s found → IsTrue runs ↔ SomeWordRuns game s f
runs_there game numbered s f found ends runs part not_here decides = (
  (λ yes. runs_after game numbered s f found ends part (decides.0 yes)),
  (λ some. decides.1 (only_after game numbered s f found ends part not_here some)),
)
