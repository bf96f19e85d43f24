-- One modifier that comes next alone, where one opening is taken up for it.
use Rattle.rbg_base.proofs.Common.{◌≡◌, ℕ, ◌+◌, ◌-◌, ◌*◌, ◌^◌, ◌<◌, ◌≤◌, [], ◌∷◌, length, arith, Bool, false, true, Decides, All-nil, All-push, refl, Result, Ok, Err, IsOk, mul-le}
use Rattle.rbg_rules.specs.Meaning.{positions_of, IsModifierAt, IsNumbered, IsGame, IsStart, IsWithinLimits, Applies, Start, after, Ends, reach, AbstractState, IsStateOf}
use Rattle.rbg_auto.specs.Steps.{AreAllThatFollow}
use Rattle.rbg_state.specs.History.{History}
use Rattle.rbg_search.proofs.Common.{Searching, most_candidates, Deep, Memory, Wide, HasReached, IsAnswered, IsAsked, IsSpent, Finds}
use Rattle.rbg_search.proofs.Along.{IsPositionOf, IsTrialAt}
use Rattle.rbg_flat.specs.Onward.{IsAlone}
use Rattle.rbg_search.proofs.Alone.{only_position, some_pair, alone_whole, alone_met, alone_pairs, alone_quiet, none_there}
use Rattle.rbg_search.proofs.Takings.{own_part, candidates_met}
use Rattle.rbg_search.proofs.Asks.{answered}
use Rattle.rbg_search.proofs.Counted.{ok_not_err}
use Rattle.rbg_search.proofs.Finding.{finds_none, finds_asked, finds_own, finds_quiet, finds_forced}
use Rattle.rbg_state.specs.declared.state.trials.Trial.TheVariants.{Modifies}
use Rattle.rbg_search.specs.declared.over.Over.{Over as AnyOver}

-- There is one pair at least.
pub few : (h : Searching) (s : AbstractState) (f : Start) (p : ℕ) → IsStateOf h.game s → IsNumbered h.game.rules → AreAllThatFollow h.game.rules f (p ∷ []) → 1 ≤ most_candidates h.game
few h s f p fits numbered only =
    let there : s.vertex < length h.game.board.first = omega (arith, fits.vertex, fits.vertices) in
    let position : IsPositionOf h.game.rules p = only_position h.game.rules numbered f p only in
    some_pair (length (positions_of h.game.rules)) (length h.game.board.first) (p - 1) s.vertex (omega (arith, position.from_one, position.there)) there

-- What is said of the one modifier, where one opening was taken up for it.
module _ {h e k : Searching} {s l : History} {f : Start} {p : ℕ} {ends : Bool} (begun : Finds h e s l f []) (fits : IsStateOf h.game s.state) (only : AreAllThatFollow h.game.rules f (p ∷ [])) (decides : Decides ends (Ends h.game.rules f [])) (modifies : IsTrialAt h.game s.state s.state.vertex p Modifies) (kept : k ≡ record e { opened = k.opened; taken = k.taken }) (opened : k.opened ≡ e.opened) (taken : k.taken ≡ e.taken + 1) where
  pub asked : {X : Type 0} (r : Result X AnyOver) → ¬ (r ≡ Err Deep) → ¬ (r ≡ Err Wide) → IsAsked h k s l reach s.state f h.modifiers r
  asked r deep wide =
      let numbered = begun.lawful.numbered in
      finds_asked begun k kept opened r deep wide
      (finds_own begun k kept opened (IsOk r) (¬ (r ≡ Err Memory)) 1
      (own_part h.game reach s.state f 1
      (candidates_met h.game numbered s.state f (IsOk r) (¬ (r ≡ Err Memory)) 1 (alone_pairs h.game numbered s.state f p ends only decides modifies) (few h s.state f p fits numbered only))) taken)

  pub found : HasReached h k s l f ((s.state.vertex, p) ∷ []) ends
  found =
      let numbered = begun.lawful.numbered in
      let pair : ℕ × ℕ = (s.state.vertex, p) in
      let there : s.state.vertex < length h.game.board.first = omega (arith, fits.vertex, fits.vertices) in
      let Within : ℕ × ℕ → Type 0 = λ q. (q.0 < length h.game.board.first) × IsPositionOf h.game.rules q.1 in
      let whole = finds_quiet begun (pair ∷ []) (λ x none. absurd (none_there x none)) (alone_quiet h.game numbered s.state f p ends only decides modifies) in
      record {
        enough = begun.enough;
        reached = alone_whole h.game numbered s.state f p ends only decides modifies;
        within = All-push Within [] pair (All-nil Within) (there, only_position h.game.rules numbered f p only);
        forced = finds_forced whole (λ v q is _. alone_met h.game numbered s.state f p ends only decides modifies v q is) k.opened opened;
      }

-- ---- in a straight line

-- The search with so many openings and pairs more.
abbrev pub further : Searching → ℕ → Searching
further h n = record h { opened = h.opened + n; taken = h.taken + n }

-- No more pairs were taken than the openings have.
pub spent_further : (h : Searching) (n : ℕ) → IsSpent h.game h.opened h.taken → 1 ≤ most_candidates h.game → IsSpent h.game (h.opened + n) (h.taken + n)
spent_further h n spent some =
    let product : ℕ = most_candidates h.game in
    let times : (h.opened + n) * product ≡ h.opened * product + n * product = grind arith in
    let least : n * 1 ≤ n * product = mul-le n 1 n product (omega arith) some in
    record { few = omega (arith, spent.few, times, least) }

module _ (h : Searching) (lawful : IsGame h.game) (some : 0 < h.modifiers) (spent : IsSpent h.game h.opened h.taken) (s : History) (enough : 2 ≤ s.room) (fits : IsStateOf h.game s.state) (p q : ℕ) (start : IsStart h.game.rules (after p)) (alone : IsAlone h.game.rules p q) (modifier : IsModifierAt h.game.rules q) (later : AbstractState) (applies : Applies h.game q s.state later) where
  opened_one : Searching
  opened_one = record h { opened = h.opened + 1 }

  begun : Finds h opened_one s s (after p) []
  unfolding opened_one
  begun = finds_none h opened_one opened_one s s (after p) lawful start refl refl refl (omega arith) enough refl refl spent

  modifies : IsTrialAt h.game s.state s.state.vertex q Modifies
  modifies = (modifier, (later, applies))

  no_end : Decides false (Ends h.game.rules (after p) [])
  no_end = ((λ e. absurd (false_not_true e)), (λ ends. absurd (alone.no_end ends)))
    where
      false_not_true : false ≡ true → ⊥
      false_not_true e = cc

  pub line_answered : IsAnswered h (further h 1) s s reach (after p) (let r : Result Bool AnyOver = Ok false in r)
  unfolding opened_one
  line_answered =
      answered some
      (asked {k = further h 1} begun fits alone.alone no_end modifies refl refl refl _ (ok_not_err false Deep) (ok_not_err false Wide))
      (λ _ cut. (found {k = further h 1} begun fits alone.alone no_end modifies refl refl refl).forced cut h.modifiers)

  pub line_reached : HasReached h (further h 1) s s (after p) ((s.state.vertex, q) ∷ []) false
  unfolding opened_one
  line_reached = found {k = further h 1} begun fits alone.alone no_end modifies refl refl refl

-- The pairs of a line are numbers of 64 bits too.
pub line_fits : (h : Searching) (n : ℕ) → IsWithinLimits h.game → IsSpent h.game h.opened h.taken → 1 ≤ most_candidates h.game → h.opened + n < 2 ^ 32 → h.taken + n < 2 ^ 64
line_fits h n limits spent some small =
    let product : ℕ = most_candidates h.game in
    let least : product ≤ 20000 * 4096 = mul-le (length (positions_of h.game.rules)) (length h.game.board.first) 20000 4096 limits.positions limits.vertices in
    let all : (h.opened + n) * product ≤ (h.opened + n) * (20000 * 4096) = mul-le (h.opened + n) product (h.opened + n) (20000 * 4096) (omega arith) least in
    let sum = (spent_further h n spent some).few in
    omega (arith, sum, all, small)
