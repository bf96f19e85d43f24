-- A place and a list of pairs reach at most one place: between two modifiers a run moves the current vertex alone, and
-- each pair has the vertex of its modifier.
use Rattle.std.proofs.Common.{◌≡◌, ℕ, List, [], ◌∷◌, ◌++◌, Bool, true, false, refl, sym, ap, ◌∙◌, subst, Some}
use Rattle.rbg_rules.specs.Expression.{AbstractAction, shift, on, off, assignment, comparison, switch, positive, negative}
use Rattle.rbg_rules.specs.Positions.{IsNumbered, is_modifier, IsSwitchAt}
use Rattle.rbg_rules.specs.State.{AbstractGame, AbstractState}
use Rattle.rbg_rules.specs.Actions.{rest, step, Acts, Applies, Run}
use Rattle.rbg_rules.specs.Moves.{RunPairs, stay, modify, pass, AbstractPlace, IsLegal, point_of}
use Rattle.rbg_rules.specs.Questions.{IsMove}
use Rattle.rbg_rules.specs.Laws.{OnePlaceLaw, MoveLaw, SameButVertex, ByPairs, none, next, PairsStateLaw}
use Rattle.rbg_rules.proofs.PositionLemmas.{one_action_at}
use Rattle.rbg_rules.proofs.MoveLemmas.{Applies_one}

-- A run with pairs is a run.
pub RunPairs-Runs : {game : AbstractGame} {w : List ℕ} {s t : AbstractState} {ps : List (ℕ × ℕ)} → RunPairs game w s t ps → Run game w s t
RunPairs-Runs stay = rest
RunPairs-Runs (modify applied modifies run) = step applied (RunPairs-Runs run)
RunPairs-Runs (pass applied modifies run) = step applied (RunPairs-Runs run)

-- .. and each run has pairs.
pub Runs-RunPairs : {game : AbstractGame} {w : List ℕ} {s t : AbstractState} → Run game w s t → (ps : List (ℕ × ℕ)) × RunPairs game w s t ps
Runs-RunPairs rest = ([], stay)
Runs-RunPairs {game} (step {p} {w} {s} {middle} {t} applied run) =
    let more = Runs-RunPairs run in
    by_kind (is_modifier applied.action) refl more.0 more.1
  where
    by_kind : (b : Bool) → is_modifier applied.action ≡ b → (ps : List (ℕ × ℕ)) → RunPairs game w middle t ps → (qs : List (ℕ × ℕ)) × RunPairs game (p ∷ w) s t qs
    by_kind true modifies ps run = ((s.vertex, p) ∷ ps, modify applied modifies run)
    by_kind false modifies ps run = (ps, pass applied modifies run)

-- The pairs of a joined list are those of the first and then those of the second.
pub record CutRun (game : AbstractGame) (u v : List ℕ) (s t : AbstractState) (ps : List (ℕ × ℕ)) : Type 0 where
  pub middle : AbstractState
  pub before : List (ℕ × ℕ)
  pub after : List (ℕ × ℕ)
  pub first : RunPairs game u s middle before
  pub second : RunPairs game v middle t after
  pub joined : ps ≡ before ++ after

pub RunPairs-append : {game : AbstractGame} (u v : List ℕ) {s t : AbstractState} {ps : List (ℕ × ℕ)} → RunPairs game (u ++ v) s t ps → CutRun game u v s t ps
RunPairs-append [] v {s} {t} {ps} run = record { middle = s; before = []; after = ps; first = stay; second = run; joined = refl }
RunPairs-append (p ∷ u) v {s} (modify applied modifies run) =
    let cut = RunPairs-append u v run in
    record { middle = cut.middle; before = (s.vertex, p) ∷ cut.before; after = cut.after; first = modify applied modifies cut.first; second = cut.second; joined = ap (λ (qs : List (ℕ × ℕ)). (s.vertex, p) ∷ qs) cut.joined }
RunPairs-append (p ∷ u) v (pass applied modifies run) =
    let cut = RunPairs-append u v run in
    record { middle = cut.middle; before = cut.before; after = cut.after; first = pass applied modifies cut.first; second = cut.second; joined = cut.joined }

pub RunPairs_join : {game : AbstractGame} {u v : List ℕ} {s middle t : AbstractState} {ps qs : List (ℕ × ℕ)} → RunPairs game u s middle ps → RunPairs game v middle t qs → RunPairs game (u ++ v) s t (ps ++ qs)
RunPairs_join stay run = run
RunPairs_join (modify applied modifies before) run = modify applied modifies (RunPairs_join before run)
RunPairs_join (pass applied modifies before) run = pass applied modifies (RunPairs_join before run)

-- Semi-states that differ in nothing but the current vertex.
pub SameButVertex_refl : (s : AbstractState) → SameButVertex s s
SameButVertex_refl s = record { player = refl; pieces = refl; values = refl }

pub SameButVertex_trans : {s t u : AbstractState} → SameButVertex s t → SameButVertex t u → SameButVertex s u
SameButVertex_trans one other = record { player = one.player ∙ other.player; pieces = one.pieces ∙ other.pieces; values = one.values ∙ other.values }

pub SameButVertex_sym : {s t : AbstractState} → SameButVertex s t → SameButVertex t s
SameButVertex_sym same = record { player = sym same.player; pieces = sym same.pieces; values = sym same.values }

pub SameButVertex_is : {s t : AbstractState} → t ≡ s → SameButVertex s t
SameButVertex_is e = record { player = ap (λ (u : AbstractState). u.player) (sym e); pieces = ap (λ (u : AbstractState). u.pieces) (sym e); values = ap (λ (u : AbstractState). u.values) (sym e) }

-- .. and not even in that: they are one.
pub same_state : {s t : AbstractState} → SameButVertex s t → s.vertex ≡ t.vertex → s ≡ t
same_state {s} {t} same vertex = λ i. record { player = same.player i; pieces = same.pieces i; values = same.values i; vertex = vertex i }

-- An action that is no modifier moves at most the current vertex.
pub quiet_acts : (game : AbstractGame) (a : AbstractAction) (s t : AbstractState) → is_modifier a ≡ false → Acts game a s t → SameButVertex s t
quiet_acts game (shift d) s t quiet (v, _, is) = record { player = ap (λ (u : AbstractState). u.player) (sym is); pieces = ap (λ (u : AbstractState). u.pieces) (sym is); values = ap (λ (u : AbstractState). u.values) (sym is) }
quiet_acts game (on xs) s t quiet (_, is) = SameButVertex_is is
quiet_acts game (off x) s t quiet is = cc
quiet_acts game (assignment v e) s t quiet acts = cc
quiet_acts game (comparison e r f) s t quiet (_, _, _, _, _, is) = SameButVertex_is is
quiet_acts game (switch n) s t quiet acts = cc
quiet_acts game (positive x) s t quiet (_, is) = SameButVertex_is is
quiet_acts game (negative x) s t quiet (_, is) = SameButVertex_is is

-- A modifier leaves the current vertex.
pub modifier_stays : (game : AbstractGame) (a : AbstractAction) (s t : AbstractState) → is_modifier a ≡ true → Acts game a s t → t.vertex ≡ s.vertex
modifier_stays game (shift d) s t modifies acts = cc
modifier_stays game (on xs) s t modifies acts = cc
modifier_stays game (off x) s t modifies is = ap (λ (u : AbstractState). u.vertex) is
modifier_stays game (assignment v e) s t modifies (_, _, _, is) = ap (λ (u : AbstractState). u.vertex) is
modifier_stays game (comparison e r f) s t modifies acts = cc
modifier_stays game (switch n) s t modifies is = ap (λ (u : AbstractState). u.vertex) is
modifier_stays game (positive x) s t modifies acts = cc
modifier_stays game (negative x) s t modifies acts = cc

-- A run without pairs moves at most the current vertex.
pub quiet_run : {game : AbstractGame} {w : List ℕ} {s t : AbstractState} → RunPairs game w s t [] → SameButVertex s t
quiet_run {s} stay = SameButVertex_refl s
quiet_run {game} (pass {s} {middle} applied quiet run) = SameButVertex_trans (quiet_acts game applied.action s middle quiet applied.acts) (quiet_run run)

-- The first modifier of a run with pairs.
pub record FirstModifier (game : AbstractGame) (s t : AbstractState) (v p : ℕ) (ps : List (ℕ × ℕ)) : Type 0 where
  pub here : AbstractState
  pub next : AbstractState
  pub later : List ℕ
  pub same : SameButVertex s here
  pub vertex : here.vertex ≡ v
  pub applied : Applies game p here next
  pub run : RunPairs game later next t ps

pub first_modifier : {game : AbstractGame} {w : List ℕ} {s t : AbstractState} {v p : ℕ} {ps : List (ℕ × ℕ)} → RunPairs game w s t ((v, p) ∷ ps) → FirstModifier game s t v p ps
first_modifier (modify {s} applied modifies run) = record { here = s; next = _; later = _; same = SameButVertex_refl s; vertex = refl; applied = applied; run = run }
first_modifier {game} (pass {s} {middle} applied quiet run) =
    let found = first_modifier run in
    record { here = found.here; next = found.next; later = found.later; same = SameButVertex_trans (quiet_acts game applied.action s middle quiet applied.acts) found.same; vertex = found.vertex; applied = found.applied; run = found.run }

-- Runs with the same pairs from semi-states that differ in the vertex alone end in such semi-states.
pub same_pairs : {game : AbstractGame} → IsNumbered game.rules → {w w' : List ℕ} {s s' t t' : AbstractState} {ps : List (ℕ × ℕ)} → RunPairs game w s t ps → RunPairs game w' s' t' ps → SameButVertex s s' → SameButVertex t t'
same_pairs numbered stay other same = SameButVertex_trans same (quiet_run other)
same_pairs {game} numbered (modify {p} {s} {middle} applied modifies run) other same =
    let found = first_modifier other in
    let here : found.here ≡ s = same_state (SameButVertex_trans (SameButVertex_sym found.same) (SameButVertex_sym same)) found.vertex in
    let at_s : Applies game p s found.next = subst (λ (u : AbstractState). Applies game p u found.next) here found.applied in
    same_pairs numbered run found.run (SameButVertex_is (Applies_one game numbered p at_s applied))
same_pairs {game} numbered (pass {s} {middle} applied quiet run) other same =
    same_pairs numbered run other (SameButVertex_trans (SameButVertex_sym (quiet_acts game applied.action s middle quiet applied.acts)) same)

-- The actions of a run's pairs, applied at their vertices, make its end but for the current vertex.
by_pairs : {game : AbstractGame} {w : List ℕ} {s s' t : AbstractState} {ps : List (ℕ × ℕ)} → RunPairs game w s t ps → SameButVertex s s' → (u : AbstractState) × ByPairs game s' ps u × SameButVertex t u
by_pairs {s'} stay same = (s', none, same)
by_pairs {game} {s'} (modify {p} {s} {middle} applied modifies run) same =
    let standing : AbstractState = record s' { vertex = s.vertex } in
    let here : s ≡ standing = same_state (record { player = same.player; pieces = same.pieces; values = same.values }) refl in
    let (u, more, end) = by_pairs run (SameButVertex_refl middle) in
    (u, next (subst (λ (x : AbstractState). Applies game p x middle) here applied) more, end)
by_pairs {game} (pass {s} {middle} applied quiet run) same =
    by_pairs run (SameButVertex_trans (SameButVertex_sym (quiet_acts game applied.action s middle quiet applied.acts)) same)

pub pairs_state_law : PairsStateLaw
pairs_state_law game numbered w s t ps run = (
  (λ w' t' other. same_pairs numbered run other (SameButVertex_refl s)),
  by_pairs run (SameButVertex_refl s),
)

-- A run of one switch has its pair alone.
pub record OneSwitch (game : AbstractGame) (p : ℕ) (s t : AbstractState) (ps : List (ℕ × ℕ)) : Type 0 where
  pub applied : Applies game p s t
  pub pairs : ps ≡ (s.vertex, p) ∷ []

pub one_switch : {game : AbstractGame} → IsNumbered game.rules → {p : ℕ} {s t : AbstractState} {ps : List (ℕ × ℕ)} → IsSwitchAt game.rules p → RunPairs game (p ∷ []) s t ps → OneSwitch game p s t ps
one_switch numbered switches (modify applied modifies stay) = record { applied = applied; pairs = refl }
one_switch {game} numbered {p} switches (pass applied quiet stay) =
    let is_switch : applied.action ≡ switch switches.player = one_action_at game.rules numbered p applied.action (switch switches.player) applied.stands switches.stands in
    let modifies : is_modifier applied.action ≡ true = ap is_modifier is_switch in
    absurd (true_not_false (sym modifies ∙ quiet))
  where
    true_not_false : true ≡ false → ⊥
    true_not_false e = cc

-- Two lists with one more element each are equal only if the lists are and the elements are.
pub snoc_same : (xs ys : List (ℕ × ℕ)) (x y : ℕ × ℕ) → xs ++ x ∷ [] ≡ ys ++ y ∷ [] → (xs ≡ ys) × (x ≡ y)
snoc_same [] [] x y e = (refl, cc)
snoc_same [] (b ∷ []) x y e = absurd cc
snoc_same [] (b ∷ c ∷ ys) x y e = absurd cc
snoc_same (a ∷ []) [] x y e = absurd cc
snoc_same (a ∷ c ∷ xs) [] x y e = absurd cc
snoc_same (a ∷ xs) (b ∷ ys) x y e =
    let tails : xs ++ x ∷ [] ≡ ys ++ y ∷ [] = cc in
    let heads : a ≡ b = cc in
    let (same, last) = snoc_same xs ys x y tails in
    (cc, last)

same_place : {to to' : AbstractPlace} → to.state ≡ to'.state → to.last ≡ to'.last → to ≡ to'
same_place state last = λ i. record { state = state i; last = last i }

pub one_place_law : OnePlaceLaw
one_place_law game numbered from ps to to' one other =
    let cut = RunPairs-append one.before (one.last ∷ []) one.runs in
    let cut' = RunPairs-append other.before (other.last ∷ []) other.runs in
    let end = one_switch numbered one.switches cut.second in
    let end' = one_switch numbered other.switches cut'.second in
    let pairs : cut.before ++ (cut.middle.vertex, one.last) ∷ [] ≡ cut'.before ++ (cut'.middle.vertex, other.last) ∷ [] =
    ap (λ (qs : List (ℕ × ℕ)). cut.before ++ qs) (sym end.pairs) ∙ sym cut.joined ∙ cut'.joined ∙ ap (λ (qs : List (ℕ × ℕ)). cut'.before ++ qs) end'.pairs in
    let (before, pair) = snoc_same cut.before cut'.before (cut.middle.vertex, one.last) (cut'.middle.vertex, other.last) pairs in
    let vertex : cut.middle.vertex ≡ cut'.middle.vertex = ap (λ (q : ℕ × ℕ). q.0) pair in
    let last : one.last ≡ other.last = ap (λ (q : ℕ × ℕ). q.1) pair in
    let middle : cut.middle ≡ cut'.middle = same_state (same_pairs numbered cut.first (subst (λ (qs : List (ℕ × ℕ)). RunPairs game other.before from.state cut'.middle qs) (sym before) cut'.first) (SameButVertex_refl from.state)) vertex in
    let applied : Applies game one.last cut.middle to'.state = subst (λ (p : ℕ). Applies game p cut.middle to'.state) (sym last) (subst (λ (u : AbstractState). Applies game other.last u to'.state) (sym middle) end'.applied) in
    same_place (Applies_one game numbered one.last end.applied applied) (one.stands ∙ ap Some last ∙ sym other.stands)

-- A legal move is a move of the question at the place, and the other way round.
legal_moves : (game : AbstractGame) (place : AbstractPlace) (ps : List (ℕ × ℕ)) → IsLegal game place ps → IsMove game place.state (point_of place.last) ps
legal_moves game place ps (to, legal) =
    record { before = legal.before; last = legal.last; end = to.state; no_switch = legal.none_before; switches = legal.switches; follows = legal.follows; runs = legal.runs }

moves_legal : (game : AbstractGame) (place : AbstractPlace) (ps : List (ℕ × ℕ)) → IsMove game place.state (point_of place.last) ps → IsLegal game place ps
moves_legal game place ps move = (
  record { state = move.end; last = Some move.last },
  record { before = move.before; last = move.last; follows = move.follows; runs = move.runs; switches = move.switches; none_before = move.no_switch; stands = refl },
)

pub move_law : MoveLaw
move_law game place = (
  (λ ps. (legal_moves game place ps, moves_legal game place ps)),
  (
    (λ finished ps move. finished.no_move ps (moves_legal game place ps move).0 (moves_legal game place ps move).1),
    (λ none. record { no_move = λ ps to legal. none ps (legal_moves game place ps (to, legal)) }),
  ),
)
