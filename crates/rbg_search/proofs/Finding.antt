-- A search that finds a flat part, step by step.
use Rattle.std.proofs.Common.{◌≡◌, ℕ, suc, ◌+◌, ◌<◌, ◌≤◌, length, List, [], ◌∷◌, ◌++◌, Bool, sym, ap, ◌∙◌, subst, arith, Contains, Result, Ok, Err, IsOk, IsErrAnd}
use Rattle.rbg_rules.specs.Meaning.{IsGame, IsStart, IsPatternAt, inside, IsStateOf, Start, beginning, reach, pattern}
use Rattle.rbg_state.specs.History.{History}
use Rattle.rbg_search.proofs.Along.{at_vertex, IsReached, NestsFrom}
use Rattle.rbg_search.proofs.Common.{CountsForced, Searching, HasPart, CountsTaken, IsCounted, IsAsked, Finds, IsSpent, IsSpentButOne, Over, Deep, Wide, Memory}
use Rattle.rbg_search.proofs.Asking.{room_twice, reached_nests, some_nested}
use Rattle.rbg_search.proofs.Counted.{memory_not_deep, memory_not_wide, counted_as, asked_only, onward_search}
use Rattle.rbg_search.proofs.CountedSteps.{AskStep, ask_step_at, given_up, not_memory}
use Rattle.rbg_search.proofs.Countings.{asked_begin, asked_weaker}
use Rattle.rbg_search.proofs.Forcing.{asks_begin, asks_end, asks_still}
use Rattle.rbg_search.proofs.ForcingSteps.{ask_forced}
use Rattle.rbg_search.proofs.Kept.{onward, onward_rules, rules_before, kept_same, kept_twice}
use Rattle.rbg_search.proofs.Takings.{takes_none_yet, takes_own, takes_as, room_for_own, nothing_met, own_part, not_ok, is_answer, held_on, ok_held, not_held}
use Rattle.rbg_search.proofs.TakingSteps.{asked_takes_at}

-- One opening is taken up, and nothing is done.
pub finds_none : (h e k : Searching) (s l : History) (f : Start) → IsGame h.game → IsStart h.game.rules f → e ≡ record h { opened = e.opened; taken = e.taken } → k ≡ e → l ≡ record s { room = l.room } → s.room ≤ l.room → 2 ≤ l.room → e.opened ≡ h.opened + 1 → e.taken ≡ h.taken → IsSpent h.game h.opened h.taken → Finds h k s l f []
finds_none h e k s l f lawful start kept same given more enough one none spent =
    let opened : k.opened ≡ h.opened + 1 = ap (λ (x : Searching). x.opened) same ∙ one in
    let taken : k.taken ≡ h.taken = ap (λ (x : Searching). x.taken) same ∙ none in
    record {
      kept = kept_twice h e k kept (kept_same e k same);
      given_back = given;
      room = more;
      enough = enough;
      lawful = lawful;
      counted = asked_begin h.game lawful s.state f start [] h.opened k.opened opened;
      forced = λ cut. asks_begin h.game lawful.numbered cut s.state h.opened k.opened h.modifiers opened;
      spent = spent;
      taken = takes_none_yet h.game reach s.state f (h.opened + 1) k.opened h.taken k.taken (Unit {0}) (sym opened) taken;
    }

module _ {h k : Searching} {s l : History} {f : Start} {done : List (ℕ × ℕ)} (is : Finds h k s l f done) where
  -- More is done, but no pattern.
  pub finds_quiet : (done' : List (ℕ × ℕ)) → ((x : ℕ × ℕ) → Contains done x → Contains done' x) → ((w q : ℕ) → Contains done' (w, q) → IsPatternAt h.game.rules q → Contains done (w, q)) → Finds h k s l f done'
  finds_quiet done' still quiet = record {
    kept = is.kept;
    given_back = is.given_back;
    room = is.room;
    enough = is.enough;
    lawful = is.lawful;
    counted = asked_weaker h.game s.state f done done' h.opened k.opened still is.counted;
    forced = λ cut. asks_still h.game is.lawful.numbered cut s.state done done' h.opened k.opened h.modifiers quiet (is.forced cut);
    spent = is.spent;
    taken = is.taken;
  }

  -- A vertex is asked about a pattern.
  module _ (v p : ℕ) (reached : IsReached h.game s.state f v p) (there : IsPatternAt h.game.rules p) (fresh : ¬ Contains done (v, p)) {X : Type 0} {k' : Searching} {l' : History} {callee : Result X Over} (asked : IsAsked k k' l l' pattern (at_vertex l.state v) (beginning (inside p)) k.modifiers callee) where
    step : AskStep h s.state f (done ++ (v, p) ∷ []) h.opened k'.opened (callee ≡ Err Deep) (callee ≡ Err Wide)
    step = ask_step_at h k s l f done v p h.opened k'.opened _ _ is.kept is.given_back is.lawful reached there fresh is.counted asked.counts

    pairs : {H : Type 0} (A : Type 0) → CountsTaken k.game pattern (at_vertex l.state v) (beginning (inside p)) k.opened k'.opened k.taken k'.taken A H → CountsTaken h.game reach s.state f (h.opened + 1) k'.opened h.taken k'.taken A H
    pairs A counts = asked_takes_at h k s l f v p k'.opened k'.taken A is.kept is.given_back is.lawful reached there is.taken counts

    kept_then : k' ≡ record h { opened = k'.opened; taken = k'.taken }
    kept_then = kept_twice h k k' is.kept asked.kept

    -- .. which gives up. There is room for what the flat part has met.
    pub finds_left : IsSpentButOne k'.game k'.opened k'.taken
    finds_left =
        onward_rules (λ x. IsSpentButOne x k'.opened k'.taken) h k' kept_then
        (room_for_own h.game reach s.state f h.opened k'.opened h.taken k'.taken (IsOk callee) is.spent (pairs (IsOk callee) asked.taken))

    -- .. and that was counted.
    pub finds_lost : {Y : Type 0} (r : Result Y Over) (e : Over) → callee ≡ Err e → IsErrAnd r (λ y. y ≡ e) → (last : Searching) → last ≡ record k' { opened = last.opened; taken = last.taken } → last.opened ≡ k'.opened → (many : ℕ) → HasPart h.game reach s.state f (IsOk r) (¬ (r ≡ Err Memory)) many → last.taken ≡ k'.taken + many → IsAsked h last s l' reach s.state f h.modifiers r
    finds_lost r e was gives last kept same many part sum = record {
      kept = kept_twice h k' last kept_then kept;
      given_back = room_twice s l l' is.given_back asked.given_back;
      room = omega (arith, is.room, asked.room);
      counts =
          subst (λ (n : ℕ). IsCounted h.game reach s.state f h.opened n h.modifiers h.openings h.modifiers (r ≡ Err Deep) (r ≡ Err Wide)) (sym same)
          (counted_as h.game reach s.state f h.opened k'.opened h.modifiers h.openings h.modifiers _ _ _ _ (given_up callee r e Deep was gives) (given_up callee r e Wide was gives) step.gave_up);
      taken =
          subst (λ (n : ℕ). CountsTaken h.game reach s.state f h.opened n h.taken last.taken (IsOk r) (¬ (r ≡ Err Memory))) (sym same)
          (takes_own h.game reach s.state f h.opened k'.opened h.taken k'.taken last.taken many (IsOk r)
          (takes_as h.game reach s.state f (h.opened + 1) k'.opened h.taken k'.taken (IsOk callee) (IsOk r) (pairs (IsOk callee) asked.taken) (λ ok. absurd (not_ok r e gives ok)) (held_on callee r e was gives)) part sum);
    }

    -- .. or answers.
    pub finds_more : (x : X) → callee ≡ Ok x → ((cut : Bool) → CountsForced k.game cut pattern (at_vertex l.state v) (beginning (inside p)) k.opened k'.opened k.modifiers k.modifiers) → Finds h k' s l' f (done ++ (v, p) ∷ [])
    finds_more x was forced = record {
      kept = kept_then;
      given_back = room_twice s l l' is.given_back asked.given_back;
      room = omega (arith, is.room, asked.room);
      enough = omega (arith, is.enough, asked.room);
      lawful = is.lawful;
      counted = step.counts;
      forced = λ cut. ask_forced h k s l done done v p h.opened k'.opened cut is.kept is.given_back is.lawful.numbered (λ w q there _. there) (is.forced cut) (forced cut);
      spent = is.spent;
      taken =
          pairs (Unit {0})
          (takes_as k.game pattern (at_vertex l.state v) (beginning (inside p)) k.opened k'.opened k.taken k'.taken (IsOk callee) (Unit {0}) asked.taken (λ _. is_answer callee x was) (λ _. ok_held callee x was));
    }

  -- What one owes who asks a vertex about a pattern.
  pub asks_within : IsStateOf h.game s.state → (nested : ℕ) → NestsFrom h.game.rules nested f → (v p : ℕ) → IsReached h.game s.state f v p → v < length k.game.board.first → IsPatternAt k.game.rules p → IsStateOf k.game l.state × ((1 ≤ l.room) × ((v < length l.state.pieces) × (IsPatternAt k.game.rules p × ((0 < nested) × ((n : ℕ) → nested ≡ suc n → NestsFrom k.game.rules n (beginning (inside p)))))))
  asks_within fits nested nests v p reached vertex there =
      let fits_now : IsStateOf k.game l.state = onward IsStateOf h k s l is.kept is.given_back fits in
      let inner =
      onward_rules (λ x. (0 < nested) × ((n : ℕ) → nested ≡ suc n → NestsFrom x.rules n (beginning (inside p)))) h k is.kept
      (some_nested h.game.rules nested p (reached_nests h.game is.lawful.numbered s.state f nested nests v p reached (rules_before (λ x. IsPatternAt x.rules p) h k is.kept there))) in
      let size = fits_now.vertices in
      (fits_now, (omega (arith, is.enough), (omega (arith, size, vertex), (there, inner))))

  -- All patterns that are reached were asked.
  pub finds_forced : ((v p : ℕ) → IsReached h.game s.state f v p → IsPatternAt h.game.rules p → Contains done (v, p)) → (b : ℕ) → b ≡ k.opened → (cut : Bool) (left : ℕ) → CountsForced h.game cut reach s.state f h.opened b left h.modifiers
  finds_forced met b same cut left =
      subst (λ (n : ℕ). CountsForced h.game cut reach s.state f h.opened n left h.modifiers) (sym same)
      (asks_end h.game is.lawful.numbered cut s.state f done h.opened k.opened left h.modifiers met (is.forced cut))

  pub finds_room : IsSpentButOne k.game k.opened k.taken
  finds_room =
      onward_search (λ y z. IsSpentButOne y.game k.opened k.taken) h k s l is.kept is.given_back
      (room_for_own h.game reach s.state f h.opened k.opened h.taken k.taken (Unit {0}) is.spent is.taken)

  -- No more is asked.
  module _ (k' : Searching) (kept : k' ≡ record k { opened = k'.opened; taken = k'.taken }) (same : k'.opened ≡ k.opened) where
    pub finds_asked : {Y : Type 0} (r : Result Y Over) → ¬ (r ≡ Err Deep) → ¬ (r ≡ Err Wide) → CountsTaken h.game reach s.state f h.opened k'.opened h.taken k'.taken (IsOk r) (¬ (r ≡ Err Memory)) → IsAsked h k' s l reach s.state f h.modifiers r
    finds_asked r deep wide taken = record {
      kept = kept_twice h k k' is.kept kept;
      given_back = is.given_back;
      room = is.room;
      counts =
          subst (λ (n : ℕ). IsCounted h.game reach s.state f h.opened n h.modifiers h.openings h.modifiers (r ≡ Err Deep) (r ≡ Err Wide)) (sym same)
          (asked_only h.game s.state f done h.opened k.opened h.modifiers h.openings h.modifiers _ _ is.counted deep wide);
      taken = taken;
    }

    -- The flat part is counted.
    pub finds_own : (A H : Type 0) (many : ℕ) → HasPart h.game reach s.state f A H many → k'.taken ≡ k.taken + many → CountsTaken h.game reach s.state f h.opened k'.opened h.taken k'.taken A H
    finds_own A H many part sum =
        subst (λ (n : ℕ). CountsTaken h.game reach s.state f h.opened n h.taken k'.taken A H) (sym same)
        (takes_own h.game reach s.state f h.opened k.opened h.taken k.taken k'.taken many A
        (takes_as h.game reach s.state f (h.opened + 1) k.opened h.taken k.taken (Unit {0}) A is.taken (λ _. tt) (λ _. tt)) part sum)

    -- There was no memory to go on, and what was met is counted.
    pub finds_dropped : {Y : Type 0} (r : Result Y Over) (e : Over) → IsErrAnd r (λ y. y ≡ e) → e ≡ Memory → (many : ℕ) → HasPart h.game reach s.state f (IsOk r) (¬ (r ≡ Err Memory)) many → k'.taken ≡ k.taken + many → IsAsked h k' s l reach s.state f h.modifiers r
    finds_dropped r e gives memory many part sum =
        finds_asked r (not_memory r e Deep gives memory memory_not_deep) (not_memory r e Wide gives memory memory_not_wide) (finds_own (IsOk r) (¬ (r ≡ Err Memory)) many part sum)

    -- .. or there was none to begin.
    pub finds_refused : {Y : Type 0} (r : Result Y Over) (e : Over) → IsErrAnd r (λ y. y ≡ e) → e ≡ Memory → k'.taken ≡ k.taken → IsAsked h k' s l reach s.state f h.modifiers r
    finds_refused r e gives memory none =
        finds_dropped r e gives memory 0
        (own_part h.game reach s.state f 0 (nothing_met h.game s.state f (IsOk r) (¬ (r ≡ Err Memory)) (not_ok r e gives) (not_held r e gives memory)))
        (omega (arith, none))
