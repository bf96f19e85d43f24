-- What a flat part says of words, with what runs after its modifiers.
use Rattle.rbg_base.proofs.Common.{◌≡◌, ℕ, ◌<◌, ◌⊎◌, List, length, Bool, true, false, sym, ◌∙◌, subst, inl, inr, All, Contains, All-weaker, All-contains_itself}
use Rattle.rbg_rules.specs.Meaning.{IsNumbered, Start, AbstractGame, AbstractState, IsStateOf, rest, step, Run, SomeWordRuns, IsGame}
use Rattle.rbg_rules.proofs.StateLemmas.{state_law}
use Rattle.rbg_search.proofs.Along.{IsNext, IsFlatPart, at_vertex, EndsFlat, RunsAfter, NestsFrom}
use Rattle.rbg_search.specs.internal.Beyond.{IsReady, SomeRunsAfter}
use Rattle.rbg_search.proofs.Closures.{next_found, found_next, some_word_runs, end_runs, after_runs, may_end_flat, flat_may_end}
use Rattle.rbg_search.proofs.Starts.{action_position}
use Rattle.rbg_search.proofs.Openings.{next_applies, next_here}
use Rattle.rbg_search.proofs.Nesting.{nests_onward}

-- A run stays in the game.
pub run_stays : (game : AbstractGame) → IsGame game → {w : List ℕ} {s t : AbstractState} → Run game w s t → IsStateOf game s → IsStateOf game t
run_stays game lawful rest fits = fits
run_stays game lawful (step {p = p} {s = s} {middle = middle} applied run) fits = run_stays game lawful run ((state_law game lawful).1 p s middle fits applied)

-- The modifiers of a flat part are ready to be applied.
ready : (game : AbstractGame) → IsGame game → (s : AbstractState) → IsStateOf game s → (f : Start) (limit : ℕ) → NestsFrom game.rules limit f → (v p : ℕ) → IsNext game s f v p → IsReady game s limit (v, p)
ready game lawful s fits f limit nests v p next =
    let there = run_stays game lawful next.runs fits in
    let here : next.here ≡ at_vertex s v = next_here game lawful.numbered s f v p next in
    let under : v < length s.pieces = subst (λ (t : AbstractState). t.vertex < length t.pieces) here there.vertex in
    record {
      later = next.later;
      vertex = under;
      position = action_position game.rules lawful.numbered p next.modifies.action next.modifies.stands;
      modifies = next.modifies;
      applies = next_applies game lawful.numbered s f v p next;
      nests = nests_onward game.rules lawful.numbered limit f nests next.before p next.follows;
    }

pub all_ready : (game : AbstractGame) → IsGame game → (s : AbstractState) → IsStateOf game s → (f : Start) (limit : ℕ) → NestsFrom game.rules limit f → (found : List (ℕ × ℕ)) (ends : Bool) → IsFlatPart game s f found ends → All (IsReady game s limit) found
all_ready game lawful s fits f limit nests found ends part =
    All-weaker (Contains found) (IsReady game s limit)
    (λ q h. ready game lawful s fits f limit nests q.0 q.1 ((part.next q.0 q.1).0 h)) found (All-contains_itself found)

-- Some word runs where the flat part may end.
pub runs_at_end : (game : AbstractGame) → IsNumbered game.rules → (s : AbstractState) (f : Start) (found : List (ℕ × ℕ)) (ends : Bool) → IsFlatPart game s f found ends → ends ≡ true → SomeWordRuns game s f
runs_at_end game numbered s f found ends part is = end_runs game numbered s f (may_end_flat game numbered s f (part.may_end.0 is))

-- Elsewhere some word runs exactly where one runs after one of the modifiers.
pub runs_after : (game : AbstractGame) → IsNumbered game.rules → (s : AbstractState) (f : Start) (found : List (ℕ × ℕ)) (ends : Bool) → IsFlatPart game s f found ends → SomeRunsAfter game s found → SomeWordRuns game s f
runs_after game numbered s f found ends part some =
    let is = next_found game numbered s f some.vertex some.position ((part.next some.vertex some.position).0 some.there) in
    after_runs game numbered s f (record {
      vertex = some.vertex;
      position = some.position;
      found = record { later = some.beyond.later; reached = is.reached; modifies = is.modifies; applies = some.beyond.applies };
      runs = some.beyond.runs;
    })

pub only_after : (game : AbstractGame) → IsNumbered game.rules → (s : AbstractState) (f : Start) (found : List (ℕ × ℕ)) (ends : Bool) → IsFlatPart game s f found ends → ends ≡ false → SomeWordRuns game s f → SomeRunsAfter game s found
only_after game numbered s f found ends part not_here some = by_place (some_word_runs game numbered s f some)
  where
    true_not_false : true ≡ false → ⊥
    true_not_false e = cc

    by_place : EndsFlat game s f ⊎ RunsAfter game s f → SomeRunsAfter game s found
    by_place (inl end) = absurd (true_not_false (sym (part.may_end.1 (flat_may_end game numbered s f end)) ∙ not_here))
    by_place (inr beyond) = record {
      vertex = beyond.vertex;
      position = beyond.position;
      there = (part.next beyond.vertex beyond.position).1 (found_next game numbered s f beyond.vertex beyond.position beyond.found);
      beyond = record { later = beyond.found.later; applies = beyond.found.applies; runs = beyond.runs };
    }
