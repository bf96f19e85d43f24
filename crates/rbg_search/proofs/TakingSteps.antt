-- Each step of a search that counts pairs, by what it began with.
use Rattle.rbg_base.proofs.Common.{◌≡◌, ℕ, ◌+◌, ◌<◌, List, length, get_or, Bool, false, sym, subst, get_or_default}
use Rattle.rbg_rules.specs.Meaning.{IsPatternAt, inside, Start, beginning, after, AbstractState, Applies, IsGame, reach, pattern}
use Rattle.rbg_state.specs.History.{History}
use Rattle.rbg_search.proofs.Along.{IsFlatPart, at_vertex, IsReached}
use Rattle.rbg_search.proofs.Common.{GoesOn, Searching, CountsPairs, CountsTaken, StandsInPattern, GoesAfter}
use Rattle.rbg_search.proofs.Counted.{found_after, search_before, onward_search}
use Rattle.rbg_search.proofs.Countings.{goes_after}
use Rattle.rbg_search.proofs.Takings.{is_candidate, no_shift, any_part, pattern_part, after_part, takes_then, takes_part_of}

-- A pattern was asked in a flat part.
pub asked_takes_at : {H : Type 0} (h k : Searching) (s u : History) (f : Start) (v p b w : ℕ) (A : Type 0) → k ≡ record h { opened = k.opened; taken = k.taken } → u ≡ record s { room = u.room } → IsGame h.game → IsReached h.game s.state f v p → IsPatternAt h.game.rules p → CountsPairs h.game reach s.state f (h.opened + 1) k.opened h.taken k.taken (Unit {0}) → CountsTaken k.game pattern (at_vertex u.state v) (beginning (inside p)) k.opened b k.taken w A H → CountsTaken h.game reach s.state f (h.opened + 1) b h.taken w A H
asked_takes_at {H = H} h k s u f v p b w A kept given lawful met is so_far asked =
    let asked_here : CountsTaken h.game pattern (at_vertex s.state v) (beginning (inside p)) k.opened b k.taken w A H =
    search_before (λ y z. CountsTaken y.game pattern (at_vertex z v) (beginning (inside p)) k.opened b k.taken w A H) h k s u kept given asked in
    takes_then h.game reach s.state f (h.opened + 1) k.opened b h.taken k.taken w A so_far
    (takes_part_of h.game reach s.state f pattern (at_vertex s.state v) (beginning (inside p)) k.opened b k.taken w A
    (pattern_part h.game reach s.state f v p (is_candidate h.game lawful.numbered s.state f v p met (no_shift h.game.rules lawful.numbered p is)) is) asked_here)

-- The search went on after the modifiers that were found.
pub after_takes : {H : Type 0} (h k : Searching) (s l : History) (f : Start) (pairs pairs' : List (ℕ × ℕ)) (ends : Bool) (b w : ℕ) (A : Type 0) → k ≡ record h { opened = k.opened; taken = k.taken } → l ≡ record s { room = l.room } → pairs' ≡ pairs → IsGame h.game → StandsInPattern h.game.rules f → IsFlatPart h.game s.state f pairs ends → ends ≡ false → CountsPairs h.game reach s.state f h.opened k.opened h.taken k.taken (Unit {0}) → ((e : Start) → GoesAfter k.game l.state e pairs' → CountsTaken k.game pattern l.state e k.opened b k.taken w A H) → CountsTaken h.game pattern s.state f h.opened b h.taken w A H
after_takes {H = H} h k s l f pairs pairs' ends b w A kept given same lawful in_one part not_here first beyond =
    let goes : GoesAfter h.game s.state f pairs' = subst (λ (ps : List (ℕ × ℕ)). GoesAfter h.game s.state f ps) (sym same) (found_after h.game lawful s.state f pairs ends in_one part not_here) in
    takes_then h.game pattern s.state f h.opened k.opened b h.taken k.taken w A
    (takes_part_of h.game pattern s.state f reach s.state f h.opened k.opened h.taken k.taken (Unit {0}) (any_part h.game pattern s.state f) first)
    (search_before (λ y z. CountsTaken y.game pattern z f k.opened b k.taken w A H) h k s l kept given
    (beyond f (onward_search (λ y z. GoesAfter y.game z f pairs') h k s l kept given goes)))

-- The question was asked after one more of the pairs.
pub one_takes : {H : Type 0} (h k : Searching) (s l : History) (f : Start) (pairs : List (ℕ × ℕ)) (i : ℕ) (d : ℕ × ℕ) (b w : ℕ) (later : AbstractState) (A : Type 0) → k ≡ record h { opened = k.opened; taken = k.taken } → l ≡ record s { room = l.room } → GoesAfter h.game s.state f pairs → i < length pairs → Applies h.game (get_or pairs i d).1 (at_vertex s.state (get_or pairs i d).0) later → CountsPairs h.game pattern s.state f h.opened k.opened h.taken k.taken (Unit {0}) → ((t : AbstractState) → Applies k.game (get_or pairs i d).1 (at_vertex l.state (get_or pairs i d).0) t → CountsTaken k.game pattern t (after (get_or pairs i d).1) k.opened b k.taken w A H) → CountsTaken h.game pattern s.state f h.opened b h.taken w A H
one_takes {H = H} h k s l f pairs i d b w later A kept given goes under applies so_far beyond =
    let x : ℕ × ℕ = get_or pairs i d in
    let on : GoesOn h.game pattern s.state f x.0 x.1 pattern later = goes_after h.game s.state later f pairs goes x.0 x.1 (i, under, get_or_default pairs i x d under) applies in
    let applies' : Applies k.game x.1 (at_vertex l.state x.0) later = onward_search (λ y z. Applies y.game x.1 (at_vertex z x.0) later) h k s l kept given applies in
    takes_then h.game pattern s.state f h.opened k.opened b h.taken k.taken w A so_far
    (takes_part_of h.game pattern s.state f pattern later (after x.1) k.opened b k.taken w A (after_part h.game pattern pattern s.state later f x.0 x.1 on)
    (search_before (λ y z. CountsTaken y.game pattern later (after x.1) k.opened b k.taken w A H) h k s l kept given (beyond later applies')))
