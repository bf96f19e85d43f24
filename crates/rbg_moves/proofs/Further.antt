-- A walk takes the modifiers that come next in turn, and goes on after each.
use Rattle.rbg_base.proofs.Common.{◌≡◌, ◌≢◌, ℕ, zero, suc, ◌+◌, ◌-◌, ◌<◌, ◌≤◌, List, [], ◌∷◌, ◌++◌, length, Bool, true, false, Option, refl, sym, ap, subst, arith, All, Contains, IsOk, Result, Ok, Err, IsPermutation, length_push, All-head, All-nil, All-push, All-tail}
use Rattle.std.proofs.lemmas.List.Sorted.{All-permutation, IsPermutation-append_right, IsPermutation-refl}
use Rattle.rbg_base.specs.Move.{most_pairs}
use Rattle.rbg_rules.specs.Meaning.{IsNumbered, IsModifierAt, IsSwitchAt, Start, after, AbstractGame, AbstractState, IsStateOf, Applies, IsGame, AbstractPlace, point_of, IsLegal, Question, try_move, reach, GoesTo}
use Rattle.rbg_rules.proofs.MoveLemmas.{Applies_one}
use Rattle.rbg_rules.proofs.TableLemmas.{numbered_action}
use Rattle.rbg_state.specs.History.{History}
use Rattle.rbg_search.specs.Flat.{IsNext, IsFlatPart}
use Rattle.rbg_moves.proofs.Once.{met_once}
use Rattle.rbg_search.proofs.Common.{IsAnswered, HasReached, CountsForced, GoesOn, CountsUpTo, IsTooDeep, from_here, somewhere, Searching, CountsPairs}
use Rattle.rbg_search.specs.declared.over.Over.{Over}
use Rattle.rbg_search.specs.declared.over.Over.TheVariants.{Deep, Wide}
use Rattle.rbg_search.proofs.CallerLemmas.{find_begins, list_begins, counts_begin, counts_weaker, counts_more, counts_end, counts_reached, over_begin, over_more, deep_begin, deep_more, row_none}
use Rattle.rbg_search.proofs.Orders.{flat_permuted}
use Rattle.rbg_search.proofs.Takings.{any_part, is_answer, ok_held, takes_as, takes_part_of}
use Rattle.rbg_search.proofs.Turns.{turned, turn_under, turn_at, turn_front, turn_rest, none_left}
use Rattle.rbg_moves.specs.internal.Asking.{question_of, IsGivenUp}
use Rattle.rbg_moves.specs.internal.Gathering.{AddsMove, Gathers, IsLegalBy, IsSwitchOr, ListsSwitches, LeavesOthers, IsWalked}
use Rattle.rbg_moves.specs.internal.Stepping.{at_vertex, place_beyond, Beyond, IsValidAt}
use Rattle.rbg_search.proofs.Openings.{next_applies}
use Rattle.rbg_moves.proofs.Steps.{next_there, valid_next, modifier_position}
use Rattle.rbg_moves.proofs.Gathering.{gathers_any, gathers_after}
use Rattle.rbg_moves.proofs.Listing.{lists_none, lists_more, lists_cut, lists_any, lists_all, switches_cut, others_begin, others_more, others_cut, others_end}
use Rattle.rbg_moves.proofs.Forcing.{TakenSoFar, so_far_one, so_far_switches, early_forced, all_forced_at, walk_passes}
use Rattle.rbg_moves.proofs.Tallies.{more_takes}

-- What comes next from a semi-state and f was asked, and was found whole.
pub record HasCome (old now : Searching) (s l : History) (f : Start) (result : Result Bool Over) (pairs : List (ℕ × ℕ)) (ends : Bool) : Type 0 where
  pub asked : IsAnswered old now s l reach f result
  pub was : result ≡ Ok ends
  pub found : HasReached old now s l f pairs ends

-- It was asked of a search whose list was lent, and told in other words where one stands.
asked_as : {lent old : Searching} {f f' : Start} (P : Searching → Start → Type 0) → lent ≡ old → f' ≡ f → P lent f' → P old f
asked_as {f' = f'} P same start is = subst (P _) start (subst (λ (x : Searching). P x f') same is)

pub answered_as : {lent old now : Searching} {s l : History} {f f' : Start} {result : Result Bool Over} → lent ≡ old → f' ≡ f → IsAnswered lent now s l reach f' result → IsAnswered old now s l reach f result
answered_as {now = now} {s} {l} {result = result} = asked_as (λ x g. IsAnswered x now s l reach g result)

pub has_come : {lent old now : Searching} {s l : History} {f f' : Start} {result : Result Bool Over} {pairs : List (ℕ × ℕ)} {ends : Bool} → lent ≡ old → f' ≡ f → IsAnswered lent now s l reach f' result → result ≡ Ok ends → HasReached lent now s l f' pairs ends → HasCome old now s l f result pairs ends
has_come {now = now} {s} {l} {result = result} {pairs} {ends} same start asked was found =
    asked_as (λ x g. HasCome x now s l g result pairs ends) same start (record { asked = asked; was = was; found = found })

-- The switches of what comes next were added.
pub switches_as : {game game' : AbstractGame} {pairs front front' : List (ℕ × ℕ)} {max : ℕ} {had has : List (List (ℕ × ℕ))} {first : List (ℕ × ℕ)} {cut cut' : Bool} → game ≡ game' → front ≡ front' → cut ≡ cut' → ListsSwitches game pairs pairs front max had has first cut → ListsSwitches game' pairs pairs front' max had has first cut'
switches_as {game' = game'} {pairs} {front} {front'} {max} {had} {has} {first} {cut} same same_front same_cut lists =
    subst (λ (b : Bool). ListsSwitches game' pairs pairs front' max had has first b) same_cut
    (subst (λ (ps : List (ℕ × ℕ)). ListsSwitches game' pairs pairs ps max had has first cut) same_front
    (subst (λ (g : AbstractGame). ListsSwitches g pairs pairs front max had has first cut) same lists))

applied_back : (game game' : AbstractGame) (s s' t : AbstractState) (v p : ℕ) → game' ≡ game → s' ≡ s → Applies game p (at_vertex s v) t → Applies game' p (at_vertex s' v) t
applied_back game game' s s' t v p same there applied =
    subst (λ (g : AbstractGame). Applies g p (at_vertex s' v) t) (sym same) (subst (λ (u : AbstractState). Applies game p (at_vertex u v) t) (sym there) applied)

-- The pairs are those of a whole flat part.
pub record IsWhole (game : AbstractGame) (s : AbstractState) (f : Start) (xs : List (ℕ × ℕ)) : Type 0 where
  pub ends : Bool
  pub part : IsFlatPart game s f xs ends

begins : (max : ℕ) (game : AbstractGame) (s : AbstractState) (f : Start) → GoesTo game (question_of max) s f []
begins zero game s f = find_begins game s f
begins (suc n) game s f = list_begins game s f

untried : (max : ℕ) → question_of max ≢ try_move []
untried zero e = cc
untried (suc n) e = cc

-- ---- what was counted and gathered so far

-- The walk found moves that begin with a switch or with one of the pairs that are done, and counted what its question
-- takes up with no modifier and after these.
pub record IsSoFar
    (old now : Searching) (place : AbstractPlace) (front : List (ℕ × ℕ)) (max : ℕ)
    (had has : List (List (ℕ × ℕ))) (first done : List (ℕ × ℕ))
    : Type 0
  where
    pub counted : CountsUpTo old.game (question_of max) place.state (point_of place.last) done old.opened now.opened
    pub paired : CountsPairs old.game (question_of max) place.state (point_of place.last) old.opened now.opened old.taken now.taken (Unit {0})
    pub forced : TakenSoFar old.game (question_of max) place.state (point_of place.last) done old.opened now.opened (most_pairs - length front) old.modifiers
    pub gathers : Gathers (IsLegalBy old.game place (IsSwitchOr old.game.rules done)) front max had has first false

-- The pairs of what comes next are counted of any question.
pub come_paired : {old now : Searching} {s l : History} {f : Start} {result : Result Bool Over} {pairs : List (ℕ × ℕ)} {ends : Bool} (question : Question) → HasCome old now s l f result pairs ends → CountsPairs old.game question s.state f old.opened now.opened old.taken now.taken (Unit {0})
come_paired {old} {now} {s} {f = f} {result} {ends = ends} question come =
    takes_as old.game question s.state f old.opened now.opened old.taken now.taken (IsOk result) (Unit {0})
    (takes_part_of old.game question s.state f reach s.state f old.opened now.opened old.taken now.taken (IsOk result) (any_part old.game question s.state f) come.asked.taken)
    (λ _. is_answer result ends come.was) (λ _. ok_held result ends come.was)

-- What comes next was given up.
pub none_come : {old now : Searching} {s l : History} {f : Start} {result : Result Bool Over} (max left : ℕ) → IsNumbered old.game.rules → IsAnswered old now s l reach f result → IsGivenUp old (question_of max) s.state f left (result ≡ Err Deep) (result ≡ Err Wide)
none_come {old} {s = s} {f = f} max left numbered asked = record {
  deep = λ d. somewhere (deep_begin old.game numbered (begins max old.game s.state f) (asked.deep d));
  wide = λ w. over_begin old.game numbered (begins max old.game s.state f) (asked.wide w);
}

-- All switches were added.
pub walk_begun : {old now : Searching} {s l : History} (last : Option ℕ) {result : Result Bool Over} {front pairs others : List (ℕ × ℕ)} {max : ℕ} {had has : List (List (ℕ × ℕ))} {first : List (ℕ × ℕ)} {ends : Bool} → IsNumbered old.game.rules → HasCome old now s l (point_of last) result pairs ends → (leaves : LeavesOthers old.game.rules pairs others) → ListsSwitches old.game pairs pairs front max had has first false → (let place : AbstractPlace = record { state = s.state; last = last } in IsSoFar old now place front max had has first leaves.switches)
walk_begun {old} {now} {s} last {front = front} {pairs} {max = max} {had} {has} {first} {ends} numbered come leaves lists =
    let place : AbstractPlace = record { state = s.state; last = last } in
    record {
      counted = counts_weaker old.game numbered (counts_begin old.game numbered (begins max old.game s.state (point_of last)) come.asked.counted) leaves.switches;
      paired = come_paired (question_of max) come;
      forced = so_far_switches old.game numbered (question_of max) s.state (point_of last) leaves.switches old.opened now.opened (most_pairs - length front) old.modifiers leaves.switching (come.found.forced false (most_pairs - length front));
      gathers = others_begin old.game numbered place pairs ends come.found.reached leaves.switches front max had has first leaves.switching lists;
    }

-- There was no room for one of them.
pub walk_ended : {old now : Searching} {s l : History} (last : Option ℕ) {result : Result Bool Over} {front pairs : List (ℕ × ℕ)} {max : ℕ} {had has : List (List (ℕ × ℕ))} {first : List (ℕ × ℕ)} {ends : Bool} → IsNumbered old.game.rules → HasCome old now s l (point_of last) result pairs ends → length front < most_pairs → ListsSwitches old.game pairs pairs front max had has first true → (let place : AbstractPlace = record { state = s.state; last = last } in IsWalked old now place front max had has first true)
walk_ended {old} {now} {s} last {front = front} {pairs} {max = max} {had} {has} {first} {ends} numbered come short lists =
    let place : AbstractPlace = record { state = s.state; last = last } in
    let gathers = switches_cut old.game place pairs ends come.found.reached front max had has first lists in
    record {
      short = short;
      gathers = gathers;
      counts = record {
        counted = counts_reached old.game numbered (begins max old.game s.state (point_of last)) come.asked.counted;
        paired = come_paired (question_of max) come;
        forced = early_forced old.game numbered max place front had has first old.opened now.opened now.opened (most_pairs - length front) old.modifiers gathers (omega arith) (come.found.forced false (most_pairs - length front));
      };
    }

-- All pairs are done.
pub walk_whole : {old now : Searching} {place : AbstractPlace} {front : List (ℕ × ℕ)} {max : ℕ} {had has : List (List (ℕ × ℕ))} {first done others : List (ℕ × ℕ)} → IsNumbered old.game.rules → length front < most_pairs → IsWhole old.game place.state (point_of place.last) (done ++ others) → others ≡ [] → IsSoFar old now place front max had has first done → IsWalked old now place front max had has first false
walk_whole {old} {now} {place} {front} {max} {had} {has} {first} {done} {others} numbered short whole none so_far =
    let all = subst (IsSoFar old now place front max had has first) (none_left done others none) so_far in
    let gathers = others_end old.game numbered place (done ++ others) whole.ends whole.part front max had has first all.gathers in
    record {
      short = short;
      gathers = gathers;
      counts = record {
        counted = counts_end old.game numbered all.counted;
        paired = all.paired;
        forced = all_forced_at old.game numbered max place front had has first (done ++ others) whole.ends old.opened now.opened (most_pairs - length front) old.modifiers gathers whole.part all.forced;
      };
    }

-- Where it didn't end early, it doesn't matter which the first move is.
pub walked_any : {old now : Searching} {place : AbstractPlace} {front : List (ℕ × ℕ)} {max : ℕ} {had has : List (List (ℕ × ℕ))} {first : List (ℕ × ℕ)} (other : List (ℕ × ℕ)) → IsWalked old now place front max had has first false → IsWalked old now place front max had has other false
walked_any {old} {place = place} {front} {max} {had} {has} {first} other walked = record {
  short = walked.short;
  gathers = gathers_any (IsLegal old.game place) front max had has first other walked.gathers;
  counts = walked.counts;
}

-- ---- one of the modifiers is taken

abbrev Plain : AbstractGame → List (ℕ × ℕ) → Type 0
Plain game pairs = All (λ (r : ℕ × ℕ). ¬ IsSwitchAt game.rules r.1) pairs

both_plain : (game : AbstractGame) (pairs others : List (ℕ × ℕ)) (q : ℕ × ℕ) → Plain game pairs → IsPermutation pairs (q ∷ others) → Plain game (q ∷ others)
both_plain game pairs others q plain taken = All-permutation (λ (r : ℕ × ℕ). ¬ IsSwitchAt game.rules r.1) pairs (q ∷ others) taken plain

pub others_plain : (game : AbstractGame) (pairs others : List (ℕ × ℕ)) (q : ℕ × ℕ) → Plain game pairs → IsPermutation pairs (q ∷ others) → Plain game others
others_plain game pairs others q plain taken = All-tail (λ (r : ℕ × ℕ). ¬ IsSwitchAt game.rules r.1) q others (both_plain game pairs others q plain taken)

-- Of the modifiers that come next some were taken, this one is taken now, and the others are left. The search and the
-- semi-state are those of the walk, but for what was counted, and so are the front and the room.
pub record AtTurn (old now : Searching) (place : AbstractPlace) (s' : AbstractState) (front front' : List (ℕ × ℕ)) (max max' : ℕ) (had has : List (List (ℕ × ℕ))) (first done others : List (ℕ × ℕ)) (q : ℕ × ℕ) : Type 0 where
  pub lawful : IsGame old.game
  pub kept : now ≡ record old { opened = now.opened; taken = now.taken }
  pub there : s' ≡ place.state
  pub same_front : front' ≡ front
  pub same_max : max' ≡ max
  pub ends : Bool
  pub part : IsFlatPart old.game place.state (point_of place.last) (turned done others q) ends
  pub plain : ¬ IsSwitchAt old.game.rules q.1
  pub so_far : IsSoFar old now place front max had has first done

pub walk_turn : {old now : Searching} {place : AbstractPlace} {s' : AbstractState} {front front' : List (ℕ × ℕ)} {max max' : ℕ} {had has : List (List (ℕ × ℕ))} {first done pairs others : List (ℕ × ℕ)} {q : ℕ × ℕ} → IsGame old.game → now ≡ (record old { opened = now.opened; taken = now.taken }) → s' ≡ place.state → front' ≡ front → max' ≡ max → IsWhole old.game place.state (point_of place.last) (done ++ pairs) → Plain old.game pairs → IsSoFar old now place front max had has first done → IsPermutation pairs (q ∷ others) → AtTurn old now place s' front front' max max' had has first done others q
walk_turn {old = old} {place = place} {done = done} {pairs = pairs} {others = others} {q = q} lawful kept there same_front same_max whole plain so_far taken = record {
  lawful = lawful;
  kept = kept;
  there = there;
  same_front = same_front;
  same_max = same_max;
  ends = whole.ends;
  part = flat_permuted old.game place.state (point_of place.last) (done ++ pairs) (turned done others q) whole.ends (IsPermutation-append_right done pairs (q ∷ others) taken) whole.part;
  plain = All-head (λ (r : ℕ × ℕ). ¬ IsSwitchAt old.game.rules r.1) q others (both_plain old.game pairs others q plain taken);
  so_far = so_far;
}

module _ {old now : Searching} {place : AbstractPlace} {s' : AbstractState} {front front' : List (ℕ × ℕ)} {max max' : ℕ} {had has : List (List (ℕ × ℕ))} {first done others : List (ℕ × ℕ)} {q : ℕ × ℕ} (turn : AtTurn old now place s' front front' max max' had has first done others q) where
  turn_next : IsNext old.game place.state (point_of place.last) q.0 q.1
  turn_next = (turn.part.next q.0 q.1).0 (length done, turn_under done others q, turn_at done others q q)

  fresh : ¬ Contains done q
  fresh = subst (λ (ds : List (ℕ × ℕ)). ¬ Contains ds q) (turn_front done others q) (met_once (turned done others q) (length done) q turn.part.different (turn_under done others q) (turn_at done others q q))

  goes_on : GoesOn old.game (question_of max) place.state (point_of place.last) q.0 q.1 (question_of max) turn_next.later
  goes_on = record {
    next = turn_next;
    applies = next_applies old.game turn.lawful.numbered place.state (point_of place.last) q.0 q.1 turn_next;
    plain = turn.plain;
    passes = walk_passes old.game turn.lawful.numbered max place done front had has first q.0 q.1 turn.so_far.gathers;
  }

  abbrev here : Searching
  here = record old { opened = now.opened; taken = now.taken }

  same : now.game ≡ old.game
  same = ap (λ (x : Searching). x.game) turn.kept

  one_more : length (front ++ q ∷ []) ≡ length front + 1
  one_more = length_push front q

  -- What is so after the modifier, wherever it leads, is so after the one that comes next.
  at_later : (Is : Searching → List (ℕ × ℕ) → ℕ → AbstractState → Type 0) → Beyond now.game s' q (Is now front' max') → Is here front max turn_next.later
  at_later Is beyond =
      subst (λ (n : ℕ). Is here front n turn_next.later) turn.same_max
      (subst (λ (ps : List (ℕ × ℕ)). Is here ps max' turn_next.later) turn.same_front
      (subst (λ (x : Searching). Is x front' max' turn_next.later) turn.kept
      (beyond turn_next.later (applied_back old.game now.game place.state s' turn_next.later q.0 q.1 same turn.there goes_on.applies))))

  pub turn_whole : IsWhole old.game place.state (point_of place.last) ((done ++ q ∷ []) ++ others)
  turn_whole = record { ends = turn.ends; part = subst (λ (ps : List (ℕ × ℕ)). IsFlatPart old.game place.state (point_of place.last) ps turn.ends) (sym (turn_rest done others q)) turn.part }

  pub turn_fits : IsStateOf old.game place.state → IsStateOf now.game s'
  turn_fits fits = subst (λ (g : AbstractGame). IsStateOf g s') (sym same) (subst (λ (s : AbstractState). IsStateOf old.game s) (sym turn.there) fits)

  pub turn_valid : IsStateOf old.game place.state → IsValidAt now.game s' q.0 q.1
  turn_valid fits =
      let f = point_of place.last in
      let valid : IsValidAt old.game place.state q.0 q.1 = valid_next old.game turn.lawful.numbered place.state f q.0 q.1 (next_there old.game turn.lawful place.state f q.0 q.1 fits turn_next) turn_next in
      subst (λ (g : AbstractGame). IsValidAt g s' q.0 q.1) (sym same) (subst (λ (s : AbstractState). IsValidAt old.game s q.0 q.1) (sym turn.there) valid)

  -- The walk after the modifier was given up.
  pub turn_given_up : (D W : Type 0) → length front < most_pairs → Beyond now.game s' q (λ later. IsGivenUp now (question_of max') later (after q.1) (most_pairs - length (front' ++ q ∷ [])) D W) → IsGivenUp old (question_of max) place.state (point_of place.last) (most_pairs - length front) D W
  turn_given_up D W short beyond =
      let more = at_later (λ x ps n later. IsGivenUp x (question_of n) later (after q.1) (most_pairs - length (ps ++ q ∷ [])) D W) beyond in
      let fewer : suc (most_pairs - length (front ++ q ∷ [])) ≡ most_pairs - length front = omega (arith, one_more, short) in
      record {
        deep = λ d. subst (λ (n : ℕ). IsTooDeep old.game (question_of max) place.state (point_of place.last) n old.modifiers) fewer (deep_more old.game turn.lawful.numbered goes_on (more.deep d));
        wide = λ w. over_more old.game turn.lawful.numbered turn.so_far.counted fresh goes_on (more.wide w);
      }

  -- The walk after it came to an end, or ended early.
  module _ {new : Searching} {now_has : List (List (ℕ × ℕ))} {now_first : List (ℕ × ℕ)} {ended : Bool} (is : Bool) (ends : ended ≡ is) (beyond : Beyond now.game s' q (λ later. IsWalked now new (place_beyond later q.1) (front' ++ q ∷ []) max' has now_has now_first ended)) where
    more : IsWalked here new (place_beyond turn_next.later q.1) (front ++ q ∷ []) max has now_has now_first is
    more = subst (IsWalked here new (place_beyond turn_next.later q.1) (front ++ q ∷ []) max has now_has now_first) ends (at_later (λ x ps n later. IsWalked x new (place_beyond later q.1) (ps ++ q ∷ []) n has now_has now_first ended) beyond)

    counted_on : CountsUpTo old.game (question_of max) place.state (point_of place.last) (done ++ q ∷ []) old.opened new.opened
    counted_on = counts_more old.game turn.lawful.numbered turn.so_far.counted fresh goes_on more.counts.counted

    paired_on : CountsPairs old.game (question_of max) place.state (point_of place.last) old.opened new.opened old.taken new.taken (Unit {0})
    paired_on = more_takes old.game old.game (question_of max) (question_of max) place.state turn_next.later (point_of place.last) q.0 q.1 old.opened now.opened new.opened old.taken now.taken new.taken refl goes_on turn.so_far.paired more.counts.paired

    gathers_on : Gathers (IsLegalBy old.game place (IsSwitchOr old.game.rules (done ++ q ∷ []))) front max had now_has now_first is
    gathers_on =
        others_more old.game turn.lawful.numbered place done front max had has now_has first now_first is q turn_next.later turn_next fresh turn.plain goes_on.applies turn.so_far.gathers
        (gathers_after (IsLegal old.game (place_beyond turn_next.later q.1)) front q max has now_has now_first is more.gathers)

  pub turn_on : {new : Searching} {now_has : List (List (ℕ × ℕ))} {now_first : List (ℕ × ℕ)} {ended : Bool} → ended ≡ false → Beyond now.game s' q (λ later. IsWalked now new (place_beyond later q.1) (front' ++ q ∷ []) max' has now_has now_first ended) → IsSoFar old new place front max had now_has now_first (done ++ q ∷ [])
  turn_on {new} ends beyond =
      let walked = more false ends beyond in
      let short = walked.short in
      let fewer : most_pairs - length (front ++ q ∷ []) ≡ most_pairs - length front - 1 = omega (arith, one_more) in
      record {
        counted = counted_on false ends beyond;
        paired = paired_on false ends beyond;
        forced = so_far_one old.game turn.lawful.numbered (question_of max) place.state (point_of place.last) done q turn_next.later old.opened now.opened new.opened (most_pairs - length front) old.modifiers goes_on.applies (omega (arith, one_more, short)) turn.so_far.forced
            (subst (λ (n : ℕ). CountsForced old.game false (question_of max) turn_next.later (after q.1) now.opened new.opened n old.modifiers) fewer walked.counts.forced);
        gathers = gathers_on false ends beyond;
      }

  pub turn_ended : {new : Searching} {now_has : List (List (ℕ × ℕ))} {now_first : List (ℕ × ℕ)} {ended : Bool} → length front < most_pairs → ended ≡ true → Beyond now.game s' q (λ later. IsWalked now new (place_beyond later q.1) (front' ++ q ∷ []) max' has now_has now_first ended) → IsWalked old new place front max had now_has now_first true
  turn_ended {new} {now_has} {now_first} short ends beyond =
      let walked = more true ends beyond in
      let gathers = others_cut old.game place (done ++ q ∷ []) front max had now_has now_first (gathers_on true ends beyond) in
      let so_far = turn.so_far.forced.after_it.fits in
      let later = walked.counts.forced.fits in
      record {
        short = short;
        gathers = gathers;
        counts = record {
          counted = counts_end old.game turn.lawful.numbered (counted_on true ends beyond);
          paired = paired_on true ends beyond;
          forced = early_forced old.game turn.lawful.numbered max place front had now_has now_first old.opened turn.so_far.forced.middle new.opened (most_pairs - length front) old.modifiers gathers (omega (arith, so_far, later)) turn.so_far.forced.at_once;
        };
      }

-- ---- one modifier alone comes next

-- It is a switch: its move was added, or there was no room for it.
one_switch : (game : AbstractGame) → IsNumbered game.rules → (q : ℕ × ℕ) → IsSwitchAt game.rules q.1 → (front front' : List (ℕ × ℕ)) (max : ℕ) (had has : List (List (ℕ × ℕ))) (cut : Bool) → length front < most_pairs → length had ≤ max → AddsMove max had has front front' q cut → ListsSwitches game (q ∷ []) (q ∷ []) front max had has front' cut
one_switch game numbered q switches front front' max had has true short few (full, (unchanged, pushed)) =
    subst (λ (xs : List (List (ℕ × ℕ))). ListsSwitches game (q ∷ []) (q ∷ []) front max had xs front' true) (sym unchanged)
    (lists_cut game numbered (q ∷ []) front max had had [] front' [] [] q (IsPermutation-refl (q ∷ [])) switches full short (λ _. pushed) (lists_none game (q ∷ []) front max had [] few))
one_switch game numbered q switches front front' max had has false short few (room, (grown, kept)) =
    subst (λ (xs : List (List (ℕ × ℕ))). ListsSwitches game (q ∷ []) (q ∷ []) front max had xs front' false) (sym grown)
    (lists_any game (q ∷ []) (q ∷ []) front max had (had ++ (front ++ q ∷ []) ∷ []) [] front'
    (lists_all game (q ∷ []) front max had (had ++ (front ++ q ∷ []) ∷ []) [] (q ∷ []) [] (IsPermutation-refl (q ∷ [])) (All-nil (λ (r : ℕ × ℕ). ¬ IsSwitchAt game.rules r.1))
    (lists_more game numbered (q ∷ []) front max had had [] [] [] q (IsPermutation-refl (q ∷ [])) switches room (lists_none game (q ∷ []) front max had [] few))))

pub walk_switch : {old now : Searching} {s l : History} (last : Option ℕ) {result : Result Bool Over} {front front' : List (ℕ × ℕ)} {max : ℕ} {had has : List (List (ℕ × ℕ))} {q : ℕ × ℕ} {ends : Bool} → IsNumbered old.game.rules → HasCome old now s l (point_of last) result (q ∷ []) ends → length front < most_pairs → length had ≤ max → IsSwitchAt old.game.rules q.1 → (cut : Bool) → AddsMove max had has front front' q cut → (let place : AbstractPlace = record { state = s.state; last = last } in IsWalked old now place front max had has front' cut)
walk_switch {old} last {front = front} {front'} {max} {had} {has} {q} numbered come short few switches true adds =
    walk_ended last numbered come short (one_switch old.game numbered q switches front front' max had has true short few adds)
walk_switch {old} last {front = front} {front'} {max} {had} {has} {q} {ends} numbered come short few switches false adds =
    let leaves : LeavesOthers old.game.rules (q ∷ []) [] = record {
      switches = q ∷ [];
      moves = IsPermutation-refl (q ∷ []);
      switching = All-push (λ (r : ℕ × ℕ). IsSwitchAt old.game.rules r.1) [] q (All-nil (λ (r : ℕ × ℕ). IsSwitchAt old.game.rules r.1)) switches;
      plain = All-nil (λ (r : ℕ × ℕ). ¬ IsSwitchAt old.game.rules r.1);
    } in
    walk_whole numbered short (record { ends = ends; part = come.found.reached }) refl (walk_begun last numbered come leaves (one_switch old.game numbered q switches front front' max had has false short few adds))

-- It is none: it is the one to go on after.
pub one_turn : {old now : Searching} {s l : History} (last : Option ℕ) {result : Result Bool Over} (front : List (ℕ × ℕ)) {max : ℕ} (had : List (List (ℕ × ℕ))) {q : ℕ × ℕ} {ends : Bool} → IsGame old.game → HasCome old now s l (point_of last) result (q ∷ []) ends → length had ≤ max → ¬ IsSwitchAt old.game.rules q.1 → (let place : AbstractPlace = record { state = s.state; last = last } in AtTurn old now place l.state front front max max had had [] [] [] q)
one_turn {old} {now} {s} {l} last front {max} had {q} {ends} lawful come few plain =
    let all : All (λ (r : ℕ × ℕ). ¬ IsSwitchAt old.game.rules r.1) (q ∷ []) = All-push (λ (r : ℕ × ℕ). ¬ IsSwitchAt old.game.rules r.1) [] q (All-nil (λ (r : ℕ × ℕ). ¬ IsSwitchAt old.game.rules r.1)) plain in
    let leaves : LeavesOthers old.game.rules (q ∷ []) (q ∷ []) = record {
      switches = [];
      moves = IsPermutation-refl (q ∷ []);
      switching = All-nil (λ (r : ℕ × ℕ). IsSwitchAt old.game.rules r.1);
      plain = all;
    } in
    let lists = lists_all old.game (q ∷ []) front max had had [] [] (q ∷ []) (IsPermutation-refl (q ∷ [])) all (lists_none old.game (q ∷ []) front max had [] few) in
    walk_turn lawful come.asked.kept (ap (λ (h : History). h.state) come.asked.given_back) refl refl (record { ends = ends; part = come.found.reached }) all (walk_begun last lawful.numbered come leaves lists) (IsPermutation-refl (q ∷ []))

-- What was found after it is all.
pub turn_done : {old now new : Searching} {place : AbstractPlace} {s' : AbstractState} {front front' : List (ℕ × ℕ)} {max max' : ℕ} {had has now_has : List (List (ℕ × ℕ))} {first now_first done : List (ℕ × ℕ)} {q : ℕ × ℕ} (turn : AtTurn old now place s' front front' max max' had has first done [] q) → length front < most_pairs → (ended : Bool) → Beyond now.game s' q (λ later. IsWalked now new (place_beyond later q.1) (front' ++ q ∷ []) max' has now_has now_first ended) → IsWalked old new place front max had now_has now_first ended
turn_done turn short true beyond = turn_ended turn short refl beyond
turn_done turn short false beyond = walk_whole turn.lawful.numbered short (turn_whole turn) refl (turn_on turn refl beyond)

-- ---- after a modifier

-- There is no room in the front for one more.
pub too_many : (old : Searching) (later : AbstractState) (p left max : ℕ) {D W : Type 0} → IsGame old.game → IsModifierAt old.game.rules p → left ≡ 0 → ¬ W → IsGivenUp old (question_of max) later (after p) left D W
too_many old later p left max lawful modifies none wide =
    let within = modifier_position old.game lawful.numbered p modifies in
    record {
      deep = λ _.
          subst (λ (n : ℕ). IsTooDeep old.game (question_of max) later (after p) n old.modifiers) (sym none)
          (from_here (row_none old.game lawful.numbered lawful.no_empty_sum (numbered_action old.game.rules lawful.numbered p within.from_one within.there) (untried max)));
      wide = λ w. absurd (wide w);
    }

-- What holds where the program stands holds wherever the modifier leads.
pub made : (Is : List (ℕ × ℕ) → AbstractState → ℕ → Type 0) (game game' : AbstractGame) → IsNumbered game.rules → (s here : AbstractState) (q : ℕ × ℕ) (p : ℕ) (front front' : List (ℕ × ℕ)) → game' ≡ game → p ≡ q.1 → front' ≡ front → Applies game' q.1 (at_vertex s q.0) here → Is front' here p → Beyond game s q (λ later. Is front later q.1)
made Is game game' numbered s here q p front front' same same_position pushed applied holds later applied' =
    let here' : Applies game q.1 (at_vertex s q.0) here = subst (λ (g : AbstractGame). Applies g q.1 (at_vertex s q.0) here) same applied in
    subst (λ (x : AbstractState). Is front x q.1) (Applies_one game numbered q.1 here' applied') (subst (λ (n : ℕ). Is front here n) same_position (subst (λ (ps : List (ℕ × ℕ)). Is ps here p) pushed holds))

pub made_given_up : (old : Searching) (max : ℕ) (game' : AbstractGame) → IsNumbered old.game.rules → (s here : AbstractState) (q : ℕ × ℕ) (p : ℕ) (front front' : List (ℕ × ℕ)) {D W : Type 0} → game' ≡ old.game → p ≡ q.1 → front' ≡ front → Applies game' q.1 (at_vertex s q.0) here → IsGivenUp old (question_of max) here (after p) (most_pairs - length front') D W → Beyond old.game s q (λ later. IsGivenUp old (question_of max) later (after q.1) (most_pairs - length front) D W)
made_given_up old max game' numbered s here q p front front' {D} {W} same same_position pushed applied given =
    made (λ ps t n. IsGivenUp old (question_of max) t (after n) (most_pairs - length ps) D W) old.game game' numbered s here q p front front' same same_position pushed applied given
