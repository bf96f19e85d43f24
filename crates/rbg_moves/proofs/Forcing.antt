-- Which openings are forced of the questions about moves, and that they were taken up.
use Rattle.rbg_base.proofs.Common.{◌≡◌, ◌≢◌, ℕ, zero, suc, ◌-◌, ◌<◌, ◌≤◌, List, [], ◌∷◌, ◌++◌, length, Bool, true, false, refl, sym, ap, subst, inl, inr, arith, All, Contains, Some, All-head, All-contains, All-weaker}
use Rattle.rbg_rules.specs.Meaning.{IsNumbered, IsSwitchAt, Start, after, AbstractGame, AbstractState, Applies, switch, stay, modify, AbstractPlace, point_of, Legal, IsLegal, Finished, most_openings, most_modifiers, Question, try_move, find_move, list_moves, reach, pattern, Item, IsMove, AnswersAfter, GoesTo, IsForcedTo, Forced, at, beyond, IsForcedDeep}
use Rattle.rbg_rules.proofs.PlaceLemmas.{RunPairs_join}
use Rattle.rbg_rules.proofs.MoveLemmas.{Applies_one}
use Rattle.rbg_search.specs.Flat.{IsNext, IsFlatPart}
use Rattle.rbg_search.proofs.Common.{CountsForced, TakesAfter, Passes, finding, listing, CountsAllForced}
use Rattle.rbg_search.proofs.Forcing.{ForcesOn, all_counted, none_deep, takes_none, takes_more, forced_at_once, forced_after}
use Rattle.rbg_moves.specs.Limits.{FitsLimits}
use Rattle.rbg_moves.specs.internal.Stepping.{at_vertex, place_beyond}
use Rattle.rbg_moves.specs.internal.Asking.{question_of, is_cut}
use Rattle.rbg_moves.specs.internal.Gathering.{Gathers, IsLegalBy, IsSwitchOr}
use Rattle.rbg_moves.proofs.Steps.{legal_on}
use Rattle.rbg_moves.proofs.Gathering.{none_wanted}

-- ---- a move is a legal list of pairs

pub move_legal : (game : AbstractGame) (place : AbstractPlace) (ps : List (ℕ × ℕ)) → IsMove game place.state (point_of place.last) ps → IsLegal game place ps
move_legal game place ps move = (
  (let r : AbstractPlace = record { state = move.end; last = Some move.last } in r),
  record { before = move.before; last = move.last; follows = move.follows; runs = move.runs; switches = move.switches; none_before = move.no_switch; stands = refl },
)

pub legal_move : (game : AbstractGame) (place to : AbstractPlace) (ps : List (ℕ × ℕ)) → Legal game place ps to → IsMove game place.state (point_of place.last) ps
legal_move game place to ps legal = record { before = legal.before; last = legal.last; end = to.state; no_switch = legal.none_before; switches = legal.switches; follows = legal.follows; runs = legal.runs }

-- ---- what is forced where the answer is cut is forced where it isn't

uncut_to : (game : AbstractGame) (cut : Bool) (question : Question) (s : AbstractState) (f : Start) (ps : List (ℕ × ℕ)) → IsForcedTo game cut question s f ps → IsForcedTo game false question s f ps
uncut_to game cut (try_move qs) s f ps forced = forced
uncut_to game cut find_move s f ps forced = forced
uncut_to game cut list_moves s f ps (inl none) = inl none
uncut_to game cut list_moves s f ps (inr is) = inr refl
uncut_to game cut reach s f ps forced = tt
uncut_to game cut pattern s f ps forced = forced

pub uncut : (game : AbstractGame) (cut : Bool) (question : Question) (s : AbstractState) (f : Start) (o : List Item) → Forced game cut question s f o → Forced game false question s f o
uncut game cut question s f o (at {ps = ps} on goes forced) = at on goes (uncut_to game cut question s f ps forced)
uncut game cut question s f o (beyond {t = t} {ps = ps} on goes forced follows is inner) =
    beyond on goes (uncut_to game cut question s f ps forced) follows is (uncut game cut pattern t _ _ inner)

pub counts_uncut : (game : AbstractGame) (cut : Bool) (question : Question) (s : AbstractState) (f : Start) (a b left most : ℕ) → CountsForced game false question s f a b left most → CountsForced game cut question s f a b left most
counts_uncut game cut question s f a b left most counts = record {
  openings = counts.openings;
  all = λ o forced. counts.all o (uncut game cut question s f o forced);
  fits = counts.fits;
  few = λ o forced. counts.few o (uncut game cut question s f o forced);
}

pub fits_uncut : {game : AbstractGame} {question : Question} {place : AbstractPlace} → FitsLimits game false question place → (cut : Bool) → FitsLimits game cut question place
fits_uncut {game} {question} {place} fits cut = record {
  few = λ many has. fits.few many (record {
    openings = has.openings;
    different = has.different;
    forced = All-weaker (Forced game cut question place.state (point_of place.last)) (Forced game false question place.state (point_of place.last)) (uncut game cut question place.state (point_of place.last)) has.openings has.forced;
    count = has.count;
  });
  not_deep = λ deep. fits.not_deep (record { before = deep.before; row = deep.row; later = deep.later; forced = uncut game cut question place.state (point_of place.last) _ deep.forced; count = deep.count });
}

-- What is forced where the answer is cut was counted, whether it is cut or not.
pub all_forced : (game : AbstractGame) (cut : Bool) (question : Question) (s : AbstractState) (f : Start) (a b left most : ℕ) → CountsForced game cut question s f a b left most → CountsAllForced game true question s f a b
all_forced game true question s f a b left most counts = all_counted game true question s f a b left most counts
all_forced game false question s f a b left most counts =
    all_counted game true question s f a b left most (counts_uncut game true question s f a b left most counts)

-- ---- while the modifiers that come next are taken in turn

-- What is forced with no modifier was taken up, and what is forced after the pairs that are done.
pub record TakenSoFar (game : AbstractGame) (question : Question) (s : AbstractState) (f : Start) (done : List (ℕ × ℕ)) (a b left most : ℕ) : Type 0 where
  pub middle : ℕ
  pub at_once : CountsForced game false reach s f a middle left most
  pub after_it : TakesAfter game false question s done middle b left most

module _ (game : AbstractGame) (numbered : IsNumbered game.rules) where
  pub so_far_one : (question : Question) (s : AbstractState) (f : Start) (done : List (ℕ × ℕ)) (q : ℕ × ℕ) (later : AbstractState) (a b c left most : ℕ) → Applies game q.1 (at_vertex s q.0) later → 1 < left → TakenSoFar game question s f done a b left most → CountsForced game false question later (after q.1) b c (left - 1) most → TakenSoFar game question s f (done ++ q ∷ []) a c left most
  so_far_one question s f done q later a b c left most applies more_left taken more = record {
    middle = taken.middle;
    at_once = taken.at_once;
    after_it = takes_more game numbered false question s done q.0 q.1 later taken.middle b c left most applies more_left taken.after_it more;
  }

  -- Nothing is forced after switches.
  pub so_far_switches : (question : Question) (s : AbstractState) (f : Start) (done : List (ℕ × ℕ)) (a b left most : ℕ) → All (λ (q : ℕ × ℕ). IsSwitchAt game.rules q.1) done → CountsForced game false reach s f a b left most → TakenSoFar game question s f done a b left most
  so_far_switches question s f done a b left most switching counts = record {
    middle = b;
    at_once = counts;
    after_it = record {
      openings = [];
      all = λ v p later o there plain applies forced. absurd (plain (switches_at (v, p) there));
      fits = omega arith;
      few = λ v p later o there plain applies forced. absurd (plain (switches_at (v, p) there));
    };
  }
    where
      switches_at : (q : ℕ × ℕ) → Contains done q → IsSwitchAt game.rules q.1
      switches_at q there = All-contains (λ (x : ℕ × ℕ). IsSwitchAt game.rules x.1) done q switching there

  -- ---- some move is looked for

  -- Where there is a move, nothing is forced after a modifier.
  found_at_once : (s : AbstractState) (f : Start) (ps : List (ℕ × ℕ)) → IsMove game s f ps → (o : List Item) → Forced game false find_move s f o → Forced game false reach s f o
  found_at_once s f ps move o (at on goes (inl none)) = at on none tt
  found_at_once s f ps move o (at on goes (inr never)) = absurd (never ps move)
  found_at_once s f ps move o (beyond on goes (inl none) follows is inner) = beyond on none tt follows is inner
  found_at_once s f ps move o (beyond on goes (inr never) follows is inner) = absurd (never ps move)

  found_forced : (place : AbstractPlace) (ps : List (ℕ × ℕ)) (a b c left most : ℕ) → IsLegal game place ps → b ≤ c → CountsForced game false reach place.state (point_of place.last) a b left most → CountsForced game false find_move place.state (point_of place.last) a c left most
  found_forced place ps a b c left most legal grows counts =
      forced_at_once game numbered false find_move place.state (point_of place.last) a b c left most (found_at_once place.state (point_of place.last) ps (legal_move game place legal.0 ps legal.1)) grows counts

  -- An answer after these modifiers is a move of them and of one switch.
  record AnswerMove (s : AbstractState) (f : Start) (qs : List (ℕ × ℕ)) : Type 0 where
    pair : ℕ × ℕ
    switches : IsSwitchAt game.rules pair.1
    move : IsMove game s f (qs ++ pair ∷ [])

  answer_move : (s : AbstractState) (f : Start) (qs : List (ℕ × ℕ)) → AnswersAfter game find_move s f qs → AnswerMove s f qs
  answer_move s f qs (m, t, q, on, follows, switches) =
      let end : AbstractState = record t { player = switches.player } in
      let applied : Applies game q t end = record { action = switch switches.player; stands = switches.stands; acts = refl } in
      record {
        pair = (t.vertex, q);
        switches = switches;
        move = record { before = m; last = q; end = end; no_switch = on.no_switch; switches = switches; follows = follows; runs = RunPairs_join on.runs (modify applied refl stay) };
      }

  -- Where there is none, there is none after a modifier, and there too all is forced.
  finished_forces : (place : AbstractPlace) → Finished game place → ForcesOn game false find_move find_move place.state (point_of place.last)
  finished_forces place finished = λ v p later ps next applies plain goes forced.
      let never : (qs : List (ℕ × ℕ)) → ¬ IsMove game later (after p) qs = λ qs move.
      let legal = move_legal game (place_beyond later p) qs move in
      finished.no_move ((v, p) ∷ qs) legal.0 (legal_on game numbered place v p later qs legal.0 next plain applies legal.1) in (
        (λ qs prefix answer. let last = answer_move later (after p) qs answer in never (qs ++ last.pair ∷ []) last.move),
        inr never,
      )

  finished_forced : (place : AbstractPlace) (pairs : List (ℕ × ℕ)) (ends : Bool) (a b left most : ℕ) → Finished game place → IsFlatPart game place.state (point_of place.last) pairs ends → TakenSoFar game find_move place.state (point_of place.last) pairs a b left most → CountsForced game false find_move place.state (point_of place.last) a b left most
  finished_forced place pairs ends a b left most finished part taken =
      forced_after game numbered false find_move find_move place.state (point_of place.last) pairs a taken.middle b left most (finished_forces place finished) (λ v p ps next plain goes. (part.next v p).1 next) taken.at_once taken.after_it

  -- ---- the moves are listed

  -- Where the list is cut, nothing is forced after a modifier.
  cut_at_once : (s : AbstractState) (f : Start) (o : List Item) → Forced game true list_moves s f o → Forced game true reach s f o
  cut_at_once s f o (at on goes (inl none)) = at on none tt
  cut_at_once s f o (at on goes (inr is)) = absurd (true_not_false is)
    where
      true_not_false : true ≡ false → ⊥
      true_not_false e = cc
  cut_at_once s f o (beyond on goes (inl none) follows is inner) = beyond on none tt follows is inner
  cut_at_once s f o (beyond on goes (inr is) follows stands inner) = absurd (true_not_false is)
    where
      true_not_false : true ≡ false → ⊥
      true_not_false e = cc

  cut_forced : (s : AbstractState) (f : Start) (a b c left most : ℕ) → b ≤ c → CountsForced game false reach s f a b left most → CountsForced game true list_moves s f a c left most
  cut_forced s f a b c left most grows counts = forced_at_once game numbered true list_moves s f a b c left most (cut_at_once s f) grows (counts_uncut game true reach s f a b left most counts)

  -- Where it isn't, all is forced.
  listed_forced : (s : AbstractState) (f : Start) (pairs : List (ℕ × ℕ)) (ends : Bool) (a b left most : ℕ) → IsFlatPart game s f pairs ends → TakenSoFar game list_moves s f pairs a b left most → CountsForced game false list_moves s f a b left most
  listed_forced s f pairs ends a b left most part taken =
      forced_after game numbered false list_moves list_moves s f pairs a taken.middle b left most (λ v p later ps next applies plain goes forced. (tt, inr refl)) (λ v p ps next plain goes. (part.next v p).1 next) taken.at_once taken.after_it

  -- ---- a walk that looks for some move or lists the moves

  -- It goes on after a modifier: where it looks for some move, no switch came next.
  pub walk_passes : (max : ℕ) (place : AbstractPlace) (done front : List (ℕ × ℕ)) (had has : List (List (ℕ × ℕ))) (first : List (ℕ × ℕ)) (v p : ℕ) → Gathers (IsLegalBy game place (IsSwitchOr game.rules done)) front max had has first false → Passes game place.state (point_of place.last) v p (question_of max) (question_of max)
  walk_passes zero place done front had has first v p gathers =
      finding (λ answer.
      let last = answer_move place.state (point_of place.last) [] answer in
      none_wanted (IsLegalBy game place (IsSwitchOr game.rules done)) front had has first gathers (last.pair ∷ []) (record { legal = move_legal game place (last.pair ∷ []) last.move; begins = inl last.switches }))
  walk_passes (suc n) place done front had has first v p gathers = listing

  -- Where it ends early there is a move, or its list is cut.
  pub early_forced : (max : ℕ) (place : AbstractPlace) (front : List (ℕ × ℕ)) (had has : List (List (ℕ × ℕ))) (first : List (ℕ × ℕ)) (a b c left most : ℕ) → Gathers (IsLegal game place) front max had has first true → b ≤ c → CountsForced game false reach place.state (point_of place.last) a b left most → CountsForced game (is_cut true max) (question_of max) place.state (point_of place.last) a c left most
  early_forced zero place front had has first a b c left most gathers grows counts =
      let other = gathers.more refl in
      found_forced place other.pairs a b c left most other.wanted grows counts
  early_forced (suc n) place front had has first a b c left most gathers grows counts = cut_forced place.state (point_of place.last) a b c left most grows counts

  -- Where it doesn't, play is finished, or all moves are listed.
  pub all_forced_at : (max : ℕ) (place : AbstractPlace) (front : List (ℕ × ℕ)) (had has : List (List (ℕ × ℕ))) (first pairs : List (ℕ × ℕ)) (ends : Bool) (a b left most : ℕ) → Gathers (IsLegal game place) front max had has first false → IsFlatPart game place.state (point_of place.last) pairs ends → TakenSoFar game (question_of max) place.state (point_of place.last) pairs a b left most → CountsForced game false (question_of max) place.state (point_of place.last) a b left most
  all_forced_at zero place front had has first pairs ends a b left most gathers part taken =
      finished_forced place pairs ends a b left most (record { no_move = λ ps to legal. none_wanted (IsLegal game place) front had has first gathers ps (to, legal) }) part taken
  all_forced_at (suc n) place front had has first pairs ends a b left most gathers part taken = listed_forced place.state (point_of place.last) pairs ends a b left most part taken

  -- ---- pairs are tried

  no_rest : (q : ℕ × ℕ) (ps more : List (ℕ × ℕ)) → more ≢ [] → q ∷ [] ≡ ps ++ more → ps ≡ []
  no_rest q [] more some e = refl
  no_rest q (x ∷ []) [] some e = absurd (some refl)
  no_rest q (x ∷ []) (y ∷ more) some e = absurd cc
  no_rest q (x ∷ y ∷ ps) more some e = absurd cc

  -- The last pair is a switch: nothing is opened after it.
  last_at_once : (s : AbstractState) (f : Start) (q : ℕ × ℕ) (o : List Item) → Forced game false (try_move (q ∷ [])) s f o → Forced game false reach s f o
  last_at_once s f q o (at {ps = ps} on (more, some, e) forced) = at on (no_rest q ps more some e) tt
  last_at_once s f q o (beyond {ps = ps} on (more, some, e) forced follows is inner) = beyond on (no_rest q ps more some e) tt follows is inner

  pub last_forced : (s : AbstractState) (f : Start) (q : ℕ × ℕ) (a b left most : ℕ) → CountsForced game false reach s f a b left most → CountsForced game false (try_move (q ∷ [])) s f a b left most
  last_forced s f q a b left most counts = forced_at_once game numbered false (try_move (q ∷ [])) s f a b b left most (last_at_once s f q) (omega arith) counts

  heads : (x y : ℕ × ℕ) (xs ys : List (ℕ × ℕ)) → x ∷ xs ≡ y ∷ ys → (x ≡ y) × (xs ≡ ys)
  heads x y xs ys e = (cc, cc)

  -- Another pair is followed, and the rest is a move after it.
  pub tried_forced : (s later : AbstractState) (f : Start) (v p : ℕ) (rest : List (ℕ × ℕ)) (a b c most : ℕ) → Applies game p (at_vertex s v) later → IsMove game later (after p) rest → 0 < length rest → CountsForced game false reach s f a b (suc (length rest)) most → CountsForced game false (try_move rest) later (after p) b c (length rest) most → CountsForced game false (try_move ((v, p) ∷ rest)) s f a c (suc (length rest)) most
  tried_forced s later f v p rest a b c most applies move some counts more =
      forced_after game numbered false (try_move ((v, p) ∷ rest)) (try_move rest) s f ((v, p) ∷ []) a b c (suc (length rest)) most onward among counts takes
    where
      takes : TakesAfter game false (try_move rest) s ((v, p) ∷ []) b c (suc (length rest)) most
      takes =
          let same : length rest ≡ suc (length rest) - 1 = omega arith in
          takes_more game numbered false (try_move rest) s [] v p later b b c (suc (length rest)) most applies (omega (arith, some))
          (takes_none game numbered false (try_move rest) s b b (suc (length rest)) most (omega arith))
          (subst (λ (n : ℕ). CountsForced game false (try_move rest) later (after p) b c n most) same more)

      among : (w q : ℕ) (ps : List (ℕ × ℕ)) → IsNext game s f w q → ¬ IsSwitchAt game.rules q → GoesTo game (try_move ((v, p) ∷ rest)) s f ((w, q) ∷ ps) → Contains {X = ℕ × ℕ} ((v, p) ∷ []) (w, q)
      among w q ps next plain (more_pairs, some_more, e) = (0, omega arith, (heads (v, p) (w, q) rest (ps ++ more_pairs) e).0)

      onward : ForcesOn game false (try_move ((v, p) ∷ rest)) (try_move rest) s f
      onward w q later' ps next applied plain (more_pairs, some_more, e) forced =
          let (head, tail) = heads (v, p) (w, q) rest (ps ++ more_pairs) e in
          let applied' : Applies game p (at_vertex s v) later' = subst (λ (x : ℕ × ℕ). Applies game x.1 (at_vertex s x.0) later') (sym head) applied in
          let one : later ≡ later' = Applies_one game numbered p applies applied' in
          let move' : IsMove game later' (after p) rest = subst (λ (u : AbstractState). IsMove game u (after p) rest) one move in
          let same : p ≡ q = ap (λ (x : ℕ × ℕ). x.1) head in
          ((more_pairs, some_more, tail), subst (λ (n : ℕ). IsMove game later' (after n) rest) same move')

-- ---- the question at a place

pub fits_limits : (game : AbstractGame) (cut : Bool) (question : Question) (place : AbstractPlace) (old new left most : ℕ) → CountsForced game cut question place.state (point_of place.last) old new left most → old ≡ 0 → new ≤ most_openings → left ≤ most → most ≡ most_modifiers → FitsLimits game cut question place
fits_limits game cut question place old new left most counts from_none within under limit = record {
  few = λ many has.
      let added = all_counted game cut question place.state (point_of place.last) old new left most counts many has in
      omega (arith, added, from_none, within);
  not_deep =
      let some : 0 < most = omega (arith, limit) in
      subst (λ (n : ℕ). ¬ IsForcedDeep game cut question place.state (point_of place.last) n) limit
      (none_deep game cut question place.state (point_of place.last) old new left most counts under some);
}

-- Where nothing is forced, all fits.
pub fits_none : (game : AbstractGame) (cut : Bool) (question : Question) (place : AbstractPlace) → ((o : List Item) → ¬ Forced game cut question place.state (point_of place.last) o) → FitsLimits game cut question place
fits_none game cut question place never = record {
  few = λ many has. none_many has.openings has.forced many has.count;
  not_deep = λ deep. never _ deep.forced;
}
  where
    none_many : (os : List (List Item)) → All (Forced game cut question place.state (point_of place.last)) os → (many : ℕ) → length os ≡ many → many ≤ most_openings
    none_many [] forced many count = omega (arith, count)
    none_many (o ∷ os) forced many count = absurd (never o (All-head (Forced game cut question place.state (point_of place.last)) o os forced))

-- Pairs that are no move force nothing.
try_forces : (game : AbstractGame) (cut : Bool) (s : AbstractState) (f : Start) (qs : List (ℕ × ℕ)) (o : List Item) → Forced game cut (try_move qs) s f o → IsMove game s f qs
try_forces game cut s f qs o (at on goes forced) = forced
try_forces game cut s f qs o (beyond on goes forced follows is inner) = forced

pub illegal_fits : (game : AbstractGame) (cut : Bool) (place : AbstractPlace) (qs : List (ℕ × ℕ)) → ((to : AbstractPlace) → ¬ Legal game place qs to) → FitsLimits game cut (try_move qs) place
illegal_fits game cut place qs illegal = fits_none game cut (try_move qs) place (λ o forced.
    let legal = move_legal game place qs (try_forces game cut place.state (point_of place.last) qs o forced) in
    illegal legal.0 legal.1)

-- .. so any count counts it.
pub illegal_counts : (game : AbstractGame) (cut : Bool) (place : AbstractPlace) (qs : List (ℕ × ℕ)) (old new : ℕ) → ((to : AbstractPlace) → ¬ Legal game place qs to) → old ≤ new → CountsAllForced game cut (try_move qs) place.state (point_of place.last) old new
illegal_counts game cut place qs old new illegal grows = λ many has.
    let none : many ≡ 0 = none_many has.openings has.forced many has.count in
    omega (arith, none, grows)
  where
    none_many : (os : List (List Item)) → All (Forced game cut (try_move qs) place.state (point_of place.last)) os → (many : ℕ) → length os ≡ many → many ≡ 0
    none_many [] forced many count = omega (arith, count)
    none_many (o ∷ os) forced many count =
        let legal = move_legal game place qs (try_forces game cut place.state (point_of place.last) qs o (All-head (Forced game cut (try_move qs) place.state (point_of place.last)) o os forced)) in
        absurd (illegal legal.0 legal.1)

-- What was taken up in the whole budget, told of an equal game and place.
pub fits_at : (game g : AbstractGame) (place : AbstractPlace) (s : AbstractState) (f : Start) (cut : Bool) (question : Question) (old new left most openings : ℕ) → g ≡ game → s ≡ place.state → f ≡ point_of place.last → old ≡ 0 → new ≤ openings → openings ≡ most_openings → left ≤ most_modifiers → most ≡ most_modifiers → CountsForced g cut question s f old new left most → FitsLimits game cut question place
fits_at game g place s f cut question old new left most openings same state start none within budget under limit counts =
    fits_limits game cut question place old new left most
    (subst (λ (h : AbstractGame). CountsForced h cut question place.state (point_of place.last) old new left most) same
    (subst (λ (u : AbstractState). CountsForced g cut question u (point_of place.last) old new left most) state
    (subst (λ (e : Start). CountsForced g cut question s e old new left most) start counts)))
    none (omega (arith, within, budget)) (omega (arith, under, limit)) limit
