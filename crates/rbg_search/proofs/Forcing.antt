-- Which openings are forced, and how those of a question are put together from the parts that a search takes up.
use Rattle.rbg_base.proofs.Common.{◌≡◌, ◌≢◌, ℕ, ◌+◌, ◌-◌, ◌<◌, ◌≤◌, List, [], ◌∷◌, ◌++◌, length, get_or, map, take, Bool, refl, sym, subst, inl, inr, arith, Contains, All-weaker, Contains-append_left, Contains-append_right, Contains-push_cases}
use Rattle.std.proofs.lemmas.List.{length-append, length-map, take_more}
use Rattle.rbg_base.proofs.CallerLemmas.{Contains-map}
use Rattle.rbg_rules.specs.Meaning.{IsNumbered, IsSwitchAt, IsPatternAt, inside, Start, beginning, after, AbstractGame, AbstractState, Applies, Question, reach, pattern, Item, modifier_at, pattern_at, items_of, SomeWordRuns, GoesTo, IsForcedTo, Forced, at, beyond, HasForced, IsForcedDeep}
use Rattle.rbg_rules.proofs.PlaceLemmas.{RunPairs-Runs}
use Rattle.rbg_rules.proofs.MoveLemmas.{Applies_one}
use Rattle.rbg_search.proofs.Along.{IsNext, IsFlatPart, at_vertex, IsReached}
use Rattle.rbg_search.proofs.Common.{HasFewInRow, CountsForced, TakesAfter, AsksForced}
use Rattle.rbg_flat.proofs.Lists.{no_longer}
use Rattle.rbg_search.proofs.Closures.{reached, ends_at, next_found, after_runs}
use Rattle.rbg_search.proofs.Openings.{cut_follows, goes_through, none_left}

-- ---- what a list that holds all says of the count, and of rows

few_row : (most : ℕ) (row : List (ℕ × ℕ)) (later : List Item) (left : ℕ) → HasFewInRow left most (items_of row ++ later) → 0 < length row → length row < left
few_row most [] later left few some = absurd (omega (arith, some))
few_row most (q ∷ []) later left few some = omega (arith, few.0)
few_row most (q ∷ r ∷ rs) later left few some =
    let after_it = few_row most (r ∷ rs) later (left - 1) few.1 (omega arith) in
    omega (arith, few.0, after_it)

few_deep : (most : ℕ) → 0 < most → (before : List Item) (row : List (ℕ × ℕ)) (later : List Item) (left : ℕ) → left ≤ most → length row ≡ most → ¬ HasFewInRow left most (before ++ items_of row ++ later)
few_deep most some [] row later left under count few =
    let short = few_row most row later left few (omega (arith, some, count)) in
    omega (arith, short, under, count)
few_deep most some (modifier_at v p ∷ before) row later left under count few = few_deep most some before row later (left - 1) (omega (arith, under)) count few.1
few_deep most some (pattern_at v p ∷ before) row later left under count few = few_deep most some before row later most (omega arith) count few

module _ (game : AbstractGame) (cut : Bool) (question : Question) (s : AbstractState) (f : Start) (old new left most : ℕ) (counts : CountsForced game cut question s f old new left most) where
  pub all_counted : (many : ℕ) → HasForced game cut question s f many → old + many ≤ new
  all_counted many has =
      let shorter = no_longer has.openings counts.openings has.different (All-weaker (Forced game cut question s f) (Contains counts.openings) counts.all has.openings has.forced) in
      omega (arith, shorter, has.count, counts.fits)

  pub none_deep : left ≤ most → 0 < most → ¬ IsForcedDeep game cut question s f most
  none_deep under some deep = few_deep most some deep.before deep.row deep.later left under deep.count (counts.few (deep.before ++ items_of deep.row ++ deep.later) deep.forced)

-- ---- the forced openings of `reach`

-- The empty list, or what is forced in a pattern that is reached.
pub data IsForcedHere (game : AbstractGame) (cut : Bool) (s : AbstractState) (f : Start) : List Item → Type 0 where
  nothing : IsForcedHere game cut s f []
  asked :
      {v p : ℕ} {o : List Item} →
      IsReached game s f v p → IsPatternAt game.rules p →
      Forced game cut pattern (at_vertex s v) (beginning (inside p)) o →
      IsForcedHere game cut s f (pattern_at v p ∷ o)

not_nothing : (q : ℕ × ℕ) (qs : List (ℕ × ℕ)) → (q ∷ qs) ≢ []
not_nothing q qs e = cc

module _ (game : AbstractGame) (numbered : IsNumbered game.rules) where
  pub forced_here : (cut : Bool) (s : AbstractState) (f : Start) (o : List Item) → Forced game cut reach s f o → IsForcedHere game cut s f o
  forced_here cut s f o (at {ps = []} on none tt) = nothing
  forced_here cut s f o (at {ps = q ∷ qs} on none tt) = absurd (not_nothing q qs none)
  forced_here cut s f o (beyond {m = m} {t = t} {ps = []} {p = p} {more = more} on none tt follows is inner) =
      let quiet = none_left game numbered on.runs in
      let runs = RunPairs-Runs on.runs in
      let here : t ≡ at_vertex s t.vertex = ends_at game numbered s t m quiet runs in
      asked (reached game numbered s t f m p quiet runs follows) is (subst (λ (u : AbstractState). Forced game cut pattern u (beginning (inside p)) more) here inner)
  forced_here cut s f o (beyond {ps = q ∷ qs} on none tt follows is inner) = absurd (not_nothing q qs none)

-- ---- the forced openings of a question, by their first modifier

-- What is forced with no modifier taken; or after a modifier to which the question may go, what is forced where it
-- goes on as the second one.
pub data IsForcedBy (game : AbstractGame) (cut : Bool) (question question' : Question) (s : AbstractState) (f : Start) : List Item → Type 0 where
  here : {o : List Item} → Forced game cut reach s f o → IsForcedBy game cut question question' s f o
  further :
      {v p : ℕ} {o : List Item} (later : AbstractState) →
      IsNext game s f v p → Applies game p (at_vertex s v) later → ¬ IsSwitchAt game.rules p →
      (ps : List (ℕ × ℕ)) → GoesTo game question s f ((v, p) ∷ ps) →
      Forced game cut question' later (after p) o →
      IsForcedBy game cut question question' s f (modifier_at v p ∷ o)

-- Where the first question is forced after a modifier, the second one goes and is forced there.
abbrev pub ForcesOn : AbstractGame → Bool → Question → Question → AbstractState → Start → Type 0
ForcesOn game cut question question' s f =
    (v p : ℕ) (later : AbstractState) (ps : List (ℕ × ℕ)) →
    IsNext game s f v p → Applies game p (at_vertex s v) later → ¬ IsSwitchAt game.rules p →
    GoesTo game question s f ((v, p) ∷ ps) → IsForcedTo game cut question s f ((v, p) ∷ ps) →
    GoesTo game question' later (after p) ps × IsForcedTo game cut question' later (after p) ps

module _ (game : AbstractGame) (numbered : IsNumbered game.rules) where
  pub forced_by : (cut : Bool) (question question' : Question) (s : AbstractState) (f : Start) → ForcesOn game cut question question' s f → (o : List Item) → Forced game cut question s f o → IsForcedBy game cut question question' s f o
  forced_by cut question question' s f onward o (at {ps = []} on goes forced) = here (at on refl tt)
  forced_by cut question question' s f onward o (at {m = m} {t = t} {ps = (v, p) ∷ ps} on goes forced) =
      let through = goes_through game numbered s f m t v p ps on in
      let there = onward v p through.cut.later ps through.next through.cut.applied through.plain goes forced in
      further through.cut.later through.next through.cut.applied through.plain ps goes (at through.on there.0 there.1)
  forced_by cut question question' s f onward o (beyond {ps = []} on goes forced follows is inner) = here (beyond on refl tt follows is inner)
  forced_by cut question question' s f onward o (beyond {m = m} {t = t} {ps = (v, p) ∷ ps} {p = q} on goes forced follows is inner) =
      let through = goes_through game numbered s f m t v p ps on in
      let there = onward v p through.cut.later ps through.next through.cut.applied through.plain goes forced in
      further through.cut.later through.next through.cut.applied through.plain ps goes
      (beyond through.on there.0 there.1 (cut_follows game numbered f through.cut (q ∷ []) follows) is inner)

  -- ---- while the patterns of a flat part are asked

  nothing_in : (x : ℕ × ℕ) → ¬ Contains [] x
  nothing_in x (k, under, there) = absurd (omega (arith, under))

  pub asks_begin : (cut : Bool) (s : AbstractState) (old new most : ℕ) → new ≡ old + 1 → AsksForced game cut s [] old new most
  asks_begin cut s old new most same = record {
    openings = [] ∷ [];
    nothing = (0, omega arith, refl);
    all = λ v p o there is forced. absurd (nothing_in (v, p) there);
    fits = omega (arith, same);
    few = λ v p o there is forced. absurd (nothing_in (v, p) there);
  }

  abbrev same_pair : (v p w q : ℕ) → Type 0
  same_pair v p w q = let x : ℕ × ℕ = (v, p) in let y : ℕ × ℕ = (w, q) in x ≡ y

  -- One more pattern is asked; what was done between is at no pattern.
  pub asks_more : (cut : Bool) (s : AbstractState) (done done' : List (ℕ × ℕ)) (v p : ℕ) (a b c most : ℕ) → ((w q : ℕ) → Contains done' (w, q) → IsPatternAt game.rules q → Contains done (w, q)) → AsksForced game cut s done a b most → CountsForced game cut pattern (at_vertex s v) (beginning (inside p)) b c most most → AsksForced game cut s (done' ++ (v, p) ∷ []) a c most
  asks_more cut s done done' v p a b c most quiet asks more = record {
    openings = asks.openings ++ map (λ o. pattern_at v p ∷ o) more.openings;
    nothing = Contains-append_left asks.openings (map (λ o. pattern_at v p ∷ o) more.openings) [] asks.nothing;
    all = λ w q o there is forced. elim (Contains-push_cases done' (v, p) (w, q) there) [
      | inl earlier ↦ Contains-append_left asks.openings (map (λ o. pattern_at v p ∷ o) more.openings) (pattern_at w q ∷ o) (asks.all w q o (quiet w q earlier is) is forced)
      | inr same ↦ Contains-append_right asks.openings (map (λ o. pattern_at v p ∷ o) more.openings) (pattern_at w q ∷ o) (here w q o same forced)
    ];
    fits = joined_fits;
    few = λ w q o there is forced. elim (Contains-push_cases done' (v, p) (w, q) there) [
      | inl earlier ↦ asks.few w q o (quiet w q earlier is) is forced
      | inr same ↦ more.few o (moved w q o same forced)
    ];
  }
    where
      moved : (w q : ℕ) (o : List Item) → same_pair v p w q → Forced game cut pattern (at_vertex s w) (beginning (inside q)) o → Forced game cut pattern (at_vertex s v) (beginning (inside p)) o
      moved w q o same forced = subst (λ (x : ℕ × ℕ). Forced game cut pattern (at_vertex s x.0) (beginning (inside x.1)) o) (sym same) forced

      here : (w q : ℕ) (o : List Item) → same_pair v p w q → Forced game cut pattern (at_vertex s w) (beginning (inside q)) o → Contains (map (λ o. pattern_at v p ∷ o) more.openings) (pattern_at w q ∷ o)
      here w q o same forced =
          subst (λ (x : ℕ × ℕ). Contains (map (λ (r : List Item). pattern_at v p ∷ r) more.openings) (pattern_at x.0 x.1 ∷ o)) same
          (Contains-map (λ (r : List Item). pattern_at v p ∷ r) more.openings o (more.all o (moved w q o same forced)))

      joined_fits : a + length (asks.openings ++ map (λ o. pattern_at v p ∷ o) more.openings) ≤ c
      joined_fits =
          let both = length-append asks.openings (map (λ (o : List Item). pattern_at v p ∷ o) more.openings) in
          let same = length-map more.openings (λ (o : List Item). pattern_at v p ∷ o) in
          omega (arith, both, same, asks.fits, more.fits)

  -- More is done, but at no pattern.
  pub asks_still : (cut : Bool) (s : AbstractState) (done done' : List (ℕ × ℕ)) (a b most : ℕ) → ((w q : ℕ) → Contains done' (w, q) → IsPatternAt game.rules q → Contains done (w, q)) → AsksForced game cut s done a b most → AsksForced game cut s done' a b most
  asks_still cut s done done' a b most quiet asks = record {
    openings = asks.openings;
    nothing = asks.nothing;
    all = λ v p o there is forced. asks.all v p o (quiet v p there is) is forced;
    fits = asks.fits;
    few = λ v p o there is forced. asks.few v p o (quiet v p there is) is forced;
  }

  -- In the end they are all that is forced of `reach`.
  pub asks_end : (cut : Bool) (s : AbstractState) (f : Start) (done : List (ℕ × ℕ)) (a b left most : ℕ) → ((v p : ℕ) → IsReached game s f v p → IsPatternAt game.rules p → Contains done (v, p)) → AsksForced game cut s done a b most → CountsForced game cut reach s f a b left most
  asks_end cut s f done a b left most met asks = record {
    openings = asks.openings;
    all = λ o forced. there o (forced_here game numbered cut s f o forced);
    fits = asks.fits;
    few = λ o forced. short o (forced_here game numbered cut s f o forced);
  }
    where
      there : (o : List Item) → IsForcedHere game cut s f o → Contains asks.openings o
      there _ nothing = asks.nothing
      there _ (asked {v = v} {p = p} {o = o} reached is forced) = asks.all v p o (met v p reached is) is forced

      short : (o : List Item) → IsForcedHere game cut s f o → HasFewInRow left most o
      short _ nothing = tt
      short _ (asked {v = v} {p = p} {o = o} reached is forced) = asks.few v p o (met v p reached is) is forced

  -- ---- after the modifiers that come next

  pub takes_none : (cut : Bool) (question : Question) (s : AbstractState) (a b left most : ℕ) → a ≤ b → TakesAfter game cut question s [] a b left most
  takes_none cut question s a b left most grows = record {
    openings = [];
    all = λ v p later o there plain applies forced. absurd (nothing_in (v, p) there);
    fits = omega (arith, grows);
    few = λ v p later o there plain applies forced. absurd (nothing_in (v, p) there);
  }

  -- One more modifier was taken, and the question was asked after it.
  pub takes_more : (cut : Bool) (question : Question) (s : AbstractState) (done : List (ℕ × ℕ)) (v p : ℕ) (later : AbstractState) (a b c left most : ℕ) → Applies game p (at_vertex s v) later → 1 < left → TakesAfter game cut question s done a b left most → CountsForced game cut question later (after p) b c (left - 1) most → TakesAfter game cut question s (done ++ (v, p) ∷ []) a c left most
  takes_more cut question s done v p later a b c left most applies more_left takes more = record {
    openings = takes.openings ++ map (λ o. modifier_at v p ∷ o) more.openings;
    all = λ w q later' o there plain applied forced. elim (Contains-push_cases done (v, p) (w, q) there) [
      | inl earlier ↦ Contains-append_left takes.openings (map (λ o. modifier_at v p ∷ o) more.openings) (modifier_at w q ∷ o) (takes.all w q later' o earlier plain applied forced)
      | inr same ↦ Contains-append_right takes.openings (map (λ o. modifier_at v p ∷ o) more.openings) (modifier_at w q ∷ o) (here_it w q later' o same applied forced)
    ];
    fits = joined_fits;
    few = λ w q later' o there plain applied forced. elim (Contains-push_cases done (v, p) (w, q) there) [
      | inl earlier ↦ takes.few w q later' o earlier plain applied forced
      | inr same ↦ (more_left, more.few o (moved w q later' o same applied forced))
    ];
  }
    where
      moved : (w q : ℕ) (later' : AbstractState) (o : List Item) → same_pair v p w q → Applies game q (at_vertex s w) later' → Forced game cut question later' (after q) o → Forced game cut question later (after p) o
      moved w q later' o same applied forced =
          let applied' : Applies game p (at_vertex s v) later' = subst (λ (x : ℕ × ℕ). Applies game x.1 (at_vertex s x.0) later') (sym same) applied in
          let one : later' ≡ later = Applies_one game numbered p applied' applies in
          let forced' : Forced game cut question later' (after p) o = subst (λ (x : ℕ × ℕ). Forced game cut question later' (after x.1) o) (sym same) forced in
          subst (λ (u : AbstractState). Forced game cut question u (after p) o) one forced'

      here_it : (w q : ℕ) (later' : AbstractState) (o : List Item) → same_pair v p w q → Applies game q (at_vertex s w) later' → Forced game cut question later' (after q) o → Contains (map (λ o. modifier_at v p ∷ o) more.openings) (modifier_at w q ∷ o)
      here_it w q later' o same applied forced =
          subst (λ (x : ℕ × ℕ). Contains (map (λ (r : List Item). modifier_at v p ∷ r) more.openings) (modifier_at x.0 x.1 ∷ o)) same
          (Contains-map (λ (r : List Item). modifier_at v p ∷ r) more.openings o (more.all o (moved w q later' o same applied forced)))

      joined_fits : a + length (takes.openings ++ map (λ o. modifier_at v p ∷ o) more.openings) ≤ c
      joined_fits =
          let both = length-append takes.openings (map (λ (o : List Item). modifier_at v p ∷ o) more.openings) in
          let same = length-map more.openings (λ (o : List Item). modifier_at v p ∷ o) in
          omega (arith, both, same, takes.fits, more.fits)

  -- The same where the modifiers that are done are the first ones of a list.
  pub takes_on : (cut : Bool) (question : Question) (s : AbstractState) (xs : List (ℕ × ℕ)) (k : ℕ) (d : ℕ × ℕ) (later : AbstractState) (a b c left most : ℕ) → k < length xs → Applies game (get_or xs k d).1 (at_vertex s (get_or xs k d).0) later → 1 < left → TakesAfter game cut question s (take k xs) a b left most → CountsForced game cut question later (after (get_or xs k d).1) b c (left - 1) most → TakesAfter game cut question s (take (k + 1) xs) a c left most
  takes_on cut question s xs k d later a b c left most under applies more_left takes more =
      let x : ℕ × ℕ = get_or xs k d in
      subst (λ (done : List (ℕ × ℕ)). TakesAfter game cut question s done a c left most) (sym (take_more xs k d under))
      (takes_more cut question s (take k xs) x.0 x.1 later a b c left most applies more_left takes more)

  -- ---- a question, from its flat part and what is after it

  -- Where nothing is forced but with no modifier, what `reach` takes is all.
  pub forced_at_once : (cut : Bool) (question : Question) (s : AbstractState) (f : Start) (a b c left most : ℕ) → ((o : List Item) → Forced game cut question s f o → Forced game cut reach s f o) → b ≤ c → CountsForced game cut reach s f a b left most → CountsForced game cut question s f a c left most
  forced_at_once cut question s f a b c left most only grows counts = record {
    openings = counts.openings;
    all = λ o forced. counts.all o (only o forced);
    fits = omega (arith, counts.fits, grows);
    few = λ o forced. counts.few o (only o forced);
  }

  pub forced_after : (cut : Bool) (question question' : Question) (s : AbstractState) (f : Start) (pairs : List (ℕ × ℕ)) (a b c left most : ℕ) → ForcesOn game cut question question' s f → ((v p : ℕ) (ps : List (ℕ × ℕ)) → IsNext game s f v p → ¬ IsSwitchAt game.rules p → GoesTo game question s f ((v, p) ∷ ps) → Contains pairs (v, p)) → CountsForced game cut reach s f a b left most → TakesAfter game cut question' s pairs b c left most → CountsForced game cut question s f a c left most
  forced_after cut question question' s f pairs a b c left most onward among counts takes = record {
    openings = counts.openings ++ takes.openings;
    all = λ o forced. there o (forced_by cut question question' s f onward o forced);
    fits = joined_fits;
    few = λ o forced. short o (forced_by cut question question' s f onward o forced);
  }
    where
      there : (o : List Item) → IsForcedBy game cut question question' s f o → Contains (counts.openings ++ takes.openings) o
      there o (here forced) = Contains-append_left counts.openings takes.openings o (counts.all o forced)
      there _ (further {v = v} {p = p} {o = o} later next applies plain ps goes forced) =
          Contains-append_right counts.openings takes.openings (modifier_at v p ∷ o) (takes.all v p later o (among v p ps next plain goes) plain applies forced)

      short : (o : List Item) → IsForcedBy game cut question question' s f o → HasFewInRow left most o
      short o (here forced) = counts.few o forced
      short _ (further {v = v} {p = p} {o = o} later next applies plain ps goes forced) = takes.few v p later o (among v p ps next plain goes) plain applies forced

      joined_fits : a + length (counts.openings ++ takes.openings) ≤ c
      joined_fits =
          let both = length-append counts.openings takes.openings in
          omega (arith, both, counts.fits, takes.fits)

  -- ---- a pattern's question

  -- Where some word runs, nothing is forced after a modifier.
  pub answered_at_once : (cut : Bool) (s : AbstractState) (f : Start) → SomeWordRuns game s f → (o : List Item) → Forced game cut pattern s f o → Forced game cut reach s f o
  answered_at_once cut s f runs o (at on goes (inl none)) = at on none tt
  answered_at_once cut s f runs o (at on goes (inr never)) = absurd (never runs)
  answered_at_once cut s f runs o (beyond on goes (inl none) follows is inner) = beyond on none tt follows is inner
  answered_at_once cut s f runs o (beyond on goes (inr never) follows is inner) = absurd (never runs)

  no_word_after : (s : AbstractState) (f : Start) (v p : ℕ) (later : AbstractState) → IsNext game s f v p → Applies game p (at_vertex s v) later → ¬ SomeWordRuns game s f → ¬ SomeWordRuns game later (after p)
  no_word_after s f v p later next applies never runs =
      let is = next_found game numbered s f v p next in
      never (after_runs game numbered s f (record {
        vertex = v;
        position = p;
        found = record { later = later; reached = is.reached; modifies = is.modifies; applies = applies };
        runs = runs;
      }))

  -- Where none runs, none runs after a modifier, and there too all is forced.
  pub pattern_forces : (cut : Bool) (s : AbstractState) (f : Start) → ¬ SomeWordRuns game s f → ForcesOn game cut pattern pattern s f
  pattern_forces cut s f never = λ v p later ps next applies plain goes forced.
      let none : ¬ SomeWordRuns game later (after p) = no_word_after s f v p later next applies never in (
        (λ qs prefix (m, t, on, ends). none (record { word = m; end = t; pairs = qs; ends = ends; runs = on.runs })),
        inr none,
      )

  -- A pattern's question where its flat part answers, or some word runs after it.
  pub word_forced : (cut : Bool) (s : AbstractState) (f : Start) (a b c left most : ℕ) → SomeWordRuns game s f → b ≤ c → CountsForced game cut reach s f a b left most → CountsForced game cut pattern s f a c left most
  word_forced cut s f a b c left most runs grows counts = forced_at_once cut pattern s f a b c left most (answered_at_once cut s f runs) grows counts

  -- .. and where none runs.
  pub no_word_forced : (cut : Bool) (s : AbstractState) (f : Start) (pairs : List (ℕ × ℕ)) (ends : Bool) (a b c left most : ℕ) → ¬ SomeWordRuns game s f → IsFlatPart game s f pairs ends → CountsForced game cut reach s f a b left most → TakesAfter game cut pattern s pairs b c left most → CountsForced game cut pattern s f a c left most
  no_word_forced cut s f pairs ends a b c left most never part counts takes =
      forced_after cut pattern pattern s f pairs a b c left most (pattern_forces cut s f never) (λ v p ps next plain goes. (part.next v p).1 next) counts takes
