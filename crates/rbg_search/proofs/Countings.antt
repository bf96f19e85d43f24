-- What a flat part counts: its own opening, and those of its patterns' questions.
use Rattle.rbg_base.proofs.Common.{◌≡◌, ◌≢◌, ℕ, zero, suc, ◌+◌, ◌≤◌, List, [], ◌∷◌, ◌++◌, refl, sym, subst, arith, Contains, All-nil, All-cons, All-contains, Contains-append_left, Contains-push}
use Rattle.std.proofs.lemmas.List.Kept.{AllPairs-cons}
use Rattle.rbg_rules.specs.Meaning.{IsNumbered, IsPatternAt, inside, Start, beginning, after, AbstractGame, AbstractState, Applies, IsGame, Question, try_move, reach, pattern, Item, modifier_at, pattern_at, items_of, Opening, HasOpenings, IsDeep, IsStart}
use Rattle.rbg_rules.proofs.TrimLemmas.{empty_opening_law}
use Rattle.rbg_search.proofs.Along.{IsNext, at_vertex, IsReached}
use Rattle.rbg_search.proofs.Common.{CountsOpenings, IsOverBudget, asking, GoesOn, IsTooDeep, from_here, StandsInPattern, BeginsAsked, CountsAsked, GoesAfter}
use Rattle.rbg_search.proofs.Openings.{in_pattern}
use Rattle.rbg_search.proofs.Counts.{counts_such, joined, over_such, weaker}
use Rattle.rbg_search.proofs.CallerLemmas.{no_end_found, row_none, row_one}
use Rattle.rbg_search.proofs.Patterns.{inside_onward, inside_plain}

pattern_pairs : pattern ≢ try_move []
pattern_pairs e = cc

pub reach_pairs : reach ≢ try_move []
reach_pairs e = cc

asked_more_pairs : (done done' : List (ℕ × ℕ)) → ((x : ℕ × ℕ) → Contains done x → Contains done' x) → (o : List Item) → BeginsAsked done o → BeginsAsked done' o
asked_more_pairs done done' more [] begins = tt
asked_more_pairs done done' more (modifier_at v p ∷ o) begins = tt
asked_more_pairs done done' more (pattern_at v p ∷ o) begins = more (v, p) begins

module _ (game : AbstractGame) where
  -- The empty list is an opening.
  pub empty_opens : IsGame game → (question : Question) → question ≢ try_move [] → (s : AbstractState) (f : Start) → IsStart game.rules f → Opening game question s f []
  empty_opens lawful question other s f start = empty_opening_law game lawful.no_empty_sum f start question other s

  pub none_counted : (question : Question) (s : AbstractState) (f : Start) (old new : ℕ) → new ≡ old → CountsOpenings game question s f old new
  none_counted question s f old new same = record {
    added = 0;
    sum = omega (arith, same);
    openings = record { openings = []; different = λ i j d less within. absurd (omega (arith, within)); opened = All-nil (Opening game question s f); count = refl };
  }

  -- Where the flat part begins, one opening is counted.
  pub asked_begin : IsGame game → (s : AbstractState) (f : Start) → IsStart game.rules f → (done : List (ℕ × ℕ)) (old new : ℕ) → new ≡ old + 1 → CountsAsked game s f done old new
  asked_begin lawful s f start done old new same = record {
    openings = [] ∷ [];
    different = AllPairs-cons (λ o o'. o ≢ o') [] [] (All-nil (λ o'. [] ≢ o')) (λ i j d less within. absurd (omega (arith, within)));
    opened = All-cons (Opening game reach s f) [] [] (empty_opens lawful reach reach_pairs s f start) (All-nil (Opening game reach s f));
    begin = All-cons (BeginsAsked done) [] [] tt (All-nil (BeginsAsked done));
    sum = omega (arith, same);
  }

  pub asked_weaker : (s : AbstractState) (f : Start) (done done' : List (ℕ × ℕ)) (old new : ℕ) → ((x : ℕ × ℕ) → Contains done x → Contains done' x) → CountsAsked game s f done old new → CountsAsked game s f done' old new
  asked_weaker s f done done' old new more counts = weaker counts done' (asked_more_pairs done done' more)

  -- In the end they are openings of `reach`.
  pub asked_end : (s : AbstractState) (f : Start) (done : List (ℕ × ℕ)) (old new : ℕ) → CountsAsked game s f done old new → CountsOpenings game reach s f old new
  asked_end s f done old new counts = counts_such counts

  -- One more pattern is asked.
  pub asked_joined : (numbered : IsNumbered game.rules) (s : AbstractState) (f : Start) (v p : ℕ) → IsReached game s f v p → IsPatternAt game.rules p → (done : List (ℕ × ℕ)) (a b n : ℕ) → CountsAsked game s f done a b → ¬ Contains done (v, p) → HasOpenings game pattern (at_vertex s v) (beginning (inside p)) n → CountsAsked game s f (done ++ (v, p) ∷ []) a (b + n)
  asked_joined numbered s f v p reached is done a b n counts once has =
      joined BeginsAsked done (done ++ (v, p) ∷ []) (pattern_at v p)
      (in_pattern game numbered reach s f v p refl reached is)
      (λ o there. once there)
      (asked_more_pairs done (done ++ (v, p) ∷ []) (λ x there. Contains-append_left done ((v, p) ∷ []) x there))
      (λ o. Contains-push done (v, p)) a b n counts has

  pub asked_more : (numbered : IsNumbered game.rules) (s : AbstractState) (f : Start) (v p : ℕ) → IsReached game s f v p → IsPatternAt game.rules p → (done : List (ℕ × ℕ)) (a b c : ℕ) → CountsAsked game s f done a b → ¬ Contains done (v, p) → CountsOpenings game pattern (at_vertex s v) (beginning (inside p)) b c → CountsAsked game s f (done ++ (v, p) ∷ []) a c
  asked_more numbered s f v p reached is done a b c counts once more =
      subst (λ (x : ℕ). CountsAsked game s f (done ++ (v, p) ∷ []) a x) (sym more.sum) (asked_joined numbered s f v p reached is done a b more.added counts once more.openings)

  pub over_asked : (numbered : IsNumbered game.rules) (s : AbstractState) (f : Start) (v p : ℕ) → IsReached game s f v p → IsPatternAt game.rules p → (done : List (ℕ × ℕ)) (a b most : ℕ) → CountsAsked game s f done a b → ¬ Contains done (v, p) → IsOverBudget game pattern (at_vertex s v) (beginning (inside p)) b most → IsOverBudget game reach s f a most
  over_asked numbered s f v p reached is done a b most counts once over =
      over_such (asked_joined numbered s f v p reached is done a b over.added counts once over.openings) most over.more

  pub deep_asked : (numbered : IsNumbered game.rules) (s : AbstractState) (f : Start) (v p : ℕ) → IsReached game s f v p → IsPatternAt game.rules p → (most : ℕ) → IsDeep game pattern (at_vertex s v) (beginning (inside p)) most → IsDeep game reach s f most
  deep_asked numbered s f v p reached is most deep = record {
    before = pattern_at v p ∷ deep.before;
    row = deep.row;
    later = deep.later;
    opened = in_pattern game numbered reach s f v p refl reached is (deep.before ++ items_of deep.row ++ deep.later) deep.opened;
    count = deep.count;
  }

  -- ---- after the modifiers of a flat part in a pattern

  -- The question goes on after each of them.
  pub goes_after : (s later : AbstractState) (f : Start) (pairs : List (ℕ × ℕ)) → GoesAfter game s f pairs → (v p : ℕ) → Contains pairs (v, p) → Applies game p (at_vertex s v) later → GoesOn game pattern s f v p pattern later
  goes_after s later f pairs goes v p there applies =
      let next : IsNext game s f v p = All-contains (λ q. IsNext game s f q.0 q.1) pairs (v, p) goes.next there in
      let stays : StandsInPattern game.rules (after p) = inside_onward game.rules goes.lawful.numbered f goes.inside next.before p next.follows in
      record { next = next; applies = applies; plain = inside_plain game goes.lawful p stays; passes = asking (no_end_found game goes.lawful.numbered goes.no_end) }

  -- Where at most one modifier is left to take, one that comes next is one too many.
  pub one_too_deep : IsGame game → (s later : AbstractState) (f : Start) → IsStart game.rules f → (v p : ℕ) → GoesOn game pattern s f v p pattern later → (left most : ℕ) → left ≤ 1 → IsTooDeep game pattern s f left most
  one_too_deep lawful s later f start v p on zero most under = from_here (row_none game lawful.numbered lawful.no_empty_sum start pattern_pairs)
  one_too_deep lawful s later f start v p on (suc zero) most under = from_here (row_one game lawful.numbered lawful.no_empty_sum on pattern_pairs)
  one_too_deep lawful s later f start v p on (suc (suc left)) most under = absurd (omega (arith, under))
