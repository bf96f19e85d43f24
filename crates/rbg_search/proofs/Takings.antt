-- What a search counts of pairs: those of a flat part, and those of parts that are joined.
use Rattle.rbg_base.proofs.Common.{◌≡◌, ◌≢◌, ℕ, ◌+◌, ◌*◌, ◌≤◌, inl, inr, List, [], ◌∷◌, ◌++◌, length, Bool, true, false, refl, sym, ap, ◌∙◌, subst, arith, Result, Ok, Err, IsOk, IsErrAnd, OnErr, All, AllPairs, Contains, sum, mul-le, sum_by-append, sum_by-le, All-nil, All-push, All-append, All-weaker, All-contains}
use Rattle.std.proofs.lemmas.List.{length-append}
use Rattle.rbg_rules.specs.Meaning.{shift, Expression, IsNumbered, IsModifierAt, IsPatternAt, is_modifier, inside, Start, beginning, after, Follows, AbstractGame, AbstractState, Question, reach, pattern}
use Rattle.rbg_rules.proofs.PositionLemmas.{one_action_at}
use Rattle.rbg_shifts.specs.Leaps.{IsShiftAt, stay}
use Rattle.rbg_flat.proofs.Common.{Way, leaping, stepping, IsFirstLead, IsOfPart, MayCome, IsCandidate, HasCandidates, HasPairs, CountsMet, IsMarked}
use Rattle.rbg_flat.specs.declared.flat.Flat.{Flat as SetFlat}
use Rattle.rbg_flat.proofs.ChainLemmas.{part_of}
use Rattle.rbg_search.proofs.Common.{Passes, trying, finding, listing, asking, GoesOn, ComesTo, begins, by_pattern, by_modifier, HasMet, HasPart, CountsTaken, most_candidates, Over, Memory, IsSpent, IsSpentButOne, AreMany, IsBegunBySets}
use Rattle.rbg_search.proofs.Along.{at_vertex, IsReached, first as comes_first, IsMetPart, IsPart, CountsPlain, HasPlain}
use Rattle.rbg_search.proofs.Closures.{reached, by_words}
use Rattle.rbg_search.proofs.Glances.{no_pattern}
use Rattle.rbg_search.proofs.Parts.{all_met}

-- ---- which result is an answer

pub not_ok : {X : Type 0} (r : Result X Over) (e : Over) → IsErrAnd r (λ y. y ≡ e) → ¬ IsOk r
not_ok (Ok x) e is ok = absurd is
not_ok (Err y) e is ok = cc

pub is_answer : {X E : Type 0} (r : Result X E) (x : X) → r ≡ Ok x → IsOk r
is_answer (Ok y) x is = refl
is_answer (Err e) x is = cc

-- .. and which is no want of memory

err_same : {X : Type 0} (e e' : Over) → (let r : Result X Over = Err e in r ≡ Err e') → e ≡ e'
err_same e e' is = cc

pub held_on : {X Y : Type 0} (callee : Result X Over) (r : Result Y Over) (e : Over) → callee ≡ Err e → IsErrAnd r (λ y. y ≡ e) → ¬ (r ≡ Err Memory) → ¬ (callee ≡ Err Memory)
held_on {X = X} callee (Ok y) e was gives held lost = absurd gives
held_on {X = X} callee (Err y) e was gives held lost =
    let same : e ≡ Memory = err_same {X = X} e Memory (sym was ∙ lost) in
    held (ap Err (gives ∙ same))

pub ok_held : {X : Type 0} (r : Result X Over) (x : X) → r ≡ Ok x → ¬ (r ≡ Err Memory)
ok_held (Ok y) x is lost = cc
ok_held (Err e) x is lost = cc

pub not_held : {X : Type 0} (r : Result X Over) (e : Over) → IsErrAnd r (λ y. y ≡ e) → e ≡ Memory → ¬ (¬ (r ≡ Err Memory))
not_held (Ok x) e is same held = absurd is
not_held (Err y) e is same held = held (ap Err (is ∙ same))

-- What is so is so of an error.
pub on_err : {X E : Type 0} (r : Result X E) (P : Type 0) → P → OnErr r P
on_err (Ok x) P is = tt
on_err (Err e) P is = is

-- ---- the pairs of one flat part

pub is_candidate : (game : AbstractGame) → IsNumbered game.rules → (s : AbstractState) (f : Start) (v p : ℕ) → IsReached game s f v p → ¬ IsShiftAt game.rules p → IsCandidate game s f v p
is_candidate game numbered s f v p is plain =
    let words = by_words game numbered s f v p is in
    record { before = words.before; here = at_vertex s v; no_modifier = words.no_modifier; runs = words.runs; vertex = refl; follows = words.follows; plain = plain }

pub is_reached : (game : AbstractGame) → IsNumbered game.rules → (s : AbstractState) (f : Start) (v p : ℕ) → IsCandidate game s f v p → IsReached game s f v p
is_reached game numbered s f v p may = subst (λ (u : ℕ). IsReached game s f u p) may.vertex (reached game numbered s may.here f may.before p may.no_modifier may.runs may.follows)

-- No shift stands where a pattern does.
pub no_shift : (rules : Expression) → IsNumbered rules → (p : ℕ) → IsPatternAt rules p → ¬ IsShiftAt rules p
no_shift rules numbered p stands other = no_pattern rules numbered p (shift other.direction) other.stands refl stands

-- .. nor where a modifier does.
pub no_modifier_shift : (rules : Expression) → IsNumbered rules → (p : ℕ) → IsModifierAt rules p → ¬ IsShiftAt rules p
no_modifier_shift rules numbered p m other = false_not_true (ap is_modifier (one_action_at rules numbered p (shift other.direction) m.action other.stands m.stands) ∙ m.modifies)
  where
    false_not_true : false ≡ true → ⊥
    false_not_true e = cc

-- All that is reached was met, and all that was met is reached.
pub reached_pairs : (game : AbstractGame) → IsNumbered game.rules → (s : AbstractState) (f : Start) (pairs : List (ℕ × ℕ)) (many : ℕ) → All (λ q. IsReached game s f q.0 q.1) pairs → ((v p : ℕ) → IsReached game s f v p → Contains pairs (v, p)) → HasPlain game.rules pairs many → HasCandidates game s f many
reached_pairs game numbered s f pairs many sound met has = record {
  pairs = has.plain;
  all = λ v p. (
    (λ there. let both = (has.all v p).0 there in is_candidate game numbered s f v p (All-contains (λ q. IsReached game s f q.0 q.1) pairs (v, p) sound both.0) both.1),
    (λ may. (has.all v p).1 (met v p (is_reached game numbered s f v p may), may.plain)),
  );
  different = has.different;
  count = has.count;
}

pub part_pairs : (game : AbstractGame) → IsNumbered game.rules → (s : AbstractState) (f : Start) (pairs found : List (ℕ × ℕ)) (ends : Bool) (many : ℕ) → IsPart game s f pairs pairs found ends → HasPlain game.rules pairs many → HasCandidates game s f many
part_pairs game numbered s f pairs found ends many part has = reached_pairs game numbered s f pairs many part.sound (all_met game s f numbered pairs found ends part) has

-- ---- what may come next, and what was met

pub may_come : (game : AbstractGame) → IsNumbered game.rules → (s : AbstractState) (f : Start) (v p : ℕ) → IsReached game s f v p → MayCome game s f v p
may_come game numbered s f v p is =
    let words = by_words game numbered s f v p is in
    record { before = words.before; here = at_vertex s v; no_modifier = words.no_modifier; runs = words.runs; vertex = refl; follows = words.follows }

comes_reached : (game : AbstractGame) → IsNumbered game.rules → (s : AbstractState) (f : Start) (v p : ℕ) → MayCome game s f v p → IsReached game s f v p
comes_reached game numbered s f v p may = subst (λ (u : ℕ). IsReached game s f u p) may.vertex (reached game numbered s may.here f may.before p may.no_modifier may.runs may.follows)

candidate_comes : (game : AbstractGame) (s : AbstractState) (f : Start) (v p : ℕ) → IsCandidate game s f v p → MayCome game s f v p
candidate_comes game s f v p may = record { before = may.before; here = may.here; no_modifier = may.no_modifier; runs = may.runs; vertex = may.vertex; follows = may.follows }

-- All candidates.
pub candidates_met : (game : AbstractGame) → IsNumbered game.rules → (s : AbstractState) (f : Start) (A H : Type 0) (many : ℕ) → HasCandidates game s f many → many ≤ most_candidates game → HasMet game s f A H many
candidates_met game numbered s f A H many has few = record {
  pairs = has.pairs;
  met = λ v p there. candidate_comes game s f v p ((has.all v p).0 there);
  different = has.different;
  count = has.count;
  few = few;
  begun = λ _ p follows plain. (has.all s.vertex p).1 (is_candidate game numbered s f s.vertex p (comes_first refl follows) plain);
  whole = λ _. record {
    all = λ v p may. (has.all v p).1 may;
    shifts = inl (λ v p there. ((has.all v p).0 there).plain);
  };
}

-- All that a flat part has that is led on so.
pub pairs_met : (way : Way) (game : AbstractGame) → IsNumbered game.rules → (s : AbstractState) (f : Start) (A H : Type 0) (many : ℕ) → HasPairs way game s f many → many ≤ most_candidates game → HasMet game s f A H many
pairs_met leaping game numbered s f A H many has few = candidates_met game numbered s f A H many has few
pairs_met stepping game numbered s f A H many has few = record {
  pairs = has.pairs;
  met = λ v p there. (has.all v p).0 there;
  different = has.different;
  count = has.count;
  few = few;
  begun = λ _ p follows plain. (has.all s.vertex p).1 (may_come game numbered s f s.vertex p (comes_first refl follows));
  whole = λ _. record {
    all = λ v p may. (has.all v p).1 (candidate_comes game s f v p may);
    shifts = inr (λ v p may. (has.all v p).1 may);
  };
}

part_comes : (way : Way) (game : AbstractGame) (s : AbstractState) (f : Start) (v p : ℕ) → IsOfPart way game s f v p → MayCome game s f v p
part_comes leaping game s f v p is = candidate_comes game s f v p is
part_comes stepping game s f v p is = is

first_lead : (way : Way) (game : AbstractGame) (f : Start) (v p : ℕ) → Follows game.rules f (p ∷ []) → ¬ IsShiftAt game.rules p → IsFirstLead way game f v p v
first_lead leaping game f v p follows plain = record { shifts = []; leads = stay; follows = follows; plain = plain }
first_lead stepping game f v p follows plain = (refl, follows)

-- What a queue has met, which is all that is reached where the question was answered.
pub reached_met : (game : AbstractGame) → IsNumbered game.rules → (s : AbstractState) (f : Start) (A H : Type 0) (pairs : List (ℕ × ℕ)) (many : ℕ) → IsMetPart game s f pairs → AreMany pairs many → many ≤ most_candidates game → (A → (v p : ℕ) → IsReached game s f v p → Contains pairs (v, p)) → HasMet game s f A H many
reached_met game numbered s f A H pairs many is are few all = record {
  pairs = pairs;
  met = λ v p there. may_come game numbered s f v p (All-contains (λ q. IsReached game s f q.0 q.1) pairs (v, p) is.sound there);
  different = are.different;
  count = sym are.count;
  few = few;
  begun = λ _ p follows _. is.begun p follows;
  whole = λ answered. record {
    all = λ v p may. all answered v p (is_reached game numbered s f v p may);
    shifts = inr (λ v p may. all answered v p (comes_reached game numbered s f v p may));
  };
}

-- What sets have met so far.
pub marked_met : (way : Way) (game : AbstractGame) → IsNumbered game.rules → (s : AbstractState) (f : Start) (A H : Type 0) (flat : SetFlat) (many : ℕ) → IsBegunBySets way game s f flat → CountsMet (IsMarked flat.sets) many → many ≤ most_candidates game → ¬ A → HasMet game s f A H many
marked_met way game numbered s f A H flat many is has few none = record {
  pairs = has.pairs;
  met = λ v p there. part_comes way game s f v p (part_of way game numbered s f v p (is.begun.sound v p ((has.all (v, p)).0 there)));
  different = has.different;
  count = has.count;
  few = few;
  begun = λ _ p follows plain. (has.all (s.vertex, p)).1 (is.begun.begun s.vertex p (first_lead way game f s.vertex p follows plain));
  whole = λ answered. absurd (none answered);
}

nothing_in : (x : ℕ × ℕ) → ¬ Contains [] x
nothing_in x (k, under, there) = absurd (omega (arith, under))

-- There was no memory to begin.
pub nothing_met : (game : AbstractGame) (s : AbstractState) (f : Start) (A H : Type 0) → ¬ A → ¬ H → HasMet game s f A H 0
nothing_met game s f A H none lost = record {
  pairs = [];
  met = λ v p there. absurd (nothing_in (v, p) there);
  different = λ i j d less within. absurd (omega (arith, less, within));
  count = refl;
  few = omega arith;
  begun = λ held p follows plain. absurd (lost held);
  whole = λ answered. absurd (none answered);
}

-- A scan has met all that is reached, and counts its shifts or leaves them out.
pub scanned_met : (game : AbstractGame) → IsNumbered game.rules → (s : AbstractState) (f : Start) (pairs : List (ℕ × ℕ)) (shifts : Bool) (many : ℕ) → IsMetPart game s f pairs → AllPairs (λ a b. a ≢ b) pairs → ((v p : ℕ) → IsReached game s f v p → Contains pairs (v, p)) → CountsPlain shifts game.rules pairs many → many ≤ most_candidates game → HasMet game s f (Unit {0}) (Unit {0}) many
scanned_met game numbered s f pairs true many is different all has few = reached_met game numbered s f (Unit {0}) (Unit {0}) pairs many is (record { different = different; count = sym has }) few (λ _. all)
scanned_met game numbered s f pairs false many is different all has few = candidates_met game numbered s f (Unit {0}) (Unit {0}) many (reached_pairs game numbered s f pairs many is.sound all has) few

pub met_as : {A H A' H' : Type 0} (game : AbstractGame) (s : AbstractState) (f : Start) (many : ℕ) → (A' → A) → (H' → H) → HasMet game s f A H many → HasMet game s f A' H' many
met_as game s f many weaker other has = record {
  pairs = has.pairs;
  met = has.met;
  different = has.different;
  count = has.count;
  few = has.few;
  begun = λ held. has.begun (other held);
  whole = λ answered. has.whole (weaker answered);
}

-- ---- where a question comes to a flat part

-- What `reach` comes to, every question does.
any_comes : (game : AbstractGame) (t : AbstractState) (g : Start) (question question' : Question) (s : AbstractState) (f : Start) → question ≡ reach → ComesTo game t g question s f → ComesTo game t g question' s f
any_comes game t g question question' s f is begins = begins
any_comes game t g question question' s f is (by_pattern may there comes) = by_pattern may there comes
any_comes game t g question question' s f is (by_modifier on comes) = absurd (none (on.passes) is)
  where
    none : {game : AbstractGame} {s : AbstractState} {f : Start} {v p : ℕ} {q q' : Question} → Passes game s f v p q q' → q ≡ reach → ⊥
    none trying e = cc
    none (finding quiet) e = cc
    none listing e = cc
    none (asking quiet) e = cc

pub any_part : {A H : Type 0} (game : AbstractGame) (question : Question) (s : AbstractState) (f : Start) (many : ℕ) → HasPart game reach s f A H many → HasPart game question s f A H many
any_part game question s f many part = record {
  state = part.state;
  start = part.start;
  comes = any_comes game part.state part.start reach question s f refl part.comes;
  has = part.has;
}

pub pattern_part : {A H : Type 0} (game : AbstractGame) (question : Question) (s : AbstractState) (f : Start) (v p : ℕ) → IsCandidate game s f v p → IsPatternAt game.rules p → (many : ℕ) → HasPart game pattern (at_vertex s v) (beginning (inside p)) A H many → HasPart game question s f A H many
pattern_part game question s f v p may there many part = record { state = part.state; start = part.start; comes = by_pattern may there part.comes; has = part.has }

pub after_part : {A H : Type 0} (game : AbstractGame) (question question' : Question) (s later : AbstractState) (f : Start) (v p : ℕ) → GoesOn game question s f v p question' later → (many : ℕ) → HasPart game question' later (after p) A H many → HasPart game question s f A H many
after_part game question question' s later f v p on many part = record { state = part.state; start = part.start; comes = by_modifier on part.comes; has = part.has }

pub own_part : {A H : Type 0} (game : AbstractGame) (question : Question) (s : AbstractState) (f : Start) (many : ℕ) → HasMet game s f A H many → HasPart game question s f A H many
own_part game question s f many has = record { state = s; start = f; comes = begins; has = has }

part_as : {A H A' H' : Type 0} (game : AbstractGame) (question : Question) (s : AbstractState) (f : Start) → (A' → A) → (H' → H) → (many : ℕ) → HasPart game question s f A H many → HasPart game question s f A' H' many
part_as game question s f weaker other many part = record { state = part.state; start = part.start; comes = part.comes; has = met_as game part.state part.start many weaker other part.has }

-- ---- counts

module _ (game : AbstractGame) (question : Question) (s : AbstractState) (f : Start) where
  pub takes_none_yet : {H : Type 0} (a b t u : ℕ) (Answered : Type 0) → a ≡ b → u ≡ t → CountsTaken game question s f a b t u Answered H
  takes_none_yet {H = H} a b t u Answered grows same = record {
    parts = [];
    found = All-nil (HasPart game question s f Answered H);
    total = omega (arith, same);
    each = omega (arith, grows);
  }

  -- What was opened first is counted last.
  pub takes_own : {H : Type 0} (a b t u w n : ℕ) (Answered : Type 0) → CountsTaken game question s f (a + 1) b t u Answered H → HasPart game question s f Answered H n → w ≡ u + n → CountsTaken game question s f a b t w Answered H
  takes_own {H = H} a b t u w n Answered counts part more =
      let long : length (counts.parts ++ n ∷ []) ≡ length counts.parts + 1 = length-append counts.parts (n ∷ []) in
      let sums : sum (counts.parts ++ n ∷ []) ≡ sum counts.parts + (0 + n) = sum_by-append (λ (x : ℕ). x) counts.parts (n ∷ []) in
      record {
        parts = counts.parts ++ n ∷ [];
        found = All-push (HasPart game question s f Answered H) counts.parts n counts.found part;
        total = omega (arith, counts.total, more, sums);
        each = omega (arith, counts.each, long);
      }

  pub takes_as : {H H' : Type 0} (a b t u : ℕ) (A Answered : Type 0) → CountsTaken game question s f a b t u A H → (Answered → A) → (H' → H) → CountsTaken game question s f a b t u Answered H'
  takes_as {H = H} {H' = H'} a b t u A Answered counts weaker other = record {
    parts = counts.parts;
    found = All-weaker (HasPart game question s f A H) (HasPart game question s f Answered H') (part_as game question s f weaker other) counts.parts counts.found;
    total = counts.total;
    each = counts.each;
  }

  pub takes_then : {H : Type 0} (a b c t u w : ℕ) (Answered : Type 0) → CountsTaken game question s f a b t u (Unit {0}) (Unit {0}) → CountsTaken game question s f b c u w Answered H → CountsTaken game question s f a c t w Answered H
  takes_then {H = H} a b c t u w Answered first second =
      let before : CountsTaken game question s f a b t u Answered H = takes_as a b t u (Unit {0}) Answered first (λ _. tt) (λ _. tt) in
      let long : length (before.parts ++ second.parts) ≡ length before.parts + length second.parts = length-append before.parts second.parts in
      let sums : sum (before.parts ++ second.parts) ≡ sum before.parts + sum second.parts = sum_by-append (λ (x : ℕ). x) before.parts second.parts in
      record {
        parts = before.parts ++ second.parts;
        found = All-append (HasPart game question s f Answered H) before.parts second.parts before.found second.found;
        total = omega (arith, before.total, second.total, sums);
        each = omega (arith, before.each, second.each, long);
      }

  pub takes_part_of : {H : Type 0} (question' : Question) (s' : AbstractState) (f' : Start) (a b t u : ℕ) (A : Type 0) → ((n : ℕ) → HasPart game question' s' f' A H n → HasPart game question s f A H n) → CountsTaken game question' s' f' a b t u A H → CountsTaken game question s f a b t u A H
  takes_part_of {H = H} question' s' f' a b t u A lifted counts = record {
    parts = counts.parts;
    found = All-weaker (HasPart game question' s' f' A H) (HasPart game question s f A H) lifted counts.parts counts.found;
    total = counts.total;
    each = counts.each;
  }

  -- Beside what was taken there is room for the part that was opened first.
  pub room_for_own : {H : Type 0} (a b t u : ℕ) (A : Type 0) → IsSpent game a t → CountsTaken game question s f (a + 1) b t u A H → IsSpentButOne game b u
  room_for_own {H = H} a b t u A spent counts =
      let m : ℕ = most_candidates game in
      let k : ℕ = length counts.parts in
      let sums : sum counts.parts ≤ k * m = sum_by-le (λ (x : ℕ). x) m counts.parts (All-weaker (HasPart game question s f A H) (λ (n : ℕ). n ≤ m) (λ n part. part.has.few) counts.parts counts.found) in
      let times : (a + 1 + k) * m ≡ a * m + m + k * m = grind arith in
      let longer : (a + 1 + k) * m ≤ b * m = mul-le (a + 1 + k) m b m (omega (arith, counts.each)) (omega arith) in
      record { few = omega (arith, counts.total, sums, times, longer, spent.few) }
