-- How the legal moves of a place are gathered by their first pairs.
use Rattle.rbg_base.proofs.Common.{◌≡◌, ℕ, ◌+◌, ◌<◌, ◌≤◌, ◌⊎◌, List, [], ◌∷◌, ◌++◌, length, Bool, true, false, refl, sym, ap, ◌∙◌, subst, inl, inr, arith, ◌≢◌, All, AllPairs, Contains, ◌↔◌, length_push, All-contains, All-contains_itself, All-weaker, Contains-append_left, Contains-append_right, Contains-append_cases, Contains-push, Contains-push_cases, IsPermutation}
use Rattle.std.proofs.lemmas.List.Sorted.{IsPermutation-sym, Contains-permutation}
use Rattle.rbg_base.specs.Move.{most_pairs, IsMoveLength}
use Rattle.rbg_rules.specs.Meaning.{IsNumbered, IsSwitchAt, AbstractGame, AbstractState, Applies, AbstractPlace, point_of, Legal, IsLegal}
use Rattle.rbg_rules.proofs.MoveLemmas.{Applies_one}
use Rattle.rbg_search.specs.Flat.{IsNext, IsFlatPart}
use Rattle.rbg_moves.proofs.Once.{met_once}
use Rattle.rbg_search.proofs.Orders.{still_differ}
use Rattle.rbg_search.proofs.Turns.{turned, turn_under, turn_at, turn_front}
use Rattle.rbg_moves.specs.internal.Gathering.{Gathers, IsBeyond, IsLegalBy, IsSwitchAmong, IsSwitchOr, ListsSwitches}
use Rattle.rbg_moves.proofs.Gathering.{gathers_none, gathers_any, gathers_one, gathers_full, gathers_both, gathers_as, gathers_more}
use Rattle.rbg_moves.specs.internal.Stepping.{at_vertex, place_beyond}
use Rattle.rbg_search.proofs.Openings.{next_applies}
use Rattle.rbg_moves.proofs.Steps.{Onward, ended, going, legal_cut, legal_end, legal_on, legal_some}

no_pair : (q : ℕ × ℕ) → ¬ Contains [] q
no_pair q (k, under, _) = omega (arith, under)

-- The same lists begin with pairs that are taken in other words.
legal_as : (game : AbstractGame) (place : AbstractPlace) (P Q : ℕ × ℕ → Type 0) → ((q : ℕ × ℕ) → P q → Q q) → (ps : List (ℕ × ℕ)) → IsLegalBy game place P ps → IsLegalBy game place Q ps
legal_as game place P Q more [] h = absurd h.begins
legal_as game place P Q more (q ∷ qs) h = record { legal = h.legal; begins = more q h.begins }

-- A legal list that begins with a switch is its pair alone.
alone : (game : AbstractGame) → IsNumbered game.rules → (place : AbstractPlace) (q : ℕ × ℕ) (qs : List (ℕ × ℕ)) → IsLegal game place (q ∷ qs) → IsSwitchAt game.rules q.1 → qs ≡ []
alone game numbered place (v, p) qs (to, legal) switches =
    let cut = legal_cut game numbered place v p qs to legal in
    by_onward cut.onward
  where
    by_onward : {later : AbstractState} → Onward game later p qs to → qs ≡ []
    by_onward (ended _ empty _) = empty
    by_onward (going plain _) = absurd (plain switches)

-- A switch that comes next is a move.
switch_legal : (game : AbstractGame) → IsNumbered game.rules → (place : AbstractPlace) (q : ℕ × ℕ) → IsNext game place.state (point_of place.last) q.0 q.1 → IsSwitchAt game.rules q.1 → IsLegal game place (q ∷ [])
switch_legal game numbered place (v, p) next switches =
    (place_beyond next.later p, legal_end game numbered place v p next.later next switches (next_applies game numbered place.state (point_of place.last) v p next))

-- One more switch.
with_switch : (game : AbstractGame) → IsNumbered game.rules → (place : AbstractPlace) (pairs : List (ℕ × ℕ)) (ends : Bool) → IsFlatPart game place.state (point_of place.last) pairs ends → (done : List (ℕ × ℕ)) (q : ℕ × ℕ) → Contains pairs q → IsSwitchAt game.rules q.1 → (ps : List (ℕ × ℕ)) → (IsLegalBy game place (IsSwitchAmong game.rules done) ps ⊎ (ps ≡ q ∷ [])) ↔ IsLegalBy game place (IsSwitchAmong game.rules (done ++ q ∷ [])) ps
with_switch game numbered place pairs ends part done q there switches ps = (to, from ps)
  where
    one : IsLegalBy game place (IsSwitchAmong game.rules (done ++ q ∷ [])) (q ∷ [])
    one = record { legal = switch_legal game numbered place q ((part.next q.0 q.1).0 there) switches; begins = (switches, Contains-push done q) }

    to : IsLegalBy game place (IsSwitchAmong game.rules done) ps ⊎ (ps ≡ q ∷ []) → IsLegalBy game place (IsSwitchAmong game.rules (done ++ q ∷ [])) ps
    to (inl h) = legal_as game place (IsSwitchAmong game.rules done) (IsSwitchAmong game.rules (done ++ q ∷ [])) (λ x taken. (taken.0, Contains-append_left done (q ∷ []) x taken.1)) ps h
    to (inr same) = subst (IsLegalBy game place (IsSwitchAmong game.rules (done ++ q ∷ []))) (sym same) one

    from : (xs : List (ℕ × ℕ)) → IsLegalBy game place (IsSwitchAmong game.rules (done ++ q ∷ [])) xs → IsLegalBy game place (IsSwitchAmong game.rules done) xs ⊎ (xs ≡ q ∷ [])
    from [] h = absurd h.begins
    from (x ∷ xs) h = elim (Contains-push_cases done q x h.begins.1) [
      | inl before ↦ inl (record { legal = h.legal; begins = (h.begins.0, before) })
      | inr same ↦
          let back : x ≡ q = sym same in
          let empty : xs ≡ [] = alone game numbered place x xs h.legal h.begins.0 in
          inr (λ i. back i ∷ empty i)
    ]

-- Wherever the pairs are those that come next, the moves of the switches among those that are done were gathered.
abbrev Part : AbstractGame → AbstractPlace → List (ℕ × ℕ) → Bool → Type 0
Part game place pairs ends = IsFlatPart game place.state (point_of place.last) pairs ends

not_both : (game : AbstractGame) (place : AbstractPlace) (done : List (ℕ × ℕ)) (q : ℕ × ℕ) → ¬ Contains done q → (ps : List (ℕ × ℕ)) → IsLegalBy game place (IsSwitchAmong game.rules done) ps → ps ≡ q ∷ [] → ⊥
not_both game place done q new ps h same = new (subst (IsLegalBy game place (IsSwitchAmong game.rules done)) same h).begins.1

add_switch : (game : AbstractGame) → IsNumbered game.rules → (place : AbstractPlace) (pairs : List (ℕ × ℕ)) (ends : Bool) → Part game place pairs ends → (done : List (ℕ × ℕ)) (q : ℕ × ℕ) → Contains pairs q → ¬ Contains done q → IsSwitchAt game.rules q.1 → (front : List (ℕ × ℕ)) (max : ℕ) (old now : List (List (ℕ × ℕ))) (first : List (ℕ × ℕ)) → length now < max → Gathers (IsLegalBy game place (IsSwitchAmong game.rules done)) front max old now first false → Gathers (IsLegalBy game place (IsSwitchAmong game.rules (done ++ q ∷ []))) front max old (now ++ (front ++ q ∷ []) ∷ []) first false
add_switch game numbered place pairs ends part done q there new switches front max old now first room so_far =
    gathers_as (λ ps. IsLegalBy game place (IsSwitchAmong game.rules done) ps ⊎ (ps ≡ q ∷ [])) (IsLegalBy game place (IsSwitchAmong game.rules (done ++ q ∷ []))) front max old (now ++ (front ++ q ∷ []) ∷ []) first false
    (with_switch game numbered place pairs ends part done q there switches)
    (gathers_both (IsLegalBy game place (IsSwitchAmong game.rules done)) (λ ps. ps ≡ q ∷ []) front max old now (now ++ (front ++ q ∷ []) ∷ []) first first false so_far
    (gathers_one (λ ps. ps ≡ q ∷ []) front max now first (q ∷ []) room refl (λ ps same. same))
    (not_both game place done q new))

cut_switch : (game : AbstractGame) → IsNumbered game.rules → (place : AbstractPlace) (pairs : List (ℕ × ℕ)) (ends : Bool) → Part game place pairs ends → (done : List (ℕ × ℕ)) (q : ℕ × ℕ) → ((x : ℕ × ℕ) → Contains done x → Contains pairs x) → Contains pairs q → ¬ Contains done q → IsSwitchAt game.rules q.1 → (front : List (ℕ × ℕ)) (max : ℕ) (old now : List (List (ℕ × ℕ))) (none first : List (ℕ × ℕ)) → length now ≡ max → length front < most_pairs → (max ≡ 0 → first ≡ front ++ q ∷ []) → Gathers (IsLegalBy game place (IsSwitchAmong game.rules done)) front max old now none false → Gathers (IsLegalBy game place (IsSwitchAmong game.rules pairs)) front max old now first true
cut_switch game numbered place pairs ends part done q within there new switches front max old now none first full short kept so_far =
    gathers_more (λ ps. IsLegalBy game place (IsSwitchAmong game.rules done) ps ⊎ (ps ≡ q ∷ [])) (IsLegalBy game place (IsSwitchAmong game.rules pairs)) front max old now first
    (λ ps h. legal_as game place (IsSwitchAmong game.rules (done ++ q ∷ [])) (IsSwitchAmong game.rules pairs) among ps ((with_switch game numbered place pairs ends part done q there switches ps).0 h))
    (gathers_both (IsLegalBy game place (IsSwitchAmong game.rules done)) (λ ps. ps ≡ q ∷ []) front max old now now none first true so_far
    (gathers_full (λ ps. ps ≡ q ∷ []) front max now first (q ∷ []) full refl kept sized)
    (not_both game place done q new))
  where
    sized : max ≡ 0 → IsMoveLength (length first)
    sized empty =
        let size : length first ≡ length front + 1 = ap (λ (qs : List (ℕ × ℕ)). length qs) (kept empty) ∙ length_push front q in
        (omega (arith, size), omega (arith, size, short))

    among : (x : ℕ × ℕ) → IsSwitchAmong game.rules (done ++ q ∷ []) x → IsSwitchAmong game.rules pairs x
    among x taken = (
      taken.0,
      elim (Contains-push_cases done q x taken.1) [
        | inl before ↦ within x before
        | inr same ↦ subst (Contains pairs) same there
      ],
    )

-- Of the pairs some were taken, one is taken now, and the others are left.
new_of : (pairs done left : List (ℕ × ℕ)) (q : ℕ × ℕ) → IsPermutation pairs (turned done left q) → AllPairs (λ a b. a ≢ b) pairs → ¬ Contains done q
new_of pairs done left q moves different =
    subst (λ (ds : List (ℕ × ℕ)). ¬ Contains ds q) (turn_front done left q)
    (met_once (turned done left q) (length done) q (still_differ pairs (turned done left q) moves different) (turn_under done left q) (turn_at done left q q))

taken_there : (pairs done left : List (ℕ × ℕ)) (q : ℕ × ℕ) → IsPermutation pairs (turned done left q) → (x : ℕ × ℕ) → Contains (turned done left q) x → Contains pairs x
taken_there pairs done left q moves x there = Contains-permutation (turned done left q) pairs x (IsPermutation-sym pairs (turned done left q) moves) there

there_of : (pairs done left : List (ℕ × ℕ)) (q : ℕ × ℕ) → IsPermutation pairs (turned done left q) → Contains pairs q
there_of pairs done left q moves = taken_there pairs done left q moves q (length done, turn_under done left q, turn_at done left q q)

done_of : (pairs done left : List (ℕ × ℕ)) (q : ℕ × ℕ) → IsPermutation pairs (turned done left q) → (x : ℕ × ℕ) → Contains done x → Contains pairs x
done_of pairs done left q moves x there = taken_there pairs done left q moves x (Contains-append_left done (q ∷ left) x there)

pub lists_none : (game : AbstractGame) (pairs front : List (ℕ × ℕ)) (max : ℕ) (old : List (List (ℕ × ℕ))) (first : List (ℕ × ℕ)) → length old ≤ max → ListsSwitches game pairs [] front max old old first false
lists_none game pairs front max old first few = record {
  lists = λ place ends part. gathers_none (IsLegalBy game place (IsSwitchAmong game.rules [])) front max old first few (λ ps h. none place ps h);
}
  where
    none : (place : AbstractPlace) (ps : List (ℕ × ℕ)) → ¬ IsLegalBy game place (IsSwitchAmong game.rules []) ps
    none place [] h = h.begins
    none place (q ∷ qs) h = no_pair q h.begins.1

pub lists_more : (game : AbstractGame) → IsNumbered game.rules → (pairs front : List (ℕ × ℕ)) (max : ℕ) (old now : List (List (ℕ × ℕ))) (first done left : List (ℕ × ℕ)) (q : ℕ × ℕ) → IsPermutation pairs (turned done left q) → IsSwitchAt game.rules q.1 → length now < max → ListsSwitches game pairs done front max old now first false → ListsSwitches game pairs (done ++ q ∷ []) front max old (now ++ (front ++ q ∷ []) ∷ []) first false
lists_more game numbered pairs front max old now first done left q moves switches room so_far = record {
  lists = λ place ends part. add_switch game numbered place pairs ends part done q (there_of pairs done left q moves) (new_of pairs done left q moves part.different) switches front max old now first room (so_far.lists place ends part);
}

pub lists_cut : (game : AbstractGame) → IsNumbered game.rules → (pairs front : List (ℕ × ℕ)) (max : ℕ) (old now : List (List (ℕ × ℕ))) (none first done left : List (ℕ × ℕ)) (q : ℕ × ℕ) → IsPermutation pairs (turned done left q) → IsSwitchAt game.rules q.1 → length now ≡ max → length front < most_pairs → (max ≡ 0 → first ≡ front ++ q ∷ []) → ListsSwitches game pairs done front max old now none false → ListsSwitches game pairs pairs front max old now first true
lists_cut game numbered pairs front max old now none first done left q moves switches full short kept so_far = record {
  lists = λ place ends part. cut_switch game numbered place pairs ends part done q (done_of pairs done left q moves) (there_of pairs done left q moves) (new_of pairs done left q moves part.different) switches front max old now none first full short kept (so_far.lists place ends part);
}

-- What is so of all pairs is so of those that are left.
pub left_over : (P : ℕ × ℕ → Type 0) (pairs done left : List (ℕ × ℕ)) → IsPermutation pairs (done ++ left) → All P pairs → All P left
left_over P pairs done left moves all =
    All-weaker (Contains left) P
    (λ q there. All-contains P pairs q all (Contains-permutation (done ++ left) pairs q (IsPermutation-sym pairs (done ++ left) moves) (Contains-append_right done left q there))) left (All-contains_itself left)

-- Where there was room for all, it doesn't matter which the first one is.
pub lists_any : (game : AbstractGame) (pairs done front : List (ℕ × ℕ)) (max : ℕ) (old now : List (List (ℕ × ℕ))) (first other : List (ℕ × ℕ)) → ListsSwitches game pairs done front max old now first false → ListsSwitches game pairs done front max old now other false
lists_any game pairs done front max old now first other so_far = record {
  lists = λ place ends part. gathers_any (IsLegalBy game place (IsSwitchAmong game.rules done)) front max old now first other (so_far.lists place ends part);
}

-- All switches were taken.
pub lists_all : (game : AbstractGame) (pairs front : List (ℕ × ℕ)) (max : ℕ) (old now : List (List (ℕ × ℕ))) (first done left : List (ℕ × ℕ)) → IsPermutation pairs (done ++ left) → All (λ (q : ℕ × ℕ). ¬ IsSwitchAt game.rules q.1) left → ListsSwitches game pairs done front max old now first false → ListsSwitches game pairs pairs front max old now first false
lists_all game pairs front max old now first done left moves plain so_far = record {
  lists = λ place ends part.
      gathers_as (IsLegalBy game place (IsSwitchAmong game.rules done)) (IsLegalBy game place (IsSwitchAmong game.rules pairs)) front max old now first false
      (λ ps. (legal_as game place (IsSwitchAmong game.rules done) (IsSwitchAmong game.rules pairs) wider ps, legal_as game place (IsSwitchAmong game.rules pairs) (IsSwitchAmong game.rules done) narrower ps))
      (so_far.lists place ends part);
}
  where
    wider : (x : ℕ × ℕ) → IsSwitchAmong game.rules done x → IsSwitchAmong game.rules pairs x
    wider x taken = (taken.0, Contains-permutation (done ++ left) pairs x (IsPermutation-sym pairs (done ++ left) moves) (Contains-append_left done left x taken.1))

    narrower : (x : ℕ × ℕ) → IsSwitchAmong game.rules pairs x → IsSwitchAmong game.rules done x
    narrower x taken = (
      taken.0,
      elim (Contains-append_cases done left x (Contains-permutation pairs (done ++ left) x moves taken.1)) [
        | inl before ↦ before
        | inr later ↦ absurd (All-contains (λ (q : ℕ × ℕ). ¬ IsSwitchAt game.rules q.1) left x plain later taken.0)
      ],
    )

pub switches_cut : (game : AbstractGame) (place : AbstractPlace) (pairs : List (ℕ × ℕ)) (ends : Bool) → Part game place pairs ends → (front : List (ℕ × ℕ)) (max : ℕ) (old now : List (List (ℕ × ℕ))) (first : List (ℕ × ℕ)) → ListsSwitches game pairs pairs front max old now first true → Gathers (IsLegal game place) front max old now first true
switches_cut game place pairs ends part front max old now first so_far = gathers_more (IsLegalBy game place (IsSwitchAmong game.rules pairs)) (IsLegal game place) front max old now first (λ ps h. h.legal) (so_far.lists place ends part)

-- The first pair of a legal list is among those that come next.
first_there : (game : AbstractGame) → IsNumbered game.rules → (place : AbstractPlace) (pairs : List (ℕ × ℕ)) (ends : Bool) → Part game place pairs ends → (q : ℕ × ℕ) (qs : List (ℕ × ℕ)) → IsLegal game place (q ∷ qs) → Contains pairs q
first_there game numbered place pairs ends part (v, p) qs (to, legal) = (part.next v p).1 (legal_cut game numbered place v p qs to legal).next

-- After the switches come the moves after the other pairs.
pub others_begin : (game : AbstractGame) → IsNumbered game.rules → (place : AbstractPlace) (pairs : List (ℕ × ℕ)) (ends : Bool) → Part game place pairs ends → (done front : List (ℕ × ℕ)) (max : ℕ) (old now : List (List (ℕ × ℕ))) (first : List (ℕ × ℕ)) → All (λ (q : ℕ × ℕ). IsSwitchAt game.rules q.1) done → ListsSwitches game pairs pairs front max old now first false → Gathers (IsLegalBy game place (IsSwitchOr game.rules done)) front max old now first false
others_begin game numbered place pairs ends part done front max old now first switching so_far =
    gathers_as (IsLegalBy game place (IsSwitchAmong game.rules pairs)) (IsLegalBy game place (IsSwitchOr game.rules done)) front max old now first false
    (λ ps. (legal_as game place (IsSwitchAmong game.rules pairs) (IsSwitchOr game.rules done) (λ x taken. inl taken.0) ps, from ps))
    (so_far.lists place ends part)
  where
    switches_at : (q : ℕ × ℕ) → IsSwitchOr game.rules done q → IsSwitchAt game.rules q.1
    switches_at q (inl switches) = switches
    switches_at q (inr there) = All-contains (λ (x : ℕ × ℕ). IsSwitchAt game.rules x.1) done q switching there

    from : (ps : List (ℕ × ℕ)) → IsLegalBy game place (IsSwitchOr game.rules done) ps → IsLegalBy game place (IsSwitchAmong game.rules pairs) ps
    from [] h = absurd h.begins
    from (q ∷ qs) h = record { legal = h.legal; begins = (switches_at q h.begins, first_there game numbered place pairs ends part q qs h.legal) }

-- What is legal after a pair that is no switch is what is legal after its modifier.
after_legal : (game : AbstractGame) → IsNumbered game.rules → (place : AbstractPlace) (q : ℕ × ℕ) (later : AbstractState) → ¬ IsSwitchAt game.rules q.1 → Applies game q.1 (at_vertex place.state q.0) later → (qs : List (ℕ × ℕ)) → IsLegal game place (q ∷ qs) → IsLegal game (place_beyond later q.1) qs
after_legal game numbered place (v, p) later plain applied qs (to, legal) =
    let cut = legal_cut game numbered place v p qs to legal in
    by_onward cut.later (Applies_one game numbered p cut.applies applied) cut.onward
  where
    by_onward : (here : AbstractState) → here ≡ later → Onward game here p qs to → IsLegal game (place_beyond later p) qs
    by_onward here same (ended switches _ _) = absurd (plain switches)
    by_onward here same (going _ legal) = (to, subst (λ (s : AbstractState). Legal game (place_beyond s p) qs to) same legal)

pub others_more : (game : AbstractGame) → IsNumbered game.rules → (place : AbstractPlace) (done front : List (ℕ × ℕ)) (max : ℕ) (old now new : List (List (ℕ × ℕ))) (none first : List (ℕ × ℕ)) (cut : Bool) (q : ℕ × ℕ) (later : AbstractState) → IsNext game place.state (point_of place.last) q.0 q.1 → ¬ Contains done q → ¬ IsSwitchAt game.rules q.1 → Applies game q.1 (at_vertex place.state q.0) later → Gathers (IsLegalBy game place (IsSwitchOr game.rules done)) front max old now none false → Gathers (IsBeyond q (IsLegal game (place_beyond later q.1))) front max now new first cut → Gathers (IsLegalBy game place (IsSwitchOr game.rules (done ++ q ∷ []))) front max old new first cut
others_more game numbered place done front max old now new none first cut q later next fresh plain applied so_far beyond =
    gathers_as (λ ps. IsLegalBy game place (IsSwitchOr game.rules done) ps ⊎ IsBeyond q (IsLegal game (place_beyond later q.1)) ps) (IsLegalBy game place (IsSwitchOr game.rules (done ++ q ∷ []))) front max old new first cut
    (λ ps. (to ps, from ps))
    (gathers_both (IsLegalBy game place (IsSwitchOr game.rules done)) (IsBeyond q (IsLegal game (place_beyond later q.1))) front max old now new none first cut so_far beyond apart)
  where
    wider : (x : ℕ × ℕ) → IsSwitchOr game.rules done x → IsSwitchOr game.rules (done ++ q ∷ []) x
    wider x (inl switches) = inl switches
    wider x (inr there) = inr (Contains-append_left done (q ∷ []) x there)

    to : (ps : List (ℕ × ℕ)) → IsLegalBy game place (IsSwitchOr game.rules done) ps ⊎ IsBeyond q (IsLegal game (place_beyond later q.1)) ps → IsLegalBy game place (IsSwitchOr game.rules (done ++ q ∷ [])) ps
    to ps (inl h) = legal_as game place (IsSwitchOr game.rules done) (IsSwitchOr game.rules (done ++ q ∷ [])) wider ps h
    to ps (inr h) =
        let (end, legal) = h.wanted in
        let one : IsLegalBy game place (IsSwitchOr game.rules (done ++ q ∷ [])) (q ∷ h.rest) = record {
          legal = (end, legal_on game numbered place q.0 q.1 later h.rest end next plain applied legal);
          begins = inr (Contains-push done q);
        } in
        subst (IsLegalBy game place (IsSwitchOr game.rules (done ++ q ∷ []))) (sym h.is) one

    from : (ps : List (ℕ × ℕ)) → IsLegalBy game place (IsSwitchOr game.rules (done ++ q ∷ [])) ps → IsLegalBy game place (IsSwitchOr game.rules done) ps ⊎ IsBeyond q (IsLegal game (place_beyond later q.1)) ps
    from [] h = absurd h.begins
    from (x ∷ xs) h = elim h.begins [
      | inl switches ↦ inl (record { legal = h.legal; begins = inl switches })
      | inr there ↦ elim (Contains-push_cases done q x there) [
        | inl before ↦ inl (record { legal = h.legal; begins = inr before })
        | inr same ↦ inr (record {
          rest = xs;
          is = ap (λ (y : ℕ × ℕ). y ∷ xs) (sym same);
          wanted = after_legal game numbered place q later plain applied xs (subst (λ (y : ℕ × ℕ). IsLegal game place (y ∷ xs)) (sym same) h.legal);
        })
      ]
    ]

    apart : (ps : List (ℕ × ℕ)) → IsLegalBy game place (IsSwitchOr game.rules done) ps → IsBeyond q (IsLegal game (place_beyond later q.1)) ps → ⊥
    apart ps h beyond = elim (subst (IsLegalBy game place (IsSwitchOr game.rules done)) beyond.is h).begins [
      | inl switches ↦ plain switches
      | inr there ↦ fresh there
    ]

pub others_cut : (game : AbstractGame) (place : AbstractPlace) (done : List (ℕ × ℕ)) (front : List (ℕ × ℕ)) (max : ℕ) (old now : List (List (ℕ × ℕ))) (first : List (ℕ × ℕ)) → Gathers (IsLegalBy game place (IsSwitchOr game.rules done)) front max old now first true → Gathers (IsLegal game place) front max old now first true
others_cut game place done front max old now first so_far = gathers_more (IsLegalBy game place (IsSwitchOr game.rules done)) (IsLegal game place) front max old now first (λ ps h. h.legal) so_far

pub others_end : (game : AbstractGame) → IsNumbered game.rules → (place : AbstractPlace) (pairs : List (ℕ × ℕ)) (ends : Bool) → Part game place pairs ends → (front : List (ℕ × ℕ)) (max : ℕ) (old now : List (List (ℕ × ℕ))) (first : List (ℕ × ℕ)) → Gathers (IsLegalBy game place (IsSwitchOr game.rules pairs)) front max old now first false → Gathers (IsLegal game place) front max old now first false
others_end game numbered place pairs ends part front max old now first so_far =
    gathers_as (IsLegalBy game place (IsSwitchOr game.rules pairs)) (IsLegal game place) front max old now first false
    (λ ps. ((λ h. h.legal), from ps))
    so_far
  where
    from : (ps : List (ℕ × ℕ)) → IsLegal game place ps → IsLegalBy game place (IsSwitchOr game.rules pairs) ps
    from [] (to, legal) = absurd (legal_some game numbered place to legal)
    from (q ∷ qs) legal = record { legal = legal; begins = inr (first_there game numbered place pairs ends part q qs legal) }
