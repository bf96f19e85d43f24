-- The places of a session.
use Rattle.rbg_base.proofs.Common.{◌≡◌, ℕ, ◌+◌, ◌-◌, ◌<◌, ◌⊎◌, inl, inr, List, [], ◌∷◌, ◌++◌, length, take, drop, All, slice_get, Some, ap, sym, ◌∙◌, refl, subst, arith, append_assoc, length-append, All-head, All-tail, All-nil, All-cons, All-append}
use Rattle.std.proofs.lemmas.List.{take-append-drop, length-drop}
use Rattle.rbg_base.proofs.CallerLemmas.{slice_get-append_right}
use Rattle.rbg_rules.specs.Meaning.{AbstractGame, AbstractPlace, Legal, Finished, IsPlaceOf}
use Rattle.rbg_moves.specs.Settling.{Settles}
use Rattle.rbg_questions.specs.Sessions.{AreHeard, no_move, one_more, HasLedTo, at_start, at_heard, by_move, Leads, AbstractSession}
use Rattle.rbg_moves.specs.Starting.{start_place}
use Rattle.rbg_questions.specs.Answering.{GoesBack}
use Rattle.rbg_questions.specs.Places.{AreReached}
use Rattle.rbg_questions.specs.internal.Places.{IsHeardPlace}

no_end : {X : Type 0} (xs : List X) (x : X) (ys : List X) → [] ≡ xs ++ x ∷ ys → ⊥
no_end [] x ys same = let apart : [] ≡ x ∷ ys = same in cc
no_end (y ∷ xs) x ys same = let apart : [] ≡ y ∷ (xs ++ x ∷ ys) = same in cc

-- an item of a list is its last one, or one of those before
last_or_before : {X : Type 0} (front : List X) (last : X) (before : List X) (x : X) (later : List X) → front ++ last ∷ [] ≡ before ++ x ∷ later → ((front ≡ before) × (last ≡ x)) ⊎ ((others : List X) × (front ≡ before ++ x ∷ others))
last_or_before [] last [] x later same = let parts : last ∷ [] ≡ x ∷ later = same in inl (refl, cc)
last_or_before [] last (b ∷ before) x later same =
    let parts : last ∷ [] ≡ b ∷ (before ++ x ∷ later) = same in
    absurd (no_end before x later cc)
last_or_before (f ∷ front) last [] x later same =
    let parts : f ∷ (front ++ last ∷ []) ≡ x ∷ later = same in
    let first : f ≡ x = cc in
    inr (front, λ i. first i ∷ front)
last_or_before (f ∷ front) last (b ∷ before) x later same =
    let parts : f ∷ (front ++ last ∷ []) ≡ b ∷ (before ++ x ∷ later) = same in
    let first : f ≡ b = cc in
    elim (last_or_before front last before x later cc) [
      | inl found ↦ inl ((λ i. first i ∷ found.0 i), found.1)
      | inr found ↦ inr (found.0, (λ i. first i ∷ found.1 i))
    ]

-- A move was made at the place.
pub record WasMade (game : AbstractGame) (place : AbstractPlace) : Type 0 where
  pub pairs : List (ℕ × ℕ)
  pub to : AbstractPlace
  pub legal : Legal game place pairs to

-- Play has led to each of the places before, and a move was made there.
pub led_before : (game : AbstractGame) (origin : AbstractPlace) (all : List AbstractPlace) (to : AbstractPlace) → HasLedTo game origin all to → (front : List AbstractPlace) (place : AbstractPlace) (later : List AbstractPlace) → all ≡ front ++ place ∷ later → HasLedTo game origin front place × WasMade game place
led_before game origin _ to (at_start settles) front place later same = absurd (no_end front place later same)
led_before game origin _ to (at_heard heard) front place later same = absurd (no_end front place later same)
led_before game origin _ to (by_move {before} {from} {pairs} led leads) front place later same =
    elim (last_or_before before from front place later same) [
      | inl last ↦ (subst (λ (p : AbstractPlace). HasLedTo game origin front p) last.1 (subst (λ ps. HasLedTo game origin ps from) last.0 led), subst (WasMade game) last.1 (record { pairs = pairs; to = leads.middle; legal = leads.legal }))
      | inr others ↦ led_before game origin before from led front place others.0 others.1
    ]

all_before : {X : Type 0} (P : X → Type 0) (before : List X) (x : X) (later : List X) → All P (before ++ x ∷ later) → All P before × P x
all_before P [] x later h = (All-nil P, All-head P x later h)
all_before P (b ∷ before) x later h =
    let others = all_before P before x later (All-tail P b (before ++ x ∷ later) h) in
    (All-cons P b before (All-head P b (before ++ x ∷ later) h) others.0, others.1)

-- what holds of the places holds of those before one of them
pub reached_before : (game : AbstractGame) (origin : AbstractPlace) (all : List AbstractPlace) (to : AbstractPlace) → AreReached game origin all to → (before : List AbstractPlace) (place : AbstractPlace) (later : List AbstractPlace) → all ≡ before ++ place ∷ later → AreReached game origin before place
reached_before game origin all to reached before place later same =
    let places = all_before (IsPlaceOf game) before place later (subst (All (IsPlaceOf game)) same reached.earlier) in
    record { start = reached.start; earlier = places.0; here = places.1; led = (led_before game origin all to reached.led before place later same).0 }

-- and of one more place
pub reached_next : (game : AbstractGame) (origin : AbstractPlace) (before : List AbstractPlace) (from to : AbstractPlace) (pairs : List (ℕ × ℕ)) → AreReached game origin before from → Leads game from pairs to → IsPlaceOf game to → AreReached game origin (before ++ from ∷ []) to
reached_next game origin before from to pairs reached leads fits = record {
  start = reached.start;
  earlier = All-append (IsPlaceOf game) before (from ∷ []) reached.earlier (All-cons (IsPlaceOf game) from [] reached.here (All-nil (IsPlaceOf game)));
  here = fits;
  led = by_move reached.led leads;
}

-- play isn't finished where a move was made
pub not_finished : (game : AbstractGame) (place : AbstractPlace) → WasMade game place → ¬ Finished game place
not_finished game place made finished = finished.no_move made.pairs made.to made.legal

-- what stands after so many items of a list, of which the last is known
pub cut_after : {X : Type 0} (all front : List X) (x : X) (index : ℕ) → take (index + 1) all ≡ front ++ x ∷ [] → all ≡ front ++ x ∷ drop (index + 1) all
cut_after all front x index same =
    sym (take-append-drop (index + 1) all) ∙ (ap (λ some. some ++ drop (index + 1) all) same ∙ append_assoc front (x ∷ []) (drop (index + 1) all))

-- the place to which one goes back is the one at its index
pub place_at : (all : List AbstractPlace) (index : ℕ) (found : AbstractPlace) (before : List AbstractPlace) (place : AbstractPlace) (later : List AbstractPlace) → index < length all → slice_get all index ≡ Some found → all ≡ before ++ place ∷ later → length all - index ≡ length later + 1 → found ≡ place
place_at all index found before place later within there same many =
    let long : length all ≡ length before + length (place ∷ later) = ap length same ∙ length-append before (place ∷ later) in
    let here : index ≡ length before + 0 = omega (arith, within, long, many) in
    let found_there : slice_get (before ++ place ∷ later) (length before + 0) ≡ Some found = subst (λ i. slice_get (before ++ place ∷ later) i ≡ Some found) here (subst (λ (xs : List AbstractPlace). slice_get xs index ≡ Some found) same there) in
    let placed : slice_get (before ++ place ∷ later) (length before + 0) ≡ Some place = slice_get-append_right before (place ∷ later) 0 place refl in
    let both : Some found ≡ Some place = sym found_there ∙ placed in
    cc

-- the first place
pub reached_first : (game : AbstractGame) (first place : AbstractPlace) → first ≡ start_place game → IsPlaceOf game first → Settles game first place → IsPlaceOf game place → AreReached game (start_place game) [] place
reached_first game first place start first_fits settles fits = record {
  start = subst (IsPlaceOf game) start first_fits;
  earlier = All-nil (IsPlaceOf game);
  here = fits;
  led = at_start (subst (λ (p : AbstractPlace). Settles game p place) start settles);
}

-- where they count from there
pub reached_from : (game : AbstractGame) (origin : AbstractPlace) (items before : List AbstractPlace) (place : AbstractPlace) → origin ≡ start_place game → items ≡ before → AreReached game (start_place game) before place → AreReached game origin items place
reached_from game origin items before place start same reached =
    subst (λ (o : AbstractPlace). AreReached game o items place) (sym start) (subst (λ ps. AreReached game (start_place game) ps place) (sym same) reached)

-- the session that goes back to a place
pub goes_back_to : (session : AbstractSession) (index : ℕ) (front : List AbstractPlace) (place : AbstractPlace) → index < length session.before → session.before ≡ front ++ place ∷ drop (index + 1) session.before → GoesBack session (length session.before - index) (record { game = session.game; origin = session.origin; heard = session.heard; before = front; place = place })
goes_back_to session index front place within same = record {
  game = refl;
  origin = refl;
  heard = refl;
  later = drop (index + 1) session.before;
  places = same;
  all = let left : length (drop (index + 1) session.before) ≡ length session.before - (index + 1) = length-drop (index + 1) session.before in omega (arith, within, left);
}

-- what holds of the places after one more move
pub reached_made : (game : AbstractGame) (origin : AbstractPlace) (before : List AbstractPlace) (place to : AbstractPlace) (pairs : List (ℕ × ℕ)) (items kept : List AbstractPlace) (value now : AbstractPlace) → AreReached game origin before place → Leads game place pairs to → IsPlaceOf game to → kept ≡ before → value ≡ place → now ≡ to → items ≡ kept ++ value ∷ [] → AreReached game origin items now
reached_made game origin before place to pairs items kept value now reached leads fits same_before same_place same_to is =
    let all : items ≡ before ++ place ∷ [] = is ∙ (λ i. same_before i ++ same_place i ∷ []) in
    subst (λ (p : AbstractPlace). AreReached game origin items p) (sym same_to)
    (subst (λ ps. AreReached game origin ps to) (sym all) (reached_next game origin before place to pairs reached leads fits))

-- where the rules begin, no move was heard
pub heard_first : (game : AbstractGame) (origin first : AbstractPlace) → origin ≡ start_place game → first ≡ start_place game → IsPlaceOf game first → IsHeardPlace game origin first
heard_first game origin first begin start fits = record { fits = fits; heard = subst (λ (p : AbstractPlace). AreHeard game origin p) (begin ∙ sym start) no_move }

-- the place to which one more move leads that was heard
pub heard_next : (game : AbstractGame) (origin from to : AbstractPlace) (pairs : List (ℕ × ℕ)) → IsHeardPlace game origin from → Legal game from pairs to → AreHeard game origin to
heard_next game origin from to pairs from_there legal = one_more from_there.heard legal

-- the places of a session that stands where the moves lead that were heard
pub reached_heard : (game : AbstractGame) (origin : AbstractPlace) (items : List AbstractPlace) (place now heard kept : AbstractPlace) → items ≡ [] → place ≡ heard → now ≡ place → kept ≡ heard → IsPlaceOf game origin → IsPlaceOf game heard → AreHeard game origin heard → AreReached game origin items now × IsHeardPlace game origin kept
reached_heard game origin items place now heard kept none same is same_kept origin_fits fits heard_there = (
  subst (λ (p : AbstractPlace). AreReached game origin items p) (sym (is ∙ same))
      (subst (λ ps. AreReached game origin ps heard) (sym none) (record { start = origin_fits; earlier = All-nil (IsPlaceOf game); here = fits; led = at_heard heard_there })),
  subst (λ (p : AbstractPlace). IsHeardPlace game origin p) (sym same_kept) (record { fits = fits; heard = heard_there }),
)

-- the places of a session that stands at a place that was unpacked
pub reached_unpacked : (game : AbstractGame) (items : List AbstractPlace) (place first from origin heard now : AbstractPlace) → items ≡ [] → first ≡ place → from ≡ place → origin ≡ first → heard ≡ from → now ≡ place → IsPlaceOf game place → AreReached game origin items now × IsHeardPlace game origin heard
reached_unpacked game items place first from origin heard now none same_first same_from is_origin is_heard is fits =
    let from_origin : origin ≡ place = is_origin ∙ same_first in
    reached_heard game origin items place now place heard none refl is (is_heard ∙ same_from) (subst (IsPlaceOf game) (sym from_origin) fits) fits
    (subst (λ (o : AbstractPlace). AreHeard game o place) (sym from_origin) no_move)
