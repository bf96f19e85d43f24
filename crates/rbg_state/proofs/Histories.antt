-- What follows from one history coming after another.
use Rattle.rbg_base.proofs.Common.{◌≡◌, ℕ, ◌+◌, ◌<◌, ◌≤◌, List, [], ◌∷◌, Some, length, take, get_or, refl, sym, ap, ◌∙◌, slice_get, arith, slice_get-get_or, get_or_from_slice_get}
use Rattle.std.proofs.lemmas.List.{take_all, take-take, take_at, take-append-le, length-take, length_push, get_or-take, get_or_push}
use Rattle.rbg_rules.specs.Meaning.{AbstractState}
use Rattle.rbg_state.specs.History.{History, states_of, capacity_of, changed_to, IsAfter}

pub after_nothing : (h : History) → IsAfter h h
after_nothing h = record { states = take_all (length h.past + 1) (states_of h) (omega (arith, length_push h.past h.state)) }

pub after_change : (h : History) (s : AbstractState) → IsAfter h (changed_to h s)
after_change h s = record { states = take_at (states_of h) (s ∷ []) (length h.past + 1) (length_push h.past h.state) }

pub capacity_after_change : (h : History) (s : AbstractState) → 0 < h.room → capacity_of (changed_to h s) ≡ capacity_of h
capacity_after_change h s room = omega (arith, length_push h.past h.state)

pub no_shorter : (h k : History) → IsAfter h k → length h.past ≤ length k.past
no_shorter h k after =
    let taken = length-take (length h.past + 1) (states_of k) in
    let whole = ap (λ (xs : List AbstractState). length xs) after.states in
    omega (arith, taken, whole, length_push h.past h.state, length_push k.past k.state)

pub after_both : (h k l : History) → IsAfter h k → IsAfter k l → IsAfter h l
after_both h k l first second = record {
  states =
      sym (take-take (length h.past + 1) (length k.past + 1) (states_of l) (omega (arith, no_shorter h k first)))
      ∙ ap (take (length h.past + 1)) second.states ∙ first.states;
}

-- the state and the past that a mark names
pub marked_state : (marked old : History) → IsAfter marked old → slice_get (states_of old) (length marked.past) ≡ Some marked.state
marked_state marked old after =
    let m = length marked.past in
    let within : m < length (states_of old) = omega (arith, no_shorter marked old after, length_push old.past old.state) in
    let taken = get_or-take (m + 1) (states_of old) m marked.state (omega (arith)) in
    let whole = ap (λ (xs : List AbstractState). get_or xs m marked.state) after.states in
    slice_get-get_or (states_of old) m marked.state within ∙ ap Some (sym taken ∙ whole ∙ get_or_push marked.past marked.state marked.state m refl)

pub marked_past : (marked old : History) → IsAfter marked old → take (length marked.past) old.past ≡ marked.past
marked_past marked old after =
    let m = length marked.past in
    sym (take-append-le m old.past (old.state ∷ []) (no_shorter marked old after))
    ∙ sym (take-take m (m + 1) (states_of old) (omega arith))
    ∙ ap (take m) after.states
    ∙ take_at marked.past (marked.state ∷ []) m refl

-- Two histories that an old one comes after, with pasts of the same length, differ in their room alone.
pub given_back : (marked new old : History) → length new.past ≡ length marked.past → IsAfter marked old → IsAfter new old → new ≡ record marked { room = new.room }
given_back marked new old same marked_first new_first =
    let read = get_or_from_slice_get (states_of old) (length marked.past) in
    let state : new.state ≡ marked.state = sym (read new.state marked.state (rw (sym same) (marked_state new old new_first))) ∙ read marked.state marked.state (marked_state marked old marked_first) in
    let past : new.past ≡ marked.past = sym (marked_past new old new_first) ∙ ap (λ (n : ℕ). take n old.past) same ∙ marked_past marked old marked_first in
    λ i. record { state = state i; past = past i; room = new.room }

-- If there is as much room as before, nothing differs.
pub same_history : (h k : History) → k ≡ record h { room = k.room } → capacity_of k ≡ capacity_of h → k ≡ h
same_history h k is capacity =
    let past : length k.past ≡ length h.past = ap (λ (x : History). length x.past) is in
    let room : k.room ≡ h.room = omega (arith, past, capacity) in
    is ∙ (λ i. record { state = h.state; past = h.past; room = room i })

-- The change taken back last leads to the history from which it led.
pub after_undo : (old new : History) → states_of new ≡ old.past → IsAfter new old
after_undo old new is = record {
  states =
      let size : length old.past ≡ length new.past + 1 = ap (λ (xs : List AbstractState). length xs) (sym is) ∙ length_push new.past new.state in
      take_at old.past (old.state ∷ []) (length new.past + 1) size ∙ sym is;
}
