-- A search that finds a flat part by sets, step by step.
use Rattle.std.proofs.Common.{◌≡◌, ℕ, List, [], ◌∷◌, ◌++◌, Bool, Contains, IsTrue, ◌↔◌, ◌≤◌, Result, Ok, Err, IsOk, IsErrAnd}
use Rattle.rbg_rules.specs.Meaning.{inside, Start, beginning, Applies, reach, pattern}
use Rattle.rbg_state.specs.History.{History}
use Rattle.rbg_flat.specs.declared.flat.Flat.{Flat}
use Rattle.rbg_flat.proofs.Common.{Way, HasPairs, CountsMet, IsMarked}
use Rattle.rbg_search.proofs.Along.{IsFlatPart, at_vertex, IsReached}
use Rattle.rbg_search.proofs.Common.{CountsForced, Searching, CountsTaken, most_candidates, IsAsked, IsBegunBySets, HasSetsFor, IsWhole, BeginsBySets, AdvancesBySets, IsToBeAsked, TakesBySets, FindsBySets, Finds, CountsPart, IsSpentButOne, Over, Memory}
use Rattle.rbg_search.proofs.BySets.{asked_reached, all_asked, not_asked}
use Rattle.rbg_search.proofs.Counted.{onward_search, search_before}
use Rattle.rbg_search.proofs.Finding.{finds_more, finds_left, finds_lost, finds_forced, finds_own}
use Rattle.rbg_search.proofs.Kept.{kept_twice, rules_before}
use Rattle.rbg_search.proofs.Asking.{room_twice}
use Rattle.rbg_search.proofs.Takings.{own_part, pairs_met, marked_met, not_ok}

-- It is begun.
pub sets_begun : {way : Way} {h k : Searching} {s l : History} {f : Start} (e : Searching) (flat : Flat) → Finds h k s l f [] → e ≡ record h { opened = e.opened; taken = e.taken } → BeginsBySets way e.game l.state f flat → FindsBySets way h k s l f flat
sets_begun {way = way} {h = h} {k = k} {s = s} {l = l} {f = f} e flat is kept begins =
    let begins_here : BeginsBySets way h.game s.state f flat = search_before (λ y z. BeginsBySets way y.game z f flat) h e s l kept is.given_back begins in
    record { pairs = []; finds = is; asked = begins_here.asked; sets = begins_here.sets; begun = begins_here.begun }

module _ {way : Way} {h k : Searching} {s l : History} {f : Start} {flat : Flat} (is : FindsBySets way h k s l f flat) where
  -- It goes on, and nothing is asked.
  pub sets_on : (flat' : Flat) → AdvancesBySets way k.game l.state flat flat' → FindsBySets way h k s l f flat'
  sets_on flat' advances =
      let here : AdvancesBySets way h.game s.state flat flat' = search_before (λ y z. AdvancesBySets way y.game z flat flat') h k s l is.finds.kept is.finds.given_back advances in
      record { pairs = is.pairs; finds = is.finds; asked = here.asked is.pairs is.asked; sets = here.sets; begun = here.begun f is.begun }

  pub sets_now : HasSetsFor k.game flat
  sets_now = onward_search (λ y z. HasSetsFor y.game flat) h k s l is.finds.kept is.finds.given_back is.sets

  -- A vertex is asked about a pattern.
  module _ (v p : ℕ) (next : IsToBeAsked k.game flat v p) where
    next_here : IsToBeAsked h.game flat v p
    next_here = search_before (λ y z. IsToBeAsked y.game flat v p) h k s l is.finds.kept is.finds.given_back next

    pub reached_here : IsReached h.game s.state f v p
    reached_here = asked_reached h.game is.finds.lawful.numbered s.state f way flat v p is.begun next_here

    pub not_yet_asked : ¬ Contains is.pairs (v, p)
    not_yet_asked = not_asked h.game flat v p is.pairs is.asked next_here

    module _ {X : Type 0} {k' : Searching} {l' : History} {callee : Result X Over} (asked : IsAsked k k' l l' pattern (at_vertex l.state v) (beginning (inside p)) k.modifiers callee) where
      pub sets_left : IsSpentButOne k'.game k'.opened k'.taken
      sets_left = finds_left is.finds v p reached_here next_here.pattern not_yet_asked asked

      pub sets_lost : {Y : Type 0} (r : Result Y Over) (e : Over) → callee ≡ Err e → IsErrAnd r (λ y. y ≡ e) → (last : Searching) → last ≡ record k' { opened = last.opened; taken = last.taken } → last.opened ≡ k'.opened → CountsPart k'.game (CountsMet (IsMarked flat.sets)) k'.taken last.taken → IsAsked h last s l' reach s.state f h.modifiers r
      sets_lost r e was gives last kept same counts =
          finds_lost is.finds v p reached_here next_here.pattern not_yet_asked asked r e was gives last kept same counts.many
          (own_part h.game reach s.state f counts.many
          (marked_met way h.game is.finds.lawful.numbered s.state f (IsOk r) (¬ (r ≡ Err Memory)) flat counts.many is.begun counts.has
          (rules_before (λ x. counts.many ≤ most_candidates x) h k' (kept_twice h k k' is.finds.kept asked.kept) counts.few) (not_ok r e gives))) counts.sum

      -- It was asked and taken.
      pub sets_more : (flat' : Flat) (valid : Bool) (x : X) → callee ≡ Ok x → IsTrue valid ↔ Applies k.game p (at_vertex l.state v) (at_vertex l.state v) → TakesBySets way k'.game l'.state flat flat' v p valid → ((cut : Bool) → CountsForced k.game cut pattern (at_vertex l.state v) (beginning (inside p)) k.opened k'.opened k.modifiers k.modifiers) → FindsBySets way h k' s l' f flat'
      sets_more flat' valid x was decides takes forced =
          let kept = kept_twice h k k' is.finds.kept asked.kept in
          let given = room_twice s l l' is.finds.given_back asked.given_back in
          let takes_here : TakesBySets way h.game s.state flat flat' v p valid = search_before (λ y z. TakesBySets way y.game z flat flat' v p valid) h k' s l' kept given takes in
          let decides_here : IsTrue valid ↔ Applies h.game p (at_vertex s.state v) (at_vertex s.state v) =
          search_before (λ y z. IsTrue valid ↔ Applies y.game p (at_vertex z v) (at_vertex z v)) h k s l is.finds.kept is.finds.given_back decides in
          record {
            pairs = is.pairs ++ (v, p) ∷ [];
            finds = finds_more is.finds v p reached_here next_here.pattern not_yet_asked asked x was forced;
            asked = takes_here.asked is.pairs is.asked;
            sets = takes_here.sets;
            begun = takes_here.begun f decides_here is.begun;
          }

  -- Nothing is left.
  pub sets_forced : IsWhole flat → (b : ℕ) → b ≡ k.opened → (cut : Bool) (left : ℕ) → CountsForced h.game cut reach s.state f h.opened b left h.modifiers
  sets_forced whole = finds_forced is.finds (λ v p reached stands. all_asked h.game is.finds.lawful.numbered s.state f way flat is.pairs is.begun whole is.asked v p reached stands)

  -- The flat part is handed out.
  pub sets_part : (found : List (ℕ × ℕ)) (ends : Bool) → ((e : Start) → IsBegunBySets way k.game l.state e flat → IsFlatPart k.game l.state e found ends) → IsFlatPart h.game s.state f found ends
  sets_part found ends part =
      search_before (λ y z. IsBegunBySets way y.game z f flat → IsFlatPart y.game z f found ends) h k s l is.finds.kept is.finds.given_back (part f) is.begun

  pub sets_own : (k' : Searching) → k' ≡ record k { opened = k'.opened; taken = k'.taken } → k'.opened ≡ k.opened → (A H : Type 0) → CountsPart k.game (λ many. (e : Start) → IsBegunBySets way k.game l.state e flat → HasPairs way k.game l.state e many) k.taken k'.taken → CountsTaken h.game reach s.state f h.opened k'.opened h.taken k'.taken A H
  sets_own k' kept same A H counts =
      finds_own is.finds k' kept same A H counts.many
      (own_part h.game reach s.state f counts.many
      (pairs_met way h.game is.finds.lawful.numbered s.state f A H counts.many
      (search_before (λ y z. IsBegunBySets way y.game z f flat → HasPairs way y.game z f counts.many) h k s l is.finds.kept is.finds.given_back (counts.has f) is.begun)
      (search_before (λ y z. counts.many ≤ most_candidates y.game) h k s l is.finds.kept is.finds.given_back counts.few))) counts.sum
