-- How a flat part is found, pair by pair.
use Rattle.rbg_base.proofs.Common.{◌≡◌, ◌≢◌, ℕ, ◌⊎◌, List, [], ◌∷◌, ◌++◌, get_or, Bool, true, false, ◌||◌, refl, sym, subst, inl, inr, arith, All, AllPairs, Contains, Decides, All-nil, All-push, All-append, All-weaker, All-contains, All-contains_itself, Contains-append_left, Contains-push, Contains-push_cases, Contains-get_or, Decides-or}
use Rattle.std.proofs.lemmas.List.Quantifiers.{all_pairs_push}
use Rattle.rbg_rules.specs.Meaning.{Expression, IsNumbered, Start, after, Follows, Ends, AbstractGame, AbstractState}
use Rattle.rbg_auto.specs.Steps.{AreAllThatFollow}
use Rattle.rbg_search.proofs.Along.{IsFlatPart, at_vertex, Leads, IsReached, first, then, IsFound, LeadsToEnd, EndsFlat, MeetsAll, IsPositionOf, IsTrialAt, SomeLeadsToEnd, IsPart}
use Rattle.rbg_state.specs.declared.state.trials.Trial.TheVariants.{Invalid, Modifies, LeadsTo}
use Rattle.rbg_search.proofs.Closures.{found_next, next_found, may_end_flat, flat_may_end}
use Rattle.rbg_search.proofs.Starts.{follower_position}

module _ (game : AbstractGame) (s : AbstractState) (f : Start) where
  -- The pairs that were met anew may come next if those of the positions may.
  new_sound : (xs ys : List (ℕ × ℕ)) (v : ℕ) (ps : List ℕ) → MeetsAll xs ys v ps → ((p : ℕ) → Contains ps p → IsReached game s f v p) → All (λ q. IsReached game s f q.0 q.1) xs → All (λ q. IsReached game s f q.0 q.1) ys
  new_sound xs ys v ps meets each sound =
      subst (λ (zs : List (ℕ × ℕ)). All (λ q. IsReached game s f q.0 q.1) zs) (sym meets.grown)
      (All-append (λ q. IsReached game s f q.0 q.1) xs meets.more sound
      (All-weaker (λ q. (q.0 ≡ v) × Contains ps q.1) (λ q. IsReached game s f q.0 q.1)
      (λ q h. subst (λ (w : ℕ). IsReached game s f w q.1) (sym h.0) (each q.1 h.1)) meets.more meets.only))

  kept : (xs ys : List (ℕ × ℕ)) (v : ℕ) (ps : List ℕ) → MeetsAll xs ys v ps → (q : ℕ × ℕ) → Contains xs q → Contains ys q
  kept xs ys v ps meets q h = subst (λ (zs : List (ℕ × ℕ)). Contains zs q) (sym meets.grown) (Contains-append_left xs meets.more q h)

  -- At the beginning those that may come first are met, and nothing is done.
  pub begin_part : (ys : List (ℕ × ℕ)) (ps : List ℕ) (ends : Bool) → MeetsAll [] ys s.vertex ps → AreAllThatFollow game.rules f ps → Decides ends (Ends game.rules f []) → IsPart game s f ys [] [] ends
  begin_part ys ps ends meets follow decides = record {
    sound = new_sound [] ys s.vertex ps meets (λ p h. first refl ((follow.exact p).0 h)) (All-nil (λ q. IsReached game s f q.0 q.1));
    begun = λ p follows. All-contains (λ r. Contains ys (s.vertex, r)) ps p meets.all ((follow.exact p).1 follows);
    closed = λ v q u p (k, under, is). absurd (omega (arith, under));
    among = All-nil (Contains []);
    valid = All-nil (λ q. IsFound game s f q.0 q.1);
    all = λ v p (k, under, is). absurd (omega (arith, under));
    different = λ i j d before under. absurd (omega (arith, under));
    may_end = ((λ is. inl (decides.0 is)), to);
  }
    where
      to : Ends game.rules f [] ⊎ SomeLeadsToEnd game s [] → ends ≡ true
      to (inl h) = decides.1 h
      to (inr h) = let (k, under, is) = h.there in absurd (omega (arith, under))

  -- What holds of the pair that is done last, and of each before, holds of each.
  pushed : (P : ℕ → ℕ → Type 0) (done : List (ℕ × ℕ)) (v q : ℕ) → P v q → ((w r : ℕ) → Contains done (w, r) → P w r) → (w r : ℕ) → Contains (done ++ (v, q) ∷ []) (w, r) → P w r
  pushed P done v q here before w r h = elim (Contains-push_cases done (v, q) (w, r) h) [
    | inl earlier ↦ before w r earlier
    | inr same ↦ let Q : ℕ × ℕ → Type 0 = λ x. P x.0 x.1 in subst Q same here
  ]

  -- What is found by one more pair: nothing, or the pair itself.
  FoundBy : (done found new : List (ℕ × ℕ)) (v q : ℕ) → Type 0
  FoundBy done found new v q = ((¬ IsFound game s f v q) × (new ≡ found)) ⊎ (IsFound game s f v q × (¬ Contains done (v, q)) × (new ≡ found ++ (v, q) ∷ []))

  -- One more pair is done.
  step_part : (xs ys done found new : List (ℕ × ℕ)) (ends ends' : Bool) (v q : ℕ) → IsPart game s f xs done found ends → ((x : ℕ × ℕ) → Contains xs x → Contains ys x) → All (λ x. IsReached game s f x.0 x.1) ys → ((u p : ℕ) → Leads game s v q u → Follows game.rules (after q) (p ∷ []) → Contains ys (u, p)) → FoundBy done found new v q → Decides ends' ((Ends game.rules f [] ⊎ SomeLeadsToEnd game s done) ⊎ LeadsToEnd game s v q) → IsPart game s f ys (done ++ (v, q) ∷ []) new ends'
  unfolding FoundBy
  step_part xs ys done found new ends ends' v q part keeps sound closed found_by decides = record {
    sound = sound;
    begun = λ p follows. keeps (s.vertex, p) (part.begun p follows);
    closed = λ w r u p h leads follows. pushed (λ w r. Leads game s w r u → Follows game.rules (after r) (p ∷ []) → Contains ys (u, p)) done v q (closed u p) (λ w r earlier leads follows. keeps (u, p) (part.closed w r u p earlier leads follows)) w r h leads follows;
    among = among found_by;
    valid = valid found_by;
    all = λ w r h. pushed (λ w r. IsFound game s f w r → Contains new (w, r)) done v q (here found_by) (λ w r earlier is. still found_by (w, r) (part.all w r earlier is)) w r h;
    different = different found_by;
    may_end = ((λ is. to (decides.0 is)), (λ h. decides.1 (from h)));
  }
    where
      later : (x : ℕ × ℕ) → Contains done x → Contains (done ++ (v, q) ∷ []) x
      later x h = Contains-append_left done ((v, q) ∷ []) x h

      among : FoundBy done found new v q → All (Contains (done ++ (v, q) ∷ [])) new
      among (inl (none, same)) = subst (All (Contains (done ++ (v, q) ∷ []))) (sym same) (All-weaker (Contains done) (Contains (done ++ (v, q) ∷ [])) later found part.among)
      among (inr (is, once, same)) =
          subst (All (Contains (done ++ (v, q) ∷ []))) (sym same)
          (All-push (Contains (done ++ (v, q) ∷ [])) found (v, q) (All-weaker (Contains done) (Contains (done ++ (v, q) ∷ [])) later found part.among) (Contains-push done (v, q)))

      valid : FoundBy done found new v q → All (λ x. IsFound game s f x.0 x.1) new
      valid (inl (none, same)) = subst (All (λ x. IsFound game s f x.0 x.1)) (sym same) part.valid
      valid (inr (is, once, same)) = subst (All (λ x. IsFound game s f x.0 x.1)) (sym same) (All-push (λ x. IsFound game s f x.0 x.1) found (v, q) part.valid is)

      still : FoundBy done found new v q → (x : ℕ × ℕ) → Contains found x → Contains new x
      still (inl (none, same)) x h = subst (λ (zs : List (ℕ × ℕ)). Contains zs x) (sym same) h
      still (inr (is, once, same)) x h = subst (λ (zs : List (ℕ × ℕ)). Contains zs x) (sym same) (Contains-append_left found ((v, q) ∷ []) x h)

      here : FoundBy done found new v q → IsFound game s f v q → Contains new (v, q)
      here (inl (none, same)) is = absurd (none is)
      here (inr (_, once, same)) is = subst (λ (zs : List (ℕ × ℕ)). Contains zs (v, q)) (sym same) (Contains-push found (v, q))

      different : FoundBy done found new v q → AllPairs (λ a b. a ≢ b) new
      different (inl (none, same)) = subst (AllPairs (λ a b. a ≢ b)) (sym same) part.different
      different (inr (is, once, same)) =
          subst (AllPairs (λ a b. a ≢ b)) (sym same)
          (all_pairs_push (λ a b. a ≢ b) found (v, q) part.different
          (λ k d under equal. once (subst (Contains done) equal (All-contains (Contains done) found (get_or found k d) part.among (Contains-get_or found k d under)))))

      to : (Ends game.rules f [] ⊎ SomeLeadsToEnd game s done) ⊎ LeadsToEnd game s v q → Ends game.rules f [] ⊎ SomeLeadsToEnd game s (done ++ (v, q) ∷ [])
      to (inl (inl ends)) = inl ends
      to (inl (inr some)) = inr (record { vertex = some.vertex; position = some.position; there = later (some.vertex, some.position) some.there; leads = some.leads })
      to (inr leads) = inr (record { vertex = v; position = q; there = Contains-push done (v, q); leads = leads })

      from : Ends game.rules f [] ⊎ SomeLeadsToEnd game s (done ++ (v, q) ∷ []) → (Ends game.rules f [] ⊎ SomeLeadsToEnd game s done) ⊎ LeadsToEnd game s v q
      from (inl ends) = inl (inl ends)
      from (inr some) =
          pushed (λ w r. LeadsToEnd game s w r → (Ends game.rules f [] ⊎ SomeLeadsToEnd game s done) ⊎ LeadsToEnd game s v q) done v q
          (λ leads. inr leads) (λ w r earlier leads. inl (inr (record { vertex = w; position = r; there = earlier; leads = leads })))
          some.vertex some.position some.there some.leads

  -- A pair that is invalid leads nowhere.
  pub invalid_part : (xs done found : List (ℕ × ℕ)) (ends : Bool) (v q : ℕ) → IsPart game s f xs done found ends → IsTrialAt game s v q Invalid → IsPart game s f xs (done ++ (v, q) ∷ []) found ends
  unfolding FoundBy
  invalid_part xs done found ends v q part invalid =
      step_part xs xs done found found ends ends v q part (λ x h. h) part.sound
      (λ u p leads follows. absurd (invalid (at_vertex s u) leads.applies))
      (inl ((λ is. invalid is.later is.applies), refl))
      ((λ is. inl (part.may_end.0 is)), to)
    where
      to : (Ends game.rules f [] ⊎ SomeLeadsToEnd game s done) ⊎ LeadsToEnd game s v q → ends ≡ true
      to (inl h) = part.may_end.1 h
      to (inr leads) = absurd (invalid (at_vertex s leads.to) leads.leads.applies)

  -- A modifier is found.
  pub modifier_part : (xs done found : List (ℕ × ℕ)) (ends : Bool) (v q : ℕ) → IsPart game s f xs done found ends → Contains xs (v, q) → ¬ Contains done (v, q) → IsTrialAt game s v q Modifies → IsPart game s f xs (done ++ (v, q) ∷ []) (found ++ (v, q) ∷ []) ends
  unfolding FoundBy
  modifier_part xs done found ends v q part there once (modifies, (t, applies)) =
      step_part xs xs done found (found ++ (v, q) ∷ []) ends ends v q part (λ x h. h) part.sound
      (λ u p leads follows. absurd (leads.quiet modifies))
      (inr (record { later = t; reached = All-contains (λ x. IsReached game s f x.0 x.1) xs (v, q) part.sound there; modifies = modifies; applies = applies }, once, refl))
      ((λ is. inl (part.may_end.0 is)), to)
    where
      to : (Ends game.rules f [] ⊎ SomeLeadsToEnd game s done) ⊎ LeadsToEnd game s v q → ends ≡ true
      to (inl h) = part.may_end.1 h
      to (inr leads) = absurd (leads.leads.quiet modifies)

  -- What may come after an action that leads on is met.
  pub leads_part : (xs ys done found : List (ℕ × ℕ)) (ends last : Bool) (v q u : ℕ) (ps : List ℕ) → IsPart game s f xs done found ends → Contains xs (v, q) → IsTrialAt game s v q (LeadsTo u) → AreAllThatFollow game.rules (after q) ps → MeetsAll xs ys u ps → Decides last (Ends game.rules (after q) []) → IsPart game s f ys (done ++ (v, q) ∷ []) found (ends || last)
  unfolding FoundBy
  leads_part xs ys done found ends last v q u ps part there (leads, only) follow meets decides =
      step_part xs ys done found found ends (ends || last) v q part (kept xs ys u ps meets)
      (new_sound xs ys u ps meets (λ p h. then reached leads ((follow.exact p).0 h)) part.sound)
      (λ w p other follows. subst (λ (x : ℕ). Contains ys (x, p)) (sym (only w other)) (All-contains (λ r. Contains ys (u, r)) ps p meets.all ((follow.exact p).1 follows)))
      (inl ((λ is. leads.quiet is.modifies), refl))
      (Decides-or ends last part.may_end ends_here)
    where
      reached : IsReached game s f v q
      reached = All-contains (λ x. IsReached game s f x.0 x.1) xs (v, q) part.sound there

      ends_here : Decides last (LeadsToEnd game s v q)
      ends_here = ((λ is. record { to = u; leads = leads; ends = decides.0 is }), (λ h. decides.1 h.ends))

  -- The same where no word may end after the action.
  pub quiet_lead_part : (xs ys done found : List (ℕ × ℕ)) (ends : Bool) (v q u : ℕ) (ps : List ℕ) → IsPart game s f xs done found ends → Contains xs (v, q) → IsTrialAt game s v q (LeadsTo u) → AreAllThatFollow game.rules (after q) ps → MeetsAll xs ys u ps → ¬ Ends game.rules (after q) [] → IsPart game s f ys (done ++ (v, q) ∷ []) found ends
  quiet_lead_part xs ys done found ends v q u ps part there trial follow meets quiet =
      subst (IsPart game s f ys (done ++ (v, q) ∷ []) found) (or-false ends)
      (leads_part xs ys done found ends false v q u ps part there trial follow meets ((λ is. absurd (false_not_true is)), (λ h. absurd (quiet h))))
    where
      false_not_true : false ≡ true → ⊥
      false_not_true e = cc

      or-false : (b : Bool) → (b || false) ≡ b
      or-false true = refl
      or-false false = refl

  -- When each pair is done, the part is whole.
  module _ (numbered : IsNumbered game.rules) (xs found : List (ℕ × ℕ)) (ends : Bool) (part : IsPart game s f xs xs found ends) where
    pub all_met : (v p : ℕ) → IsReached game s f v p → Contains xs (v, p)
    all_met v p (first same follows) = subst (λ (w : ℕ). Contains xs (w, p)) (sym same) (part.begun p follows)
    all_met v p (then {v = w} {q = q} here leads follows) = part.closed w q v p (all_met w q here) leads follows

    ends_flat : Ends game.rules f [] ⊎ SomeLeadsToEnd game s xs → EndsFlat game s f
    ends_flat (inl ends) = inl ends
    ends_flat (inr some) = inr (record { vertex = some.vertex; position = some.position; reached = All-contains (λ x. IsReached game s f x.0 x.1) xs (some.vertex, some.position) part.sound some.there; leads = some.leads })

    flat_ends : EndsFlat game s f → Ends game.rules f [] ⊎ SomeLeadsToEnd game s xs
    flat_ends (inl ends) = inl ends
    flat_ends (inr end) = inr (record { vertex = end.vertex; position = end.position; there = all_met end.vertex end.position end.reached; leads = end.leads })

    pub whole_part : IsFlatPart game s f found ends
    whole_part = record {
      next = λ v p. (
        (λ h. found_next game numbered s f v p (All-contains (λ x. IsFound game s f x.0 x.1) found (v, p) part.valid h)),
        (λ next. let is = next_found game numbered s f v p next in part.all v p (all_met v p is.reached) is),
      );
      different = part.different;
      may_end = (
        (λ is. flat_may_end game numbered s f (ends_flat (part.may_end.0 is))),
        (λ may. part.may_end.1 (flat_ends (may_end_flat game numbered s f may))),
      );
    }

-- The positions that follow stand in the rules.
pub followers_within : (rules : Expression) → IsNumbered rules → (f : Start) (ps : List ℕ) → AreAllThatFollow rules f ps → All (IsPositionOf rules) ps
followers_within rules numbered f ps follow =
    All-weaker (Contains ps) (IsPositionOf rules) (λ p h. follower_position rules numbered f p ((follow.exact p).0 h)) ps (All-contains_itself ps)
