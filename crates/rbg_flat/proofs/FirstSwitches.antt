-- The first switch among modifiers that are kept by words.
use Rattle.rbg_base.proofs.Common.{◌≡◌, ◌⊎◌, ◌<◌, ◌+◌, ℕ, List, Option, Some, None, All, Contains, take, length, get_or, IfSome, IfNone, inl, inr, sym, ap, subst, arith, take_more, All-push, All-weaker, All-contains, All-contains_itself, Contains-get_or, Contains-push_cases}
use Rattle.rbg_rules.specs.Meaning.{Expression, IsSwitchAt}
use Rattle.rbg_flat.proofs.Common.{IsBefore, pairs_in, first_of, first_at, IsFilled, Word}
use Rattle.rbg_flat.proofs.Spellings.{in_flat, of_flat, first_there, first_least, position_of, not_sooner}

-- The first pair of a word is one of all.
pub first_among : (words : List Word) (k : ℕ) (d : Word) → All IsFilled words → k < length words → Contains (pairs_in words) (first_of (get_or words k d))
first_among words k d filled under = of_flat words (get_or words k d) (first_of (get_or words k d)) (Contains-get_or words k d under) (first_there (get_or words k d) (filled k d under))

-- Of the words so far: the known pair is the least one that is a switch.
pub record IsKnown (rules : Expression) (pairs : List (ℕ × ℕ)) (seen : List Word) (q : ℕ × ℕ) : Type 0 where
  pub there : Contains pairs q
  pub switches : IsSwitchAt rules q.1
  pub least : (w : Word) → Contains seen w → IsSwitchAt rules w.position → ¬ IsBefore (first_of w) q

abbrev pub NoSwitch : Expression → List Word → Type 0
NoSwitch rules seen = All (λ (w : Word). ¬ IsSwitchAt rules w.position) seen

abbrev pub IsLeastSoFar : Expression → List (ℕ × ℕ) → List Word → Option (ℕ × ℕ) → Type 0
IsLeastSoFar rules pairs seen known = IfSome known (IsKnown rules pairs seen) × IfNone known (NoSwitch rules seen)

module _ (rules : Expression) (pairs : List (ℕ × ℕ)) (words : List Word) (k : ℕ) (d : Word) (under : k < length words) where
  abbrev here : Word
  here = get_or words k d

  cases_so_far : (v : Word) → Contains (take (k + 1) words) v → Contains (take k words) v ⊎ (here ≡ v)
  cases_so_far v there = Contains-push_cases (take k words) here v (subst (λ (ws : List Word). Contains ws v) (take_more words k d under) there)

  -- One word more, without a switch.
  pub known_still : (known : Option (ℕ × ℕ)) → ¬ IsSwitchAt rules here.position → IsLeastSoFar rules pairs (take k words) known → IsLeastSoFar rules pairs (take (k + 1) words) known
  known_still None plain is = (tt, subst (NoSwitch rules) (sym (take_more words k d under)) (All-push (λ (w : Word). ¬ IsSwitchAt rules w.position) (take k words) here is.1 plain))
  known_still (Some q) plain is = (record { there = is.0.there; switches = is.0.switches; least = least }, tt)
    where
      least : (v : Word) → Contains (take (k + 1) words) v → IsSwitchAt rules v.position → ¬ IsBefore (first_of v) q
      least v there switches = elim (cases_so_far v there) [
        | inl earlier ↦ is.0.least v earlier switches
        | inr same ↦ absurd (plain (subst (λ (u : Word). IsSwitchAt rules u.position) (sym same) switches))
      ]

  -- One word more, with a switch.
  pub known_more : (known : Option (ℕ × ℕ)) (r : ℕ × ℕ) → Contains pairs (first_of here) → IsSwitchAt rules here.position → (r ≡ first_of here) ⊎ (known ≡ Some r) → ¬ IsBefore (first_of here) r → IfSome known (λ q. ¬ IsBefore q r) → IsLeastSoFar rules pairs (take k words) known → IsLeastSoFar rules pairs (take (k + 1) words) (Some r)
  known_more known r among switches either new old is = (record { there = there known either is; switches = switching known either is; least = least }, tt)
    where
      there : (known : Option (ℕ × ℕ)) → (r ≡ first_of here) ⊎ (known ≡ Some r) → IsLeastSoFar rules pairs (take k words) known → Contains pairs r
      there known (inl same) is = subst (Contains pairs) (sym same) among
      there None (inr same) is = absurd cc
      there (Some q) (inr same) is = let one : q ≡ r = cc in subst (Contains pairs) one is.0.there

      switching : (known : Option (ℕ × ℕ)) → (r ≡ first_of here) ⊎ (known ≡ Some r) → IsLeastSoFar rules pairs (take k words) known → IsSwitchAt rules r.1
      switching known (inl same) is = subst (λ (q : ℕ × ℕ). IsSwitchAt rules q.1) (sym same) switches
      switching None (inr same) is = absurd cc
      switching (Some q) (inr same) is = let one : q ≡ r = cc in subst (λ (x : ℕ × ℕ). IsSwitchAt rules x.1) one is.0.switches

      earlier : (known : Option (ℕ × ℕ)) → IfSome known (λ q. ¬ IsBefore q r) → IsLeastSoFar rules pairs (take k words) known → (v : Word) → Contains (take k words) v → IsSwitchAt rules v.position → ¬ IsBefore (first_of v) r
      earlier None old is v there switch = absurd (All-contains (λ (w : Word). ¬ IsSwitchAt rules w.position) (take k words) v is.1 there switch)
      earlier (Some q) old is v there switch = not_sooner (first_of v) q r (is.0.least v there switch) old

      least : (v : Word) → Contains (take (k + 1) words) v → IsSwitchAt rules v.position → ¬ IsBefore (first_of v) r
      least v there switch = elim (cases_so_far v there) [
        | inl sooner ↦ earlier known old is v sooner switch
        | inr same ↦ subst (λ (u : Word). ¬ IsBefore (first_of u) r) same new
      ]

-- What is so of the words is so of their pairs.
module _ (rules : Expression) (words : List Word) (filled : All IsFilled words) where
  pub least_of_pairs : (q : ℕ × ℕ) → IsKnown rules (pairs_in words) words q → (x : ℕ × ℕ) → Contains (pairs_in words) x → IsSwitchAt rules x.1 → ¬ IsBefore x q
  least_of_pairs q known x there switches =
      let found = in_flat words x there in
      let w = found.0 in
      not_sooner x (first_of w) q (first_least w (All-contains IsFilled words w filled found.1) x found.2)
      (known.least w found.1 (subst (IsSwitchAt rules) (sym (position_of w x found.2)) switches))

  pub none_of_pairs : NoSwitch rules words → All (λ (q : ℕ × ℕ). ¬ IsSwitchAt rules q.1) (pairs_in words)
  none_of_pairs none = All-weaker (Contains (pairs_in words)) (λ (q : ℕ × ℕ). ¬ IsSwitchAt rules q.1) one (pairs_in words) (All-contains_itself (pairs_in words))
    where
      one : (q : ℕ × ℕ) → Contains (pairs_in words) q → ¬ IsSwitchAt rules q.1
      one q there switches =
          let found = in_flat words q there in
          All-contains (λ (w : Word). ¬ IsSwitchAt rules w.position) words found.0 none found.1 (subst (IsSwitchAt rules) (sym (position_of found.0 q found.2)) switches)

-- What was known in the end.
pub at_end : (rules : Expression) (words : List Word) (filled : All IsFilled words) (known : Option (ℕ × ℕ)) → IsLeastSoFar rules (pairs_in words) words known → IfSome known (Contains (pairs_in words)) × IfSome known (λ q. IsSwitchAt rules q.1) × IfSome known (λ q. (x : ℕ × ℕ) → Contains (pairs_in words) x → IsSwitchAt rules x.1 → ¬ IsBefore x q) × IfNone known (All (λ (q : ℕ × ℕ). ¬ IsSwitchAt rules q.1) (pairs_in words))
at_end rules words filled None is = (tt, tt, tt, none_of_pairs rules words filled is.1)
at_end rules words filled (Some q) is = (is.0.there, is.0.switches, least_of_pairs rules words filled q is.0, tt)

-- The first pair of the word at a known place.
abbrev pub told : List Word → Option ℕ → Option (ℕ × ℕ)
told words None = None
told words (Some k) = Some (first_at words k)

pub if_told : (P : ℕ × ℕ → Type 0) (words : List Word) (known : Option ℕ) → IfSome known (λ k. P (first_at words k)) → IfSome (told words known) P
if_told P words None is = tt
if_told P words (Some k) is = is

pub told_some : (P : ℕ × ℕ → Type 0) (words : List Word) (known : Option ℕ) → IfSome (told words known) P → IfSome known (λ k. P (first_at words k))
told_some P words None is = tt
told_some P words (Some k) is = is

pub told_none : (P : Type 0) (words : List Word) (known : Option ℕ) → IfNone (told words known) P → IfNone known P
told_none P words None is = is
told_none P words (Some k) is = tt

pub told_either : (words : List Word) (known : Option ℕ) (k r : ℕ) → (r ≡ k) ⊎ (known ≡ Some r) → (first_at words r ≡ first_at words k) ⊎ (told words known ≡ Some (first_at words r))
told_either words known k r (inl same) = inl (ap (first_at words) same)
told_either words known k r (inr same) = inr (ap (told words) same)

pub either_below : (n : ℕ) (known : Option ℕ) (k r : ℕ) → k < n → IfSome known (λ j. j < n) → (r ≡ k) ⊎ (known ≡ Some r) → r < n
either_below n known k r under below (inl same) = omega (arith, under, same)
either_below n None k r under below (inr same) = absurd cc
either_below n (Some j) k r under below (inr same) = let one : j ≡ r = cc in subst (λ (i : ℕ). i < n) one below

-- What is so of the first pair of the word at a place is so of the pair that was taken there.
pub taken_at : (P : List (ℕ × ℕ) → ℕ × ℕ → Type 0) (words lent : List Word) (pairs : List (ℕ × ℕ)) (k : ℕ) (q : ℕ × ℕ) → lent ≡ words → pairs_in words ≡ pairs → P (pairs_in lent) (first_at lent k) → q ≡ first_at words k → P pairs q
taken_at P words lent pairs k q same is first taken =
    subst (λ (ps : List (ℕ × ℕ)). P ps q) is
    (subst (P (pairs_in words)) (sym taken) (subst (λ (ws : List Word). P (pairs_in ws) (first_at ws k)) same first))
