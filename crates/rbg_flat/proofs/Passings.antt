-- At which vertices of a word an action passes.
use Rattle.rbg_base.proofs.Common.{◌≡◌, ◌≢◌, ℕ, ◌+◌, ◌<◌, ◌⊎◌, inl, inr, List, [], ◌∷◌, ◌++◌, length, get_or, take, sym, ap, subst, ◌∙◌, arith, ◌↔◌, bit_or, bit_and, Contains, slice_get, Some, bit_at, ℕ_discrete, take_more, Contains-push, Contains-push_cases, Contains-append_left, bit_at_and, bit_at-zero, get_or_from_slice_get, slice_get-get_or, true, false}
use Rattle.rbg_rules.specs.Meaning.{on, comparison, AbstractArithmetic, Acts, IsModifierAt, IsNumbered, HasAction, is_modifier, AbstractGame, AbstractState}
use Rattle.rbg_base.specs.declared.relation.Relation.{Relation}
use Rattle.rbg_state.proofs.Trying.{same_value}
use Rattle.rbg_rules.proofs.MoveLemmas.{applied_acts}
use Rattle.rbg_rules.proofs.PositionLemmas.{one_action_at}
use Rattle.rbg_flat.proofs.Common.{Holds, IsOneOf}
use Rattle.rbg_shifts.proofs.Bits.{either_bit, first_bit, second_bit}

-- One bit less is left: of its vertex it is told now.
module _
    (Good : ℕ → Type 0) (word passed rest bit rest' : ℕ)
    (set : bit_at rest bit ≡ 1)
    (still : (b : ℕ) → bit_at rest b ≡ 1 → bit_at passed b ≡ 1)
    (told : (b : ℕ) → b < 64 → bit_at word b ≡ 1 → bit_at rest b ≡ 0 → (bit_at passed b ≡ 1) ↔ Good b)
    (gone : bit_at rest' bit ≡ 0)
    (only : (b : ℕ) → bit_at rest' b ≡ 1 → bit_at rest b ≡ 1)
    (others : (b : ℕ) → b ≢ bit → bit_at rest' b ≡ bit_at rest b)
  where
    pub stays : Good bit → (b : ℕ) → b < 64 → bit_at word b ≡ 1 → bit_at rest' b ≡ 0 → (bit_at passed b ≡ 1) ↔ Good b
    stays good b below in_word past = elim (ℕ_discrete b bit) [
      | yes same ↦ (λ _. subst Good (sym same) good, λ _. subst (λ (k : ℕ). bit_at passed k ≡ 1) (sym same) (still bit set))
      | no other ↦ told b below in_word (sym (others b other) ∙ past)
    ]

    other_than : (b : ℕ) → bit_at rest' b ≡ 1 → b ≢ bit
    other_than b there same = not_both gone (subst (λ (k : ℕ). bit_at rest' k ≡ 1) same there)
      where
        not_both : {n : ℕ} → n ≡ 0 → n ≡ 1 → ⊥
        not_both none one = omega (arith, none, one)

    pub still_left : (passed' : ℕ) → ((b : ℕ) → b ≢ bit → bit_at passed' b ≡ bit_at passed b) → (b : ℕ) → bit_at rest' b ≡ 1 → bit_at passed' b ≡ 1
    still_left passed' kept b there = kept b (other_than b there) ∙ still b (only b there)

    pub falls : (¬ Good bit) → (passed' : ℕ) → bit_at passed' bit ≡ 0 → ((b : ℕ) → b ≢ bit → bit_at passed' b ≡ bit_at passed b) → (b : ℕ) → b < 64 → bit_at word b ≡ 1 → bit_at rest' b ≡ 0 → (bit_at passed' b ≡ 1) ↔ Good b
    falls bad passed' none kept b below in_word past = elim (ℕ_discrete b bit) [
      | yes same ↦ (λ there. absurd (not_both none (subst (λ (k : ℕ). bit_at passed' k ≡ 1) same there)), λ good. absurd (bad (subst Good same good)))
      | no other ↦
          let so_far = told b below in_word (sym (others b other) ∙ past) in
          (λ there. so_far.0 (sym (kept b other) ∙ there), λ good. kept b other ∙ so_far.1 good)
    ]
      where
        not_both : {n : ℕ} → n ≡ 0 → n ≡ 1 → ⊥
        not_both zero_bit one = omega (arith, zero_bit, one)

-- A piece more.
pub one_of_more : (wanted pieces : List ℕ) (i v word more b : ℕ) → i < length wanted → ((bit_at word b ≡ 1) ↔ IsOneOf (take i wanted) pieces v) → ((bit_at more b ≡ 1) ↔ (slice_get pieces v ≡ Some (get_or wanted i 0))) → (bit_at (bit_or word more) b ≡ 1) ↔ IsOneOf (take (i + 1) wanted) pieces v
one_of_more wanted pieces i v word more b below so_far next = (to, of)
  where
    one_more : take (i + 1) wanted ≡ take i wanted ++ get_or wanted i 0 ∷ []
    one_more = take_more wanted i 0 below

    to_case : (bit_at word b ≡ 1) ⊎ (bit_at more b ≡ 1) → IsOneOf (take (i + 1) wanted) pieces v
    to_case (inl was) =
        let one = so_far.0 was in
        record { piece = one.piece; listed = subst (λ (xs : List ℕ). Contains xs one.piece) (sym one_more) (Contains-append_left (take i wanted) (get_or wanted i 0 ∷ []) one.piece one.listed); stands = one.stands }
    to_case (inr set) =
        record { piece = get_or wanted i 0; listed = subst (λ (xs : List ℕ). Contains xs (get_or wanted i 0)) (sym one_more) (Contains-push (take i wanted) (get_or wanted i 0)); stands = next.0 set }

    to : bit_at (bit_or word more) b ≡ 1 → IsOneOf (take (i + 1) wanted) pieces v
    to set = to_case (either_bit word more b set)

    of : IsOneOf (take (i + 1) wanted) pieces v → bit_at (bit_or word more) b ≡ 1
    of one = of_case (Contains-push_cases (take i wanted) (get_or wanted i 0) one.piece (subst (λ (xs : List ℕ). Contains xs one.piece) one_more one.listed))
      where
        of_case : Contains (take i wanted) one.piece ⊎ (get_or wanted i 0 ≡ one.piece) → bit_at (bit_or word more) b ≡ 1
        of_case (inl there) = first_bit word more b (so_far.1 (record { piece = one.piece; listed = there; stands = one.stands }))
        of_case (inr same) = second_bit word more b (next.1 (subst (λ (x : ℕ). slice_get pieces v ≡ Some x) (sym same) one.stands))

pub bit_of_both : (a b k : ℕ) → bit_at a k ≡ 1 → bit_at b k ≡ 1 → bit_at (bit_and a b) k ≡ 1
bit_of_both a b k one other =
    let all = bit_at_and a b k in
    grind (arith, one, other, all)

pub bit_of_second : (a b k : ℕ) → bit_at (bit_and a b) k ≡ 1 → bit_at b k ≡ 1
bit_of_second a b k is =
    let all = bit_at_and a b k in
    let one = min_one in
    one
  where
    min_one : bit_at b k ≡ 1
    min_one = grind (arith, is, bit_at_and a b k, Rattle.std.proofs.lemmas.Nat.Bits.bit_at-lt b k, Rattle.std.proofs.lemmas.Nat.Bits.bit_at-lt a k)

-- An on passes where one of its pieces stands.
module _ (game : AbstractGame) (numbered : IsNumbered game.rules) (s : AbstractState) (q : ℕ) (wanted : List ℕ) (stands : HasAction game.rules q (on wanted)) where
  true_not_false : true ≡ false → ⊥
  true_not_false e = cc

  quiet : ¬ IsModifierAt game.rules q
  quiet m = true_not_false (sym m.modifies ∙ ap is_modifier (one_action_at game.rules numbered q m.action (on wanted) m.stands stands))

  pub on_passes : (v : ℕ) → IsOneOf wanted s.pieces v → Holds game s v q
  on_passes v one = record {
    to = v;
    quiet = quiet;
    applies = record { action = on wanted; stands = stands; acts = (subst (λ (x : ℕ). Contains wanted x) (sym (get_or_from_slice_get s.pieces v one.piece 0 one.stands)) one.listed, Rattle.std.proofs.Common.refl) };
  }

  pub passes_on : (v : ℕ) → v < length s.pieces → Holds game s v q → IsOneOf wanted s.pieces v
  passes_on v below passes =
      let acts = applied_acts game numbered q (on wanted) stands passes.applies in
      record { piece = get_or s.pieces v 0; listed = acts.0; stands = slice_get-get_or s.pieces v 0 below }

-- A word of bits is filled, one bit after another.
pub no_bits : (Good : ℕ → Type 0) (b : ℕ) → (bit_at 0 b ≡ 1) ↔ ((b < 0) × Good b)
no_bits Good b = (λ set. let clear = bit_at-zero b in absurd (omega (arith, set, clear)), λ is. let none = is.0 in absurd (omega (arith, none)))

module _
    (Good : ℕ → Type 0) (word bit : ℕ)
    (so_far : (b : ℕ) → (bit_at word b ≡ 1) ↔ ((b < bit) × Good b))
  where
    pub one_bit_more : (unit : ℕ) → ((b : ℕ) → bit_at unit b ≡ 1 → b ≡ bit) → bit_at unit bit ≡ 1 → Good bit → (b : ℕ) → (bit_at (bit_or word unit) b ≡ 1) ↔ ((b < bit + 1) × Good b)
    one_bit_more unit only set good b = (λ is. to_case (either_bit word unit b is), λ is. of_case is.0 is.1)
      where
        to_case : (bit_at word b ≡ 1) ⊎ (bit_at unit b ≡ 1) → (b < bit + 1) × Good b
        to_case (inl was) = let before = ((so_far b).0 was).0 in (omega (arith, before), ((so_far b).0 was).1)
        to_case (inr here) = let same = only b here in (omega (arith, same), subst Good (sym same) good)

        of_case : b < bit + 1 → Good b → bit_at (bit_or word unit) b ≡ 1
        of_case below is = elim (ℕ_discrete b bit) [
          | yes same ↦ second_bit word unit b (subst (λ (k : ℕ). bit_at unit k ≡ 1) (sym same) set)
          | no other ↦ first_bit word unit b ((so_far b).1 (omega (arith, below, other), is))
        ]

    pub no_bit_more : (¬ Good bit) → (b : ℕ) → (bit_at word b ≡ 1) ↔ ((b < bit + 1) × Good b)
    no_bit_more bad b = (
      λ was. let before = ((so_far b).0 was).0 in (omega (arith, before), ((so_far b).0 was).1),
      λ is. elim (ℕ_discrete b bit) [
        | yes same ↦ absurd (bad (subst Good same is.1))
        | no other ↦ let below = is.0 in (so_far b).1 (omega (arith, below, other), is.1)
      ],
    )

-- A comparison that passes at one vertex passes at each.
pub compares_everywhere : (game : AbstractGame) → IsNumbered game.rules → (s : AbstractState) (p : ℕ) (e : AbstractArithmetic) (r : Relation) (f : AbstractArithmetic) → HasAction game.rules p (comparison e r f) → (v w : ℕ) → Holds game s v p → Holds game s w p
compares_everywhere game numbered s p e r f stands v w passes = by_acts (applied_acts game numbered p (comparison e r f) stands passes.applies)
  where
    by_acts : Acts game (comparison e r f) (record s { vertex = v }) (record s { vertex = passes.to }) → Holds game s w p
    by_acts (x, y, left, right, relates, same) = record {
      to = w;
      quiet = passes.quiet;
      applies = record {
        action = comparison e r f;
        stands = stands;
        acts = (x, y, same_value e s w ∙ sym (same_value e s v) ∙ left, same_value f s w ∙ sym (same_value f s v) ∙ right, relates, Rattle.std.proofs.Common.refl);
      };
    }

no_index : (k : ℕ) → k < 0 → ⊥
no_index k h = omega (arith, h)

-- A bit tells of one piece, or of either of two.
pub one_piece : (x : ℕ) (pieces : List ℕ) (v : ℕ) (A : Type 0) → A ↔ (slice_get pieces v ≡ Some x) → A ↔ IsOneOf (x ∷ []) pieces v
one_piece x pieces v A told = (
  λ is. record { piece = x; listed = Contains-push [] x; stands = told.0 is },
  λ one. told.1 (subst (λ (k : ℕ). slice_get pieces v ≡ Some k) (same one.piece one.listed) one.stands),
)
  where
    same : (y : ℕ) → Contains (x ∷ []) y → y ≡ x
    same y listed = by_case (Contains-push_cases [] x y listed)
      where
        by_case : Contains [] y ⊎ (x ≡ y) → y ≡ x
        by_case (inl there) = absurd (no_index there.0 there.1)
        by_case (inr is) = sym is

pub either_piece : (x y : ℕ) (pieces : List ℕ) (v one other b : ℕ) → (bit_at one b ≡ 1) ↔ (slice_get pieces v ≡ Some x) → (bit_at other b ≡ 1) ↔ (slice_get pieces v ≡ Some y) → (bit_at (bit_or one other) b ≡ 1) ↔ IsOneOf (x ∷ y ∷ []) pieces v
either_piece x y pieces v one other b told told_other = one_of_more (x ∷ y ∷ []) pieces 1 v one other b (omega arith) (one_piece x pieces v (bit_at one b ≡ 1) told) told_other
