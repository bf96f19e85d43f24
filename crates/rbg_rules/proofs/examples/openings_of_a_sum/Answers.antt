-- The proof of `examples::openings_of_a_sum`.
use Rattle.std.proofs.Common.{◌≡◌, ℕ, List, [], ◌∷◌, ◌++◌, refl, inl, inr, sym, ap, subst, ◌⊎◌, arith, All, Contains}
use Rattle.rbg_rules.specs.Meaning.{off, switch, act, choice_of, HasAction, IsNumbered, IsSwitchAt, HasNoSwitch, outermost, after, Follows, Word, AbstractState, RunPairs, stay, modify, pass, IsJoinOfWords, Item, modifier_at, Opening, at, beyond, GoesTo, AnswersAfter, find_move, items_of, is_pattern, Expression}
use Rattle.rbg_rules.specs.ExampleGames.{small_sum}
use Rattle.rbg_rules.proofs.ActionsAt.{none_such, no_switch_at, no_switches, no_pattern_at, ModifiesAt, not_quiet}
use Rattle.rbg_rules.proofs.ExampleLemmas.{only_nothing, all_of_one, no_pairs, one_pair, remains, all_among}
use Rattle.rbg_rules.proofs.Threes.{all_three, three_apart}
use Rattle.rbg_rules.proofs.ExampleStates.{start, with_piece}
use Rattle.rbg_rules.proofs.examples.openings_of_a_sum.Goals as goal

numbered : IsNumbered small_sum.rules
numbered = record { in_order = refl }

puts_e : HasAction small_sum.rules 2 (off 0)
puts_e = inl (inr (inl (inr (inl (refl, refl)))))

puts_w : HasAction small_sum.rules 3 (off 1)
puts_w = inl (inr (inr (inl (refl, refl))))

switches : IsSwitchAt small_sum.rules 4
switches = record { player = 2; stands = inr (inl (refl, refl)) }

abbrev parts : List Expression
parts = choice_of (act 2 (off 0) ∷ act 3 (off 1) ∷ []) ∷ act 4 (switch 2) ∷ []

-- What follows the first switch begins one of two lists.
record Begins (m : List ℕ) : Type 0 where
  back : List ℕ
  one_of_two : (m ++ back ≡ 2 ∷ 4 ∷ []) ⊎ (m ++ back ≡ 3 ∷ 4 ∷ [])

rest_of : (w : List ℕ) → IsJoinOfWords parts w → (w ≡ 2 ∷ 4 ∷ []) ⊎ (w ≡ 3 ∷ 4 ∷ [])
rest_of w (u, v, inl (inl none), others, e) = absurd none
rest_of w (u, v, inl (inr two), (x, y, four, none, f), e) = inl cc
rest_of w (u, v, inr three, (x, y, four, none, f), e) = inr cc

begins : (m : List ℕ) → Follows small_sum.rules (after 1) m → Begins m
begins m follows =
    let rest = remains 1 (switch 1) parts numbered (inl (inl (inr (refl, refl)))) refl m follows in
    record { back = rest.back; one_of_two = rest_of (m ++ rest.back) rest.others }

-- So a run without a switch is no step, or one of the two offs.
short : (m : List ℕ) → HasNoSwitch small_sum.rules m → Begins m → ((m ≡ []) ⊎ (m ≡ 2 ∷ [])) ⊎ (m ≡ 3 ∷ [])
short [] none begun = inl (inl refl)
short (x ∷ []) none begun = elim begun.one_of_two [ inl e ↦ let first : x ≡ 2 = cc in inl (inr (ap (λ (z : ℕ). z ∷ []) first)) | inr e ↦ let first : x ≡ 3 = cc in inr (ap (λ (z : ℕ). z ∷ []) first) ]
short (x ∷ y ∷ m) none begun = absurd (all_among (λ p. ¬ IsSwitchAt small_sum.rules p) (x ∷ y ∷ m) none 4 (inr (inl (sym (fourth begun.one_of_two)))) switches)
  where
    fourth : ((x ∷ y ∷ m) ++ begun.back ≡ 2 ∷ 4 ∷ []) ⊎ ((x ∷ y ∷ m) ++ begun.back ≡ 3 ∷ 4 ∷ []) → y ≡ 4
    fourth (inl e) = cc
    fourth (inr e) = cc

some_pair : (p : ℕ) → ModifiesAt small_sum.rules p → (w : List ℕ) (s t : AbstractState) → ¬ RunPairs small_sum (p ∷ w) s t []
some_pair p modifier w s t (pass applied quiet run) = not_quiet modifier applied quiet

-- No switch is after no modifier.
no_answer : ¬ AnswersAfter small_sum find_move start (after 1) []
no_answer ([], t, q, runs, follows, switch_at) =
    let begun = begins (q ∷ []) follows in
    elim begun.one_of_two [
      | inl e ↦ let first : q ≡ 2 = cc in no_switch_at small_sum.rules 2 refl (subst (IsSwitchAt small_sum.rules) first switch_at)
      | inr e ↦ let first : q ≡ 3 = cc in no_switch_at small_sum.rules 3 refl (subst (IsSwitchAt small_sum.rules) first switch_at)
    ]
no_answer (x ∷ m, t, q, runs, follows, switch_at) =
    let begun = begins (x ∷ (m ++ q ∷ [])) follows in
    elim begun.one_of_two [
      | inl e ↦ let first : x ≡ 2 = cc in some_pair 2 refl m start t (subst (λ (p : ℕ). RunPairs small_sum (p ∷ m) start t []) first runs.runs)
      | inr e ↦ let first : x ≡ 3 = cc in some_pair 3 refl m start t (subst (λ (p : ℕ). RunPairs small_sum (p ∷ m) start t []) first runs.runs)
    ]

goes_to : (pair : ℕ × ℕ) → GoesTo small_sum find_move start (after 1) (pair ∷ [])
goes_to pair qs (more, some, e) answer = no_answer (subst (λ (ps : List (ℕ × ℕ)). AnswersAfter small_sum find_move start (after 1) ps) (all_of_one pair qs more some e) answer)

word_two : Word small_sum.rules (1 ∷ 2 ∷ 4 ∷ [])
word_two = (1 ∷ 2 ∷ [], 4 ∷ [], (1 ∷ [], 2 ∷ [], ([], 1 ∷ [], refl, refl, refl), inl (inr refl), refl), refl, refl)

word_three : Word small_sum.rules (1 ∷ 3 ∷ 4 ∷ [])
word_three = (1 ∷ 3 ∷ [], 4 ∷ [], (1 ∷ [], 3 ∷ [], ([], 1 ∷ [], refl, refl, refl), inr refl, refl), refl, refl)

abbrev IsOpened : List Item → Type 0
IsOpened o = Opening small_sum find_move start (after 1) o

at_once : IsOpened []
at_once = at {m = []} {t = start} {ps = []} (record { no_switch = no_switches small_sum.rules [] refl; follows = (outermost, [], 2 ∷ 4 ∷ [], record { expression = small_sum.rules; is_level = refl; is_word = word_two }); runs = stay }) (λ qs (more, some, e). absurd (only_nothing qs more some e))

after_e : IsOpened (modifier_at 0 2 ∷ [])
after_e = at {m = 2 ∷ []} {t = start} {ps = (0, 2) ∷ []} (record { no_switch = no_switches small_sum.rules (2 ∷ []) refl; follows = (outermost, [], 4 ∷ [], record { expression = small_sum.rules; is_level = refl; is_word = word_two }); runs = modify (record { action = off 0; stands = puts_e; acts = refl }) refl stay }) (goes_to (0, 2))

after_w : IsOpened (modifier_at 0 3 ∷ [])
after_w = at {m = 3 ∷ []} {t = with_piece} {ps = (0, 3) ∷ []} (record { no_switch = no_switches small_sum.rules (3 ∷ []) refl; follows = (outermost, [], 4 ∷ [], record { expression = small_sum.rules; is_level = refl; is_word = word_three }); runs = modify (record { action = off 1; stands = puts_w; acts = refl }) refl stay }) (goes_to (0, 3))

abbrev three : List (List Item)
three = [] ∷ (modifier_at 0 2 ∷ []) ∷ (modifier_at 0 3 ∷ []) ∷ []

these : All IsOpened three
these = all_three IsOpened [] (modifier_at 0 2 ∷ []) (modifier_at 0 3 ∷ []) at_once after_e after_w

pub returns-clause-these : goal.returns-clause-these
returns-clause-these c = these

is_one : (m : List ℕ) (t : AbstractState) (ps : List (ℕ × ℕ)) → RunPairs small_sum m start t ps → ((m ≡ []) ⊎ (m ≡ 2 ∷ [])) ⊎ (m ≡ 3 ∷ []) → Contains three (items_of ps)
is_one m t ps run (inl (inl e)) = let same = no_pairs small_sum start t ps (subst (λ (w : List ℕ). RunPairs small_sum w start t ps) e run) in (0, omega arith, sym (ap items_of same))
is_one m t ps run (inl (inr e)) = let same = one_pair small_sum 2 refl start t ps (subst (λ (w : List ℕ). RunPairs small_sum w start t ps) e run) in (1, omega arith, sym (ap items_of same))
is_one m t ps run (inr e) = let same = one_pair small_sum 3 refl start t ps (subst (λ (w : List ℕ). RunPairs small_sum w start t ps) e run) in (2, omega arith, sym (ap items_of same))

pub returns-clause-no_other : goal.returns-clause-no_other
returns-clause-no_other c o (at {m} {t} {ps} runs goes) = is_one m t ps runs.runs (short m runs.no_switch (begins m runs.follows))
returns-clause-no_other c o (beyond {p} runs goes follows pattern more) = absurd (no_pattern_at small_sum.rules p (none_such (λ q a. is_pattern a) small_sum.rules refl p) pattern)

pub returns-clause-three : goal.returns-clause-three
returns-clause-three c = record { openings = three; different = three_apart [] (modifier_at 0 2 ∷ []) (modifier_at 0 3 ∷ []) (λ e. cc) (λ e. cc) (λ e. cc); opened = these; count = refl }
