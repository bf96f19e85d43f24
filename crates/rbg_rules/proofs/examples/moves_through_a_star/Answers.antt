-- The proof of `examples::moves_through_a_star`.
use Rattle.std.proofs.Common.{◌≡◌, ℕ, [], ◌∷◌, ◌++◌, List, refl, inl, inr, ap, sym, ◌∙◌, subst}
use Rattle.rbg_rules.specs.Meaning.{off, switch, HasAction, IsNumbered, IsSwitchAt, outermost, done, again, Applies, stay, modify}
use Rattle.rbg_rules.specs.ExampleGames.{star_of_offs, state_of}
use Rattle.rbg_rules.proofs.PlaceLemmas.{RunPairs-append, one_switch, snoc_same}
use Rattle.rbg_rules.proofs.ExampleLemmas.{legal_by, last_pair, PairAmong, pair_first, pair_position, all_among}
use Rattle.rbg_rules.proofs.ActionsAt.{no_switch_at, no_switches}
use Rattle.rbg_rules.proofs.examples.moves_through_a_star.Goals as goal

numbered : IsNumbered star_of_offs.rules
numbered = record { in_order = refl }

to_white : HasAction star_of_offs.rules 1 (switch 1)
to_white = inl (inl (inr (inl (refl, refl))))

puts_e : HasAction star_of_offs.rules 2 (off 0)
puts_e = inl (inr (inl (refl, refl)))

to_black : HasAction star_of_offs.rules 3 (switch 2)
to_black = inr (inl (refl, refl))

abbrev putting : Applies star_of_offs 2 (state_of 1 (0 ∷ []) 0) (state_of 1 (0 ∷ []) 0)
putting = record { action = off 0; stands = puts_e; acts = refl }

abbrev ending : Applies star_of_offs 3 (state_of 1 (0 ∷ []) 0) (state_of 2 (0 ∷ []) 0)
ending = record { action = switch 2; stands = to_black; acts = refl }

pub returns-clause-opening : goal.returns-clause-opening
returns-clause-opening c =
    legal_by [] 1 (state_of 1 (0 ∷ []) 0)
    (3 ∷ [], record { expression = star_of_offs.rules; is_level = refl; is_word = (1 ∷ [], 3 ∷ [], (1 ∷ [], [], ([], 1 ∷ [], refl, refl, refl), done, refl), refl, refl) })
    (modify (record { action = switch 1; stands = to_white; acts = refl }) refl stay)
    (record { player = 1; stands = to_white }) (no_switches star_of_offs.rules [] refl)

pub returns-clause-at_once : goal.returns-clause-at_once
returns-clause-at_once c =
    legal_by [] 3 (state_of 2 (0 ∷ []) 0)
    (outermost, [], [], record { expression = star_of_offs.rules; is_level = refl; is_word = (1 ∷ [], 3 ∷ [], (1 ∷ [], [], ([], 1 ∷ [], refl, refl, refl), done, refl), refl, refl) })
    (modify ending refl stay)
    (record { player = 2; stands = to_black }) (no_switches star_of_offs.rules [] refl)

pub returns-clause-after_two : goal.returns-clause-after_two
returns-clause-after_two c =
    legal_by (2 ∷ 2 ∷ []) 3 (state_of 2 (0 ∷ []) 0)
    (outermost, [], [], record { expression = star_of_offs.rules; is_level = refl; is_word = (1 ∷ 2 ∷ 2 ∷ [], 3 ∷ [], (1 ∷ [], 2 ∷ 2 ∷ [], ([], 1 ∷ [], refl, refl, refl), again refl (again refl done), refl), refl, refl) })
    (modify putting refl (modify putting refl (modify ending refl stay)))
    (record { player = 2; stands = to_black }) (no_switches star_of_offs.rules (2 ∷ 2 ∷ []) refl)

-- The off would be the move's last position, and it is no switch.
pub returns-clause-no_switch : goal.returns-clause-no_switch
returns-clause-no_switch c (to, legal) =
    let last = last_pair star_of_offs numbered legal in
    let same = snoc_same [] last.before (0, 2) (last.vertex, legal.last) last.joined in
    no_switch_at star_of_offs.rules 2 refl (subst (IsSwitchAt star_of_offs.rules) (sym (ap (λ (q : ℕ × ℕ). q.1) same.1)) legal.switches)

-- The switch to white would be before the move's last position.
pub returns-clause-two_switches : goal.returns-clause-two_switches
returns-clause-two_switches c (to, legal) =
    let cut = RunPairs-append legal.before (legal.last ∷ []) legal.runs in
    let end = one_switch numbered legal.switches cut.second in
    let joined : (0, 1) ∷ (0, 3) ∷ [] ≡ cut.before ++ (cut.middle.vertex, legal.last) ∷ [] = cut.joined ∙ ap (λ (qs : List (ℕ × ℕ)). cut.before ++ qs) end.pairs in
    let same = snoc_same ((0, 1) ∷ []) cut.before (0, 3) (cut.middle.vertex, legal.last) joined in
    let among = pair_position cut.first 0 1 (subst (PairAmong 0 1) same.0 (pair_first 0 1 [])) in
    all_among (λ p. ¬ IsSwitchAt star_of_offs.rules p) legal.before legal.none_before 1 among (record { player = 1; stands = to_white })
