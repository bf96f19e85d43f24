-- The proof of `examples::heavy_with_a_move`.
use Rattle.std.proofs.Common.{◌≡◌, ℕ, zero, suc, List, [], ◌∷◌, ◌++◌, refl, inl, inr, sym, ap, ◌∙◌, subst, ◌⊎◌, append_assoc, arith}
use Rattle.std.proofs.lemmas.Bool.{eq-eqb}
use Rattle.std.proofs.lemmas.List.{append-nil}
use Rattle.rbg_rules.specs.Meaning.{off, on, switch, act, star, choice_of, sequence_of, Expression, HasAction, IsNumbered, IsSwitchAt, outermost, after, Word, Follows, AbstractState, Applies, RunPairs, stay, modify, pass, Opening, at, IsProperPrefix, AnswersAfter, IsDeep, find_move, items_of, IsJoinOfWords}
use Rattle.rbg_rules.specs.ExampleGames.{heavy_choice, state_of}
use Rattle.rbg_rules.proofs.PositionLemmas.{Among, Among_left, Among_right}
use Rattle.rbg_rules.proofs.MoveLemmas.{applied_acts}
use Rattle.rbg_rules.proofs.ActionsAt.{has_at, is_switch, no_switch_at, no_switches, ModifiesAt, not_quiet, of_word, true_not_false}
use Rattle.rbg_rules.proofs.ExampleLemmas.{legal_by, remains, acts_joined, PairAmong, pair_first, pair_later, split}
use Rattle.rbg_rules.proofs.Offs.{offs, pairs, length-pairs, word, no_switch}
use Rattle.rbg_rules.proofs.ExampleStates.{start, with_piece}
use Rattle.rbg_rules.proofs.examples.heavy_with_a_move.Goals as goal

numbered : IsNumbered heavy_choice.rules
numbered = record { in_order = refl }

abbrev offs_and_stop : Expression
offs_and_stop = sequence_of (star (act 2 (off 0)) ∷ act 3 (on []) ∷ [])

abbrev either : Expression
either = choice_of (offs_and_stop ∷ act 4 (off 1) ∷ [])

puts_e : HasAction heavy_choice.rules 2 (off 0)
puts_e = inl (inr (inl (inr (inl (inr (inl (refl, refl)))))))

stops : HasAction heavy_choice.rules 3 (on [])
stops = inl (inr (inl (inr (inr (inl (refl, refl))))))

puts_w : HasAction heavy_choice.rules 4 (off 1)
puts_w = inl (inr (inr (inl (refl, refl))))

ends : HasAction heavy_choice.rules 5 (switch 2)
ends = inr (inl (refl, refl))

-- The move by [w].
pub returns-clause-legal : goal.returns-clause-legal
returns-clause-legal c =
    legal_by (4 ∷ []) 5 (state_of 2 (1 ∷ []) 0)
    (outermost, [], [], record { expression = heavy_choice.rules; is_level = refl; is_word = (1 ∷ 4 ∷ [], 5 ∷ [], (1 ∷ [], 4 ∷ [], ([], 1 ∷ [], refl, refl, refl), inr refl, refl), refl, refl) })
    (modify {middle = with_piece} (record { action = off 1; stands = puts_w; acts = refl }) refl (modify (record { action = switch 2; stands = ends; acts = refl }) refl stay))
    (record { player = 2; stands = ends }) (no_switches heavy_choice.rules (4 ∷ []) refl)

branch : (n : ℕ) → Word either (offs n ++ 3 ∷ [])
branch n = inl (inr (offs n, 3 ∷ [], ([], offs n, refl, word 0 n, refl), refl, refl))

follows : (n : ℕ) → Follows heavy_choice.rules (after 1) (offs n)
follows n = (
  outermost,
  [],
  3 ∷ 5 ∷ [],
  record {
    expression = heavy_choice.rules;
    is_level = refl;
    is_word = (1 ∷ (offs n ++ 3 ∷ []), 5 ∷ [], (1 ∷ [], offs n ++ 3 ∷ [], ([], 1 ∷ [], refl, refl, refl), branch n, refl), refl, ap (λ (z : List ℕ). 1 ∷ z) (sym (append_assoc (offs n) (3 ∷ []) (5 ∷ []))));
  },
)

runs : (n : ℕ) → RunPairs heavy_choice (offs n) start start (pairs n)
unfolding offs pairs
runs zero = stay
runs (suc n) = modify {middle = start} (record { action = off 0; stands = puts_e; acts = refl }) refl (runs n)

-- `{}` is never valid.
never : (s t : AbstractState) → ¬ Applies heavy_choice 3 s t
never s t applied = let (has, same) = applied_acts heavy_choice numbered 3 (on []) stops applied in let (k, below, is) = has in absurd (omega arith)

no_three : {w : List ℕ} {s t : AbstractState} {ps : List (ℕ × ℕ)} → RunPairs heavy_choice w s t ps → ¬ Among 3 w
no_three stay h = absurd h
no_three (modify {s} {middle} applied modifies run) (inl e) = never s middle (subst (λ (p : ℕ). Applies heavy_choice p s middle) (sym e) applied)
no_three (modify applied modifies run) (inr h) = no_three run h
no_three (pass {s} {middle} applied quiet run) (inl e) = never s middle (subst (λ (p : ℕ). Applies heavy_choice p s middle) (sym e) applied)
no_three (pass applied quiet run) (inr h) = no_three run h

-- The off at 4 leaves a pair.
pair_of_four : {w : List ℕ} {s t : AbstractState} {ps : List (ℕ × ℕ)} → RunPairs heavy_choice w s t ps → Among 4 w → (v : ℕ) × PairAmong v 4 ps
pair_of_four stay h = absurd h
pair_of_four (modify {p} {s} {ps} applied modifies run) (inl e) = (s.vertex, subst (λ (q : ℕ). PairAmong s.vertex 4 ((s.vertex, q) ∷ ps)) e (pair_first s.vertex 4 ps))
pair_of_four (modify {p} {s} {ps} applied modifies run) (inr h) = let (v, more) = pair_of_four run h in (v, pair_later v 4 (s.vertex, p) ps more)
pair_of_four (pass {p} applied quiet run) (inl e) = absurd (not_quiet (subst (ModifiesAt heavy_choice.rules) e refl) applied quiet)
pair_of_four (pass applied quiet run) (inr h) = pair_of_four run h

-- The pairs of the offs are all at 2, and so are those of their first part.
only_two : (n v : ℕ) → ¬ PairAmong v 4 (pairs n)
unfolding pairs PairAmong
only_two zero v h = absurd h
only_two (suc n) v (inl e) = absurd (true_not_false (sym (eq-eqb 2 4 (ap (λ (q : ℕ × ℕ). q.1) e))))
only_two (suc n) v (inr h) = only_two n v h

in_front : (v : ℕ) (qs more : List (ℕ × ℕ)) → PairAmong v 4 qs → PairAmong v 4 (qs ++ more)
unfolding PairAmong
in_front v [] more h = absurd h
in_front v (q ∷ qs) more (inl e) = inl e
in_front v (q ∷ qs) more (inr h) = inr (in_front v qs more h)

-- What is in a branch is no switch, and a branch has the position 3 or the position 4.
in_branch : (b : List ℕ) → Word either b → (p : ℕ) → Among p b → ¬ IsSwitchAt heavy_choice.rules p
in_branch b in_b p h = no_switch_at heavy_choice.rules p (of_word (has_at is_switch heavy_choice.rules) either refl b in_b p h)

three_or_four : (b : List ℕ) → Word either b → Among 3 b ⊎ Among 4 b
three_or_four b (inl (inl none)) = absurd none
three_or_four b (inl (inr (u, v, in_u, last, e))) = inl (subst (Among 3) (sym e) (Among_right 3 u v (subst (Among 3) (sym last) (inl refl))))
three_or_four b (inr is) = inr (subst (Among 4) (sym is) (inl refl))

no_answer : (n : ℕ) (qs : List (ℕ × ℕ)) → IsProperPrefix qs (pairs n) → ¬ AnswersAfter heavy_choice find_move start (after 1) qs
no_answer n qs (more, some, is) (m, t, q, runs_on, follows_on, switches) =
    let rest = remains 1 (switch 1) (either ∷ act 5 (switch 2) ∷ []) numbered (inl (inl (inr (refl, refl)))) refl (m ++ q ∷ []) follows_on in
    beyond rest.back rest.others
  where
    beyond : (back : List ℕ) → IsJoinOfWords (either ∷ act 5 (switch 2) ∷ []) ((m ++ q ∷ []) ++ back) → ⊥
    beyond back (b, v, in_b, last, e) =
        let joined : m ++ q ∷ back ≡ b ++ 5 ∷ [] = sym (append_assoc m (q ∷ []) back) ∙ e ∙ ap (λ (z : List ℕ). b ++ z) (acts_joined ((5, switch 2) ∷ []) v last) in
        elim (split m b q 5 back joined) [
          | inl h ↦ in_branch b in_b q h switches
          | inr (later, m_is) ↦ elim (three_or_four b in_b) [
            | inl h ↦ no_three runs_on.runs (subst (Among 3) (sym m_is) (Among_left 3 b later h))
            | inr h ↦
                let (v, pair) = pair_of_four runs_on.runs (subst (Among 4) (sym m_is) (Among_left 4 b later h)) in
                only_two n v (subst (PairAmong v 4) (sym is) (in_front v qs more pair))
          ]
        ]

opened : (n : ℕ) → Opening heavy_choice find_move start (after 1) (items_of (pairs n))
opened n = at (record { no_switch = no_switch heavy_choice.rules (no_switch_at heavy_choice.rules 2 refl) n; follows = follows n; runs = runs n }) (λ qs prefix. no_answer n qs prefix)

deep : (n : ℕ) → IsDeep heavy_choice find_move start (after 1) n
deep n = record {
  before = [];
  row = pairs n;
  later = [];
  opened = subst (Opening heavy_choice find_move start (after 1)) (sym (append-nil (items_of (pairs n)))) (opened n);
  count = length-pairs n;
}

pub returns-clause-heavy : goal.returns-clause-heavy
returns-clause-heavy c = inl (deep 200)
