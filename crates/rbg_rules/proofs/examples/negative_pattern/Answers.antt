-- The proof of `examples::negative_pattern`.
use Rattle.std.proofs.Common.{◌≡◌, ℕ, List, [], ◌∷◌, ◌++◌, refl, inl, inr, subst, arith, Some}
use Rattle.rbg_board.specs.Graph.{Graph, next}
use Rattle.rbg_rules.specs.Meaning.{AbstractAction, shift, on, off, negative, switch, act, Expression, sequence_of, HasAction, IsNumbered, outermost, Word, AbstractState, Applies, Runs, ActsIn, rest, step, RunPairs, stay, modify, pass}
use Rattle.rbg_rules.specs.ExampleGames.{nothing_right, one_square, two_squares, state_of}
use Rattle.rbg_rules.proofs.MoveLemmas.{applied_acts}
use Rattle.rbg_rules.proofs.ExampleLemmas.{legal_by, remains, first_applies, acts, acts_word, acts_joined, only_word}
use Rattle.rbg_rules.proofs.ActionsAt.{no_switches}
use Rattle.rbg_rules.proofs.ExampleStates.{start, with_piece, at_first, at_second, after_off}
use Rattle.rbg_rules.proofs.examples.negative_pattern.Goals as goal

abbrev right_off : Expression
right_off = sequence_of (act 3 (shift 3) ∷ act 4 (off 1) ∷ act 5 (on (1 ∷ [])) ∷ [])

abbrev inner : List (ℕ × AbstractAction)
inner = (3, shift 3) ∷ (4, off 1) ∷ (5, on (1 ∷ [])) ∷ []

abbrev last_three : List (ℕ × AbstractAction)
last_three = (2, negative right_off) ∷ (6, off 1) ∷ (7, switch 2) ∷ []

abbrev actions : List (ℕ × AbstractAction)
actions = (1, switch 1) ∷ last_three

module _ (board : Graph) where
  numbered : IsNumbered (nothing_right board).rules
  numbered = record { in_order = refl }

  looks : HasAction (nothing_right board).rules 2 (negative right_off)
  looks = inl (inl (inr (inl (refl, refl))))

  puts : HasAction (nothing_right board).rules 6 (off 1)
  puts = inl (inr (inl (refl, refl)))

  ends : HasAction (nothing_right board).rules 7 (switch 2)
  ends = inr (inl (refl, refl))

no_edge : (v : ℕ) → ¬ (next one_square 0 3 ≡ Some v)
unfolding next
no_edge v e = cc

-- On one square there is nothing to the right, so the pattern's first action is valid nowhere.
no_right : (t : AbstractState) → ¬ ActsIn (nothing_right one_square) right_off 3 (state_of 1 (0 ∷ []) 0) t
no_right t (inl (inl (inl none))) = absurd none
no_right t (inl (inl (inr (_, (v, leads, _))))) = no_edge v leads
no_right t (inl (inr (e, _))) = cc
no_right t (inr (e, _)) = cc

nothing : (w : List ℕ) (end : AbstractState) → Word right_off w → ¬ Runs (ActsIn (nothing_right one_square) right_off) w (state_of 1 (0 ∷ []) 0) end
nothing w end word run = first_fails (subst (λ (v : List ℕ). Runs (ActsIn (nothing_right one_square) right_off) v (state_of 1 (0 ∷ []) 0) end) (only_word inner w word) run)
  where
    first_fails : ¬ Runs (ActsIn (nothing_right one_square) right_off) (3 ∷ 4 ∷ 5 ∷ []) (state_of 1 (0 ∷ []) 0) end
    first_fails (step {middle} first later) = no_right middle first

pub returns-clause-holds : goal.returns-clause-holds
returns-clause-holds c =
    legal_by (2 ∷ 6 ∷ []) 7 (state_of 2 (1 ∷ []) 0)
    (outermost, [], [], record { expression = (nothing_right one_square).rules; is_level = refl; is_word = acts_word actions })
    (pass {middle = start} (record { action = negative right_off; stands = looks one_square; acts = ((λ (w, end, word, run). nothing w end word run), refl) }) refl (modify {middle = with_piece} (record { action = off 1; stands = puts one_square; acts = refl }) refl (modify (record { action = switch 2; stands = ends one_square; acts = refl }) refl stay)))
    (record { player = 2; stands = ends one_square }) (no_switches (nothing_right one_square).rules (2 ∷ 6 ∷ []) refl)

-- On two squares the inside runs: one step to the right, w put there, and found there.
runs_right : Runs (ActsIn (nothing_right two_squares) right_off) (3 ∷ 4 ∷ 5 ∷ []) at_first after_off
unfolding next
runs_right = step {middle = at_second} (inl (inl (inr (refl, (1, refl, refl))))) (step {middle = after_off} (inl (inr (refl, refl))) (step {middle = after_off} (inr (refl, ((0, omega arith, refl), refl))) rest))

stopped : (t : AbstractState) → ¬ Applies (nothing_right two_squares) 2 at_first t
stopped t applied = (applied_acts (nothing_right two_squares) (numbered two_squares) 2 (negative right_off) (looks two_squares) applied).0 (3 ∷ 4 ∷ 5 ∷ [], after_off, acts_word inner, runs_right)

-- Each move of white begins with the pattern.
begins : (before : List ℕ) (last : ℕ) (end : AbstractState) (ps : List (ℕ × ℕ)) (back : List ℕ) → (before ++ last ∷ []) ++ back ≡ 2 ∷ 6 ∷ 7 ∷ [] → ¬ RunPairs (nothing_right two_squares) (before ++ last ∷ []) at_first end ps
begins [] last end ps back e run =
    let first : last ≡ 2 = cc in
    let applies = first_applies (subst (λ (p : ℕ). RunPairs (nothing_right two_squares) (p ∷ []) at_first end ps) first run) in
    stopped applies.0 applies.1
begins (p ∷ before) last end ps back e run =
    let first : p ≡ 2 = cc in
    let applies = first_applies (subst (λ (q : ℕ). RunPairs (nothing_right two_squares) (q ∷ (before ++ last ∷ [])) at_first end ps) first run) in
    stopped applies.0 applies.1

pub returns-clause-fails : goal.returns-clause-fails
returns-clause-fails c = record {
  no_move = λ ps to legal.
      let m : List ℕ = legal.before ++ legal.last ∷ [] in
      let rest = remains 1 (switch 1) (acts last_three) (numbered two_squares) (inl (inl (inl (inr (refl, refl))))) refl m legal.follows in
      begins legal.before legal.last to.state ps rest.back (acts_joined last_three (m ++ rest.back) rest.others) legal.runs;
}
