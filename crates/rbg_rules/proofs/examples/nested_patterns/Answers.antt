-- The proof of `examples::nested_patterns`.
use Rattle.std.proofs.Common.{◌≡◌, ℕ, List, [], ◌∷◌, ◌++◌, refl, inl, inr, sym, ap, ◌∙◌, subst, append_assoc, false, Some}
use Rattle.rbg_board.specs.Graph.{next}
use Rattle.rbg_rules.specs.Meaning.{AbstractAction, shift, off, positive, negative, switch, act, star, choice_of, Expression, HasAction, IsNumbered, IsSwitchAt, outermost, is_modifier, Word, Repeats, done, again, AbstractState, Applies, Runs, ActsIn, rest, step, RunPairs, stay, modify, pass, AbstractPlace, Legal, IsJoinOfWords}
use Rattle.rbg_rules.specs.ExampleGames.{nested, only_right, two_squares, white_on}
use Rattle.rbg_rules.proofs.PositionLemmas.{Among}
use Rattle.rbg_rules.proofs.MoveLemmas.{applied_acts}
use Rattle.rbg_rules.proofs.PlaceLemmas.{RunPairs-append}
use Rattle.rbg_rules.proofs.ActionsAt.{has_at, is_switch, no_switch_at, no_switches, not_quiet, not_modifier, of_word, of_both}
use Rattle.rbg_rules.proofs.ExampleLemmas.{legal_by, remains, acts, acts_word, acts_joined, only_word, split}
use Rattle.rbg_rules.proofs.ExampleStates.{at_first, at_second, after_off, after_switch}
use Rattle.rbg_rules.proofs.examples.nested_patterns.Goals as goal

numbered : IsNumbered nested.rules
numbered = record { in_order = refl }

rights : HasAction nested.rules 2 (shift 3)
rights = inl (inl (inl (inr (inl (inr (inl (refl, refl)))))))

lefts : HasAction nested.rules 3 (shift 2)
lefts = inl (inl (inl (inr (inr (inl (refl, refl))))))

looks : HasAction nested.rules 4 (negative only_right)
looks = inl (inl (inr (inl (refl, refl))))

puts : HasAction nested.rules 9 (off 1)
puts = inl (inr (inl (refl, refl)))

ends : HasAction nested.rules 10 (switch 2)
ends = inr (inl (refl, refl))

abbrev inner : List (ℕ × AbstractAction)
inner = (5, positive (act 6 (shift 3))) ∷ (7, negative (act 8 (shift 2))) ∷ []

abbrev steps : Expression
steps = choice_of (act 2 (shift 3) ∷ act 3 (shift 2) ∷ [])

-- The edges of the two squares: from the first one to the right alone, and from the second one not to the right.
no_right : (v : ℕ) → ¬ (next two_squares 1 3 ≡ Some v)
unfolding next
no_right v e = cc

no_left : (v : ℕ) → ¬ (next two_squares 0 2 ≡ Some v)
unfolding next
no_left v e = cc

to_right : next two_squares 0 3 ≡ Some 1
unfolding next
to_right = refl

-- On the second square there is no step to the right, so no word of the pattern's inside runs.
no_step : (w : List ℕ) (t : AbstractState) → w ≡ 6 ∷ [] → ¬ Runs (ActsIn nested (act 6 (shift 3))) w at_second t
no_step w t is run = first_fails (subst (λ (v : List ℕ). Runs (ActsIn nested (act 6 (shift 3))) v at_second t) is run)
  where
    first_fails : ¬ Runs (ActsIn nested (act 6 (shift 3))) (6 ∷ []) at_second t
    first_fails (step (_, (v, leads, _)) later) = no_right v leads

no_first : (t : AbstractState) → ¬ ActsIn nested only_right 5 at_second t
no_first t (inl (inl none)) = absurd none
no_first t (inl (inr (_, ((w, end, is, run), _)))) = no_step w end is run
no_first t (inr (e, _)) = cc

nothing : (w : List ℕ) (end : AbstractState) → Word only_right w → ¬ Runs (ActsIn nested only_right) w at_second end
nothing w end word run = first_fails (subst (λ (v : List ℕ). Runs (ActsIn nested only_right) v at_second end) (only_word inner w word) run)
  where
    first_fails : ¬ Runs (ActsIn nested only_right) (5 ∷ 7 ∷ []) at_second end
    first_fails (step {middle} first later) = no_first middle first

-- A step to the right, and then the rest.
whole_word : Word nested.rules (1 ∷ 2 ∷ 4 ∷ 9 ∷ 10 ∷ [])
whole_word = (
  1 ∷ 2 ∷ 4 ∷ 9 ∷ [],
  10 ∷ [],
  (1 ∷ 2 ∷ 4 ∷ [], 9 ∷ [], (1 ∷ 2 ∷ [], 4 ∷ [], (1 ∷ [], 2 ∷ [], ([], 1 ∷ [], refl, refl, refl), again (inl (inr refl)) done, refl), refl, refl), refl, refl),
  refl,
  refl,
)

move_runs : RunPairs nested (2 ∷ 4 ∷ 9 ∷ 10 ∷ []) at_first after_switch ((1, 9) ∷ (1, 10) ∷ [])
move_runs =
    pass {middle = at_second} (record { action = shift 3; stands = rights; acts = (1, to_right, refl) }) refl
    (pass {middle = at_second} (record { action = negative only_right; stands = looks; acts = ((λ (w, end, word, run). nothing w end word run), refl) }) refl
    (modify {middle = after_off} (record { action = off 1; stands = puts; acts = refl }) refl
    (modify (record { action = switch 2; stands = ends; acts = refl }) refl stay)))

pub returns-clause-second : goal.returns-clause-second
returns-clause-second c =
    legal_by (2 ∷ 4 ∷ 9 ∷ []) 10 after_switch
    (outermost, [], [], record { expression = nested.rules; is_level = refl; is_word = whole_word })
    move_runs
    (record { player = 2; stands = ends }) (no_switches nested.rules (2 ∷ 4 ∷ 9 ∷ []) refl)

-- On the first square the inside runs: a step to the right, and none to the left.
runs_right : (s : AbstractState) → s.vertex ≡ 0 → Runs (ActsIn nested only_right) (5 ∷ 7 ∷ []) s s
runs_right s is_first =
    step {middle = s} (inl (inr (refl, ((6 ∷ [], record s { vertex = 1 }, refl, step {middle = record s { vertex = 1 }} (refl, (1, leads, refl)) rest), refl))))
    (step {middle = s} (inr (refl, ((λ (w, end, is, run). no_step_left w end is run), refl))) rest)
  where
    leads : next two_squares s.vertex 3 ≡ Some 1
    leads = subst (λ (v : ℕ). next two_squares v 3 ≡ Some 1) (sym is_first) to_right

    no_step_left : (w : List ℕ) (t : AbstractState) → w ≡ 8 ∷ [] → ¬ Runs (ActsIn nested (act 8 (shift 2))) w s t
    no_step_left w t is run = first_fails (subst (λ (v : List ℕ). Runs (ActsIn nested (act 8 (shift 2))) v s t) is run)
      where
        first_fails : ¬ Runs (ActsIn nested (act 8 (shift 2))) (8 ∷ []) s t
        first_fails (step (_, (v, to, _)) later) = no_left v (subst (λ (u : ℕ). next two_squares u 2 ≡ Some v) is_first to)

stopped : (s t : AbstractState) → s.vertex ≡ 0 → ¬ Applies nested 4 s t
stopped s t is_first applied = (applied_acts nested numbered 4 (negative only_right) looks applied).0 (5 ∷ 7 ∷ [], s, acts_word inner, runs_right s is_first)

-- Steps leave no pair.
no_pairs : {u : List ℕ} {s t : AbstractState} {qs : List (ℕ × ℕ)} → RunPairs nested u s t qs → ((p : ℕ) → Among p u → has_at is_modifier nested.rules p ≡ false) → qs ≡ []
no_pairs stay none = refl
no_pairs (modify {p} applied modifies run) none = absurd (not_modifier (none p (inl refl)) applied modifies)
no_pairs (pass applied quiet run) none = no_pairs run (λ q h. none q (inr h))

-- The pattern and then the off: the off's pair has the vertex at which the pattern was asked.
off_at : (w : List ℕ) (s t : AbstractState) (v : ℕ) (qs : List (ℕ × ℕ)) → RunPairs nested (9 ∷ w) s t ((v, 9) ∷ qs) → s.vertex ≡ v
off_at w s t v qs (modify applied modifies run) = refl
off_at w s t v qs (pass applied quiet run) = absurd (not_quiet refl applied quiet)

not_on_first : (w : List ℕ) (s t : AbstractState) (qs : List (ℕ × ℕ)) → ¬ RunPairs nested (4 ∷ 9 ∷ w) s t ((0, 9) ∷ qs)
not_on_first w s t qs (pass {middle} applied quiet run) =
    let stays : middle ≡ s = (applied_acts nested numbered 4 (negative only_right) looks applied).1 in
    let is_first : s.vertex ≡ 0 = ap (λ (u : AbstractState). u.vertex) (sym stays) ∙ off_at w middle t 0 qs run in
    stopped s middle is_first applied

no_switch_before : (u : List ℕ) → Repeats (Word steps) u → (p : ℕ) → Among p (u ++ 4 ∷ 9 ∷ []) → ¬ IsSwitchAt nested.rules p
no_switch_before u word p h = no_switch_at nested.rules p (of_both (has_at is_switch nested.rules) (star steps) u (4 ∷ 9 ∷ []) refl refl word p h)

-- A run that begins with steps, the pattern and the off has no pair of the off at the first square.
begins_with_off : (u rest_of : List ℕ) → Repeats (Word steps) u → (s t : AbstractState) (qs : List (ℕ × ℕ)) → ¬ RunPairs nested (u ++ 4 ∷ 9 ∷ rest_of) s t ((0, 9) ∷ qs)
begins_with_off u rest_of word s t qs run =
    let cut = RunPairs-append u (4 ∷ 9 ∷ rest_of) run in
    let nothing_before : cut.before ≡ [] = no_pairs cut.first (of_word (has_at is_modifier nested.rules) (star steps) refl u word) in
    let same : cut.after ≡ (0, 9) ∷ qs = sym (cut.joined ∙ ap (λ (l : List (ℕ × ℕ)). l ++ cut.after) nothing_before) in
    not_on_first rest_of cut.middle t qs (subst (λ (l : List (ℕ × ℕ)). RunPairs nested (4 ∷ 9 ∷ rest_of) cut.middle t l) same cut.second)

abbrev last_three : List (ℕ × AbstractAction)
last_three = (4, negative only_right) ∷ (9, off 1) ∷ (10, switch 2) ∷ []

-- What follows the first switch.
record Tail (w : List ℕ) : Type 0 where
  front : List ℕ
  word : Repeats (Word steps) front
  is : w ≡ front ++ 4 ∷ 9 ∷ 10 ∷ []

tail_of : (w : List ℕ) → IsJoinOfWords (star steps ∷ acts last_three) w → Tail w
tail_of w (u, v, word, others, e) = record { front = u; word = word; is = e ∙ ap (λ (z : List ℕ). u ++ z) (acts_joined last_three v others) }

no_move : {to : AbstractPlace} → ¬ Legal nested (white_on (0 ∷ 0 ∷ [])) ((0, 9) ∷ (0, 10) ∷ []) to
no_move {to} legal =
    let m : List ℕ = legal.before ++ legal.last ∷ [] in
    let rest = remains 1 (switch 1) (star steps ∷ acts last_three) numbered (inl (inl (inl (inl (inr (refl, refl)))))) refl m legal.follows in
    let tail = tail_of (m ++ rest.back) rest.others in
    let joined : legal.before ++ legal.last ∷ rest.back ≡ (tail.front ++ 4 ∷ 9 ∷ []) ++ 10 ∷ [] = sym (append_assoc legal.before (legal.last ∷ []) rest.back) ∙ tail.is ∙ sym (append_assoc tail.front (4 ∷ 9 ∷ []) (10 ∷ [])) in
    elim (split legal.before (tail.front ++ 4 ∷ 9 ∷ []) legal.last 10 rest.back joined) [
      | inl h ↦ no_switch_before tail.front tail.word legal.last h legal.switches
      | inr (later, is) ↦
          let whole : legal.before ++ legal.last ∷ [] ≡ tail.front ++ 4 ∷ 9 ∷ (later ++ legal.last ∷ []) = ap (λ (z : List ℕ). z ++ legal.last ∷ []) is ∙ append_assoc (tail.front ++ 4 ∷ 9 ∷ []) later (legal.last ∷ []) ∙ append_assoc tail.front (4 ∷ 9 ∷ []) (later ++ legal.last ∷ []) in
          begins_with_off tail.front (later ++ legal.last ∷ []) tail.word at_first to.state ((0, 10) ∷ [])
          (subst (λ (z : List ℕ). RunPairs nested z at_first to.state ((0, 9) ∷ (0, 10) ∷ [])) whole legal.runs)
    ]

pub returns-clause-not_first : goal.returns-clause-not_first
returns-clause-not_first c (to, legal) = no_move legal
