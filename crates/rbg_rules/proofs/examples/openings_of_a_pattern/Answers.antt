-- The proof of `examples::openings_of_a_pattern`.
use Rattle.std.proofs.Common.{◌≡◌, ℕ, List, [], ◌∷◌, ◌++◌, refl, inl, inr, sym, ap, ◌∙◌, subst, ◌⊎◌, arith, Bool, All, Contains}
use Rattle.rbg_rules.specs.Meaning.{on, off, positive, negative, Expression, HasAction, IsNumbered, IsPatternAt, IsLevel, inside, Word, WordOf, Start, beginning, Follows, AbstractState, Applies, RunPairs, stay, modify, pass, Item, modifier_at, RunsOn, Opening, at, beyond, GoesTo, Forced, SomeWordRuns, pattern, items_of, is_pattern}
use Rattle.rbg_rules.specs.ExampleGames.{asking_a_sum, off_and_stop}
use Rattle.rbg_rules.proofs.PositionLemmas.{Among, Among_left, Among_right, one_action_at}
use Rattle.rbg_rules.proofs.MoveLemmas.{applied_acts}
use Rattle.rbg_rules.proofs.ActionsAt.{has_at, none_at, no_switches, no_pattern_at, of_word}
use Rattle.rbg_rules.proofs.ExampleLemmas.{no_pairs, one_pair}
use Rattle.rbg_rules.proofs.Threes.{all_three, three_apart}
use Rattle.rbg_rules.proofs.ExampleStates.{start, with_piece}
use Rattle.rbg_rules.proofs.examples.openings_of_a_pattern.Goals as goal

abbrev asked : Start
asked = beginning (inside 2)

numbered : IsNumbered asking_a_sum.rules
numbered = record { in_order = refl }

looks : HasAction asking_a_sum.rules 2 (negative off_and_stop)
looks = inl (inr (inl (refl, refl)))

puts_w : HasAction asking_a_sum.rules 3 (off 1)
puts_w = inl (inr (inr (inl (inr (inl (inr (inl (refl, refl))))))))

puts_e : HasAction asking_a_sum.rules 4 (off 0)
puts_e = inl (inr (inr (inl (inr (inr (inl (refl, refl)))))))

stops : HasAction asking_a_sum.rules 5 (on [])
stops = inl (inr (inr (inr (inl (refl, refl)))))

-- The inside of the pattern is the one written there, with two words.
inside_is : (x : Expression) → IsLevel asking_a_sum.rules (inside 2) x → x ≡ off_and_stop
inside_is x (inl h) = let same = one_action_at asking_a_sum.rules numbered 2 (positive x) (negative off_and_stop) h looks in absurd cc
inside_is x (inr h) = let same = one_action_at asking_a_sum.rules numbered 2 (negative x) (negative off_and_stop) h looks in cc

abbrev IsOneOfTwo : List ℕ → Type 0
IsOneOfTwo w = (w ≡ 3 ∷ 5 ∷ []) ⊎ (w ≡ 4 ∷ 5 ∷ [])

two_words : (w : List ℕ) → Word off_and_stop w → IsOneOfTwo w
two_words w (u, v, (a, b, none, inl (inl no_word), e), last, f) = absurd no_word
two_words w (u, v, (a, b, none, inl (inr is), e), last, f) =
    inl (f ∙ ap (λ (z : List ℕ). z ++ v) (e ∙ ap (λ (z : List ℕ). z ++ b) none ∙ is) ∙ ap (λ (z : List ℕ). 3 ∷ z) last)
two_words w (u, v, (a, b, none, inr is, e), last, f) =
    inr (f ∙ ap (λ (z : List ℕ). z ++ v) (e ∙ ap (λ (z : List ℕ). z ++ b) none ∙ is) ∙ ap (λ (z : List ℕ). 4 ∷ z) last)

of_level : (w : List ℕ) → WordOf asking_a_sum.rules (inside 2) w → IsOneOfTwo w
of_level w word = two_words w (subst (λ (x : Expression). Word x w) (inside_is word.expression word.is_level) word.is_word)

word_w : WordOf asking_a_sum.rules (inside 2) (3 ∷ 5 ∷ [])
word_w = record { expression = off_and_stop; is_level = inr looks; is_word = (3 ∷ [], 5 ∷ [], ([], 3 ∷ [], refl, inl (inr refl), refl), refl, refl) }

word_e : WordOf asking_a_sum.rules (inside 2) (4 ∷ 5 ∷ [])
word_e = record { expression = off_and_stop; is_level = inr looks; is_word = (4 ∷ [], 5 ∷ [], ([], 4 ∷ [], refl, inr refl, refl), refl, refl) }

-- `{}` is never valid, so no word runs.
never : (s t : AbstractState) → ¬ Applies asking_a_sum 5 s t
never s t applied = let (has, same) = applied_acts asking_a_sum numbered 5 (on []) stops applied in let (k, below, is) = has in absurd (omega arith)

stopped : (w : List ℕ) (s t : AbstractState) (ps : List (ℕ × ℕ)) → ¬ RunPairs asking_a_sum (5 ∷ w) s t ps
stopped w s t ps (modify {middle} applied modifies run) = never s middle applied
stopped w s t ps (pass {middle} applied quiet run) = never s middle applied

stopped_then : (p : ℕ) (w : List ℕ) (s t : AbstractState) (ps : List (ℕ × ℕ)) → ¬ RunPairs asking_a_sum (p ∷ 5 ∷ w) s t ps
stopped_then p w s t ps (modify {middle} {ps = qs} applied modifies run) = stopped w middle t qs run
stopped_then p w s t ps (pass {middle} applied quiet run) = stopped w middle t ps run

no_word_runs : (w : List ℕ) → WordOf asking_a_sum.rules (inside 2) w → (s t : AbstractState) (ps : List (ℕ × ℕ)) → ¬ RunPairs asking_a_sum w s t ps
no_word_runs w word s t ps run = elim (of_level w word) [
  | inl e ↦ stopped_then 3 [] s t ps (subst (λ (v : List ℕ). RunPairs asking_a_sum v s t ps) e run)
  | inr e ↦ stopped_then 4 [] s t ps (subst (λ (v : List ℕ). RunPairs asking_a_sum v s t ps) e run)
]

no_answer : ¬ SomeWordRuns asking_a_sum start asked
no_answer answer = no_word_runs answer.word answer.ends start answer.end answer.pairs answer.runs

goes : (ps : List (ℕ × ℕ)) → GoesTo asking_a_sum pattern start asked ps
goes ps qs prefix (m, t, runs, ends) = no_word_runs m ends start t qs runs.runs

-- What runs is nothing, or one of the offs.
abbrev IsShort : List ℕ → Type 0
IsShort m = ((m ≡ []) ⊎ (m ≡ 3 ∷ [])) ⊎ (m ≡ 4 ∷ [])

front : (p : ℕ) (m z : List ℕ) → m ++ z ≡ p ∷ 5 ∷ [] → ((m ≡ []) ⊎ (m ≡ p ∷ [])) ⊎ ((rest : List ℕ) × (m ≡ p ∷ 5 ∷ rest))
front p [] z e = inl (inl refl)
front p (x ∷ []) z e = inl (inr cc)
front p (x ∷ y ∷ m) z e =
    let first : x ≡ p = cc in
    let second : y ≡ 5 = cc in
    inr (m, cc (first, second))

short : (m : List ℕ) (s t : AbstractState) (ps : List (ℕ × ℕ)) → Follows asking_a_sum.rules asked m → RunPairs asking_a_sum m s t ps → IsShort m
short m s t ps (z, word) run = elim (of_level (m ++ z) word) [ inl e ↦ by_front 3 (front 3 m z e) (λ h. inl (inr h)) | inr e ↦ by_front 4 (front 4 m z e) (λ h. inr h) ]
  where
    by_front : (p : ℕ) → ((m ≡ []) ⊎ (m ≡ p ∷ [])) ⊎ ((rest : List ℕ) × (m ≡ p ∷ 5 ∷ rest)) → (m ≡ p ∷ [] → IsShort m) → IsShort m
    by_front p (inl (inl none)) one = inl (inl none)
    by_front p (inl (inr is)) one = one is
    by_front p (inr (rest, is)) one = absurd (stopped_then p rest s t ps (subst (λ (v : List ℕ). RunPairs asking_a_sum v s t ps) is run))

-- No pattern is inside the pattern.
no_pattern_follows : (m : List ℕ) (p : ℕ) → Follows asking_a_sum.rules asked (m ++ p ∷ []) → ¬ IsPatternAt asking_a_sum.rules p
no_pattern_follows m p (z, word) =
    let among : Among p ((m ++ p ∷ []) ++ z) = Among_left p (m ++ p ∷ []) z (Among_right p m (p ∷ []) (inl refl)) in
    let inner : Word off_and_stop ((m ++ p ∷ []) ++ z) = subst (λ (x : Expression). Word x ((m ++ p ∷ []) ++ z)) (inside_is word.expression word.is_level) word.is_word in
    no_pattern_at asking_a_sum.rules p (none_at is_pattern asking_a_sum.rules p (of_word (has_at is_pattern asking_a_sum.rules) off_and_stop refl ((m ++ p ∷ []) ++ z) inner p among))

abbrev three : List (List Item)
three = [] ∷ (modifier_at 0 3 ∷ []) ∷ (modifier_at 0 4 ∷ []) ∷ []

is_one : (m : List ℕ) (t : AbstractState) (ps : List (ℕ × ℕ)) → RunPairs asking_a_sum m start t ps → IsShort m → Contains three (items_of ps)
is_one m t ps run (inl (inl e)) = let same = no_pairs asking_a_sum start t ps (subst (λ (w : List ℕ). RunPairs asking_a_sum w start t ps) e run) in (0, omega arith, sym (ap items_of same))
is_one m t ps run (inl (inr e)) = let same = one_pair asking_a_sum 3 refl start t ps (subst (λ (w : List ℕ). RunPairs asking_a_sum w start t ps) e run) in (1, omega arith, sym (ap items_of same))
is_one m t ps run (inr e) = let same = one_pair asking_a_sum 4 refl start t ps (subst (λ (w : List ℕ). RunPairs asking_a_sum w start t ps) e run) in (2, omega arith, sym (ap items_of same))

pub returns-clause-no_other : goal.returns-clause-no_other
returns-clause-no_other c o (at {m} {t} {ps} runs goes_on) = is_one m t ps runs.runs (short m start t ps runs.follows runs.runs)
returns-clause-no_other c o (beyond {m} {p} runs goes_on follows is_pattern_at more) = absurd (no_pattern_follows m p follows is_pattern_at)

-- The three runs.
runs_at_once : RunsOn asking_a_sum start asked [] start []
runs_at_once = record { no_switch = no_switches asking_a_sum.rules [] refl; follows = (3 ∷ 5 ∷ [], word_w); runs = stay }

runs_w : RunsOn asking_a_sum start asked (3 ∷ []) with_piece ((0, 3) ∷ [])
runs_w = record { no_switch = no_switches asking_a_sum.rules (3 ∷ []) refl; follows = (5 ∷ [], word_w); runs = modify (record { action = off 1; stands = puts_w; acts = refl }) refl stay }

runs_e : RunsOn asking_a_sum start asked (4 ∷ []) start ((0, 4) ∷ [])
runs_e = record { no_switch = no_switches asking_a_sum.rules (4 ∷ []) refl; follows = (5 ∷ [], word_e); runs = modify (record { action = off 0; stands = puts_e; acts = refl }) refl stay }

these : All (Opening asking_a_sum pattern start asked) three
these = all_three (Opening asking_a_sum pattern start asked) [] (modifier_at 0 3 ∷ []) (modifier_at 0 4 ∷ []) (at runs_at_once (goes [])) (at runs_w (goes ((0, 3) ∷ []))) (at runs_e (goes ((0, 4) ∷ [])))

forced : (cut : Bool) → All (Forced asking_a_sum cut pattern start asked) three
forced cut = all_three (Forced asking_a_sum cut pattern start asked) [] (modifier_at 0 3 ∷ []) (modifier_at 0 4 ∷ []) (at runs_at_once (goes []) (inr no_answer)) (at runs_w (goes ((0, 3) ∷ [])) (inr no_answer)) (at runs_e (goes ((0, 4) ∷ [])) (inr no_answer))

pub returns-clause-forced : goal.returns-clause-forced
returns-clause-forced c cut = forced cut

pub returns-clause-three_forced : goal.returns-clause-three_forced
returns-clause-three_forced c cut = record { openings = three; different = three_apart [] (modifier_at 0 3 ∷ []) (modifier_at 0 4 ∷ []) (λ e. cc) (λ e. cc) (λ e. cc); forced = forced cut; count = refl }

pub returns-clause-wide : goal.returns-clause-wide
returns-clause-wide c = record { openings = three; different = three_apart [] (modifier_at 0 3 ∷ []) (modifier_at 0 4 ∷ []) (λ e. cc) (λ e. cc) (λ e. cc); opened = these; count = refl }
