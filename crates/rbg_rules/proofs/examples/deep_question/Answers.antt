-- The proof of `examples::deep_question`.
use Rattle.std.proofs.Common.{ℕ, zero, suc, List, [], ◌∷◌, refl, inl, inr, sym, subst}
use Rattle.std.proofs.lemmas.List.{append-nil}
use Rattle.rbg_rules.specs.Meaning.{off, outermost, after, Follows, AbstractState, RunPairs, stay, modify, Opening, at, GoesTo, find_move, items_of}
use Rattle.rbg_rules.specs.ExampleGames.{without_end, state_of}
use Rattle.rbg_rules.proofs.ActionsAt.{no_switch_at}
use Rattle.rbg_rules.proofs.WithoutEnd.{no_switch_follows}
use Rattle.rbg_rules.proofs.Offs.{offs, pairs, length-pairs, word, no_switch}
use Rattle.rbg_rules.proofs.examples.deep_question.Goals as goal

follows : (n : ℕ) → Follows without_end.rules (after 1) (offs n)
follows n = (outermost, [], 3 ∷ [], record { expression = without_end.rules; is_level = refl; is_word = (1 ∷ offs n, 3 ∷ [], (1 ∷ [], offs n, ([], 1 ∷ [], refl, refl, refl), word 1 n, refl), refl, refl) })

runs : (n x : ℕ) → (t : AbstractState) × RunPairs without_end (offs n) (state_of 1 (x ∷ []) 0) t (pairs n)
unfolding offs pairs
runs zero x = (state_of 1 (x ∷ []) 0, stay)
runs (suc n) x =
    let (t, later) = runs n 1 in
    (t, modify {middle = state_of 1 (1 ∷ []) 0} (record { action = off 1; stands = inl (inr (inl (refl, refl))); acts = refl }) refl later)

goes : (ps : List (ℕ × ℕ)) → GoesTo without_end find_move (state_of 1 (0 ∷ []) 0) (after 1) ps
goes ps qs prefix (m, t, q, _, follows_on, switches) = no_switch_follows m q follows_on switches

opened : (n : ℕ) → Opening without_end find_move (state_of 1 (0 ∷ []) 0) (after 1) (items_of (pairs n))
opened n = let (t, run) = runs n 0 in at (record { no_switch = no_switch without_end.rules (no_switch_at without_end.rules 2 refl) n; follows = follows n; runs = run }) (goes (pairs n))

pub returns : goal.returns
returns c n = record {
  before = [];
  row = pairs n;
  later = [];
  opened = subst (Opening without_end find_move (state_of 1 (0 ∷ []) 0) (after 1)) (sym (append-nil (items_of (pairs n)))) (opened n);
  count = length-pairs n;
}
