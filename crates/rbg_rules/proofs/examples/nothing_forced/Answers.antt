-- The proof of `examples::nothing_forced`.
use Rattle.std.proofs.Common.{◌≡◌, ℕ, List, [], ◌∷◌, ◌++◌, refl, sym, ap, ◌∙◌, subst}
use Rattle.rbg_rules.specs.Meaning.{IsNumbered, IsSwitchAt, after, at, beyond, IsMove}
use Rattle.rbg_rules.specs.ExampleGames.{star_of_offs, state_of}
use Rattle.rbg_rules.proofs.PlaceLemmas.{RunPairs-append, one_switch, snoc_same}
use Rattle.rbg_rules.proofs.ActionsAt.{no_switch_at}
use Rattle.rbg_rules.proofs.examples.nothing_forced.Goals as goal

numbered : IsNumbered star_of_offs.rules
numbered = record { in_order = refl }

no_move : ¬ IsMove star_of_offs (state_of 1 (0 ∷ []) 0) (after 1) ((0, 2) ∷ [])
no_move move =
    let cut = RunPairs-append move.before (move.last ∷ []) move.runs in
    let end = one_switch numbered move.switches cut.second in
    let joined : (0, 2) ∷ [] ≡ cut.before ++ (cut.middle.vertex, move.last) ∷ [] = cut.joined ∙ ap (λ (qs : List (ℕ × ℕ)). cut.before ++ qs) end.pairs in
    let same = snoc_same [] cut.before (0, 2) (cut.middle.vertex, move.last) joined in
    no_switch_at star_of_offs.rules 2 refl (subst (IsSwitchAt star_of_offs.rules) (sym (ap (λ (q : ℕ × ℕ). q.1) same.1)) move.switches)

pub returns : goal.returns
returns c cut o (at runs goes forced) = no_move forced
returns c cut o (beyond runs goes forced follows pattern more) = no_move forced
