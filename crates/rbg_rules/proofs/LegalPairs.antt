-- The pairs of a legal move have a spelling.
use Rattle.rbg_base.proofs.Common.{ℕ, zero, suc, ◌+◌, ◌<◌, ◌≤◌, List, length, subst, inl, inr, arith, All, range_with_len, All-nil, All-cons}
use Rattle.rbg_rules.specs.Meaning.{AbstractAction, Expression, HasAction, positions_of, IsNumbered, AbstractGame, AbstractState, IsStateOf, IsGame, RunPairs, stay, modify, pass}
use Rattle.rbg_rules.proofs.PositionLemmas.{Among, has_position}
use Rattle.rbg_rules.proofs.StateLemmas.{state_law}
use Rattle.rbg_wire.specs.Messages.{IsShortPair}
use Rattle.rbg_rules.specs.SpellingLaws.{LegalMovesAreSpelled}

-- a number of a range is below its end
among_below : (first many x : ℕ) → Among x (range_with_len first many) → x < first + many
among_below first zero x h = absurd h
among_below first (suc many) x (inl same) = omega (arith, same)
among_below first (suc many) x (inr h) = let below : x < first + 1 + many = among_below (first + 1) many x h in omega (arith, below)

-- an action is at one of the positions
position_within : (x : Expression) → IsNumbered x → (p : ℕ) (a : AbstractAction) → HasAction x p a → p ≤ length (positions_of x)
position_within x numbered p a stands =
    let below : p < 1 + length (positions_of x) = among_below 1 (length (positions_of x)) p (subst (Among p) numbered.in_order (has_position x p a stands)) in
    omega (arith, below)

-- the numbers of a vertex and of a position have at most nine digits
short_pair : (game : AbstractGame) (s : AbstractState) (p : ℕ) → IsStateOf game s → length game.board.first ≤ 4096 → p ≤ 20000 → IsShortPair (s.vertex, p)
short_pair game s p state vertices few =
    let within = state.vertex in
    let as_many = state.vertices in
    (omega (arith, within, as_many, vertices), omega arith)

pairs_short : (game : AbstractGame) → IsGame game → {w : List ℕ} {s t : AbstractState} {ps : List (ℕ × ℕ)} → RunPairs game w s t ps → IsStateOf game s → All IsShortPair ps
pairs_short game lawful stay state = All-nil IsShortPair
pairs_short game lawful (modify {p = p} {s = s} {middle = middle} {ps = ps} applied is rest) state =
    let within : p ≤ length (positions_of game.rules) = position_within game.rules lawful.numbered p applied.action applied.stands in
    let few : length (positions_of game.rules) ≤ 20000 = lawful.limits.positions in
    All-cons IsShortPair (s.vertex, p) ps (short_pair game s p state lawful.limits.vertices (omega (arith, within, few))) (pairs_short game lawful rest ((state_law game lawful).1 p s middle state applied))
pairs_short game lawful (pass {p = p} {s = s} {middle = middle} applied is rest) state = pairs_short game lawful rest ((state_law game lawful).1 p s middle state applied)

-- a legal move that is no longer than a move may be has a spelling
pub legal_spelled : LegalMovesAreSpelled
legal_spelled game lawful place fits pairs legal many = record { some = many.0; short = pairs_short game lawful legal.1.runs fits.state }
