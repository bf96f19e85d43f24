-- A description is at most one game, and a text is at most one.
use Rattle.rbg_base.proofs.Common.{◌≡◌, ℕ, List, ◌++◌, Some, sym, ◌∙◌, subst, same_Some, map-append}
use Rattle.rbg_grammar.specs.Tree.{SpeltBounded, SpeltDescription}
use Rattle.rbg_rules.specs.Meaning.{AbstractGame, AreDifferentNames}
use Rattle.rbg_game.proofs.NumberingCommon.{Names, HasDifferentNames, RuleIs}
use Rattle.rbg_game.proofs.Common.{names_in, board_in, holder_names, holders_of, AreBounds, IsGameOf, OneGameOfDescriptionLaw, OneGameLaw}
use Rattle.rbg_game.proofs.LoadingLemmas.{one_spelt}
use Rattle.rbg_game.proofs.Lists.{AllZip-once}
use Rattle.rbg_game.proofs.OneGameLists.{front_differs}
use Rattle.rbg_game.proofs.OneNumbering.{numbered_rule_once}
use Rattle.rbg_game.proofs.OneGameBoards.{IsSameBoard, board_once, board_directions_differ}

bounds_once : (holders : List SpeltBounded) (a b : List ℕ) → AreBounds holders a → AreBounds holders b → a ≡ b
bounds_once =
    AllZip-once (λ (holder : SpeltBounded) (bound : ℕ). holder.bound.value ≡ Some bound) (λ (holder : SpeltBounded) (bound : ℕ). holder.bound.value ≡ Some bound) (λ holder m n is_m is_n. same_Some m n (sym is_m ∙ is_n))

-- the players are the first of the variables
players_differ : (d : SpeltDescription) (game : AbstractGame) → IsGameOf d game → AreDifferentNames game.players
players_differ d game is =
    let variables : game.variables ≡ holder_names d.players ++ holder_names d.variables = is.variables ∙ map-append (λ (holder : SpeltBounded). holder.name.text) d.players d.variables in
    subst AreDifferentNames (sym is.players) (front_differs (holder_names d.players) (holder_names d.variables) (subst AreDifferentNames variables is.lawful.variable_names.differ))

names_differ : (d : SpeltDescription) (game : AbstractGame) → IsGameOf d game → HasDifferentNames (names_in game)
names_differ d game is =
    record { players = players_differ d game is; variables = is.lawful.variable_names.differ; pieces = is.lawful.piece_names.differ; directions = board_directions_differ d.board (board_in game) is.board }

pub one_game_of_description_law : OneGameOfDescriptionLaw
one_game_of_description_law d a b left right =
    let players : a.players ≡ b.players = left.players ∙ sym right.players in
    let pieces : a.pieces ≡ b.pieces = left.pieces ∙ sym right.pieces in
    let variables : a.variables ≡ b.variables = left.variables ∙ sym right.variables in
    let bounds : a.bounds ≡ b.bounds = bounds_once (holders_of d) a.bounds b.bounds left.bounds right.bounds in
    let same : IsSameBoard (board_in a) (board_in b) = board_once d.board (board_in a) (board_in b) left.lawful.piece_names.differ pieces left.board right.board in
    let names : names_in a ≡ names_in b = λ i. record { players = players i; variables = variables i; pieces = pieces i; directions = same.directions i } in
    let rules : a.rules ≡ b.rules =
    numbered_rule_once (names_in a) (names_differ d a left) d.rules a.rules b.rules left.rules (subst (λ (ns : Names). RuleIs ns d.rules b.rules) (sym names) right.rules) left.lawful.numbered right.lawful.numbered in
    λ i. record {
      players = players i;
      pieces = pieces i;
      variables = variables i;
      bounds = bounds i;
      directions = same.directions i;
      board = same.board i;
      rules = rules i;
    }

pub one_game_law : OneGameLaw
one_game_law text a b left right =
    one_game_of_description_law right.description a b (subst (λ d. IsGameOf d a) (one_spelt text left.description right.description left.describes right.describes) left.game_of) right.game_of
