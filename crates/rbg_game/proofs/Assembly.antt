-- The game that is made of names, a board and rules by numbers is the description's; what is wrong with the board or the rules is wrong
-- with the description.
use Rattle.rbg_base.proofs.Common.{◌≡◌, ℕ, ◌≤◌, List, ◌++◌, length, take, refl, sym, ap, ◌∙◌, subst, arith, All, take-append_seam, map-append, length-map}
use Rattle.std.proofs.lemmas.Slice.Zip.{AllZip-long}
use Rattle.rbg_grammar.proofs.Common.{IsWhole, SpeltBounded, SpeltBoard, rectangle, hexagon, graph, SpeltName, SpeltDescription}
use Rattle.rbg_rules.specs.Meaning.{Expression, IsGame, IsWithinLimits, max_bound}
use Rattle.rbg_game.specs.declared.checking.boards.NamedBoard.{NamedBoard}
use Rattle.rbg_game.proofs.Common.{Things, GameError, HasBoardFault, board_directions, names_spelt, HasFault, in_board, in_rules, MakesBoard, AreThingsOf, game_by_numbers}
use Rattle.rbg_game.proofs.NumberingCommon.{Names, texts_of, Purpose, as_direction, as_piece, as_player, as_variable, names_for, HasRuleFault, IsRuleByNumbers}
use Rattle.rbg_game.specs.Descriptions.{NamedBoard as BoardByNames, BoardIs, directions_named, holder_names, holders_of, AreBounds, IsGameOf}
use Rattle.rbg_game.proofs.RuleFaults.{IsAmong, among_same, rule_fault_by}
use Rattle.rbg_game.proofs.FaultLaw.{texts_named}

-- The names by which the rules are numbered.
abbrev pub rule_names : Things → NamedBoard → Names
rule_names things board = record { players = things.players; variables = things.variables; pieces = things.pieces; directions = board.directions }

-- What is wrong with the board is wrong with the description.
pub board_unlawful : (d : SpeltDescription) (things : Things) → AreThingsOf d things → (error : GameError) → HasBoardFault things.pieces d.board error → HasFault d error
board_unlawful d things are error fault =
    let P : List (List ℕ) → Type 0 = λ pieces. HasBoardFault pieces d.board error in
    in_board (subst P are.pieces fault)

-- a board's directions are those that are spelt
directions_known : (b : BoardByNames) (board : SpeltBoard) → BoardIs b board → IsAmong (texts_of (board_directions board)) b.directions
directions_known b (rectangle names rows) is = among_same (texts_of names) b.directions (sym is.directions)
directions_known b (hexagon names rows) is = among_same (texts_of names) b.directions (sym is.directions)
directions_known b (graph vertices) is = λ name has. is.directions.all name (among_same (texts_of (board_directions (graph vertices))) (directions_named vertices) (sym (texts_named vertices)) name has)

-- What is wrong with the rules is wrong with the description.
module _ (d : SpeltDescription) (things : Things) (board : NamedBoard) (whole : IsWhole d) (are : AreThingsOf d things) (makes : MakesBoard things.pieces d.board board.directions board.board) where
  names_known : (purpose : Purpose) → IsAmong (names_for (names_spelt d) purpose) (names_for (rule_names things board) purpose)
  names_known as_direction = directions_known _ d.board makes.is_board
  names_known as_piece = among_same (texts_of d.pieces) things.pieces (sym are.pieces)
  names_known as_player = among_same (holder_names d.players) things.players (sym are.players)
  names_known as_variable = among_same (holder_names (holders_of d)) things.variables (sym are.variables)

  pub rules_unlawful : (error : GameError) → HasRuleFault (rule_names things board) d.rules error → HasFault d error
  rules_unlawful error fault = in_rules (rule_fault_by (names_spelt d) (rule_names things board) d.rules error names_known fault)

module _ (d : SpeltDescription) (things : Things) (board : NamedBoard) (rules : Expression) (whole : IsWhole d) (are : AreThingsOf d things)
    (makes : MakesBoard things.pieces d.board board.directions board.board) (by_numbers : IsRuleByNumbers (rule_names things board) d.rules rules) where
  limits : IsWithinLimits (game_by_numbers things board rules)
  limits =
      let players = ap length are.players ∙ length-map d.players (λ (h : SpeltBounded). h.name.text) in
      let pieces = ap length are.pieces ∙ length-map d.pieces (λ (n : SpeltName). n.text) in
      let P : List ℕ → Type 0 = λ bounds. All (λ bound. bound ≤ max_bound) bounds in
      record {
        some_player = omega (arith, players, whole.some_player);
        players = are.player_limit;
        some_piece = omega (arith, pieces, whole.some_piece);
        pieces = are.piece_limit;
        variables = are.variable_limit;
        bounds = subst P (sym are.bounds.after) are.bounds.limit;
        directions = makes.few;
        vertices = makes.vertices.limit;
        positions = by_numbers.positions;
        nesting = by_numbers.nesting;
      }

  lawful : IsGame (game_by_numbers things board rules)
  lawful =
      let P : List (List ℕ) → List (List ℕ) → Type 0 = λ players variables. take (length players) variables ≡ players in
      let all : holder_names (holders_of d) ≡ holder_names d.players ++ holder_names d.variables = map-append (λ (h : SpeltBounded). h.name.text) d.players d.variables in
      record {
        numbered = by_numbers.numbered;
        no_empty_sum = by_numbers.no_empty_sum;
        actions = by_numbers.actions (game_by_numbers things board rules) (record { players = refl; variables = refl; pieces = refl; directions = refl });
        switches = by_numbers.switches;
        scores =
            ap (λ players. take (length players) things.variables) are.players
            ∙ ap (take (length (holder_names d.players))) (are.variables ∙ all)
            ∙ take-append_seam (holder_names d.players) (holder_names d.variables)
            ∙ sym are.players;
        variable_names = are.lawful_variables;
        piece_names = are.lawful_pieces;
        direction_names = makes.names;
        bounds =
            ap length are.bounds.after
            ∙ AllZip-long _ (holders_of d) are.bounds.added are.bounds.bounds
            ∙ sym (length-map (holders_of d) (λ (h : SpeltBounded). h.name.text))
            ∙ ap length (sym are.variables);
        board = makes.vertices.closed;
        some_vertex = makes.vertices.some_vertex;
        first_pieces = makes.first_pieces;
        limits = limits;
      }

  pub game_made : IsGameOf d (game_by_numbers things board rules)
  game_made =
      let P : List ℕ → Type 0 = λ bounds. AreBounds (holders_of d) bounds in
      record {
        players = are.players;
        variables = are.variables;
        pieces = are.pieces;
        bounds = subst P (sym are.bounds.after) are.bounds.bounds;
        board = makes.is_board;
        rules = by_numbers.is_rule;
        lawful = lawful;
      }
