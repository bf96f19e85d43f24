-- Expressions as trees of numbers, one to one. A proof uses these codes to distinguish the games that contracts see.
-- They have no meaning for play.
use Rattle.std.specs.Prelude.{◌≡◌, ℕ, List, Option, refl}
use Rattle.std.specs.Coded.{Coded, coded_ℕ, coded_list, coded_option, coded×, code_by}
use Rattle.rbg_board.specs.Graph.{Graph}
use Rattle.rbg_rules.specs.State.{AbstractGame}
use Rattle.rbg_base.specs.declared.relation.Relation.{Relation}
use Rattle.rbg_base.specs.declared.relation.Relation.TheVariants.{Equal, NotEqual, Less, LessOrEqual, Greater, GreaterOrEqual}
use base.Stored.{Gv, gnil, gnum, gcons}
use Rattle.rbg_rules.specs.Expression.{AbstractArithmetic, number, variable, piece_count, negated, sum, difference, product, quotient, AbstractAction, shift, on, off, assignment, comparison, switch, positive, negative, Expression, act, skip, sequence, fail, choice, star}

abbrev pub arithmetic_code : AbstractArithmetic → Gv
arithmetic_code (number n) = gcons (gnum 0) (gnum n)
arithmetic_code (variable v) = gcons (gnum 1) (gnum v)
arithmetic_code (piece_count p) = gcons (gnum 2) (gnum p)
arithmetic_code (negated e) = gcons (gnum 3) (arithmetic_code e)
arithmetic_code (sum e f) = gcons (gnum 4) (gcons (arithmetic_code e) (arithmetic_code f))
arithmetic_code (difference e f) = gcons (gnum 5) (gcons (arithmetic_code e) (arithmetic_code f))
arithmetic_code (product e f) = gcons (gnum 6) (gcons (arithmetic_code e) (arithmetic_code f))
arithmetic_code (quotient e f) = gcons (gnum 7) (gcons (arithmetic_code e) (arithmetic_code f))

-- what is coded by the codes of its two parts has these parts
both : {X : Type 0} (code : X → Gv) (x y z w : X) (n : ℕ) → (code x ≡ code z → x ≡ z) → (code y ≡ code w → y ≡ w)
    → gcons (gnum n) (gcons (code x) (code y)) ≡ gcons (gnum n) (gcons (code z) (code w)) → (x ≡ z) × (y ≡ w)
both code x y z w n first second p =
    let left : code x ≡ code z = cc in
    let right : code y ≡ code w = cc in
    (first left, second right)

pub arithmetic_inj : (x y : AbstractArithmetic) → arithmetic_code x ≡ arithmetic_code y → x ≡ y
arithmetic_inj (number n) (number m) p = cc
arithmetic_inj (variable v) (variable w) p = cc
arithmetic_inj (piece_count x) (piece_count y) p = cc
arithmetic_inj (negated e) (negated f) p =
    let parts : arithmetic_code e ≡ arithmetic_code f = cc in
    let same = arithmetic_inj e f parts in
    cc
arithmetic_inj (sum e f) (sum g h) p =
    let (left, right) = both arithmetic_code e f g h 4 (arithmetic_inj e g) (arithmetic_inj f h) p in
    cc
arithmetic_inj (difference e f) (difference g h) p =
    let (left, right) = both arithmetic_code e f g h 5 (arithmetic_inj e g) (arithmetic_inj f h) p in
    cc
arithmetic_inj (product e f) (product g h) p =
    let (left, right) = both arithmetic_code e f g h 6 (arithmetic_inj e g) (arithmetic_inj f h) p in
    cc
arithmetic_inj (quotient e f) (quotient g h) p =
    let (left, right) = both arithmetic_code e f g h 7 (arithmetic_inj e g) (arithmetic_inj f h) p in
    cc
arithmetic_inj _ _ p = cc

abbrev pub relation_code : Relation → ℕ
relation_code Equal = 0
relation_code NotEqual = 1
relation_code Less = 2
relation_code LessOrEqual = 3
relation_code Greater = 4
relation_code GreaterOrEqual = 5

pub relation_inj : (x y : Relation) → relation_code x ≡ relation_code y → x ≡ y
relation_inj Equal Equal p = refl
relation_inj NotEqual NotEqual p = refl
relation_inj Less Less p = refl
relation_inj LessOrEqual LessOrEqual p = refl
relation_inj Greater Greater p = refl
relation_inj GreaterOrEqual GreaterOrEqual p = refl
relation_inj _ _ p = cc

abbrev mutual
  pub action_code : AbstractAction → Gv
  action_code (shift d) = gcons (gnum 0) (gnum d)
  action_code (on pieces) = gcons (gnum 1) ((coded_list coded_ℕ).code pieces)
  action_code (off x) = gcons (gnum 2) (gnum x)
  action_code (assignment v e) = gcons (gnum 3) (gcons (gnum v) (arithmetic_code e))
  action_code (comparison e r f) =
      gcons (gnum 4) (gcons (arithmetic_code e) (gcons (gnum (relation_code r)) (arithmetic_code f)))
  action_code (switch n) = gcons (gnum 5) (gnum n)
  action_code (positive x) = gcons (gnum 6) (expression_code x)
  action_code (negative x) = gcons (gnum 7) (expression_code x)

  pub expression_code : Expression → Gv
  expression_code (act p a) = gcons (gnum 0) (gcons (gnum p) (action_code a))
  expression_code skip = gcons (gnum 1) gnil
  expression_code (sequence x y) = gcons (gnum 2) (gcons (expression_code x) (expression_code y))
  expression_code fail = gcons (gnum 3) gnil
  expression_code (choice x y) = gcons (gnum 4) (gcons (expression_code x) (expression_code y))
  expression_code (star x) = gcons (gnum 5) (expression_code x)

mutual
  pub action_inj : (x y : AbstractAction) → action_code x ≡ action_code y → x ≡ y
  action_inj (shift d) (shift e) p = cc
  action_inj (on xs) (on ys) p =
      let parts : (coded_list coded_ℕ).code xs ≡ (coded_list coded_ℕ).code ys = cc in
      let same = (coded_list coded_ℕ).inj xs ys parts in
      cc
  action_inj (off x) (off y) p = cc
  action_inj (assignment v e) (assignment w f) p =
      let parts : arithmetic_code e ≡ arithmetic_code f = cc in
      let same = arithmetic_inj e f parts in
      cc
  action_inj (comparison e r f) (comparison g q h) p =
      let left : arithmetic_code e ≡ arithmetic_code g = cc in
      let middle : relation_code r ≡ relation_code q = cc in
      let right : arithmetic_code f ≡ arithmetic_code h = cc in
      let same = arithmetic_inj e g left in
      let same' = relation_inj r q middle in
      let same'' = arithmetic_inj f h right in
      cc
  action_inj (switch n) (switch m) p = cc
  action_inj (positive x) (positive y) p =
      let parts : expression_code x ≡ expression_code y = cc in
      let same = expression_inj x y parts in
      cc
  action_inj (negative x) (negative y) p =
      let parts : expression_code x ≡ expression_code y = cc in
      let same = expression_inj x y parts in
      cc
  action_inj _ _ p = cc

  pub expression_inj : (x y : Expression) → expression_code x ≡ expression_code y → x ≡ y
  expression_inj (act p a) (act q b) e =
      let parts : action_code a ≡ action_code b = cc in
      let same = action_inj a b parts in
      cc
  expression_inj skip skip e = refl
  expression_inj (sequence x y) (sequence z w) e =
      let (first, second) = both expression_code x y z w 2 (expression_inj x z) (expression_inj y w) e in
      cc
  expression_inj fail fail e = refl
  expression_inj (choice x y) (choice z w) e =
      let (first, second) = both expression_code x y z w 4 (expression_inj x z) (expression_inj y w) e in
      cc
  expression_inj (star x) (star y) e =
      let parts : expression_code x ≡ expression_code y = cc in
      let same = expression_inj x y parts in
      cc
  expression_inj _ _ e = cc

abbrev pub coded_expression : Coded Expression
coded_expression = record { code = expression_code; inj = expression_inj }

abbrev pub coded_graph : Coded Graph
coded_graph =
    code_by (List ℕ × List (List (Option ℕ)))
    (coded× (coded_list coded_ℕ) (coded_list (coded_list (coded_option coded_ℕ))))
    (λ g. (g.first, g.ways))
    (λ t. record { first = t.0; ways = t.1 })
    (λ _. refl)

-- a game's names and bounds, its board, its rules
abbrev pub Names : Type 0
Names = List (List ℕ)

abbrev pub coded_names : Coded Names
coded_names = coded_list (coded_list coded_ℕ)

abbrev pub GameTuple : Type 0
GameTuple = (Names × Names) × ((Names × Names) × (List ℕ × (Graph × Expression)))

abbrev pub coded_game : Coded AbstractGame
coded_game =
    code_by GameTuple
    (coded× (coded× coded_names coded_names)
    (coded× (coded× coded_names coded_names) (coded× (coded_list coded_ℕ) (coded× coded_graph coded_expression))))
    (λ g. ((g.players, g.pieces), ((g.variables, g.directions), (g.bounds, (g.board, g.rules)))))
    (λ t. record {
      players = t.0.0;
      pieces = t.0.1;
      variables = t.1.0.0;
      directions = t.1.0.1;
      bounds = t.1.1.0;
      board = t.1.1.1.0;
      rules = t.1.1.1.1;
    })
    (λ _. refl)
