-- The lines of the shape of a game, one after the other.
use Rattle.rbg_base.proofs.Common.{◌≡◌, ℕ, suc, ◌+◌, List, [], ◌∷◌, ◌++◌, length, take, slice_get, Option, Some, Result, Ok, Err, OnOk, codes, decimal, ap, sym, ◌∙◌, refl, subst, arith, append_assoc, append-nil, take_more, slice_get_within, get_or_from_slice_get, length-append}
use Rattle.std.specs.List.{flat_map}
use Rattle.std.proofs.lemmas.List.Concat.{flat_map-append}
use Rattle.rbg_board.specs.Graph.{Graph, next}
use Rattle.rbg_rules.specs.Meaning.{AbstractAction, AbstractGame, Expression, HasAction, IsActionAt, action_of, positions_of, skip}
use Rattle.rbg_rules.specs.declared.rule.Action.{Action}
use Rattle.rbg_rules.specs.declared.rule.Action.TheVariants.{Shift, On, Off, Assign, Compare, Switch, Positive, Negative}
use Rattle.rbg_wire.specs.Lines.{line_of}
use Rattle.rbg_wire.specs.Writing.{Appends}
use Rattle.rbg_wire.proofs.Kept.{kept_after}
use Rattle.rbg_questions.specs.Fields.{names_text, numbers_text}
use Rattle.rbg_questions.specs.Shapes.{StandFirst, none, one_more, action_line, counts_line, edge_lines, layout_text, way_text, ways_text}
use Rattle.rbg_questions.specs.Answers.{answer_text}
use Rattle.rbg_questions.specs.internal.Shaping.{WritesActions, WritesShape}

-- what is written after what was written
pub and_then : (old front mid new text : List ℕ) → mid ≡ old ++ front → new ≡ mid ++ text → new ≡ old ++ (front ++ text)
and_then old front mid new text so_far written = written ∙ (ap (λ m. m ++ text) so_far ∙ append_assoc old front text)

-- three parts, and four, one after the other
pub three_parts : {E : Type 0} (old one two new a b c : List ℕ) (result : Result (Unit {0}) E) → one ≡ old ++ a → two ≡ one ++ b → Appends two new c result → Appends old new (a ++ b ++ c) result
three_parts old one two new a b c (Ok x) first second third =
    let grown : two ≡ old ++ (a ++ b) = and_then old a one two b first second in
    record { written = and_then old (a ++ b) two new c grown third.written; kept = kept_after old (a ++ b) two new grown third.kept }
three_parts old one two new a b c (Err e) first second third =
    let grown : two ≡ old ++ (a ++ b) = and_then old a one two b first second in
    record { written = tt; kept = kept_after old (a ++ b) two new grown third.kept }

four_parts : {E : Type 0} (old one two three new a b c d : List ℕ) (result : Result (Unit {0}) E) → one ≡ old ++ a → two ≡ one ++ b → three ≡ two ++ c → Appends three new d result → Appends old new (a ++ b ++ c ++ d) result
four_parts old one two three new a b c d (Ok x) first second third fourth =
    let grown : three ≡ old ++ (a ++ b ++ c) = and_then old (a ++ b) two three c (and_then old a one two b first second) third in
    record { written = and_then old (a ++ b ++ c) three new d grown fourth.written; kept = kept_after old (a ++ b ++ c) three new grown fourth.kept }
four_parts old one two three new a b c d (Err e) first second third fourth =
    let grown : three ≡ old ++ (a ++ b ++ c) = and_then old (a ++ b) two three c (and_then old a one two b first second) third in
    record { written = tt; kept = kept_after old (a ++ b ++ c) three new grown fourth.kept }

pub layout_written : {E : Type 0} (game : AbstractGame) (old one two three new : List ℕ) (result : Result (Unit {0}) E) → one ≡ old ++ counts_line (length game.players) (length game.board.first) (length (positions_of game.rules)) → two ≡ one ++ line_of (codes "bounds" ++ numbers_text game.bounds) → three ≡ two ++ line_of (codes "directions" ++ names_text game.directions) → Appends three new (edge_lines game.board (length game.directions) (length game.board.first)) result → Appends old new (layout_text game) result
unfolding layout_text
layout_written game old one two three new result first second third fourth =
    four_parts old one two three new (counts_line (length game.players) (length game.board.first) (length (positions_of game.rules))) (line_of (codes "bounds" ++ numbers_text game.bounds)) (line_of (codes "directions" ++ names_text game.directions)) (edge_lines game.board (length game.directions) (length game.board.first)) result first second third fourth

-- the numbers so far, and the next one
pub numbers_more : (old mid new numbers : List ℕ) (index number : ℕ) → mid ≡ old ++ numbers_text (take index numbers) → slice_get numbers index ≡ Some number → new ≡ mid ++ (codes " " ++ decimal number) → new ≡ old ++ numbers_text (take (index + 1) numbers)
numbers_more old mid new numbers index number so_far there written =
    let longer : take (index + 1) numbers ≡ take index numbers ++ number ∷ [] =
    take_more numbers index 0 (slice_get_within numbers index number there) ∙ ap (λ n. take index numbers ++ n ∷ []) (get_or_from_slice_get numbers index number 0 there) in
    let told : numbers_text (take (index + 1) numbers) ≡ numbers_text (take index numbers) ++ (codes " " ++ decimal number) =
    ap numbers_text longer ∙ (flat_map-append (λ n. codes " " ++ decimal n) (take index numbers) (number ∷ []) ∙ ap (λ t. numbers_text (take index numbers) ++ t) (append-nil (codes " " ++ decimal number))) in
    and_then old (numbers_text (take index numbers)) mid new (codes " " ++ decimal number) so_far written ∙ ap (λ t. old ++ t) (sym told)

-- the ways so far, and the next one
pub ways_more : (old mid new : List ℕ) (board : Graph) (vertex index : ℕ) (to : Option ℕ) → mid ≡ old ++ ways_text board vertex index → to ≡ next board vertex index → new ≡ mid ++ way_text to → new ≡ old ++ ways_text board vertex (index + 1)
ways_more old mid new board vertex index to so_far leads written =
    let same : suc index ≡ index + 1 = omega arith in
    let whole : ways_text board vertex (index + 1) ≡ ways_text board vertex index ++ way_text to = ap (ways_text board vertex) (sym same) ∙ ap (λ t. ways_text board vertex index ++ way_text t) (sym leads) in
    and_then old (ways_text board vertex index) mid new (way_text to) so_far written ∙ ap (λ t. old ++ t) (sym whole)

-- the lines of the vertices so far, and the next one
pub edges_more : (old mid new : List ℕ) (board : Graph) (directions index : ℕ) → mid ≡ old ++ edge_lines board directions index → new ≡ mid ++ line_of (codes "edges" ++ ways_text board index directions) → new ≡ old ++ edge_lines board directions (index + 1)
edges_more old mid new board directions index so_far written =
    let same : suc index ≡ index + 1 = omega arith in
    and_then old (edge_lines board directions index) mid new (line_of (codes "edges" ++ ways_text board index directions)) so_far written
    ∙ ap (λ n. old ++ edge_lines board directions n) same

-- The lines of the actions at the first positions, so many of them, stand after the bytes that were there.
pub record WrittenFirst (rules : Expression) (many : ℕ) (before after : List ℕ) : Type 0 where
  pub actions : List AbstractAction
  pub first : StandFirst rules actions
  pub all : length actions ≡ many
  pub told : after ≡ before ++ flat_map action_line actions

pub written_none : (rules : Expression) (bytes : List ℕ) → WrittenFirst rules 0 bytes bytes
written_none rules bytes = record { actions = []; first = none; all = refl; told = sym (append-nil bytes) }

-- The action of the program is one of the rules, of the same text.
pub record IsToldAt (rules : Expression) (position : ℕ) (action : Action) : Type 0 where
  pub here : AbstractAction
  pub stands : HasAction rules position here
  pub same : action_line here ≡ action_line (action_of action skip)

pub told_at : (rules : Expression) (position : ℕ) (action : Action) → IsActionAt rules position action → IsToldAt rules position action
told_at rules position (Shift d) stands = record { here = action_of (Shift d) skip; stands = stands; same = refl }
told_at rules position (On pieces) stands = record { here = action_of (On pieces) skip; stands = stands; same = refl }
told_at rules position (Off x) stands = record { here = action_of (Off x) skip; stands = stands; same = refl }
told_at rules position (Assign v e) stands = record { here = action_of (Assign v e) skip; stands = stands; same = refl }
told_at rules position (Compare e r f) stands = record { here = action_of (Compare e r f) skip; stands = stands; same = refl }
told_at rules position (Switch n) stands = record { here = action_of (Switch n) skip; stands = stands; same = refl }
told_at rules position Positive stands = record { here = action_of Positive stands.0; stands = stands.1; same = refl }
told_at rules position Negative stands = record { here = action_of Negative stands.0; stands = stands.1; same = refl }

pub written_more : (rules : Expression) (many : ℕ) (old mid new : List ℕ) (action : Action) → WrittenFirst rules many old mid → IsActionAt rules (many + 1) action → new ≡ mid ++ action_line (action_of action skip) → WrittenFirst rules (many + 1) old new
written_more rules many old mid new action so_far stands written =
    let found = told_at rules (many + 1) action stands in
    let placed : HasAction rules (length so_far.actions + 1) found.here = subst (λ n. HasAction rules (n + 1) found.here) (sym so_far.all) found.stands in
    let text : flat_map action_line (so_far.actions ++ found.here ∷ []) ≡ flat_map action_line so_far.actions ++ action_line (action_of action skip) =
    flat_map-append action_line so_far.actions (found.here ∷ []) ∙ ap (λ t. flat_map action_line so_far.actions ++ t) (append-nil (action_line found.here) ∙ found.same) in
    record {
      actions = so_far.actions ++ found.here ∷ [];
      first = one_more found.here so_far.first placed;
      all = length-append so_far.actions (found.here ∷ []) ∙ ap (λ n. n + 1) so_far.all;
      told = and_then old (flat_map action_line so_far.actions) mid new (action_line (action_of action skip)) so_far.told written ∙ ap (λ t. old ++ t) (sym text);
    }

pub written_all : (rules : Expression) (many : ℕ) (old new : List ℕ) → WrittenFirst rules many old new → many ≡ length (positions_of rules) → WritesActions rules old new
written_all rules many old new so_far all = record {
  actions = so_far.actions;
  are = record { first = so_far.first; all = so_far.all ∙ all };
  told = so_far.told;
}

-- the layout, and then the actions
pub shape_written : (game : AbstractGame) (old mid new : List ℕ) → mid ≡ old ++ layout_text game → WritesActions game.rules mid new → WritesShape game old new
unfolding answer_text
shape_written game old mid new laid actions = record {
  actions = actions.actions;
  are = actions.are;
  told = and_then old (layout_text game) mid new (flat_map action_line actions.actions) laid actions.told;
}

pub shape_told : {E : Type 0} (game : AbstractGame) (old mid new : List ℕ) (result : Result (Unit {0}) E) → mid ≡ old ++ layout_text game → OnOk result (WritesActions game.rules mid new) → OnOk result (WritesShape game old new)
shape_told game old mid new (Ok x) laid actions = shape_written game old mid new laid actions
shape_told game old mid new (Err e) laid actions = tt
