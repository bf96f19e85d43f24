use Rattle.std.proofs.Common.{rules, ◌≡◌, [], ◌∷◌, map, true, false, sym, ◌∙◌}
use Rattle.rbg_grammar.proofs.Common.{next_is, atom_at, too_deep_at, rule_of}
use Rattle.rbg_macro.specs.Kinds.{opens}
use Rattle.rbg_syntax.specs.internal.Levels.{further_part_at, goes_on}
use Rattle.rbg_syntax.proofs.Parts.{atom_inside, atom_open, atom_none, same_deep, further_part_takes_some, list_fail, list_alone, list_more, list_more_fail}
use Rattle.rbg_syntax.proofs.Exits.{FailsWithin-from, GivesWithin-shallow, GivesWithin-from_err}
use Rattle.rbg_grammar.proofs.Turns.{further_begins, some_turn, some_turn_fails, some_ends, some_smaller, map-push}
use Rattle.rbg_syntax.proofs.parser.Parser.+rules.Goals as goal

pub further-loop-alloc-init : goal.further-loop-alloc-init
further-loop-alloc-init t c =
    let one : map rule_of c.push.new.self.items ≡ (rule_of c.args.first) ∷ [] = search rules in
    rw one (further_begins (rule_of c.args.first) (further_part_at c.args.level c.args.brackets) (goes_on c.args.level) c.args.self.now)

pub further-returns-in_err-further_part : goal.further-returns-in_err-further_part
further-returns-in_err-further_part t c =
    let more : next_is (goes_on c.args.level) c.loop-alloc.self ≡ true = sym c.goes_on.ensures ∙ c.loop-alloc-test.true in
    GivesWithin-from_err _ _ _ _ _ c.from_residual-in_err-further_part.ensures.1
    (λ f e. some_turn_fails (further_part_at c.args.level c.args.brackets) (further_part_takes_some c.args.level c.args.brackets) (goes_on c.args.level) _ _ c.loop-alloc.self f c.loop-alloc.invariant more e) c.in_err-further_part.ensures

pub further-loop-alloc-smaller : goal.further-loop-alloc-smaller
further-loop-alloc-smaller t c =
    some_smaller (further_part_at c.args.level c.args.brackets) (further_part_takes_some c.args.level c.args.brackets) (goes_on c.args.level) c.loop-alloc.self c.further_part.new.self _ c.in_ok-further_part.ensures

pub further-loop-alloc-preserved : goal.further-loop-alloc-preserved
further-loop-alloc-preserved t c =
    let more : next_is (goes_on c.args.level) c.loop-alloc.self ≡ true = sym c.goes_on.ensures ∙ c.loop-alloc-test.true in
    let turn = some_turn (further_part_at c.args.level c.args.brackets) (further_part_takes_some c.args.level c.args.brackets) (goes_on c.args.level) _ (map rule_of c.loop-alloc.parts.items) c.loop-alloc.self c.further_part.new.self (rule_of c.in_ok-further_part.field-0)
    c.loop-alloc.invariant more c.in_ok-further_part.ensures in
    rw (map-push rule_of c.loop-alloc.parts.items _ c.in_ok-further_part.field-0 c.in_ok-push-2.ensures.items) turn

pub further-returns : goal.further-returns
further-returns t c =
    let stops : next_is (goes_on c.args.level) c.loop-alloc.self ≡ false = sym c.goes_on.ensures ∙ c.loop-alloc-test.false in
    some_ends (further_part_at c.args.level c.args.brackets) (further_part_takes_some c.args.level c.args.brackets) (goes_on c.args.level) _ _ c.loop-alloc.self c.loop-alloc.invariant stops

pub list-returns-in_err-first : goal.list-returns-in_err-first
list-returns-in_err-first t c = GivesWithin-from_err _ _ _ _ _ c.from_residual.ensures.1 (list_fail c.args.level c.args.brackets c.args.self.now) c.in_err-first.ensures

pub list-returns-then-not-goes_on : goal.list-returns-then-not-goes_on
list-returns-then-not-goes_on t c = list_alone c.args.level c.args.brackets c.args.self.now (rule_of c.in_ok-first.first) c.part.new.self c.in_ok-first.ensures (sym c.goes_on.ensures ∙ c.if-not-goes_on.true)

pub list-returns-in_err-parts : goal.list-returns-in_err-parts
list-returns-in_err-parts t c =
    GivesWithin-from_err _ _ _ _ _ c.from_residual-in_err-parts.ensures.1
    (λ f e. list_more_fail c.args.level c.args.brackets c.args.self.now (rule_of c.in_ok-first.first) c.part.new.self f c.in_ok-first.ensures e) c.in_err-parts.ensures

pub list-returns : goal.list-returns
list-returns t c =
    rw c.joined.ensures (list_more c.args.level c.args.brackets c.args.self.now (rule_of c.in_ok-first.first) c.part.new.self (map rule_of c.in_ok-parts.parts.items) c.further.new.self c.in_ok-first.ensures c.in_ok-parts.ensures)

pub atom-returns-then-not-next_is_opening : goal.atom-returns-then-not-next_is_opening
atom-returns-then-not-next_is_opening t c =
    rw (atom_open c.args.brackets c.args.self.now (sym c.next_is_opening.ensures ∙ c.if-not-next_is_opening.true)) (GivesWithin-shallow _ _ _ c.open_atom.ensures)

pub atom-returns-then-brackets-eq0 : goal.atom-returns-then-brackets-eq0
atom-returns-then-brackets-eq0 t c =
    let here : next_is opens c.args.self.now ≡ true = sym c.next_is_opening.ensures ∙ c.if-not-next_is_opening.false in
    FailsWithin-from c.too_deep.result (too_deep_at {A = Unit {0}} c.args.self.now) (atom_at c.args.brackets c.args.self.now)
    (λ f e. rw c.if-brackets-eq0.true (atom_none c.args.self.now here ∙ same_deep c.args.self.now f e)) c.too_deep.ensures

pub atom-returns : goal.atom-returns
atom-returns t c = rw (atom_inside c.args.brackets c.args.self.now c.if-brackets-eq0.false (sym c.next_is_opening.ensures ∙ c.if-not-next_is_opening.false)) c.bracket_atom.ensures
