-- One line after the other, and then the last one.
use Rattle.rbg_base.proofs.Common.{◌≡◌, false, true, subst, arith, IfOk-weaker}
use Rattle.rbg_view.specs.internal.Standing.{TellsLine, TellsList, standing_of}
use Rattle.rbg_view.proofs.Lists.{followed_more, followed_none, last_stops, list_stops, list_told, number_fits, shorter}
use Rattle.rbg_view.proofs.shown_moves.Showing.show_list.Goals as goal

pub loop-line-init : goal.loop-line-init
loop-line-init c = followed_none (standing_of c.args.self.now) c.args.moves.now

pub returns-then-not-branch : goal.returns-then-not-branch
returns-then-not-branch c =
    let stops : c.in_ok-show_or_stop.field-0 ≡ false = c.if-not-branch.true in
    let told = subst (TellsLine c.in-Some.line.now c.loop-line.number (standing_of c.loop-line.self) c.show_or_stop.new.self) stops c.in_ok-show_or_stop.ensures in
    list_stops (standing_of c.args.self.now) (standing_of c.loop-line.self) c.show_or_stop.new.self c.args.moves.now c.loop-line.rest.now c.in-Some.line.now c.in-Some.beyond.now c.loop-line.number c.loop-line.invariant c.in-Some.ensures.found told

pub overflow_add-number : goal.overflow_add-number
overflow_add-number c =
    let fits = number_fits c.loop-line.number c.loop-line.rest.now c.in-Some.line.now c.in-Some.beyond.now c.args.moves.now c.loop-line.invariant.room c.in-Some.ensures.found.0 in
    omega arith

pub loop-line-preserved : goal.loop-line-preserved
loop-line-preserved c =
    let follows : c.in_ok-show_or_stop.field-0 ≡ true = c.if-not-branch.false in
    let told = subst (TellsLine c.in-Some.line.now c.loop-line.number (standing_of c.loop-line.self) c.show_or_stop.new.self) follows c.in_ok-show_or_stop.ensures in
    followed_more (standing_of c.args.self.now) (standing_of c.loop-line.self) (standing_of c.show_or_stop.new.self) c.args.moves.now c.loop-line.rest.now c.in-Some.line.now c.in-Some.beyond.now c.loop-line.number c.loop-line.invariant c.in-Some.ensures.found told

pub loop-line-smaller : goal.loop-line-smaller
loop-line-smaller c = shorter c.loop-line.rest.now c.in-Some.line.now c.in-Some.beyond.now c.in-Some.ensures.found.0

pub returns-then-branch : goal.returns-then-branch
returns-then-branch c =
    let follows = subst (TellsLine c.loop-line.rest.now c.loop-line.number (standing_of c.loop-line.self) c.show_or_stop-2.new.self) c.if-branch.true c.in_ok-show_or_stop-2.ensures in
    IfOk-weaker c.show_end.result _ (TellsList c.args.moves.now (standing_of c.args.self.now) c.show_end.new.self.scene)
    (λ is_whole told.
    list_told (standing_of c.args.self.now) (standing_of c.loop-line.self) (standing_of c.show_or_stop-2.new.self) c.show_end.new.self.scene c.args.moves.now c.loop-line.rest.now c.loop-line.number c.loop-line.invariant c.in_default.ensures.none follows is_whole told)
    c.show_end.ensures

pub returns-else-branch : goal.returns-else-branch
returns-else-branch c =
    let told = subst (TellsLine c.loop-line.rest.now c.loop-line.number (standing_of c.loop-line.self) c.show_or_stop-2.new.self) c.if-branch.false c.in_ok-show_or_stop-2.ensures in
    last_stops (standing_of c.args.self.now) (standing_of c.loop-line.self) c.show_or_stop-2.new.self c.args.moves.now c.loop-line.rest.now c.loop-line.number c.loop-line.invariant c.in_default.ensures.none told
