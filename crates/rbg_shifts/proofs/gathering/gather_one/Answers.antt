use Rattle.std.proofs.Common.{◌≡◌, ◌<◌, ◌∙◌, ℕ, List, length, get_or, false, sym, ap, subst, Bool}
use Rattle.rbg_shifts.proofs.Common.{Entry, IsShiftAt, entry_at, IsUnder, list_at, may_end_at, Comes}
use Rattle.rbg_shifts.proofs.Cases.{some_same}
use Rattle.rbg_shifts.proofs.Fillings.{told_plain, told_after, added_under}
use Rattle.rbg_shifts.proofs.Sharing.{IsRightAfter, right_after, after_there}
use Rattle.rbg_shifts.proofs.Tabling.{entry_same, unit_sound, sound_on, sound_ends_on}
use Rattle.rbg_shifts.proofs.gathering.gather_one.Goals as goal

pub returns-in_default-clause-gathered : goal.returns-in_default-clause-gathered
returns-in_default-clause-gathered c =
    let list : List ℕ = list_at c.args.setting.now.lists.now.interner c.args.spot.node in
    let may_end : Bool = may_end_at c.args.setting.now.lists.now.interner c.args.spot.node in
    let unit = c.unit.ensures in
    c.in_ok-add.ensures.adds.sound c.args.setting.now.ground.now list may_end c.args.spot.vertex c.requires.gathered
    (unit_sound c.args.setting.now.ground.now list may_end c.args.spot.vertex c.args.branch.now.position c.unit.result c.requires.vertex c.requires.listed (c.requires.branch.plain c.in_default.is) unit.has unit.position unit.vertex unit.column)

pub returns-in_default-clause-told : goal.returns-in_default-clause-told
returns-in_default-clause-told c =
    told_plain c.args.setting.now.ground.now c.args.setting.now.lists.now c.add.new.self c.args.start (length c.add.new.self.targets.items) false c.args.spot.vertex c.args.branch.now.position (c.requires.branch.plain c.in_default.is)
    (c.in_ok-add.ensures.adds.has c.args.branch.now.position c.args.spot.vertex c.unit.ensures.has)

pub entry_there-entry-requires : goal.entry_there-entry-requires
entry_there-entry-requires c =
    after_there c.args.setting.now.ground.now c.requires.right.lawful.numbered c.args.setting.now.lists.now c.requires.right.nodes c.args.table.now c.requires.right.sound c.args.branch.now.position c.in-Some-step.to c.args.branch.now.after
    (record { direction = c.in-Some.direction; stands = c.requires.branch.stands c.in-Some.direction c.in-Some.is }) c.in-Some-step.ensures.is_vertex c.requires.branch.after

pub add_all-requires-clause-before : goal.add_all-requires-clause-before
add_all-requires-clause-before c = (c.entry_there-entry.ensures.within c.args.start c.requires.within).ends

-- The branch is a shift that leads to one vertex, with what is recorded after it.
is_shift : (c : goal.In_ok-add_all) → IsShiftAt c.args.setting.now.ground.now.rules c.args.branch.now.position
is_shift c = record { direction = c.in-Some.direction; stands = c.requires.branch.stands c.in-Some.direction c.in-Some.is }

comes : (c : goal.In_ok-add_all) → Comes c.args.setting.now.ground.now c.args.spot.vertex c.args.branch.now.position c.in-Some-step.to
comes c = (c.step.ensures.comes c.args.branch.now.position c.in-Some-step.to (c.requires.branch.stands c.in-Some.direction c.in-Some.is)).0 c.in-Some-step.is

beyond : (c : goal.In_ok-add_all) → IsRightAfter c.args.setting.now.ground.now c.args.setting.now.lists.now c.args.table.now c.args.branch.now.position c.in-Some-step.to c.entry_there-entry.result.now
beyond c =
    right_after c.args.setting.now.ground.now c.requires.right.lawful.numbered c.args.setting.now.lists.now c.requires.right.nodes c.args.table.now c.requires.right.sound c.args.branch.now.position c.in-Some-step.to c.args.branch.now.after c.entry_there-entry.result.now
    (is_shift c) c.in-Some-step.ensures.is_vertex c.requires.branch.after c.entry_there-entry.ensures.entry

pub returns-clause-gathered : goal.returns-clause-gathered
returns-clause-gathered c =
    let interner = c.args.setting.now.lists.now.interner in
    c.in_ok-add_all.ensures.adds.sound c.args.setting.now.ground.now (list_at interner c.args.spot.node) (may_end_at interner c.args.spot.node) c.args.spot.vertex c.requires.gathered
    (sound_on c.args.setting.now.ground.now c.requires.right.lawful.numbered c.args.setting.now.lists.now c.args.table.now c.args.spot.node c.args.spot.vertex c.args.branch.now.position c.in-Some-step.to (get_or c.args.setting.now.lists.now.afters.items c.args.branch.now.position 0) c.entry_there-entry.result.now
    c.requires.listed (is_shift c) (comes c) (beyond c).node (beyond c).sound)

pub returns-clause-ends : goal.returns-clause-ends
returns-clause-ends c =
    sound_ends_on c.args.setting.now.ground.now c.requires.right.lawful.numbered c.args.setting.now.lists.now c.args.table.now c.args.spot.node c.args.spot.vertex c.args.branch.now.position c.in-Some-step.to (get_or c.args.setting.now.lists.now.afters.items c.args.branch.now.position 0) c.entry_there-entry.result.now
    c.requires.listed (is_shift c) (comes c) (beyond c).node (beyond c).sound

pub returns-clause-told : goal.returns-clause-told
returns-clause-told c =
    let p : ℕ = c.args.branch.now.position in
    let m : ℕ = get_or c.args.setting.now.lists.now.afters.items p 0 in
    let new = c.add_all.new.self in
    let entry : Entry = c.entry_there-entry.result.now in
    let to : ℕ = c.in-Some-step.to in
    let grows = c.in_ok-add_all.ensures.grows in
    let on_board : to < new.vertices = subst (λ (n : ℕ). to < n) (sym (grows.vertices ∙ c.requires.right.sound.laid_out.vertices)) c.in-Some-step.ensures.is_vertex in
    let same : entry ≡ entry_at new m to =
    c.entry_there-entry.ensures.entry ∙ ap (λ (k : ℕ). entry_at c.args.table.now k to) c.requires.branch.after ∙ sym (entry_same c.args.start c.args.table.now new grows m to) in
    told_after c.args.setting.now.ground.now c.args.setting.now.lists.now new c.args.start (length new.targets.items) entry.ends c.args.spot.vertex p to (is_shift c)
    (λ w at. some_same (sym c.in-Some-step.is ∙ (c.step.ensures.comes p w (c.requires.branch.stands c.in-Some.direction c.in-Some.is)).1 at)) on_board
    (subst (λ (e : Entry). IsUnder new e c.args.start (length new.targets.items) entry.ends) same
    (added_under c.args.start c.args.table.now new entry (c.entry_there-entry.ensures.within c.args.start c.requires.within) c.in_ok-add_all.ensures.adds))
