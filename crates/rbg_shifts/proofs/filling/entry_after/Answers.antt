use Rattle.std.proofs.Common.{◌∙◌, ℕ, length, inl, inr, sym, subst, IsTrue}
use Rattle.rbg_shifts.proofs.Common.{IsShiftAt, Comes}
use Rattle.rbg_shifts.proofs.Cases.{not_both, no_some, some_same}
use Rattle.rbg_shifts.proofs.Fillings.{told_nowhere}
use Rattle.rbg_shifts.proofs.Sharing.{after_there, entry_step, shared_told}
use Rattle.rbg_shifts.proofs.Tabling.{entry_of_none}
use Rattle.rbg_shifts.proofs.filling.entry_after.Goals as goal
use Rattle.rbg_shifts.proofs.filling.entry_after.Goals.{then-beyond, else-beyond}

pub returns-in_default-clause-sound : goal.returns-in_default-clause-sound
returns-in_default-clause-sound c = entry_of_none c.args.setting.now.ground.now c.args.setting.now.lists.now c.args.table.now c.args.only.now.node c.args.vertex c.args.only.now.may_end (λ t. subst IsTrue c.requires.may_end t)

pub returns-in_default-clause-told : goal.returns-in_default-clause-told
returns-in_default-clause-told c =
    let stands = c.requires.branch.stands c.args.only.now.direction c.requires.direction in
    told_nowhere c.args.setting.now.ground.now c.args.setting.now.lists.now c.args.table.now 0 0 c.args.only.now.may_end c.args.vertex c.args.only.now.branch.position (record { direction = c.args.only.now.direction; stands = stands })
    (λ w comes. no_some (sym c.in_default.is ∙ (c.step.ensures.comes c.args.only.now.branch.position w stands).1 comes))

pub entry_there-beyond-requires : goal.entry_there-beyond-requires
entry_there-beyond-requires c =
    after_there c.args.setting.now.ground.now c.requires.right.lawful.numbered c.args.setting.now.lists.now c.requires.right.nodes c.args.table.now c.requires.right.sound c.args.only.now.branch.position c.in-Some.to c.args.only.now.branch.after
    (record { direction = c.args.only.now.direction; stands = c.requires.branch.stands c.args.only.now.direction c.requires.direction }) c.in-Some.ensures.is_vertex c.requires.branch.after

pub returns-clause-within : goal.returns-clause-within
returns-clause-within c = record { ends = (c.entry_there-beyond.ensures.within (length c.args.table.now.targets.items) c.args.table.now.within).ends }

pub returns-clause-sound : goal.returns-clause-sound
returns-clause-sound c =
    let p : ℕ = c.args.only.now.branch.position in
    let stands = c.requires.branch.stands c.args.only.now.direction c.requires.direction in
    let shift : IsShiftAt c.args.setting.now.ground.now.rules p = record { direction = c.args.only.now.direction; stands = stands } in
    let comes : Comes c.args.setting.now.ground.now c.args.vertex p c.in-Some.to = (c.step.ensures.comes p c.in-Some.to stands).0 c.in-Some.is in
    entry_step c.args.setting.now.ground.now c.requires.right.lawful.numbered c.args.setting.now.lists.now c.requires.right.nodes c.args.table.now c.requires.right.sound c.args.only.now.node c.args.vertex p c.in-Some.to c.args.only.now.branch.after c.entry_there-beyond.result.now
    c.requires.listed shift comes c.in-Some.ensures.is_vertex c.requires.branch.after c.entry_there-beyond.ensures.entry c.if-beyond.ends (elim c.if-beyond.branch [
      | then-beyond w ↦ λ t. inl w.if-beyond.true
      | else-beyond w ↦ λ t. inr (subst IsTrue c.requires.may_end (subst IsTrue w.ends-is t))
    ])

pub returns-clause-told : goal.returns-clause-told
returns-clause-told c =
    let p : ℕ = c.args.only.now.branch.position in
    let stands = c.requires.branch.stands c.args.only.now.direction c.requires.direction in
    shared_told c.args.setting.now.ground.now c.args.setting.now.lists.now c.args.table.now c.requires.right.sound c.args.vertex p c.in-Some.to c.args.only.now.branch.after c.entry_there-beyond.result.now c.if-beyond.ends (record { direction = c.args.only.now.direction; stands = stands })
    (λ w comes. some_same (sym c.in-Some.is ∙ (c.step.ensures.comes p w stands).1 comes)) c.in-Some.ensures.is_vertex c.requires.branch.after c.entry_there-beyond.ensures.entry (elim c.if-beyond.branch [
      | then-beyond w ↦ λ t. let first = w.ends-is in let second = w.if-beyond.true in cc
      | else-beyond w ↦ λ t. absurd (not_both t w.if-beyond.false)
    ])
