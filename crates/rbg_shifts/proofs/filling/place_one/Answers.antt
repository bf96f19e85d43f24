use Rattle.std.proofs.Common.{◌≡◌, ◌∙◌, ℕ, List, Bool, length, sym, subst, arith, IsTrue}
use Rattle.rbg_shifts.proofs.Common.{row_words, list_at, may_end_at, IsLeapBy}
use Rattle.rbg_shifts.proofs.Fillings.{one_filled, only_listed, told_plain, whole_of_one}
use Rattle.rbg_shifts.proofs.Steppings.{ends_here}
use Rattle.rbg_shifts.proofs.Tabling.{unit_sound}
use Rattle.rbg_shifts.proofs.Targets.{sound_none}
use Rattle.rbg_shifts.proofs.filling.place_one.Goals as goal

pub returns : goal.returns
returns c =
    let game = c.args.setting.now.ground.now in
    let lists = c.args.setting.now.lists.now in
    let old = c.args.table.now in
    let middle = c.add.new.self in
    let list : List ℕ = list_at lists.interner c.args.spot.node in
    let may_end : Bool = may_end_at lists.interner c.args.spot.node in
    let start : ℕ = c.len-start.result in
    let at_end : start ≡ length old.targets.items = c.len-start.ensures ∙ old.targets.ok.0 in
    let unit = c.unit.ensures in
    let adds = c.in_ok-add.ensures.adds in
    one_filled game lists old middle c.put.new.self start c.args.spot.node c.args.spot.vertex c.args.may_end
    at_end c.requires.vertex c.requires.at.right.sound c.in_ok-add.ensures.grows c.in_ok-put.ensures
    (adds.sound game list may_end c.args.spot.vertex (sound_none (IsLeapBy game list may_end c.args.spot.vertex) (row_words game) old.targets.items start (length old.targets.items) (omega (arith, at_end)))
    (unit_sound game list may_end c.args.spot.vertex c.args.position c.unit.result c.requires.vertex (only_listed list c.args.position c.requires.only) c.requires.plain unit.has unit.position unit.vertex unit.column))
    (λ is. ends_here game list may_end c.args.spot.vertex (subst IsTrue c.requires.may_end is))
    (whole_of_one game lists middle c.args.spot.node c.args.spot.vertex c.args.position start (length middle.targets.items) c.args.may_end c.requires.only (λ is. subst IsTrue (sym c.requires.may_end) is)
    (told_plain game lists middle start (length middle.targets.items) c.args.may_end c.args.spot.vertex c.args.position c.requires.plain (adds.has c.args.position c.args.spot.vertex unit.has)))
