use Rattle.std.proofs.Common.{◌≡◌, ◌<◌, ◌∙◌, ℕ, List, length, get_or, sym, ap, subst, arith, All, Contains, IsTrue}
use Rattle.rbg_shifts.proofs.Common.{Branch, Grows, IsGathered, IsWholeFrom, IsWithin, row_words, no_branch, branches_at, list_at, may_end_at, IsLeapBy, RecordsStepFrom}
use Rattle.rbg_shifts.proofs.Cases.{not_both}
use Rattle.rbg_shifts.proofs.Fillings.{is_listed, told_grown, raise_end}
use Rattle.rbg_shifts.proofs.Places.{same_item, before, last, last_place}
use Rattle.rbg_shifts.proofs.Interning.{branch_at, branch_listed, branch_there}
use Rattle.rbg_shifts.proofs.Steppings.{ends_here}
use Rattle.rbg_shifts.proofs.Tabling.{grows_none, grows_more, table_grown}
use Rattle.rbg_shifts.proofs.Targets.{sound_none}
use Rattle.rbg_shifts.proofs.gathering.gather.Goals as goal
use Rattle.rbg_shifts.proofs.gathering.gather.Goals.{then-ends, else-ends}

pub loop-branch-init : goal.loop-branch-init
loop-branch-init c =
    let interner = c.args.setting.now.lists.now.interner in
    let game = c.args.setting.now.ground.now in
    let at_end : c.len-start.result ≡ length c.args.table.now.targets.items = c.len-start.ensures ∙ c.args.table.now.targets.ok.0 in
    record {
      sound = c.requires.right.sound;
      grows = grows_none c.len-start.result c.args.table.now;
      gathered = sound_none (IsLeapBy game (list_at interner c.args.spot.node) (may_end_at interner c.args.spot.node) c.args.spot.vertex) (row_words game) c.args.table.now.targets.items c.len-start.result (length c.args.table.now.targets.items) (omega (arith, at_end));
      ends_told = λ is. subst IsTrue (sym c.requires.may_end) is;
      told = λ i below. absurd (omega (arith, below));
      ends = λ is. ends_here game (list_at interner c.args.spot.node) (may_end_at interner c.args.spot.node) c.args.spot.vertex (subst IsTrue c.requires.may_end is);
    }

pub gather_one-requires-clause-listed : goal.gather_one-requires-clause-listed
gather_one-requires-clause-listed c =
    let lists = c.args.setting.now.lists.now in
    let n : ℕ = c.args.spot.node in
    let k : ℕ = c.loop-branch.branch-index in
    let nodes = c.requires.right.nodes.branches in
    let there : k < length (branches_at lists n) = subst (λ (bs : List Branch). k < length bs) c.requires.list c.loop-branch-test.true in
    let xs : List ℕ = list_at lists.interner n in
    subst (Contains xs)
    (sym (branch_at c.args.setting.now.ground.now.rules lists nodes n k c.requires.node there no_branch).position ∙ ap (λ (bs : List Branch). (get_or bs k no_branch).position) (sym c.requires.list))
    (is_listed xs k (branch_listed c.args.setting.now.ground.now.rules lists nodes n k c.requires.node there))

pub loop-branch-preserved : goal.loop-branch-preserved
loop-branch-preserved c =
    let inv = c.loop-branch.invariant in
    let more = c.in_ok-then.ensures.grows in
    let game = c.args.setting.now.ground.now in
    let lists = c.args.setting.now.lists.now in
    let old = c.loop-branch.table in
    let new = c.gather_one.new.table in
    let start : ℕ = c.len-start.result in
    let at_end : start ≡ length c.args.table.now.targets.items = c.len-start.ensures ∙ c.args.table.now.targets.ok.0 in
    let interner = lists.interner in
    let k : ℕ = c.loop-branch.branch-index in
    let v : ℕ = c.args.spot.vertex in
    let inside : All (IsWithin start) old.entries.items =
    subst (All (IsWithin start)) (sym inv.grows.are_entries)
    (subst (λ (size : ℕ). All (IsWithin size) c.args.table.now.entries.items) (sym at_end) c.args.table.now.within) in
    let n : ℕ = c.args.spot.node in
    let there : k < length (branches_at lists n) = subst (λ (bs : List Branch). k < length bs) c.requires.list c.loop-branch-test.true in
    let position : (get_or c.args.list.now k no_branch).position ≡ get_or (list_at interner n) k 0 =
    ap (λ (bs : List Branch). (get_or bs k no_branch).position) c.requires.list ∙ (branch_at game.rules lists c.requires.right.nodes.branches n k c.requires.node there no_branch).position in
    let up : IsTrue c.loop-branch.ends → IsTrue c.if-ends.ends = elim c.if-ends.branch [
      | then-ends w ↦ λ is. let first = w.ends-is in let second = w.if-ends.true in cc
      | else-ends w ↦ λ is. absurd (not_both is w.if-ends.false)
    ] in
    let over : IsTrue c.in_ok-then.then → IsTrue c.if-ends.ends = elim c.if-ends.branch [
      | then-ends w ↦ λ is. let first = w.ends-is in let second = w.if-ends.true in cc
      | else-ends w ↦ λ is. subst IsTrue (sym w.ends-is) is
    ] in
    record {
      sound = table_grown game lists start old new inside more inv.sound;
      grows = grows_more start c.args.table.now old new inv.grows more;
      gathered = c.in_ok-then.ensures.gathered;
      ends_told = λ is. up (inv.ends_told is);
      told = λ i below. elim (last_place k i below) [
        | before e ↦ told_grown game lists start old new c.loop-branch.ends c.if-ends.ends v (get_or (list_at interner n) i 0) inside more c.in_ok-then.ensures.keeps up (inv.told i e)
        | last e ↦
            raise_end game lists new start (length new.targets.items) c.in_ok-then.then c.if-ends.ends v (get_or (list_at interner n) i 0) over
            (subst (RecordsStepFrom game lists new start c.in_ok-then.then v) (position ∙ ap (λ (m : ℕ). get_or (list_at interner n) m 0) (sym e)) c.in_ok-then.ensures.told)
      ];
      ends = elim c.if-ends.branch [
        | then-ends w ↦ λ is. inv.ends w.if-ends.true
        | else-ends w ↦ λ is. c.in_ok-then.ensures.ends (subst IsTrue w.ends-is is)
      ];
    }

pub returns-clause-grows : goal.returns-clause-grows
returns-clause-grows c =
    subst (λ (k : ℕ). Grows k c.args.table.now c.loop-branch.table) (c.len-start.ensures ∙ c.args.table.now.targets.ok.0) c.loop-branch.invariant.grows

pub returns-clause-gathered : goal.returns-clause-gathered
returns-clause-gathered c =
    subst (λ (k : ℕ). IsGathered c.args.setting.now.ground.now c.args.setting.now.lists.now c.loop-branch.table k c.args.spot.node c.args.spot.vertex)
    (c.len-start.ensures ∙ c.args.table.now.targets.ok.0) c.loop-branch.invariant.gathered

pub returns-clause-whole : goal.returns-clause-whole
returns-clause-whole c =
    let game = c.args.setting.now.ground.now in
    let lists = c.args.setting.now.lists.now in
    let n : ℕ = c.args.spot.node in
    let v : ℕ = c.args.spot.vertex in
    subst (λ (k : ℕ). IsWholeFrom game lists c.loop-branch.table k n v c.loop-branch.ends) (c.len-start.ensures ∙ c.args.table.now.targets.ok.0) (record {
      ends = c.loop-branch.invariant.ends_told;
      told = λ k d there.
          subst (RecordsStepFrom game lists c.loop-branch.table c.len-start.result c.loop-branch.ends v) (sym (same_item (list_at lists.interner n) k d there))
          (c.loop-branch.invariant.told k
          (let below = branch_there game.rules lists c.requires.right.nodes.branches n k c.requires.node there in
          let all = ap length c.requires.list in
          omega (arith, below, all, c.loop-branch-test.false)));
    })
