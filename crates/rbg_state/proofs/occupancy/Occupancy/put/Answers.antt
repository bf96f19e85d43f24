use Rattle.rbg_base.proofs.Common.{◌≡◌, ◌<◌, ◌≤◌, ◌*◌, ℕ, List, Some, length, get_or, slice_set, sym, ap, subst, ◌∙◌, slice_get-get_or}
use Rattle.std.proofs.lemmas.List.{get_or_read, length-set}
use Rattle.rbg_state.specs.Rows.{AreRows, ChangesBit}
use Rattle.rbg_state.proofs.RowLemmas.{rows_after_put}
use Rattle.rbg_state.proofs.occupancy.Occupancy.put.Goals as goal

pub invariant_of-self : goal.invariant_of-self
invariant_of-self c =
    let pieces : List ℕ = c.self.inside.pieces.items in
    let columns : ℕ = c.self.inside.rows.columns in
    let v : ℕ = c.args.vertex in
    let o : ℕ = c.replace-replaced.result in
    let x : ℕ = c.args.piece in
    let is_vertex : v < length pieces = rw (← c.self.view_is) at c.requires.vertex in
    let stands : o ≡ get_or pieces v 0 = c.replace-replaced.ensures.value ∙ get_or_read pieces v c.index_mut.result.now is_vertex c.index_mut.ensures.value 0 in
    let adds = subst (λ (k : ℕ). ChangesBit k c.change.new.self.words.items c.change-2.new.self.words.items x v 1) c.change.ensures.columns c.change-2.ensures.changed in
    let same : columns ≡ c.change-2.new.self.columns = sym (c.change-2.ensures.columns ∙ c.change.ensures.columns) in
    let is : slice_set pieces v x ≡ slice_set pieces v c.replace-replaced.new.dest = ap (slice_set pieces v) (sym c.replace-replaced.ensures.after) in
    let rows = rows_after_put pieces columns c.self.inside.rows.words.items c.change.new.self.words.items c.change-2.new.self.words.items v o x c.self.invariant.0 is_vertex (sym stands) c.change.ensures.changed adds in
    let moved = subst (λ (ps : List ℕ). AreRows ps (length ps) columns c.change-2.new.self.words.items) is rows in
    let wide : length (slice_set pieces v x) ≤ columns * 64 = subst (λ (k : ℕ). k ≤ columns * 64) (sym (length-set pieces v x)) c.self.invariant.1 in (
      subst (λ (k : ℕ). AreRows (slice_set pieces v c.replace-replaced.new.dest) (length (slice_set pieces v c.replace-replaced.new.dest)) k c.change-2.new.self.words.items) same moved,
      subst (λ (k : ℕ). length (slice_set pieces v c.replace-replaced.new.dest) ≤ k * 64) same (subst (λ (ps : List ℕ). length ps ≤ columns * 64) is wide),
    )

pub returns-clause-replaced : goal.returns-clause-replaced
returns-clause-replaced c =
    let pieces = c.self.inside.pieces.items in
    let is_vertex : c.args.vertex < length pieces = rw (← c.self.view_is) at c.requires.vertex in
    let read = get_or_read pieces c.args.vertex c.index_mut.result.now is_vertex c.index_mut.ensures.value 0 in
    rw (← c.self.view_is) (slice_get-get_or pieces c.args.vertex 0 is_vertex ∙ ap Some (sym (c.replace-replaced.ensures.value ∙ read)))
