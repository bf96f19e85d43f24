use Rattle.std.proofs.Common.{ℕ, ◌<◌, length, false, subst, sym}
use Rattle.rbg_shifts.proofs.Common.{start_of}
use Rattle.rbg_flat.proofs.Common.{EndsFirst, IsFirstLead, LearnsEnd, IsToTry, Meets, way_of}
use Rattle.rbg_flat.proofs.Doing.{nothing_done}
use Rattle.rbg_flat.proofs.Takings.{begins}
use Rattle.rbg_flat.proofs.ToTry.{pattern_to_try}
use Rattle.rbg_flat.proofs.flat.Flat.begin.Goals as goal

pub lead-requires-clause-vertex : goal.lead-requires-clause-vertex
lead-requires-clause-vertex c = subst (λ (k : ℕ). k < length c.args.game.now.board.first) (sym c.vertex.ensures) (subst (λ (k : ℕ). c.args.state.now.state.vertex < k) c.requires.fits.vertices c.requires.fits.vertex)

pub returns-clause-begun : goal.returns-clause-begun
returns-clause-begun c =
    let f = start_of c.args.origin in
    let s = c.args.state.now.state in
    let way = way_of c.args.paths.now in
    begins way c.args.game.now c.requires.lawful s c.requires.fits f c.clear.new.self c.lead.new.self.sets c.lead.new.self.ends c.clear.ensures.none c.clear.ensures.closed
    (subst (λ (k : ℕ). Meets c.clear.new.self c.lead.new.self.sets (λ v p. IsFirstLead way c.args.game.now f k p v) (IsToTry c.args.game.now s)) c.vertex.ensures c.lead.ensures.met)
    (subst (λ (k : ℕ). LearnsEnd false c.lead.new.self.ends (EndsFirst way c.args.game.now f k)) c.vertex.ensures c.lead.ensures.ends)

pub returns-clause-fresh : goal.returns-clause-fresh
returns-clause-fresh c = λ v p pattern done.
    nothing_done c.clear.new.self c.lead.new.self.sets _ _ c.clear.ensures.none c.lead.ensures.met v p
    (pattern_to_try c.args.game.now c.requires.lawful.numbered c.args.state.now.state p pattern v) done
