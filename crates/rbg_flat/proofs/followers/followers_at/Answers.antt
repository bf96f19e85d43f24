use Rattle.std.proofs.Common.{◌≡◌, ℕ, List, [], Bool, subst, sym, Result, Ok, Err, IfOk, IsTrue, ◌↔◌}
use Rattle.rbg_rules.specs.Meaning.{AbstractGame, Ends, Start, after, beginning}
use Rattle.rbg_auto.specs.Steps.{AreAllThatFollow, level_of}
use Rattle.rbg_shifts.specs.Origin.{start_of}
use Rattle.rbg_shifts.specs.declared.origin.Origin.{Origin}
use Rattle.rbg_flat.proofs.Common.{AreFollowers, Followers}
use Rattle.rbg_flat.proofs.followers.followers_at.Goals as goal

-- A copy tells the same.
copy_told : {E : Type 0} (game : AbstractGame) (f : Start) (next : List ℕ) (ends : Bool) (r : Result Followers E) → IfOk r (λ made. (made.positions.items ≡ next) × (made.ends ≡ ends)) → AreAllThatFollow game.rules f next → IsTrue ends ↔ Ends game.rules f [] → IfOk r (AreFollowers game f)
copy_told game f next ends (Ok made) copied follow told = record {
  follow = subst (λ (ps : List ℕ). AreAllThatFollow game.rules f ps) (sym copied.0) follow;
  ends = subst (λ (e : Bool). IsTrue e ↔ Ends game.rules f []) (sym copied.1) told;
}
copy_told game f next ends (Err e) copied follow told = tt

pub returns-in-Begin : goal.returns-in-Begin
returns-in-Begin g c =
    subst (λ (o : Origin). IfOk c.copied.result (AreFollowers c.args.game.now (start_of o))) (sym c.in-Begin.is)
    (copy_told c.args.game.now (beginning (level_of c.in-Begin.expr)) c.first.result.now c.may_be_empty.result c.copied.result c.copied.ensures
    (c.first.ensures c.args.game.now.rules c.requires) (c.may_be_empty.ensures c.args.game.now.rules c.requires))

pub returns-in-After : goal.returns-in-After
returns-in-After g c =
    subst (λ (o : Origin). IfOk c.copied-in-After.result (AreFollowers c.args.game.now (start_of o))) (sym c.in-After.is)
    (copy_told c.args.game.now (after c.in-After.position) c.next.result.now c.may_end.result c.copied-in-After.result c.copied-in-After.ensures
    (c.next.ensures c.args.game.now.rules c.requires) (c.may_end.ensures c.args.game.now.rules c.requires))
