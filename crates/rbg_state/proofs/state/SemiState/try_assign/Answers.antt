use Rattle.std.proofs.Common.{sym, ◌∙◌, refl, subst, ◌≤◌, ℕ, slice_set}
use Rattle.rbg_rules.specs.Meaning.{arithmetic_of}
use Rattle.rbg_state.specs.Trials.{at_vertex}
use Rattle.rbg_state.proofs.Trying.{same_value}
use Rattle.rbg_state.proofs.state.SemiState.try_assign.Goals as goal

pub returns-in-Some : goal.returns-in-Some
returns-in-Some c = λ game variable vertex is.
    let s = c.args.self.now.state in
    let n = c.in-Some.field-0 in (
      refl,
      (
        record (at_vertex s vertex) { values = slice_set s.values variable n },
        (n, same_value (arithmetic_of c.args.expression.now) s vertex ∙ c.in-Some.ensures.some.0, subst (λ (b : ℕ). n ≤ b) (sym is) c.in-Some.ensures.some.1, refl),
      ),
    )

pub returns-in-None : goal.returns-in-None
returns-in-None c = λ game variable vertex is t (n, value, most, same).
    c.in-None.ensures.none n (sym (same_value (arithmetic_of c.args.expression.now) c.args.self.now.state vertex) ∙ value)
    (subst (λ (b : ℕ). n ≤ b) is most)
