use Rattle.std.proofs.Common.{◌≡◌, true, false, sym, ◌∙◌}
use Rattle.rbg_search.proofs.Asking.{pattern_leads, pattern_fails}
use Rattle.rbg_search.proofs.answer.trial_of.Goals as goal

true_not_false : true ≡ false → ⊥
true_not_false e = cc

pub returns-then-valid-clause-trial : goal.returns-then-valid-clause-trial
returns-then-valid-clause-trial c = λ game s p numbered pattern decides.
    pattern_leads game numbered s c.args.vertex p pattern (decides.0 c.if-valid.true)

pub returns-else-valid-clause-trial : goal.returns-else-valid-clause-trial
returns-else-valid-clause-trial c = λ game s p numbered pattern decides.
    pattern_fails game numbered s c.args.vertex p pattern (λ applies. true_not_false (sym (decides.1 applies) ∙ c.if-valid.false))
