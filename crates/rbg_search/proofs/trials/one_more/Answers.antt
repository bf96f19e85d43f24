use Rattle.std.proofs.Common.{◌≡◌, ℕ, ◌+◌, List, [], ◌∷◌, ◌++◌, Bool, true, false, sym, ap, ◌∙◌, subst}
use Rattle.std.proofs.lemmas.List.{length-append}
use Rattle.rbg_rules.specs.Meaning.{Expression, AbstractGame}
use Rattle.rbg_shifts.specs.Leaps.{IsShiftAt}
use Rattle.rbg_search.proofs.Along.{CountsPlain, HasPlain}
use Rattle.rbg_search.proofs.Plains.{plain_more, plain_same}
use Rattle.rbg_search.proofs.trials.one_more.Goals as goal

true_not_false : true ≡ false → ⊥
true_not_false e = cc

-- Each one counts.
all_more : (shifts : Bool) (rules : Expression) (done : List (ℕ × ℕ)) (many v p : ℕ) → shifts ≡ true → CountsPlain shifts rules done many → CountsPlain shifts rules (done ++ (v, p) ∷ []) (many + 1)
all_more true rules done many v p is has = length-append done ((v, p) ∷ []) ∙ ap (λ (n : ℕ). n + 1) has
all_more false rules done many v p is has = absurd (true_not_false (sym is))

-- .. or those alone that are no shifts.
plain_step : (shifts : Bool) (rules : Expression) (done : List (ℕ × ℕ)) (many more v p : ℕ) → shifts ≡ false → (HasPlain rules done many → HasPlain rules (done ++ (v, p) ∷ []) more) → CountsPlain shifts rules done many → CountsPlain shifts rules (done ++ (v, p) ∷ []) more
plain_step true rules done many more v p is step has = absurd (true_not_false is)
plain_step false rules done many more v p is step has = step has

pub returns-then-shifts-clause-count : goal.returns-then-shifts-clause-count
returns-then-shifts-clause-count g c = λ done v has fresh. all_more c.args.shifts c.args.rules.now.rules done c.args.many v c.args.position c.if-shifts.true has

pub returns-then-is_shift-clause-count : goal.returns-then-is_shift-clause-count
returns-then-is_shift-clause-count g c = λ done v has fresh.
    plain_step c.args.shifts c.args.rules.now.rules done c.args.many c.args.many v c.args.position c.if-shifts.false
    (λ plain. plain_same c.args.rules.now.rules done c.args.many v c.args.position plain
    (subst (λ (x : AbstractGame). IsShiftAt x.rules c.args.position) c.game.ensures.game (c.is_shift.ensures.0 c.if-is_shift.true))) has

pub returns-else-is_shift-clause-count : goal.returns-else-is_shift-clause-count
returns-else-is_shift-clause-count g c = λ done v has fresh.
    plain_step c.args.shifts c.args.rules.now.rules done c.args.many _ v c.args.position c.if-shifts.false
    (λ plain. plain_more c.args.rules.now.rules done c.args.many v c.args.position plain fresh
    (λ is. true_not_false (sym (c.is_shift.ensures.1 (subst (λ (x : AbstractGame). IsShiftAt x.rules c.args.position) (sym c.game.ensures.game) is)) ∙ c.if-is_shift.false))) has
