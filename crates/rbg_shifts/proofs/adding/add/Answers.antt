use Rattle.std.proofs.Common.{◌≡◌, ◌<◌, ◌∙◌, ℕ, List, length, set, bit_or, sym, ap, subst, rules}
use Rattle.rbg_shifts.proofs.Common.{Target, no_target, target_at, AddsTarget}
use Rattle.rbg_shifts.proofs.Places.{any_default}
use Rattle.rbg_shifts.proofs.Targets.{adds_pushed, adds_joined}
use Rattle.rbg_shifts.proofs.adding.add.Goals as goal

pub returns-in_default-clause-adds : goal.returns-in_default-clause-adds
returns-in_default-clause-adds c = rw c.in_ok-push.ensures.items (adds_pushed c.args.start c.args.targets.now.items c.args.target c.requires)

pub returns-clause-adds : goal.returns-clause-adds
returns-clause-adds c =
    let ts : List Target = c.args.targets.now.items in
    let t : Target = c.args.target in
    let k : ℕ = c.in-Some.index in
    let there : k < length ts = search rules in
    let at : c.index.result.now ≡ target_at ts k = c.index.ensures ∙ any_default ts k c.index.result.now no_target there in
    subst (λ (x : Target). AddsTarget c.args.start ts (set ts k (record { position = t.position; column = t.column; word = bit_or x.word t.word })) t) (sym at)
    (adds_joined c.args.start k ts t c.in-Some.ensures.beyond there
    (ap (λ (xs : List Target). (target_at xs k).position) (sym c.deref.ensures.value) ∙ c.in-Some.ensures.position)
    (ap (λ (xs : List Target). (target_at xs k).column) (sym c.deref.ensures.value) ∙ c.in-Some.ensures.column))
