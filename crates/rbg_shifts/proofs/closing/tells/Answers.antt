use Rattle.std.proofs.Common.{◌≡◌, ◌<◌, ◌∙◌, ℕ, List, length, bit_or, sym, ap, arith, rules}
use Rattle.rbg_shifts.proofs.Common.{Target, no_target, target_at}
use Rattle.rbg_shifts.proofs.Places.{any_default}
use Rattle.rbg_shifts.proofs.Targets.{under_target}
use Rattle.rbg_shifts.proofs.closing.tells.Goals as goal

pub returns-in-Some : goal.returns-in-Some
returns-in-Some c = λ is j u has.
    let ts : List Target = c.args.table.now.targets.items in
    let t : Target = c.args.target in
    let k : ℕ = c.in-Some.index in
    let there : k < length ts = let before = c.in-Some.ensures.before in let within = c.requires.ends in omega (arith, before, within) in
    let at : c.index.result.now ≡ target_at ts k = c.index.ensures ∙ any_default ts k c.index.result.now no_target there in
    let at_too : c.index-in-Some.result.now ≡ target_at ts k = c.index-in-Some.ensures ∙ any_default ts k c.index-in-Some.result.now no_target there in
    let same : bit_or c.index.result.now.word t.word ≡ c.index-in-Some.result.now.word = search rules in
    record {
      at = k;
      beyond = c.in-Some.ensures.beyond;
      before = c.in-Some.ensures.before;
      is = under_target (target_at ts k) t j u
          (ap (λ (xs : List Target). (target_at xs k).position) (sym c.deref.ensures.value) ∙ c.in-Some.ensures.position)
          (ap (λ (xs : List Target). (target_at xs k).column) (sym c.deref.ensures.value) ∙ c.in-Some.ensures.column)
          (ap (λ (x : Target). bit_or x.word t.word) (sym at) ∙ same ∙ ap (λ (x : Target). x.word) at_too) has;
    }
