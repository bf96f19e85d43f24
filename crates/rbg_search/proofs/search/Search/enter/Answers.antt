use Rattle.std.proofs.Common.{◌≡◌, ◌+◌, sym, refl, arith, ◌∙◌, Err, IsOk}
use Rattle.rbg_rules.specs.Meaning.{reach}
use Rattle.rbg_search.specs.declared.over.Over.TheVariants.{Deep, Wide, Memory}
use Rattle.rbg_search.proofs.Countings.{none_counted, reach_pairs}
use Rattle.rbg_search.proofs.Counted.{memory_not_deep, memory_not_wide, wide_not_deep, ok_not_err, counted_only, opened_one, refused_one}
use Rattle.rbg_search.proofs.CountedSteps.{returned_is, not_memory}
use Rattle.rbg_search.proofs.Takings.{takes_none_yet, takes_own, own_part, nothing_met, not_ok, not_held, on_err}
use Rattle.rbg_search.proofs.search.Search.enter.Goals as goal

pub returns-in_err-open-clause-counts : goal.returns-in_err-open-clause-counts
returns-in_err-open-clause-counts g c = λ s f start. record {
  counted = none_counted c.args.self.now.game reach s f c.args.self.now.opened c.open.new.self.opened c.in_err-open.ensures.unopened;
  deep = λ d. absurd (wide_not_deep (sym c.in_err-open.ensures.wide ∙ returned_is c.from_residual.result c.in_err-open.field-0.0 Deep c.from_residual.ensures.1 d));
  wide = λ _. refused_one c.args.self.now.game c.open.ensures.lawful reach reach_pairs s f start c.args.self.now.opened c.args.self.now.openings c.in_err-open.ensures.full;
}

pub returns-in_err-reserve-clause-counts : goal.returns-in_err-reserve-clause-counts
returns-in_err-reserve-clause-counts g c = λ s f start.
    counted_only c.args.self.now.game reach s f c.args.self.now.opened c.open.new.self.opened c.args.self.now.modifiers c.args.self.now.openings c.args.self.now.modifiers _ _
    (opened_one c.args.self.now.game c.open.ensures.lawful reach reach_pairs s f start c.args.self.now.opened c.open.new.self.opened c.in_ok-open.ensures.opened)
    (not_memory c.from_residual-in_err-reserve.result Memory Deep c.from_residual-in_err-reserve.ensures.1 refl memory_not_deep)
    (not_memory c.from_residual-in_err-reserve.result Memory Wide c.from_residual-in_err-reserve.ensures.1 refl memory_not_wide)

pub returns-clause-counts : goal.returns-clause-counts
returns-clause-counts g c = λ s f start.
    counted_only c.args.self.now.game reach s f c.args.self.now.opened c.open.new.self.opened c.args.self.now.modifiers c.args.self.now.openings c.args.self.now.modifiers _ _
    (opened_one c.args.self.now.game c.open.ensures.lawful reach reach_pairs s f start c.args.self.now.opened c.open.new.self.opened c.in_ok-open.ensures.opened)
    (ok_not_err tt Deep) (ok_not_err tt Wide)

pub returns-in_err-open-clause-lost : goal.returns-in_err-open-clause-lost
returns-in_err-open-clause-lost g c = on_err c.from_residual.result _ (λ s f. takes_none_yet c.args.self.now.game reach s f c.args.self.now.opened c.open.new.self.opened c.args.self.now.taken c.open.new.self.taken _ (sym c.in_err-open.ensures.unopened) c.open.ensures.none_taken)

-- One opening was taken up, and nothing was met.
pub returns-in_err-reserve-clause-lost : goal.returns-in_err-reserve-clause-lost
returns-in_err-reserve-clause-lost g c = on_err c.from_residual-in_err-reserve.result _ (λ s f.
    let now = c.args.self.now in
    let r = c.from_residual-in_err-reserve.result in
    let gives = c.from_residual-in_err-reserve.ensures.1 in
    takes_own now.game reach s f now.opened c.open.new.self.opened now.taken c.open.new.self.taken c.open.new.self.taken 0 (IsOk r)
    (takes_none_yet now.game reach s f (now.opened + 1) c.open.new.self.opened now.taken c.open.new.self.taken (IsOk r) (sym c.in_ok-open.ensures.opened) c.open.ensures.none_taken)
    (own_part now.game reach s f 0 (nothing_met now.game s f (IsOk r) (¬ (r ≡ Err Memory)) (not_ok r Memory gives) (not_held r Memory gives refl)))
    (omega arith))
