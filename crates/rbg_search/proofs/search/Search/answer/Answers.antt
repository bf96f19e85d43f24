use Rattle.std.proofs.Common.{◌≡◌, ◌+◌, ◌≤◌, sym, ◌∙◌, IsTrue, ◌↔◌}
use Rattle.rbg_search.proofs.Common.{most_candidates, Deep, Wide}
use Rattle.rbg_search.proofs.Fewness.{one_opened}
use Rattle.rbg_search.proofs.Takings.{takes_none_yet, takes_own, own_part, met_as}
use Rattle.rbg_rules.specs.Meaning.{inside, beginning, Applies, IsStart, SomeWordRuns, pattern}
use Rattle.rbg_search.proofs.Countings.{none_counted}
use Rattle.rbg_search.proofs.Counted.{wide_not_deep, ok_not_err, counted_only, opened_one, refused_one}
use Rattle.rbg_search.proofs.CountedSteps.{returned_is}
use Rattle.rbg_search.proofs.Kept.{kept_twice, onward_rules, rules_before}
use Rattle.rbg_search.proofs.Patterns.{pattern_inside, inside_start}
use Rattle.rbg_search.proofs.Scanning.{pattern_pairs, scanned_decides, scanned_forced}
use Rattle.rbg_search.proofs.search.Search.answer.Goals as goal

pub returns-in_err-open-clause-counts : goal.returns-in_err-open-clause-counts
returns-in_err-open-clause-counts g c = λ s.
    let start : IsStart c.args.self.now.game.rules (beginning (inside c.args.position)) = inside_start c.args.self.now.game.rules (beginning (inside c.args.position)) (pattern_inside c.args.self.now.game.rules c.args.position c.requires.there) in
    record {
      counted = none_counted c.args.self.now.game pattern s (beginning (inside c.args.position)) c.args.self.now.opened c.open.new.self.opened c.in_err-open.ensures.unopened;
      deep = λ d. absurd (wide_not_deep (sym c.in_err-open.ensures.wide ∙ returned_is c.from_residual.result c.in_err-open.field-0.0 Deep c.from_residual.ensures.1 d));
      wide = λ _. refused_one c.args.self.now.game c.open.ensures.lawful pattern pattern_pairs s (beginning (inside c.args.position)) start c.args.self.now.opened c.args.self.now.openings c.in_err-open.ensures.full;
    }

pub returns-clause-valid : goal.returns-clause-valid
returns-clause-valid g c = λ s scanned.
    let kept : c.count_pairs.new.self ≡ (record c.args.self.now { opened = c.count_pairs.new.self.opened; taken = c.count_pairs.new.self.taken }) =
    kept_twice c.args.self.now c.open.new.self c.count_pairs.new.self c.open.ensures.kept c.count_pairs.ensures.kept in
    let decides : IsTrue c.args.scan.ends ↔ SomeWordRuns c.args.self.now.game s (beginning (inside c.args.position)) =
    scanned_decides c.args.self.now.game c.open.ensures.lawful.numbered s (beginning (inside c.args.position)) c.args.scan.ends scanned in
    rules_before (λ x. IsTrue c.is_valid.result ↔ Applies x c.args.position s s) c.args.self.now c.count_pairs.new.self kept
    (c.is_valid.ensures s (onward_rules (λ x. IsTrue c.args.scan.ends ↔ SomeWordRuns x s (beginning (inside c.args.position))) c.args.self.now c.count_pairs.new.self kept decides))

pub returns-clause-counts : goal.returns-clause-counts
returns-clause-counts g c = λ s.
    let start : IsStart c.args.self.now.game.rules (beginning (inside c.args.position)) = inside_start c.args.self.now.game.rules (beginning (inside c.args.position)) (pattern_inside c.args.self.now.game.rules c.args.position c.requires.there) in
    let opened : c.count_pairs.new.self.opened ≡ c.args.self.now.opened + 1 = c.count_pairs.ensures.opened ∙ c.in_ok-open.ensures.opened in
    counted_only c.args.self.now.game pattern s (beginning (inside c.args.position)) c.args.self.now.opened c.count_pairs.new.self.opened c.args.self.now.modifiers c.args.self.now.openings c.args.self.now.modifiers _ _
    (opened_one c.args.self.now.game c.open.ensures.lawful pattern pattern_pairs s (beginning (inside c.args.position)) start c.args.self.now.opened c.count_pairs.new.self.opened opened)
    (ok_not_err c.is_valid.result Deep) (ok_not_err c.is_valid.result Wide)

pub returns-clause-forced : goal.returns-clause-forced
returns-clause-forced g c = λ s cut scanned.
    let opened : c.count_pairs.new.self.opened ≡ c.args.self.now.opened + 1 = c.count_pairs.ensures.opened ∙ c.in_ok-open.ensures.opened in
    scanned_forced c.args.self.now.game c.open.ensures.lawful.numbered s (beginning (inside c.args.position)) cut c.args.scan.ends c.args.self.now.opened c.count_pairs.new.self.opened c.args.self.now.modifiers c.args.self.now.modifiers scanned opened

pub count_pairs-requires-clause-few : goal.count_pairs-requires-clause-few
count_pairs-requires-clause-few g c = onward_rules (λ x. c.args.scan.pairs ≤ most_candidates x) c.args.self.now c.open.new.self c.open.ensures.kept c.requires.few

pub count_pairs-requires-clause-one : goal.count_pairs-requires-clause-one
count_pairs-requires-clause-one g c = one_opened c.args.self.now c.open.new.self c.open.ensures.kept c.open.ensures.none_taken c.open.ensures.spent c.in_ok-open.ensures.opened

pub returns-in_err-open-clause-taken : goal.returns-in_err-open-clause-taken
returns-in_err-open-clause-taken g c = λ s has.
    takes_none_yet c.args.self.now.game pattern s (beginning (inside c.args.position)) c.args.self.now.opened c.open.new.self.opened c.args.self.now.taken c.open.new.self.taken _ (sym c.in_err-open.ensures.unopened) c.open.ensures.none_taken

pub returns-clause-taken : goal.returns-clause-taken
returns-clause-taken g c = λ s has.
    let now = c.args.self.now in
    let f = beginning (inside c.args.position) in
    let opened : c.count_pairs.new.self.opened ≡ now.opened + 1 = c.count_pairs.ensures.opened ∙ c.in_ok-open.ensures.opened in
    takes_own now.game pattern s f now.opened c.count_pairs.new.self.opened now.taken c.open.new.self.taken c.count_pairs.new.self.taken c.args.scan.pairs _
    (takes_none_yet now.game pattern s f (now.opened + 1) c.count_pairs.new.self.opened now.taken c.open.new.self.taken _ (sym opened) c.open.ensures.none_taken)
    (own_part now.game pattern s f c.args.scan.pairs (met_as now.game s f c.args.scan.pairs (λ _. tt) (λ _. tt) has)) c.count_pairs.ensures.taken
