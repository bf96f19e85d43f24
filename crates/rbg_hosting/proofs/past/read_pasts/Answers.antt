-- One more log is read.
use Rattle.std.proofs.Common.{ℕ, ◌+◌, ◌∙◌, List, Option, ap, length, refl, string_bytes, subst, sym}
use Rattle.std.proofs.lemmas.List.{length_push}
use Rattle.rbg_hosting.specs.Pasts.{AreLogs, log_name}
use Rattle.rbg_hosting.specs.Pasts.AreLogs.{no_log}
use Rattle.rbg_hosting.specs.internal.Resuming.{pasts_in}
use Rattle.rbg_hosting.proofs.PastLemmas.{one_more_log, same_log}
use Rattle.rbg_hosting.proofs.past.read_pasts.Goals as goal

pub loop-index-preserved : goal.loop-index-preserved
loop-index-preserved g c =
    let known : ℕ → Option (List ℕ) = λ number. g.F.Files.told c.args.files.now (log_name c.args.name.now number) in
    record {
      as_many = ap length c.in_ok-push.ensures.items ∙ length_push c.loop-index.pasts.items _ ∙ ap (λ n. n + 1) c.loop-index.invariant.as_many;
      logs = subst (λ items. AreLogs known (pasts_in items)) (sym c.in_ok-push.ensures.items)
          (one_more_log known c.loop-index.pasts.items c.in_ok-past.past (c.loop-index.index + 1) c.loop-index.invariant.logs (ap (λ n. n + 1) (sym c.loop-index.invariant.as_many))
          (same_log (g.F.Files.told c.args.files.now) (g.F.Files.told c.loop-index.files) (log_name c.args.name.now (c.loop-index.index + 1)) (string_bytes c.in_ok-log.log) c.in_ok-past.past
          (c.loop-index.invariant.kept (log_name c.args.name.now (c.loop-index.index + 1))) c.in_ok-log.ensures c.in_ok-past.ensures.log));
      kept = λ name. c.take_past.ensures.kept name ∙ c.loop-index.invariant.kept name;
    }

pub loop-index-init : goal.loop-index-init
loop-index-init g c = record {
  as_many = ap length c.in_ok-pasts.ensures.items;
  logs = subst (λ items. AreLogs (λ number. g.F.Files.told c.args.files.now (log_name c.args.name.now number)) (pasts_in items)) (sym c.in_ok-pasts.ensures.items) no_log;
  kept = λ name. refl;
}
