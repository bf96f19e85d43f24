use Rattle.std.proofs.Common.{◌<◌, ◌-◌, ap, get_or, length, sym, subst, take, refl, ◌∙◌, arith, append-nil, [], min}
use Rattle.rbg_serving.proofs.Common.{Took, Fail, TakesNext, takes_all, takes_some, fails_to_take}
use Rattle.rbg_serving.proofs.MemoryLemmas.{only_takes}
use Rattle.rbg_serving.proofs.memory_line.calls.MemoryLineLine.put.Goals as goal
use Rattle.rbg_serving.proofs.memory_line.calls.MemoryLineLine.put.Goals.{in-None, in-Some-UpTo}

pub returns-in-Some-Fail-clause-takes : goal.returns-in-Some-Fail-clause-takes
returns-in-Some-Fail-clause-takes c =
    let found = c.in-Some-Fail.ensures.lookup.3 in
    let list = c.as_slice.ensures.value in
    let line = c.args.self.now in
    only_takes []
    (fails_to_take (subst (λ items. line.puts < length items) list found.0)
    (sym (found.1 Fail ∙ ap (λ items. get_or items line.puts Fail) list) ∙ c.in-Some-Fail.field-0-is))
    (sym (append-nil line.taken.items)) refl refl refl refl refl

pub returns-clause-takes : goal.returns-clause-takes
returns-clause-takes c =
    let line = c.args.self.now in
    let bytes = c.args.bytes.now in
    let list = c.as_slice.ensures.value in
    elim c.match-get.branch [
      | in-None w ↦
          let none = w.in-None.ensures.lookup.3 in
          only_takes (take c.min-count.result bytes)
          (subst (TakesNext line.takes.items (line.room - length line.taken.items) bytes line.puts (Took c.min-count.result) (take c.min-count.result bytes))
          (sym (ap (λ self. self.1.1.1.1.1.0) w.self-is))
          (takes_all (omega (arith, none, ap length list))
          (c.min-count.ensures ∙ ap (min (length bytes)) (w.most-is ∙ ap (λ n. line.room - n) (c.len.ensures ∙ line.taken.ok.0)))))
          c.in-Ok.ensures.items refl refl refl (ap (λ self. self.1.1.1.1.0) w.self-is) refl
      | in-Some-UpTo w ↦
          let found = w.in-Some-UpTo.ensures.lookup.3 in
          only_takes (take c.min-count.result bytes)
          (subst (TakesNext line.takes.items (line.room - length line.taken.items) bytes line.puts (Took c.min-count.result) (take c.min-count.result bytes))
          (sym (ap (λ self. self.1.1.1.1.1.0) w.self-is))
          (takes_some (subst (λ items. line.puts < length items) list found.0) w.in-Some-UpTo.most
          (sym (found.1 Fail ∙ ap (λ items. get_or items line.puts Fail) list) ∙ w.in-Some-UpTo.field-0-is)
          (c.min-count.ensures ∙ ap (min (length bytes)) (w.most-is ∙ w.min-most.ensures ∙ ap (λ n. min (line.room - n) w.in-Some-UpTo.most) (c.len.ensures ∙ line.taken.ok.0)))))
          c.in-Ok.ensures.items refl refl refl (ap (λ self. self.1.1.1.1.0) w.self-is) refl
    ]
