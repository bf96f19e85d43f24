-- A write adds a front part of the rest.
use Rattle.std.proofs.Common.{rules, ◌≡◌, ◌∙◌, [], ◌++◌, refl, sym, ap, subst, append-nil, drop_of_length-le, take}
use Rattle.std.specs.Io.KnownBytes.{Appends}
use Rattle.std.proofs.KnownBytes.{Appends-nil, Appends-trans, Appends-kept}
use Rattle.rbg_console.proofs.OutputLemmas.{front_done, front_kept, moves_front}
use Rattle.rbg_console.proofs.output.write_whole.Goals.{in-Ok, in-Err+else-ne}
use Rattle.rbg_console.proofs.output.write_whole.Goals as goal

pub loop-init : goal.loop-init
loop-init g c = ([], refl, Appends-nil _)

pub returns-then-is_empty-clause-ok : goal.returns-then-is_empty-clause-ok
returns-then-is_empty-clause-ok g c =
    let (done, split, appended) = c.loop.invariant in
    let empty : c.loop.rest.now ≡ [] = drop_of_length-le c.loop.rest.now {i = 0} (search rules) in
    subst (Appends _ _) (sym (split ∙ ap (λ l. done ++ l) empty ∙ append-nil done)) appended

pub returns-in-Ok-eq0-clause-err : goal.returns-in-Ok-eq0-clause-err
returns-in-Ok-eq0-clause-err g c =
    let (done, split, appended) = c.loop.invariant in
    let none = c.in-Ok-eq0.ensures.bytes in
    front_done _ _ _ (done ++ take c.in-Ok-eq0.field-0 c.loop.rest.now) _ (moves_front _ done c.loop.rest.now c.in-Ok-eq0.field-0 split)
    (Appends-trans _ _ _ _ _ appended none)

pub returns-then-ne-clause-err : goal.returns-then-ne-clause-err
returns-then-ne-clause-err g c =
    let (done, split, appended) = c.loop.invariant in
    front_kept _ _ _ _ done c.loop.rest.now split appended c.in-Err.ensures.bytes

pub loop-preserved : goal.loop-preserved
loop-preserved g c =
    let (done, split, appended) = c.loop.invariant in
    elim c.match-write.branch [
      | in-Ok w ↦
          let here : c.match-write.rest.now ≡ _ = ap (λ r. r.now) w.rest-is in
          let n = w.in-Ok.count in
          let moved = moves_front _ done c.loop.rest.now n split in (
            done ++ take n c.loop.rest.now,
            moved ∙ ap (λ l. (done ++ take n c.loop.rest.now) ++ l) (sym here),
            Appends-trans _ _ _ _ _ appended w.in-Ok.ensures.bytes,
          )
      | in-Err+else-ne w ↦
          (done, split ∙ ap (λ r. done ++ r.now) (sym w.rest-is), Appends-kept _ _ _ _ appended w.in-Err.ensures.bytes)
    ]

pub returns-clause-err : goal.returns-clause-err
returns-clause-err g c =
    let (done, split, appended) = c.loop.invariant in
    front_done _ _ _ done c.loop.rest.now split appended
