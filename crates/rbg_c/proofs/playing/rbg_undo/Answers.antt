-- The move is undone, or there is none.
use Rattle.std.proofs.Common.{◌≡◌, List, [], refl, subst}
use Rattle.std.proofs.lemmas.Bool.{false≢true}
use Rattle.rbg_rules.specs.Meaning.{AbstractPlace}
use Rattle.rbg_c.specs.States.{AbstractState, Undoes}
use Rattle.rbg_c.specs.Calls.{done, failed}
use Rattle.rbg_c.proofs.Kept.{kept_there}
use Rattle.rbg_c.proofs.playing.rbg_undo.Goals as goal

pub returns-then-undo : goal.returns-then-undo
returns-then-undo c =
    done c.in-Some.ensures.taken c.put.ensures refl
    (subst (λ (s : AbstractState). Undoes s c.undo.new.self) c.deref_mut.ensures.value (c.if-undo.ensures.undone refl))

pub returns : goal.returns
returns c =
    failed c.in-Some.ensures.taken (kept_there _ _ _ _ c.put-2.ensures (c.if-undo.ensures.kept false≢true) c.deref_mut.ensures.value)
    (subst (λ (s : AbstractState). ◌≡◌ {A = List AbstractPlace} s.before []) c.deref_mut.ensures.value (c.if-undo.ensures.none false≢true), refl)
