use Rattle.std.proofs.Common.{[], ◌∷◌, refl, subst, sym, arith}
use Rattle.rbg_grammar.specs.Views.{bounded_of}
use Rattle.rbg_game.proofs.Common.{GameError, Memory, HasHolderFault, by_name, by_bound}
use Rattle.rbg_game.specs.NameTables.{no_memory}
use Rattle.rbg_base.proofs.Errors.{passed_on}
use Rattle.rbg_game.proofs.checking.names.add_holder.Goals as goal

pub returns-in_err-insert-clause-fault : goal.returns-in_err-insert-clause-fault
returns-in_err-insert-clause-fault c =
    passed_on c.from_residual.result c.in_err-insert.field-0.0 (HasHolderFault c.args.table.now (bounded_of c.args.holder.now ∷ [])) c.from_residual.ensures.1
    (by_name c.in_err-insert.ensures.fault)

pub returns-in_err-read_bound-clause-fault : goal.returns-in_err-read_bound-clause-fault
returns-in_err-read_bound-clause-fault c =
    let holder = bounded_of c.args.holder.now in
    let P : GameError → Type 0 = λ e. HasHolderFault c.args.table.now (holder ∷ []) e in
    passed_on c.from_residual-in_err-read_bound.result c.in_err-read_bound.field-0.0 P c.from_residual-in_err-read_bound.ensures.1
    (subst P (sym c.in_err-read_bound.ensures.which)
    (by_bound (record { holder = holder; stands = (0, omega arith, refl); too_great = c.in_err-read_bound.ensures.too_great; place = refl })))

pub returns-in_err-push-clause-fault : goal.returns-in_err-push-clause-fault
returns-in_err-push-clause-fault c =
    passed_on c.from_residual-in_err-push.result Memory (HasHolderFault c.args.table.now (bounded_of c.args.holder.now ∷ [])) c.from_residual-in_err-push.ensures.1 (by_name no_memory)
