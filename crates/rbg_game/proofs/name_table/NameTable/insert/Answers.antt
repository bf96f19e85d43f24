use Rattle.std.proofs.Common.{◌≡◌, ◌∙◌, sym, true, false, ℕ, Some, is_some, slice_get, ◌∷◌, [], Contains}
use Rattle.rbg_grammar.specs.Views.{name_of}
use Rattle.rbg_game.proofs.NumberingCommon.{Memory, HasNameFault, no_memory}
use Rattle.rbg_game.proofs.LookUps.{same_name_alone}
use Rattle.rbg_base.proofs.Errors.{passed_on}
use Rattle.rbg_game.proofs.NameLemmas.{none_from_is_some, there_from_is_some}
use Rattle.rbg_game.proofs.name_table.NameTable.insert.Goals as goal

pub push-requires-clause-new : goal.push-requires-clause-new
push-requires-clause-new c =
    let none : is_some c.number_of.result ≡ false = sym c.is_some.ensures ∙ c.if-is_some.false in
    none_from_is_some c.number_of.result (Contains c.args.self.now c.args.name.now.text.now → ⊥) (λ (n : ℕ). slice_get c.args.self.now n ≡ Some c.args.name.now.text.now) none c.number_of.ensures

pub returns-then-is_some-clause-fault : goal.returns-then-is_some-clause-fault
returns-then-is_some-clause-fault c =
    let some : is_some c.number_of.result ≡ true = sym c.is_some.ensures ∙ c.if-is_some.true in
    let there = there_from_is_some c.args.self.now c.args.name.now.text.now c.number_of.result some c.number_of.ensures in
    same_name_alone c.args.self.now (name_of c.args.name.now) there

pub returns-in_err-push-clause-fault : goal.returns-in_err-push-clause-fault
returns-in_err-push-clause-fault c = passed_on c.from_residual.result Memory (HasNameFault c.args.self.now (name_of c.args.name.now ∷ [])) c.from_residual.ensures.1 no_memory
