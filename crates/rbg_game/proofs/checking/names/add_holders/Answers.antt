use Rattle.rbg_base.proofs.Common.{◌≡◌, ◌+◌, List, ◌++◌, ◌∷◌, [], ℕ, map, take, ap, sym, ◌∙◌, subst, append_assoc, map_more, map-append}
use Rattle.rbg_grammar.proofs.Common.{bounded_of, SpeltBounded}
use Rattle.rbg_game.proofs.Common.{holder_names, HasHolderFault, AddsBounds}
use Rattle.rbg_base.proofs.Errors.{passed_on}
use Rattle.rbg_game.proofs.NameFaults.{holder_fault_in_loop, AddsBounds-append}
use Rattle.rbg_game.proofs.checking.names.add_holders.Goals as goal

pub returns-in_err-add_holder-clause-fault : goal.returns-in_err-add_holder-clause-fault
returns-in_err-add_holder-clause-fault c =
    passed_on c.from_residual.result c.in_err-add_holder.field-0.0 (HasHolderFault c.args.table.now (map bounded_of c.args.holders.now)) c.from_residual.ensures.1
    (holder_fault_in_loop c.args.table.now c.loop-holder.table c.args.holders.now c.loop-holder.holder-index c.holder-item.result c.in_err-add_holder.field-0.0 c.loop-holder-test.true c.holder-item.is c.loop-holder.invariant.0 c.in_err-add_holder.ensures.fault)

pub loop-holder-preserved : goal.loop-holder-preserved
loop-holder-preserved c =
    let holders = c.args.holders.now in
    let i = c.loop-holder.holder-index in
    let holder = c.holder-item.result in
    let old = map bounded_of (take i holders) in
    let more : map bounded_of (take (i + 1) holders) ≡ old ++ bounded_of holder ∷ [] =
    map_more bounded_of holders i holder c.loop-holder-test.true ∙ ap (λ h. old ++ bounded_of h ∷ []) (sym c.holder-item.is) in
    let Q : List SpeltBounded → Type 0 = λ l. (c.add_holder.new.table ≡ c.args.table.now ++ holder_names l) × AddsBounds l c.args.bounds.now.items c.add_holder.new.bounds.items in
    subst Q (sym more) (
      c.in_ok-add_holder.ensures.name ∙ ap (λ (l : List (List ℕ)). l ++ holder.name.text.now ∷ []) c.loop-holder.invariant.0
          ∙ append_assoc c.args.table.now (holder_names old) (holder.name.text.now ∷ [])
          ∙ ap (λ (l : List (List ℕ)). c.args.table.now ++ l) (sym (map-append (λ (h : SpeltBounded). h.name.text) old (bounded_of holder ∷ []))),
      AddsBounds-append old (bounded_of holder ∷ []) c.args.bounds.now.items c.loop-holder.bounds.items c.add_holder.new.bounds.items c.loop-holder.invariant.1 c.in_ok-add_holder.ensures.bound,
    )
