use Rattle.rbg_base.proofs.Common.{◌≡◌, List, ℕ, [], ◌++◌, map, length, sym, ap, ◌∙◌, subst, refl, arith, length-map, map-append}
use Rattle.rbg_grammar.proofs.Common.{description_of_parts, name_of, bounded_of, SpeltBounded, SpeltName, SpeltDescription}
use Rattle.rbg_grammar.specs.declared.names.Name.{Name}
use Rattle.rbg_grammar.specs.declared.description.Bounded.{Bounded}
use Rattle.rbg_game.proofs.Common.{TooMany, Players, Pieces, Variables, holder_names, holders_of, HasHolderFault, AddsBounds, HasFault, many_players, many_pieces, many_variables}
use Rattle.rbg_game.proofs.NumberingCommon.{texts_of, HasNameFault}
use Rattle.rbg_base.proofs.Errors.{passed_on}
use Rattle.rbg_game.proofs.NameFaults.{AddsBounds-append, players_fault, variables_fault, pieces_fault}
use Rattle.rbg_game.proofs.checking.names.number_things.Goals as goal

-- What holds of what a call was given holds of what that is.
given_as : {A B : Type 0} (R : A → B → Type 0) (a b : A) (x y : B) → a ≡ b → x ≡ y → R a x → R b y
given_as R a b x y first second h = subst (λ z. R z y) first (subst (R a) second h)

-- A table that was empty has the names of what it was given.
filled : {X : Type 0} (names : List X → List (List ℕ)) (table new : List (List ℕ)) (given things : List X) → table ≡ [] → given ≡ things → new ≡ table ++ names given → new ≡ names things
filled names table new given things begins same more = more ∙ ap (λ l. l ++ names given) begins ∙ ap names same

all_holders : (d : SpeltDescription) (table new : List (List ℕ)) → table ≡ holder_names d.players → (given : List (List ℕ)) → given ≡ holder_names d.variables → new ≡ table ++ given → new ≡ holder_names (holders_of d)
all_holders d table new begins given same more =
    more ∙ ap (λ l. l ++ given) begins ∙ ap (λ l. holder_names d.players ++ l) same ∙ sym (map-append (λ (h : SpeltBounded). h.name.text) d.players d.variables)

pub returns-in_err-add_holders-clause-fault : goal.returns-in_err-add_holders-clause-fault
returns-in_err-add_holders-clause-fault c =
    let d = description_of_parts c.args.description.now in
    let error = c.in_err-add_holders.field-0.0 in
    let fault = given_as (λ earlier holders. HasHolderFault earlier holders error) _ _ _ _ c.new-variables.ensures (ap (map bounded_of) c.deref.ensures.value) c.in_err-add_holders.ensures.fault in
    passed_on c.from_residual.result error (HasFault d) c.from_residual.ensures.1 (players_fault d error fault)

pub returns-in_err-add_holders-2-clause-fault : goal.returns-in_err-add_holders-2-clause-fault
returns-in_err-add_holders-2-clause-fault c =
    let d = description_of_parts c.args.description.now in
    let error = c.in_err-add_holders-2.field-0.0 in
    let players : c.add_holders.new.table ≡ holder_names d.players = filled (λ (l : List Bounded). holder_names (map bounded_of l)) _ _ _ _ c.new-variables.ensures c.deref.ensures.value c.in_ok-add_holders.ensures.names in
    let fault = given_as (λ earlier holders. HasHolderFault earlier holders error) _ _ _ _ players (ap (map bounded_of) c.deref-2.ensures.value) c.in_err-add_holders-2.ensures.fault in
    passed_on c.from_residual-in_err-add_holders-2.result error (HasFault d) c.from_residual-in_err-add_holders-2.ensures.1 (variables_fault d error fault)

pub returns-in_err-add_names-clause-fault : goal.returns-in_err-add_names-clause-fault
returns-in_err-add_names-clause-fault c =
    let d = description_of_parts c.args.description.now in
    let error = c.in_err-add_names.field-0.0 in
    let fault = given_as (λ earlier names. HasNameFault earlier names error) _ _ _ _ c.new-pieces.ensures (ap (map name_of) c.deref-3.ensures.value) c.in_err-add_names.ensures.fault in
    passed_on c.from_residual-in_err-add_names.result error (HasFault d) c.from_residual-in_err-add_names.ensures.1 (pieces_fault d error fault)

pub returns-in_err-add_players-clause-fault : goal.returns-in_err-add_players-clause-fault
returns-in_err-add_players-clause-fault c =
    let d = description_of_parts c.args.description.now in
    let error = c.in_err-add_players.field-0.0 in
    let fault = given_as (λ earlier holders. HasHolderFault earlier holders error) _ _ _ _ c.new-players.ensures (ap (map bounded_of) c.deref-4.ensures.value) c.in_err-add_players.ensures.fault in
    passed_on c.from_residual-in_err-add_players.result error (HasFault d) c.from_residual-in_err-add_players.ensures.1 (players_fault d error fault)

pub returns-in_err-refuse_many-clause-fault : goal.returns-in_err-refuse_many-clause-fault
returns-in_err-refuse_many-clause-fault c =
    let d = description_of_parts c.args.description.now in
    let are : c.add_players.new.table ≡ holder_names d.players = filled (λ (l : List Bounded). holder_names (map bounded_of l)) _ _ _ _ c.new-players.ensures c.deref-4.ensures.value c.in_ok-add_players.ensures.names in
    let fault : HasFault d (TooMany Players) = many_players (omega (arith, ap length are, length-map d.players (λ (h : SpeltBounded). h.name.text), c.in_err-refuse_many.ensures.many, c.len.ensures.count)) in
    passed_on c.from_residual-in_err-refuse_many.result _ (HasFault d) c.from_residual-in_err-refuse_many.ensures.1 (subst (HasFault d) (sym c.in_err-refuse_many.ensures.error) fault)

pub returns-in_err-refuse_many-2-clause-fault : goal.returns-in_err-refuse_many-2-clause-fault
returns-in_err-refuse_many-2-clause-fault c =
    let d = description_of_parts c.args.description.now in
    let are : c.add_names.new.table ≡ texts_of d.pieces = filled (λ (l : List Name). texts_of (map name_of l)) _ _ _ _ c.new-pieces.ensures c.deref-3.ensures.value c.in_ok-add_names.ensures.names in
    let fault : HasFault d (TooMany Pieces) = many_pieces (omega (arith, ap length are, length-map d.pieces (λ (n : SpeltName). n.text), c.in_err-refuse_many-2.ensures.many, c.len-2.ensures.count)) in
    passed_on c.from_residual-in_err-refuse_many-2.result _ (HasFault d) c.from_residual-in_err-refuse_many-2.ensures.1 (subst (HasFault d) (sym c.in_err-refuse_many-2.ensures.error) fault)

pub returns-in_err-refuse_many-3-clause-fault : goal.returns-in_err-refuse_many-3-clause-fault
returns-in_err-refuse_many-3-clause-fault c =
    let d = description_of_parts c.args.description.now in
    let players : c.add_holders.new.table ≡ holder_names d.players = filled (λ (l : List Bounded). holder_names (map bounded_of l)) _ _ _ _ c.new-variables.ensures c.deref.ensures.value c.in_ok-add_holders.ensures.names in
    let are = all_holders d c.add_holders.new.table c.add_holders-2.new.table players (holder_names (map bounded_of c.deref-2.result.now))
    (ap (λ (l : List Bounded). holder_names (map bounded_of l)) c.deref-2.ensures.value) c.in_ok-add_holders-2.ensures.names in
    let fault : HasFault d (TooMany Variables) = many_variables (omega (arith, ap length are, length-map (holders_of d) (λ (h : SpeltBounded). h.name.text), c.in_err-refuse_many-3.ensures.many, c.len-3.ensures.count)) in
    passed_on c.from_residual-in_err-refuse_many-3.result _ (HasFault d) c.from_residual-in_err-refuse_many-3.ensures.1 (subst (HasFault d) (sym c.in_err-refuse_many-3.ensures.error) fault)

pub returns-clause-things : goal.returns-clause-things
returns-clause-things c =
    let d = description_of_parts c.args.description.now in
    let players : c.add_holders.new.table ≡ holder_names d.players = filled (λ (l : List Bounded). holder_names (map bounded_of l)) _ _ _ _ c.new-variables.ensures c.deref.ensures.value c.in_ok-add_holders.ensures.names in
    let all = all_holders d c.add_holders.new.table c.add_holders-2.new.table players (holder_names (map bounded_of c.deref-2.result.now))
    (ap (λ (l : List Bounded). holder_names (map bounded_of l)) c.deref-2.ensures.value) c.in_ok-add_holders-2.ensures.names in
    let B : List SpeltBounded → List ℕ → List ℕ → Type 0 = λ l old new. AddsBounds l old new in
    let first : AddsBounds d.players [] c.add_holders.new.bounds.items =
    given_as (λ holders old. AddsBounds holders old c.add_holders.new.bounds.items) _ _ _ _ (ap (map bounded_of) c.deref.ensures.value) c.new-bounds.ensures.items c.in_ok-add_holders.ensures.bounds in
    let second : AddsBounds d.variables c.add_holders.new.bounds.items c.add_holders-2.new.bounds.items =
    given_as (λ holders old. AddsBounds holders old c.add_holders-2.new.bounds.items) _ _ _ _ (ap (map bounded_of) c.deref-2.ensures.value) refl c.in_ok-add_holders-2.ensures.bounds in
    record {
      players = filled (λ (l : List Bounded). holder_names (map bounded_of l)) _ _ _ _ c.new-players.ensures c.deref-4.ensures.value c.in_ok-add_players.ensures.names;
      variables = all;
      pieces = filled (λ (l : List Name). texts_of (map name_of l)) _ _ _ _ c.new-pieces.ensures c.deref-3.ensures.value c.in_ok-add_names.ensures.names;
      bounds = AddsBounds-append d.players d.variables [] c.add_holders.new.bounds.items c.add_holders-2.new.bounds.items first second;
      lawful_variables = c.len-3.ensures.lawful;
      lawful_pieces = c.len-2.ensures.lawful;
      player_limit = omega (arith, c.in_ok-refuse_many.ensures.few, c.len.ensures.count);
      piece_limit = omega (arith, c.in_ok-refuse_many-2.ensures.few, c.len-2.ensures.count);
      variable_limit = omega (arith, c.in_ok-refuse_many-3.ensures.few, c.len-3.ensures.count);
    }
