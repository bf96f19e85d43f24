-- Faults of names that are looked up in a table or added to it.
use Rattle.rbg_base.proofs.Common.{◌≡◌, ℕ, zero, suc, List, [], ◌∷◌, ◌++◌, Some, take, append-nil, refl, sym, ap, ◌∙◌, subst, arith, slice_get, Contains, slice_get_within}
use Rattle.rbg_grammar.specs.Tree.{SpeltName}
use Rattle.rbg_game.proofs.NumberingCommon.{GameError, UnknownName, SameName, texts_of}
use Rattle.rbg_game.specs.NameTables.{HasLookUpFault, not_there, no_memory as look_up_memory, OccursAfter, HasNameFault, same_name, no_memory}
use Rattle.rbg_game.proofs.Lists.{Contains-one}

-- Names that are looked up.

pub unknown_alone : (known : List (List ℕ)) (name : SpeltName) → ¬ Contains known name.text → HasLookUpFault known (name ∷ []) (UnknownName name.at)
unknown_alone known name unknown = not_there (record { name = name; stands = (0, omega arith, refl); unknown = unknown; place = refl })

-- a part of the names is looked up
pub look_up_within : (known : List (List ℕ)) (part whole : List SpeltName) (error : GameError) → ((name : SpeltName) → Contains part name → Contains whole name) → HasLookUpFault known part error → HasLookUpFault known whole error
look_up_within known part whole _ within (not_there h) = not_there (record { name = h.name; stands = within h.name h.stands; unknown = h.unknown; place = h.place })
look_up_within known part whole _ within look_up_memory = look_up_memory

pub look_up_one : (known : List (List ℕ)) (name : SpeltName) (names : List SpeltName) (error : GameError) → Contains names name → HasLookUpFault known (name ∷ []) error → HasLookUpFault known names error
look_up_one known name names error stands = look_up_within known (name ∷ []) names error (λ other one. subst (Contains names) (Contains-one name other one) stands)

pub same_name_alone : (table : List (List ℕ)) (name : SpeltName) → Contains table name.text → HasNameFault table (name ∷ []) (SameName name.at)
same_name_alone table name had = same_name (record { k = 0; name = name; stands = refl; again = subst (λ l. Contains l name.text) (sym (append-nil table)) had; place = refl })

-- a name that is added alone and occurs again is in the table
pub again_alone : (table : List (List ℕ)) (name : SpeltName) (at : ℕ) → OccursAfter table (name ∷ []) at → Contains table name.text × (name.at ≡ at)
again_alone table name at h = at_place h.k h.name h.stands h.again h.place
  where
    at_place : (k : ℕ) (n : SpeltName) → slice_get (name ∷ []) k ≡ Some n → Contains (table ++ texts_of (take k (name ∷ []))) n.text → n.at ≡ at → Contains table name.text × (name.at ≡ at)
    at_place zero n there again place =
        let same : name ≡ n = cc in
        (subst (λ l. Contains l name.text) (append-nil table) (subst (λ (m : SpeltName). Contains (table ++ []) m.text) (sym same) again), ap (λ (m : SpeltName). m.at) same ∙ place)
    at_place (suc k) n there again place = absurd (let within = slice_get_within (name ∷ []) (suc k) n there in omega arith)

-- A fault of the name at a place, after the earlier texts and the names before it, is one of the list.
pub name_fault_at : (earlier table : List (List ℕ)) (names : List SpeltName) (k : ℕ) (name : SpeltName) (error : GameError) → slice_get names k ≡ Some name → table ≡ earlier ++ texts_of (take k names) → HasNameFault table (name ∷ []) error → HasNameFault earlier names error
name_fault_at earlier table names k name _ there before (same_name {at = at} h) =
    let had = again_alone table name at h in
    same_name (record { k = k; name = name; stands = there; again = subst (λ l. Contains l name.text) before had.0; place = had.1 })
name_fault_at earlier table names k name _ there before no_memory = no_memory
