-- Lemmas on the tables of descriptions.
use Rattle.rbg_base.proofs.Common.{◌≡◌, ℕ, ◌+◌, ◌<◌, List, [], ◌∷◌, ◌++◌, All, length, take, drop, get_or, ap, sym, ◌∙◌, refl, subst, All-nil, All-push}
use Rattle.std.specs.Global.{Vec}
use Rattle.std.proofs.lemmas.List.{length-append, map-append, take-append-drop, take_more, drop_more}
use Rattle.rbg_hall.specs.declared.table.Table.{Table}
use Rattle.rbg_hall.proofs.Common.{AbstractTable, AreLoaded, start_of, starts_of}
use Rattle.rbg_game.specs.Loading.{Loads}
use Rattle.rbg_match.specs.declared.config.Config.{Config}
use Rattle.rbg_referee.specs.declared.input_error.RefereeingError.{RefereeingError}
use Rattle.rbg_referee.specs.declared.input_error.RefereeingError.TheVariants.{Load, Script, Memory}
use Rattle.rbg_hosting.specs.Tables.{texts_of, IsGames, IsTableOf, AreTablesOf}
use Rattle.rbg_hosting.specs.Tables.AreTablesOf.{no_table, one_more}
use Rattle.rbg_hosting.specs.internal.Loading.{IsNotTable, IsNotLoaded}

-- the descriptions of tables are games'
pub games_in : (config : Config) (descriptions : List (List ℕ)) (tables : List AbstractTable) → AreTablesOf config descriptions tables → All IsGames descriptions
games_in config _ _ no_table = All-nil IsGames
games_in config _ _ (one_more descriptions tables description table are is) =
    All-push IsGames descriptions description (games_in config descriptions tables are) (record { game = table.game; loads = is.loads })

-- there are as many tables as descriptions
pub as_many : (config : Config) (descriptions : List (List ℕ)) (tables : List AbstractTable) → AreTablesOf config descriptions tables → length tables ≡ length descriptions
as_many config _ _ no_table = refl
as_many config _ _ (one_more descriptions tables description table are is) =
    length-append tables (table ∷ []) ∙ (ap (λ n. n + 1) (as_many config descriptions tables are) ∙ sym (length-append descriptions (description ∷ [])))

-- each of the tables has the config
pub config_in : (config : Config) (descriptions : List (List ℕ)) (tables : List AbstractTable) → AreTablesOf config descriptions tables → All (λ (table : AbstractTable). table.config ≡ config) tables
config_in config _ _ no_table = All-nil (λ (table : AbstractTable). table.config ≡ config)
config_in config _ _ (one_more descriptions tables description table are is) =
    All-push (λ (table : AbstractTable). table.config ≡ config) tables table (config_in config descriptions tables are) is.has

-- the texts of one more description
texts_more : (descriptions : List (Vec ℕ)) (k : ℕ) (description : Vec ℕ) → k < length descriptions → description ≡ get_or descriptions k description → texts_of (take (k + 1) descriptions) ≡ texts_of (take k descriptions) ++ description.items ∷ []
texts_more descriptions k description below is =
    ap texts_of (take_more descriptions k description below ∙ ap (λ d. take k descriptions ++ d ∷ []) (sym is))
    ∙ map-append (λ (d : Vec ℕ). d.items) (take k descriptions) (description ∷ [])

-- one more table is made
pub one_more_table : (config : Config) (descriptions : List (Vec ℕ)) (k : ℕ) (description : Vec ℕ) (old new : List Table) (table : Table) → k < length descriptions → description ≡ get_or descriptions k description → AreTablesOf config (texts_of (take k descriptions)) (starts_of old) → IsTableOf config description.items (start_of table) → new ≡ old ++ table ∷ [] → AreTablesOf config (texts_of (take (k + 1) descriptions)) (starts_of new)
one_more_table config descriptions k description old new table below is are one adds =
    let more = one_more (texts_of (take k descriptions)) (starts_of old) description.items (start_of table) are one in
    let starts : starts_of old ++ start_of table ∷ [] ≡ starts_of new = sym (ap starts_of adds ∙ map-append start_of old (table ∷ [])) in
    subst (λ s. AreTablesOf config (texts_of (take (k + 1) descriptions)) s) starts
    (subst (λ t. AreTablesOf config t (starts_of old ++ start_of table ∷ [])) (sym (texts_more descriptions k description below is)) more)

-- no table
pub no_tables : (config : Config) (tables : List Table) → tables ≡ [] → AreTablesOf config [] (starts_of tables) × AreLoaded tables
no_tables config tables none =
    (subst (λ t. AreTablesOf config [] (starts_of t)) (sym none) no_table, subst AreLoaded (sym none) (All-nil (λ (table : Table). Loads table.text.items table.game)))

-- the text of one more table is that of its game
pub one_more_loaded : (config : Config) (description : List ℕ) (old new : List Table) (table : Table) → AreLoaded old → IsTableOf config description (start_of table) → new ≡ old ++ table ∷ [] → AreLoaded new
one_more_loaded config description old new table are one adds =
    subst AreLoaded (sym adds) (All-push (λ (table : Table). Loads table.text.items table.game) old table are (subst (λ text. Loads text table.game) (sym one.text) one.loads))

-- the descriptions before one, this one, and those after it
parts_at : (descriptions : List (Vec ℕ)) (k : ℕ) (description : Vec ℕ) → k < length descriptions → description ≡ get_or descriptions k description → texts_of descriptions ≡ texts_of (take k descriptions) ++ description.items ∷ texts_of (drop (k + 1) descriptions)
parts_at descriptions k description below is =
    ap texts_of (sym (take-append-drop k descriptions) ∙ ap (λ l. take k descriptions ++ l) (drop_more descriptions k description below ∙ ap (λ d. d ∷ drop (k + 1) descriptions) (sym is)))
    ∙ map-append (λ (d : Vec ℕ). d.items) (take k descriptions) (description ∷ drop (k + 1) descriptions)

-- a description has no table
pub not_loaded : (config : Config) (descriptions : List (Vec ℕ)) (k : ℕ) (description : Vec ℕ) (tables : List AbstractTable) → k < length descriptions → description ≡ get_or descriptions k description → AreTablesOf config (texts_of (take k descriptions)) tables → (error : RefereeingError) → IsNotTable description.items error → IsNotLoaded (texts_of descriptions) error
not_loaded config descriptions k description tables below is are (Load error) why = record {
  earlier = texts_of (take k descriptions);
  description = description.items;
  later = texts_of (drop (k + 1) descriptions);
  parts = parts_at descriptions k description below is;
  games = games_in config (texts_of (take k descriptions)) tables are;
  refused = why.0;
  known = why.1;
}
not_loaded config descriptions k description tables below is are (Script number) why = why
not_loaded config descriptions k description tables below is are Memory why = why
