use Rattle.rbg_base.proofs.Common.{◌≡◌, ◌∙◌, ◌++◌, ◌∷◌, [], ap, ℕ, List, Vec, length, arith, Global, length-map}
use Rattle.rbg_game.specs.NameTables.{bytes_of}
use Rattle.rbg_game.proofs.NameLemmas.{AreLawfulNames-push, GivesPlaces-push, bytes_of-push}
use Rattle.rbg_game.proofs.name_table.NameTable.push.Goals as goal

pub invariant_of-self-2 : goal.invariant_of-self-2
invariant_of-self-2 c =
    let names = c.self.inside.names.items in
    let absent = rw (← c.self.view_is) at c.requires.new in
    let listed : c.push_reserved.new.self.items ≡ names ++ c.in_ok-name.name ∷ [] = c.push_reserved.ensures.items ∙ ap (λ (l : List (Vec ℕ Global)). l ++ c.in_ok-name.name ∷ []) c.reserve.ensures.items in
    let grown : bytes_of c.push_reserved.new.self.items ≡ bytes_of names ++ c.args.text.now ∷ [] = ap bytes_of listed ∙ bytes_of-push names c.in_ok-name.name c.args.text.now c.in_ok-name.ensures.items in
    let last : c.len.result ≡ length (bytes_of names) = omega (arith, c.len.ensures, c.reserve.ensures.len, c.self.inside.names.ok.0, length-map names (λ (n : Vec ℕ Global). n.items)) in
    rw grown (record {
      lawful = AreLawfulNames-push (bytes_of names) c.args.text.now c.self.invariant.lawful c.requires.name absent;
      places = GivesPlaces-push (bytes_of names) c.args.text.now c.self.inside.numbers c.insert.new.self c.in_ok-key.key c.len.result c.in_ok-key.ensures.items last c.in_ok-insert.ensures.updates c.self.invariant.places;
    })
