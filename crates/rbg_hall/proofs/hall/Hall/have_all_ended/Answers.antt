use Rattle.std.proofs.Common.{ap, subst, ◌∙◌, ◌↔◌, IsTrue, List}
use Rattle.rbg_hall.specs.Tables.{TableState}
use Rattle.rbg_hall.proofs.Common.{HeldHall, HaveAllEnded, states_of}
use Rattle.rbg_hall.proofs.hall.Hall.have_all_ended.Goals as goal

pub returns : goal.returns
returns g c =
    subst (λ (tables : List TableState). IsTrue c.have_all_ended.result ↔ HaveAllEnded tables) (ap states_of c.deref.ensures.value ∙ ap (λ (hall : HeldHall _). hall.state.tables) c.self.view_is) c.have_all_ended.ensures
